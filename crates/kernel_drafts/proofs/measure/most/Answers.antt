use Rattle.std.proofs.Common.{◌∙◌, ap, length, arith}
use Rattle.forec_kernel.specs.WellFormed.{count_up}
use Rattle.text_kernel.specs.Limits.{thread_words, thread_depth}
use Rattle.kernel_drafts.specs.Measures.{plain_draft}
use Rattle.kernel_drafts.proofs.Measuring.{most_next, most_end, words_amount, depth_amount}
use Rattle.kernel_drafts.proofs.measure.most.Goals as goal

pub loop-t-preserved : goal.loop-t-preserved
loop-t-preserved c =
    let k = plain_draft c.args.draft.now in
    let n = length c.args.draft.now.texts.items in
    let l = c.loop-t-test.true in
    let e = c.len-t-end.ensures in
    let v = c.args.draft.now.texts.ok.0 in
    let w = c.in_ok-here.ensures.words in
    let d = c.in_ok-here.ensures.depth in
    let a = c.max.ensures in
    let b = c.max-in-loop-t.ensures in
    let sw = c.loop-t.invariant.small_words in
    let sd = c.loop-t.invariant.small_depth in
    record {
      small_words = omega (arith, a, w, sw);
      small_depth = omega (arith, b, d, sd);
      words = most_next (thread_words k) c.loop-t.t n c.loop-t.most.words c.in_ok-here.here.words c.max.result _ (omega (arith, l, e, v)) w a c.loop-t.invariant.words;
      depth = most_next (thread_depth k) c.loop-t.t n c.loop-t.most.depth c.in_ok-here.here.depth c.max-in-loop-t.result _ (omega (arith, l, e, v)) d b c.loop-t.invariant.depth;
    }

pub returns-clause-words : goal.returns-clause-words
returns-clause-words c =
    let k = plain_draft c.args.draft.now in
    let n = length c.args.draft.now.texts.items in
    let l = c.loop-t-test.false in
    let e = c.len-t-end.ensures in
    let v = c.args.draft.now.texts.ok.0 in
    words_amount c.args.draft.now c.requires.fits c.loop-t.most.words (most_end (thread_words k) c.loop-t.t n c.loop-t.most.words _ (omega (arith, l, e, v)) c.loop-t.invariant.small_words c.loop-t.invariant.words)

pub returns-clause-depth : goal.returns-clause-depth
returns-clause-depth c =
    let k = plain_draft c.args.draft.now in
    let n = length c.args.draft.now.texts.items in
    let l = c.loop-t-test.false in
    let e = c.len-t-end.ensures in
    let v = c.args.draft.now.texts.ok.0 in
    let f = c.args.draft.now.functions.bodies.ok.0 in
    let deep = most_end (thread_depth k) c.loop-t.t n c.loop-t.most.depth _ (omega (arith, l, e, v)) c.loop-t.invariant.small_depth c.loop-t.invariant.depth in
    depth_amount c.args.draft.now c.requires.fits c.in_ok-chains.chains c.loop-t.most.depth c.greatest.result c.max-depth.result c.deref-2.result.now c.deref.result.now c.in_ok-chains.ensures deep c.deref.ensures.value
    (c.deref-2.ensures.value ∙ (c.in_ok-functions.ensures ∙ ap (count_up 0) (c.len.ensures ∙ f))) c.greatest.ensures c.max-depth.ensures

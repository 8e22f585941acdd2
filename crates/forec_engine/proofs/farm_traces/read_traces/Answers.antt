use Rattle.std.proofs.Common.{subst, ◌∙◌, arith}
use Rattle.std.specs.Option.{IfSome}
use Rattle.forec_engine.specs.Farming.{IsReadOf}
use Rattle.forec_engine.proofs.FarmPieces.{pushed}
use Rattle.forec_engine.proofs.FarmReading.{read_named}
use Rattle.forec_engine.proofs.farm_traces.read_traces.Goals as goal

pub loop-name-preserved : goal.loop-name-preserved
loop-name-preserved g c =
    let content = g.T.Texts.content in
    let inv = c.loop-name.invariant in
    let i = c.loop-name.name-index in
    let here = subst (λ o. IfSome o (λ text. IsReadOf text c.in_ok-trace.trace.long c.in_ok-trace.trace.bytes.items)) (inv.content _) c.in_ok-trace.ensures.read in
    record {
      read = read_named (content c.args.texts.now) c.args.names.now i _ c.loop-name-test.true _ _ _ _ _ _ c.in_ok-push.ensures.items c.in_ok-push-2.ensures.items inv.read here;
      content = λ n. c.read_trace.ensures.content n ∙ inv.content n;
      may = λ n. (λ m. (inv.may n).0 ((c.read_trace.ensures.may n).0 m), λ m. (c.read_trace.ensures.may n).1 ((inv.may n).1 m));
      long = pushed _ _ _ i c.in_ok-push.ensures.items inv.long;
      bytes = pushed _ _ _ i c.in_ok-push-2.ensures.items inv.bytes;
      later = omega (arith, inv.later, c.read_trace.ensures.later);
    }

pub returns-clause-long : goal.returns-clause-long
returns-clause-long g c = omega (arith, c.loop-name.invariant.long, c.loop-name-test.false, c.loop-name.auto.name-index-end)

pub returns-clause-bytes : goal.returns-clause-bytes
returns-clause-bytes g c = omega (arith, c.loop-name.invariant.bytes, c.loop-name-test.false, c.loop-name.auto.name-index-end)

use Rattle.std.proofs.Common.{◌∙◌, ap, subst, map}
use Rattle.forec_tree.specs.Faults.{Leads}
use Rattle.forec_kernel.specs.Plain.{stmt}
use Rattle.forec_kernel.specs.WellFormed.{stmt_calls}
use Rattle.loop_check.specs.Graph.{callees}
use Rattle.kernel_drafts.specs.Reach.{chain_value}
use Rattle.kernel_drafts.specs.Measures.{words_of_shape, depth_of_body}
use Rattle.kernel_drafts.proofs.Measuring.{draft_leads, draft_chains}
use Rattle.kernel_drafts.proofs.measure.chains_of.Goals as goal

pub chains-requires-clause-free : goal.chains-requires-clause-free
chains-requires-clause-free c =
    let calls = c.in_ok-lists.ensures ∙ ap (map (λ s. stmt_calls (stmt s))) c.as_slice-bodies.ensures.value in
    λ f l. draft_leads c.args.draft.now c.requires.fits c.in_ok-lists.lists.items c.requires.ranked calls f (subst (λ x. Leads (callees x) f f) c.deref-2.ensures.value l)

pub chains-requires-2-clause-free : goal.chains-requires-2-clause-free
chains-requires-2-clause-free c =
    let calls = c.in_ok-lists.ensures ∙ ap (map (λ s. stmt_calls (stmt s))) c.as_slice-bodies.ensures.value in
    λ f l. draft_leads c.args.draft.now c.requires.fits c.in_ok-lists.lists.items c.requires.ranked calls f (subst (λ x. Leads (callees x) f f) c.deref-4.ensures.value l)

pub returns : goal.returns
returns c =
    let draft = c.args.draft.now in
    let lists = c.in_ok-lists.lists.items in
    let calls = c.in_ok-lists.ensures ∙ ap (map (λ s. stmt_calls (stmt s))) c.as_slice-bodies.ensures.value in
    draft_chains draft c.requires.fits lists c.deref.result.now c.deref-3.result.now (record { words = c.in_ok-words-2.words; depths = c.in_ok-depths-2.depths }) c.requires.low calls
    (c.deref.ensures.value ∙ (c.in_ok-words.ensures ∙ ap (map words_of_shape) c.as_slice.ensures.value)) (c.deref-3.ensures.value ∙ (c.in_ok-depths.ensures ∙ ap (map depth_of_body) c.as_slice-bodies.ensures.value))
    (λ f. c.in_ok-words-2.ensures f ∙ ap (λ x. chain_value c.deref.result.now (callees x) f) c.deref-2.ensures.value) (λ f. c.in_ok-depths-2.ensures f ∙ ap (λ x. chain_value c.deref-3.result.now (callees x) f) c.deref-4.ensures.value)

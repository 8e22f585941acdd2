use Rattle.std.proofs.Common.{◌≡◌, ◌∙◌, ap}
use Rattle.forec_tree.specs.Plain.{terms}
use Rattle.text_chains.specs.Tallies as of
use Rattle.text_chains.specs.Tallies.{both_tallies, call_tally}
use Rattle.text_chains.specs.Views.{value_by}
use Rattle.text_sizes.proofs.Tallied.{of_tree_call}
use Rattle.text_chains.proofs.Sums.{both, begin_low, begin_told, terms_low}
use Rattle.text_chains.proofs.terms.+terms.Goals as goal

pub term-returns-in-Call : goal.term-returns-in-Call
term-returns-in-Call t c =
    let w = c.args.w.now in
    c.joined-in-Call.ensures
    ∙ (both _ _ _ _ (c.calling.ensures ∙ ap call_tally c.value.ensures) c.terms.ensures
    ∙ of_tree_call (of.of_term w.variable w.array (value_by w) c.args.hidden) c.args.e.now c.in-Call.name c.in-Call.args c.as_slice.result.now c.in-Call.is c.as_slice.ensures)

pub terms-loop-e-init : goal.terms-loop-e-init
terms-loop-e-init t c =
    let w = c.args.w.now in
    record { small = begin_low c.nothing-total.result c.nothing-total.ensures; told = begin_told c.nothing-total.result _ c.nothing-total.ensures (terms_low w.variable w.array (value_by w) c.args.hidden (terms c.args.list.now)) }

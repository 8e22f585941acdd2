use Rattle.forec_engine.proofs.Budgets.{kernels_never_over, covered_never_over, bound_covers, bound_never_over}
use Rattle.forec_engine.proofs.laws.enough_is_never_over.Goals as goal

pub returns : goal.returns
returns c =
    let paced = c.each_accepted_text_is_paced.ensures in
    let never =
    kernels_never_over c.each_accepted_text_is_formed.ensures paced.paced paced.never_over c.folding_keeps_form.ensures c.folding_keeps_paced.ensures
    c.no_tick_passes_the_bound.ensures.runs in
    record { covered = covered_never_over never; covers = bound_covers; bound = bound_never_over never }

use Rattle.std.proofs.Common.{◌∙◌, ◌++◌, map}
use Rattle.forec_kernel.specs.WellFormed.{pars_of}
use Rattle.kernel_drafts.specs.Reach.{list_items}
use Rattle.kernel_calls.proofs.Formed.{of_sequence}
use Rattle.kernel_drafts.proofs.pars.+pars.Goals as goal

pub pars-returns-in_ok-list_pars-in-Sequence : goal.pars-returns-in_ok-list_pars-in-Sequence
pars-returns-in_ok-list_pars-in-Sequence t c =
    c.in_ok-list_pars-in-Sequence.ensures ∙ of_sequence (λ k. map list_items c.args.found.now.items ++ pars_of k) c.args.s.now c.in-Sequence.list c.as_slice.result.now c.in-Sequence.is c.as_slice.ensures.value

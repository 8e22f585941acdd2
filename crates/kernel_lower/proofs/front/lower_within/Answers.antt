use Rattle.std.proofs.Common.{◌∙◌, sym, subst}
use Rattle.forec_kernel.specs.WellFormed.{WellFormed}
use Rattle.forec_check.specs.Checked.{checked_text, names_of}
use Rattle.kernel_lower.specs.Refusals.{HasLowerCause}
use Rattle.kernel_lower.proofs.Finishing.{threads_amount, threads_cause}
use Rattle.kernel_lower.proofs.Tallying.{err_passed}
use Rattle.text_kernel.proofs.Whole.{well_formed}
use Rattle.bound_laws.specs.Paced.{Paced}
use Rattle.paced_texts.proofs.Accepted.{accepted_programs_are_paced}
use Rattle.kernel_lower.proofs.front.lower_within.Goals as goal

pub returns-in_err-within-clause-fault : goal.returns-in_err-within-clause-fault
returns-in_err-within-clause-fault c =
    let text = checked_text c.args.checked.now in
    let names = names_of c.args.checked.now in
    let n = c.in_ok-threads.threads in
    let cause = threads_cause text names n c.in_err-within.field-0.0 (threads_amount text names n c.in_ok-threads.ensures) c.in_err-within.ensures.err in
    err_passed c.from_residual-in_err-within.result c.in_err-within.field-0.0 _ (λ e. HasLowerCause e text names) c.from_residual-in_err-within.ensures.1 (λ y e. subst (λ e. HasLowerCause e text names) (sym e) cause)

pub parts_of-requires-clause-threads : goal.parts_of-requires-clause-threads
parts_of-requires-clause-threads c = threads_amount (checked_text c.args.checked.now) (names_of c.args.checked.now) c.in_ok-threads.threads c.in_ok-threads.ensures

pub of-requires : goal.of-requires
of-requires c =
    let checked = c.args.checked.now in
    subst WellFormed (sym c.in_ok-parts.ensures.parts) (well_formed (checked_text checked) (names_of checked) checked.faultless c.in_ok-parts.ensures.within)

pub returns-clause-paced : goal.returns-clause-paced
returns-clause-paced c =
    let checked = c.args.checked.now in
    subst Paced (sym (c.of.ensures ∙ c.in_ok-parts.ensures.parts)) (accepted_programs_are_paced (checked_text checked) (names_of checked) checked.faultless c.in_ok-parts.ensures.within)

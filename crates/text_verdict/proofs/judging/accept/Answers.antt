use Rattle.std.proofs.Common.{refl, arith}
use Rattle.std.proofs.lemmas.Result.{err_from_is_err_and}
use Rattle.text_kernel.specs.declared.limits.Quantity.TheVariants.{Threads}
use Rattle.forec_check.specs.Instances.{thread_count}
use Rattle.kernel_lower.proofs.Finishing.{threads_amount}
use Rattle.forec_kernel.specs.Shapes.{plain_kernel}
use Rattle.forec_check.specs.Checked.{checked_text, names_of}
use Rattle.text_verdict.proofs.Verdicts.{told_kernel, told_by_lower}
use Rattle.text_verdict.proofs.judging.accept.Goals as goal

pub returns : goal.returns
returns c =
    told_kernel (checked_text c.args.checked.now) (names_of c.args.checked.now) c.in_ok-counts.counts (plain_kernel c.in_ok-kernel.kernel) c.in_ok-counts.ensures
    c.in_ok-kernel.ensures.kernel c.in_ok-kernel.ensures.within

pub returns-in_err-kernel : goal.returns-in_err-kernel
returns-in_err-kernel c =
    let p = err_from_is_err_and c.from_residual.result c.from_residual.ensures.1 in
    rw p.1 (told_by_lower (checked_text c.args.checked.now) (names_of c.args.checked.now) _ p.0 c.in_err-kernel.ensures.fault p.2)

pub count-requires : goal.count-requires
count-requires c =
    let text = checked_text c.args.checked.now in
    let names = names_of c.args.checked.now in
    let few = c.in_ok-kernel.ensures.within Threads in
    let same = threads_amount text names (thread_count text names) refl in
    omega (arith, few, same)

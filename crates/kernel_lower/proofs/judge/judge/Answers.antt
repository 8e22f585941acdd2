use Rattle.std.proofs.Common.{sym, subst}
use Rattle.text_kernel.specs.declared.limits.Quantity.TheVariants.{Threads, Words, Globals, Tables, Terms, Depth}
use Rattle.kernel_lower.specs.Refusals.{First, amount_in}
use Rattle.kernel_lower.proofs.Tallying.{first_at, err_passed}
use Rattle.kernel_lower.proofs.judge.judge.Goals as goal

pub returns-clause-ok : goal.returns-clause-ok
returns-clause-ok c Threads = c.in_ok-within.ensures.ok
returns-clause-ok c Words = c.in_ok-within-2.ensures.ok
returns-clause-ok c Globals = c.in_ok-within-3.ensures.ok
returns-clause-ok c Tables = c.in_ok-within-4.ensures.ok
returns-clause-ok c Terms = c.in_ok-within-5.ensures.ok
returns-clause-ok c Depth = c.in_ok-within-6.ensures.ok

pub returns-in_err-within-3-clause-err : goal.returns-in_err-within-3-clause-err
returns-in_err-within-3-clause-err c =
    let h = first_at (amount_in c.args.a) Globals c.in_err-within-3.field-0.0 c.in_err-within-3.ensures.err (c.in_ok-within.ensures.ok, (c.in_ok-within-2.ensures.ok, tt)) in
    err_passed c.from_residual-in_err-within-3.result c.in_err-within-3.field-0.0 _ (First (amount_in c.args.a)) c.from_residual-in_err-within-3.ensures.1 (λ y e. subst (First (amount_in c.args.a)) (sym e) h)

pub returns-in_err-within-4-clause-err : goal.returns-in_err-within-4-clause-err
returns-in_err-within-4-clause-err c =
    let h = first_at (amount_in c.args.a) Tables c.in_err-within-4.field-0.0 c.in_err-within-4.ensures.err (c.in_ok-within.ensures.ok, (c.in_ok-within-2.ensures.ok, (c.in_ok-within-3.ensures.ok, tt))) in
    err_passed c.from_residual-in_err-within-4.result c.in_err-within-4.field-0.0 _ (First (amount_in c.args.a)) c.from_residual-in_err-within-4.ensures.1 (λ y e. subst (First (amount_in c.args.a)) (sym e) h)

pub returns-in_err-within-5-clause-err : goal.returns-in_err-within-5-clause-err
returns-in_err-within-5-clause-err c =
    let h = first_at (amount_in c.args.a) Terms c.in_err-within-5.field-0.0 c.in_err-within-5.ensures.err (c.in_ok-within.ensures.ok, (c.in_ok-within-2.ensures.ok, (c.in_ok-within-3.ensures.ok, (c.in_ok-within-4.ensures.ok, tt)))) in
    err_passed c.from_residual-in_err-within-5.result c.in_err-within-5.field-0.0 _ (First (amount_in c.args.a)) c.from_residual-in_err-within-5.ensures.1 (λ y e. subst (First (amount_in c.args.a)) (sym e) h)

pub returns-in_err-within-6-clause-err : goal.returns-in_err-within-6-clause-err
returns-in_err-within-6-clause-err c =
    let h = first_at (amount_in c.args.a) Depth c.in_err-within-6.field-0.0 c.in_err-within-6.ensures.err (c.in_ok-within.ensures.ok, (c.in_ok-within-2.ensures.ok, (c.in_ok-within-3.ensures.ok, (c.in_ok-within-4.ensures.ok, (c.in_ok-within-5.ensures.ok, tt))))) in
    err_passed c.from_residual-in_err-within-6.result c.in_err-within-6.field-0.0 _ (First (amount_in c.args.a)) c.from_residual-in_err-within-6.ensures.1 (λ y e. subst (First (amount_in c.args.a)) (sym e) h)

use Rattle.std.proofs.Common.{SFits, w32, rules, refl}
use Rattle.forec_kernel.specs.Plain.{expr, stmt}
use Rattle.running_texts.proofs.Tests.{zero_of, nonzero_of}
use Rattle.running_steps.proofs.Loops.{enter_watches, enter_lasts, enter_ends, enter_fails}
use Rattle.running_steps.proofs.statements.after_enter.Goals as goal

pub returns-then-n-eq0 : goal.returns-then-n-eq0
returns-then-n-eq0 c = λ s old v m.
    let fits : SFits w32 c.in-Ok.n = search rules in
    enter_watches s _ _ v (expr c.args.test.now) c.args.weak (stmt c.args.body.now) _ _ (c.in-Ok.ensures old v m) (zero_of _ fits c.if-n-eq0.true) refl

pub returns-then-weak : goal.returns-then-weak
returns-then-weak c = λ s old v m.
    enter_lasts s _ _ v (expr c.args.test.now) c.args.weak (stmt c.args.body.now) _ _ (c.in-Ok.ensures old v m) (nonzero_of _ c.if-n-eq0.false) c.if-weak.true refl

pub returns-else-weak : goal.returns-else-weak
returns-else-weak c = λ s old v m.
    enter_ends s _ _ v (expr c.args.test.now) c.args.weak (stmt c.args.body.now) _ _ (c.in-Ok.ensures old v m) (nonzero_of _ c.if-n-eq0.false) c.if-weak.false refl

pub returns-in-Err : goal.returns-in-Err
returns-in-Err c = λ s old v m. enter_fails s _ _ v (expr c.args.test.now) c.args.weak (stmt c.args.body.now) _ (c.in-Err.ensures old v m)

use Rattle.std.proofs.Common.{SFits, w32, rules, refl}
use Rattle.forec_kernel.specs.Plain.{expr, stmt}
use Rattle.forec_kernel.specs.Shapes.{plain_kernel}
use Rattle.running_texts.proofs.Tests.{zero_of, nonzero_of}
use Rattle.running_steps.specs.Moving.{origin_in}
use Rattle.running_steps.proofs.Loops.{if_no, if_yes, if_fails}
use Rattle.running_steps.proofs.statements.if_step.Goals as goal

pub returns-then-n-eq0 : goal.returns-then-n-eq0
returns-then-n-eq0 c = λ R.
    let fits : SFits w32 c.in-Ok.n = search rules in
    if_no (plain_kernel c.args.kernel.now) (origin_in c.args.values.now R) _ _ (expr c.args.test.now) _ (stmt c.args.yes.now) (stmt c.args.no.now) _
    (c.in-Ok.ensures _ _ c.number_of-test.ensures) (zero_of _ fits c.if-n-eq0.true) refl

pub returns-else-n-eq0 : goal.returns-else-n-eq0
returns-else-n-eq0 c = λ R.
    if_yes (plain_kernel c.args.kernel.now) (origin_in c.args.values.now R) _ _ (expr c.args.test.now) _ (stmt c.args.yes.now) (stmt c.args.no.now) _
    (c.in-Ok.ensures _ _ c.number_of-test.ensures) (nonzero_of _ c.if-n-eq0.false) refl

pub returns-in-Err : goal.returns-in-Err
returns-in-Err c = λ R.
    if_fails (plain_kernel c.args.kernel.now) (origin_in c.args.values.now R) _ _ (expr c.args.test.now) _ (stmt c.args.yes.now) (stmt c.args.no.now)
    (c.in-Err.ensures _ _ c.number_of-test.ensures)

use Rattle.std.proofs.Common.{SFits, w32, rules, refl}
use Rattle.forec_kernel.specs.Shapes.{plain_kernel}
use Rattle.running_texts.proofs.Tests.{zero_of, nonzero_of}
use Rattle.running_threads.specs.Views.{plain_loop}
use Rattle.running_steps.specs.Moving.{origin_in}
use Rattle.running_steps.proofs.Loops.{loop_ends, loop_unbounded, loop_turns, loop_traps, loop_fails, turned_text}
use Rattle.running_steps.proofs.statements.loop_step.Goals as goal

pub returns-then-n-eq0 : goal.returns-then-n-eq0
returns-then-n-eq0 c = λ R.
    let fits : SFits w32 c.in-Ok.n = search rules in
    loop_ends (plain_kernel c.args.kernel.now) (origin_in c.args.values.now R) (plain_loop c.args.turn) _ _ _ _
    (c.in-Ok.ensures _ _ c.number_of-test.ensures) (zero_of _ fits c.if-n-eq0.true) refl

pub returns-in-None : goal.returns-in-None
returns-in-None c = λ R.
    loop_unbounded (plain_kernel c.args.kernel.now) (origin_in c.args.values.now R) (plain_loop c.args.turn) _ _ _ _
    (c.in-Ok.ensures _ _ c.number_of-test.ensures) (nonzero_of _ c.if-n-eq0.false) c.in-None.is refl

pub returns-then-turns-eq0 : goal.returns-then-turns-eq0
returns-then-turns-eq0 c = λ R.
    loop_traps (plain_kernel c.args.kernel.now) (origin_in c.args.values.now R) (plain_loop c.args.turn) _ _ _ c.in-Some.turns
    (c.in-Ok.ensures _ _ c.number_of-test.ensures) (nonzero_of _ c.if-n-eq0.false) c.in-Some.is c.if-turns-eq0.true

pub returns-else-turns-eq0 : goal.returns-else-turns-eq0
returns-else-turns-eq0 c = λ R.
    loop_turns (plain_kernel c.args.kernel.now) (origin_in c.args.values.now R) (plain_loop c.args.turn) _ _ _ c.in-Some.turns _ _
    (c.in-Ok.ensures _ _ c.number_of-test.ensures) (nonzero_of _ c.if-n-eq0.false) c.in-Some.is c.if-turns-eq0.false refl
    (turned_text c.with_left-turn.result _ c.with_left-turn.ensures)

pub returns-in-Err : goal.returns-in-Err
returns-in-Err c = λ R.
    loop_fails (plain_kernel c.args.kernel.now) (origin_in c.args.values.now R) (plain_loop c.args.turn) _ _ _
    (c.in-Err.ensures _ _ c.number_of-test.ensures)

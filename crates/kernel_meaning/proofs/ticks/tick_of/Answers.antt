use Rattle.forec_kernel.specs.Shapes.{plain_kernel}
use Rattle.forec_kernel.specs.Ticks.{begin}
use Rattle.kernel_meaning.specs.States.{plain_state}
use Rattle.kernel_meaning.proofs.Running.{begun, tick_told, tick_over}
use Rattle.kernel_meaning.proofs.ticks.tick_of.Goals as goal

pub returns-in-Ok-run_tick : goal.returns-in-Ok-run_tick
returns-in-Ok-run_tick c =
    let k = plain_kernel c.args.kernel.now in
    let old = plain_state c.args.state.now in
    tick_told k c.args.budget _ old c.args.row.now c.run_tick.new.main
    (c.in-Ok-run_tick.ensures.on.on c.args.budget (begin k old c.args.row.now) (begun k c.args.budget _ (begin k old c.args.row.now) c.in-Ok.main c.in-Ok.ensures))
    c.in-Ok-run_tick.ensures.stopped

pub returns-in-Err-Over-run_tick : goal.returns-in-Err-Over-run_tick
returns-in-Err-Over-run_tick c =
    let k = plain_kernel c.args.kernel.now in
    let old = plain_state c.args.state.now in
    let on = rw c.in-Err-Over-run_tick.field-0-is at c.in-Err-Over-run_tick.ensures.on in
    tick_over k c.args.budget old c.args.row.now
    (on.on c.args.budget (begin k old c.args.row.now) (begun k c.args.budget _ (begin k old c.args.row.now) c.in-Ok.main c.in-Ok.ensures))

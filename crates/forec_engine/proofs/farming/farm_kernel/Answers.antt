use Rattle.std.proofs.Common.{map, sym}
use Rattle.forec_kernel.specs.Shapes.{plain_kernel}
use Rattle.forec_engine.proofs.FarmPrinting.{kernel_bounded, kernel_boundless}
use Rattle.forec_engine.proofs.farming.farm_kernel.Goals as goal

pub returns-in-Ok-Some : goal.returns-in-Ok-Some
returns-in-Ok-Some g c =
    let units = rw c.in-Ok-Some.field-0-is at c.in-Ok-Some.ensures.units in
    kernel_bounded g.K.Sink.held g.K.Sink.faults g.K.Sink.down c.args.out.now c.read_and_run.new.out (g.T.Texts.content c.args.texts.now) (map (λ n. n.now) c.args.farmed.traces.now) _ c.read_and_run.result
    (plain_kernel c.args.kernel.now) c.args.farmed.budget c.in-Ok-Some.units (sym units) c.read_and_run.ensures.prints

pub returns-in-Ok-None : goal.returns-in-Ok-None
returns-in-Ok-None g c =
    let none = rw c.in-Ok-None.field-0-is at c.in-Ok-None.ensures.units in
    kernel_boundless g.K.Sink.held g.K.Sink.faults g.K.Sink.down c.args.out.now c.say_boundless.new.out (g.T.Texts.content c.args.texts.now) (map (λ n. n.now) c.args.farmed.traces.now) _ c.say_boundless.result
    (plain_kernel c.args.kernel.now) c.args.farmed.budget (sym none) c.say_boundless.ensures

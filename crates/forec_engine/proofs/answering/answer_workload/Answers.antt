use Rattle.std.proofs.Common.{sym}
use Rattle.forec_kernel.specs.Shapes.{plain_kernel}
use Rattle.command_words.specs.Requests.{plain_running}
use Rattle.forec_engine.proofs.Answered.{workload_boundless}
use Rattle.forec_engine.proofs.answering.answer_workload.Goals as goal

pub returns-in-Ok-None : goal.returns-in-Ok-None
returns-in-Ok-None g c =
    let none = rw c.in-Ok-None.field-0-is at c.in-Ok-None.ensures.units in
    workload_boundless g.K.Sink.held g.K.Sink.faults g.K.Sink.down c.args.out.now c.say_boundless.new.out c.say_boundless.result c.args.threads (plain_kernel c.args.kernel.now) (plain_running c.args.running) (sym none) c.say_boundless.ensures

use Rattle.forec_kernel.specs.Shapes.{plain_kernel}
use Rattle.command_words.specs.Requests.{plain_running}
use Rattle.forec_engine.proofs.Answered.{workload_placed, workload_misplaced}
use Rattle.forec_engine.proofs.answering.place_workload.Goals as goal

pub returns-in-Ok : goal.returns-in-Ok
returns-in-Ok g c =
    workload_placed g.K.Sink.held g.K.Sink.faults g.K.Sink.down c.args.out.now c.host_workload.new.out c.host_workload.result c.args.threads (plain_kernel c.args.kernel.now) (plain_running c.args.running) c.args.units c.requires.units c.in-Ok.ensures.taken c.host_workload.ensures

pub returns-in-Err : goal.returns-in-Err
returns-in-Err g c =
    workload_misplaced g.K.Sink.held g.K.Sink.faults g.K.Sink.down c.args.out.now c.misplace.new.out c.misplace.result c.args.threads (plain_kernel c.args.kernel.now) (plain_running c.args.running) c.args.units c.requires.units c.in-Err.why c.in-Err.ensures.refused c.misplace.ensures

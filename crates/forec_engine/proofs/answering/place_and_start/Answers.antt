use Rattle.std.proofs.Common.{refl}
use Rattle.forec_kernel.specs.Shapes.{plain_kernel}
use Rattle.command_words.specs.Requests.{plain_running}
use Rattle.forec_engine.proofs.Answered.{run_placed, run_misplaced}
use Rattle.forec_engine.proofs.answering.place_and_start.Goals as goal

pub returns-in-Ok : goal.returns-in-Ok
returns-in-Ok g c =
    let a = c.args.accepted.now in
    run_placed g.K.Sink.held g.K.Sink.faults g.K.Sink.down c.args.out.now c.host_trace.new.out c.host_trace.result g.S.Source.left g.S.Source.faults g.S.Source.down a.counts (plain_kernel a.kernel) c.args.trace.now c.host_trace.new.trace
    c.args.telling (plain_running c.args.running) c.args.units c.requires.units c.in-Ok.ensures.taken c.host_trace.ensures

pub returns-in-Err : goal.returns-in-Err
returns-in-Err g c =
    let a = c.args.accepted.now in
    run_misplaced g.K.Sink.held g.K.Sink.faults g.K.Sink.down c.args.out.now c.misplace.new.out c.misplace.result g.S.Source.left g.S.Source.faults g.S.Source.down a.counts (plain_kernel a.kernel) c.args.trace.now c.args.trace.now
    c.args.telling (plain_running c.args.running) c.args.units c.requires.units c.in-Err.why refl c.in-Err.ensures.refused c.misplace.ensures

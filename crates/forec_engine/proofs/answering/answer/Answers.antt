use Rattle.std.proofs.Common.{refl}
use Rattle.forec_kernel.specs.Shapes.{plain_kernel}
use Rattle.command_words.specs.Requests.{plain_placing}
use Rattle.forec_engine.proofs.Answered.{checked, threaded, coded}
use Rattle.forec_engine.proofs.answering.answer.Goals as goal

pub returns-in-Run : goal.returns-in-Run
returns-in-Run g c = rw c.in-Run.is c.start.ensures

pub returns-in-Wave : goal.returns-in-Wave
returns-in-Wave g c = rw c.in-Wave.is c.start-in-Wave.ensures

pub returns-in-Check : goal.returns-in-Check
returns-in-Check g c =
    let a = c.args.accepted.now in
    rw c.in-Check.is (checked g.K.Sink.held g.K.Sink.faults g.K.Sink.down c.args.out.now c.tell.new.out c.tell.result g.S.Source.left g.S.Source.faults g.S.Source.down a.counts (plain_kernel a.kernel) c.args.trace.now c.args.trace.now refl c.tell.ensures)

pub returns-in-Threads : goal.returns-in-Threads
returns-in-Threads g c =
    let a = c.args.accepted.now in
    rw c.in-Threads.is (threaded g.K.Sink.held g.K.Sink.faults g.K.Sink.down c.args.out.now c.list_threads.new.out c.list_threads.result g.S.Source.left g.S.Source.faults g.S.Source.down a.counts (plain_kernel a.kernel) c.args.trace.now c.args.trace.now
    (plain_placing c.in-Threads.placing) refl c.list_threads.ensures)

pub returns-in-Code : goal.returns-in-Code
returns-in-Code g c =
    let a = c.args.accepted.now in
    rw c.in-Code.is (coded g.K.Sink.held g.K.Sink.faults g.K.Sink.down c.args.out.now c.list.new.out c.list.result g.S.Source.left g.S.Source.faults g.S.Source.down a.counts (plain_kernel a.kernel) c.args.trace.now c.args.trace.now refl c.list.ensures)

pub returns-in-Explain : goal.returns-in-Explain
returns-in-Explain g c = rw c.in-Explain.is c.explain.ensures

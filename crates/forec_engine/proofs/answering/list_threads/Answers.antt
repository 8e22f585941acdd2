use Rattle.std.proofs.Common.{◌≡◌}
use Rattle.forec_kernel.specs.Shapes.{plain_kernel}
use Rattle.command_words.specs.Requests.{plain_placing}
use Rattle.forec_engine.specs.Commands.{Of_placed, ThreadsReport, threads_listed}
use Rattle.forec_engine.specs.Placing.{IsMisplaced}
use Rattle.trace_ticks.proofs.Printing.{prints_as}
use Rattle.forec_engine.proofs.Answered.{threads_misplaced}
use Rattle.forec_engine.proofs.answering.list_threads.Goals as goal

pub returns-in-Ok : goal.returns-in-Ok
returns-in-Ok g c =
    let k = plain_kernel c.args.kernel.now in
    let placing = plain_placing c.args.placing in
    let p = c.in-Ok.placement in
    prints_as g.K.Sink.held g.K.Sink.faults g.K.Sink.down Unit (λ q. q ≡ threads_listed k p.places) ⊥ ⊥ ⊥ c.args.out.now c.list_placed.new.out Unit (ThreadsReport k placing) (IsMisplaced k placing) ⊥ ⊥ c.list_placed.result (λ t. t)
    (λ t r is. Of_placed p c.in-Ok.ensures.taken c.in-Ok.ensures.placement is) (λ n. absurd n) (λ n. n) (λ n. n) c.list_placed.ensures

pub returns-in-Err : goal.returns-in-Err
returns-in-Err g c =
    threads_misplaced g.K.Sink.held g.K.Sink.faults g.K.Sink.down c.args.out.now c.misplace.new.out c.misplace.result (plain_kernel c.args.kernel.now) (plain_placing c.args.placing) c.in-Err.why c.in-Err.ensures.refused c.misplace.ensures

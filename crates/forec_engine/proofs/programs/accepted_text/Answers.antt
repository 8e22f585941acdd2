use Rattle.std.proofs.Common.{refl}
use Rattle.trace_ticks.proofs.Printing.{said_as}
use Rattle.forec_engine.specs.Commands.{IsRefusal, refused}
use Rattle.forec_engine.proofs.programs.accepted_text.Goals as goal

pub returns-in-Err-Refused-clause-err : goal.returns-in-Err-Refused-clause-err
returns-in-Err-Refused-clause-err g c =
    let why = c.in-Err-Refused.why in
    let judged = rw c.in-Err-Refused.field-0-is at c.in-Err-Refused.ensures in
    said_as g.K.Sink.held g.K.Sink.faults g.K.Sink.down (refused why) c.args.out.now c.refuse.new.out ⊥ Unit (IsRefusal c.args.text.now) ⊥ ⊥ ⊥ c.refuse.result (λ _. (why, judged, refl)) (λ n. n) c.refuse.ensures

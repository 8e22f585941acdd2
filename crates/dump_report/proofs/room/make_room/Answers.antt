use Rattle.std.proofs.Common.{take}
use Rattle.dump_report.proofs.Sent.{sends_none, sends_each}
use Rattle.dump_report.proofs.room.make_room.Goals as goal

pub returns-then-most-room-clause-ok : goal.returns-then-most-room-clause-ok
returns-then-most-room-clause-ok g c = sends_none (g.K.Sink.held c.args.out.now) (take c.args.end c.args.room.now)

pub returns-in-Ok-clause-ok : goal.returns-in-Ok-clause-ok
returns-in-Ok-clause-ok g c =
    let held = g.K.Sink.held in
    sends_each (held c.args.out.now) (held c.write_all.new.out) (take c.args.end c.args.room.now)
    c.in-Ok.ensures.ok

pub returns-in-Err-clause-err : goal.returns-in-Err-clause-err
returns-in-Err-clause-err g c = c.in-Err.ensures.err

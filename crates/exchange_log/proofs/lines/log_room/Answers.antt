use Rattle.std.proofs.Common.{map, arith}
use Rattle.forec_kernel.specs.Shapes.{plain_thread}
use Rattle.exchange_log.specs.Lines.{greatest_room}
use Rattle.exchange_log.proofs.LineLemmas.{rooms_step, rooms_end, rooms_begin}
use Rattle.exchange_log.proofs.lines.log_room.Goals as goal

pub loop-t-init : goal.loop-t-init
loop-t-init c = let least = rooms_begin c.args.shape.now.threads.items in record { least = omega arith; fits = omega arith; room = omega (arith, least) }

pub loop-t-preserved : goal.loop-t-preserved
loop-t-preserved c =
    let ts = c.args.shape.now.threads.items in
    record {
      least = omega (arith, c.max-room.ensures, c.loop-t.invariant.least);
      fits = omega (arith, c.max-room.type_inv);
      room = rooms_step ts c.loop-t.t c.loop-t.room c.room_of.result c.max-room.result (greatest_room (map plain_thread ts)) (omega arith) c.room_of.ensures (omega (arith, c.max-room.ensures)) c.loop-t.invariant.room;
    }

pub returns : goal.returns
returns c =
    let ts = c.args.shape.now.threads.items in
    rooms_end ts c.loop-t.t c.loop-t.room (greatest_room (map plain_thread ts)) (omega arith) c.loop-t.invariant.fits c.loop-t.invariant.least c.loop-t.invariant.room

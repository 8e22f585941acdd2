use Rattle.std.proofs.Common.{◌≤◌, length, ap, arith}
use Rattle.std.proofs.lemmas.List.{drop_all}
use Rattle.trace_rows.specs.Report.{pairs_room}
use Rattle.trace_rows.proofs.Pairs.{room_step}
use Rattle.trace_rows.proofs.tick_line.line_room.Goals as goal

pub loop-i-preserved : goal.loop-i-preserved
loop-i-preserved c =
    let r = room_step c.args.names.now c.loop-i.i c.get.result.now c.get.ensures in
    let i = c.loop-i.invariant in
    record {
      room = omega (arith, r, i.room, c.saturating_add.ensures, c.saturating_add-room.ensures);
      fits = omega (arith, c.saturating_add-room.ensures);
    }

pub returns : goal.returns
returns c =
    let past : length c.args.names.now ≤ c.loop-i.i = omega arith in
    let none = ap pairs_room (drop_all c.loop-i.i c.args.names.now past) in
    omega (arith, none, c.loop-i.invariant.room, c.loop-i.invariant.fits)

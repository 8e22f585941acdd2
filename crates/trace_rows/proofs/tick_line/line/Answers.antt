use Rattle.std.proofs.Common.{arith, pos, codes}
use Rattle.trace_rows.proofs.Pairs.{room_step, text_step}
use Rattle.trace_rows.proofs.tick_line.line.Goals as goal

pub put_pair-at-requires-clause-room : goal.put_pair-at-requires-clause-room
put_pair-at-requires-clause-room c =
    let r = room_step c.args.names.now c.loop-i.i c.get.result.now c.get.ensures in
    let i = c.loop-i.invariant in
    omega (arith, r, i.room, i.fits)

pub loop-i-preserved : goal.loop-i-preserved
loop-i-preserved c =
    let r = room_step c.args.names.now c.loop-i.i c.get.result.now c.get.ensures in
    let i = c.loop-i.invariant in
    record {
      room = omega (arith, r, i.room, c.put_pair-at.ensures.within);
      fits = omega (arith, i.fits, c.put_pair-at.auto.buffer);
      text = text_step c.args.names.now c.args.values.now c.loop-i.i c.get.result.now (pos 0) _ _ (codes "\n") _ c.get.ensures (omega arith) c.put_pair-at.ensures.front i.text;
    }

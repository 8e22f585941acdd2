use Rattle.std.proofs.Common.{◌-◌, arith}
use Rattle.running_threads.proofs.Plugs.{one_through, stops_at}
use Rattle.running_threads.proofs.frames.innermost_last.Goals as goal

pub returns-then-is_last-clause-some : goal.returns-then-is_last-clause-some
returns-then-is_last-clause-some c =
    stops_at c.args.frames.now c.loop-at.at (c.loop-at.at - 1) c.index-frames-at.result c.is_last.result (omega arith) (omega arith)
    c.index-frames-at.is c.is_last.ensures c.if-is_last.true c.loop-at.invariant.through

pub loop-at-preserved : goal.loop-at-preserved
loop-at-preserved c =
    record {
      within = omega arith;
      through =
          one_through c.args.frames.now c.loop-at.at (c.loop-at.at - 1) c.index-frames-at.result c.is_last.result (omega arith) (omega arith)
          c.index-frames-at.is c.is_last.ensures c.if-is_last.false c.loop-at.invariant.through;
    }

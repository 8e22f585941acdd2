use Rattle.std.proofs.Common.{◌≤◌, length}
use Rattle.running_threads.proofs.Plugs.{LetsThrough}
use Rattle.running_threads.proofs.frames.innermost_last.Given as goal

abbrev pub invariant-loop-at : goal.invariant-loop-at
invariant-loop-at l = record { within : l.at ≤ length l.frames; through : LetsThrough l.frames l.at }

abbrev pub decreases-loop-at : goal.decreases-loop-at
decreases-loop-at l = l.at

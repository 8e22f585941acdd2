use Rattle.std.proofs.Common.{◌≡◌, ◌++◌, take}
use Rattle.running_steps.proofs.wakes.push_all.Given as goal

abbrev pub invariant-loop-frame : goal.invariant-loop-frame
invariant-loop-frame l = l.after.items ≡ l.initial.after.items ++ take l.frame-index l.frames

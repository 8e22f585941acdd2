use Rattle.std.proofs.Common.{◌≡◌, ◌<◌, ◌≤◌, ℕ, Some, get_or}
use Rattle.std.specs.Prelude.{slice_get}
use Rattle.thread_code.specs.declared.instruction.Instruction.TheVariants as instruction
use Rattle.thread_rooms.proofs.room.most_called.Given as goal

abbrev pub invariant-loop-step : goal.invariant-loop-step
invariant-loop-step l = (p f : ℕ) → p < l.step-index → slice_get l.block.steps.items p ≡ Some (instruction.Call f) → get_or l.needs f 0 ≤ l.most

use Rattle.std.proofs.Common.{◌<◌, ◌^◌, ℕ, length, get_or}
use Rattle.thread_code.specs.Plain.{plain_code}
use Rattle.thread_steps.specs.BlockRun.{no_block}
use Rattle.thread_rooms.proofs.room.are_short.Given as goal

abbrev pub invariant-loop-function : goal.invariant-loop-function
invariant-loop-function l = (f : ℕ) → f < l.function → length (get_or (plain_code l.code).functions f no_block).steps < 2 ^ 32

use Rattle.std.proofs.Common.{◌≡◌, ◌<◌, ℕ, length, get_or}
use Rattle.thread_code.specs.Plain.{plain_code}
use Rattle.thread_rooms.specs.Room.{block_of_function, Enough}
use Rattle.thread_rooms.proofs.room.needs_of.Given as goal

abbrev pub invariant-loop-function : goal.invariant-loop-function
invariant-loop-function l = length l.needs.items ≡ length (plain_code l.code).functions

abbrev pub invariant-loop-function-2 : goal.invariant-loop-function-2
invariant-loop-function-2 l =
    (f : ℕ) → f < l.function → Enough (plain_code l.code) (block_of_function (plain_code l.code) f) l.needs.items (get_or l.needs.items f 0)

use Rattle.std.proofs.Common.{◌≡◌, ◌<◌, ℕ, length, get_or}
use Rattle.thread_code.specs.Plain.{plain_code}
use Rattle.thread_rooms.specs.Room.{block_of_function, IsFrame}
use Rattle.thread_rooms.proofs.room.frame_needs.Given as goal

abbrev pub invariant-loop-function : goal.invariant-loop-function
invariant-loop-function l = record {
  long : length l.own.items ≡ l.function;
  each : (f : ℕ) → f < l.function → IsFrame (plain_code l.code) (block_of_function (plain_code l.code) f) (get_or l.own.items f 0);
}

use Rattle.std.proofs.Common.{◌≡◌, ℕ, Some, length}
use Rattle.std.specs.Prelude.{slice_get}
use Rattle.thread_code.specs.Plain.{plain_code}
use Rattle.core_seats.specs.declared.seat.Seat.{Seat}
use Rattle.core_seats.specs.Loads.{IsNewSeat, contains_core}
use Rattle.core_seats.proofs.load.seats_of.Given as goal

abbrev pub invariant-loop-thread : goal.invariant-loop-thread
invariant-loop-thread l = record {
  count : length l.seats.items ≡ l.thread;
  each : (t core : ℕ) (s : Seat) → slice_get l.places t ≡ Some core → slice_get l.seats.items t ≡ Some s → IsNewSeat (plain_code l.code) t (contains_core core l.cores) s;
}

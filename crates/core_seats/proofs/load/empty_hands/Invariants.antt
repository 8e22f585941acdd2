use Rattle.std.proofs.Common.{◌≡◌, ℕ, Option, Some, None, length}
use Rattle.std.specs.Prelude.{slice_get}
use Rattle.combine_tree.specs.declared.packet.Packet.{Packet}
use Rattle.core_seats.proofs.load.empty_hands.Given as goal

abbrev pub invariant-loop : goal.invariant-loop
invariant-loop l = record {
  count : length l.hands.items ≡ l.counter;
  each : (k : ℕ) (h : Option Packet) → slice_get l.hands.items k ≡ Some h → h ≡ None;
}

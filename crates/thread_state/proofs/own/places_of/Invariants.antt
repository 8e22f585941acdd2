use Rattle.std.proofs.Common.{◌≡◌, ◌+◌, ◌≤◌, ℕ, length, drop, Some}
use Rattle.std.specs.Prelude.{slice_get, IsTrue}
use Rattle.forec_kernel.specs.Combining.{contains}
use Rattle.thread_state.specs.Kept.{place_of}
use Rattle.thread_state.proofs.own.places_of.Given as goal

abbrev pub invariant-loop-i : goal.invariant-loop-i
invariant-loop-i l = record {
  long : length l.places.items ≡ l.most;
  within : l.i ≤ length l.uses;
  placed : (v : ℕ) → IsTrue (contains v (drop l.i l.uses)) → slice_get l.places.items v ≡ Some (l.i + place_of (drop l.i l.uses) v);
}

abbrev pub decreases-loop-i : goal.decreases-loop-i
decreases-loop-i l = l.i

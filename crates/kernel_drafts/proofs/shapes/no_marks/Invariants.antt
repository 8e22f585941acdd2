use Rattle.std.proofs.Common.{ℕ, ◌≡◌, false, length}
use Rattle.kernel_drafts.specs.Marks.{is_marked}
use Rattle.kernel_drafts.proofs.shapes.no_marks.Given as goal

abbrev pub invariant-loop : goal.invariant-loop
invariant-loop l = (length l.marks.items ≡ l.counter) × ((v : ℕ) → is_marked l.marks.items v ≡ false)

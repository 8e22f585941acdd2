use Rattle.std.proofs.Common.{ℕ, ◌≡◌, true, length, get_or}
use Rattle.kernel_drafts.proofs.shapes.all_marks.Given as goal

abbrev pub invariant-loop : goal.invariant-loop
invariant-loop l = (length l.marks.items ≡ l.counter) × ((v : ℕ) → get_or l.marks.items v true ≡ true)

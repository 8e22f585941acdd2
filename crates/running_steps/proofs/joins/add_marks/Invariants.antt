use Rattle.std.proofs.Common.{ℕ, ◌≡◌, ◌≤◌, ◌<◌, ◌||◌, false, length, get_or}
use Rattle.running_steps.specs.Marks.{marks_it}
use Rattle.running_steps.proofs.joins.add_marks.Given as goal

abbrev pub invariant-loop-i : goal.invariant-loop-i
invariant-loop-i l =
    (length l.marks.items ≡ length l.variables)
    × ((q : ℕ) → q < l.i → get_or l.marks.items q false ≡ (marks_it l.branch.uses.now l.branch.copies.now (get_or l.variables q 0) || get_or l.initial.marks.items q false))
    × ((q : ℕ) → l.i ≤ q → get_or l.marks.items q false ≡ get_or l.initial.marks.items q false)

use Rattle.std.proofs.Common.{ℕ, ◌≡◌, ◌+◌, ◌-◌, length, get_or}
use Rattle.loop_check.specs.Index as plain
use Rattle.loop_check.proofs.index.grow.Given as goal

abbrev pub invariant-loop-entries : goal.invariant-loop-entries
invariant-loop-entries l = (k : ℕ) → get_or l.entries.items k plain.blank_entry ≡ get_or l.initial.entries.items k plain.blank_entry

abbrev pub decreases-loop-entries : goal.decreases-loop-entries
decreases-loop-entries l = (l.id + 1) - length l.entries.items

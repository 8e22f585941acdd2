use Rattle.std.proofs.Common.{ℕ, ◌≡◌, ◌+◌, ◌-◌, length, get_or}
use Rattle.loop_check.proofs.numbered.put.Given as goal

abbrev pub invariant-room : goal.invariant-room
invariant-room g l = (k : ℕ) → get_or l.table.items k l.blank ≡ get_or l.initial.table.items k l.blank

abbrev pub decreases-room : goal.decreases-room
decreases-room g l = (l.at + 1) - length l.table.items

use Rattle.std.proofs.Common.{ℕ, ◌≡◌, ◌+◌, ◌-◌, length}
use Rattle.loop_check.specs.Graph.{callees}
use Rattle.loop_check.proofs.table.put.Given as goal

abbrev pub invariant-room : goal.invariant-room
invariant-room l = (k : ℕ) → callees l.calls.items k ≡ callees l.initial.calls.items k

abbrev pub decreases-room : goal.decreases-room
decreases-room l = (l.at + 1) - length l.calls.items

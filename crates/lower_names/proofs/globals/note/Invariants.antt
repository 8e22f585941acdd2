use Rattle.std.proofs.Common.{ℕ, ◌≡◌, ◌+◌, ◌-◌, None, length, get_or}
use Rattle.lower_names.proofs.globals.note.Given as goal

abbrev pub invariant-room : goal.invariant-room
invariant-room l = (k : ℕ) → get_or l.before.items k None ≡ get_or l.initial.before.items k None

abbrev pub decreases-room : goal.decreases-room
decreases-room l = (l.at + 1) - length l.before.items

use Rattle.std.proofs.Common.{ℕ, ◌≤◌, ◌<◌, get_or}
use Rattle.running_texts.proofs.lookup.ascends.Given as goal

abbrev pub invariant-loop-i : goal.invariant-loop-i
invariant-loop-i l = (a b : ℕ) → a ≤ b → b < l.i → get_or l.uses a 0 ≤ get_or l.uses b 0

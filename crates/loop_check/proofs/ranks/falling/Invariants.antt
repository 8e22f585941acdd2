use Rattle.std.proofs.Common.{ℕ, ◌≡◌, false, true, get_or}
use Rattle.forec_tree.specs.Faults.{Leads}
use Rattle.loop_check.specs.Graph.{callees}
use Rattle.loop_check.proofs.ranks.falling.Given as goal

abbrev pub invariant-loop-f : goal.invariant-loop-f
invariant-loop-f l = (g : ℕ) → get_or l.marks.items g false ≡ true → Leads (callees l.calls) g g → ⊥

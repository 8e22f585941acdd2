use Rattle.std.proofs.Common.{ℕ, ◌≡◌, ◌≤◌, false, take, get_or}
use Rattle.forec_tree.specs.Faults.{is_in}
use Rattle.loop_check.specs.Graph.{trues}
use Rattle.loop_check.proofs.graph.marked.Given as goal

abbrev pub invariant-loop-f : goal.invariant-loop-f
invariant-loop-f l = ((g : ℕ) → get_or l.marks.items g false ≡ is_in g (take l.f-index l.functions)) × (trues l.marks.items ≤ l.f-index)

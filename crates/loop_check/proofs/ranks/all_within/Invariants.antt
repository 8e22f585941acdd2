use Rattle.std.proofs.Common.{ℕ, ◌≡◌, ◌≤◌, true, take}
use Rattle.forec_tree.specs.Faults.{is_in}
use Rattle.loop_check.specs.Graph.{rank_at}
use Rattle.loop_check.proofs.ranks.all_within.Given as goal

abbrev pub invariant-loop-g : goal.invariant-loop-g
invariant-loop-g l = (k : ℕ) → is_in k (take l.g-index l.list) ≡ true → rank_at l.ranks k ≤ l.most

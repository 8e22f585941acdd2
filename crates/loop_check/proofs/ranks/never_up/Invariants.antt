use Rattle.std.proofs.Common.{ℕ, ◌≡◌, ◌≤◌, true, take}
use Rattle.forec_tree.specs.Faults.{is_in}
use Rattle.loop_check.specs.Graph.{callees, rank_at}
use Rattle.loop_check.proofs.ranks.never_up.Given as goal

abbrev pub invariant-loop-f : goal.invariant-loop-f
invariant-loop-f l =
    (k g : ℕ) → is_in k (take l.f-index l.functions) ≡ true → is_in g (callees l.calls k) ≡ true → rank_at l.ranks g ≤ rank_at l.ranks k

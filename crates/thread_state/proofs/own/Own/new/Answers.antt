use Rattle.std.proofs.Common.{arith, sym, subst}
use Rattle.thread_state.specs.Kept.{AreUpTo}
use Rattle.thread_state.proofs.Starts.{up_to_zeros}
use Rattle.thread_state.proofs.own.Own.new.Goals as goal

pub invariant_of-result : goal.invariant_of-result
invariant_of-result c = (omega arith, subst (AreUpTo 1) (sym (c.in_ok-vec-3.ensures.items_if_clones_equal (λ y e. e))) (up_to_zeros 1 _))

use Rattle.std.proofs.Common.{ℕ, ◌<◌, get_or}
use Rattle.forec_kernel.specs.Shapes.{plain_kernel}
use Rattle.tick_bounds.specs.Known.{HoldsBounds, IsRight}
use Rattle.tick_bounds.proofs.Ranks.{chain_length}
use Rattle.tick_bounds.proofs.functions.+visit.Given as goal

abbrev pub decreases-visit : goal.decreases-visit
decreases-visit l = chain_length (plain_kernel l.kernel.now) l.function

abbrev pub invariant-loop-callee : goal.invariant-loop-callee
invariant-loop-callee l =
    record {
      right : IsRight (plain_kernel l.kernel) l.known.items;
      kept : (g : ℕ) → HoldsBounds (plain_kernel l.kernel) l.fn.known.items g → HoldsBounds (plain_kernel l.kernel) l.known.items g;
      told : (j : ℕ) → j < l.callee-index → HoldsBounds (plain_kernel l.kernel) l.known.items (get_or l.callee-items j 0);
    }

use Rattle.std.proofs.Common.{ℕ, ◌<◌}
use Rattle.forec_kernel.specs.Shapes.{plain_kernel}
use Rattle.tick_bounds.specs.Known.{HoldsBounds, IsRight}
use Rattle.tick_bounds.proofs.functions.function_bounds.Given as goal

abbrev pub invariant-loop-function : goal.invariant-loop-function
invariant-loop-function l =
    record {
      right : IsRight (plain_kernel l.kernel) l.known.items;
      told : (g : ℕ) → g < l.function → HoldsBounds (plain_kernel l.kernel) l.known.items g;
    }

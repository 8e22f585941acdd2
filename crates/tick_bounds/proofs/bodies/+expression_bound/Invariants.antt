use Rattle.std.proofs.Common.{◌≡◌, ◌+◌, ◌≤◌, drop}
use Rattle.forec_kernel.specs.Plain.{exprs}
use Rattle.tick_bounds.specs.Bound.{exprs_bound}
use Rattle.tick_bounds.specs.Capped.{capped, known_at}
use Rattle.tick_bounds.proofs.bodies.+expression_bound.Given as goal

abbrev pub invariant-arguments_bound-loop-e : goal.invariant-arguments_bound-loop-e
invariant-arguments_bound-loop-e l =
    record {
      most : l.sum ≤ 4611686018427387905;
      told : capped (l.sum + exprs_bound (known_at l.functions) (exprs (drop l.e-index l.args))) ≡ capped (exprs_bound (known_at l.functions) (exprs l.fn.args));
    }

use Rattle.std.proofs.Common.{◌≡◌, ◌+◌, ◌≤◌, drop, map}
use Rattle.forec_kernel.specs.Shapes.{plain_kernel}
use Rattle.forec_kernel.specs.Plain.{branch}
use Rattle.forec_kernel.specs.WellFormed.{threads_in}
use Rattle.tick_bounds.specs.Bound as plain
use Rattle.tick_bounds.specs.Capped.{capped, known_at}
use Rattle.tick_bounds.proofs.pars.join_bound.Given as goal

abbrev pub invariant-loop-variable : goal.invariant-loop-variable
invariant-loop-variable l =
    record {
      most : l.sum ≤ 4611686018427387905;
      told : capped (l.sum + plain.join_bound (plain_kernel l.scope.kernel.now) (known_at l.scope.functions.now) (threads_in (map branch l.branches)) (drop l.variable-index l.scope.uses.now))
          ≡ capped (plain.join_bound (plain_kernel l.scope.kernel.now) (known_at l.scope.functions.now) (threads_in (map branch l.branches)) l.scope.uses.now);
    }

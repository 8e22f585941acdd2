use Rattle.std.proofs.Common.{◌≡◌, ◌+◌, ◌≤◌, drop, map}
use Rattle.forec_kernel.specs.Plain.{branch}
use Rattle.forec_kernel.specs.WellFormed.{threads_in}
use Rattle.tick_bounds.specs.Bound as plain
use Rattle.tick_bounds.specs.Capped.{capped, at_table}
use Rattle.tick_bounds.proofs.pars.bodies_bound.Given as goal

abbrev pub invariant-loop-launch : goal.invariant-loop-launch
invariant-loop-launch l =
    record {
      most : l.sum ≤ 4611686018427387905;
      told : capped (l.sum + plain.bodies_bound (at_table l.threads) (threads_in (map branch (drop l.launch-index l.branches))))
          ≡ capped (plain.bodies_bound (at_table l.threads) (threads_in (map branch l.fn.branches)));
    }

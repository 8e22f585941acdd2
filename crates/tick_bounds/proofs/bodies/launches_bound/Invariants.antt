use Rattle.std.proofs.Common.{◌≡◌, ◌+◌, ◌≤◌, drop, map}
use Rattle.forec_kernel.specs.Plain.{branch}
use Rattle.tick_bounds.specs.Bound as plain
use Rattle.tick_bounds.specs.Capped.{capped, known_at}
use Rattle.tick_bounds.proofs.bodies.launches_bound.Given as goal

abbrev pub invariant-loop-launch : goal.invariant-loop-launch
invariant-loop-launch l =
    record {
      most : l.sum ≤ 4611686018427387905;
      told : capped (l.sum + plain.args_bound (known_at l.functions) (map branch (drop l.launch-index l.branches)))
          ≡ capped (plain.args_bound (known_at l.functions) (map branch l.fn.branches));
    }

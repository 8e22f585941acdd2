use Rattle.std.proofs.Common.{◌≡◌, ◌+◌, ◌≤◌, drop, map}
use Rattle.forec_kernel.specs.Shapes.{plain_kernel}
use Rattle.forec_kernel.specs.Plain.{branch}
use Rattle.forec_kernel.specs.WellFormed as of
use Rattle.tick_bounds.proofs.pars.users.Given as goal

abbrev pub invariant-loop-launch : goal.invariant-loop-launch
invariant-loop-launch l =
    record {
      few : l.count ≤ l.launch-index;
      told : l.count + of.users (plain_kernel l.kernel) (of.threads_in (map branch (drop l.launch-index l.branches))) l.variable
          ≡ of.users (plain_kernel l.kernel) (of.threads_in (map branch l.fn.branches)) l.variable;
    }

use Rattle.std.proofs.Common.{◌≡◌, ◌+◌, ◌-◌, ◌^◌, ◌≤◌, min, sum, map, drop}
use Rattle.forec_tree.specs.Variables.{width}
use Rattle.text_kernel.specs.Items.{globals_of}
use Rattle.kernel_drafts.proofs.globals.variable_total.Given as goal

abbrev pub invariant-loop-global : goal.invariant-loop-global
invariant-loop-global l =
    record {
      small : l.total ≤ 2 ^ 64 - 1;
      told : min (l.total + sum (map width (globals_of (drop l.global-index l.globals)))) (2 ^ 64 - 1) ≡ min (sum (map width (globals_of l.globals))) (2 ^ 64 - 1);
    }

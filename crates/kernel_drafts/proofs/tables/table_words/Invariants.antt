use Rattle.std.proofs.Common.{◌≡◌, ◌+◌, ◌-◌, ◌^◌, ◌≤◌, min, sum, map, drop}
use Rattle.text_kernel.specs.Items.{globals_of, array_length}
use Rattle.kernel_drafts.proofs.tables.table_words.Given as goal

abbrev pub invariant-loop-global : goal.invariant-loop-global
invariant-loop-global l =
    record {
      small : l.total ≤ 2 ^ 64 - 1;
      told : min (l.total + sum (map array_length (globals_of (drop l.global-index l.arrays)))) (2 ^ 64 - 1) ≡ min (sum (map array_length (globals_of l.arrays))) (2 ^ 64 - 1);
    }

use Rattle.std.proofs.Common.{◌≡◌, ◌+◌, ◌-◌, ◌^◌, ◌≤◌, min, drop}
use Rattle.text_sizes.specs.Extents.{int_function_terms}
use Rattle.text_kernel.specs.Items.{functions_of}
use Rattle.text_sizes.proofs.extents.function_terms.Given as goal

abbrev pub invariant-loop-function : goal.invariant-loop-function
invariant-loop-function l =
    record {
      small : l.total ≤ 2 ^ 64 - 1;
      told : min (l.total + int_function_terms (functions_of (drop l.function-index l.functions))) (2 ^ 64 - 1) ≡ min (int_function_terms (functions_of l.functions)) (2 ^ 64 - 1);
    }

use Rattle.std.proofs.Common.{◌≡◌, ◌++◌, map, drop}
use Rattle.forec_kernel.specs.Plain as kernel
use Rattle.loop_check.specs.Views.{indexed_text}
use Rattle.kernel_drafts.specs.Drafts.{function_shape, function_text}
use Rattle.text_kernel.specs.Items.{functions_of}
use Rattle.kernel_drafts.proofs.functions.lowered_functions.Given as goal

abbrev pub invariant-loop-function : goal.invariant-loop-function
invariant-loop-function l =
    let text = indexed_text l.source.globals.index in
    record {
      shapes : l.shapes.items ++ map (function_shape text l.names) (functions_of (drop l.function-index l.functions)) ≡ map (function_shape text l.names) (functions_of l.fn.functions);
      bodies : map kernel.stmt l.bodies.items ++ map (function_text text l.names) (functions_of (drop l.function-index l.functions)) ≡ map (function_text text l.names) (functions_of l.fn.functions);
    }

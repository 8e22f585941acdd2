-- A small code: a thread that calls a function and counts what it gives, and the function.
use Rattle.std.specs.Prelude.{pos, None, List, [], ◌∷◌}
use Rattle.forec_kernel.specs.Shapes.{PlainShape}
use Rattle.thread_code.specs.declared.instruction.Instruction.{Instruction}
use Rattle.thread_code.specs.declared.instruction.Instruction.TheVariants.{Push, Load, Store, Call, Pause, Jump, Return}
use Rattle.thread_code.specs.Plain.{PlainBlock, PlainCode}

abbrev pub small_shape : PlainShape
small_shape =
    record {
      threads = record { parent = None; par = None; name = None; params = 0; words = 1; uses = [] } ∷ [];
      variables = [];
      functions = record { params = 1; words = 1 } ∷ [];
      tables = [];
      inputs = [];
      outputs = [];
      names = [];
    }

abbrev pub main_steps : List Instruction
main_steps = Load 0 ∷ Call 0 ∷ Store 0 ∷ Pause 4 ∷ Jump 0 ∷ []

abbrev pub function_steps : List Instruction
function_steps = Push (pos 7) ∷ Return ∷ []

abbrev pub small_main : PlainBlock
small_main = record { steps = main_steps; params = 0; words = 1; counters = 0; flags = 0 }

abbrev pub small_function : PlainBlock
small_function = record { steps = function_steps; params = 1; words = 1; counters = 0; flags = 0 }

abbrev pub small_code : PlainCode
small_code = record { shape = small_shape; threads = small_main ∷ []; functions = small_function ∷ [] }

-- Codes of worked programs.
use Rattle.std.proofs.Common.{ℤ, pos, false, None, List, [], ◌∷◌}
use Rattle.forec_base.specs.declared.Place.{Place}
use Rattle.forec_base.specs.declared.Policy.{Policy}
use Rattle.forec_base.specs.declared.operators.Binary.TheVariants as binary
use Rattle.forec_kernel.proofs.Worked.{counter, joined_sum, root, plain_variable}
use Rattle.thread_code.specs.declared.instruction.Instruction.{Instruction}
use Rattle.thread_code.specs.declared.instruction.Instruction.TheVariants.{Push, Load, Get, Put, GetAt, PutAt, Binary, Zero, Jump, Unit as Count, Fork, Again, Pause, End, Return}
use Rattle.thread_code.specs.Plain.{PlainBlock, PlainCode}

abbrev pub bare : List Instruction → PlainBlock
bare steps = record { steps = steps; params = 0; words = 0; counters = 0; flags = 0 }

-- while (1) { o = o + 1; pause; }
abbrev pub counter_steps : List Instruction
counter_steps =
    Push (pos 1) ∷ Zero 9 ∷ Get 0 ∷ Push (pos 1) ∷ Binary binary.Add None ∷ Put 0 ∷ Count 1 ∷ Pause 8 ∷ Jump 0 ∷ End ∷ []

abbrev pub counter_code : PlainCode
counter_code =
    record {
      shape = counter.shape;
      threads = bare counter_steps ∷ [];
      functions = [];
    }

-- par(a, b);
abbrev pub par_steps : List Instruction
par_steps = Fork 0 2 ∷ Jump 6 ∷ Pause 3 ∷ Again 0 5 ∷ Jump 6 ∷ Pause 3 ∷ End ∷ []

-- s = s + n; pause;
abbrev pub adding : ℤ → PlainBlock
adding n = bare (Get 0 ∷ Push n ∷ Binary binary.Add None ∷ Put 0 ∷ Count 1 ∷ Pause 6 ∷ End ∷ [])

-- return x + y;
abbrev pub plus : PlainBlock
plus = record { steps = Load 0 ∷ Load 1 ∷ Binary binary.Add None ∷ Return ∷ []; params = 2; words = 2; counters = 0; flags = 0 }

abbrev pub joined_code : Policy → PlainCode
joined_code policy =
    record { shape = (joined_sum policy).shape; threads = bare par_steps ∷ adding (pos 1) ∷ adding (pos 2) ∷ []; functions = plus ∷ [] }

-- h[1] = h[2]; of a shared array of three elements
abbrev pub array_steps : Place → List Instruction
array_steps at = Push (pos 1) ∷ Push (pos 2) ∷ GetAt 0 3 at ∷ PutAt 0 3 at ∷ End ∷ []

abbrev pub array_code : Place → PlainCode
array_code at =
    record {
      shape = record {
        threads = root (0 ∷ 1 ∷ 2 ∷ []) ∷ [];
        variables = plain_variable false (pos 0) ∷ plain_variable false (pos 0) ∷ plain_variable false (pos 0) ∷ [];
        functions = [];
        tables = [];
        inputs = [];
        outputs = [];
        names = [] ∷ [] ∷ [] ∷ [];
      };
      threads = bare (array_steps at) ∷ [];
      functions = [];
    }

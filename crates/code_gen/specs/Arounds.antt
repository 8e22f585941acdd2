-- What stands round a statement, as the generator has it.
use Rattle.std.specs.Prelude.{Option, Some, None, List, [], ◌∷◌}
use Rattle.forec_kernel.specs.Plain.{expr}
use Rattle.thread_code.specs.declared.instruction.Instruction.{Instruction}
use Rattle.code_gen.specs.declared.around.Around.{Around, Outside, InLoop', InAbort'}
use Rattle.code_gen.specs.Statements as plain

abbrev pub plain_around : Around → plain.Around
plain_around Outside = plain.Outside
plain_around (InLoop' bound p outer) = plain.InLoop bound (plain_around outer)
plain_around (InAbort' weak test exit p outer) = plain.InAbort weak (expr test.now) exit (plain_around outer)

-- an instruction that may be left out
abbrev pub optional_instruction : Option Instruction → List Instruction
optional_instruction None = []
optional_instruction (Some i) = i ∷ []

-- The worked element that is set, computed: its code, its step as a text, and its steps on the machine.
use Rattle.std.proofs.Common.{◌≡◌, pos, false, true, None, [], ◌∷◌, refl}
use Rattle.std.specs.Prelude.{ℤ, Bool, List}
use Rattle.std.specs.Int.{int_wrap}
use Rattle.forec_base.specs.declared.Trap.TheVariants.{Index}
use Rattle.forec_base.specs.declared.operators.Binary.TheVariants as binary
use Rattle.forec_kernel.specs.declared.shape.VarCopy.{VarCopy}
use Rattle.forec_kernel.specs.Texts.{Done, text_of, uses_of}
use Rattle.forec_kernel.specs.Steps.{Moves, Traps, text_move}
use Rattle.forec_kernel.specs.Engine.{run_for}
use Rattle.thread_code.specs.declared.instruction.Instruction.{Instruction}
use Rattle.thread_code.specs.declared.instruction.Instruction.TheVariants as instruction
use Rattle.thread_code.specs.Machine.{Machine, On, Trapped, step}
use Rattle.code_gen.specs.Blocks.{kernel_code, thread_block}
use Rattle.code_gen.specs.Worked.{worked_place, element_adds_one, three_elements}
use Rattle.code_gen.proofs.Stretch.{point}

abbrev steps : List Instruction
steps =
    instruction.Load 0
    ∷ instruction.Load 0
    ∷ instruction.GetAt 1 3 worked_place
    ∷ instruction.Push (pos 1)
    ∷ instruction.Binary binary.Add None
    ∷ instruction.PutAt 1 3 worked_place
    ∷ instruction.End
    ∷ []

code_is : (thread_block three_elements 0 element_adds_one).steps ≡ steps
code_is = refl

abbrev copy : ℤ → Bool → VarCopy
copy n marked = record { value = n; modified = marked }

-- r is 4, h is 7, 8, 9; i is 1
abbrev before : List VarCopy
before = copy (pos 4) false ∷ copy (pos 7) false ∷ copy (pos 8) false ∷ copy (pos 9) false ∷ []

abbrev after : List VarCopy
after = copy (pos 4) false ∷ copy (pos 7) false ∷ copy (pos 9) true ∷ copy (pos 9) false ∷ []

text_moves : text_move three_elements [] (uses_of three_elements 0) (pos 1 ∷ []) before (text_of element_adds_one) ≡ Moves Done (pos 1 ∷ []) after 6
unfolding int_wrap
text_moves = refl

text_traps : text_move three_elements [] (uses_of three_elements 0) (pos 3 ∷ []) before (text_of element_adds_one) ≡ Traps worked_place Index 3
text_traps = refl

abbrev begun : ℤ → Machine
begun i = On (point steps 0 [] (i ∷ []) []) [] (record { copies = before; flags = []; live = [] }) 0

code_runs : run_for (step (kernel_code three_elements) 0) 6 (begun (pos 1)) ≡ On (point steps 6 [] (pos 1 ∷ []) []) [] (record { copies = after; flags = []; live = [] }) 6
unfolding int_wrap
code_runs = refl

code_traps : run_for (step (kernel_code three_elements) 0) 3 (begun (pos 3)) ≡ Trapped worked_place Index 3
code_traps = refl

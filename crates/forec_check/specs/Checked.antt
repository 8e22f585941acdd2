-- What a checked program shows.
use Rattle.std.specs.Prelude.{◌≡◌, ◌+◌, ℕ, List, [], ◌∷◌, Result, Ok, Err}
use Rattle.forec_tree.specs.Terms.{Text, PlainItem, IsGlobal, IsFunction}
use Rattle.forec_tree.specs.Rules.{is_input}
use Rattle.forec_tree.specs.Plain.{program}
use Rattle.forec_tree.specs.declared.fault.Fault.{Fault}
use Rattle.forec_tree.specs.Faults.{IsFault, IsLeast, one_if, output_count}
use Rattle.forec_check.specs.declared.checked.Checked.{Checked}
use Rattle.forec_check.specs.declared.check_fault.CheckFault.{CheckFault}
use Rattle.forec_check.specs.declared.check_fault.CheckFault.TheVariants as fault

-- the text of a checked program, and the names that it keeps
abbrev pub checked_text : Checked → Text
checked_text c = program c.program

abbrev pub names_of : Checked → List (List ℕ)
names_of c = c.names.now

-- a refusal tells the least fault; out of memory is free
abbrev pub HasCheckCause : CheckFault → Text → List (List ℕ) → Type 0
HasCheckCause (fault.Broken place rule) text names = IsLeast (record { place = place; rule = rule }) (IsFault text names)
HasCheckCause fault.OutOfMemory text names = Unit {0}

-- how many inputs there are, and how many outputs, where each element of an array is one
abbrev pub count_inputs : Text → ℕ
count_inputs [] = 0
count_inputs (IsGlobal g ∷ rest) = one_if (is_input g.kind) + count_inputs rest
count_inputs (IsFunction f ∷ rest) = count_inputs rest

abbrev pub item_outputs : PlainItem → ℕ
item_outputs (IsGlobal g) = output_count g
item_outputs (IsFunction f) = 0

abbrev pub count_outputs : Text → ℕ
count_outputs [] = 0
count_outputs (i ∷ rest) = item_outputs i + count_outputs rest

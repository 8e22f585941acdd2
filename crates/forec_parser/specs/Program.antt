-- A program that is all of the tokens.
use Rattle.std.specs.Prelude.{◌≡◌, ◌≢◌, ◌≤◌, ◌-◌, ℕ, List, Result, Ok, Err}
use Rattle.forec_tree.specs.declared.token.Token.{Token}
use Rattle.forec_tree.specs.declared.tree.Program.{Program}
use Rattle.forec_tree.specs.Terms.{Text}
use Rattle.forec_tree.specs.Plain.{program}
use Rattle.expr_parser.specs.declared.fault.Fault.{Fault}
use Rattle.expr_parser.specs.declared.fault.Fault.TheVariants as inner
use Rattle.forec_parser.specs.declared.fault.ParseFault.{ParseFault}
use Rattle.forec_parser.specs.declared.fault.ParseFault.TheVariants.{Syntax, Deep, OutOfMemory}
use Rattle.expr_parser.specs.Input.{Input, Outcome, max_level}
use Rattle.forec_parser.specs.ViablePrefixes.{StopsAt, OpensAt}

-- What is answered where the tokens spell the text: it, unless memory fails.
abbrev pub AnswersProgram : Text → Result Program ParseFault → Type 0
AnswersProgram text (Ok p) = program p ≡ text
AnswersProgram text (Err f) = f ≡ OutOfMemory

-- What is read of all tokens is the outcome of reading items, unless memory fails.
pub record ReadsProgram (outcome : Outcome Text) (p : Program) : Type 0 where
  pub state : Input
  pub reads : outcome ≡ Ok (program p, state)

abbrev pub GivesProgram : Outcome Text → Result Program Fault → Type 0
GivesProgram outcome (Ok p) = ReadsProgram outcome p
GivesProgram outcome (Err f) = f ≢ inner.OutOfMemory → outcome ≡ Err f

-- Why no program is read. Want of memory has no cause in the tokens.
abbrev pub HasParseCause : List Token → ParseFault → Type 0
HasParseCause ts (Syntax token) = StopsAt max_level ts token
HasParseCause ts (Deep token) = OpensAt max_level ts token
HasParseCause ts OutOfMemory = Unit {0}

-- what the caller is told of a fault, of so many tokens
abbrev pub told_of : ℕ → Fault → ParseFault
told_of count (inner.Syntax left) = Syntax (count - left)
told_of count (inner.Deep left) = Deep (count - left)
told_of count inner.OutOfMemory = OutOfMemory

-- the refused token is one of so many, or stands after them
abbrev pub IsAmong : ℕ → Fault → Type 0
IsAmong count (inner.Syntax left) = left ≤ count
IsAmong count (inner.Deep left) = left ≤ count
IsAmong count inner.OutOfMemory = Unit {0}

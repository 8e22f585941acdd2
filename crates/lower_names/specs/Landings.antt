-- Where statements land: what the kernel has for them is what it has for another statement.
use Rattle.std.specs.Prelude.{ℕ, ◌+◌, ◌≡◌, Option, Some, None, List, [], slice_index_or}
use Rattle.forec_tree.specs.Plain.{statement}
use Rattle.forec_tree.specs.Terms.{Text, Statement, Group, Statements, no_statements, more_statements}
use Rattle.forec_tree.specs.Pauses.{within}
use Rattle.text_kernel.specs.Lowering.{NextNumbers, Inlined, inlined_step, nothing_inlined, lower_statement}
use Rattle.text_kernel.specs.declared.names.Slot.{Slot}
use Rattle.lower_names.specs.declared.landing.Landing.{Landing}

-- the statement of a list of one
abbrev pub only : Statements → Option Statement
only no_statements = None
only (more_statements a no_statements) = Some a
only (more_statements a (more_statements b rest)) = None

-- the statement in a group of one
abbrev pub only_in_group : Statement → Option Statement
only_in_group (Group at body) = only body
only_in_group _ = None

-- two statements become the same wherever they stand
abbrev pub SameKernel : Statement → Statement → Type 0
SameKernel a b = (text : Text) (called : ℕ → Inlined) (t : ℕ) (s : List Slot) (n : NextNumbers) → lower_statement text called t s n a ≡ lower_statement text called t s n b

-- what is called as a statement is inlined, up to so many calls deep
abbrev pub called_within : Text → ℕ → ℕ → Inlined
called_within text deep = within nothing_inlined (inlined_step text) deep

-- The function of a name becomes what the statement of its landing does, which sees global names alone and so many calls fewer.
abbrev pub FunctionLands : Text → ℕ → Option Landing → Type 0
FunctionLands text id None = Unit {0}
FunctionLands text id (Some l) =
    (above first t : ℕ) (n : NextNumbers) → called_within text (l.calls + above) id first t n ≡ lower_statement text (called_within text above) t [] n (statement l.statement.now)

abbrev pub AllLand : Text → List (Option Landing) → Type 0
AllLand text table = (id : ℕ) → FunctionLands text id (slice_index_or table id None)

-- the same of a statement, which is a call
abbrev pub CallLands : Text → Statement → Option Landing → Type 0
CallLands text a None = Unit {0}
CallLands text a (Some l) =
    (above t : ℕ) (s : List Slot) (n : NextNumbers) →
    lower_statement text (called_within text (l.calls + above)) t s n a ≡ lower_statement text (called_within text above) t [] n (statement l.statement.now)

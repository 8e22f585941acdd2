-- Parts of the plain tree, as the grammar makes them.
use Rattle.std.specs.Prelude.{ℤ, List, [], ◌∷◌, Option, Some, None}
use Rattle.forec_base.specs.declared.Place.{Place}
use Rattle.forec_base.specs.declared.operators.Binary.{Binary}
use Rattle.forec_base.specs.declared.operators.Binary.TheVariants as bin
use Rattle.forec_tree.specs.declared.token.TokenKind.{TokenKind}
use Rattle.forec_tree.specs.declared.token.TokenKind.TheVariants as kind
use Rattle.forec_tree.specs.declared.token.Mark.TheVariants as mark
use Rattle.forec_tree.specs.declared.tree.Name.{Name}
use Rattle.forec_tree.specs.declared.tree.Number.{Number}
use Rattle.forec_tree.specs.declared.tree.OpAt.{OpAt}
use Rattle.forec_tree.specs.declared.tree.Combine.{Combine}
use Rattle.forec_tree.specs.declared.tree.GlobalKind.{GlobalKind}
use Rattle.forec_tree.specs.Terms.{Term, Terms, Declared, PlainTarget, Statement, Statements, no_statements, more_statements, Perhaps, Branches, no_branches, by_call, by_group, PlainGlobal}
use Rattle.forec_tree.specs.Spelling.{listed}

abbrev pub number_at : ℤ → Place → Number
number_at value place = record { value = value; place = place }

abbrev pub op_at : Binary → Place → OpAt
op_at op place = record { op = op; place = place }

-- the operator of `+=` and its kin
abbrev pub updates_by : TokenKind → Option Binary
updates_by (kind.Mark mark.ShlAssign) = Some bin.Shl
updates_by (kind.Mark mark.ShrAssign) = Some bin.Shr
updates_by (kind.Mark mark.AddAssign) = Some bin.Add
updates_by (kind.Mark mark.SubAssign) = Some bin.Sub
updates_by (kind.Mark mark.MulAssign) = Some bin.Mul
updates_by (kind.Mark mark.DivAssign) = Some bin.Div
updates_by (kind.Mark mark.RemAssign) = Some bin.Rem
updates_by (kind.Mark mark.AndAssign) = Some bin.BitAnd
updates_by (kind.Mark mark.OrAssign) = Some bin.BitOr
updates_by (kind.Mark mark.XorAssign) = Some bin.BitXor
updates_by _ = None

-- the operator of `++` and `--`
abbrev pub steps_by : TokenKind → Option Binary
steps_by (kind.Mark mark.PlusPlus) = Some bin.Add
steps_by (kind.Mark mark.MinusMinus) = Some bin.Sub
steps_by _ = None

abbrev pub written_at : Name → Option Term → PlainTarget
written_at name index = record { name = name; index = index }

abbrev pub declared_as : Name → Option Number → List Term → Declared
declared_as name length values = record { name = name; length = length; values = listed values }

-- the statements of a list, as a statement holds them
abbrev pub in_order : List Statement → Statements
in_order [] = no_statements
in_order (s ∷ ss) = more_statements s (in_order ss)

-- a branch of a `par`: a void function with arguments, or a block
pub data Launch : Type 0 where
  Calls : (name : Name) → (args : Terms) → Launch
  Blocks : (place : Place) → (body : Statements) → Launch

abbrev pub launched_before : Launch → Branches → Branches
launched_before (Calls name args) rest = by_call name args rest
launched_before (Blocks place body) rest = by_group place body rest

abbrev pub launched : List Launch → Branches
launched [] = no_branches
launched (b ∷ bs) = launched_before b (launched bs)

-- the head of a `for`
pub record Head : Type 0 where
  pub start : Perhaps
  pub test : Option Term
  pub step : Perhaps

abbrev pub head_of : Perhaps → Option Term → Perhaps → Head
head_of start test step = record { start = start; test = test; step = step }

abbrev pub global_of : GlobalKind → Option Combine → Name → Option Number → List Number → PlainGlobal
global_of kind combine name length values = record { name = name; kind = kind; length = length; values = values; combine = combine }

-- How many threads and `par`s a text adds, with those of the functions that are inlined.
use Rattle.std.specs.Prelude.{◌≡◌, ◌≤◌, ℕ, ◌+◌, Option, Some, None, List, slice_index_or}
use Rattle.forec_tree.specs.Terms.{Text, PlainFunction, Statement, Statements, Perhaps, Branches}
use Rattle.forec_tree.specs.Pauses.{find_function}
use Rattle.text_kernel.specs.Lowering.{NextNumbers, lower_statement, lower_list, lower_perhaps, lower_branches}
use Rattle.text_kernel.specs.declared.names.Slot.{Slot}
use Rattle.lower_names.specs.declared.added.Added.{Added}
use Rattle.lower_names.specs.Landings.{called_within}

abbrev pub no_additions : Added
no_additions = record { threads = 0; pars = 0; calls = 0 }

-- the numbers go on after so many threads and `par`s more
pub record AdvancesNumbers (a : Added) (from to : NextNumbers) : Type 0 where
  pub thread : to.thread ≡ from.thread + a.threads
  pub par : to.par ≡ from.par + a.pars

-- A text adds as many wherever it is, if so many calls may nest.
abbrev pub StatementAdds : Text → Statement → Added → Type 0
StatementAdds text s a = (deep t : ℕ) (scope : List Slot) (n : NextNumbers) → a.calls ≤ deep → AdvancesNumbers a n (lower_statement text (called_within text deep) t scope n s).next

abbrev pub PerhapsAdds : Text → Perhaps → Added → Type 0
PerhapsAdds text s a = (deep t : ℕ) (scope : List Slot) (n : NextNumbers) → a.calls ≤ deep → AdvancesNumbers a n (lower_perhaps text (called_within text deep) t scope n s).next

abbrev pub ListAdds : Text → Statements → Added → Type 0
ListAdds text list a = (deep t : ℕ) (scope : List Slot) (n : NextNumbers) → a.calls ≤ deep → AdvancesNumbers a n (lower_list text (called_within text deep) t scope n list).next

abbrev pub BranchesAdd : Text → Branches → Added → Type 0
BranchesAdd text bs a = (deep t p : ℕ) (scope : List Slot) (n : NextNumbers) → a.calls ≤ deep → AdvancesNumbers a n (lower_branches text (called_within text deep) t scope p n bs).next

-- the same of the function of a name
abbrev pub FunctionAdds : Text → ℕ → Option Added → Type 0
FunctionAdds text id None = Unit {0}
FunctionAdds text id (Some a) = (deep first t : ℕ) (n : NextNumbers) → a.calls ≤ deep → AdvancesNumbers a n (called_within text deep id first t n).next

-- the same of a function that the text has
abbrev pub BodyAdds : Text → PlainFunction → Added → Type 0
BodyAdds text f a = (id : ℕ) → find_function id text ≡ Some f → FunctionAdds text id (Some a)

abbrev pub AllAdd : Text → List (Option Added) → Type 0
AllAdd text table = (id : ℕ) → FunctionAdds text id (slice_index_or table id None)

-- what two texts add together
pub record AddsTogether (a b both : Added) : Type 0 where
  pub threads : both.threads ≡ a.threads + b.threads
  pub pars : both.pars ≡ a.pars + b.pars
  pub first : a.calls ≤ both.calls
  pub second : b.calls ≤ both.calls

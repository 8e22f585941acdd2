-- What a table says of each function, and the lists that a walk collects.
use Rattle.std.specs.Prelude.{◌≡◌, ◌<◌, ◌≤◌, ℕ, length, take, Bool, true, false, not, Option, Some, None, List, [], slice_index_or}
use Rattle.forec_tree.specs.Terms.{Text, PlainItem, IsGlobal, IsFunction, PlainFunction}
use Rattle.forec_tree.specs.Pauses.{find_function, all_started}
use Rattle.forec_tree.specs.Faults.{is_in}
use Rattle.forec_tree.specs.Rules.{is_none}
use Rattle.forec_tree.specs.Plain.{plain_function}
use Rattle.forec_tree.specs.declared.tree.Function.{Function}
use Rattle.std.specs.Borrow.{Bor}

abbrev pub known : List Bool → ℕ → Bool
known table id = slice_index_or table id false

abbrev pub is_function : Text → ℕ → Bool
is_function text id = not (is_none (find_function id text))

-- a function of the tree, and its plain value
abbrev pub FunctionOf : Option (Bor Function) → Option PlainFunction → Type 0
FunctionOf None f = f ≡ None
FunctionOf (Some r) f = f ≡ Some (plain_function r.now)

-- a list of each function; none where there is no function
abbrev pub list_at : (PlainFunction → List ℕ) → Option PlainFunction → List ℕ
list_at of None = []
list_at of (Some f) = of f

-- the list of a function
abbrev pub IsListOf : (PlainFunction → List ℕ) → PlainItem → List ℕ → Type 0
IsListOf of (IsGlobal g) list = Unit {0}
IsListOf of (IsFunction f) list = list ≡ of f

abbrev pub started_in : PlainFunction → List ℕ
started_in f = all_started f.body

-- the functions among some items, and a list of each
pub record Read (of : PlainFunction → List ℕ) (text : Text) (functions : List ℕ) (calls : ℕ → List ℕ) : Type 0 where
  pub stands : (id : ℕ) → is_in id functions ≡ is_function text id
  pub lists : (id : ℕ) → calls id ≡ list_at of (find_function id text)
  pub few : length functions ≤ length text

-- one more item with its list, whatever list of a function it is
abbrev pub AddsItem : Text → Text → PlainItem → List ℕ → List ℕ → List ℕ → (ℕ → List ℕ) → (ℕ → List ℕ) → Type 0
AddsItem before after item list functions functions_after calls calls_after =
    (of : PlainFunction → List ℕ) → IsListOf of item list → Read of before functions calls → Read of after functions_after calls_after

-- right at the first so many of an order, and false elsewhere
pub record AgreesOnFirst (value : ℕ → Bool) (order : List ℕ) (n : ℕ) (table : ℕ → Bool) : Type 0 where
  pub inside : (g : ℕ) → is_in g (take n order) ≡ true → table g ≡ value g
  pub outside : (g : ℕ) → is_in g (take n order) ≡ false → table g ≡ false

-- a table of answers is right for the first so many functions of an order, if each is judged by those before it
abbrev pub IsRightTable : ((ℕ → Bool) → ℕ → Bool) → List ℕ → ℕ → (ℕ → Bool) → Type 0
IsRightTable step order n table =
    (value : ℕ → Bool) → ((k : ℕ) (a : ℕ → Bool) → k < length order → AgreesOnFirst value order k a → step a (slice_index_or order k 0) ≡ value (slice_index_or order k 0)) →
    AgreesOnFirst value order n table

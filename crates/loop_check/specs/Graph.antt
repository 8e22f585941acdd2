-- An order of functions in which each stands after those that it calls.
use Rattle.std.specs.Prelude.{ℕ, ◌+◌, ◌<◌, ◌≤◌, ◌≡◌, ◌==◌, Bool, true, false, not, cond, ◌&&◌, ◌||◌, Option, Some, None, List, [], ◌∷◌, length, take, slice_get, slice_index_or}
use Rattle.std.specs.declared.vec.Vec.{Vec}
use Rattle.std.specs.declared.alloc.Global.{Global}
use Rattle.forec_tree.specs.Faults.{is_in}

-- the lists of a table by number; none past its end
abbrev pub list_of : Option (Vec ℕ Global) → List ℕ
list_of None = []
list_of (Some v) = v.items

abbrev pub callees : List (Vec ℕ Global) → ℕ → List ℕ
callees calls f = list_of (slice_get calls f)

-- each stands after those of its callees that are functions
abbrev pub CalleesFirst : List ℕ → (ℕ → List ℕ) → List ℕ → Type 0
CalleesFirst functions calls order =
    (k g : ℕ) → k < length order → is_in g (calls (slice_index_or order k 0)) ≡ true → is_in g functions ≡ true → is_in g (take k order) ≡ true

-- a function that is left over calls one that is left over
pub record Stuck (functions : List ℕ) (calls : ℕ → List ℕ) (order : List ℕ) (f : ℕ) : Type 0 where
  pub callee : ℕ
  pub called : is_in callee (calls f) ≡ true
  pub stands : is_in callee functions ≡ true
  pub left : is_in callee order ≡ false

pub record IsOrder (functions : List ℕ) (calls : ℕ → List ℕ) (order : List ℕ) : Type 0 where
  pub first : CalleesFirst functions calls order
  pub stuck : (f : ℕ) → is_in f functions ≡ true → is_in f order ≡ false → Stuck functions calls order f
  pub short : length order ≤ length functions

-- how many marks are set
abbrev pub trues : List Bool → ℕ
trues [] = 0
trues (b ∷ bs) = cond b 1 0 + trues bs

abbrev pub any_waits : List Bool → List ℕ → Bool
any_waits marks [] = false
any_waits marks (g ∷ gs) = slice_index_or marks g false || any_waits marks gs

-- the marks of the functions that are not in the order yet
pub record MarksUnordered (functions : List ℕ) (calls : ℕ → List ℕ) (marks : List Bool) (order : List ℕ) : Type 0 where
  pub right : (g : ℕ) → slice_index_or marks g false ≡ (is_in g functions && not (is_in g order))
  pub first : CalleesFirst functions calls order
  pub short : trues marks + length order ≤ length functions

-- each of the first functions that waits has a callee that waits
abbrev pub Held : List ℕ → (ℕ → List ℕ) → List Bool → ℕ → Type 0
Held functions calls marks n =
    (k : ℕ) → k < n → slice_index_or marks (slice_index_or functions k 0) false ≡ true → any_waits marks (calls (slice_index_or functions k 0)) ≡ true

-- a mark after one was set
abbrev pub set_at : ℕ → ℕ → Bool → Bool
set_at f g before = cond (f == g) true before

-- functions alone call others
abbrev pub FunctionsCall : List ℕ → (ℕ → List ℕ) → Type 0
FunctionsCall functions calls = (g h : ℕ) → is_in h (calls g) ≡ true → is_in g functions ≡ true

-- ---- ranks

abbrev pub rank_at : List ℕ → ℕ → ℕ
rank_at ranks f = slice_index_or ranks f 0

-- no call leads to a function of a higher rank
abbrev pub NeverUp : (ℕ → List ℕ) → List ℕ → Type 0
NeverUp calls ranks = (f g : ℕ) → is_in g (calls f) ≡ true → rank_at ranks g ≤ rank_at ranks f

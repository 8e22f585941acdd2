-- The numbers of a program's variables: those of one item stand in a row, and the rows of two items don't meet.
use Rattle.std.proofs.Common.{ℕ, zero, suc, ◌+◌, ◌<◌, ◌≤◌, ◌≡◌, ◌∙◌, sym, ap, refl, Bool, true, false, cond, ◌==◌, Some, None, [], ◌∷◌, length, arith}
use Rattle.std.proofs.lemmas.Bool.{and_from}
use Rattle.std.proofs.lemmas.Bool.Decides.{nat_tests}
use Rattle.forec_tree.specs.declared.tree.GlobalKind.{GlobalKind}
use Rattle.forec_tree.specs.declared.tree.GlobalKind.TheVariants.{Const, Input, Output, Plain, Shared, SharedOutput}
use Rattle.forec_tree.specs.declared.tree.Number.{Number}
use Rattle.forec_tree.specs.Terms.{Text, PlainItem, PlainGlobal, IsGlobal, IsFunction}
use Rattle.forec_tree.specs.Scopes.{is_constant, may_be_array, stated_length, is_in}
use Rattle.forec_tree.specs.Variables.{width, count_variables}
use Rattle.forec_kernel.specs.Combining.{contains}
use Rattle.forec_kernel.specs.WellFormed.{count_up, all_in}
use Rattle.text_kernel.specs.Bindings.{variables_in, variable_number, item_id}

-- ---- stated lengths

constant_array : (k : GlobalKind) → is_constant k ≡ true → may_be_array k ≡ true
constant_array Const h = refl
constant_array Input h = cc
constant_array Output h = cc
constant_array Plain h = cc
constant_array Shared h = cc
constant_array SharedOutput h = cc

pub constant_length : (g : PlainGlobal) → is_constant g.kind ≡ true → stated_length g ≡ g.length
constant_length g h = ap (λ b. cond b g.length None) (constant_array g.kind h)

pub stated_is : (g : PlainGlobal) (n : Number) → stated_length g ≡ Some n → g.length ≡ Some n
stated_is g n h = pick (may_be_array g.kind) h
  where
    pick : (b : Bool) → cond b g.length None ≡ Some n → g.length ≡ Some n
    pick true e = e
    pick false e = cc

-- ---- numbers in a row

pub contains_row : (v from n : ℕ) → from ≤ v → v < from + n → contains v (count_up from n) ≡ true
contains_row v from zero h l = absurd (omega arith)
contains_row v from (suc n) h l = step (from == v) refl (λ g. contains_row v (suc from) n g (omega arith))
  where
    step : (b : Bool) → (from == v) ≡ b → (suc from ≤ v → contains v (count_up (suc from) n) ≡ true) → cond (from == v) true (contains v (count_up (suc from) n)) ≡ true
    step true e f = rw e refl
    step false e f = let more : suc from ≤ v = grind (arith, nat_tests) in rw e (f more)

pub row_within : (from n most : ℕ) → from + n ≤ most → all_in (count_up from n) (count_up 0 most) ≡ true
row_within from zero most l = refl
row_within from (suc n) most l =
    and_from (contains from (count_up 0 most)) (all_in (count_up (suc from) n) (count_up 0 most)) (contains_row from 0 most (omega arith) (omega (arith, l)))
    (row_within (suc from) n most (omega (arith, l)))

pub in_row : (v from n : ℕ) → from ≤ v → v < from + n → is_in v (count_up from n) ≡ true
in_row v from zero h l = absurd (omega arith)
in_row v from (suc n) h l = step (from == v) refl (λ g. in_row v (suc from) n g (omega arith))
  where
    step : (b : Bool) → (from == v) ≡ b → (suc from ≤ v → is_in v (count_up (suc from) n) ≡ true) → cond (from == v) true (is_in v (count_up (suc from) n)) ≡ true
    step true e f = rw e refl
    step false e f = let more : suc from ≤ v = grind (arith, nat_tests) in rw e (f more)

pub record RowOf (v from n : ℕ) : Type 0 where
  pub low : from ≤ v
  pub high : v < from + n

pub row_of : (v from n : ℕ) → is_in v (count_up from n) ≡ true → RowOf v from n
row_of v from zero h = cc
row_of v from (suc n) h = step (from == v) refl (λ g. row_of v (suc from) n g)
  where
    step : (b : Bool) → (from == v) ≡ b → (is_in v (count_up (suc from) n) ≡ true → RowOf v (suc from) n) → RowOf v from (suc n)
    step true e f = let same : from ≡ v = grind (arith, nat_tests) in record { low = omega (arith, same); high = omega (arith, same) }
    step false e f =
        let r = f (sym (ap (λ b. cond b true (is_in v (count_up (suc from) n))) e) ∙ h) in
        let low = r.low in
        let high = r.high in
        record { low = omega (arith, low); high = omega (arith, high) }

-- ---- items

-- the item that is found is the first one of the name
pub data First (id : ℕ) (i : PlainItem) : Text → Type 0 where
  first : {rest : Text} → (item_id i == id) ≡ true → First id i (i ∷ rest)
  further : {y : PlainItem} {rest : Text} → (item_id y == id) ≡ false → First id i rest → First id i (y ∷ rest)

pub count_more : (y : PlainItem) (t : Text) → count_variables (y ∷ t) ≡ variables_in y + count_variables t
count_more (IsFunction f) t = omega arith
count_more (IsGlobal g) t = elim (is_constant g.kind) as (λ b. cond b (count_variables t) (width g + count_variables t) ≡ cond b 0 (width g) + count_variables t) [ true ↦ omega arith | false ↦ refl ]

pub width_of : (g : PlainGlobal) → is_constant g.kind ≡ false → variables_in (IsGlobal g) ≡ width g
width_of g h = ap (λ b. cond b 0 (width g)) h

-- an item with the name, and one with another
pub own_number : (id : ℕ) (y : PlainItem) (t : Text) → (item_id y == id) ≡ true → variable_number id (y ∷ t) ≡ 0
own_number id y t e = ap (λ b. cond b 0 (variables_in y + variable_number id t)) e

pub next_number : (id : ℕ) (y : PlainItem) (t : Text) → (item_id y == id) ≡ false → variable_number id (y ∷ t) ≡ variables_in y + variable_number id t
next_number id y t e = ap (λ b. cond b 0 (variables_in y + variable_number id t)) e

-- the last variable of an item is one of the program
pub numbers_below : (id : ℕ) (i : PlainItem) (text : Text) → First id i text → variable_number id text + variables_in i ≤ count_variables text
numbers_below id i [] x = elim x [ ]
numbers_below id i (y ∷ rest) (first e) = let n = own_number id y rest e in let c = count_more y rest in omega (arith, n, c)
numbers_below id i (y ∷ rest) (further e f) =
    let n = next_number id y rest e in
    let c = count_more y rest in
    let r = numbers_below id i rest f in
    omega (arith, n, c, r)

-- a number that is in the rows of two names
pub apart : (m n k : ℕ) (a b : PlainItem) (text : Text) → First m a text → First n b text → k < variables_in b → RowOf (variable_number n text + k) (variable_number m text) (variables_in a) → m ≡ n
apart m n k a b [] p q l r = elim p [ ]
apart m n k a b (y ∷ rest) (first d) (first f) l r = grind (arith, nat_tests)
apart m n k a b (y ∷ rest) (first d) (further f q) l r =
    let left = own_number m y rest d in
    let right = next_number n y rest f in
    let high = r.high in
    absurd (omega (arith, left, right, high))
apart m n k a b (y ∷ rest) (further d p) (first f) l r =
    let left = next_number m y rest d in
    let right = own_number n y rest f in
    let low = r.low in
    absurd (omega (arith, left, right, low, l))
apart m n k a b (y ∷ rest) (further d p) (further f q) l r =
    let left = next_number m y rest d in
    let right = next_number n y rest f in
    let low = r.low in
    let high = r.high in
    apart m n k a b rest p q l (record { low = omega (arith, left, right, low); high = omega (arith, left, right, high) })

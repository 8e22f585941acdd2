-- Combining costs at most one call less than there are branches that use the variable, for each variable.
use Rattle.std.proofs.Common.{ℕ, zero, suc, ◌+◌, ◌-◌, ◌*◌, ◌≤◌, ◌≡◌, ◌==◌, nat_lt, ℤ, Bool, true, false, cond, ◌&&◌, Option, Some, None, List, [], ◌∷◌, ◌++◌, length, refl, arith}
use Rattle.std.proofs.lemmas.Bool.Decides.{nat_tests}
use Rattle.forec_base.specs.declared.Policy.{Policy}
use Rattle.forec_kernel.specs.declared.shape.VarCopy.{VarCopy}
use Rattle.forec_kernel.specs.Shapes.{PlainKernel}
use Rattle.forec_kernel.specs.Values.{Value, Gives, Raises, more_units, call, copy_of}
use Rattle.forec_kernel.specs.Texts.{Threads, no_threads, child, is_active, uses_of}
use Rattle.forec_kernel.specs.Combining.{Share, contains, shares, takes_part, taking_part, Joint, fold_calls, variable_calls, variable_of, combine_of, part_of, joint_calls, calls_from, calls_at, count_threads, calls_in_order, Cost, Costs, Fails, more_cost, cost_of, join_cost}
use Rattle.forec_kernel.specs.WellFormed.{users}
use Rattle.tick_bounds.specs.Bound.{calls_bound, join_bound, function_bound}
use Rattle.bound_laws.proofs.ValueBounds.{cost, more_le, call_le}

-- the threads of some children
abbrev pub numbers : Threads → List ℕ
numbers no_threads = []
numbers (child t R w c st rest) = t ∷ numbers rest

abbrev pub join_units : Cost → ℕ
join_units (Costs u) = u
join_units (Fails place trap u) = u

-- ---- the units of all calls are at least those up to the first trap

abbrev units_sum : List Value → ℕ
units_sum [] = 0
units_sum (v ∷ vs) = cost v + units_sum vs

more_cost_le : (u : ℕ) (c : Cost) (n : ℕ) → join_units c ≤ n → join_units (more_cost u c) ≤ u + n
more_cost_le u (Costs v) n h = omega arith
more_cost_le u (Fails place trap v) n h = omega arith

cost_of_le : (vs : List Value) → join_units (cost_of vs) ≤ units_sum vs
cost_of_le [] = omega arith
cost_of_le (Gives n u ∷ vs) = more_cost_le u (cost_of vs) (units_sum vs) (cost_of_le vs)
cost_of_le (Raises place trap u ∷ vs) = omega arith

sum_append : (vs ws : List Value) → units_sum (vs ++ ws) ≡ units_sum vs + units_sum ws
sum_append [] ws = omega arith
sum_append (v ∷ vs) ws = omega (arith, sum_append vs ws)

-- ---- branch by branch, each call is counted once

-- the calls of branches from place j on
abbrev sum_from : ℕ → List Joint → ℕ
sum_from j [] = 0
sum_from j (c ∷ cs) = cond (nat_lt c.from j) 0 (cost c.gives) + sum_from j cs

abbrev all_from : ℕ → List (List Joint) → ℕ
all_from j [] = 0
all_from j (cs ∷ css) = sum_from j cs + all_from j css

one_place : (c : Joint) (j : ℕ) (rest : List Value) (n m : ℕ) (here below below_next : Bool) → (c.from == j) ≡ here → nat_lt c.from j ≡ below →
    nat_lt c.from (suc j) ≡ below_next → units_sum rest + n ≤ m →
    units_sum (cond here (c.gives ∷ rest) rest) + (cond below_next 0 (cost c.gives) + n) ≤ cond below 0 (cost c.gives) + m
one_place c j rest n m true true bn e1 e2 e3 h = absurd (grind (arith, nat_tests))
one_place c j rest n m true false true e1 e2 e3 h = omega arith
one_place c j rest n m true false false e1 e2 e3 h = absurd (grind (arith, nat_tests))
one_place c j rest n m false true true e1 e2 e3 h = omega arith
one_place c j rest n m false true false e1 e2 e3 h = absurd (grind (arith, nat_tests))
one_place c j rest n m false false true e1 e2 e3 h = omega arith
one_place c j rest n m false false false e1 e2 e3 h = omega arith

from_le : (j : ℕ) (cs : List Joint) → units_sum (calls_from j cs) + sum_from (suc j) cs ≤ sum_from j cs
from_le j [] = omega arith
from_le j (c ∷ cs) =
    one_place c j (calls_from j cs) (sum_from (suc j) cs) (sum_from j cs) (c.from == j) (nat_lt c.from j) (nat_lt c.from (suc j)) refl refl refl
    (from_le j cs)

at_le : (j : ℕ) (css : List (List Joint)) → units_sum (calls_at j css) + all_from (suc j) css ≤ all_from j css
at_le j [] = omega arith
at_le j (cs ∷ css) = omega (arith, from_le j cs, at_le j css, sum_append (calls_from j cs) (calls_at j css))

in_order_le : (n j : ℕ) (css : List (List Joint)) → units_sum (calls_in_order j n css) ≤ all_from j css
in_order_le zero j css = omega arith
in_order_le (suc n) j css = omega (arith, in_order_le n (suc j) css, at_le j css, sum_append (calls_at j css) (calls_in_order (suc j) n css))

-- ---- the calls for one variable

abbrev joint_sum : List Joint → ℕ
joint_sum [] = 0
joint_sum (c ∷ cs) = cost c.gives + joint_sum cs

from_all : (j : ℕ) (cs : List Joint) → sum_from j cs ≤ joint_sum cs
from_all j [] = omega arith
from_all j (c ∷ cs) = pick (nat_lt c.from j) (from_all j cs)
  where
    pick : (b : Bool) → sum_from j cs ≤ joint_sum cs → cond b 0 (cost c.gives) + sum_from j cs ≤ cost c.gives + joint_sum cs
    pick true h = omega arith
    pick false h = omega arith

fold_le : (f : ℤ → ℤ → Value) (b : ℕ) → ((x y : ℤ) → cost (f x y) ≤ b) → (ss : List Share) (total : ℤ) →
    joint_sum (fold_calls f total ss) ≤ length ss * b
fold_le f b h [] total = omega arith
fold_le f b h (s ∷ ss) total = pick (f total s.copy.value) (h total s.copy.value) (λ n. fold_le f b h ss n)
  where
    pick : (v : Value) → cost v ≤ b → ((n : ℤ) → joint_sum (fold_calls f n ss) ≤ length ss * b) →
        joint_sum
        (elim v [
          | Gives n u ↦ record { from = s.from; gives = Gives n u } ∷ fold_calls f n ss
          | Raises place trap u ↦ record { from = s.from; gives = Raises place trap u } ∷ []
        ]) ≤ suc (length ss) * b
    pick (Gives n u) e ih = omega (arith, ih n)
    pick (Raises place trap u) e ih = omega arith

taking_few : (policy : Policy) (base : ℤ) (ss : List Share) → length (taking_part policy base ss) ≤ length ss
taking_few policy base [] = omega arith
taking_few policy base (s ∷ ss) = pick (takes_part policy base s.copy) (taking_few policy base ss)
  where
    pick : (b : Bool) → length (taking_part policy base ss) ≤ length ss →
        length (cond b (s ∷ taking_part policy base ss) (taking_part policy base ss)) ≤ suc (length ss)
    pick true h = omega arith
    pick false h = omega arith

shares_few : (k : PlainKernel) (v j : ℕ) (cs : Threads) → length (shares k v j cs) ≤ users k (numbers cs) v
shares_few k v j no_threads = omega arith
shares_few k v j (child t R w c st rest) =
    pick (is_active st) (contains v (uses_of k t)) (shares_few k v (suc j) rest)
  where
    pick : (a b : Bool) → length (shares k v (suc j) rest) ≤ users k (numbers rest) v →
        length
        (cond (a && b) (record { from = j; copy = copy_of (uses_of k t) c v } ∷ shares k v (suc j) rest) (shares k v (suc j) rest))
        ≤ cond b (suc (users k (numbers rest) v)) (users k (numbers rest) v)
    pick true true h = omega arith
    pick true false h = h
    pick false true h = omega arith
    pick false false h = h

product_le : (a m b : ℕ) → suc a ≤ m → a * b ≤ (m - 1) * b
product_le a m b h = let less : a ≤ m - 1 = omega arith in grind arith

variable_le : (k : PlainKernel) (g : Option ℕ) (ss : List Share) (m : ℕ) → length ss ≤ m →
    joint_sum (variable_calls (combine_of k g) ss) ≤ calls_bound (function_bound k) g m
variable_le k None [] m h = omega arith
variable_le k None (s ∷ ss) m h = omega arith
variable_le k (Some g) [] m h = omega arith
variable_le k (Some g) (s ∷ ss) m h =
    let b = 1 + function_bound k g in
    let folded : joint_sum (variable_calls (combine_of k (Some g)) (s ∷ ss)) ≤ length ss * b =
    fold_le (λ x y. more_units 1 (call k g (x ∷ y ∷ []))) b
    (λ x y. more_le 1 (call k g (x ∷ y ∷ [])) (function_bound k g) b (call_le k _ g (x ∷ y ∷ [])) (omega arith)) ss s.copy.value in
    omega (arith, product_le (length ss) m b h)

-- ---- all variables of one join

calls_le : (k : PlainKernel) (cs : Threads) (vs : List ℕ) (copies : List VarCopy) →
    all_from 0 (joint_calls k cs vs copies) ≤ join_bound k (function_bound k) (numbers cs) vs
calls_le k cs [] copies = omega arith
calls_le k cs (v ∷ vs) [] = omega arith
calls_le k cs (v ∷ vs) (c ∷ copies) =
    let part = part_of k cs v c.value in
    let few : length part ≤ users k (numbers cs) v =
    omega (arith, taking_few (variable_of k v).policy c.value (shares k v 0 cs), shares_few k v 0 cs) in
    let g = (variable_of k v).combine in
    let one : joint_sum (variable_calls (combine_of k g) part) ≤ calls_bound (function_bound k) g (users k (numbers cs) v) =
    variable_le k g part (users k (numbers cs) v) few in
    omega (arith, from_all 0 (variable_calls (combine_of k g) part), calls_le k cs vs copies)

pub join_le : (k : PlainKernel) (cs : Threads) (uses : List ℕ) (copies : List VarCopy) →
    join_units (join_cost k cs uses copies) ≤ join_bound k (function_bound k) (numbers cs) uses
join_le k cs uses copies =
    let css = joint_calls k cs uses copies in
    omega (arith, cost_of_le (calls_in_order 0 (count_threads cs) css), in_order_le (count_threads cs) 0 css, calls_le k cs uses copies)

-- A join in the folded kernel gives what the join gives, and takes no more units.
use Rattle.std.proofs.Common.{ℕ, zero, suc, ◌≤◌, ◌≡◌, ◌==◌, ℤ, Bool, true, false, cond, ◌||◌, Option, Some, None, List, [], ◌∷◌, ◌++◌, refl, ap, sym, subst, ◌∙◌, arith}
use Rattle.forec_kernel.specs.declared.shape.VarCopy.{VarCopy}
use Rattle.forec_kernel.specs.Shapes.{PlainKernel}
use Rattle.forec_kernel.specs.Values.{Value, Gives, Raises, more_units, call}
use Rattle.forec_kernel.specs.Texts.{Threads}
use Rattle.forec_kernel.specs.Combining.{Share, shares, taking_part, some_marked, Joint, fold_calls, last_value, variable_calls, combined_value, variable_of, combine_of, part_of, joined_copy, joined_copies, joint_calls, calls_from, calls_at, count_threads, calls_in_order, Cost, Costs, Fails, more_cost, cost_of, join_cost}
use Rattle.fold_laws.specs.Laws.{NoWorse}
use Rattle.fold_laws.specs.Folding.{folded_kernel}
use Rattle.fold_laws.proofs.Values.{more_like}
use Rattle.fold_laws.proofs.Flows.{call_like}
use Rattle.fold_laws.proofs.Texts.{LikeThreads, shares_like, count_like}

-- ---- the calls of one variable

abbrev JointsLike : List Joint → List Joint → Type 0
JointsLike [] [] = Unit {0}
JointsLike [] (j ∷ js) = ⊥
JointsLike (i ∷ is) [] = ⊥
JointsLike (i ∷ is) (j ∷ js) = (j.from ≡ i.from) × NoWorse i.gives j.gives × JointsLike is js

abbrev Combine : Type 0
Combine = ℤ → ℤ → Value

abbrev after_call : Combine → ℕ → List Share → Value → List Joint
after_call f from ss v =
    elim v [
      | Gives n u ↦ record { from = from; gives = Gives n u } ∷ fold_calls f n ss
      | Raises place trap u ↦ record { from = from; gives = Raises place trap u } ∷ []
    ]

module _ (f g : Combine) (l : (x y : ℤ) → NoWorse (f x y) (g x y)) where
  after_like : (from : ℕ) (ss : List Share) → ((n : ℤ) → JointsLike (fold_calls f n ss) (fold_calls g n ss)) → (v w : Value) → NoWorse v w →
      JointsLike (after_call f from ss v) (after_call g from ss w)
  after_like from ss more (Gives n u) (Gives m v) k =
      (refl, k, subst (λ x. JointsLike (fold_calls f n ss) (fold_calls g x ss)) (sym k.0) (more n))
  after_like from ss more (Gives n u) (Raises place trap v) k = absurd k
  after_like from ss more (Raises place trap u) (Gives m v) k = absurd k
  after_like from ss more (Raises place trap u) (Raises place' trap' v) k = (refl, k, tt)

  folds_like : (total : ℤ) (ss : List Share) → JointsLike (fold_calls f total ss) (fold_calls g total ss)
  folds_like total [] = tt
  folds_like total (s ∷ ss) =
      after_like s.from ss (λ n. folds_like n ss) (f total s.copy.value) (g total s.copy.value) (l total s.copy.value)

abbrev after_value : ℤ → List Joint → Value → ℤ
after_value total js v = elim v [ Gives n u ↦ last_value n js | Raises place trap u ↦ total ]

after_value_like : (total : ℤ) (is js : List Joint) → ((n : ℤ) → last_value n js ≡ last_value n is) → (v w : Value) → NoWorse v w →
    after_value total js w ≡ after_value total is v
after_value_like total is js ih (Gives n u) (Gives m v) h = ap (λ x. last_value x js) h.0 ∙ ih n
after_value_like total is js ih (Gives n u) (Raises place trap v) h = absurd h
after_value_like total is js ih (Raises place trap u) (Gives m v) h = absurd h
after_value_like total is js ih (Raises place trap u) (Raises place' trap' v) h = refl

last_like : (total : ℤ) (is js : List Joint) → JointsLike is js → last_value total js ≡ last_value total is
last_like total [] [] k = refl
last_like total [] (j ∷ js) k = absurd k
last_like total (i ∷ is) [] k = absurd k
last_like total (i ∷ is) (j ∷ js) k = after_value_like total is js (λ n. last_like n is js k.2) i.gives j.gives k.1

-- ---- in order, and their cost

abbrev ValuesLike : List Value → List Value → Type 0
ValuesLike [] [] = Unit {0}
ValuesLike [] (w ∷ ws) = ⊥
ValuesLike (v ∷ vs) [] = ⊥
ValuesLike (v ∷ vs) (w ∷ ws) = NoWorse v w × ValuesLike vs ws

append_like : (vs ws xs ys : List Value) → ValuesLike vs ws → ValuesLike xs ys → ValuesLike (vs ++ xs) (ws ++ ys)
append_like [] [] xs ys h k = k
append_like [] (w ∷ ws) xs ys h k = absurd h
append_like (v ∷ vs) [] xs ys h k = absurd h
append_like (v ∷ vs) (w ∷ ws) xs ys h k = (h.0, append_like vs ws xs ys h.1 k)

from_like : (n : ℕ) (is js : List Joint) → JointsLike is js → ValuesLike (calls_from n is) (calls_from n js)
from_like n [] [] k = tt
from_like n [] (j ∷ js) k = absurd k
from_like n (i ∷ is) [] k = absurd k
from_like n (i ∷ is) (j ∷ js) k =
    subst (λ x. ValuesLike (calls_from n (i ∷ is)) (cond (x == n) (j.gives ∷ calls_from n js) (calls_from n js))) (sym k.0)
    (pick (i.from == n) (from_like n is js k.2))
  where
    pick : (b : Bool) → ValuesLike (calls_from n is) (calls_from n js) →
        ValuesLike (cond b (i.gives ∷ calls_from n is) (calls_from n is)) (cond b (j.gives ∷ calls_from n js) (calls_from n js))
    pick true ih = (k.1, ih)
    pick false ih = ih

abbrev AllLike : List (List Joint) → List (List Joint) → Type 0
AllLike [] [] = Unit {0}
AllLike [] (j ∷ js) = ⊥
AllLike (i ∷ is) [] = ⊥
AllLike (i ∷ is) (j ∷ js) = JointsLike i j × AllLike is js

at_like : (n : ℕ) (is js : List (List Joint)) → AllLike is js → ValuesLike (calls_at n is) (calls_at n js)
at_like n [] [] k = tt
at_like n [] (j ∷ js) k = absurd k
at_like n (i ∷ is) [] k = absurd k
at_like n (i ∷ is) (j ∷ js) k =
    append_like (calls_from n i) (calls_from n j) (calls_at n is) (calls_at n js) (from_like n i j k.0) (at_like n is js k.1)

order_like : (n m : ℕ) (is js : List (List Joint)) → AllLike is js → ValuesLike (calls_in_order n m is) (calls_in_order n m js)
order_like n zero is js k = tt
order_like n (suc m) is js k =
    append_like (calls_at n is) (calls_at n js) (calls_in_order (suc n) m is) (calls_in_order (suc n) m js) (at_like n is js k) (order_like (suc n) m is js k)

abbrev pub CostLike : Cost → Cost → Type 0
CostLike (Costs u) (Costs v) = v ≤ u
CostLike (Costs u) (Fails place trap v) = ⊥
CostLike (Fails place trap u) (Costs v) = ⊥
CostLike (Fails place trap u) (Fails place' trap' v) = (place' ≡ place) × (trap' ≡ trap) × (v ≤ u)

more_cost_like : (a b : ℕ) (c d : Cost) → b ≤ a → CostLike c d → CostLike (more_cost a c) (more_cost b d)
more_cost_like a b (Costs u) (Costs v) h k = omega arith
more_cost_like a b (Costs u) (Fails place trap v) h k = absurd k
more_cost_like a b (Fails place trap u) (Costs v) h k = absurd k
more_cost_like a b (Fails place trap u) (Fails place' trap' v) h k = let le = k.2 in (k.0, k.1, omega arith)

cost_like : (vs ws : List Value) → ValuesLike vs ws → CostLike (cost_of vs) (cost_of ws)
cost_like [] [] k = omega arith
cost_like [] (w ∷ ws) k = absurd k
cost_like (v ∷ vs) [] k = absurd k
cost_like (Gives n u ∷ vs) (Gives m v ∷ ws) k = more_cost_like u v (cost_of vs) (cost_of ws) k.0.1 (cost_like vs ws k.1)
cost_like (Gives n u ∷ vs) (Raises place trap v ∷ ws) k = absurd k.0
cost_like (Raises place trap u ∷ vs) (Gives m v ∷ ws) k = absurd k.0
cost_like (Raises place trap u ∷ vs) (Raises place' trap' v ∷ ws) k = k.0

-- ---- a join

module _ (k : PlainKernel) where
  module _ (o : Option ℕ) where
    calls_like : (ss : List Share) → JointsLike (variable_calls (combine_of k o) ss) (variable_calls (combine_of (folded_kernel k) o) ss)
    calls_like ss = by o ss
      where
        by : (o : Option ℕ) (ss : List Share) → JointsLike (variable_calls (combine_of k o) ss) (variable_calls (combine_of (folded_kernel k) o) ss)
        by None [] = tt
        by None (s ∷ ss) = tt
        by (Some f) [] = tt
        by (Some f) (s ∷ ss) =
            folds_like (λ x y. more_units 1 (call k f (x ∷ y ∷ []))) (λ x y. more_units 1 (call (folded_kernel k) f (x ∷ y ∷ [])))
            (λ x y. more_like 1 1 (call k f (x ∷ y ∷ [])) (call (folded_kernel k) f (x ∷ y ∷ [])) (omega arith) (call_like k f (x ∷ y ∷ [])))
            s.copy.value ss

    combined_like : (base : ℤ) (ss : List Share) → combined_value (combine_of (folded_kernel k) o) base ss ≡ combined_value (combine_of k o) base ss
    combined_like base [] = refl
    combined_like base (s ∷ ss) = last_like s.copy.value (variable_calls (combine_of k o) (s ∷ ss)) (variable_calls (combine_of (folded_kernel k) o) (s ∷ ss)) (calls_like (s ∷ ss))

  part_like : (cs ds : Threads) (v : ℕ) (base : ℤ) → LikeThreads cs ds → part_of (folded_kernel k) ds v base ≡ part_of k cs v base
  part_like cs ds v base l = ap (taking_part (variable_of k v).policy base) (shares_like k v 0 cs ds l)

  copy_like : (cs ds : Threads) (v : ℕ) (c : VarCopy) → LikeThreads cs ds → joined_copy (folded_kernel k) ds v c ≡ joined_copy k cs v c
  copy_like cs ds v c l =
      let value : combined_value (combine_of (folded_kernel k) (variable_of k v).combine) c.value (part_of (folded_kernel k) ds v c.value)
      ≡ combined_value (combine_of k (variable_of k v).combine) c.value (part_of k cs v c.value) =
      ap (combined_value (combine_of (folded_kernel k) (variable_of k v).combine) c.value) (part_like cs ds v c.value l)
      ∙ combined_like (variable_of k v).combine c.value (part_of k cs v c.value) in
      let mark : (c.modified || some_marked (shares (folded_kernel k) v 0 ds)) ≡ (c.modified || some_marked (shares k v 0 cs)) =
      ap (λ ss. c.modified || some_marked ss) (shares_like k v 0 cs ds l) in
      ap (λ (x : ℤ). record { value = x; modified = c.modified || some_marked (shares (folded_kernel k) v 0 ds) }) value
      ∙ ap (λ (b : Bool). record { value = combined_value (combine_of k (variable_of k v).combine) c.value (part_of k cs v c.value); modified = b }) mark

  pub copies_like : (cs ds : Threads) (uses : List ℕ) (copies : List VarCopy) → LikeThreads cs ds →
      joined_copies (folded_kernel k) ds uses copies ≡ joined_copies k cs uses copies
  copies_like cs ds [] copies l = refl
  copies_like cs ds (v ∷ uses) [] l = refl
  copies_like cs ds (v ∷ uses) (c ∷ copies) l =
      ap (λ x. x ∷ joined_copies (folded_kernel k) ds uses copies) (copy_like cs ds v c l)
      ∙ ap (λ xs. joined_copy k cs v c ∷ xs) (copies_like cs ds uses copies l)

  all_calls_like : (cs ds : Threads) (uses : List ℕ) (copies : List VarCopy) → LikeThreads cs ds →
      AllLike (joint_calls k cs uses copies) (joint_calls (folded_kernel k) ds uses copies)
  all_calls_like cs ds [] copies l = tt
  all_calls_like cs ds (v ∷ uses) [] l = tt
  all_calls_like cs ds (v ∷ uses) (c ∷ copies) l = (
    subst (λ ss. JointsLike (variable_calls (combine_of k (variable_of k v).combine) (part_of k cs v c.value)) (variable_calls (combine_of (folded_kernel k) (variable_of k v).combine) ss))
        (sym (part_like cs ds v c.value l)) (calls_like (variable_of k v).combine (part_of k cs v c.value)),
    all_calls_like cs ds uses copies l,
  )

  pub join_like : (cs ds : Threads) (uses : List ℕ) (copies : List VarCopy) → LikeThreads cs ds →
      CostLike (join_cost k cs uses copies) (join_cost (folded_kernel k) ds uses copies)
  join_like cs ds uses copies l =
      cost_like (calls_in_order 0 (count_threads cs) (joint_calls k cs uses copies)) (calls_in_order 0 (count_threads ds) (joint_calls (folded_kernel k) ds uses copies))
      (subst (λ n. ValuesLike (calls_in_order 0 (count_threads cs) (joint_calls k cs uses copies)) (calls_in_order 0 n (joint_calls (folded_kernel k) ds uses copies)))
      (sym (count_like cs ds l))
      (order_like 0 (count_threads cs) (joint_calls k cs uses copies) (joint_calls (folded_kernel k) ds uses copies) (all_calls_like cs ds uses copies l)))

-- Folds in progress, branch by branch, come to what the folds of each variable come to, and cost the calls in their order.
use Rattle.std.proofs.Common.{◌≡◌, ◌∙◌, ℕ, zero, suc, ◌+◌, ◌≤◌, ◌<◌, ◌==◌, ◌&&◌, ◌||◌, ℤ, Bool, true, false, cond, Option, Some, None, unwrap_or, List, [], ◌∷◌, ◌++◌, refl, ap, sym, subst, arith, Ok, Err, Vec, Global}
use Rattle.std.proofs.lemmas.Bool.Decides.{nat_tests}
use Rattle.forec_base.specs.declared.Policy.{Policy}
use Rattle.forec_kernel.specs.declared.shape.VarCopy.{VarCopy}
use Rattle.forec_kernel.specs.Shapes.{PlainKernel}
use Rattle.forec_kernel.specs.Values.{Value, Gives, Raises, copy_of}
use Rattle.forec_kernel.specs.Texts.{RunningText, Threads, no_threads, child, Status, is_active, uses_of}
use Rattle.forec_kernel.specs.Combining.{Share, contains, shares, takes_part, taking_part, some_marked, Joint, fold_calls, last_value, variable_calls, combined_value, variable_of, combine_of, part_of, joined_copies, joint_calls, calls_from, calls_at, count_threads, calls_in_order, Cost, Costs, Fails, more_cost, cost_of, join_cost}
use Rattle.running_texts.specs.declared.folds.Fold.{Fold}
use Rattle.running_texts.specs.declared.meter.Halt.{Halt}
use Rattle.running_texts.specs.declared.meter.Halt.TheVariants as halt
use Rattle.running_texts.specs.Metered.{IsMetered}
use Rattle.running_steps.specs.Moving.{CombiningAnswers, cost_units}
use Rattle.running_texts.specs.Folding.{Added, Comes, Stays, Folds, Come, Stop, as_added, added, branch_added, fold_then, branch_folds, more_folds, folds_then, all_folds, first_folds, folded_copies, folding, folds_units}

-- ---- what is left of a variable's fold

abbrev pub rest_from : Option (ℤ → ℤ → Value) → ℤ → List Share → List Joint
rest_from None total ss = []
rest_from (Some f) total ss = fold_calls f total ss

abbrev pub rest_calls : Option (ℤ → ℤ → Value) → Option ℤ → List Share → List Joint
rest_calls f None [] = []
rest_calls f None (s ∷ ss) = rest_from f s.copy.value ss
rest_calls f (Some total) ss = rest_from f total ss

abbrev pub rest_total : Option (ℤ → ℤ → Value) → Option ℤ → List Share → Option ℤ
rest_total f None [] = None
rest_total f None (s ∷ ss) = Some (last_value s.copy.value (rest_from f s.copy.value ss))
rest_total f (Some total) ss = Some (last_value total (rest_from f total ss))

abbrev pub function_of : PlainKernel → Fold → Option (ℤ → ℤ → Value)
function_of k e = combine_of k (variable_of k e.variable).combine

abbrev pub part : PlainKernel → ℕ → Fold → Threads → List Share
part k j e cs = taking_part (variable_of k e.variable).policy e.base (shares k e.variable j cs)

abbrev pub rows : PlainKernel → ℕ → List Fold → Threads → List (List Joint)
rows k j [] cs = []
rows k j (e ∷ es) cs = rest_calls (function_of k e) e.total (part k j e cs) ∷ rows k j es cs

abbrev pub done : PlainKernel → ℕ → List Fold → Threads → List Fold
done k j [] cs = []
done k j (e ∷ es) cs = record e { total = rest_total (function_of k e) e.total (part k j e cs) } ∷ done k j es cs

-- ---- calls come no earlier than their branch

abbrev FromOn : ℕ → List Share → Type 0
FromOn m [] = Unit {0}
FromOn m (s ∷ ss) = (m ≤ s.from) × FromOn m ss

from_less : (m : ℕ) (ss : List Share) → FromOn (suc m) ss → FromOn m ss
from_less m [] h = tt
from_less m (s ∷ ss) h = let low = h.0 in (omega arith, from_less m ss h.1)

shares_from : (k : PlainKernel) (v m : ℕ) (cs : Threads) → FromOn m (shares k v m cs)
shares_from k v m no_threads = tt
shares_from k v m (child t R w c st rest) = pick (is_active st && contains v (uses_of k t)) (from_less m (shares k v (suc m) rest) (shares_from k v (suc m) rest))
  where
    pick : (b : Bool) → FromOn m (shares k v (suc m) rest) →
        FromOn m (cond b (record { from = m; copy = copy_of (uses_of k t) c v } ∷ shares k v (suc m) rest) (shares k v (suc m) rest))
    pick true h = (omega arith, h)
    pick false h = h

taking_from : (policy : Policy) (base : ℤ) (m : ℕ) (ss : List Share) → FromOn m ss → FromOn m (taking_part policy base ss)
taking_from policy base m [] h = tt
taking_from policy base m (s ∷ ss) h = pick (takes_part policy base s.copy) (taking_from policy base m ss h.1)
  where
    pick : (b : Bool) → FromOn m (taking_part policy base ss) → FromOn m (cond b (s ∷ taking_part policy base ss) (taking_part policy base ss))
    pick true r = (h.0, r)
    pick false r = r

other : (a b : ℕ) → a < b → (b == a) ≡ false
other a b h = grind (arith, nat_tests)

itself : (a : ℕ) → (a == a) ≡ true
itself a = grind (arith, nat_tests)

fold_quiet : (f : ℤ → ℤ → Value) (total : ℤ) (m i : ℕ) (ss : List Share) → FromOn m ss → i < m → calls_from i (fold_calls f total ss) ≡ []
fold_quiet f total m i [] h lt = refl
fold_quiet f total m i (s ∷ ss) h lt =
    let low = h.0 in
    pick (f total s.copy.value) (other i s.from (omega arith)) (λ n. fold_quiet f n m i ss h.1 lt)
  where
    pick : (v : Value) → (s.from == i) ≡ false → ((n : ℤ) → calls_from i (fold_calls f n ss) ≡ []) →
        calls_from i (elim v [
          | Gives n u ↦ record { from = s.from; gives = Gives n u } ∷ fold_calls f n ss
          | Raises place trap u ↦ record { from = s.from; gives = Raises place trap u } ∷ []
        ])
        ≡ []
    pick (Gives n u) ne r = ap (λ b. cond b (Gives n u ∷ calls_from i (fold_calls f n ss)) (calls_from i (fold_calls f n ss))) ne ∙ r n
    pick (Raises place trap u) ne r = ap (λ b. cond b (Raises place trap u ∷ []) []) ne

from_quiet : (f : Option (ℤ → ℤ → Value)) (total : ℤ) (m i : ℕ) (ss : List Share) → FromOn m ss → i < m → calls_from i (rest_from f total ss) ≡ []
from_quiet None total m i ss h lt = refl
from_quiet (Some f) total m i ss h lt = fold_quiet f total m i ss h lt

rest_quiet : (f : Option (ℤ → ℤ → Value)) (x : Option ℤ) (m i : ℕ) (ss : List Share) → FromOn m ss → i < m → calls_from i (rest_calls f x ss) ≡ []
rest_quiet f None m i [] h lt = refl
rest_quiet f None m i (s ∷ ss) h lt = from_quiet f s.copy.value m i ss h.1 lt
rest_quiet f (Some total) m i ss h lt = from_quiet f total m i ss h lt

part_from : (k : PlainKernel) (j : ℕ) (e : Fold) (cs : Threads) → FromOn j (part k j e cs)
part_from k j e cs = taking_from (variable_of k e.variable).policy e.base j (shares k e.variable j cs) (shares_from k e.variable j cs)

rows_quiet : (k : PlainKernel) (j i : ℕ) (es : List Fold) (cs : Threads) → i < j → calls_at i (rows k j es cs) ≡ []
rows_quiet k j i [] cs lt = refl
rows_quiet k j i (e ∷ es) cs lt =
    ap (λ l. l ++ calls_at i (rows k j es cs)) (rest_quiet (function_of k e) e.total j i (part k j e cs) (part_from k j e cs) lt)
    ∙ rows_quiet k j i es cs lt

-- ---- costs of lists of calls

more_none : (c : Cost) → more_cost 0 c ≡ c
more_none (Costs u) = ap Costs (omega arith)
more_none (Fails place trap u) = ap (Fails place trap) (omega arith)

more_twice : (u w : ℕ) (c : Cost) → more_cost u (more_cost w c) ≡ more_cost (u + w) c
more_twice u w (Costs x) = ap Costs (omega arith)
more_twice u w (Fails place trap x) = ap (Fails place trap) (omega arith)

abbrev cost_then : Cost → Cost → Cost
cost_then (Costs u) c = more_cost u c
cost_then (Fails place trap u) c = Fails place trap u

more_then : (u : ℕ) (a c : Cost) → more_cost u (cost_then a c) ≡ cost_then (more_cost u a) c
more_then u (Costs w) c = more_twice u w c
more_then u (Fails place trap w) c = refl

cost_append : (xs ys : List Value) → cost_of (xs ++ ys) ≡ cost_then (cost_of xs) (cost_of ys)
cost_append [] ys = sym (more_none (cost_of ys))
cost_append (Gives n u ∷ xs) ys = ap (more_cost u) (cost_append xs ys) ∙ more_then u (cost_of xs) (cost_of ys)
cost_append (Raises place trap u ∷ xs) ys = refl

in_order_same : (n j : ℕ) (as' bs : List (List Joint)) → ((i : ℕ) → j ≤ i → calls_at i as' ≡ calls_at i bs) → calls_in_order j n as' ≡ calls_in_order j n bs
in_order_same zero j as' bs h = refl
in_order_same (suc n) j as' bs h =
    ap (λ l. l ++ calls_in_order (suc j) n as') (h j (omega arith))
    ∙ ap (λ l. calls_at j bs ++ l) (in_order_same n (suc j) as' bs (λ i le. h i (omega arith)))

-- ---- one branch and one variable

module _ (k : PlainKernel) (j : ℕ) (rest : Threads) where
  abbrev later : Fold → List Share
  later e = part k (suc j) e rest

  abbrev EntryOk : Fold → List Joint → Option ℤ → Added → Type 0
  EntryOk e row end (Comes total u) =
      (cost_of (calls_from j row) ≡ Costs u)
      × ((i : ℕ) → j < i → calls_from i row ≡ calls_from i (rest_calls (function_of k e) total (later e)))
      × (end ≡ rest_total (function_of k e) total (later e))
  EntryOk e row end (Stays place trap u) = cost_of (calls_from j row) ≡ Fails place trap u

  quiet_now : (e : Fold) (x : Option ℤ) → cost_of (calls_from j (rest_calls (function_of k e) x (later e))) ≡ Costs 0
  quiet_now e x = ap cost_of (rest_quiet (function_of k e) x (suc j) j (later e) (part_from k (suc j) e rest) (omega arith))

  entry_out : (e : Fold) → EntryOk e (rest_calls (function_of k e) e.total (later e)) (rest_total (function_of k e) e.total (later e)) (Comes e.total 0)
  entry_out e = (quiet_now e e.total, λ i lt. refl, refl)

  entry_called : (e : Fold) (total : ℤ) (f : ℤ → ℤ → Value) (v : Value) → function_of k e ≡ Some f →
      EntryOk e
      (elim v [
        | Gives n u ↦ record { from = j; gives = Gives n u } ∷ fold_calls f n (later e)
        | Raises place trap u ↦ record { from = j; gives = Raises place trap u } ∷ []
      ])
      (Some (last_value total (elim v [
        | Gives n u ↦ record { from = j; gives = Gives n u } ∷ fold_calls f n (later e)
        | Raises place trap u ↦ record { from = j; gives = Raises place trap u } ∷ []
      ])))
      (as_added v)
  entry_called e total f (Gives n u) is =
      let quiet : calls_from j (fold_calls f n (later e)) ≡ [] =
      fold_quiet f n (suc j) j (later e) (part_from k (suc j) e rest) (omega arith) in
      let sum : u + 0 ≡ u = omega arith in (
        ap (λ b. cost_of (cond b (Gives n u ∷ calls_from j (fold_calls f n (later e))) (calls_from j (fold_calls f n (later e))))) (itself j)
            ∙ ap (λ l. cost_of (Gives n u ∷ l)) quiet ∙ ap Costs sum,
        λ i lt. ap (λ b. cond b (Gives n u ∷ calls_from i (fold_calls f n (later e))) (calls_from i (fold_calls f n (later e)))) (differs i lt)
            ∙ ap (λ g. calls_from i (rest_from g n (later e))) (sym is),
        ap (λ g. Some (last_value n (rest_from g n (later e)))) (sym is),
      )
    where
      differs : (i : ℕ) → j < i → (j == i) ≡ false
      differs i lt = grind (arith, nat_tests)
  entry_called e total f (Raises place trap u) is =
      ap (λ b. cost_of (cond b (Raises place trap u ∷ []) [])) (itself j)

  entry_in : (e : Fold) (x : VarCopy) (f : Option (ℤ → ℤ → Value)) (total : Option ℤ) → function_of k e ≡ f →
      EntryOk e (rest_calls f total (record { from = j; copy = x } ∷ later e)) (rest_total f total (record { from = j; copy = x } ∷ later e)) (added f total x.value)
  entry_in e x f None is = (
    ap (λ g. cost_of (calls_from j (rest_from g x.value (later e)))) (sym is) ∙ quiet_now e (Some x.value),
    λ i lt. ap (λ g. calls_from i (rest_from g x.value (later e))) (sym is),
    ap (λ g. Some (last_value x.value (rest_from g x.value (later e)))) (sym is),
  )
  entry_in e x None (Some total) is =
      (refl, λ i lt. ap (λ g. calls_from i (rest_from g total (later e))) (sym is), ap (λ g. Some (last_value total (rest_from g total (later e)))) (sym is))
  entry_in e x (Some f) (Some total) is = entry_called e total f (f total x.value) is

  entry_ok : (e : Fold) (t : ℕ) (R : RunningText) (w : List ℤ) (c : List VarCopy) (st : Status) → is_active st ≡ true →
      EntryOk e (rest_calls (function_of k e) e.total (part k j e (child t R w c st rest)))
      (rest_total (function_of k e) e.total (part k j e (child t R w c st rest)))
      (branch_added k (uses_of k t) c e)
  entry_ok e t R w c st active =
      let shown : List Share → Type 0 =
      λ ss. EntryOk e (rest_calls (function_of k e) e.total (taking_part (variable_of k e.variable).policy e.base ss))
      (rest_total (function_of k e) e.total (taking_part (variable_of k e.variable).policy e.base ss))
      (branch_added k (uses_of k t) c e) in
      subst (λ a. shown (cond (a && contains e.variable (uses_of k t))
      (record { from = j; copy = copy_of (uses_of k t) c e.variable } ∷ shares k e.variable (suc j) rest) (shares k e.variable (suc j) rest)))
      (sym active) (pick_used (contains e.variable (uses_of k t)))
    where
      x : VarCopy
      x = copy_of (uses_of k t) c e.variable

      pick_part : (b : Bool) →
          EntryOk e (rest_calls (function_of k e) e.total (cond b (record { from = j; copy = copy_of (uses_of k t) c e.variable } ∷ later e) (later e)))
          (rest_total (function_of k e) e.total (cond b (record { from = j; copy = copy_of (uses_of k t) c e.variable } ∷ later e) (later e)))
          (cond b (added (function_of k e) e.total (copy_of (uses_of k t) c e.variable).value) (Comes e.total 0))
      pick_part true = entry_in e (copy_of (uses_of k t) c e.variable) (function_of k e) e.total refl
      pick_part false = entry_out e

      pick_used : (a : Bool) →
          EntryOk e
          (rest_calls (function_of k e) e.total (taking_part (variable_of k e.variable).policy e.base
          (cond a (record { from = j; copy = copy_of (uses_of k t) c e.variable } ∷ shares k e.variable (suc j) rest) (shares k e.variable (suc j) rest))))
          (rest_total (function_of k e) e.total (taking_part (variable_of k e.variable).policy e.base
          (cond a (record { from = j; copy = copy_of (uses_of k t) c e.variable } ∷ shares k e.variable (suc j) rest) (shares k e.variable (suc j) rest))))
          (cond (a && takes_part (variable_of k e.variable).policy e.base (copy_of (uses_of k t) c e.variable))
          (added (function_of k e) e.total (copy_of (uses_of k t) c e.variable).value) (Comes e.total 0))
      pick_used true = pick_part (takes_part (variable_of k e.variable).policy e.base (copy_of (uses_of k t) c e.variable))
      pick_used false = entry_out e

  -- ---- one branch and all variables

  abbrev BranchOk : List (List Joint) → List Fold → Folds → Type 0
  BranchOk all ends (Come es u) =
      (cost_of (calls_at j all) ≡ Costs u) × ((i : ℕ) → j < i → calls_at i all ≡ calls_at i (rows k (suc j) es rest)) × (ends ≡ done k (suc j) es rest)
  BranchOk all ends (Stop place trap u) = cost_of (calls_at j all) ≡ Fails place trap u

  more_entry : (e : Fold) (row : List Joint) (end : Option ℤ) (all : List (List Joint)) (ends : List Fold) (a : Added) (fs : Folds) →
      EntryOk e row end a → BranchOk all ends fs → BranchOk (row ∷ all) (record e { total = end } ∷ ends) (fold_then e a fs)
  more_entry e row end all ends (Comes total u) (Come es w) h b = (
    cost_append (calls_from j row) (calls_at j all) ∙ ap (λ x. cost_then x (cost_of (calls_at j all))) h.0 ∙ ap (more_cost u) b.0,
    λ i lt. ap (λ l. l ++ calls_at i all) (h.1 i lt) ∙ ap (λ l. calls_from i (rest_calls (function_of k e) total (later e)) ++ l) (b.1 i lt),
    ap (λ x. record e { total = x } ∷ ends) h.2 ∙ ap (λ l. record e { total = rest_total (function_of k e) total (later e) } ∷ l) b.2,
  )
  more_entry e row end all ends (Comes total u) (Stop place trap w) h b =
      cost_append (calls_from j row) (calls_at j all) ∙ ap (λ x. cost_then x (cost_of (calls_at j all))) h.0 ∙ ap (more_cost u) b
  more_entry e row end all ends (Stays place trap u) fs h b =
      cost_append (calls_from j row) (calls_at j all) ∙ ap (λ x. cost_then x (cost_of (calls_at j all))) h

  branch_ok : (es : List Fold) (t : ℕ) (R : RunningText) (w : List ℤ) (c : List VarCopy) (st : Status) → is_active st ≡ true →
      BranchOk (rows k j es (child t R w c st rest)) (done k j es (child t R w c st rest)) (branch_folds k (uses_of k t) c es)
  branch_ok [] t R w c st active = (refl, λ i lt. refl, refl)
  branch_ok (e ∷ es) t R w c st active =
      more_entry e _ _ (rows k j es (child t R w c st rest)) (done k j es (child t R w c st rest)) (branch_added k (uses_of k t) c e)
      (branch_folds k (uses_of k t) c es) (entry_ok e t R w c st active) (branch_ok es t R w c st active)

-- ---- all branches

abbrev Matches : Folds → Cost → List Fold → Type 0
Matches (Come es u) cost ends = (cost ≡ Costs u) × (es ≡ ends)
Matches (Stop place trap u) cost ends = cost ≡ Fails place trap u

more_matches : (u : ℕ) (fs : Folds) (cost : Cost) (ends : List Fold) → Matches fs cost ends → Matches (more_folds u fs) (more_cost u cost) ends
more_matches u (Come es w) cost ends m = (ap (more_cost u) m.0, m.1)
more_matches u (Stop place trap w) cost ends m = ap (more_cost u) m

done_none : (k : PlainKernel) (j : ℕ) (es : List Fold) → es ≡ done k j es no_threads
done_none k j [] = refl
done_none k j (e ∷ es) = ap (λ x. record e { total = x } ∷ es) (total_is (function_of k e) e.total) ∙ ap (λ l. record e { total = rest_total (function_of k e) e.total [] } ∷ l) (done_none k j es)
  where
    from_is : (f : Option (ℤ → ℤ → Value)) (total : ℤ) → Some total ≡ Some (last_value total (rest_from f total []))
    from_is None total = refl
    from_is (Some f) total = refl

    total_is : (f : Option (ℤ → ℤ → Value)) (x : Option ℤ) → x ≡ rest_total f x []
    total_is f None = refl
    total_is f (Some total) = from_is f total

branch_matches : (k : PlainKernel) (j n : ℕ) (rest : Threads) (all : List (List Joint)) (ends : List Fold) (fs : Folds) → BranchOk k j rest all ends fs →
    ((es : List Fold) → Matches (all_folds k rest es) (cost_of (calls_in_order (suc j) n (rows k (suc j) es rest))) (done k (suc j) es rest)) →
    Matches (folds_then fs (all_folds k rest)) (cost_of (calls_at j all ++ calls_in_order (suc j) n all)) ends
branch_matches k j n rest all ends (Come es u) b ih =
    let same : calls_in_order (suc j) n all ≡ calls_in_order (suc j) n (rows k (suc j) es rest) =
    in_order_same n (suc j) all (rows k (suc j) es rest) (λ i le. b.1 i (omega arith)) in
    let cost : cost_of (calls_at j all ++ calls_in_order (suc j) n all) ≡ more_cost u (cost_of (calls_in_order (suc j) n (rows k (suc j) es rest))) =
    cost_append (calls_at j all) (calls_in_order (suc j) n all) ∙ ap (λ x. cost_then x (cost_of (calls_in_order (suc j) n all))) b.0 ∙ ap (λ l. more_cost u (cost_of l)) same in
    subst (λ c. Matches (more_folds u (all_folds k rest es)) c ends) (sym cost)
    (subst (λ d. Matches (more_folds u (all_folds k rest es)) (more_cost u (cost_of (calls_in_order (suc j) n (rows k (suc j) es rest)))) d) (sym b.2)
    (more_matches u (all_folds k rest es) (cost_of (calls_in_order (suc j) n (rows k (suc j) es rest))) (done k (suc j) es rest) (ih es)))
branch_matches k j n rest all ends (Stop place trap u) b ih =
    cost_append (calls_at j all) (calls_in_order (suc j) n all) ∙ ap (λ x. cost_then x (cost_of (calls_in_order (suc j) n all))) b

rows_skip : (k : PlainKernel) (j t : ℕ) (R : RunningText) (w : List ℤ) (c : List VarCopy) (st : Status) (rest : Threads) (es : List Fold) → is_active st ≡ false →
    rows k j es (child t R w c st rest) ≡ rows k (suc j) es rest
rows_skip k j t R w c st rest [] e = refl
rows_skip k j t R w c st rest (x ∷ es) e =
    ap (λ a. rest_calls (function_of k x) x.total (taking_part (variable_of k x.variable).policy x.base
    (cond (a && contains x.variable (uses_of k t)) (record { from = j; copy = copy_of (uses_of k t) c x.variable } ∷ shares k x.variable (suc j) rest)
    (shares k x.variable (suc j) rest))) ∷ rows k j es (child t R w c st rest)) e
    ∙ ap (λ l. rest_calls (function_of k x) x.total (part k (suc j) x rest) ∷ l) (rows_skip k j t R w c st rest es e)

done_skip : (k : PlainKernel) (j t : ℕ) (R : RunningText) (w : List ℤ) (c : List VarCopy) (st : Status) (rest : Threads) (es : List Fold) → is_active st ≡ false →
    done k j es (child t R w c st rest) ≡ done k (suc j) es rest
done_skip k j t R w c st rest [] e = refl
done_skip k j t R w c st rest (x ∷ es) e =
    ap (λ a. record x {
      total = rest_total (function_of k x) x.total (taking_part (variable_of k x.variable).policy x.base
          (cond (a && contains x.variable (uses_of k t)) (record { from = j; copy = copy_of (uses_of k t) c x.variable } ∷ shares k x.variable (suc j) rest)
          (shares k x.variable (suc j) rest)));
    } ∷ done k j es (child t R w c st rest)) e
    ∙ ap (λ l. record x { total = rest_total (function_of k x) x.total (part k (suc j) x rest) } ∷ l) (done_skip k j t R w c st rest es e)

pub transposed : (k : PlainKernel) (cs : Threads) (j : ℕ) (es : List Fold) →
    Matches (all_folds k cs es) (cost_of (calls_in_order j (count_threads cs) (rows k j es cs))) (done k j es cs)
transposed k no_threads j es = (refl, done_none k j es)
transposed k (child t R w c st rest) j es = pick (is_active st) refl (λ x. transposed k rest (suc j) x)
  where
    cs : Threads
    cs = child t R w c st rest

    n : ℕ
    n = count_threads rest

    pick : (a : Bool) → is_active st ≡ a →
        ((x : List Fold) → Matches (all_folds k rest x) (cost_of (calls_in_order (suc j) (count_threads rest) (rows k (suc j) x rest))) (done k (suc j) x rest)) →
        Matches (cond a (folds_then (branch_folds k (uses_of k t) c es) (all_folds k rest)) (all_folds k rest es))
        (cost_of (calls_at j (rows k j es (child t R w c st rest)) ++ calls_in_order (suc j) (count_threads rest) (rows k j es (child t R w c st rest))))
        (done k j es (child t R w c st rest))
    pick true e ih =
        branch_matches k j (count_threads rest) rest (rows k j es (child t R w c st rest)) (done k j es (child t R w c st rest)) (branch_folds k (uses_of k t) c es)
        (branch_ok k j rest es t R w c st e) ih
    pick false e ih =
        let skipped = rows_skip k j t R w c st rest es e in
        let quiet : calls_at j (rows k j es (child t R w c st rest)) ≡ [] = ap (calls_at j) skipped ∙ rows_quiet k (suc j) j es rest (omega arith) in
        let cost : cost_of (calls_at j (rows k j es (child t R w c st rest)) ++ calls_in_order (suc j) (count_threads rest) (rows k j es (child t R w c st rest)))
        ≡ cost_of (calls_in_order (suc j) (count_threads rest) (rows k (suc j) es rest)) =
        ap (λ l. cost_of (l ++ calls_in_order (suc j) (count_threads rest) (rows k j es (child t R w c st rest)))) quiet
        ∙ ap (λ l. cost_of (calls_in_order (suc j) (count_threads rest) l)) skipped in
        subst (λ x. Matches (all_folds k rest es) x (done k j es (child t R w c st rest))) (sym cost)
        (subst (λ d. Matches (all_folds k rest es) (cost_of (calls_in_order (suc j) (count_threads rest) (rows k (suc j) es rest))) d)
        (sym (done_skip k j t R w c st rest es e)) (ih es))

-- ---- what a join costs and gives

calls_are : (f : Option (ℤ → ℤ → Value)) (ss : List Share) → variable_calls f ss ≡ rest_calls f None ss
calls_are f [] = refl
calls_are None (s ∷ ss) = refl
calls_are (Some f) (s ∷ ss) = refl

value_is : (f : Option (ℤ → ℤ → Value)) (base : ℤ) (ss : List Share) → combined_value f base ss ≡ unwrap_or (rest_total f None ss) base
value_is f base [] = refl
value_is f base (s ∷ ss) = ap (last_value s.copy.value) (calls_are f (s ∷ ss))

rows_are : (k : PlainKernel) (cs : Threads) (uses : List ℕ) (copies : List VarCopy) → joint_calls k cs uses copies ≡ rows k 0 (first_folds uses copies) cs
rows_are k cs [] copies = refl
rows_are k cs (v ∷ uses) [] = refl
rows_are k cs (v ∷ uses) (c ∷ copies) =
    ap (λ r. r ∷ joint_calls k cs uses copies) (calls_are (combine_of k (variable_of k v).combine) (part_of k cs v c.value))
    ∙ ap (λ l. rest_calls (combine_of k (variable_of k v).combine) None (part_of k cs v c.value) ∷ l) (rows_are k cs uses copies)

copies_are : (k : PlainKernel) (cs : Threads) (uses : List ℕ) (copies : List VarCopy) →
    joined_copies k cs uses copies ≡ folded_copies k cs uses copies (done k 0 (first_folds uses copies) cs)
copies_are k cs [] copies = refl
copies_are k cs (v ∷ uses) [] = refl
copies_are k cs (v ∷ uses) (c ∷ copies) =
    ap (λ x. record { value = x; modified = c.modified || some_marked (shares k v 0 cs) } ∷ joined_copies k cs uses copies)
    (value_is (combine_of k (variable_of k v).combine) c.value (part_of k cs v c.value))
    ∙ ap (λ l. record { value = unwrap_or (rest_total (combine_of k (variable_of k v).combine) None (part_of k cs v c.value)) c.value; modified = c.modified || some_marked (shares k v 0 cs) } ∷ l)
    (copies_are k cs uses copies)

-- all folds come to the join's copies at its cost, or stop where it does
abbrev pub JoinGives : PlainKernel → Threads → List ℕ → List VarCopy → Folds → Type 0
JoinGives k cs uses copies (Come es u) = (join_cost k cs uses copies ≡ Costs u) × (joined_copies k cs uses copies ≡ folded_copies k cs uses copies es)
JoinGives k cs uses copies (Stop place trap u) = join_cost k cs uses copies ≡ Fails place trap u

pub join_gives : (k : PlainKernel) (cs : Threads) (uses : List ℕ) (copies : List VarCopy) → JoinGives k cs uses copies (all_folds k cs (first_folds uses copies))
join_gives k cs uses copies =
    at (all_folds k cs (first_folds uses copies)) (transposed k cs 0 (first_folds uses copies))
  where
    cost : join_cost k cs uses copies ≡ cost_of (calls_in_order 0 (count_threads cs) (rows k 0 (first_folds uses copies) cs))
    cost = ap (λ l. cost_of (calls_in_order 0 (count_threads cs) l)) (rows_are k cs uses copies)

    at : (fs : Folds) → Matches fs (cost_of (calls_in_order 0 (count_threads cs) (rows k 0 (first_folds uses copies) cs))) (done k 0 (first_folds uses copies) cs) →
        JoinGives k cs uses copies fs
    at (Come es u) m = (
      ap (λ l. cost_of (calls_in_order 0 (count_threads cs) l)) (rows_are k cs uses copies) ∙ m.0,
      copies_are k cs uses copies ∙ ap (folded_copies k cs uses copies) (sym m.1),
    )
    at (Stop place trap u) m = ap (λ l. cost_of (calls_in_order 0 (count_threads cs) l)) (rows_are k cs uses copies) ∙ m

-- ---- under an allowance

pub joined_ok : (k : PlainKernel) (cs : Threads) (uses : List ℕ) (copies : List VarCopy) (first : List Fold) (old new : ℕ) (v : Vec Fold Global) (w : Vec VarCopy Global) →
    first ≡ first_folds uses copies → IsMetered folding old new (Ok v) (all_folds k cs first) → w.items ≡ folded_copies k cs uses copies v.items →
    CombiningAnswers old new (Ok w) (joined_copies k cs uses copies) (join_cost k cs uses copies)
joined_ok k cs uses copies first old new v w e m g =
    let is : all_folds k cs (first_folds uses copies) ≡ Come v.items m.by.units = ap (all_folds k cs) (sym e) ∙ m.by.is in
    let both : JoinGives k cs uses copies (Come v.items m.by.units) = subst (JoinGives k cs uses copies) is (join_gives k cs uses copies) in
    record { by = record { units = m.by.units; is = both.0; copies = g ∙ sym both.1; left = m.by.left } }

join_units : (k : PlainKernel) (cs : Threads) (uses : List ℕ) (copies : List VarCopy) (fs : Folds) → JoinGives k cs uses copies fs →
    folds_units fs ≡ cost_units (join_cost k cs uses copies)
join_units k cs uses copies (Come es u) m = ap cost_units (sym m.0)
join_units k cs uses copies (Stop place trap u) m = ap cost_units (sym m)

pub joined_err : (k : PlainKernel) (cs : Threads) (uses : List ℕ) (copies : List VarCopy) (first : List Fold) (old new : ℕ) (h : Halt) →
    first ≡ first_folds uses copies → IsMetered folding old new (Err h) (all_folds k cs first) →
    CombiningAnswers old new (Err h) (joined_copies k cs uses copies) (join_cost k cs uses copies)
joined_err k cs uses copies first old new (halt.Trapped place trap) e m =
    let is : all_folds k cs (first_folds uses copies) ≡ Stop place trap m.by.units = ap (all_folds k cs) (sym e) ∙ m.by.is in
    let both : JoinGives k cs uses copies (Stop place trap m.by.units) = subst (JoinGives k cs uses copies) is (join_gives k cs uses copies) in
    record { by = record { units = m.by.units; is = both; left = m.by.left } }
joined_err k cs uses copies first old new halt.Over e m =
    let over : old < folds_units (all_folds k cs first) = m.by in
    let same : folds_units (all_folds k cs first) ≡ cost_units (join_cost k cs uses copies) =
    ap (λ l. folds_units (all_folds k cs l)) e ∙ join_units k cs uses copies (all_folds k cs (first_folds uses copies)) (join_gives k cs uses copies) in
    record { by = omega arith }
joined_err k cs uses copies first old new halt.OutOfMemory e m = record { by = tt }

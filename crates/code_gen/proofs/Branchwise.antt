-- The calls at a join, in the order of the branches: those of each branch in the order of its own variables are those in the order of the thread's.
use Rattle.std.proofs.Common.{◌≡◌, ℕ, zero, suc, ◌<◌, ◌≤◌, ◌==◌, List, [], ◌∷◌, ◌++◌, map, Option, Some, None, Bool, true, false, cond, ◌&&◌, ◌||◌, refl, sym, ap, ◌∙◌, subst, arith, ⊎_elim}
use Rattle.std.specs.Prelude.{ℤ, pos}
use Rattle.std.proofs.lemmas.Bool.{cases_lt}
use Rattle.std.proofs.lemmas.Bool.Decides.{nat_tests}
use Rattle.forec_base.specs.declared.Policy.{Policy}
use Rattle.forec_kernel.specs.declared.shape.VarCopy.{VarCopy}
use Rattle.forec_kernel.specs.Shapes.{PlainKernel}
use Rattle.forec_kernel.specs.Values.{Value, copy_of}
use Rattle.forec_kernel.specs.Texts.{Status, RunningText, Threads, no_threads, child, is_active, uses_of}
use Rattle.forec_kernel.specs.Combining.{contains, shares, taking_part, some_marked, Joint, variable_calls, variable_of, combine_of, joined_copy, joined_copies, joint_calls, calls_from, calls_at, calls_in_order}
use Rattle.thread_code.specs.Machine.{BranchCopy, Total, total_of, settled, shares_of}
use Rattle.code_gen.proofs.Each.{Each, each_map}
use Rattle.code_gen.proofs.Columns.{Ascends, above_all, not_above, kept, Sized, rest_calls, total_in, total_combined, with_share}

-- ---- all calls of several variables

abbrev pub flat : (ℕ → List Value) → List ℕ → List Value
flat g [] = []
flat g (v ∷ vs) = g v ++ flat g vs

pub flat_at : (i : ℕ) (h : ℕ → List Joint) (vs : List ℕ) → calls_at i (map h vs) ≡ flat (λ v. calls_from i (h v)) vs
flat_at i h [] = refl
flat_at i h (v ∷ vs) = ap (λ l. calls_from i (h v) ++ l) (flat_at i h vs)

pub flat_same : (g h : ℕ → List Value) (vs : List ℕ) → Each (λ v. g v ≡ h v) vs → flat g vs ≡ flat h vs
flat_same g h [] e = refl
flat_same g h (v ∷ vs) e = ap (λ l. l ++ flat g vs) e.0 ∙ ap (λ l. h v ++ l) (flat_same g h vs e.1)

pub in_order_same : (g h : ℕ → List Joint) (vs : List ℕ) (n j : ℕ) → ((i : ℕ) → j ≤ i → Each (λ v. calls_from i (g v) ≡ calls_from i (h v)) vs) → calls_in_order j n (map g vs) ≡ calls_in_order j n (map h vs)
in_order_same g h vs zero j e = refl
in_order_same g h vs (suc n) j e =
    ap (λ l. l ++ calls_in_order (suc j) n (map g vs)) (flat_at j g vs ∙ flat_same (λ v. calls_from j (g v)) (λ v. calls_from j (h v)) vs (e j (omega arith)) ∙ sym (flat_at j h vs))
    ∙ ap (λ l. calls_at j (map h vs) ++ l) (in_order_same g h vs n (suc j) (λ i le. e i (omega (arith, le))))

-- ---- one branch

abbrev pub variables_of : List BranchCopy → List ℕ
variables_of [] = []
variables_of (s ∷ ss) = s.variable ∷ variables_of ss

abbrev pub share_in : List BranchCopy → ℕ → Option VarCopy
share_in [] v = None
share_in (s ∷ ss) v = cond (s.variable == v) (Some s.copy) (share_in ss v)

abbrev pub from_share : (ℕ → VarCopy → List Value) → ℕ → Option VarCopy → List Value
from_share g v None = []
from_share g v (Some d) = g v d

abbrev pub list_calls : (ℕ → VarCopy → List Value) → List BranchCopy → List Value
list_calls g [] = []
list_calls g (s ∷ ss) = g s.variable s.copy ++ list_calls g ss

-- where a variable isn't one of the thread's there is no call
abbrev pub Silent : (ℕ → VarCopy → List Value) → List ℕ → List BranchCopy → Type 0
Silent g vs = Each (λ s. contains s.variable vs ≡ false → g s.variable s.copy ≡ [])

no_calls : (g : ℕ → VarCopy → List Value) (ss : List BranchCopy) → Silent g [] ss → [] ≡ list_calls g ss
no_calls g [] h = refl
no_calls g (s ∷ ss) h = no_calls g ss h.1 ∙ ap (λ l. l ++ list_calls g ss) (sym (h.0 refl))

nothing_shared : (g : ℕ → VarCopy → List Value) (vs : List ℕ) → flat (λ v. from_share g v None) vs ≡ []
nothing_shared g [] = refl
nothing_shared g (v ∷ vs) = nothing_shared g vs

apart : (a b : ℕ) → (a < b) → ((a == b) ≡ false) × ((b == a) ≡ false)
apart a b lt = (grind (arith, nat_tests), grind (arith, nat_tests))

-- the shares after the first one, for greater variables
skip_first : (g : ℕ → VarCopy → List Value) (s : BranchCopy) (ss : List BranchCopy) (vs : List ℕ) → Each (λ v. s.variable < v) vs → flat (λ v. from_share g v (share_in (s ∷ ss) v)) vs ≡ flat (λ v. from_share g v (share_in ss v)) vs
skip_first g s ss vs h = flat_same (λ v. from_share g v (share_in (s ∷ ss) v)) (λ v. from_share g v (share_in ss v)) vs (each_map (λ v. s.variable < v) _ (λ v lt. ap (λ b. from_share g v (cond b (Some s.copy) (share_in ss v))) (apart s.variable v lt).0) vs h)

absent : (v : ℕ) (ss : List BranchCopy) → Each (λ w. v < w) (variables_of ss) → share_in ss v ≡ None
absent v [] h = refl
absent v (s ∷ ss) h = ap (λ b. cond b (Some s.copy) (share_in ss v)) (apart v s.variable h.0).1 ∙ absent v ss h.1

-- no variable of these is v, so v may be left out
silent_rest : (g : ℕ → VarCopy → List Value) (v : ℕ) (vs : List ℕ) (ss : List BranchCopy) → Each (λ w. v < w) (variables_of ss) → Silent g (v ∷ vs) ss → Silent g vs ss
silent_rest g v vs [] a h = tt
silent_rest g v vs (s ∷ ss) a h = ((λ e. h.0 (ap (λ b. cond b true (contains s.variable vs)) (apart v s.variable a.0).0 ∙ e)), silent_rest g v vs ss a.1 h.1)

pub cross : (g : ℕ → VarCopy → List Value) (vs : List ℕ) (ss : List BranchCopy) → Ascends vs → Ascends (variables_of ss) → Silent g vs ss → flat (λ v. from_share g v (share_in ss v)) vs ≡ list_calls g ss
cross g [] ss av asc h = no_calls g ss h
cross g (v ∷ vs) ss av asc h = inner ss asc h (λ ss asc h. cross g vs ss av.1 asc h)
  where
    inner : (ss : List BranchCopy) → Ascends (variables_of ss) → Silent g (v ∷ vs) ss → ((ss : List BranchCopy) → Ascends (variables_of ss) → Silent g vs ss → flat (λ v. from_share g v (share_in ss v)) vs ≡ list_calls g ss) →
        flat (λ v. from_share g v (share_in ss v)) (v ∷ vs) ≡ list_calls g ss
    inner [] asc h ih = nothing_shared g vs
    inner (s ∷ ss) asc h ih =
        ⊎_elim
        (λ lt. less lt (inner ss asc.1 h.1 ih))
        (λ le. ⊎_elim (λ gt. more gt) (λ ge. equal (omega (arith, le, ge))) (cases_lt v s.variable))
        (cases_lt s.variable v)
      where
        -- the share's variable is none of the thread's
        less : s.variable < v → flat (λ v. from_share g v (share_in ss v)) (v ∷ vs) ≡ list_calls g ss → flat (λ v. from_share g v (share_in (s ∷ ss) v)) (v ∷ vs) ≡ list_calls g (s ∷ ss)
        less lt rest =
            let above : Each (λ w. s.variable < w) (v ∷ vs) = (lt, above_all v vs av.0 s.variable lt) in
            skip_first g s ss (v ∷ vs) above ∙ rest ∙ ap (λ l. l ++ list_calls g ss) (sym (h.0 (not_above s.variable (v ∷ vs) above)))

        more : v < s.variable → flat (λ v. from_share g v (share_in (s ∷ ss) v)) (v ∷ vs) ≡ list_calls g (s ∷ ss)
        more gt =
            let above : Each (λ w. v < w) (variables_of (s ∷ ss)) = (gt, above_all s.variable (variables_of ss) asc.0 v gt) in
            ap (λ x. from_share g v x ++ flat (λ v. from_share g v (share_in (s ∷ ss) v)) vs) (absent v (s ∷ ss) above)
            ∙ ih (s ∷ ss) asc (silent_rest g v vs (s ∷ ss) above h)

        equal : s.variable ≡ v → flat (λ v. from_share g v (share_in (s ∷ ss) v)) (v ∷ vs) ≡ list_calls g (s ∷ ss)
        equal e =
            let same : (s.variable == v) ≡ true = grind (arith, nat_tests, e) in
            let over : Each (λ w. s.variable < w) vs = subst (λ x. Each (λ w. x < w) vs) (sym e) av.0 in
            let above : Each (λ w. v < w) (variables_of ss) = subst (λ x. Each (λ w. x < w) (variables_of ss)) e asc.0 in
            ap (λ b. from_share g v (cond b (Some s.copy) (share_in ss v)) ++ flat (λ v. from_share g v (share_in (s ∷ ss) v)) vs) same
            ∙ ap (λ x. g x s.copy ++ flat (λ v. from_share g v (share_in (s ∷ ss) v)) vs) (sym e)
            ∙ ap (λ l. g s.variable s.copy ++ l) (skip_first g s ss vs over ∙ ih ss asc.1 (silent_rest g v vs ss above h.1))

-- ---- a branch's copies

pub shares_variables : (uses : List ℕ) (copies : List VarCopy) → variables_of (shares_of uses copies) ≡ uses
shares_variables [] copies = refl
shares_variables (v ∷ uses) [] = ap (λ l. v ∷ l) (shares_variables uses [])
shares_variables (v ∷ uses) (c ∷ copies) = ap (λ l. v ∷ l) (shares_variables uses copies)

pub shares_share : (uses : List ℕ) (copies : List VarCopy) (v : ℕ) → share_in (shares_of uses copies) v ≡ cond (contains v uses) (Some (copy_of uses copies v)) None
shares_share [] copies v = refl
shares_share (x ∷ uses) [] v = pick (x == v) (shares_share uses [] v)
  where
    pick : (b : Bool) → share_in (shares_of uses []) v ≡ cond (contains v uses) (Some (copy_of uses [] v)) None → cond b (Some (record { value = pos 0; modified = false })) (share_in (shares_of uses []) v) ≡ cond (cond b true (contains v uses)) (Some (record { value = pos 0; modified = false })) None
    pick true h = refl
    pick false h = h ∙ empty uses
      where
        empty : (us : List ℕ) → cond (contains v us) (Some (copy_of us [] v)) None ≡ cond (contains v us) (Some (record { value = pos 0; modified = false })) None
        empty [] = refl
        empty (u ∷ us) = refl
shares_share (x ∷ uses) (c ∷ copies) v = pick (x == v) (shares_share uses copies v)
  where
    pick : (b : Bool) → share_in (shares_of uses copies) v ≡ cond (contains v uses) (Some (copy_of uses copies v)) None → cond b (Some c) (share_in (shares_of uses copies) v) ≡ cond (cond b true (contains v uses)) (Some (cond b c (copy_of uses copies v))) None
    pick true h = refl
    pick false h = h

abbrev pub branch_shares : PlainKernel → ℕ → Status → List VarCopy → List BranchCopy
branch_shares k t st copies = cond (is_active st) (shares_of (uses_of k t) copies) []

abbrev pub child_shares : PlainKernel → Threads → List BranchCopy
child_shares k no_threads = []
child_shares k (child t R w c st rest) = branch_shares k t st c ++ child_shares k rest

pub branch_ascends : (k : PlainKernel) (t : ℕ) (st : Status) (copies : List VarCopy) → Ascends (uses_of k t) → Ascends (variables_of (branch_shares k t st copies))
branch_ascends k t st copies h = pick (is_active st)
  where
    pick : (b : Bool) → Ascends (variables_of (cond b (shares_of (uses_of k t) copies) []))
    pick true = subst Ascends (sym (shares_variables (uses_of k t) copies)) h
    pick false = tt

-- the first branch's share of a variable
pub first_share : (k : PlainKernel) (v j t : ℕ) (R : RunningText) (w : List ℤ) (c : List VarCopy) (st : Status) (rest : Threads) →
    shares k v j (child t R w c st rest) ≡ with_share (share_in (branch_shares k t st c) v) j (shares k v (suc j) rest)
first_share k v j t R w c st rest = pick (is_active st)
  where
    by_use : (b : Bool) → cond b (record { from = j; copy = copy_of (uses_of k t) c v } ∷ shares k v (suc j) rest) (shares k v (suc j) rest) ≡ with_share (cond b (Some (copy_of (uses_of k t) c v)) None) j (shares k v (suc j) rest)
    by_use true = refl
    by_use false = refl

    pick : (b : Bool) → cond (b && contains v (uses_of k t)) (record { from = j; copy = copy_of (uses_of k t) c v } ∷ shares k v (suc j) rest) (shares k v (suc j) rest) ≡ with_share (share_in (cond b (shares_of (uses_of k t) c) []) v) j (shares k v (suc j) rest)
    pick true = by_use (contains v (uses_of k t)) ∙ ap (λ x. with_share x j (shares k v (suc j) rest)) (sym (shares_share (uses_of k t) c v))
    pick false = refl

-- ---- by position and by variable

-- a number of each variable is that of its copy
abbrev pub Bases : (ℕ → ℤ) → List ℕ → List VarCopy → Type 0
Bases h [] copies = Unit {0}
Bases h (v ∷ uses) [] = Unit {0}
Bases h (v ∷ uses) (c ∷ copies) = (h v ≡ c.value) × Bases h uses copies

bases_lift : (x : ℕ) (n : ℤ) (h : ℕ → ℤ) (uses : List ℕ) (copies : List VarCopy) → Each (λ v. x < v) uses → Bases h uses copies → Bases (λ v. cond (x == v) n (h v)) uses copies
bases_lift x n h [] copies a b = tt
bases_lift x n h (v ∷ uses) [] a b = tt
bases_lift x n h (v ∷ uses) (c ∷ copies) a b = (ap (λ t. cond t n (h v)) (apart x v a.0).0 ∙ b.0, bases_lift x n h uses copies a.1 b.1)

bases_same : (g h : ℕ → ℤ) (uses : List ℕ) (copies : List VarCopy) → ((v : ℕ) → g v ≡ h v) → Bases g uses copies → Bases h uses copies
bases_same g h [] copies e b = tt
bases_same g h (v ∷ uses) [] e b = tt
bases_same g h (v ∷ uses) (c ∷ copies) e b = (sym (e v) ∙ b.0, bases_same g h uses copies e b.1)

pub bases : (uses : List ℕ) (copies : List VarCopy) → Ascends uses → Bases (λ v. (copy_of uses copies v).value) uses copies
bases [] copies a = tt
bases (x ∷ uses) [] a = tt
bases (x ∷ uses) (c ∷ copies) a =
    let itself : (x == x) ≡ true = grind (arith, nat_tests) in (
      ap (λ b. (cond b c (copy_of uses copies x)).value) itself,
      bases_same (λ v. cond (x == v) c.value (copy_of uses copies v).value) (λ v. (copy_of (x ∷ uses) (c ∷ copies) v).value) uses copies (λ v. pick (x == v) v)
          (bases_lift x c.value (λ v. (copy_of uses copies v).value) uses copies a.0 (bases uses copies a.1)),
    )
  where
    pick : (b : Bool) (v : ℕ) → cond b c.value (copy_of uses copies v).value ≡ (cond b c (copy_of uses copies v)).value
    pick true v = refl
    pick false v = refl

-- a total of each variable is the one at its place
abbrev pub Placed : (ℕ → Total) → List ℕ → List VarCopy → List Total → Type 0
Placed h [] copies totals = Unit {0}
Placed h (v ∷ uses) [] totals = Unit {0}
Placed h (v ∷ uses) (c ∷ copies) [] = Unit {0}
Placed h (v ∷ uses) (c ∷ copies) (x ∷ totals) = (h v ≡ x) × Placed h uses copies totals

placed_lift : (x : ℕ) (n : Total) (h : ℕ → Total) (uses : List ℕ) (copies : List VarCopy) (totals : List Total) → Each (λ v. x < v) uses → Placed h uses copies totals → Placed (λ v. cond (x == v) n (h v)) uses copies totals
placed_lift x n h [] copies totals a b = tt
placed_lift x n h (v ∷ uses) [] totals a b = tt
placed_lift x n h (v ∷ uses) (c ∷ copies) [] a b = tt
placed_lift x n h (v ∷ uses) (c ∷ copies) (y ∷ totals) a b = (ap (λ t. cond t n (h v)) (apart x v a.0).0 ∙ b.0, placed_lift x n h uses copies totals a.1 b.1)

pub placed : (uses : List ℕ) (copies : List VarCopy) (totals : List Total) → Ascends uses → Placed (λ v. total_of uses totals v) uses copies totals
placed [] copies totals a = tt
placed (x ∷ uses) [] totals a = tt
placed (x ∷ uses) (c ∷ copies) [] a = tt
placed (x ∷ uses) (c ∷ copies) (y ∷ totals) a =
    let itself : (x == x) ≡ true = grind (arith, nat_tests) in
    (ap (λ b. cond b y (total_of uses totals x)) itself, placed_lift x y (λ v. total_of uses totals v) uses copies totals a.0 (placed uses copies totals a.1))

-- ---- all calls, and the copies afterwards

module _ (k : PlainKernel) where
  abbrev pub joins : ℕ → Option (ℤ → ℤ → Value)
  joins v = combine_of k (variable_of k v).combine

  abbrev pub policy : ℕ → Policy
  policy v = (variable_of k v).policy

  pub calls_are : (cs : Threads) (h : ℕ → ℤ) (uses : List ℕ) (copies : List VarCopy) → Bases h uses copies →
      joint_calls k cs uses copies ≡ map (λ v. rest_calls (joins v) None (taking_part (policy v) (h v) (shares k v 0 cs))) (kept uses copies)
  calls_are cs h [] copies b = refl
  calls_are cs h (v ∷ uses) [] b = refl
  calls_are cs h (v ∷ uses) (c ∷ copies) b =
      ap (λ n. variable_calls (joins v) (taking_part (policy v) n (shares k v 0 cs)) ∷ joint_calls k cs uses copies) (sym b.0)
      ∙ ap (λ l. variable_calls (joins v) (taking_part (policy v) (h v) (shares k v 0 cs)) ∷ l) (calls_are cs h uses copies b.1)

  abbrev pub final_total : Threads → (ℕ → ℤ) → ℕ → Total
  final_total cs h v = record { value = total_in (joins v) None (taking_part (policy v) (h v) (shares k v 0 cs)); marked = some_marked (shares k v 0 cs) }

  pub settled_is : (cs : Threads) (h : ℕ → ℤ) (g : ℕ → Total) (uses : List ℕ) (copies : List VarCopy) (totals : List Total) → Bases h uses copies → Sized uses copies totals → Placed g uses copies totals → Each (λ v. g v ≡ final_total cs h v) (kept uses copies) →
      settled totals copies ≡ joined_copies k cs uses copies
  settled_is cs h g [] copies totals b s p f = ap (λ l. settled l copies) s
  settled_is cs h g (v ∷ uses) [] totals b s p f = ap (λ l. settled l []) s
  settled_is cs h g (v ∷ uses) (c ∷ copies) [] b s p f = absurd s
  settled_is cs h g (v ∷ uses) (c ∷ copies) (x ∷ totals) b s p f =
      let total : x ≡ final_total cs h v = sym p.0 ∙ f.0 in
      ap (λ (y : Total). record { value = elim y.value as (λ z. ℤ) [ Some n ↦ n | None ↦ c.value ]; modified = c.modified || y.marked } ∷ settled totals copies) total
      ∙ ap (λ n. record { value = elim (total_in (joins v) None (taking_part (policy v) n (shares k v 0 cs))) as (λ z. ℤ) [ Some n ↦ n | None ↦ c.value ]; modified = c.modified || some_marked (shares k v 0 cs) } ∷ settled totals copies) b.0
      ∙ ap (λ n. record { value = n; modified = c.modified || some_marked (shares k v 0 cs) } ∷ settled totals copies) (total_combined (joins v) c.value (taking_part (policy v) c.value (shares k v 0 cs)))
      ∙ ap (λ l. joined_copy k cs v c ∷ l) (settled_is cs h g uses copies totals b.1 s p.1 f.1)

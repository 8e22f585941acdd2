-- Tables of bounds: what one entry more tells.
use Rattle.std.proofs.Common.{ℕ, zero, suc, ◌+◌, ◌<◌, ◌≤◌, ◌≡◌, ◌∙◌, ◌==◌, nat_lt, Bool, true, false, cond, Option, Some, None, List, [], ◌∷◌, ◌++◌, length, set, get_or, refl, ap, sym, subst, arith}
use Rattle.std.proofs.Math.ListN.{length-set}
use Rattle.std.proofs.lemmas.Bool.Decides.{nat_tests}
use Rattle.std.specs.Prelude.{slice_get, unwrap_or, is_some}
use Rattle.forec_kernel.specs.Shapes.{PlainKernel, plain_kernel}
use Rattle.forec_kernel.specs.Plain.{stmt}
use Rattle.forec_kernel.specs.declared.shape.KernelParts.{KernelParts}
use Rattle.forec_kernel.specs.declared.terms.Statement.{Statement}
use Rattle.forec_kernel.proofs.WeightLemmas.{body_at}
use Rattle.forec_kernel.specs.Values.{function_words}
use Rattle.forec_kernel.specs.Texts.{uses_of, body_of}
use Rattle.forec_kernel.specs.Combining.{contains}
use Rattle.forec_kernel.specs.WellFormed.{WellFormed, function_body, stmt_calls}
use Rattle.tick_bounds.specs.Bound.{stmt_bound, function_bound, thread_bound}
use Rattle.tick_bounds.specs.Capped.{capped, at_table, if_known, known_at, by_tables, as_budget}
use Rattle.tick_bounds.specs.Known.{has_bound, HoldsBounds, IsRight}
use Rattle.tick_bounds.proofs.Agreeing.{body_same, threads_same}
use Rattle.tick_bounds.proofs.CappedBounds.{by_capped, capped_stmt}
use Rattle.tick_bounds.proofs.Unfolds.{function_past, function_unfolds, thread_past, thread_unfolds, body_above}

-- ---- one entry

no_known : (g : ℕ) → known_at [] g ≡ 0
no_known zero = refl
no_known (suc g) = refl

known_past : (table : List (Option ℕ)) (g : ℕ) → length table ≤ g → known_at table g ≡ 0
known_past [] g h = no_known g
known_past (x ∷ xs) zero h = absurd (omega arith)
known_past (x ∷ xs) (suc g) h = known_past xs g (omega arith)

known_same : (table : List (Option ℕ)) (f b : ℕ) → f < length table → known_at (set table f (Some b)) f ≡ b
known_same [] f b h = absurd (omega arith)
known_same (x ∷ xs) zero b h = refl
known_same (x ∷ xs) (suc f) b h = known_same xs f b (omega arith)

entry_other : (table : List (Option ℕ)) (f g : ℕ) (x : Option ℕ) → (f ≡ g → ⊥) → slice_get (set table f x) g ≡ slice_get table g
entry_other [] f g x h = refl
entry_other (y ∷ ys) zero zero x h = absurd (h refl)
entry_other (y ∷ ys) zero (suc g) x h = refl
entry_other (y ∷ ys) (suc f) zero x h = refl
entry_other (y ∷ ys) (suc f) (suc g) x h = entry_other ys f g x (λ e. h (ap suc e))

-- ---- lists

pub each_in : (P : ℕ → Type 0) (xs : List ℕ) → ((j : ℕ) → j < length xs → P (get_or xs j 0)) → (c : ℕ) → contains c xs ≡ true → P c
each_in P [] h c e = absurd (cc)
each_in P (x ∷ xs) h c e = pick (x == c) refl e (λ i. each_in P xs (λ j l. h (suc j) (omega arith)) c i)
  where
    pick : (b : Bool) → (x == c) ≡ b → cond b true (contains c xs) ≡ true → (contains c xs ≡ true → P c) → P c
    pick true i e ih = let same : x ≡ c = grind (arith, nat_tests) in subst P same (h 0 (omega arith))
    pick false i e ih = ih e

-- ---- int functions

pub tells_past : (k : PlainKernel) (table : List (Option ℕ)) (g : ℕ) → length table ≡ length k.functions → length table ≤ g → HoldsBounds k table g
tells_past k table g e h =
    let left = known_past table g h in
    let right = function_past k (length k.functions) g (omega arith) in
    omega arith

-- the bound of a body, where the table tells those of the functions that it calls
pub body_told : (k : PlainKernel) → WellFormed k → (table : List (Option ℕ)) (f b : ℕ) → f < length k.functions →
    ((c : ℕ) → contains c (stmt_calls (function_body k f)) ≡ true → HoldsBounds k table c) →
    b ≡ capped (stmt_bound k (by_tables table []) [] (function_body k f)) → b ≡ capped (function_bound k f)
body_told k wf table f b l told e =
    e
    ∙ (ap capped
    (body_same k (record { kernel = k; words = function_words k.shape.functions f; uses = [] }) (known_at table) (by_capped (function_bound k))
    (at_table []) (by_capped (λ t. 0)) (function_body k f) (wf.each_function f l).body told)
    ∙ (capped_stmt k (function_bound k) (λ t. 0) [] (function_body k f) ∙ ap capped (sym (function_unfolds k wf f))))

module _ (k : PlainKernel) (table : List (Option ℕ)) (f b : ℕ) (l : f < length table) (is : b ≡ capped (function_bound k f)) where
  abbrev after : List (Option ℕ)
  after = set table f (Some b)

  pub put_tells : HoldsBounds k after f
  put_tells = known_same table f b l ∙ is

  -- what is told of another function stays
  split_put : (g : ℕ) (P : Type 0) → (f ≡ g → P) → ((f ≡ g → ⊥) → P) → P
  split_put g P here there = pick (f == g) refl
    where
      pick : (x : Bool) → (f == g) ≡ x → P
      pick true e = here (grind (arith, nat_tests))
      pick false e = there (λ i. absurd (grind (arith, nat_tests)))

  pub put_keeps : (g : ℕ) → HoldsBounds k table g → HoldsBounds k after g
  put_keeps g h =
      split_put g (HoldsBounds k after g) (λ e. subst (HoldsBounds k after) e put_tells) (λ n. ap if_known (entry_other table f g (Some b) n) ∙ h)

  pub put_right : IsRight k table → IsRight k after
  put_right right =
      record {
        long = length-set table f (Some b) ∙ right.long;
        each = λ g e.
            split_put g (HoldsBounds k after g) (λ i. subst (HoldsBounds k after) i put_tells)
            (λ n. put_keeps g (right.each g (sym (ap (λ x. is_some (unwrap_or x None)) (entry_other table f g (Some b) n)) ∙ e)));
      }

pub none_more : (table : List (Option ℕ)) (g : ℕ) → has_bound table g ≡ false → has_bound (table ++ None ∷ []) g ≡ false
none_more [] zero h = refl
none_more [] (suc g) h = refl
none_more (x ∷ xs) zero h = h
none_more (x ∷ xs) (suc g) h = none_more xs g h

-- a table without bounds, as long as the functions are many
pub none_right : (k : PlainKernel) (table : List (Option ℕ)) → length table ≡ length k.functions → ((g : ℕ) → has_bound table g ≡ false) → IsRight k table
none_right k table e none = record { long = e; each = λ g h. absurd (let never : true ≡ false = sym h ∙ none g in cc) }

-- ---- threads

pub at_past : (table : List ℕ) (t : ℕ) → length table ≤ t → at_table table t ≡ 0
at_past [] zero h = refl
at_past [] (suc t) h = refl
at_past (x ∷ xs) zero h = absurd (omega arith)
at_past (x ∷ xs) (suc t) h = at_past xs t (omega arith)

at_same : (table : List ℕ) (t b : ℕ) → t < length table → at_table (set table t b) t ≡ b
at_same [] t b h = absurd (omega arith)
at_same (x ∷ xs) zero b h = refl
at_same (x ∷ xs) (suc t) b h = at_same xs t b (omega arith)

at_above : (table : List ℕ) (t h b : ℕ) → t < h → at_table (set table t b) h ≡ at_table table h
at_above [] t h b l = refl
at_above (x ∷ xs) t zero b l = absurd (omega arith)
at_above (x ∷ xs) zero (suc h) b l = refl
at_above (x ∷ xs) (suc t) (suc h) b l = at_above xs t h b (omega arith)

-- the table tells the bounds of all threads from one on
abbrev pub TellsFrom : PlainKernel → List ℕ → ℕ → Type 0
TellsFrom k table t = (h : ℕ) → t ≤ h → at_table table h ≡ capped (thread_bound k h)

pub all_past : (k : PlainKernel) (table : List ℕ) (n : ℕ) → length table ≡ length k.threads → n ≡ length k.threads → TellsFrom k table n
all_past k table n e m h l =
    let left = at_past table h (omega arith) in
    let right = thread_past k (length k.threads) h (omega arith) in
    omega arith

-- the bound of a thread's body, where the tables tell those of all functions and of the threads above it
pub thread_told : (k : PlainKernel) → WellFormed k → (functions : List (Option ℕ)) (table : List ℕ) (t b : ℕ) → t < length k.threads →
    ((g : ℕ) → HoldsBounds k functions g) → TellsFrom k table (t + 1) →
    b ≡ capped (stmt_bound k (by_tables functions table) (uses_of k t) (body_of k t)) → b ≡ capped (thread_bound k t)
thread_told k wf functions table t b l told above e =
    e
    ∙ (ap capped
    (threads_same k t (uses_of k t) (known_at functions) (by_capped (function_bound k)) (at_table table) (by_capped (thread_bound k)) told
    (λ h m. above h (omega arith)) (body_of k t) (body_above k wf t l))
    ∙ (capped_stmt k (function_bound k) (thread_bound k) (uses_of k t) (body_of k t) ∙ ap capped (sym (thread_unfolds k wf t))))

pub one_more : (k : PlainKernel) (table : List ℕ) (t b : ℕ) → t < length table → b ≡ capped (thread_bound k t) → TellsFrom k table (t + 1) →
    TellsFrom k (set table t b) t
one_more k table t b l is above h m = pick (t == h) refl
  where
    pick : (x : Bool) → (t == h) ≡ x → at_table (set table t b) h ≡ capped (thread_bound k h)
    pick true e =
        let same : t ≡ h = grind (arith, nat_tests) in
        subst (λ i. at_table (set table t b) i ≡ capped (thread_bound k i)) same (at_same table t b l ∙ is)
    pick false e =
        let less : t < h = grind (arith, nat_tests) in
        at_above table t h b less ∙ above h (omega arith)

-- ---- the greatest budget

pub capped_budget : (n : ℕ) → as_budget (capped n) ≡ as_budget n
capped_budget n = pick (nat_lt 4611686018427387904 n) refl
  where
    pick : (x : Bool) → nat_lt 4611686018427387904 n ≡ x → as_budget (capped n) ≡ as_budget n
    pick true e =
        let more : 4611686018427387904 < n = grind (arith, nat_tests) in
        let is : capped n ≡ 4611686018427387905 = omega arith in
        ap as_budget is ∙ sym (ap (λ x. cond x None (Some n)) e)
    pick false e =
        let less : n ≤ 4611686018427387904 = grind (arith, nat_tests) in
        let is : capped n ≡ n = omega arith in
        ap as_budget is

-- ---- bodies that were read at an index

pub function_read : (k parts : KernelParts) (f : ℕ) (x : Statement) → f < length k.functions.items → parts ≡ k → x ≡ get_or parts.functions.items f x →
    stmt x ≡ function_body (plain_kernel k) f
function_read k parts f x h same e =
    let e' : x ≡ get_or k.functions.items f x = e ∙ ap (λ y. get_or y.functions.items f x) same in
    ap stmt e' ∙ sym (body_at k.functions.items f x h)

-- Copies that are passed over leave a thread that combines as it is.
use Rattle.std.proofs.Common.{◌≡◌, ◌≢◌, ℕ, zero, suc, ◌+◌, ◌-◌, ◌<◌, ◌≤◌, ◌==◌, List, [], ◌∷◌, ◌++◌, length, take, drop, get_or, Bool, true, false, refl, sym, ap, ◌∙◌, subst, ⊎_elim, arith}
use Rattle.std.specs.Prelude.{IsTrue}
use Rattle.std.proofs.lemmas.Bool.Decides.{nat_tests}
use Rattle.forec_base.specs.declared.Policy.TheVariants as policy
use Rattle.forec_kernel.specs.declared.shape.VarCopy.{VarCopy}
use Rattle.forec_kernel.specs.Shapes.{PlainKernel}
use Rattle.forec_kernel.specs.Combining.{contains, variable_of}
use Rattle.thread_code.specs.Plain.{PlainCode}
use Rattle.thread_code.specs.Valid.{of_shape}
use Rattle.thread_code.specs.Machine.{BranchCopy, shares_of, code_uses}
use Rattle.thread_state.specs.Kept.{no_copy}
use Rattle.thread_state.proofs.Indexed.{equal_of}
use Rattle.core_machine.specs.declared.branches.Verdict.TheVariants as verdict
use Rattle.core_machine.specs.declared.thread.Thread.{Thread}
use Rattle.core_machine.specs.Held.{some_use}
use Rattle.core_machine.specs.Merging.{Combined}
use Rattle.core_machine.specs.Counting.{ArePassed}
use Rattle.core_machine.proofs.Combining.{shares_next, combined_then, combined_stop, combine_or_not}
use Rattle.core_machine.proofs.Offering.{passes}

earlier : (i to : ℕ) → i < to + 1 → (i == to) ≡ false → i < to
earlier i to lt e = grind (arith, nat_tests)

-- one more is passed over
pub passed_more : (kernel : PlainKernel) (vs : List ℕ) (copies : List VarCopy) (from to : ℕ) → ArePassed kernel vs copies from to →
    (get_or copies to no_copy).modified ≡ false → (variable_of kernel (get_or vs to 0)).policy ≡ policy.Mod → ArePassed kernel vs copies from (to + 1)
passed_more kernel vs copies from to h unmarked marks i le lt = by (i == to) refl
  where
    by : (t : Bool) → (i == to) ≡ t → ((get_or copies i no_copy).modified ≡ false) × ((variable_of kernel (get_or vs i 0)).policy ≡ policy.Mod)
    by true e =
        let same = equal_of i to e in
        (ap (λ j. (get_or copies j no_copy).modified) same ∙ unmarked, ap (λ j. (variable_of kernel (get_or vs j 0)).policy) same ∙ marks)
    by false e = h i le (earlier i to lt e)

module _ (c : PlainCode) (h0 h : Thread) (vs : List ℕ) (copies : List VarCopy) (long : length copies ≡ length vs)
    (used : (i : ℕ) → i < length vs → IsTrue (contains (get_or vs i 0) (code_uses c h0.number)))
    (some : (i : ℕ) → i < length vs → some_use c h0.branches.numbers (get_or vs i 0) ≡ true) where
  abbrev shares : List BranchCopy
  shares = shares_of vs copies

  one_passed : (i : ℕ) → i < length vs → (get_or copies i no_copy).modified ≡ false → (variable_of (of_shape c.shape) (get_or vs i 0)).policy ≡ policy.Mod →
      Combined c h0 h (take i shares) → Combined c h0 h (take (i + 1) shares)
  one_passed i lt unmarked marks x =
      let share : BranchCopy = record { variable = get_or vs i 0; copy = get_or copies i no_copy } in
      let used_here = subst (λ t. IsTrue (contains (get_or vs i 0) (code_uses c t))) (sym x.on.number) (used i lt) in
      let some_here = subst (λ bs. some_use c bs (get_or vs i 0) ≡ true) (sym x.on.numbers) (some i lt) in
      subst (Combined c h0 h) (sym (shares_next vs copies i long lt))
      (⊎_elim
      (λ going. combined_then c h0 h h (take i shares) (share ∷ []) x going
      (passes c h x.on.loaded x.on.phase going (get_or vs i 0) (get_or copies i no_copy) used_here some_here marks unmarked))
      (λ no_more. combined_stop c h0 h (take i shares) (share ∷ []) x no_more)
      (combine_or_not h.branches.verdict))

  stretch : (from n : ℕ) → from + n ≤ length vs → ArePassed (of_shape c.shape) vs copies from (from + n) →
      Combined c h0 h (take from shares) → Combined c h0 h (take (from + n) shares)
  stretch from zero le passed x = let e : from + 0 ≡ from = omega arith in subst (λ k. Combined c h0 h (take k shares)) (sym e) x
  stretch from (suc n) le passed x =
      let e : from + suc n ≡ from + n + 1 = omega arith in
      let here = passed (from + n) (omega arith) (omega arith) in
      let before = stretch from n (omega (arith, le)) (λ i l lt. passed i l (omega (arith, lt))) x in
      subst (λ k. Combined c h0 h (take k shares)) (sym e) (one_passed (from + n) (omega (arith, le)) here.0 here.1 before)

  -- from one place up to another all are passed over
  pub all_passed : (from to : ℕ) → from ≤ to → to ≤ length vs → ArePassed (of_shape c.shape) vs copies from to →
      Combined c h0 h (take from shares) → Combined c h0 h (take to shares)
  all_passed from to le within passed x =
      let e : from + (to - from) ≡ to = omega (arith, le) in
      subst (λ k. Combined c h0 h (take k shares)) e
      (stretch from (to - from) (omega (arith, le, within)) (subst (ArePassed (of_shape c.shape) vs copies from) (sym e) passed) x)

-- what is left isn't combined
pub all_stopped : (c : PlainCode) (h0 h : Thread) (shares : List BranchCopy) (n : ℕ) → h.branches.verdict ≢ verdict.Combine → Combined c h0 h (take n shares) → Combined c h0 h shares
all_stopped c h0 h shares n no_more x = subst (Combined c h0 h) (split shares n) (combined_stop c h0 h (take n shares) (drop n shares) x no_more)
  where
    split : (xs : List BranchCopy) (n : ℕ) → take n xs ++ drop n xs ≡ xs
    split [] zero = refl
    split [] (suc n) = refl
    split (x ∷ xs) zero = refl
    split (x ∷ xs) (suc n) = ap (λ l. x ∷ l) (split xs n)

-- Passes of the queues of all cores, dealt to one core after the other.
use Rattle.std.proofs.Common.{◌≡◌, ◌==◌, ℕ, ◌+◌, ◌<◌, ◌≤◌, ◌∷◌, ◌++◌, [], List, Bool, true, false, length, length-set, map, set, sym, refl, ap, ◌∙◌, subst, ⊎_elim, add-one, arith}
use Rattle.std.specs.Prelude.{Option, Some, cond, slice_get}
use Rattle.std.proofs.lemmas.Bool.Decides.{nat_tests}
use Rattle.std.proofs.lemmas.Option.{slice_get_within}
use Rattle.crossbeam_queue.specs.declared.array_queue.Doing.{Doing}
use Rattle.crossbeam_queue.specs.declared.array_queue.Slotted.{Slotted}
use Rattle.crossbeam_queue.specs.Passes.{Pass, IsPassOf, view}
use Rattle.core_bells.specs.declared.hints.HintLog.{HintLog}
use Rattle.core_bells.specs.Hints.{new_log}
use Rattle.core_bells.specs.Ropes.{ArePasses, AreFirsts, new_logs}
use Rattle.core_bells.proofs.Lists.{length_snoc, map_snoc, same_there, set_cases, snoc_cases}

same_core : (a b : ℕ) → (a == b) ≡ true → a ≡ b
same_core a b e = grind (arith, nat_tests)

other_core : (a b : ℕ) → b < a → (a == b) ≡ false
other_core a b lt = grind (arith, nat_tests)

is_core : (a b : ℕ) → a ≡ b → (a == b) ≡ true
is_core a b e = grind (arith, nat_tests)

module _ {Q A : Type 0} where
  pub firsts_more : (queues : List (Slotted (Option ℕ) (Doing ℕ HintLog) Q A)) (firsts : List (Pass ℕ HintLog)) (q : Slotted (Option ℕ) (Doing ℕ HintLog) Q A) (p : Pass ℕ HintLog)
      → AreFirsts 0 queues firsts → IsPassOf q p → view p ≡ new_log true → AreFirsts 0 (queues ++ q ∷ []) (firsts ++ p ∷ [])
  firsts_more queues firsts q p h is log = record {
    fit = record {
      long = let a = length_snoc firsts p in let b = length_snoc queues q in let n = h.fit.long in omega (arith, a, b, n);
      each = λ k r s at there. ⊎_elim
          (λ (x : (k ≡ length queues) × (q ≡ r)). ⊎_elim
          (λ (y : (k ≡ length firsts) × (p ≡ s)). subst (λ (z : Slotted (Option ℕ) (Doing ℕ HintLog) Q A × Pass ℕ HintLog). IsPassOf z.0 z.1) (λ i. (x.1 i, y.1 i)) is)
          (λ y. let e = x.0 in let n = h.fit.long in let m = slice_get_within firsts k s y in absurd (omega (arith, e, n, m))) (snoc_cases firsts p k s there))
          (λ x. ⊎_elim
          (λ (y : (k ≡ length firsts) × (p ≡ s)). let e = y.0 in let n = h.fit.long in let m = slice_get_within queues k r x in absurd (omega (arith, e, n, m)))
          (λ y. h.fit.each k r s x y) (snoc_cases firsts p k s there)) (snoc_cases queues q k r at);
    };
    first = λ k s le there. ⊎_elim (λ (y : (k ≡ length firsts) × (p ≡ s)). ap view (sym y.1) ∙ log) (λ y. h.first k s le y) (snoc_cases firsts p k s there);
  }

  -- the first `at` passes of the core's rope are there
  pub record AreDealt (core : ℕ) (queues : List (Slotted (Option ℕ) (Doing ℕ HintLog) Q A)) (at : ℕ) (firsts : List (Pass ℕ HintLog)) (dealt : List (Pass ℕ HintLog)) : Type 0 where
    pub fit : ArePasses queues firsts
    pub before : (k : ℕ) (p : Pass ℕ HintLog) → core ≤ k → at ≤ k → slice_get firsts k ≡ Some p → view p ≡ new_log true
    pub after : (k : ℕ) (p : Pass ℕ HintLog) → core + 1 ≤ k → slice_get firsts k ≡ Some p → view p ≡ new_log true
    pub count : length dealt ≡ at
    pub each : (k : ℕ) (q : Slotted (Option ℕ) (Doing ℕ HintLog) Q A) (p : Pass ℕ HintLog) → slice_get queues k ≡ Some q → slice_get dealt k ≡ Some p → IsPassOf q p
    pub logs : map view dealt ≡ new_logs core at
    pub own : (p : Pass ℕ HintLog) → slice_get dealt core ≡ Some p → (view p).may_pop ≡ true

  module _ (core : ℕ) (queues : List (Slotted (Option ℕ) (Doing ℕ HintLog) Q A)) (at : ℕ) (firsts dealt : List (Pass ℕ HintLog)) (q : Slotted (Option ℕ) (Doing ℕ HintLog) Q A) (old first next : Pass ℕ HintLog)
      (there : slice_get queues at ≡ Some q) (was : slice_get firsts at ≡ Some old) (h : AreDealt core queues at firsts dealt)
      (first_is : IsPassOf q first) (first_log : view first ≡ cond (at == core) (new_log false) (view old)) (next_is : IsPassOf q next) (next_log : view next ≡ cond (at == core) (view old) (new_log false)) where
    log_is : view next ≡ new_log (at == core)
    log_is = go (at == core) refl next_log
      where
        go : (b : Bool) → (at == core) ≡ b → view next ≡ cond b (view old) (new_log false) → view next ≡ new_log b
        go true e log = let same = same_core at core e in log ∙ h.before at old (omega (arith, same)) (omega arith) was
        go false e log = log

    pub dealt_more : AreDealt core queues (at + 1) (set firsts at first) (dealt ++ next ∷ [])
    dealt_more = record {
      fit = record {
        long = length-set firsts at first ∙ h.fit.long;
        each = λ k r s here is. ⊎_elim
            (λ (x : (k ≡ at) × (first ≡ s)). subst (λ (z : Slotted (Option ℕ) (Doing ℕ HintLog) Q A × Pass ℕ HintLog). IsPassOf z.0 z.1)
            (λ i. (same_there queues at q r there (ap (slice_get queues) (sym x.0) ∙ here) i, x.1 i)) first_is)
            (λ x. h.fit.each k r s here x.1) (set_cases firsts at first k s is);
      };
      before = λ k s le more is. ⊎_elim (λ (x : (k ≡ at) × (first ≡ s)). let e = x.0 in absurd (omega (arith, e, more))) (λ x. h.before k s le (omega (arith, more)) x.1) (set_cases firsts at first k s is);
      after = λ k s more is. ⊎_elim
          (λ (x : (k ≡ at) × (first ≡ s)). let e = x.0 in let no = other_core at core (omega (arith, e, more)) in
          ap view (sym x.1) ∙ (first_log ∙ (ap (λ b. cond b (new_log false) (view old)) no ∙ h.after at old (omega (arith, e, more)) was)))
          (λ x. h.after k s more x.1) (set_cases firsts at first k s is);
      count = let n = length_snoc dealt next in let m = h.count in omega (arith, n, m);
      each = λ k r s here is. ⊎_elim
          (λ (x : (k ≡ length dealt) × (next ≡ s)). subst (λ (z : Slotted (Option ℕ) (Doing ℕ HintLog) Q A × Pass ℕ HintLog). IsPassOf z.0 z.1)
          (λ i. (same_there queues at q r there (ap (slice_get queues) (sym (x.0 ∙ h.count)) ∙ here) i, x.1 i)) next_is)
          (λ x. h.each k r s here x) (snoc_cases dealt next k s is);
      own = λ s is. ⊎_elim
          (λ (x : (core ≡ length dealt) × (next ≡ s)). let e = x.0 in let n = h.count in ap (λ (p : Pass ℕ HintLog). (view p).may_pop) (sym x.1) ∙ (ap (λ (v : HintLog). v.may_pop) log_is ∙ is_core at core (omega (arith, e, n))))
          (λ x. h.own s x) (snoc_cases dealt next core s is);
      logs = map_snoc view dealt next ∙ ((λ i. h.logs i ++ log_is i ∷ []) ∙ ap (new_logs core) (sym (add-one at)));
    }

-- Which branches run at a fork.
use Rattle.std.proofs.Common.{◌≡◌, ℕ, zero, suc, ◌+◌, ◌-◌, ◌<◌, ◌≤◌, ◌==◌, List, [], ◌∷◌, length, map, get_or, Option, Some, None, Bool, true, false, cond, refl, sym, ap, ◌∙◌, subst, ⊎_elim, inl, inr, arith}
use Rattle.std.specs.Prelude.{ℤ, IsTrue, IsNone, drop, ◌⊎◌}
use Rattle.std.proofs.lemmas.Bool.Decides.{nat_tests}
use Rattle.forec_kernel.specs.declared.shape.VarCopy.{VarCopy}
use Rattle.forec_kernel.specs.Shapes.{PlainThread}
use Rattle.forec_kernel.specs.Combining.{contains}
use Rattle.forec_kernel.specs.Texts.{params_in}
use Rattle.forec_kernel.specs.WellFormed.{all_in, branches_of, is_par, blank_thread}
use Rattle.thread_code.specs.Plain.{PlainCode}
use Rattle.thread_code.specs.Valid.{IsValidCode, IsParOf, branches_in}
use Rattle.thread_code.specs.Machine.{living, starts, wakes, code_uses}
use Rattle.core_machine.specs.Branches.{chosen}
use Rattle.core_machine.specs.Held.{branch_of, IsBranch, AreBranches}
use Rattle.core_machine.specs.Forks.{AreThreads}
use Rattle.thread_state.proofs.Indexed.{equal_of}
use Rattle.thread_state.proofs.Shapes.{few_branches}

pub same_self : (b : ℕ) → (b == b) ≡ true
same_self b = grind (arith, nat_tests)

-- ---- the branches of a par

record Member (ss : List PlainThread) (i j b : ℕ) : Type 0 where
  from : i ≤ b
  below : b < i + length ss
  par : is_par (get_or ss (b - i) blank_thread).par j ≡ true

member : (ss : List PlainThread) (i j b : ℕ) → IsTrue (contains b (branches_of ss i j)) → Member ss i j b
member [] i j b h = cc
member (s ∷ ss) i j b h = by_par (is_par s.par j) refl h (member ss (suc i) j b)
  where
    later : Member ss (suc i) j b → Member (s ∷ ss) i j b
    later m = let e : b - i ≡ suc (b - suc i) = omega (arith, m.from) in record { from = omega (arith, m.from); below = omega (arith, m.below); par = ap (λ k. is_par (get_or (s ∷ ss) k blank_thread).par j) e ∙ m.par }

    here : (t : Bool) → (i == b) ≡ t → is_par s.par j ≡ true → IsTrue (cond t true (contains b (branches_of ss (suc i) j))) → (IsTrue (contains b (branches_of ss (suc i) j)) → Member ss (suc i) j b) → Member (s ∷ ss) i j b
    here true e p h more =
        let k : i ≡ b = equal_of i b e in
        let z : b - i ≡ 0 = omega (arith, k) in
        record { from = omega (arith, k); below = omega (arith, k); par = ap (λ k. is_par (get_or (s ∷ ss) k blank_thread).par j) z ∙ p }
    here false e p h more = later (more h)

    by_par : (t : Bool) → is_par s.par j ≡ t → IsTrue (contains b (cond t (i ∷ branches_of ss (suc i) j) (branches_of ss (suc i) j))) → (IsTrue (contains b (branches_of ss (suc i) j)) → Member ss (suc i) j b) → Member (s ∷ ss) i j b
    by_par true p h more = here (i == b) refl p h more
    by_par false p h more = later (more h)

-- ---- those that live

pub few_living : (live : List Bool) (bs : List ℕ) → length (living live bs) ≤ length bs
few_living live [] = omega arith
few_living live (b ∷ bs) = by_live (get_or live b false) (few_living live bs)
  where
    by_live : (l : Bool) → length (living live bs) ≤ length bs → length (cond l (b ∷ living live bs) (living live bs)) ≤ length (b ∷ bs)
    by_live true le = omega (arith, le)
    by_live false le = omega (arith, le)

of_living : (live : List Bool) (bs : List ℕ) (x : ℕ) → IsTrue (contains x (living live bs)) → IsTrue (contains x bs)
of_living live [] x h = h
of_living live (b ∷ bs) x h = by_live (get_or live b false) h (of_living live bs x)
  where
    later : (t : Bool) → IsTrue (contains x bs) → IsTrue (cond t true (contains x bs))
    later true h = refl
    later false h = h

    by_test : (t : Bool) → IsTrue (cond t true (contains x (living live bs))) → (IsTrue (contains x (living live bs)) → IsTrue (contains x bs)) → IsTrue (cond t true (contains x bs))
    by_test true h more = refl
    by_test false h more = more h

    by_live : (l : Bool) → IsTrue (contains x (cond l (b ∷ living live bs) (living live bs))) → (IsTrue (contains x (living live bs)) → IsTrue (contains x bs)) → IsTrue (contains x (b ∷ bs))
    by_live true h more = by_test (b == x) h more
    by_live false h more = later (b == x) (more h)

pub few_chosen : (again : Bool) (live : List Bool) (bs : List ℕ) → length (chosen again live bs) ≤ length bs
few_chosen true live bs = few_living live bs
few_chosen false live bs = omega arith

of_chosen : (again : Bool) (live : List Bool) (bs : List ℕ) (x : ℕ) → IsTrue (contains x (chosen again live bs)) → IsTrue (contains x bs)
of_chosen true live bs x h = of_living live bs x h
of_chosen false live bs x h = h

-- ---- branches of a thread

are_branches : (c : PlainCode) (t : ℕ) (bs : List ℕ) → ((b : ℕ) → IsTrue (contains b bs) → IsBranch c t b) → AreBranches c t bs
are_branches c t [] h = tt
are_branches c t (b ∷ bs) h = (
  h b (subst (λ x. IsTrue (cond x true (contains b bs))) (sym (same_self b)) refl),
  are_branches c t bs (λ x k. h x (later (b == x) (contains x bs) k)),
)
  where
    later : (t : Bool) (rest : Bool) → IsTrue rest → IsTrue (cond t true rest)
    later true rest h = refl
    later false rest h = h

root_alone : (p : Option ℕ) (j : ℕ) → IsNone p → is_par p j ≡ true → ⊥
root_alone None j none h = cc
root_alone (Some n) j none h = cc

module _ (c : PlainCode) (valid : IsValidCode c) (t j : ℕ) (p : IsParOf c.shape (Some t) j) where
  branch_is : (b : ℕ) → IsTrue (contains b (branches_in c.shape j)) → IsBranch c t b
  branch_is b h =
      let m = member c.shape.threads 0 j b h in
      let z : b - 0 ≡ b = omega arith in
      let par : is_par (get_or c.shape.threads b blank_thread).par j ≡ true = sym (ap (λ k. is_par (get_or c.shape.threads k blank_thread).par j) z) ∙ m.par in
      let below : b < length c.shape.threads = omega (arith, m.below) in
      let some : 0 < b = ⊎_elim (λ none. absurd (root_alone (get_or c.shape.threads 0 blank_thread).par j valid.shape.root.par (subst (λ k. is_par (get_or c.shape.threads k blank_thread).par j ≡ true) none par))) (λ lt. lt) (zero_or b) in
      let child = valid.shape.each_child b some below in
      let owner : t ≡ p.owner = let e = p.is in cc in
      let same : child.parent ≡ t = let e = sym child.is ∙ p.parent b h in let k : child.parent ≡ p.owner = cc in k ∙ sym owner in
      record { thread = below; uses = subst (λ q. IsTrue (all_in (code_uses c b) (code_uses c q))) same child.uses }
    where
      zero_or : (b : ℕ) → (b ≡ 0) ⊎ (0 < b)
      zero_or zero = inl refl
      zero_or (suc b) = inr (omega arith)

  pub chosen_are : (again : Bool) (live : List Bool) → AreBranches c t (chosen again live (branches_in c.shape j))
  chosen_are again live = are_branches c t (chosen again live (branches_in c.shape j)) (λ b h. branch_is b (of_chosen again live (branches_in c.shape j) b h))

pub chosen_few : (c : PlainCode) → IsValidCode c → (j : ℕ) (again : Bool) (live : List Bool) → length (chosen again live (branches_in c.shape j)) ≤ 256
chosen_few c valid j again live = omega (arith, few_chosen again live (branches_in c.shape j), few_branches c.shape.threads 0 j, valid.shape.few_threads)

pub are_threads : (c : PlainCode) (t : ℕ) (bs : List ℕ) → AreBranches c t bs → AreThreads c.shape bs
are_threads c t [] h = tt
are_threads c t (b ∷ bs) h = (h.0.thread, are_threads c t bs h.1)

-- ---- the seeds name them

pub starts_name : (c : PlainCode) (t : ℕ) (copies : List VarCopy) (bs : List ℕ) (args : List ℤ) → map branch_of (starts c t copies bs args) ≡ bs
starts_name c t copies [] args = refl
starts_name c t copies (b ∷ bs) args = ap (λ l. b ∷ l) (starts_name c t copies bs (drop (params_in c.shape.threads b) args))

pub wakes_name : (c : PlainCode) (t : ℕ) (copies : List VarCopy) (bs : List ℕ) → map branch_of (wakes c t copies bs) ≡ bs
wakes_name c t copies [] = refl
wakes_name c t copies (b ∷ bs) = ap (λ l. b ∷ l) (wakes_name c t copies bs)

-- The parents of branches.
use Rattle.std.proofs.Common.{◌≡◌, ℕ, zero, suc, ◌+◌, ◌<◌, Some, List, [], ◌∷◌, ◌++◌, length, sym, ap, ◌∙◌, subst, ⊎_elim, arith}
use Rattle.std.proofs.lemmas.Option.{get_or_from_slice_get}
use Rattle.std.proofs.Common.{length-append}
use Rattle.std.specs.Prelude.{slice_get, get_or, slice_index_or, map}
use Rattle.std.proofs.lemmas.List.{length-map}
use Rattle.forec_kernel.specs.declared.shape.Shape.{Shape}
use Rattle.forec_kernel.specs.declared.shape.ThreadShape.{ThreadShape}
use Rattle.forec_kernel.specs.Shapes.{plain_thread}
use Rattle.forec_kernel.specs.WellFormed.{blank_thread, thread_of, FineChild}
use Rattle.thread_code.specs.declared.instruction.CodeParts.{CodeParts}
use Rattle.thread_code.specs.Plain.{PlainCode, plain_code}
use Rattle.thread_code.specs.Valid.{of_shape, IsValidCode}
use Rattle.copy_slots.proofs.Seating.{snoc_cases}
use Rattle.tick_jobs.specs.Branches.{IsBranchOf}
use Rattle.board_hosts.specs.Boards.{AreEnds}

parent_of : (l : List ThreadShape) (t : ℕ) (x : ThreadShape) → t < length l → x ≡ slice_index_or l t x → (get_or (map plain_thread l) t blank_thread).parent ≡ x.parent
parent_of [] t x lt e = absurd (omega (arith, lt))
parent_of (y ∷ l) zero x lt e = ap (λ (s : ThreadShape). s.parent) (sym e)
parent_of (y ∷ l) (suc t) x lt e = parent_of l t x (omega (arith, lt)) e

pub branch_parent : (code : CodeParts) (s : Shape) (m : ℕ) (x : ThreadShape) → s ≡ code.shape → suc m < length code.shape.threads.items →
    x ≡ slice_index_or s.threads.items (m + 1) x → (thread_of (of_shape (plain_code code).shape) (suc m)).parent ≡ x.parent
branch_parent code s m x same lt at =
    let one : m + 1 ≡ suc m = omega arith in
    parent_of code.shape.threads.items (suc m) x lt (at ∙ ap (λ n. slice_index_or s.threads.items n x) one ∙ ap (λ (s' : Shape). slice_index_or s'.threads.items (suc m) x) same)

pub branch_fine : (code : CodeParts) → IsValidCode (plain_code code) → (m : ℕ) (places : List ℕ) → length places ≡ length (plain_code code).threads → suc m < length places →
    FineChild (of_shape (plain_code code).shape) (suc m) × (suc m < length code.shape.threads.items)
branch_fine code valid m places placed within =
    let threads = valid.threads in
    let mapped = length-map code.shape.threads.items plain_thread in
    (valid.shape.each_child (suc m) (omega arith) (omega (arith, threads, placed, within)), omega (arith, threads, placed, within, mapped))

pub one_parent : (a b : ℕ) → Some a ≡ Some b → a ≡ b
one_parent a b e = cc

-- the cores of the ends of the first mailboxes
pub record EndsBelow (c : PlainCode) (places : List ℕ) (n : ℕ) (ends : List (ℕ × ℕ)) : Type 0 where
  pub count : length ends ≡ n
  pub parent : (k t : ℕ) (e : ℕ × ℕ) → slice_get ends k ≡ Some e → IsBranchOf c.shape t k → e.0 ≡ get_or places t 0
  pub child : (k : ℕ) (e : ℕ × ℕ) → slice_get ends k ≡ Some e → e.1 ≡ get_or places (suc k) 0

no_end : (k : ℕ) (e : ℕ × ℕ) → slice_get [] k ≡ Some e → ⊥
no_end zero e at = cc
no_end (suc k) e at = cc

pub no_ends : (c : PlainCode) (places : List ℕ) (ends : List (ℕ × ℕ)) → ends ≡ [] → EndsBelow c places 0 ends
no_ends c places ends empty = record {
  count = ap length empty;
  parent = λ k t e at branch. absurd (no_end k e (ap (λ l. slice_get l k) (sym empty) ∙ at));
  child = λ k e at. absurd (no_end k e (ap (λ l. slice_get l k) (sym empty) ∙ at));
}

pub ends_more : (c : PlainCode) (places : List ℕ) (n : ℕ) (ends : List (ℕ × ℕ)) (p q : ℕ) → EndsBelow c places n ends →
    ((t : ℕ) → IsBranchOf c.shape t n → slice_get places t ≡ Some p) → slice_get places (n + 1) ≡ Some q → EndsBelow c places (n + 1) (ends ++ (p, q) ∷ [])
ends_more c places n ends p q had parent child = record {
  count = let more = length-append ends ((p, q) ∷ []) in let count = had.count in omega (arith, more, count);
  parent = λ k t e at branch. ⊎_elim
      (λ new. let here : k ≡ n = new.0 ∙ had.count in
      ap (λ (x : ℕ × ℕ). x.0) (sym new.1) ∙ sym (get_or_from_slice_get places t p 0 (parent t (subst (λ j. IsBranchOf c.shape t j) here branch))))
      (λ old. had.parent k t e old branch) (snoc_cases ends (p, q) e k at);
  child = λ k e at. ⊎_elim
      (λ new. let here : n + 1 ≡ suc k = (let count = had.count in let is = new.0 in omega (arith, count, is)) in
      ap (λ (x : ℕ × ℕ). x.1) (sym new.1) ∙ sym (get_or_from_slice_get places (n + 1) q 0 child) ∙ ap (λ j. get_or places j 0) here)
      (λ old. had.child k e old) (snoc_cases ends (p, q) e k at);
}

pub ends_all : (c : PlainCode) (places : List ℕ) (n : ℕ) (ends : List (ℕ × ℕ)) → EndsBelow c places n ends → suc n ≡ length c.threads → AreEnds c places ends
ends_all c places n ends had all = record { count = ap suc had.count ∙ all; parent = had.parent; child = had.child }

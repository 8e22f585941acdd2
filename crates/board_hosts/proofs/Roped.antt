-- The ropes of the hosts.
use Rattle.std.proofs.Common.{◌≡◌, ℕ, zero, suc, ◌+◌, ◌<◌, ◌∷◌, ◌++◌, [], List, length, refl, sym, ap, ◌∙◌, subst, ⊎_elim, arith}
use Rattle.std.specs.Prelude.{Some, slice_get}
use Rattle.copy_slots.proofs.Seating.{snoc_cases}
use Rattle.thread_code.specs.declared.instruction.CodeParts.{CodeParts}
use Rattle.core_alloc.specs.Places.{Places}
use Rattle.core_bells.specs.Ropes.{RopeState, new_rope, new_ropes}
use Rattle.core_host.specs.Hosted.{Hosted}
use Rattle.core_seats.specs.Hung.{IsRopeOf}
use Rattle.board_hosts.specs.CoreHosts.{AreNewRopes}

longer : (l : List RopeState) (r : RopeState) → length (l ++ r ∷ []) ≡ suc (length l)
longer [] r = refl
longer (x ∷ l) r = ap suc (longer l r)

none_there : (i : ℕ) (r : RopeState) → slice_get [] i ≡ Some r → ⊥
none_there zero r e = cc
none_there (suc i) r e = cc

module _ (code : CodeParts) (placement : Places) where
  count : (n : ℕ) → length (new_ropes code placement n) ≡ n
  count zero = refl
  count (suc n) = longer (new_ropes code placement n) (new_rope code placement n) ∙ ap suc (count n)

  there : (n i : ℕ) (r : RopeState) → slice_get (new_ropes code placement n) i ≡ Some r → r ≡ new_rope code placement i
  there zero i r at = absurd (none_there i r at)
  there (suc n) i r at = ⊎_elim (λ new. sym new.1 ∙ ap (new_rope code placement) (sym (new.0 ∙ count n))) (λ old. there n i r old)
      (snoc_cases (new_ropes code placement n) (new_rope code placement n) r i at)

  pub all_roped : (l : List RopeState) → l ≡ new_ropes code placement placement.cores → AreNewRopes code placement 0 l
  all_roped l is = let long = ap length is ∙ count placement.cores in (
    omega (arith, long),
    λ i r at.
        let none : i ≡ 0 + i = omega arith in there placement.cores i r (ap (λ m. slice_get m i) (sym is) ∙ at) ∙ ap (new_rope code placement) none,
  )

  module _ (core : ℕ) (l rest : List RopeState) (r : RopeState) (is : l ≡ r ∷ rest) (are : AreNewRopes code placement core l) where
    pub next_roped : r ≡ new_rope code placement core
    next_roped = let none : core + 0 ≡ core = omega arith in are.1 0 r (ap (λ m. slice_get m 0) is) ∙ ap (new_rope code placement) none

    pub later_roped : AreNewRopes code placement (core + 1) rest
    later_roped = let long = ap length is in let all = are.0 in (
      omega (arith, long, all),
      λ i q at.
          let one : core + suc i ≡ core + 1 + i = omega arith in are.1 (suc i) q (ap (λ m. slice_get m (suc i)) is ∙ at) ∙ ap (new_rope code placement) one,
    )

  -- the rope of a host's core fits the host
  pub rope_fits : (core : ℕ) (r : RopeState) (h : Hosted) → r ≡ new_rope code placement core → h.code ≡ code → h.places ≡ placement.places → h.cores ≡ core ∷ [] → IsRopeOf h.code h.places h.cores r
  rope_fits core r h is same places cores =
      subst (λ q. IsRopeOf h.code h.places h.cores q) (sym is)
      (subst (λ x. IsRopeOf x h.places h.cores (new_rope code placement core)) (sym same) (record { core = cores; places = sym places; rooms = refl }))

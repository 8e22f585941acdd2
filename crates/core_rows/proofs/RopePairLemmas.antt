-- The last rope of several.
use Rattle.std.proofs.Common.{◌≡◌, ℕ, zero, suc, ◌∷◌, ◌++◌, [], List, refl, ap, sym, ◌∙◌}
use Rattle.thread_code.specs.declared.instruction.CodeParts.{CodeParts}
use Rattle.core_alloc.specs.Places.{Places}
use Rattle.core_bells.specs.Ropes.{RopeState, new_rope, new_ropes}
use Rattle.core_rows.specs.RopePairs.{AreRopes}

same_last : (xs ys : List RopeState) (x y : RopeState) → xs ++ x ∷ [] ≡ ys ++ y ∷ [] → (xs ≡ ys) × (x ≡ y)
same_last [] [] x y e = (refl, cc)
same_last [] (v ∷ []) x y e = absurd (cc)
same_last [] (v ∷ w ∷ ys) x y e = absurd (cc)
same_last (u ∷ []) [] x y e = absurd (cc)
same_last (u ∷ w ∷ xs) [] x y e = absurd (cc)
same_last (u ∷ xs) (v ∷ ys) x y e = let first : u ≡ v = cc in let rest : xs ++ x ∷ [] ≡ ys ++ y ∷ [] = cc in let t = same_last xs ys x y rest in ((λ i. first i ∷ t.0 i), t.1)

none_last : {A : Type 0} (xs : List RopeState) (x : RopeState) → xs ++ x ∷ [] ≡ [] → A
none_last [] x e = absurd (cc)
none_last (u ∷ xs) x e = absurd (cc)

-- the last one is of the placement, and so are the others
last_is : (code : CodeParts) (placement : Places) (n : ℕ) (ropes : List RopeState) (r : RopeState) → ropes ++ r ∷ [] ≡ new_ropes code placement n → (r.placement ≡ placement) × (m : ℕ) × (ropes ≡ new_ropes code placement m)
last_is code placement zero ropes r e = none_last ropes r e
last_is code placement (suc n) ropes r e = let t = same_last ropes (new_ropes code placement n) r (new_rope code placement n) e in (ap (λ (s : RopeState). s.placement) t.1, n, t.0)

pub one_placement : (all more ropes : List RopeState) (first second : RopeState) → AreRopes all → all ≡ more ++ second ∷ [] → more ≡ ropes ++ first ∷ [] → second.placement ≡ first.placement
one_placement all more ropes first second h e f =
    let t = last_is h.code h.placement h.count more second (sym e ∙ h.are) in
    let u = last_is h.code h.placement t.1 ropes first (sym f ∙ t.2) in t.0 ∙ sym u.0

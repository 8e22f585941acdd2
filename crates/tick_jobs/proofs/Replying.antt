-- A list of exchanges has one list of outputs.
use Rattle.std.proofs.Common.{◌≡◌, List, [], ◌∷◌, refl, sym, ap, subst, ◌∙◌}
use Rattle.forec_kernel.specs.Engine.{Job, Start, Wake, allowance_of, Engine, Rest, Asleep, Nothing, Exchange, Output, Begins, Serves, Alone}
use Rattle.forec_kernel.proofs.Same.{IsSteady, serves_one}

-- ---- a list of exchanges has one list of outputs

module _ (S : Type 0) (e : Engine S) (steady : IsSteady e) where
  begins_one : (job : Job) (r : Rest S) (s s' : S) → Begins e job r s → Begins e job r s' → s ≡ s'
  begins_one (Start args values a) r s s' h g = h ∙ sym g
  begins_one (Wake values a) (Asleep m) s s' h g = h ∙ sym g
  begins_one (Wake values a) Nothing s s' h g = absurd h

  pub alone_one : (xs : List Exchange) (r : Rest S) (os ps : List Output) → Alone e xs r os → Alone e xs r ps → os ≡ ps
  alone_one [] r [] [] h g = refl
  alone_one [] r (o ∷ os) ps h g = absurd h
  alone_one [] r [] (p ∷ ps) h g = absurd g
  alone_one (x ∷ xs) r [] ps h g = absurd h
  alone_one (x ∷ xs) r (o ∷ os) [] h g = absurd g
  alone_one (x ∷ xs) r (o ∷ os) (p ∷ ps) h g =
      let s = begins_one x.job r g.0 h.0 g.2 h.2 in
      let same = serves_one S e steady (allowance_of x.job) x.replies h.0 o p h.1 g.1 h.3 (subst (λ m. Serves e (allowance_of x.job) x.replies m p g.1) s g.3) in
      let rest = alone_one xs h.1 os ps h.4 (subst (λ q. Alone e xs q ps) (sym same.1) g.4) in
      ap (λ q. q ∷ os) same.0 ∙ ap (λ qs. p ∷ qs) rest

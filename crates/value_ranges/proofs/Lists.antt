-- What holds of each element of a list.
use Rattle.std.proofs.Common.{ℕ, zero, suc, List, [], ◌∷◌, ◌++◌, get_or, slice_set, take, replicate}
use Rattle.std.specs.List.{AllByRecursion}

module _ {X : Type 0} (P : X → Type 0) where
  pub all_get : (xs : List X) (i : ℕ) (d : X) → AllByRecursion P xs → P d → P (get_or xs i d)
  all_get [] i d h p = p
  all_get (x ∷ xs) zero d h p = h.0
  all_get (x ∷ xs) (suc i) d h p = all_get xs i d h.1 p

  pub all_set : (xs : List X) (i : ℕ) (y : X) → AllByRecursion P xs → P y → AllByRecursion P (slice_set xs i y)
  all_set [] i y h p = tt
  all_set (x ∷ xs) zero y h p = (p, h.1)
  all_set (x ∷ xs) (suc i) y h p = (h.0, all_set xs i y h.1 p)

  pub all_append : (xs ys : List X) → AllByRecursion P xs → AllByRecursion P ys → AllByRecursion P (xs ++ ys)
  all_append [] ys h g = g
  all_append (x ∷ xs) ys h g = (h.0, all_append xs ys h.1 g)

  pub all_replicate : (n : ℕ) (x : X) → P x → AllByRecursion P (replicate n x)
  all_replicate zero x p = tt
  all_replicate (suc n) x p = (p, all_replicate n x p)

  pub all_take : (n : ℕ) (xs : List X) → AllByRecursion P xs → AllByRecursion P (take n xs)
  all_take zero xs h = tt
  all_take (suc n) [] h = tt
  all_take (suc n) (x ∷ xs) h = (h.0, all_take n xs h.1)

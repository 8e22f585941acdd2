-- Something that holds of each element of a list.
use Rattle.std.proofs.Common.{◌≡◌, Bool, true, List, [], ◌∷◌, ◌++◌, refl}
use Rattle.std.proofs.lemmas.Bool.{and_parts, and_from}
use Rattle.std.specs.List.{list_all}
pub use Rattle.forec_kernel.proofs.Each.{Each, each_in}

pub each_front : {A : Type 0} → (P : A → Type 0) (xs ys : List A) → Each P (xs ++ ys) → Each P xs
each_front P [] ys h = tt
each_front P (x ∷ xs) ys h = (h.0, each_front P xs ys h.1)

pub each_back : {A : Type 0} → (P : A → Type 0) (xs ys : List A) → Each P (xs ++ ys) → Each P ys
each_back P [] ys h = h
each_back P (x ∷ xs) ys h = each_back P xs ys h.1

pub each_join : {A : Type 0} → (P : A → Type 0) (xs ys : List A) → Each P xs → Each P ys → Each P (xs ++ ys)
each_join P [] ys h g = g
each_join P (x ∷ xs) ys h g = (h.0, each_join P xs ys h.1 g)

pub each_map : {A : Type 0} → (P Q : A → Type 0) → ((x : A) → P x → Q x) → (xs : List A) → Each P xs → Each Q xs
each_map P Q f [] h = tt
each_map P Q f (x ∷ xs) h = (f x h.0, each_map P Q f xs h.1)

pub each_test : {A : Type 0} → (p : A → Bool) (xs : List A) → list_all p xs ≡ true → Each (λ x. p x ≡ true) xs
each_test p [] h = tt
each_test p (x ∷ xs) h = let b = and_parts (p x) (list_all p xs) h in (b.0, each_test p xs b.1)

pub test_each : {A : Type 0} → (p : A → Bool) (xs : List A) → Each (λ x. p x ≡ true) xs → list_all p xs ≡ true
test_each p [] h = refl
test_each p (x ∷ xs) h = and_from (p x) (list_all p xs) h.0 (test_each p xs h.1)

pub each_both : {A : Type 0} → (P Q : A → Type 0) (xs : List A) → Each P xs → Each Q xs → Each (λ x. P x × Q x) xs
each_both P Q [] h g = tt
each_both P Q (x ∷ xs) h g = ((h.0, g.0), each_both P Q xs h.1 g.1)

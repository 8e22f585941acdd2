-- Lists that grow at the end.
use Rattle.std.proofs.Common.{◌≡◌, ◌≢◌, ℕ, zero, suc, ◌+◌, ◌<◌, ◌∷◌, ◌++◌, [], List, length, map, set, refl, sym, ap, ◌∙◌, ⊎_elim, inl, inr, arith}
use Rattle.std.specs.Prelude.{All, Some, get_or, slice_get, take, ◌⊎◌}
use Rattle.std.proofs.lemmas.Option.{slice_get-get_or}
use Rattle.std.proofs.lemmas.List.Elements.{All-append}

some_is : {A : Type 0} (a b : A) → Some a ≡ Some b → a ≡ b
some_is a b e = cc

pub length_snoc : {A : Type 0} (l : List A) (a : A) → length (l ++ a ∷ []) ≡ length l + 1
length_snoc [] a = refl
length_snoc (x ∷ l) a = let t = length_snoc l a in omega (arith, t)

pub map_snoc : {A B : Type 0} (f : A → B) (l : List A) (a : A) → map f (l ++ a ∷ []) ≡ map f l ++ f a ∷ []
map_snoc f [] a = refl
map_snoc f (x ∷ l) a = ap (λ m. f x ∷ m) (map_snoc f l a)

take_suc : {A : Type 0} (l : List A) (k : ℕ) (a : A) → slice_get l k ≡ Some a → take (suc k) l ≡ take k l ++ a ∷ []
take_suc [] zero a e = absurd (cc)
take_suc [] (suc k) a e = absurd (cc)
take_suc (x ∷ l) zero a e = ap (λ y. y ∷ []) (some_is x a e)
take_suc (x ∷ l) (suc k) a e = ap (λ m. x ∷ m) (take_suc l k a e)

pub take_next : {A : Type 0} (l : List A) (k : ℕ) (a : A) → slice_get l k ≡ Some a → take k l ++ a ∷ [] ≡ take (k + 1) l
take_next l k a e = let one : suc k ≡ k + 1 = omega arith in sym (take_suc l k a e) ∙ ap (λ n. take n l) one

all_one : {A : Type 0} (P : A → Type 0) (a : A) → P a → All P (a ∷ [])
all_one P a one zero d lt = one
all_one P a one (suc k) d lt = absurd (omega (arith, lt))

pub all_snoc : {A : Type 0} (P : A → Type 0) (l : List A) (a : A) → All P l → P a → All P (l ++ a ∷ [])
all_snoc P l a all one = All-append P l (a ∷ []) all (all_one P a one)

pub at_index : {A : Type 0} (l : List A) (k : ℕ) (a : A) → k < length l → a ≡ get_or l k a → slice_get l k ≡ Some a
at_index l k a lt e = slice_get-get_or l k a lt ∙ ap Some (sym e)

pub same_there : {A : Type 0} (l : List A) (k : ℕ) (a b : A) → slice_get l k ≡ Some a → slice_get l k ≡ Some b → a ≡ b
same_there l k a b e f = some_is a b (sym e ∙ f)

pub snoc_cases : {A : Type 0} (l : List A) (a : A) (k : ℕ) (b : A) → slice_get (l ++ a ∷ []) k ≡ Some b → ((k ≡ length l) × (a ≡ b)) ⊎ (slice_get l k ≡ Some b)
snoc_cases [] a zero b e = inl (refl, some_is a b e)
snoc_cases [] a (suc k) b e = absurd (cc)
snoc_cases (x ∷ l) a zero b e = inr e
snoc_cases (x ∷ l) a (suc k) b e = ⊎_elim (λ p. inl (ap suc p.0, p.1)) (λ p. inr p) (snoc_cases l a k b e)

pub set_cases : {A : Type 0} (l : List A) (i : ℕ) (a : A) (k : ℕ) (b : A) → slice_get (set l i a) k ≡ Some b → ((k ≡ i) × (a ≡ b)) ⊎ ((k ≢ i) × (slice_get l k ≡ Some b))
set_cases [] i a k b e = absurd (cc)
set_cases (x ∷ l) zero a zero b e = inl (refl, some_is a b e)
set_cases (x ∷ l) zero a (suc k) b e = inr ((λ h. absurd (omega (arith, h))), e)
set_cases (x ∷ l) (suc i) a zero b e = inr ((λ h. absurd (omega (arith, h))), e)
set_cases (x ∷ l) (suc i) a (suc k) b e = ⊎_elim (λ p. inl (ap suc p.0, p.1)) (λ p. inr ((λ h. p.0 (omega (arith, h))), p.1)) (set_cases l i a k b e)

pub get_there : {A : Type 0} (l : List A) (k : ℕ) → k < length l → (a : A) × (slice_get l k ≡ Some a)
get_there [] k lt = absurd (omega (arith, lt))
get_there (x ∷ l) zero lt = (x, refl)
get_there (x ∷ l) (suc k) lt = get_there l k (omega (arith, lt))

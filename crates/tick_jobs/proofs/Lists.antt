-- Lists, item by item.
use Rattle.std.proofs.Common.{◌≡◌, ◌≢◌, ℕ, zero, suc, ◌+◌, ◌<◌, ◌≤◌, Some, None, Ok, Err, Result, List, [], ◌∷◌, ◌++◌, map, length, take, refl, sym, ap, inl, inr, ⊎_elim, arith}
use Rattle.std.specs.Prelude.{slice_get, slice_set, IfOk, ◌⊎◌}

pub some_once : {A : Type 0} (x y : A) → Some x ≡ Some y → x ≡ y
some_once x y e = cc

pub get_set : {A : Type 0} (l : List A) (k : ℕ) (a : A) → k < length l → slice_get (slice_set l k a) k ≡ Some a
get_set [] k a h = absurd (omega arith)
get_set (x ∷ xs) zero a h = refl
get_set (x ∷ xs) (suc k) a h = get_set xs k a (omega arith)

pub get_set_else : {A : Type 0} (l : List A) (k j : ℕ) (a : A) → j ≢ k → slice_get (slice_set l k a) j ≡ slice_get l j
get_set_else [] k j a n = refl
get_set_else (x ∷ xs) zero zero a n = absurd (n refl)
get_set_else (x ∷ xs) zero (suc j) a n = refl
get_set_else (x ∷ xs) (suc k) zero a n = refl
get_set_else (x ∷ xs) (suc k) (suc j) a n = get_set_else xs k j a (λ e. n (ap suc e))

pub by_equal : (i j : ℕ) {A : Type 0} → (i ≢ j → A) → (i ≡ j → A) → A
by_equal zero zero f g = g refl
by_equal zero (suc j) f g = f (λ e. omega (arith, e))
by_equal (suc i) zero f g = f (λ e. omega (arith, e))
by_equal (suc i) (suc j) f g = by_equal i j (λ n. f (λ e. n (omega (arith, e)))) (λ e. g (ap suc e))

pub take_more : {A : Type 0} (l : List A) (k : ℕ) (x : A) → slice_get l k ≡ Some x → take (suc k) l ≡ take k l ++ x ∷ []
take_more [] zero x e = cc
take_more [] (suc k) x e = cc
take_more (y ∷ l) zero x e = ap (λ z. z ∷ []) (some_once y x e)
take_more (y ∷ l) (suc k) x e = ap (λ m. y ∷ m) (take_more l k x e)

pub take_count : {A : Type 0} (l : List A) (k : ℕ) → k ≤ length l → length (take k l) ≡ k
take_count l zero le = refl
take_count [] (suc k) le = absurd (omega arith)
take_count (y ∷ l) (suc k) le = ap suc (take_count l k (omega (arith, le)))

pub take_all : {A : Type 0} (l : List A) (k : ℕ) → length l ≤ k → take k l ≡ l
take_all [] zero le = refl
take_all [] (suc k) le = refl
take_all (y ∷ l) zero le = absurd (omega arith)
take_all (y ∷ l) (suc k) le = ap (λ m. y ∷ m) (take_all l k (omega (arith, le)))

pub past_end : {A : Type 0} (l : List A) (k : ℕ) → slice_get l k ≡ None → length l ≤ k
past_end [] k e = omega arith
past_end (y ∷ l) zero e = cc
past_end (y ∷ l) (suc k) e = let ih = past_end l k e in omega (arith, ih)

pub get_then : {A : Type 0} (l : List A) (x : A) (i : ℕ) (y : A) → slice_get (l ++ x ∷ []) i ≡ Some y → ((i ≡ length l) × (y ≡ x)) ⊎ (slice_get l i ≡ Some y)
get_then [] x zero y e = inl (refl, sym (some_once x y e))
get_then [] x (suc zero) y e = cc
get_then [] x (suc (suc i)) y e = cc
get_then (z ∷ l) x zero y e = inr e
get_then (z ∷ l) x (suc i) y e = ⊎_elim (λ p. inl (ap suc p.0, p.1)) (λ p. inr p) (get_then l x i y e)

pub length_then : {A : Type 0} (l : List A) (x : A) → length (l ++ x ∷ []) ≡ length l + 1
length_then [] x = refl
length_then (y ∷ l) x = let ih = length_then l x in omega (arith, ih)

pub at_map : {A B : Type 0} (f : A → B) (l : List A) (k : ℕ) (b : B) → slice_get (map f l) k ≡ Some b → (a : A) × (slice_get l k ≡ Some a) × (f a ≡ b)
at_map f [] k b e = cc
at_map f (a ∷ l) zero b e = (a, refl, some_one (f a) b e)
  where
    some_one : {B : Type 0} (x y : B) → Some x ≡ Some y → x ≡ y
    some_one x y e = cc
at_map f (a ∷ l) (suc k) b e = at_map f l k b e

pub ok_then : {A E : Type 0} {P Q : A → Type 0} (r : Result A E) → IfOk r P → ((x : A) → P x → Q x) → IfOk r Q
ok_then (Ok x) had then = then x had
ok_then (Err e) had then = had

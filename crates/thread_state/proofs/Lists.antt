-- Lists that are written from the front on.
use Rattle.std.proofs.Common.{◌≡◌, ℕ, zero, suc, ◌+◌, ◌<◌, ◌≤◌, List, [], ◌∷◌, ◌++◌, length, take, drop, map, get_or, refl, sym, ap, ◌∙◌, arith, add-one, drop-cons}
use Rattle.std.specs.Prelude.{slice_set}

pub take_set : {A : Type 0} → (xs : List A) (n : ℕ) (x : A) → n < length xs → take (n + 1) (slice_set xs n x) ≡ take n xs ++ x ∷ []
take_set [] n x lt = absurd (omega arith)
take_set (y ∷ ys) zero x lt = refl
take_set (y ∷ ys) (suc n) x lt = let e : suc n + 1 ≡ suc (n + 1) = omega arith in ap (λ k. take k (slice_set (y ∷ ys) (suc n) x)) e ∙ ap (λ l. y ∷ l) (take_set ys n x (omega arith))

pub take_next : {A : Type 0} → (xs : List A) (n : ℕ) (d : A) → n < length xs → take (n + 1) xs ≡ take n xs ++ get_or xs n d ∷ []
take_next [] n d lt = absurd (omega arith)
take_next (y ∷ ys) zero d lt = refl
take_next (y ∷ ys) (suc n) d lt = let e : suc n + 1 ≡ suc (n + 1) = omega arith in ap (λ k. take k (y ∷ ys)) e ∙ ap (λ l. y ∷ l) (take_next ys n d (omega arith))

pub front_next : {A : Type 0} → (xs ys : List A) (n : ℕ) (x d : A) → n < length xs → n < length ys → x ≡ get_or ys n d → take n xs ≡ take n ys → take (n + 1) (slice_set xs n x) ≡ take (n + 1) ys
front_next xs ys n x d lt lt' e h = take_set xs n x lt ∙ ap (λ l. l ++ x ∷ []) h ∙ ap (λ y. take n ys ++ y ∷ []) e ∙ sym (take_next ys n d lt')

pub read_map : {A B : Type 0} → (f : A → B) (xs : List A) (i : ℕ) (d : A) (e : B) → i < length xs → get_or (map f xs) i e ≡ f (get_or xs i d)
read_map f [] i d e lt = absurd (omega arith)
read_map f (x ∷ xs) zero d e lt = refl
read_map f (x ∷ xs) (suc i) d e lt = read_map f xs i d e (omega arith)

pub take_past : {A : Type 0} → (xs : List A) (n : ℕ) → length xs ≤ n → take n xs ≡ xs
take_past [] zero le = refl
take_past [] (suc n) le = refl
take_past (x ∷ xs) zero le = absurd (omega arith)
take_past (x ∷ xs) (suc n) le = ap (λ l. x ∷ l) (take_past xs n (omega arith))

-- all of it is written
pub all_front : {A : Type 0} → (xs ys : List A) (n : ℕ) → length xs ≤ n → length ys ≤ n → take n xs ≡ take n ys → xs ≡ ys
all_front xs ys n le le' h = sym (take_past xs n le) ∙ h ∙ take_past ys n le'

-- ---- what is left of them

pub drop_next : {A : Type 0} → (xs : List A) (i : ℕ) (d : A) → i < length xs → drop i xs ≡ get_or xs i d ∷ drop (i + 1) xs
drop_next xs i d lt = drop-cons xs i d lt ∙ ap (λ k. get_or xs i d ∷ drop k xs) (sym (add-one i))

pub drop_past : {A : Type 0} → (xs : List A) (i : ℕ) → length xs ≤ i → drop i xs ≡ []
drop_past [] zero le = refl
drop_past [] (suc i) le = refl
drop_past (x ∷ xs) zero le = absurd (omega arith)
drop_past (x ∷ xs) (suc i) le = drop_past xs i (omega arith)

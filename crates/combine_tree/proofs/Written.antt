-- A list that is written anew, from its front on.
use Rattle.std.proofs.Common.{◌≡◌, ℕ, zero, suc, ◌+◌, ◌<◌, List, [], ◌∷◌, ◌++◌, length, map, take, drop, slice_set, slice_index_or, refl, ap, add-one, arith}

put_front : {X Y : Type 0} (f : X → Y) (d : X) (xs : List X) (old : List Y) (i : ℕ) → i < length xs → length old ≡ length xs →
    slice_set (map f (take i xs) ++ drop i old) i (f (slice_index_or xs i d)) ≡ map f (take (suc i) xs) ++ drop (suc i) old
put_front f d [] old i here same = absurd (omega arith)
put_front f d (x ∷ xs) [] i here same = absurd (omega arith)
put_front f d (x ∷ xs) (o ∷ old) zero here same = refl
put_front f d (x ∷ xs) (o ∷ old) (suc i) here same = ap (λ ys. f x ∷ ys) (put_front f d xs old i (omega arith) (omega arith))

-- the next one is written
pub written_more : {X Y : Type 0} (f : X → Y) (d : X) (xs : List X) (old ys : List Y) (i : ℕ) → i < length xs → length old ≡ length xs →
    ys ≡ map f (take i xs) ++ drop i old → slice_set ys i (f (slice_index_or xs i d)) ≡ map f (take (i + 1) xs) ++ drop (i + 1) old
written_more f d xs old ys i here same is = rw (is, add-one) (put_front f d xs old i here same)

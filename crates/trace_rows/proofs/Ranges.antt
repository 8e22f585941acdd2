-- Parts of a buffer.
use Rattle.std.proofs.Common.{◌≡◌, inl, inr, ℕ, ◌+◌, ◌-◌, ◌≤◌, Bool, true, false, cond, not, min, List, [], ◌∷◌, ◌++◌, length, take, drop, refl, sym, ap, ◌∙◌, arith, take-add, length-drop}
use Rattle.std.specs.List.{slice_range, position_or_len}
use Rattle.std.proofs.lemmas.Bool.{cases_lt}
use Rattle.std.proofs.lemmas.List.{drop_all, length-take, drop-take, drop-drop}
use Rattle.std.proofs.lemmas.Slice.{between_is}

pub length-range : (B : List ℕ) (from end : ℕ) → end ≤ length B → length (slice_range B from end) ≡ end - from
length-range B from end h = omega (arith, length-take (end - from) (drop from B), length-drop from B)

-- the rest of a part
pub drop-range : (B : List ℕ) (from end k m : ℕ) → end - from ≡ k + m → drop k (slice_range B from end) ≡ slice_range B (from + k) end
drop-range B from end k m h =
    let e : end - (from + k) ≡ m = omega arith in
    rw (h, e) (drop-take k m (drop from B) ∙ ap (take m) (drop-drop k from B))

range_none : (B : List ℕ) (from : ℕ) → slice_range B from from ≡ []
range_none B from = ap (λ n. take n (drop from B)) (let e : from - from ≡ 0 = omega arith in e)

-- a part without its first bytes, which may be more than it has
pub drop-range_min : (B : List ℕ) (from end k : ℕ) → from ≤ end → end ≤ length B → drop k (slice_range B from end) ≡ slice_range B (min (from + k) end) end
drop-range_min B from end k ordered within =
    elim (cases_lt (from + k) end) [
      | inl low ↦ (let m : min (from + k) end ≡ from + k = omega arith in
          drop-range B from end k (end - from - k) (omega arith) ∙ ap (λ n. slice_range B n end) (sym m))
      | inr high ↦ (let m : min (from + k) end ≡ end = omega arith in
          drop_all k (slice_range B from end) (omega (arith, length-range B from end within)) ∙ sym (range_none B end) ∙ ap (λ n. slice_range B n end) (sym m))
    ]

-- a part of what stays at the front of a buffer
pub range_front : (B C : List ℕ) (from end : ℕ) → take end C ≡ take end B → slice_range C from end ≡ slice_range B from end
range_front B C from end e = between_is C from end ∙ ap (drop from) e ∙ sym (between_is B from end)

-- two parts beside each other
pub range_both : (B : List ℕ) (from mid end : ℕ) → from ≤ mid → mid ≤ end → end ≤ length B → slice_range B from end ≡ slice_range B from mid ++ slice_range B mid end
range_both B from mid end low high within =
    ap (λ n. take n (drop from B)) (let e : end - from ≡ (mid - from) + (end - mid) = omega arith in e)
    ∙ take-add (mid - from) (end - mid) (drop from B)
    ∙ ap (λ r. take (mid - from) (drop from B) ++ take (end - mid) r) (drop-drop (mid - from) from B ∙ ap (λ n. drop n B) (let e : from + (mid - from) ≡ mid = omega arith in e))

by_first : (p : ℕ → Bool) (x : ℕ) (xs ys : List ℕ) (b : Bool) → not (p x) ≡ b → cond b (1 + position_or_len p xs) 0 ≡ length (x ∷ xs) →
    (position_or_len p xs ≡ length xs → position_or_len p (xs ++ ys) ≡ length xs + position_or_len p ys) → position_or_len p ((x ∷ xs) ++ ys) ≡ length (x ∷ xs) + position_or_len p ys
by_first p x xs ys true e h rest = rw e (let i = rest (omega (arith, h)) in omega (arith, i))
by_first p x xs ys false e h rest = absurd (omega (arith, h))

-- where nothing passes in a front, what passes first stands after it
pub position_behind : (p : ℕ → Bool) (xs ys : List ℕ) → position_or_len p xs ≡ length xs → position_or_len p (xs ++ ys) ≡ length xs + position_or_len p ys
position_behind p [] ys h = omega arith
position_behind p (x ∷ xs) ys h = by_first p x xs ys (not (p x)) refl h (position_behind p xs ys)

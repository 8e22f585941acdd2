-- Lists that lie one behind the other in one list.
use Rattle.std.proofs.Common.{◌≡◌, ℕ, zero, suc, ◌+◌, ◌-◌, ◌<◌, ◌≤◌, List, [], ◌∷◌, ◌++◌, length, take, drop, get_or, refl, sym, ap, ◌∙◌, subst, arith}
use Rattle.thread_state.specs.Parts.{parts, RiseTo}

-- ---- starts

pub first_to : (n from : ℕ) (starts : List ℕ) → RiseTo n (from ∷ starts) → from ≤ n
first_to n from [] h = omega (arith, h)
first_to n from (to ∷ starts) h = omega (arith, h.0, first_to n to starts h.1)

pub rise_at : (n : ℕ) (starts : List ℕ) (t : ℕ) → RiseTo n starts → t + 1 < length starts → (get_or starts t 0 ≤ get_or starts (t + 1) 0) × (get_or starts (t + 1) 0 ≤ n)
rise_at n [] t h lt = absurd h
rise_at n (from ∷ []) t h lt = absurd (omega (arith, lt))
rise_at n (from ∷ to ∷ starts) zero h lt = (h.0, first_to n to starts h.1)
rise_at n (from ∷ to ∷ starts) (suc t) h lt =
    let e : suc t + 1 ≡ suc (t + 1) = omega arith in
    subst (λ k. (get_or (to ∷ starts) t 0 ≤ get_or (from ∷ to ∷ starts) k 0) × (get_or (from ∷ to ∷ starts) k 0 ≤ n)) (sym e) (rise_at n (to ∷ starts) t h.1 (omega (arith, lt)))

pub rise_more : (n m : ℕ) (starts : List ℕ) → n ≤ m → RiseTo n starts → RiseTo m (starts ++ m ∷ [])
rise_more n m [] le h = absurd h
rise_more n m (from ∷ []) le h = (omega (arith, le, h), refl)
rise_more n m (from ∷ to ∷ starts) le h = (h.0, rise_more n m (to ∷ starts) le h.1)

-- ---- how many parts there are

pub count_parts : (n : ℕ) (starts xs : List ℕ) → RiseTo n starts → length starts ≡ length (parts starts xs) + 1
count_parts n [] xs h = absurd h
count_parts n (from ∷ []) xs h = omega arith
count_parts n (from ∷ to ∷ starts) xs h = omega (arith, count_parts n (to ∷ starts) xs h.1)

pub some_there : (ls : List (List ℕ)) (t p : ℕ) → p < length (get_or ls t []) → t < length ls
some_there [] t p lt = absurd (omega (arith, lt))
some_there (l ∷ ls) zero p lt = omega arith
some_there (l ∷ ls) (suc t) p lt = omega (arith, some_there ls t p lt)

-- ---- one part

pub part_at : (starts xs : List ℕ) (t : ℕ) → t + 1 < length starts → get_or (parts starts xs) t [] ≡ take (get_or starts (t + 1) 0 - get_or starts t 0) (drop (get_or starts t 0) xs)
part_at [] xs t lt = absurd (omega (arith, lt))
part_at (from ∷ []) xs t lt = absurd (omega (arith, lt))
part_at (from ∷ to ∷ starts) xs zero lt = refl
part_at (from ∷ to ∷ starts) xs (suc t) lt =
    let e : suc (t + 1) ≡ suc t + 1 = omega arith in
    part_at (to ∷ starts) xs t (omega (arith, lt)) ∙ ap (λ k. take (get_or (from ∷ to ∷ starts) k 0 - get_or (to ∷ starts) t 0) (drop (get_or (to ∷ starts) t 0) xs)) e

in_front : (xs : List ℕ) (n p : ℕ) → p < length (take n xs) → (p < length xs) × (get_or (take n xs) p 0 ≡ get_or xs p 0)
in_front xs zero p lt = absurd (omega (arith, lt))
in_front [] (suc n) p lt = absurd (omega (arith, lt))
in_front (x ∷ xs) (suc n) zero lt = (omega arith, refl)
in_front (x ∷ xs) (suc n) (suc p) lt = let h = in_front xs n p (omega (arith, lt)) in (omega (arith, h.0), h.1)

in_rest : (xs : List ℕ) (n p : ℕ) → p < length (drop n xs) → (n + p < length xs) × (get_or (drop n xs) p 0 ≡ get_or xs (n + p) 0)
in_rest xs zero p lt = let e : p ≡ zero + p = omega arith in (omega (arith, lt), ap (λ k. get_or xs k 0) e)
in_rest [] (suc n) p lt = absurd (omega (arith, lt))
in_rest (x ∷ xs) (suc n) p lt =
    let h = in_rest xs n p lt in
    let e : suc (n + p) ≡ suc n + p = omega arith in
    (omega (arith, h.0), h.1 ∙ ap (λ k. get_or (x ∷ xs) k 0) e)

-- an element of a part
pub in_part : (xs : List ℕ) (from n p : ℕ) → p < length (take n (drop from xs)) → (from + p < length xs) × (get_or (take n (drop from xs)) p 0 ≡ get_or xs (from + p) 0)
in_part xs from n p lt =
    let f = in_front (drop from xs) n p lt in
    let r = in_rest xs from p f.0 in
    (r.0, f.1 ∙ r.1)

-- ---- one part more

take_kept : (xs ys : List ℕ) (n : ℕ) → n ≤ length xs → take n (xs ++ ys) ≡ take n xs
take_kept xs ys zero le = refl
take_kept [] ys (suc n) le = absurd (omega (arith, le))
take_kept (x ∷ xs) ys (suc n) le = ap (λ l. x ∷ l) (take_kept xs ys n (omega (arith, le)))

part_kept : (xs ys : List ℕ) (from n : ℕ) → from + n ≤ length xs → take n (drop from (xs ++ ys)) ≡ take n (drop from xs)
part_kept xs ys zero n le = take_kept xs ys n (omega (arith, le))
part_kept [] ys (suc from) zero le = refl
part_kept [] ys (suc from) (suc n) le = absurd (omega (arith, le))
part_kept (x ∷ xs) ys (suc from) n le = part_kept xs ys from n (omega (arith, le))

all_taken : (ys : List ℕ) → take (length ys) ys ≡ ys
all_taken [] = refl
all_taken (y ∷ ys) = ap (λ l. y ∷ l) (all_taken ys)

last_part : (xs ys : List ℕ) (from n : ℕ) → from ≡ length xs → n ≡ length ys → take n (drop from (xs ++ ys)) ≡ ys
last_part xs ys from n e m = ap (λ k. take n (drop k (xs ++ ys))) e ∙ ap (λ k. take k (drop (length xs) (xs ++ ys))) m ∙ by xs
  where
    by : (xs : List ℕ) → take (length ys) (drop (length xs) (xs ++ ys)) ≡ ys
    by [] = all_taken ys
    by (x ∷ xs) = by xs

pub parts_more : (starts xs ys : List ℕ) (m : ℕ) → RiseTo (length xs) starts → m ≡ length xs + length ys → parts (starts ++ m ∷ []) (xs ++ ys) ≡ parts starts xs ++ ys ∷ []
parts_more [] xs ys m h e = absurd h
parts_more (from ∷ []) xs ys m h e = ap (λ l. l ∷ []) (last_part xs ys from (m - from) h (omega (arith, h, e)))
parts_more (from ∷ to ∷ starts) xs ys m h e =
    ap (λ l. l ∷ parts (to ∷ starts ++ m ∷ []) (xs ++ ys)) (part_kept xs ys from (to - from) (omega (arith, h.0, first_to (length xs) to starts h.1)))
    ∙ ap (λ ls. take (to - from) (drop from xs) ∷ ls) (parts_more (to ∷ starts) xs ys m h.1 e)

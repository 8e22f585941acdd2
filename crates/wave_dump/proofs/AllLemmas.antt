-- All values of a tick.
use Rattle.std.proofs.Common.{◌≡◌, ℕ, suc, ◌+◌, ◌-◌, ◌<◌, ◌≤◌, Bool, true, false, cond, ◌⊎◌, Some, None, Result, Ok, Err, List, [], ◌∷◌, ◌++◌, length, take, drop, set, get_or, ℤ, refl, sym, ap, ap₂, ◌∙◌, arith, append_assoc, ne_eqb, take-append-drop, drop-drop, drop-set-lt, take-add}
use Rattle.std.specs.Int.{w32, cast_signed}
use Rattle.std.proofs.lemmas.List.{take_rest, take_more_set}
use Rattle.wave_dump.specs.declared.fault.WaveFault.{WaveFault}
use Rattle.wave_dump.specs.declared.fault.WaveFault.TheVariants as fault
use Rattle.wave_dump.specs.Wave.{PlainDump}
use Rattle.wave_dump.specs.Machine.{Body, between_ticks, value_begun, may_end_tick, kept_values, finished_ticks, dump_in}
use Rattle.wave_dump.specs.Reading.{Continues, dump_from, dump_between_at, dump_between, spot_with, signed_words, olds_at}
use Rattle.wave_dump.proofs.Alike.{body_full, no_byte}

pub goes_next : {X : Type 0} (r : Result X WaveFault) (a : Result PlainDump ℕ) (g h : X → Result PlainDump ℕ) → ((x : X) → g x ≡ h x) → Continues r a g → Continues r a h
goes_next (Ok x) a g h f e = e ∙ f x
goes_next (Err (fault.Bad at)) a g h f e = e
goes_next (Err fault.OutOfMemory) a g h f e = tt

signed_append : (xs ys : List ℕ) → signed_words (xs ++ ys) ≡ signed_words xs ++ signed_words ys
signed_append [] ys = refl
signed_append (x ∷ xs) ys = ap (λ (l : List ℤ). cast_signed w32 x ∷ l) (signed_append xs ys)

pub signed_whole : (xs : List ℕ) (j : ℕ) → signed_words (take j xs) ++ signed_words (drop j xs) ≡ signed_words xs
signed_whole xs j = sym (signed_append (take j xs) (drop j xs)) ∙ ap signed_words (take-append-drop j xs)

pub now_after : (xs : List ℕ) (j k w : ℕ) → j + k < length xs → signed_words (take j xs) ++ (signed_words (take k (drop j xs)) ++ cast_signed w32 w ∷ []) ≡ signed_words (take (j + (k + 1)) (set xs (j + k) w))
now_after xs j k w low =
    let p : j + (k + 1) ≡ j + k + 1 = omega arith in
    sym (ap (λ (i : ℕ). signed_words (take i (set xs (j + k) w))) p
    ∙ ap signed_words (take_more_set xs (j + k) w low ∙ ap (λ (l : List ℕ). l ++ w ∷ []) (take-add j k xs) ∙ append_assoc (take j xs) (take k (drop j xs)) (w ∷ []))
    ∙ signed_append (take j xs) (take k (drop j xs) ++ w ∷ [])
    ∙ ap (λ (l : List ℤ). signed_words (take j xs) ++ l) (signed_append (take k (drop j xs)) (w ∷ [])))

pub left_after : (xs : List ℕ) (j k w : ℕ) → drop (k + 1) (drop j xs) ≡ drop (j + (k + 1)) (set xs (j + k) w)
left_after xs j k w = drop-drop (k + 1) j xs ∙ sym (drop-set-lt (j + (k + 1)) xs (j + k) w (omega arith))

pub spot_after : (bytes : List ℕ) (at : ℕ) (names : List (List ℕ)) (ticks : List (List ℤ)) (first : Bool) (xs all : List ℕ) (j k w : ℕ) → j + k < length xs → all ≡ set xs (j + k) w →
    dump_from bytes at (Body (spot_with names ticks (signed_words (take j xs) ++ (signed_words (take k (drop j xs)) ++ cast_signed w32 w ∷ [])) (olds_at first (drop (k + 1) (drop j xs))))) ≡ dump_from bytes at (Body (spot_with names ticks (signed_words (take (j + (k + 1)) all)) (olds_at first (drop (j + (k + 1)) all))))
spot_after bytes at names ticks first xs all j k w low e =
    ap₂ (λ (n : List ℤ) (l : List ℕ). dump_from bytes at (Body (spot_with names ticks n (olds_at first l)))) (now_after xs j k w low) (left_after xs j k w)
    ∙ ap (λ (ys : List ℕ). dump_from bytes at (Body (spot_with names ticks (signed_words (take (j + (k + 1)) ys)) (olds_at first (drop (j + (k + 1)) ys))))) (sym e)

-- those that are left, as a part of all
pub left_part : (bytes : List ℕ) (at : ℕ) (names : List (List ℕ)) (ticks : List (List ℤ)) (now : List ℤ) (first : Bool) (xs : List ℕ) (j : ℕ) →
    dump_from bytes at (Body (spot_with names ticks now (olds_at first (drop j xs)))) ≡ dump_from bytes at (Body (spot_with names ticks now (olds_at first (take (length xs - j) (drop j xs)))))
left_part bytes at names ticks now first xs j = ap (λ (l : List ℕ). dump_from bytes at (Body (spot_with names ticks now (olds_at first l)))) (sym (take_rest xs j))

-- ---- the end

may_old : (left : List ℕ) → may_end_tick (olds_at false left) ≡ true
may_old [] = refl
may_old (x ∷ left) = may_old left

kept_old : (left : List ℕ) → kept_values (olds_at false left) ≡ signed_words left
kept_old [] = refl
kept_old (x ∷ left) = ap (λ (l : List ℤ). cast_signed w32 x ∷ l) (kept_old left)

quiet_all : (names : List (List ℕ)) (ticks : List (List ℤ)) (now : List ℤ) (left : List ℕ) (n : ℕ) (x : List ℕ) → (0 < length x → get_or x 0 0 ≡ 98 → ⊥) →
    dump_in n (Some (Body (spot_with names ticks now (olds_at false left)))) x ≡ dump_between_at n names (ticks ++ (now ++ signed_words left) ∷ []) x
quiet_all names ticks now left n [] h = refl
quiet_all names ticks now left n (b ∷ x) h =
    let w = spot_with names ticks now (olds_at false left) in
    ap (λ (c : Bool). dump_in (suc n) (cond c (value_begun w (olds_at false left)) (cond (may_end_tick (olds_at false left)) (between_ticks names (finished_ticks w) b) None)) x) (ne_eqb b 98 (h (omega arith)))
    ∙ ap (λ (c : Bool). dump_in (suc n) (cond c (between_ticks names (finished_ticks w) b) None) x) (may_old left)
    ∙ ap (λ (l : List ℤ). dump_in (suc n) (between_ticks names (ticks ++ (now ++ l) ∷ []) b) x) (kept_old left)

missing_all : (names : List (List ℕ)) (ticks : List (List ℤ)) (now : List ℤ) (y : ℕ) (left : List ℕ) (n : ℕ) (x : List ℕ) → (0 < length x → get_or x 0 0 ≡ 98 → ⊥) →
    dump_in n (Some (Body (spot_with names ticks now (olds_at true (y ∷ left))))) x ≡ Err n
missing_all names ticks now y left n [] h = refl
missing_all names ticks now y left n (b ∷ x) h =
    let w = spot_with names ticks now (olds_at true (y ∷ left)) in
    ap (λ (c : Bool). dump_in (suc n) (cond c (value_begun w (olds_at true (y ∷ left))) None) x) (ne_eqb b 98 (h (omega arith)))

pub values_quiet : (bytes : List ℕ) (at : ℕ) (names : List (List ℕ)) (ticks : List (List ℤ)) (now : List ℤ) (left : List ℕ) → (length bytes ≤ at) ⊎ (get_or bytes at 0 ≡ 98 → ⊥) →
    dump_from bytes at (Body (spot_with names ticks now (olds_at false left))) ≡ dump_between bytes at names (ticks ++ (now ++ signed_words left) ∷ [])
values_quiet bytes at names ticks now left h = quiet_all names ticks now left at (drop at bytes) (no_byte bytes at h)

pub values_missing : (bytes : List ℕ) (at : ℕ) (names : List (List ℕ)) (ticks : List (List ℤ)) (now : List ℤ) (left : List ℕ) → 0 < length left → (length bytes ≤ at) ⊎ (get_or bytes at 0 ≡ 98 → ⊥) →
    dump_from bytes at (Body (spot_with names ticks now (olds_at true left))) ≡ Err at
values_missing bytes at names ticks now [] some h = absurd (omega arith)
values_missing bytes at names ticks now (y ∷ left) some h = missing_all names ticks now y left at (drop at bytes) (no_byte bytes at h)

pub values_whole : (bytes : List ℕ) (at : ℕ) (names : List (List ℕ)) (ticks : List (List ℤ)) (now : List ℤ) (first : Bool) (left : List ℕ) → length left ≡ 0 →
    dump_from bytes at (Body (spot_with names ticks now (olds_at first left))) ≡ dump_between bytes at names (ticks ++ (now ++ signed_words left) ∷ [])
values_whole bytes at names ticks now first [] e = body_full names ticks now at (drop at bytes)
values_whole bytes at names ticks now first (x ∷ left) e = absurd (omega arith)

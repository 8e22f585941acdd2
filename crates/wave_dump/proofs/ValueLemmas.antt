-- Which output a value may be of.
use Rattle.std.proofs.Common.{◌≡◌, ℕ, zero, suc, pred, ◌+◌, ◌-◌, ◌<◌, ◌≤◌, ◌^◌, Bool, true, false, cond, ◌==◌, Option, Some, None, Err, List, [], ◌∷◌, ◌++◌, length, take, drop, get_or, ℤ, refl, sym, ap, ◌∙◌, arith, lt-ltb, le-ltb, true≢false}
use Rattle.std.specs.Int.{w32, cast_signed, cast_unsigned}
use Rattle.std.proofs.lemmas.Int.{of_z-to_z}
use Rattle.std.proofs.lemmas.Bool.Decides.{Decides-int_eq}
use Rattle.std.proofs.lemmas.List.{drop_more, drop_all}
use Rattle.wave_dump.specs.Wave.{is_kept}
use Rattle.wave_dump.specs.Machine.{TickSpot, Bits, Letter, Body, literal, stage_after, value_taken, value_begun, can_take, behind_kept, value_taken_by, dump_in}
use Rattle.wave_dump.specs.Reading.{dump_from, dump_behind_bits, spot_with, signed_words, olds_at}
use Rattle.wave_dump.proofs.TickLemmas.{same_self}
use Rattle.wave_dump.proofs.FromLemmas.{from_more, from_stops, from_ends}

pub word_same : (x w : ℕ) → x ≡ w → is_kept (Some (cast_signed w32 x)) (cast_signed w32 w) ≡ true
word_same x w e = ap (λ (n : ℕ). is_kept (Some (cast_signed w32 n)) (cast_signed w32 w)) e ∙ same_self (cast_signed w32 w)

word_by : (x w : ℕ) → x < 2 ^ 32 → w < 2 ^ 32 → (x ≡ w → ⊥) → (b : Bool) → is_kept (Some (cast_signed w32 x)) (cast_signed w32 w) ≡ b → is_kept (Some (cast_signed w32 x)) (cast_signed w32 w) ≡ false
word_by x w l m n true e = absurd (n (sym (of_z-to_z w32 x l) ∙ ap (cast_unsigned w32) ((Decides-int_eq (cast_signed w32 x) (cast_signed w32 w)).0 e) ∙ of_z-to_z w32 w m))
word_by x w l m n false e = e

pub word_new : (x w : ℕ) → x < 2 ^ 32 → w < 2 ^ 32 → (x ≡ w → ⊥) → is_kept (Some (cast_signed w32 x)) (cast_signed w32 w) ≡ false
word_new x w l m n = word_by x w l m n (is_kept (Some (cast_signed w32 x)) (cast_signed w32 w)) refl

-- ---- some output

pub can_first : (left : List ℕ) (v : ℤ) → 0 < length left → can_take (olds_at true left) v ≡ true
can_first [] v h = absurd (omega arith)
can_first (x ∷ left) v h = refl

pub can_more : (left : List ℕ) (i w : ℕ) → i < length left → get_or left i 0 ≡ w → can_take (olds_at false (drop i left)) (cast_signed w32 w) ≡ can_take (olds_at false (drop (i + 1) left)) (cast_signed w32 w)
can_more left i w low e =
    let x = get_or left i 0 in
    let rest = can_take (olds_at false (drop (i + 1) left)) (cast_signed w32 w) in
    ap (λ (l : List ℕ). can_take (olds_at false l) (cast_signed w32 w)) (drop_more left i 0 low)
    ∙ ap (λ (b : Bool). cond b rest true) (word_same x w e)

pub can_here : (left : List ℕ) (i w : ℕ) → i < length left → get_or left i 0 < 2 ^ 32 → w < 2 ^ 32 → (get_or left i 0 ≡ w → ⊥) → can_take (olds_at false (drop i left)) (cast_signed w32 w) ≡ true
can_here left i w low l m n =
    let x = get_or left i 0 in
    let rest = can_take (olds_at false (drop (i + 1) left)) (cast_signed w32 w) in
    ap (λ (ys : List ℕ). can_take (olds_at false ys) (cast_signed w32 w)) (drop_more left i 0 low)
    ∙ ap (λ (b : Bool). cond b rest true) (word_new x w l m n)

pub can_end : (left : List ℕ) (i w : ℕ) → length left ≤ i → can_take (olds_at false (drop i left)) (cast_signed w32 w) ≡ false
can_end left i w high = ap (λ (ys : List ℕ). can_take (olds_at false ys) (cast_signed w32 w)) (drop_all i left high)

-- ---- output k of those that are left

pub take_later : (k w : ℕ) (left : List ℕ) → k < length left → get_or left k 0 < 2 ^ 32 → w < 2 ^ 32 → (get_or left k 0 ≡ w → ⊥) →
    value_taken_by k (olds_at false left) (cast_signed w32 w) ≡ Some (signed_words (take k left) ++ cast_signed w32 w ∷ [], olds_at false (drop (k + 1) left))
take_later k w [] low l m n = absurd (omega arith)
take_later zero w (x ∷ left) low l m n = ap (λ (b : Bool). cond b None (Some (cast_signed w32 w ∷ [], olds_at false left))) (word_new x w l m n)
take_later (suc k) w (x ∷ left) low l m n =
    let place : suc k + 1 ≡ suc (k + 1) = omega arith in
    ap (behind_kept (cast_signed w32 x)) (take_later k w left (omega arith) l m n)
    ∙ ap (λ (i : ℕ). Some (cast_signed w32 x ∷ (signed_words (take k left) ++ cast_signed w32 w ∷ []), olds_at false (drop i (x ∷ left)))) (sym place)

pub take_same : (k w : ℕ) (left : List ℕ) → get_or left k 0 ≡ w → value_taken_by k (olds_at false left) (cast_signed w32 w) ≡ None
take_same k w [] e = refl
take_same zero w (x ∷ left) e = ap (λ (b : Bool). cond b None (Some (cast_signed w32 w ∷ [], olds_at false left))) (word_same x w e)
take_same (suc k) w (x ∷ left) e = ap (behind_kept (cast_signed w32 x)) (take_same k w left e)

pub take_past : (k : ℕ) (v : ℤ) (left : List ℕ) → length left ≤ k → value_taken_by k (olds_at false left) v ≡ None
take_past k v [] h = refl
take_past zero v (x ∷ left) h = absurd (omega arith)
take_past (suc k) v (x ∷ left) h = ap (behind_kept (cast_signed w32 x)) (take_past k v left (omega arith))

-- in the first tick the next output alone
pub take_first : (v : ℤ) (left : List ℕ) → 0 < length left → value_taken_by 0 (olds_at true left) v ≡ Some (v ∷ [], olds_at true (drop 1 left))
take_first v [] h = absurd (omega arith)
take_first v (x ∷ left) h = refl

pub take_other : (k : ℕ) (v : ℤ) (left : List ℕ) → 0 < k → value_taken_by k (olds_at true left) v ≡ None
take_other k v [] h = refl
take_other zero v (x ∷ left) h = absurd (omega arith)
take_other (suc k) v (x ∷ left) h = refl

-- ---- the letter

past_by : (first : Bool) (k : ℕ) (v : ℤ) (left : List ℕ) → length left ≤ k → value_taken_by k (olds_at first left) v ≡ None
past_by true zero v [] h = refl
past_by true zero v (x ∷ left) h = absurd (omega arith)
past_by true (suc k) v left h = take_other (suc k) v left (omega arith)
past_by false k v left h = take_past k v left h

pub letter_end : (bytes : List ℕ) (at : ℕ) (w : TickSpot) (v : ℤ) → length bytes ≤ at → dump_from bytes at (Letter w v) ≡ Err at
letter_end bytes at w v high = from_ends bytes at (Letter w v) high

pub letter_low : (bytes : List ℕ) (at j : ℕ) (w : TickSpot) (v : ℤ) → at < length bytes → length w.now ≡ j → get_or bytes at 0 < 33 + j → dump_from bytes at (Letter w v) ≡ Err at
letter_low bytes at j w v low n h =
    let b = get_or bytes at 0 in
    from_stops bytes at (Letter w v) low (ap (λ (c : Bool). cond c None (value_taken w (value_taken_by (b - (33 + length w.now)) w.left v))) (lt-ltb b (33 + length w.now) (omega arith)))

letter_step : (bytes : List ℕ) (at j k : ℕ) (w : TickSpot) (v : ℤ) → length w.now ≡ j → get_or bytes at 0 ≡ 33 + j + k → stage_after (Letter w v) (get_or bytes at 0) ≡ value_taken w (value_taken_by k w.left v)
letter_step bytes at j k w v n e =
    let b = get_or bytes at 0 in
    let i : b - (33 + length w.now) ≡ k = omega arith in
    ap (λ (c : Bool). cond c None (value_taken w (value_taken_by (b - (33 + length w.now)) w.left v))) (le-ltb b (33 + length w.now) (omega arith))
    ∙ ap (λ (x : ℕ). value_taken w (value_taken_by x w.left v)) i

pub letter_none : (bytes : List ℕ) (at j k : ℕ) (w : TickSpot) (v : ℤ) → at < length bytes → length w.now ≡ j → get_or bytes at 0 ≡ 33 + j + k → value_taken_by k w.left v ≡ None → dump_from bytes at (Letter w v) ≡ Err at
letter_none bytes at j k w v low n e h = from_stops bytes at (Letter w v) low (letter_step bytes at j k w v n e ∙ ap (value_taken w) h)

pub letter_past : (bytes : List ℕ) (at j k : ℕ) (first : Bool) (left : List ℕ) (names : List (List ℕ)) (ticks : List (List ℤ)) (now : List ℤ) (v : ℤ) → at < length bytes → length now ≡ j → get_or bytes at 0 ≡ 33 + j + k → length left ≤ k →
    dump_from bytes at (Letter (spot_with names ticks now (olds_at first left)) v) ≡ Err at
letter_past bytes at j k first left names ticks now v low n e h = letter_none bytes at j k (spot_with names ticks now (olds_at first left)) v low n e (past_by first k v left h)

pub letter_taken : (bytes : List ℕ) (at j k : ℕ) (names : List (List ℕ)) (ticks : List (List ℤ)) (now vs : List ℤ) (olds rest : List (Option ℤ)) (v : ℤ) → at < length bytes → length now ≡ j → get_or bytes at 0 ≡ 33 + j + k →
    value_taken_by k olds v ≡ Some (vs, rest) → dump_from bytes at (Letter (spot_with names ticks now olds) v) ≡ dump_from bytes (at + 1) (literal (10 ∷ []) (Body (spot_with names ticks (now ++ vs) rest)))
letter_taken bytes at j k names ticks now vs olds rest v low n e h =
    let w = spot_with names ticks now olds in
    from_more bytes at (Letter w v) (literal (10 ∷ []) (Body (spot_with names ticks (now ++ vs) rest))) low (letter_step bytes at j k w v n e ∙ ap (value_taken w) h)

pub first_no : (k : ℕ) (v : ℤ) (left : List ℕ) → (k == 0) ≡ false → value_taken_by k (olds_at true left) v ≡ None
first_no zero v left h = absurd (true≢false h)
first_no (suc k) v left h = take_other (suc k) v left (omega arith)

-- ---- a value

begun_some : (w : TickSpot) (first : Bool) (left : List ℕ) → 0 < length left → value_begun w (olds_at first left) ≡ Some (Bits w [])
begun_some w first [] h = absurd (omega arith)
begun_some w first (x ∷ left) h = refl

pub value_opens : (bytes : List ℕ) (at : ℕ) (names : List (List ℕ)) (ticks : List (List ℤ)) (now : List ℤ) (first : Bool) (left : List ℕ) → at < length bytes → get_or bytes at 0 ≡ 98 → 0 < length left →
    dump_from bytes at (Body (spot_with names ticks now (olds_at first left))) ≡ dump_from bytes (at + 1) (Bits (spot_with names ticks now (olds_at first left)) [])
value_opens bytes at names ticks now first left low e some =
    let w = spot_with names ticks now (olds_at first left) in
    from_more bytes at (Body w) (Bits w []) low (ap (stage_after (Body w)) e ∙ begun_some w first left some)

pub value_never : (bytes : List ℕ) (at : ℕ) (w : TickSpot) (v : ℤ) → can_take w.left v ≡ false → dump_behind_bits bytes (at + 1 + 32) w v ≡ Err (at + 32)
value_never bytes at w v e =
    let here : at + 1 + 32 ≡ suc (at + 32) = omega arith in
    ap (λ (c : Bool). dump_in (at + 1 + 32) (cond c (Some (literal (32 ∷ []) (Letter w v))) None) (drop (at + 1 + 32) bytes)) e
    ∙ ap (λ (n : ℕ). Err (pred n)) here

pub value_goes : (bytes : List ℕ) (at : ℕ) (w : TickSpot) (v : ℤ) → can_take w.left v ≡ true → dump_behind_bits bytes (at + 1 + 32) w v ≡ dump_from bytes (at + 33) (literal (32 ∷ []) (Letter w v))
value_goes bytes at w v e =
    let here : at + 1 + 32 ≡ at + 33 = omega arith in
    ap (λ (c : Bool). dump_in (at + 1 + 32) (cond c (Some (literal (32 ∷ []) (Letter w v))) None) (drop (at + 1 + 32) bytes)) e
    ∙ ap (λ (n : ℕ). dump_from bytes n (literal (32 ∷ []) (Letter w v))) here

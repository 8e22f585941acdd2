-- The bits of a number, one after the other.
use Rattle.std.proofs.Common.{◌≡◌, ℕ, suc, ◌+◌, ◌-◌, ◌*◌, ◌<◌, ◌≤◌, ◌^◌, Bool, true, false, cond, ◌⊎◌, inl, inr, Option, Some, None, Err, List, [], ◌∷◌, ◌++◌, length, take, drop, get_or, ℤ, codes, sym, ap, ap₂, subst, ◌∙◌, arith, lt-ltb, le-ltb, length-take-le, length-drop}
use Rattle.std.proofs.Math.Nat.{pow-succ'}
use Rattle.std.specs.Int.{w32, cast_signed}
use Rattle.std.proofs.lemmas.Bool.{cases_lt}
use Rattle.std.proofs.lemmas.List.{drop_more, drop_all, take_more, get_or-drop}
use Rattle.wave_dump.specs.Machine.{TickSpot, DumpStage, Bits, Letter, literal, is_bit, number_of_bits, value_of_bits, can_take, more_bits, dump_in}
use Rattle.wave_dump.specs.Reading.{dump_from, dump_behind_bits}
use Rattle.wave_dump.proofs.Tools.{all_push}
use Rattle.wave_dump.proofs.BitLemmas.{AreBits, number_pushed}

-- the first bits of those from a place on
abbrev pub first_bits : List ℕ → ℕ → ℕ → List ℕ
first_bits bytes at i = take i (drop at bytes)

pub bits_push : (bytes : List ℕ) (at i : ℕ) → at + i < length bytes → first_bits bytes at (i + 1) ≡ first_bits bytes at i ++ get_or bytes (at + i) 0 ∷ []
bits_push bytes at i low =
    let n : length (drop at bytes) ≡ length bytes - at = length-drop at bytes in
    take_more (drop at bytes) i 0 (omega arith) ∙ ap (λ (b : ℕ). first_bits bytes at i ++ b ∷ []) (get_or-drop at bytes i 0)

pub length_first : (bytes : List ℕ) (at i : ℕ) → at + i ≤ length bytes → length (first_bits bytes at i) ≡ i
length_first bytes at i low = let n : length (drop at bytes) ≡ length bytes - at = length-drop at bytes in length-take-le i (drop at bytes) (omega arith)

open_bits : (bytes : List ℕ) (at i : ℕ) (w : TickSpot) → at + i ≤ length bytes → i < 32 → more_bits w (first_bits bytes at i) ≡ Some (Bits w (first_bits bytes at i))
open_bits bytes at i w low few =
    let bs = first_bits bytes at i in
    let n : length bs ≡ i = length_first bytes at i low in
    ap (λ (b : Bool). cond b (Some (Bits w bs)) (cond (can_take w.left (value_of_bits bs)) (Some (literal (codes " ") (Letter w (value_of_bits bs)))) None)) (lt-ltb (length bs) 32 (omega arith))

pub bit_more : (bytes : List ℕ) (at i : ℕ) (w : TickSpot) → at + i < length bytes → i < 32 → is_bit (get_or bytes (at + i) 0) ≡ true →
    dump_in (at + i) (more_bits w (first_bits bytes at i)) (drop (at + i) bytes) ≡ dump_in (at + (i + 1)) (more_bits w (first_bits bytes at (i + 1))) (drop (at + (i + 1)) bytes)
bit_more bytes at i w low few h =
    let bs = first_bits bytes at i in
    let b = get_or bytes (at + i) 0 in
    let next : suc (at + i) ≡ at + (i + 1) = omega arith in
    let next' : at + i + 1 ≡ at + (i + 1) = omega arith in
    ap (λ (o : Option DumpStage). dump_in (at + i) o (drop (at + i) bytes)) (open_bits bytes at i w (omega arith) few)
    ∙ ap (dump_in (at + i) (Some (Bits w bs))) (drop_more bytes (at + i) 0 low)
    ∙ ap (λ (c : Bool). dump_in (suc (at + i)) (cond c (more_bits w (bs ++ b ∷ [])) None) (drop (at + i + 1) bytes)) h
    ∙ ap₂ (λ (n : ℕ) (xs : List ℕ). dump_in n (more_bits w xs) (drop (at + i + 1) bytes)) next (sym (bits_push bytes at i low))
    ∙ ap (λ (n : ℕ). dump_in (at + (i + 1)) (more_bits w (first_bits bytes at (i + 1))) (drop n bytes)) next'

bit_by : (bytes : List ℕ) (at i : ℕ) (w : TickSpot) → at + i ≤ length bytes → i < 32 → is_bit (get_or bytes (at + i) 0) ≡ false → (at + i < length bytes) ⊎ (length bytes ≤ at + i) →
    dump_in (at + i) (Some (Bits w (first_bits bytes at i))) (drop (at + i) bytes) ≡ Err (at + i)
bit_by bytes at i w low few h (inl l) =
    let bs = first_bits bytes at i in
    let b = get_or bytes (at + i) 0 in
    ap (dump_in (at + i) (Some (Bits w bs))) (drop_more bytes (at + i) 0 l)
    ∙ ap (λ (c : Bool). dump_in (suc (at + i)) (cond c (more_bits w (bs ++ b ∷ [])) None) (drop (at + i + 1) bytes)) h
bit_by bytes at i w low few h (inr l) = ap (dump_in (at + i) (Some (Bits w (first_bits bytes at i)))) (drop_all (at + i) bytes l)

pub bit_stops : (bytes : List ℕ) (at i : ℕ) (w : TickSpot) → at + i ≤ length bytes → i < 32 → (length bytes ≤ at + i) ⊎ (is_bit (get_or bytes (at + i) 0) ≡ false) →
    dump_in (at + i) (more_bits w (first_bits bytes at i)) (drop (at + i) bytes) ≡ Err (at + i)
bit_stops bytes at i w low few (inl l) =
    ap (λ (o : Option DumpStage). dump_in (at + i) o (drop (at + i) bytes)) (open_bits bytes at i w low few)
    ∙ ap (dump_in (at + i) (Some (Bits w (first_bits bytes at i)))) (drop_all (at + i) bytes l)
bit_stops bytes at i w low few (inr h) =
    ap (λ (o : Option DumpStage). dump_in (at + i) o (drop (at + i) bytes)) (open_bits bytes at i w low few)
    ∙ bit_by bytes at i w low few h (cases_lt (at + i) (length bytes))

-- all bits were read
pub bits_end : (bytes : List ℕ) (at : ℕ) (w : TickSpot) (v : ℤ) → at + 32 ≤ length bytes → value_of_bits (first_bits bytes at 32) ≡ v →
    dump_in (at + 32) (more_bits w (first_bits bytes at 32)) (drop (at + 32) bytes) ≡ dump_behind_bits bytes (at + 32) w v
bits_end bytes at w v low e =
    let bs = first_bits bytes at 32 in
    let n : length bs ≡ 32 = length_first bytes at 32 low in
    ap (λ (b : Bool). dump_in (at + 32) (cond b (Some (Bits w bs)) (cond (can_take w.left (value_of_bits bs)) (Some (literal (codes " ") (Letter w (value_of_bits bs)))) None)) (drop (at + 32) bytes)) (le-ltb (length bs) 32 (omega arith))
    ∙ ap (λ (z : ℤ). dump_behind_bits bytes (at + 32) w z) e

pub number_more : (bytes : List ℕ) (at i n d : ℕ) → at + i < length bytes → n ≡ number_of_bits (first_bits bytes at i) → get_or bytes (at + i) 0 ≡ 48 + d → 2 * n + d ≡ number_of_bits (first_bits bytes at (i + 1))
number_more bytes at i n d low e f =
    let b = get_or bytes (at + i) 0 in
    let last : b - 48 ≡ d = omega arith in
    sym (ap number_of_bits (bits_push bytes at i low) ∙ number_pushed (first_bits bytes at i) b ∙ ap₂ (λ (x y : ℕ). 2 * x + y) (sym e) last)

pub bits_more : (bytes : List ℕ) (at i : ℕ) → at + i < length bytes → AreBits (first_bits bytes at i) → is_bit (get_or bytes (at + i) 0) ≡ true → AreBits (first_bits bytes at (i + 1))
bits_more bytes at i low h b = subst AreBits (sym (bits_push bytes at i low)) (all_push (λ x. is_bit x ≡ true) (first_bits bytes at i) (get_or bytes (at + i) 0) h b)

pub bits_start : (bytes : List ℕ) (at : ℕ) (w : TickSpot) → dump_from bytes at (Bits w []) ≡ dump_in (at + 0) (more_bits w (first_bits bytes at 0)) (drop (at + 0) bytes)
bits_start bytes at w = let e : at ≡ at + 0 = omega arith in ap (λ (n : ℕ). dump_from bytes n (Bits w [])) e

pub bits_done : (bytes : List ℕ) (at i : ℕ) (w : TickSpot) (n : ℕ) → i ≡ 32 → at + i ≤ length bytes → n ≡ number_of_bits (first_bits bytes at i) →
    dump_in (at + i) (more_bits w (first_bits bytes at i)) (drop (at + i) bytes) ≡ dump_behind_bits bytes (at + 32) w (cast_signed w32 n)
bits_done bytes at i w n e low s =
    ap (λ (k : ℕ). dump_in (at + k) (more_bits w (first_bits bytes at k)) (drop (at + k) bytes)) e
    ∙ bits_end bytes at w (cast_signed w32 n) (omega arith) (ap (cast_signed w32) (ap (λ (k : ℕ). number_of_bits (first_bits bytes at k)) (sym e) ∙ sym s))

pub small_more : (n d i : ℕ) → n < 2 ^ i → d < 2 → 2 * n + d < 2 ^ (i + 1)
small_more n d i low bit =
    let e : suc i ≡ i + 1 = omega arith in
    let twice : 2 * n + d < 2 * 2 ^ i = omega arith in
    subst (λ (k : ℕ). 2 * n + d < 2 ^ k) e (subst (λ (m : ℕ). 2 * n + d < m) (sym (pow-succ' 2 i)) twice)

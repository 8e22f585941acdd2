-- The bytes of an ending.
use Rattle.std.proofs.Common.{◌≡◌, ℕ, suc, ◌+◌, ◌-◌, ◌<◌, ◌≤◌, Bool, true, false, cond, ◌==◌, nat_lt, ◌⊎◌, inl, inr, Some, None, Ok, Err, List, [], ◌∷◌, ◌++◌, length, take, drop, get_or, ℤ, codes, refl, sym, ap, ◌∙◌, arith, lt-ltb, le-ltb, eq-eqb, ne_eqb, length-take-le, length-drop, take-take, get_or-take}
use Rattle.std.proofs.lemmas.Bool.{cases_lt, and_from, and_left, and_right}
use Rattle.std.proofs.lemmas.List.{drop_all, take_more, get_or-drop}
use Rattle.wave_dump.specs.Wave.{PlainDump, is_ending_byte}
use Rattle.wave_dump.specs.Machine.{Ending, Done, literal, stage_after, ending_closed_by, ends_blank, dump_in}
use Rattle.wave_dump.specs.Reading.{dump_from, dump_with}
use Rattle.wave_dump.proofs.FromLemmas.{from_more, from_stops, from_ends}

-- the bytes from a place to another
abbrev pub between_places : List ℕ → ℕ → ℕ → List ℕ
between_places bytes start end = take (end - start) (drop start bytes)

pub places_push : (bytes : List ℕ) (start end : ℕ) → start ≤ end → end < length bytes → between_places bytes start (end + 1) ≡ between_places bytes start end ++ get_or bytes end 0 ∷ []
places_push bytes start end low high =
    let n : length (drop start bytes) ≡ length bytes - start = length-drop start bytes in
    let k : end + 1 - start ≡ (end - start) + 1 = omega arith in
    let place : start + (end - start) ≡ end = omega arith in
    ap (λ (i : ℕ). take i (drop start bytes)) k
    ∙ take_more (drop start bytes) (end - start) 0 (omega arith)
    ∙ ap (λ (b : ℕ). between_places bytes start end ++ b ∷ []) (get_or-drop start bytes (end - start) 0 ∙ ap (λ (i : ℕ). get_or bytes i 0) place)

pub length_places : (bytes : List ℕ) (start end : ℕ) → start ≤ end → end ≤ length bytes → length (between_places bytes start end) ≡ end - start
length_places bytes start end low high = let n : length (drop start bytes) ≡ length bytes - start = length-drop start bytes in length-take-le (end - start) (drop start bytes) (omega arith)

pub ending_more : (bytes : List ℕ) (start end : ℕ) (names : List (List ℕ)) (ticks : List (List ℤ)) → start ≤ end → end < length bytes → is_ending_byte (get_or bytes end 0) ≡ true →
    dump_from bytes end (Ending names ticks (between_places bytes start end)) ≡ dump_from bytes (end + 1) (Ending names ticks (between_places bytes start (end + 1)))
ending_more bytes start end names ticks low high h =
    let e = between_places bytes start end in
    let b = get_or bytes end 0 in
    from_more bytes end (Ending names ticks e) (Ending names ticks (e ++ b ∷ [])) high (ap (λ (c : Bool). cond c (Some (Ending names ticks (e ++ b ∷ []))) (cond (b == 36) (ending_closed_by names ticks e) None)) h)
    ∙ ap (λ (x : List ℕ). dump_from bytes (end + 1) (Ending names ticks x)) (sym (places_push bytes start end low high))

-- the ending goes no further
abbrev pub Halts : List ℕ → ℕ → Type 0
Halts bytes end = (length bytes ≤ end) ⊎ (is_ending_byte (get_or bytes end 0) ≡ false)

halt_step : (bytes : List ℕ) (end : ℕ) (names : List (List ℕ)) (ticks : List (List ℤ)) (e : List ℕ) → is_ending_byte (get_or bytes end 0) ≡ false →
    stage_after (Ending names ticks e) (get_or bytes end 0) ≡ cond (get_or bytes end 0 == 36) (ending_closed_by names ticks e) None
halt_step bytes end names ticks e h = let b = get_or bytes end 0 in ap (λ (c : Bool). cond c (Some (Ending names ticks (e ++ b ∷ []))) (cond (b == 36) (ending_closed_by names ticks e) None)) h

stop_by : (bytes : List ℕ) (end : ℕ) (names : List (List ℕ)) (ticks : List (List ℤ)) (e : List ℕ) → ends_blank e ≡ false → (c : Bool) → cond c (ending_closed_by names ticks e) None ≡ None
stop_by bytes end names ticks e unclosed true = ap (λ (b : Bool). cond b (Some (literal (codes "end\n") (Done (dump_with names ticks (take (length e - 1) e))))) None) unclosed
stop_by bytes end names ticks e unclosed false = refl

open_by : (bytes : List ℕ) (end : ℕ) (names : List (List ℕ)) (ticks : List (List ℤ)) (e : List ℕ) → is_ending_byte (get_or bytes end 0) ≡ false → ends_blank e ≡ false → (end < length bytes) ⊎ (length bytes ≤ end) → dump_from bytes end (Ending names ticks e) ≡ Err end
open_by bytes end names ticks e h unclosed (inl low) = from_stops bytes end (Ending names ticks e) low (halt_step bytes end names ticks e h ∙ stop_by bytes end names ticks e unclosed (get_or bytes end 0 == 36))
open_by bytes end names ticks e h unclosed (inr high) = from_ends bytes end (Ending names ticks e) high

-- it can't be closed here
pub ending_open : (bytes : List ℕ) (end : ℕ) (names : List (List ℕ)) (ticks : List (List ℤ)) (e : List ℕ) → Halts bytes end → ends_blank e ≡ false → dump_from bytes end (Ending names ticks e) ≡ Err end
ending_open bytes end names ticks e (inl high) unclosed = from_ends bytes end (Ending names ticks e) high
ending_open bytes end names ticks e (inr h) unclosed = open_by bytes end names ticks e h unclosed (cases_lt end (length bytes))

close_at : (n : ℕ) (names : List (List ℕ)) (ticks : List (List ℤ)) (e x : List ℕ) → (0 < length x → is_ending_byte (get_or x 0 0) ≡ false) → ends_blank e ≡ true →
    dump_in n (Some (Ending names ticks e)) x ≡ dump_in n (Some (literal (codes "$end\n") (Done (dump_with names ticks (take (length e - 1) e))))) x
close_at n names ticks e [] h blank = refl
close_at n names ticks e (b ∷ x) h blank =
    let end = Some (literal (codes "end\n") (Done (dump_with names ticks (take (length e - 1) e)))) in
    ap (λ (c : Bool). dump_in (suc n) (cond c (Some (Ending names ticks (e ++ b ∷ []))) (cond (b == 36) (ending_closed_by names ticks e) None)) x) (h (omega arith))
    ∙ ap (λ (c : Bool). dump_in (suc n) (cond (b == 36) (cond c end None) None) x) blank

halts_at : (bytes : List ℕ) (end : ℕ) → Halts bytes end → 0 < length (drop end bytes) → is_ending_byte (get_or (drop end bytes) 0 0) ≡ false
halts_at bytes end (inl high) some = absurd (let n : length (drop end bytes) ≡ 0 = ap length (drop_all end bytes high) in omega arith)
halts_at bytes end (inr h) some = ap is_ending_byte (get_or-drop end bytes 0 0 ∙ ap (λ (i : ℕ). get_or bytes i 0) (let z : end + 0 ≡ end = omega arith in z)) ∙ h

-- it is closed here
pub ending_closed : (bytes : List ℕ) (end : ℕ) (names : List (List ℕ)) (ticks : List (List ℤ)) (e : List ℕ) → Halts bytes end → ends_blank e ≡ true →
    dump_from bytes end (Ending names ticks e) ≡ dump_from bytes end (literal (codes "$end\n") (Done (dump_with names ticks (take (length e - 1) e))))
ending_closed bytes end names ticks e h blank = close_at end names ticks e (drop end bytes) (halts_at bytes end h) blank

last_place : (bytes : List ℕ) (start end : ℕ) → start < end → end ≤ length bytes → length (between_places bytes start end) ≡ end - start → get_or (between_places bytes start end) (length (between_places bytes start end) - 1) 0 ≡ get_or bytes (end - 1) 0
last_place bytes start end low high n =
    let x = between_places bytes start end in
    let k : length x - 1 ≡ end - start - 1 = omega arith in
    let place : start + (end - start - 1) ≡ end - 1 = omega arith in
    ap (λ (i : ℕ). get_or x i 0) k
    ∙ get_or-take (end - start) (drop start bytes) (end - start - 1) 0 (omega arith)
    ∙ get_or-drop start bytes (end - start - 1) 0
    ∙ ap (λ (i : ℕ). get_or bytes i 0) place

-- whether the bytes between two places end in a blank
pub places_blank : (bytes : List ℕ) (start end : ℕ) → start + 2 ≤ end → end ≤ length bytes → get_or bytes (end - 1) 0 ≡ 32 → ends_blank (between_places bytes start end) ≡ true
places_blank bytes start end low high e =
    let x = between_places bytes start end in
    let n : length x ≡ end - start = length_places bytes start end (omega arith) high in
    let last : get_or x (length x - 1) 0 ≡ 32 = last_place bytes start end (omega arith) high n ∙ e in
    and_from (nat_lt 1 (length x)) (get_or x (length x - 1) 0 == 32) (lt-ltb 1 (length x) (omega arith)) (eq-eqb (get_or x (length x - 1) 0) 32 last)

pub places_short : (bytes : List ℕ) (start end : ℕ) → start ≤ end → end ≤ length bytes → end - start < 2 → ends_blank (between_places bytes start end) ≡ false
places_short bytes start end low high short =
    let x = between_places bytes start end in
    let n : length x ≡ end - start = length_places bytes start end low high in
    and_left (nat_lt 1 (length x)) (get_or x (length x - 1) 0 == 32) (le-ltb 1 (length x) (omega arith))

pub places_solid : (bytes : List ℕ) (start end : ℕ) → start < end → end ≤ length bytes → (get_or bytes (end - 1) 0 ≡ 32 → ⊥) → ends_blank (between_places bytes start end) ≡ false
places_solid bytes start end low high h =
    let x = between_places bytes start end in
    let n : length x ≡ end - start = length_places bytes start end (omega arith) high in
    let last : get_or x (length x - 1) 0 ≡ get_or bytes (end - 1) 0 = last_place bytes start end low high n in
    and_right (nat_lt 1 (length x)) (get_or x (length x - 1) 0 == 32) (ne_eqb (get_or x (length x - 1) 0) 32 (λ e. h (sym last ∙ e)))

-- without its last byte
pub places_front : (bytes : List ℕ) (start end : ℕ) → start < end → end ≤ length bytes → take (length (between_places bytes start end) - 1) (between_places bytes start end) ≡ between_places bytes start (end - 1)
places_front bytes start end low high =
    let n : length (between_places bytes start end) ≡ end - start = length_places bytes start end (omega arith) high in
    let k : length (between_places bytes start end) - 1 ≡ end - 1 - start = omega arith in
    ap (λ (i : ℕ). take i (between_places bytes start end)) k ∙ take-take (end - 1 - start) (end - start) (drop start bytes) (omega arith)

-- ---- the end of the bytes

pub done_here : (bytes : List ℕ) (at : ℕ) (d : PlainDump) → length bytes ≤ at → dump_from bytes at (Done d) ≡ Ok d
done_here bytes at d high = from_ends bytes at (Done d) high

pub done_not : (bytes : List ℕ) (at : ℕ) (d : PlainDump) → at < length bytes → dump_from bytes at (Done d) ≡ Err at
done_not bytes at d low = from_stops bytes at (Done d) low refl

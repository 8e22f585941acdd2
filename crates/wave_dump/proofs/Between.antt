-- From one tick to the next.
use Rattle.std.proofs.Common.{◌≡◌, ℕ, suc, ◌+◌, ◌-◌, ◌<◌, ◌≤◌, ◌^◌, Bool, true, false, cond, ◌==◌, ◌⊎◌, inl, inr, Option, Some, None, List, [], ◌∷◌, ◌++◌, length, drop, get_or, to_z, of_z, FitsSigned, ℤ, codes, decimal, refl, sym, ap, ap₂, ◌∙◌, arith, lt-ltb, ne_eqb}
use Rattle.std.specs.Int.{w32, cast_signed}
use Rattle.std.proofs.lemmas.Int.{ints, to_z-of_z}
use Rattle.std.proofs.lemmas.List.{drop_more, drop_all, get_or-drop}
use Rattle.wave_dump.specs.Wave.{is_kept}
use Rattle.wave_dump.specs.Machine.{DumpStage, Start, Body, Ending, literal, between_ticks, next_tick, last_olds, olds_of, dump_in}
use Rattle.wave_dump.proofs.TickLemmas.{olds_push}
use Rattle.wave_dump.specs.Reading.{dump_from, dump_between_at, dump_between, spot_with, signed_words}

-- ---- a piece of two parts

join_byte : (c : Bool) (n : ℕ) (s t : DumpStage) (x : List ℕ) → dump_in n (Some s) x ≡ dump_in n (Some t) x → dump_in n (cond c (Some s) None) x ≡ dump_in n (cond c (Some t) None) x
join_byte true n s t x e = e
join_byte false n s t x e = refl

pub text_join : (a b : List ℕ) (s : DumpStage) (n : ℕ) (x : List ℕ) → dump_in n (Some (literal (a ++ b) s)) x ≡ dump_in n (Some (literal a (literal b s))) x
text_join [] b s n x = refl
text_join (c ∷ a) b s n [] = refl
text_join (c ∷ a) b s n (y ∷ x) = join_byte (y == c) (suc n) (literal (a ++ b) s) (literal a (literal b s)) x (text_join a b s (suc n) x)

-- ---- between two ticks

start_at : (n : ℕ) (names : List (List ℕ)) (x : List ℕ) → dump_in n (Some (Start names)) x ≡ dump_between_at n names [] x
start_at n names [] = refl
start_at n names (b ∷ x) = refl

pub start_between : (bytes : List ℕ) (at : ℕ) (names : List (List ℕ)) → dump_from bytes at (Start names) ≡ dump_between bytes at names []
start_between bytes at names = start_at at names (drop at bytes)

-- a further tick
pub tick_next : (bytes : List ℕ) (at tick : ℕ) (names : List (List ℕ)) (ticks : List (List ℤ)) → at < length bytes → get_or bytes at 0 ≡ 35 → tick ≡ suc (length ticks) → tick < 2 ^ 64 →
    dump_between bytes at names ticks ≡ dump_from bytes (at + 1) (literal (decimal tick ++ codes "\n") (Body (spot_with names ticks [] (olds_of names ticks))))
tick_next bytes at tick names ticks low e t few =
    let next : suc at ≡ at + 1 = omega arith in
    let s = λ (k : ℕ). literal (decimal k ++ codes "\n") (Body (spot_with names ticks [] (olds_of names ticks))) in
    ap (dump_between_at at names ticks) (drop_more bytes at 0 low)
    ∙ ap (λ (b : ℕ). dump_in (suc at) (between_ticks names ticks b) (drop (at + 1) bytes)) e
    ∙ ap (λ (c : Bool). dump_in (suc at) (cond c (Some (s (suc (length ticks)))) None) (drop (at + 1) bytes)) (lt-ltb (suc (length ticks)) (2 ^ 64) (omega arith))
    ∙ ap₂ (λ (k n : ℕ). dump_in n (Some (s k)) (drop (at + 1) bytes)) (sym t) next

no_tick_at : (n : ℕ) (names : List (List ℕ)) (ticks : List (List ℤ)) (x : List ℕ) → (0 < length x → get_or x 0 0 ≡ 35 → ⊥) → dump_between_at n names ticks x ≡ dump_in n (Some (literal (codes "$comment ") (Ending names ticks []))) x
no_tick_at n names ticks [] h = refl
no_tick_at n names ticks (b ∷ x) h =
    ap (λ (c : Bool). dump_in (suc n) (cond c (next_tick names ticks) (cond (b == 36) (Some (literal (codes "comment ") (Ending names ticks []))) None)) x) (ne_eqb b 35 (h (omega arith)))

not_35 : (bytes : List ℕ) (at : ℕ) → (length bytes ≤ at) ⊎ (get_or bytes at 0 ≡ 35 → ⊥) → 0 < length (drop at bytes) → get_or (drop at bytes) 0 0 ≡ 35 → ⊥
not_35 bytes at (inl high) some e = let n : length (drop at bytes) ≡ 0 = ap length (drop_all at bytes high) in omega arith
not_35 bytes at (inr h) some e = h (sym (get_or-drop at bytes 0 0 ∙ ap (λ (i : ℕ). get_or bytes i 0) (let z : at + 0 ≡ at = omega arith in z)) ∙ e)

-- no further tick
pub tick_none : (bytes : List ℕ) (at : ℕ) (names : List (List ℕ)) (ticks : List (List ℤ)) → (length bytes ≤ at) ⊎ (get_or bytes at 0 ≡ 35 → ⊥) →
    dump_between bytes at names ticks ≡ dump_from bytes at (literal (codes "$comment ") (Ending names ticks []))
tick_none bytes at names ticks h = no_tick_at at names ticks (drop at bytes) (not_35 bytes at h)

pub line_parts : (bytes : List ℕ) (at tick : ℕ) (digits : List ℕ) (s : DumpStage) → digits ≡ decimal tick → dump_from bytes at (literal (decimal tick ++ codes "\n") s) ≡ dump_from bytes at (literal digits (literal (codes "\n") s))
line_parts bytes at tick digits s e =
    text_join (decimal tick) (codes "\n") s at (drop at bytes) ∙ ap (λ (d : List ℕ). dump_from bytes at (literal d (literal (codes "\n") s))) (sym e)

pub length_signed : (ns : List ℕ) → length (signed_words ns) ≡ length ns
length_signed [] = refl
length_signed (n ∷ ns) = ap suc (length_signed ns)

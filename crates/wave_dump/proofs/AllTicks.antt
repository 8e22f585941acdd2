-- From one tick to the next.
use Rattle.std.proofs.Common.{◌≡◌, ℕ, suc, ◌+◌, ◌<◌, ◌^◌, true, false, Option, Some, None, List, [], ◌∷◌, ◌++◌, map, length, get_or, ℤ, codes, decimal, refl, ap, ◌∙◌, arith}
use Rattle.std.specs.declared.vec.Vec.{Vec}
use Rattle.std.specs.declared.alloc.Global.{Global}
use Rattle.std.specs.Int.{w32, cast_signed}
use Rattle.wave_dump.specs.Wave.{no_values}
use Rattle.wave_dump.specs.Machine.{Body, literal, olds_of}
use Rattle.wave_dump.specs.Reading.{dump_from, dump_between, spot_with, signed_words, olds_at}
use Rattle.wave_dump.specs.Dumps.{plain_ticks}
use Rattle.wave_dump.proofs.TickLemmas.{olds_push}
use Rattle.wave_dump.proofs.Between.{tick_next}

pub no_old : (names : List (List ℕ)) (xs : List ℕ) → length names ≡ length xs → no_values names ≡ olds_at true xs
no_old [] [] e = refl
no_old [] (x ∷ xs) e = absurd (omega arith)
no_old (n ∷ names) [] e = absurd (omega arith)
no_old (n ∷ names) (x ∷ xs) e = ap (λ (l : List (Option ℤ)). None ∷ l) (no_old names xs (omega arith))

old_some : (xs : List ℕ) → map Some (signed_words xs) ≡ olds_at false xs
old_some [] = refl
old_some (x ∷ xs) = ap (λ (l : List (Option ℤ)). Some (cast_signed w32 x) ∷ l) (old_some xs)

plain_push : (ts : List (Vec ℤ Global)) (t : Vec ℤ Global) → plain_ticks (ts ++ t ∷ []) ≡ plain_ticks ts ++ t.items ∷ []
plain_push [] t = refl
plain_push (u ∷ ts) t = ap (λ (l : List (List ℤ)). u.items ∷ l) (plain_push ts t)

pub length_ticks : (ts : List (Vec ℤ Global)) → length (plain_ticks ts) ≡ length ts
length_ticks [] = refl
length_ticks (t ∷ ts) = ap suc (length_ticks ts)

pub plain_after : (ts all : List (Vec ℤ Global)) (t : Vec ℤ Global) (xs : List ℕ) → all ≡ ts ++ t ∷ [] → t.items ≡ signed_words xs → plain_ticks all ≡ plain_ticks ts ++ signed_words xs ∷ []
plain_after ts all t xs e f = ap plain_ticks e ∙ plain_push ts t ∙ ap (λ (l : List ℤ). plain_ticks ts ++ l ∷ []) f

pub olds_then : (names : List (List ℕ)) (ts all : List (Vec ℤ Global)) (t : Vec ℤ Global) (xs : List ℕ) → all ≡ ts ++ t ∷ [] → t.items ≡ signed_words xs → olds_of names (plain_ticks all) ≡ olds_at false xs
olds_then names ts all t xs e f = ap (olds_of names) (plain_after ts all t xs e f) ∙ olds_push (no_values names) (plain_ticks ts) (signed_words xs) ∙ old_some xs

pub begins_all : (bytes : List ℕ) (at tick : ℕ) (names : List (List ℕ)) (ts : List (Vec ℤ Global)) (olds : List (Option ℤ)) → at < length bytes → get_or bytes at 0 ≡ 35 → tick ≡ length ts + 1 → tick < 2 ^ 64 → olds_of names (plain_ticks ts) ≡ olds →
    dump_between bytes at names (plain_ticks ts) ≡ dump_from bytes (at + 1) (literal (decimal tick ++ codes "\n") (Body (spot_with names (plain_ticks ts) [] olds)))
begins_all bytes at tick names ts olds low e t few o =
    let n : length (plain_ticks ts) ≡ length ts = length_ticks ts in
    tick_next bytes at tick names (plain_ticks ts) low e (omega arith) few
    ∙ ap (λ (l : List (Option ℤ)). dump_from bytes (at + 1) (literal (decimal tick ++ codes "\n") (Body (spot_with names (plain_ticks ts) [] l)))) o

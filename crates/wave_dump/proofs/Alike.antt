-- Stages that go on alike.
use Rattle.std.proofs.Common.{◌≡◌, ℕ, zero, suc, pred, ◌+◌, ◌-◌, ◌<◌, ◌≤◌, Bool, true, false, cond, ◌==◌, ◌⊎◌, inl, inr, Option, Some, None, Err, List, [], ◌∷◌, ◌++◌, length, drop, get_or, ℤ, codes, refl, sym, ap, ◌∙◌, arith, lt-ltb, le-ltb, eq-eqb, ne_eqb, eqb-true}
use Rattle.std.proofs.lemmas.Bool.{cases_order}
use Rattle.std.proofs.lemmas.List.{drop_all, get_or-drop}
use Rattle.wave_dump.specs.Wave.{is_kept}
use Rattle.wave_dump.specs.Machine.{DumpStage, Body, Bits, Letter, literal, stage_after, dump_found, between_ticks, can_take, value_taken_by, value_taken, dump_in}
use Rattle.wave_dump.specs.Reading.{dump_from, dump_between_at, dump_between, spot_with}
use Rattle.wave_dump.proofs.FromLemmas.{from_more}

-- ---- states that go on alike

pub like : (s t : DumpStage) → ((n : ℕ) → dump_found n s ≡ dump_found n t) → ((b : ℕ) → stage_after s b ≡ stage_after t b) → (n : ℕ) (x : List ℕ) → dump_in n (Some s) x ≡ dump_in n (Some t) x
like s t f g n [] = f n
like s t f g n (b ∷ x) = ap (λ (o : Option DumpStage). dump_in (suc n) o x) (g b)

-- where the values of a tick are whole, what comes next is a tick or the ending
full_step : (names : List (List ℕ)) (ticks : List (List ℤ)) (b : ℕ) (c : Bool) → (b == 98) ≡ c → cond c None (between_ticks names ticks b) ≡ between_ticks names ticks b
full_step names ticks b true e = sym (ap (between_ticks names ticks) (eqb-true b 98 e))
full_step names ticks b false e = refl

pub body_full : (names : List (List ℕ)) (ticks : List (List ℤ)) (now : List ℤ) (n : ℕ) (x : List ℕ) → dump_in n (Some (Body (spot_with names ticks now []))) x ≡ dump_between_at n names (ticks ++ (now ++ []) ∷ []) x
body_full names ticks now n [] = refl
body_full names ticks now n (b ∷ x) = ap (λ (o : Option DumpStage). dump_in (suc n) o x) (full_step names (ticks ++ (now ++ []) ∷ []) b (b == 98) refl)

pub no_byte : (bytes : List ℕ) (at : ℕ) → (length bytes ≤ at) ⊎ (get_or bytes at 0 ≡ 98 → ⊥) → 0 < length (drop at bytes) → get_or (drop at bytes) 0 0 ≡ 98 → ⊥
no_byte bytes at (inl high) some e = let n : length (drop at bytes) ≡ 0 = ap length (drop_all at bytes high) in omega arith
no_byte bytes at (inr h) some e = h (sym (get_or-drop at bytes 0 0 ∙ ap (λ (i : ℕ). get_or bytes i 0) (let z : at + 0 ≡ at = omega arith in z)) ∙ e)

-- The lines of outputs.
use Rattle.std.proofs.Common.{◌≡◌, ℕ, suc, ◌+◌, ◌<◌, ◌≤◌, Bool, true, false, cond, ◌==◌, ◌⊎◌, inl, inr, Some, None, Err, List, [], ◌∷◌, ◌++◌, length, drop, get_or, codes, refl, sym, ap, ◌∙◌, arith, lt-ltb, le-ltb, ne_eqb, eqb-true, true≢false}
use Rattle.std.proofs.lemmas.List.{drop_all, get_or-drop}
use Rattle.wave_dump.specs.Wave.{output_letter}
use Rattle.wave_dump.specs.Machine.{Literal, Vars, Dollar, Name, Start, literal, stage_after, declared_output, is_shown_byte, unshown_byte, dump_in}
use Rattle.wave_dump.specs.Reading.{dump_from}
use Rattle.wave_dump.proofs.Sound.{unshown_law}
use Rattle.wave_dump.proofs.Complete.{small_name}
use Rattle.wave_dump.proofs.FromLemmas.{from_more, from_stops}
use Rattle.wave_dump.proofs.Alike.{like}
use Rattle.wave_dump.proofs.Between.{text_join}

-- ---- a name

pub name_goes_on : (bytes : List ℕ) (at : ℕ) (names : List (List ℕ)) (name all : List ℕ) (b : ℕ) → at < length bytes → is_shown_byte (get_or bytes at 0) ≡ true → (get_or bytes at 0 == 32) ≡ false → b ≡ unshown_byte (get_or bytes at 0) → all ≡ name ++ b ∷ [] →
    dump_from bytes at (Name names name) ≡ dump_from bytes (at + 1) (Name names all)
name_goes_on bytes at names name all b low h blank e f =
    let c = get_or bytes at 0 in
    let next = Some (Name names (name ++ unshown_byte c ∷ [])) in
    let end = Some (literal (codes "$end\n") (Vars (names ++ name ∷ []))) in
    from_more bytes at (Name names name) (Name names (name ++ unshown_byte c ∷ [])) low
    (ap (λ (x : Bool). cond x end (cond (is_shown_byte c) next None)) blank ∙ ap (λ (x : Bool). cond x next None) h)
    ∙ ap (λ (l : List ℕ). dump_from bytes (at + 1) (Name names l)) (ap (λ (x : ℕ). name ++ x ∷ []) (sym e) ∙ sym f)

-- a byte of a name is no blank
shown_blank : (b : ℕ) (c : Bool) → (b == 32) ≡ c → is_shown_byte b ≡ true → (b == 32) ≡ false
shown_blank b true e h = absurd (let k : b ≡ 32 = eqb-true b 32 e in let z : is_shown_byte 32 ≡ true = sym (ap is_shown_byte k) ∙ h in true≢false (sym z))
shown_blank b false e h = e

pub no_blank : (b : ℕ) → is_shown_byte b ≡ true → (b == 32) ≡ false
no_blank b h = shown_blank b (b == 32) refl h

-- a byte of a name is a character by itself
pub unshown_low : (b : ℕ) → is_shown_byte b ≡ true → unshown_byte b < 128
unshown_low b h = let low = small_name (unshown_byte b) (unshown_law b h).1 in omega arith

name_ends_at : (n : ℕ) (names : List (List ℕ)) (name x : List ℕ) → (0 < length x → is_shown_byte (get_or x 0 0) ≡ false) →
    dump_in n (Some (Name names name)) x ≡ dump_in n (Some (literal (codes " $end\n") (Vars (names ++ name ∷ [])))) x
name_ends_at n names name [] h = refl
name_ends_at n names name (b ∷ x) h =
    ap (λ (c : Bool). dump_in (suc n) (cond (b == 32) (Some (literal (codes "$end\n") (Vars (names ++ name ∷ [])))) (cond c (Some (Name names (name ++ unshown_byte b ∷ []))) None)) x) (h (omega arith))

not_shown : (bytes : List ℕ) (at : ℕ) → (length bytes ≤ at) ⊎ (is_shown_byte (get_or bytes at 0) ≡ false) → 0 < length (drop at bytes) → is_shown_byte (get_or (drop at bytes) 0 0) ≡ false
not_shown bytes at (inl high) some = absurd (let n : length (drop at bytes) ≡ 0 = ap length (drop_all at bytes high) in omega arith)
not_shown bytes at (inr h) some = ap is_shown_byte (get_or-drop at bytes 0 0 ∙ ap (λ (i : ℕ). get_or bytes i 0) (let z : at + 0 ≡ at = omega arith in z)) ∙ h

pub name_closed : (bytes : List ℕ) (at : ℕ) (names : List (List ℕ)) (name : List ℕ) → (length bytes ≤ at) ⊎ (is_shown_byte (get_or bytes at 0) ≡ false) →
    dump_from bytes at (Name names name) ≡ dump_from bytes at (literal (codes " $end\n") (Vars (names ++ name ∷ [])))
name_closed bytes at names name h = name_ends_at at names name (drop at bytes) (not_shown bytes at h)

-- ---- outputs

pub at_vars : (bytes : List ℕ) (at : ℕ) (names : List (List ℕ)) → dump_from bytes at (Vars names) ≡ dump_from bytes at (literal (codes "$") (Dollar names))
at_vars bytes at names = like (Vars names) (literal (codes "$") (Dollar names)) (λ n. refl) (λ b. refl) at (drop at bytes)

-- a further output
pub at_var : (bytes : List ℕ) (at k : ℕ) (names : List (List ℕ)) → at < length bytes → get_or bytes at 0 ≡ 118 → length names ≡ k → k < 64 →
    dump_from bytes at (Dollar names) ≡ dump_from bytes at (literal (codes "var wire 32 ") (literal (output_letter k ∷ 32 ∷ []) (Name names [])))
at_var bytes at k names low e n few =
    let w = codes "ar wire 32 " ++ output_letter (length names) ∷ codes " " in
    let s = literal w (Name names []) in
    from_more bytes at (Dollar names) s low (ap (stage_after (Dollar names)) e ∙ ap (λ (c : Bool). cond c (Some s) None) (lt-ltb (length names) 64 (omega arith)))
    ∙ sym (from_more bytes at (Literal 118 w (Name names [])) s low (ap (stage_after (Literal 118 w (Name names []))) e))
    ∙ text_join (codes "var wire 32 ") (output_letter (length names) ∷ codes " ") (Name names []) at (drop at bytes)
    ∙ ap (λ (i : ℕ). dump_from bytes at (literal (codes "var wire 32 ") (literal (output_letter i ∷ 32 ∷ []) (Name names [])))) n

-- no more than 64
pub at_full : (bytes : List ℕ) (at : ℕ) (names : List (List ℕ)) → at < length bytes → get_or bytes at 0 ≡ 118 → 64 ≤ length names → dump_from bytes at (Dollar names) ≡ Err at
at_full bytes at names low e many =
    let w = codes "ar wire 32 " ++ output_letter (length names) ∷ codes " " in
    from_stops bytes at (Dollar names) low (ap (stage_after (Dollar names)) e ∙ ap (λ (c : Bool). cond c (Some (literal w (Name names []))) None) (le-ltb (length names) 64 many))

no_var_at : (n : ℕ) (names : List (List ℕ)) (x : List ℕ) → (0 < length x → get_or x 0 0 ≡ 118 → ⊥) → dump_in n (Some (Dollar names)) x ≡ dump_in n (Some (literal (codes "upscope $end\n$enddefinitions $end\n") (Start names))) x
no_var_at n names [] h = refl
no_var_at n names (b ∷ x) h =
    ap (λ (c : Bool). dump_in (suc n) (cond c (declared_output names) (cond (b == 117) (Some (literal (codes "pscope $end\n$enddefinitions $end\n") (Start names))) None)) x) (ne_eqb b 118 (h (omega arith)))

not_118 : (bytes : List ℕ) (at : ℕ) → (length bytes ≤ at) ⊎ (get_or bytes at 0 ≡ 118 → ⊥) → 0 < length (drop at bytes) → get_or (drop at bytes) 0 0 ≡ 118 → ⊥
not_118 bytes at (inl high) some e = let n : length (drop at bytes) ≡ 0 = ap length (drop_all at bytes high) in omega arith
not_118 bytes at (inr h) some e = h (sym (get_or-drop at bytes 0 0 ∙ ap (λ (i : ℕ). get_or bytes i 0) (let z : at + 0 ≡ at = omega arith in z)) ∙ e)

-- the end of the outputs
pub at_upscope : (bytes : List ℕ) (at : ℕ) (names : List (List ℕ)) → (length bytes ≤ at) ⊎ (get_or bytes at 0 ≡ 118 → ⊥) → dump_from bytes at (Dollar names) ≡ dump_from bytes at (literal (codes "upscope $end\n$enddefinitions $end\n") (Start names))
at_upscope bytes at names h = no_var_at at names (drop at bytes) (not_118 bytes at h)

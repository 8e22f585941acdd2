-- The lines of a dump as they are written, one after the other.
use Rattle.std.proofs.Common.{◌≡◌, ℕ, zero, suc, ◌+◌, ◌-◌, ◌/◌, ◌%◌, ◌<◌, ◌≤◌, Bool, true, false, cond, ◌==◌, List, [], ◌∷◌, ◌++◌, map, length, drop, set, get_or, chars, encode_utf8_all, encode_utf8, IsUtf8, ℤ, Option, Some, codes, refl, sym, ap, ap₂, ◌∙◌, arith, append_assoc, append-nil, ne_eqb, ◌⊎◌, inl, inr}
use Rattle.std.specs.List.{slice_get}
use Rattle.std.proofs.lemmas.List.{drop_more, drop_all}
use Rattle.std.proofs.lemmas.Bool.{cases_order}
use Rattle.std.proofs.lemmas.Option.{slice_get_within, get_or_from_slice_get}
use Rattle.std.proofs.lemmas.Str.{encode_ascii, inside_one, encodes-chars}
use Rattle.wave_dump.specs.Wave.{shown_byte, shown_name, declaration, declarations, head_text, low_bits, value_line, is_kept, change_line, change_lines, tick_text, ticks_text, no_values, until_ending}
use Rattle.wave_dump.specs.Machine.{olds_of}
use Rattle.wave_dump.specs.Writing.{value_before, values_before, none_yet}
use Rattle.wave_dump.proofs.TickLemmas.{changes_none, ticks_push}

-- one piece more, in a text whose front was `before`
pub step_on : (before one rest now all left : List ℕ) → now ≡ before ++ one → left ≡ one ++ rest → before ++ left ≡ all → now ++ rest ≡ all
step_on before one rest now all left e f g = ap (λ x. x ++ rest) e ∙ append_assoc before one rest ∙ ap (λ x. before ++ x) (sym f) ∙ g

-- ---- names

shown_same : (c : ℕ) → 128 ≤ c → shown_byte c ≡ c
shown_same c big =
    let one : c ≡ 91 → ⊥ = λ e. omega arith in
    let two : c ≡ 93 → ⊥ = λ e. omega arith in
    ap (λ b. cond b 40 (cond (c == 93) 41 c)) (ne_eqb c 91 one) ∙ ap (λ b. cond b 41 c) (ne_eqb c 93 two)

shown_high : (xs : List ℕ) → ((k : ℕ) → k < length xs → 128 ≤ get_or xs k 0) → shown_name xs ≡ xs
shown_high [] h = refl
shown_high (x ∷ xs) h = ap₂ (λ y ys. y ∷ ys) (shown_same x (h 0 (omega arith))) (shown_high xs (λ k l. h (suc k) (omega arith)))

inside_high : (c k : ℕ) → 128 ≤ c → k < length (encode_utf8 c) → 128 ≤ get_or (encode_utf8 c) k 0
inside_high c k big l = elim (cases_order (get_or (encode_utf8 c) k 0) 128) [
  | inl e ↦ omega arith
  | inr o ↦ (elim o [
    | inl low ↦ absurd (let e : c ≡ get_or (encode_utf8 c) k 0 = inside_one c [] (encode_utf8 c) k (sym (append-nil (encode_utf8 c))) l low in omega arith)
    | inr high ↦ omega arith
  ])
]

shown_large : (c : ℕ) → 128 ≤ c → shown_name (encode_utf8 c) ≡ encode_utf8 (shown_byte c)
shown_large c big = shown_high (encode_utf8 c) (λ k l. inside_high c k big l) ∙ ap encode_utf8 (sym (shown_same c big))

either_low : (a b : Bool) (c : ℕ) → c < 128 → cond a 40 (cond b 41 c) < 128
either_low true b c l = omega arith
either_low false true c l = omega arith
either_low false false c l = l

shown_small : (c : ℕ) → c < 128 → shown_name (encode_utf8 c) ≡ encode_utf8 (shown_byte c)
shown_small c low = ap shown_name (encode_ascii c low) ∙ sym (encode_ascii (shown_byte c) (either_low (c == 91) (c == 93) c low))

shown_one : (c : ℕ) → shown_name (encode_utf8 c) ≡ encode_utf8 (shown_byte c)
shown_one c = elim (cases_order c 128) [
  | inl e ↦ shown_large c (omega arith)
  | inr o ↦ (elim o [
    | inl low ↦ shown_small c low
    | inr high ↦ shown_large c (omega arith)
  ])
]

shown_append : (xs ys : List ℕ) → shown_name (xs ++ ys) ≡ shown_name xs ++ shown_name ys
shown_append [] ys = refl
shown_append (x ∷ xs) ys = ap (λ l. shown_byte x ∷ l) (shown_append xs ys)

shown_encodes : (cs : List ℕ) → shown_name (encode_utf8_all cs) ≡ encode_utf8_all (map shown_byte cs)
shown_encodes [] = refl
shown_encodes (c ∷ cs) = shown_append (encode_utf8 c) (encode_utf8_all cs) ∙ ap₂ (λ x y. x ++ y) (shown_one c) (shown_encodes cs)

-- a text as it is shown, character by character
pub shown_chars : (text : List ℕ) → IsUtf8 text → encode_utf8_all (map shown_byte (chars text)) ≡ shown_name text
shown_chars text u = sym (shown_encodes (chars text)) ∙ ap shown_name (encodes-chars text u)

pub declared_text : (old a s e : List ℕ) (l : ℕ) → ((((old ++ a) ++ l ∷ []) ++ 32 ∷ []) ++ s) ++ e ≡ old ++ (((a ++ l ∷ 32 ∷ []) ++ s) ++ e)
declared_text old a s e l = simp append_assoc

drop_at_some : {X : Type 0} (xs : List X) (i : ℕ) (x : X) → slice_get xs i ≡ Some x → drop i xs ≡ x ∷ drop (i + 1) xs
drop_at_some xs i x e =
    drop_more xs i x (slice_get_within xs i x e) ∙ ap (λ y. y ∷ drop (i + 1) xs) (get_or_from_slice_get xs i x x e)

pub declarations_step : (names : List (List ℕ)) (i : ℕ) (name : List ℕ) → slice_get names i ≡ Some name →
    declarations i (drop i names) ≡ declaration i name ++ declarations (i + 1) (drop (i + 1) names)
declarations_step names i name e =
    let next : suc i ≡ i + 1 = omega arith in
    ap (declarations i) (drop_at_some names i name e) ∙ ap (λ n. declaration i name ++ declarations n (drop (i + 1) names)) next

pub declarations_end : (names : List (List ℕ)) (i : ℕ) (text all : List ℕ) → length names ≤ i → text ++ declarations i (drop i names) ≡ all → text ≡ all
declarations_end names i text all high e = sym (append-nil text) ∙ ap (λ ns. text ++ declarations i ns) (sym (drop_all i names high)) ∙ e

-- ---- bits

drop_set : (xs : List ℕ) (k x : ℕ) → k < length xs → drop k (set xs k x) ≡ x ∷ drop (suc k) xs
drop_set [] k x l = absurd (omega arith)
drop_set (y ∷ xs) zero x l = refl
drop_set (y ∷ xs) (suc k) x l = drop_set xs k x (omega arith)

bits_step : (k left : ℕ) (ds : List ℕ) → k < length ds → low_bits (suc k) left ++ drop (suc k) ds ≡ low_bits k (left / 2) ++ drop k (set ds k (48 + left % 2))
bits_step k left ds l =
    append_assoc (low_bits k (left / 2)) ((48 + left % 2) ∷ []) (drop (suc k) ds) ∙ ap (λ x. low_bits k (left / 2) ++ x) (sym (drop_set ds k (48 + left % 2) l))

-- one bit more, from the lowest
pub bits_next : (i left : ℕ) (ds all : List ℕ) → i < 32 → length ds ≡ 32 → low_bits (32 - i) left ++ drop (32 - i) ds ≡ all →
    low_bits (32 - (i + 1)) (left / 2) ++ drop (32 - (i + 1)) (set ds (31 - i) (48 + left % 2)) ≡ all
bits_next i left ds all l n e =
    let here : 32 - (i + 1) ≡ 31 - i = omega arith in
    let there : suc (31 - i) ≡ 32 - i = omega arith in
    ap (λ k. low_bits k (left / 2) ++ drop k (set ds (31 - i) (48 + left % 2))) here
    ∙ sym (bits_step (31 - i) left ds (omega arith))
    ∙ ap (λ k. low_bits k left ++ drop k ds) there
    ∙ e

pub bits_end : (i left : ℕ) (ds all : List ℕ) → 32 ≤ i → low_bits (32 - i) left ++ drop (32 - i) ds ≡ all → ds ≡ all
bits_end i left ds all l e = let none : 0 ≡ 32 - i = omega arith in ap (λ k. low_bits k left ++ drop k ds) none ∙ e

pub value_put : (front bits : List ℕ) (l : ℕ) → ((front ++ 98 ∷ []) ++ bits) ++ (32 ∷ l ∷ 10 ∷ []) ≡ front ++ ((((98 ∷ []) ++ bits) ++ 32 ∷ []) ++ l ∷ 10 ∷ [])
value_put front bits l = simp append_assoc

-- ---- ticks

pub none_values : (xs : List ℤ) → values_before true xs ≡ none_yet (length xs)
none_values [] = refl
none_values (x ∷ xs) = ap (λ l. value_before true x ∷ l) (none_values xs)

pub change_kept : (k : ℕ) (old : Option ℤ) (v : ℤ) (front : List ℕ) → is_kept old v ≡ true → front ≡ front ++ change_line k old v
change_kept k old v front e = sym (append-nil front) ∙ ap (λ b. front ++ cond b [] (value_line k v)) (sym e)

pub change_new : (k : ℕ) (old : Option ℤ) (v : ℤ) (front : List ℕ) → is_kept old v ≡ false → front ++ value_line k v ≡ front ++ change_line k old v
change_new k old v front e = ap (λ b. front ++ cond b [] (value_line k v)) (sym e)

pub changes_step : (first : Bool) (last values : List ℤ) (k : ℕ) (d : ℤ) → k < length last → k < length values →
    change_lines k (values_before first (drop k last)) (drop k values)
    ≡ change_line k (value_before first (get_or last k d)) (get_or values k d) ++ change_lines (k + 1) (values_before first (drop (k + 1) last)) (drop (k + 1) values)
changes_step first last values k d l m =
    let next : suc k ≡ k + 1 = omega arith in
    ap₂ (λ a b. change_lines k (values_before first a) b) (drop_more last k d l) (drop_more values k d m)
    ∙ ap (λ n. change_line k (value_before first (get_or last k d)) (get_or values k d) ++ change_lines n (values_before first (drop (k + 1) last)) (drop (k + 1) values)) next

pub changes_end : (first : Bool) (last values : List ℤ) (k : ℕ) (text all : List ℕ) → length values ≤ k →
    text ++ change_lines k (values_before first (drop k last)) (drop k values) ≡ all → text ≡ all
changes_end first last values k text all high e =
    let olds = values_before first (drop k last) in
    sym (append-nil text) ∙ ap (λ x. text ++ x) (sym (ap (change_lines k olds) (drop_all k values high) ∙ changes_none k olds)) ∙ e

pub tick_behind : (names : List (List ℕ)) (ticks : List (List ℤ)) (values : List ℤ) →
    until_ending names (ticks ++ values ∷ []) ≡ until_ending names ticks ++ tick_text (length ticks + 1) (olds_of names ticks) values
tick_behind names ticks values =
    ap (λ x. head_text names ++ x) (ticks_push 1 (length ticks + 1) (no_values names) ticks values (omega arith))
    ∙ sym (append_assoc (head_text names) (ticks_text 1 (no_values names) ticks) (tick_text (length ticks + 1) (olds_of names ticks) values))

-- Where the digits at the front of a text end.
use Rattle.std.proofs.Common.{◌≡◌, inl, inr, ℕ, ◌<◌, ◌≤◌, Bool, true, false, List, [], ◌∷◌, Some, None, length, take, get_or, refl, sym, arith}
use Rattle.std.specs.Char.{is_ascii_digit}
use Rattle.std.specs.List.{prefix_len, position_or_len, list_all, AllPass}
use Rattle.std.proofs.lemmas.Bool.{cases_lt, cases_order}
use Rattle.std.proofs.lemmas.Bool.Decides.{nat_tests}
use Rattle.std.proofs.lemmas.List.{length-take, get_or-take}
use Rattle.std.proofs.lemmas.List.Elements.{All-from_get_or, All-get_or}
use Rattle.std.proofs.lemmas.List.Sums.{prefix_len-le-length, prefix_len_passes, prefix_len_stops, position_or_len_is, passes_at_first, AllPass-from_list_all, list_all-from_AllPass}
use Rattle.trace_rows.specs.Numbers.{digits_value, magnitude_of}
use Rattle.trace_rows.specs.Words.{is_blank}

pub digit_no_blank : (b : ℕ) → is_ascii_digit b ≡ true → is_blank b ≡ false
digit_no_blank b h = grind (arith, nat_tests)

-- digits with a blank or nothing after them are a word
pub word_is_digits : (text : List ℕ) (n : ℕ) → n ≡ prefix_len is_ascii_digit text → (n < length text → is_blank (get_or text n 0) ≡ true) → n ≡ position_or_len is_blank text
word_is_digits text n e h =
    sym (position_or_len_is is_blank text n 0 (omega (arith, prefix_len-le-length is_ascii_digit text))
    (λ k low. digit_no_blank (get_or text k 0) (prefix_len_passes is_ascii_digit text k 0 (omega arith))) h)

pub all_digits : (text : List ℕ) (n : ℕ) → n ≤ prefix_len is_ascii_digit text → list_all is_ascii_digit (take n text) ≡ true
all_digits text n e =
    list_all-from_AllPass is_ascii_digit (take n text) (All-from_get_or (λ b. is_ascii_digit b ≡ true) (take n text) 0 (λ k h.
    let low : k < n = omega (arith, length-take n text) in
    rw (get_or-take n text k 0 low) (prefix_len_passes is_ascii_digit text k 0 (omega arith))))

magnitude_some : (w : List ℕ) → 0 < length w → list_all is_ascii_digit w ≡ true → magnitude_of w ≡ Some (digits_value w)
magnitude_some [] some all = absurd (omega arith)
magnitude_some (b ∷ bs) some all = rw all refl

magnitude_none : (w : List ℕ) → list_all is_ascii_digit w ≡ false → magnitude_of w ≡ None
magnitude_none [] all = absurd cc
magnitude_none (b ∷ bs) all = rw all refl

-- digits, one or more
pub magnitude_is : (text : List ℕ) (n : ℕ) → n ≡ prefix_len is_ascii_digit text → 0 < n → magnitude_of (take n text) ≡ Some (digits_value (take n text))
magnitude_is text n e some =
    magnitude_some (take n text) (omega (arith, length-take n text, prefix_len-le-length is_ascii_digit text)) (all_digits text n (omega arith))

by_all : (w : List ℕ) (k : ℕ) → k < length w → is_ascii_digit (get_or w k 0) ≡ false → (b : Bool) → list_all is_ascii_digit w ≡ b → magnitude_of w ≡ None
by_all w k low other true e = absurd (let all : AllPass is_ascii_digit w = AllPass-from_list_all is_ascii_digit w e in let yes : is_ascii_digit (get_or w k 0) ≡ true = All-get_or (λ b. is_ascii_digit b ≡ true) w k 0 low all in cc)
by_all w k low other false e = magnitude_none w e

-- a word with another byte after its first digits
pub magnitude_not : (text : List ℕ) (n : ℕ) → n ≡ prefix_len is_ascii_digit text → n < length text → is_blank (get_or text n 0) ≡ false →
    magnitude_of (take (position_or_len is_blank text) text) ≡ None
magnitude_not text n e low solid =
    let stops : is_ascii_digit (get_or text n 0) ≡ false = rw e (prefix_len_stops is_ascii_digit text 0 (omega arith)) in
    let end = position_or_len is_blank text in
    let past : n < end = elim (cases_lt n end) [
      | inl h ↦ h
      | inr h ↦ absurd (elim (cases_order end n) [
        | inl same ↦ (let b : is_blank (get_or text end 0) ≡ true = passes_at_first is_blank text 0 (omega arith) in let c : is_blank (get_or text end 0) ≡ false = rw same solid in cc)
        | inr o ↦ (elim o [
          | inl less ↦ (let b : is_blank (get_or text end 0) ≡ true = passes_at_first is_blank text 0 (omega arith) in
              let d : is_blank (get_or text end 0) ≡ false = digit_no_blank (get_or text end 0) (prefix_len_passes is_ascii_digit text end 0 (omega arith)) in cc)
          | inr more ↦ omega arith
        ])
      ])
    ] in
    let w : List ℕ = take end text in
    let at : is_ascii_digit (get_or w n 0) ≡ false = rw (get_or-take end text n 0 past) stops in
    by_all w n (omega (arith, length-take end text)) at (list_all is_ascii_digit w) refl

-- The changes of a line, one by one.
use Rattle.std.proofs.Common.{◌≡◌, ℕ, ℤ, ◌+◌, ◌-◌, ◌<◌, ◌≤◌, Bool, true, false, cond, if◌then◌else◌, List, ◌∷◌, Option, Some, None, length, take, drop, set, get_or, refl, sym, ap, ◌∙◌, arith, take-add, inl, inr}
use Rattle.std.specs.Option.{option_and_then}
use Rattle.std.specs.List.{before_first, after_first, position, position_or_len}
use Rattle.std.specs.Str.{bytes_eq}
use Rattle.std.proofs.lemmas.Bool.{cases_lt, eq-eqb}
use Rattle.std.proofs.lemmas.List.{drop-take, drop_all, get_or-drop, get_or-take, length-drop, length-take, take_at}
use Rattle.std.proofs.lemmas.List.Sums.{fails_before_first, passes_at_first, position_or_len_is, prefix_len-le-length}
use Rattle.trace_rows.specs.Changes.{is_equals, change_in, changed_row}
use Rattle.trace_rows.specs.Numbers.{word_number}
use Rattle.trace_rows.specs.Words.{is_blank, line_words, BeginsNoBlank}
use Rattle.trace_rows.proofs.Splitting.{words_of-word, words_of-empty}

-- the first that passes, in the front of a list and behind elements that don't
first_in_front : (p : ℕ → Bool) (t : List ℕ) (m : ℕ) → position_or_len p t < m → m ≤ length t → position_or_len p (take m t) ≡ position_or_len p t
first_in_front p t m low long =
    let n = position_or_len p t in
    position_or_len_is p (take m t) n 0 (omega (arith, length-take m t, low, long))
    (λ k less. rw (get_or-take m t k 0 (omega (arith, low, less))) (fails_before_first p t k 0 less))
    (λ h. rw (get_or-take m t n 0 low) (passes_at_first p t 0 (omega (arith, low, long))))

none_in_front : (p : ℕ → Bool) (t : List ℕ) (m : ℕ) → m ≤ position_or_len p t → position_or_len p (take m t) ≡ length (take m t)
none_in_front p t m high =
    position_or_len_is p (take m t) (length (take m t)) 0 (omega arith)
    (λ k less. (let low : k < m = omega (arith, length-take m t) in rw (get_or-take m t k 0 low) (fails_before_first p t k 0 (omega (arith, high)))))
    (λ h. absurd (omega arith))

first_behind : (p : ℕ → Bool) (t : List ℕ) (n : ℕ) → n ≤ position_or_len p t → n + position_or_len p (drop n t) ≡ position_or_len p t
first_behind p t n low =
    let m = position_or_len p t in
    let long : m ≤ length t = prefix_len-le-length _ t in
    let is : position_or_len p (drop n t) ≡ m - n =
    position_or_len_is p (drop n t) (m - n) 0 (omega (arith, length-drop n t, low, long))
    (λ k less. rw (get_or-drop n t k 0) (fails_before_first p t (n + k) 0 (omega (arith, low, less))))
    (λ h. (let same : n + (m - n) ≡ m = omega (arith, low) in rw (get_or-drop n t (m - n) 0, same) (passes_at_first p t 0 (omega (arith, length-drop n t, h, low))))) in
    omega (arith, is, low)

take_front : (t : List ℕ) (n k : ℕ) → n ≤ length t → take n (take (n + k) t) ≡ take n t
take_front t n k low = ap (take n) (take-add n k t) ∙ take_at (take n t) (take k (drop n t)) n (omega (arith, length-take n t))

with_no_input : {A B : Type 0} (o : Option A) → option_and_then {T = A} {U = B} (λ x. None) o ≡ None
with_no_input None = refl
with_no_input (Some x) = refl

no_number : (names : List (List ℕ)) (word : List ℕ) → word_number (after_first is_equals word) ≡ None → change_in names word ≡ None
no_number names word e = rw e (with_no_input (position (bytes_eq (before_first is_equals word)) names))

no_input : (names : List (List ℕ)) (word : List ℕ) → position (bytes_eq (before_first is_equals word)) names ≡ None → change_in names word ≡ None
no_input names word e = rw e refl

some_change : (names : List (List ℕ)) (word : List ℕ) (i : ℕ) (v : ℤ) → position (bytes_eq (before_first is_equals word)) names ≡ Some i → word_number (after_first is_equals word) ≡ Some v →
    change_in names word ≡ Some (i, v)
some_change names word i v e n = rw (e, n) refl

-- a word without `=`
pub no_equals : (names : List (List ℕ)) (t : List ℕ) → position_or_len is_blank t ≤ position_or_len is_equals t → change_in names (take (position_or_len is_blank t) t) ≡ None
no_equals names t high =
    let word : List ℕ = take (position_or_len is_blank t) t in
    no_number names word (ap word_number (drop_all (position_or_len is_equals word + 1) word (omega (arith, none_in_front is_equals t (position_or_len is_blank t) high))))

module _ (names : List (List ℕ)) (t : List ℕ) (n : ℕ) (at : n ≡ position_or_len is_equals t) (low : n < position_or_len is_blank t) where
  abbrev pub l : ℕ
  l = position_or_len is_blank (drop (n + 1) t)

  pub word_len : n + 1 + l ≡ position_or_len is_blank t
  word_len = first_behind is_blank t (n + 1) (omega (arith, low))

  long : n + 1 + l ≤ length t
  long = let most : position_or_len is_blank t ≤ length t = prefix_len-le-length _ t in omega (arith, word_len)

  abbrev pub word : List ℕ
  word = take (n + 1 + l) t

  equals_at : position_or_len is_equals word ≡ n
  equals_at = first_in_front is_equals t (n + 1 + l) (omega (arith, at)) long ∙ sym at

  pub name_is : before_first is_equals word ≡ take n t
  name_is = ap (λ k. take k word) equals_at ∙ ap (λ k. take n (take k t)) (let e : n + 1 + l ≡ n + (1 + l) = omega arith in e) ∙ take_front t n (1 + l) (omega (arith, long))

  pub number_is : after_first is_equals word ≡ take l (drop (n + 1) t)
  number_is = ap (λ k. drop (k + 1) word) equals_at ∙ drop-take (n + 1) l t

  pub is_change : (i len : ℕ) (v : ℤ) → len ≡ l → Some i ≡ position (bytes_eq (take n t)) names → word_number (take len (drop (n + 1) t)) ≡ Some v → change_in names (take (n + 1 + len) t) ≡ Some (i, v)
  is_change i len v e p number =
      ap (λ k. change_in names (take (n + 1 + k) t)) e
      ∙ some_change names word i v (ap (λ w. position (bytes_eq w) names) name_is ∙ sym p) (ap word_number number_is ∙ ap (λ k. word_number (take k (drop (n + 1) t))) (sym e) ∙ number)

  pub is_no_number : word_number (take l (drop (n + 1) t)) ≡ None → change_in names (take (position_or_len is_blank t) t) ≡ None
  is_no_number e = ap (λ k. change_in names (take k t)) (sym word_len) ∙ no_number names word (ap word_number number_is ∙ e)

  pub is_no_input : None ≡ position (bytes_eq (take n t)) names → change_in names (take (position_or_len is_blank t) t) ≡ None
  is_no_input e = ap (λ k. change_in names (take k t)) (sym word_len) ∙ no_input names word (ap (λ w. position (bytes_eq w) names) name_is ∙ sym e)

-- ---- the name at the front

abbrev pub NoneOf : (ℕ → Bool) → List ℕ → ℕ → Type 0
NoneOf p t i = (k : ℕ) → k < i → p (get_or t k 0) ≡ false

no_blank : (b : ℕ) → b ≡ 61 → is_blank b ≡ false
no_blank b is = rw is refl

-- nothing that passes before a place, and nothing there
none_there : (p : ℕ → Bool) (t : List ℕ) (i : ℕ) → i ≤ length t → NoneOf p t i → i ≤ position_or_len p t
none_there p t i long none =
    elim (cases_lt (position_or_len p t) i) [
      | inl less ↦ absurd (
          let yes : p (get_or t (position_or_len p t) 0) ≡ true = passes_at_first p t 0 (omega arith) in
          let no : p (get_or t (position_or_len p t) 0) ≡ false = none (position_or_len p t) less in cc)
      | inr past ↦ omega arith
    ]

pub equals_there : (t : List ℕ) (i : ℕ) → i < length t → get_or t i 0 ≡ 61 → NoneOf is_blank t i → NoneOf is_equals t i →
    (i < position_or_len is_blank t) × (i ≡ position_or_len is_equals t)
equals_there t i low here solid other =
    let is : i ≡ position_or_len is_equals t = sym (position_or_len_is is_equals t i 0 (omega arith) other (λ h. eq-eqb (get_or t i 0) 61 here)) in
    let past : i + 1 ≤ position_or_len is_blank t = none_there is_blank t (i + 1) (omega arith) (λ k less. elim (cases_lt k i) [
      | inl before ↦ solid k before
      | inr more ↦ (let same : k ≡ i = omega arith in ap (λ j. is_blank (get_or t j 0)) same ∙ no_blank (get_or t i 0) here)
    ]) in (omega arith, is)

pub blank_there : (t : List ℕ) (i : ℕ) → i < length t → is_blank (get_or t i 0) ≡ true → NoneOf is_blank t i → NoneOf is_equals t i → position_or_len is_blank t ≤ position_or_len is_equals t
blank_there t i low here solid other =
    let is : position_or_len is_blank t ≡ i = position_or_len_is is_blank t i 0 (omega arith) solid (λ h. here) in
    let past : i ≤ position_or_len is_equals t = none_there is_equals t i (omega arith) other in omega arith

pub nothing_there : (t : List ℕ) (i : ℕ) → length t ≤ i → NoneOf is_equals t i → position_or_len is_blank t ≤ position_or_len is_equals t
nothing_there t i end other =
    let past : length t ≤ position_or_len is_equals t = none_there is_equals t (length t) (omega arith) (λ k low. other k (omega arith)) in
    let most : position_or_len is_blank t ≤ length t = prefix_len-le-length _ t in omega arith

-- ---- word by word

changed_row-cons : (names : List (List ℕ)) (named : List Bool) (row : List ℤ) (word : List ℕ) (words : List (List ℕ)) (i : ℕ) (v : ℤ) → change_in names word ≡ Some (i, v) →
    changed_row names named row (word ∷ words) ≡ cond (get_or named i false) None (changed_row names (set named i true) (set row i v) words)
changed_row-cons names named row w words i v e =
    ap (option_and_then (λ c. if get_or named c.0 false then None else changed_row names (set named c.0 true) (set row c.0 c.1) words)) e

changed_row-stops : (names : List (List ℕ)) (named : List Bool) (row : List ℤ) (word : List ℕ) (words : List (List ℕ)) → change_in names word ≡ None → changed_row names named row (word ∷ words) ≡ None
changed_row-stops names named row w words e =
    ap (option_and_then (λ c. if get_or named c.0 false then None else changed_row names (set named c.0 true) (set row c.0 c.1) words)) e

module _ (names : List (List ℕ)) (named : List Bool) (row : List ℤ) (rest : List ℕ) (whole : Option (List ℤ)) (so_far : changed_row names named row (line_words rest) ≡ whole) where
  -- no word is left
  pub all_changed : length rest ≡ 0 → whole ≡ Some row
  all_changed none = sym so_far ∙ ap (changed_row names named row) (words_of-empty rest none)

  module _ (some : 0 < length rest) (begins : BeginsNoBlank rest) where
    -- a word that is no change
    pub no_change : change_in names (take (position_or_len is_blank rest) rest) ≡ None → whole ≡ None
    no_change bad =
        let end = position_or_len is_blank rest in
        sym so_far ∙ ap (changed_row names named row) (words_of-word rest end some begins refl) ∙ changed_row-stops names named row (take end rest) (line_words (drop end rest)) bad

    module _ (len i : ℕ) (v : ℤ) (end : len ≡ position_or_len is_blank rest) (good : change_in names (take len rest) ≡ Some (i, v)) where
      step : cond (get_or named i false) None (changed_row names (set named i true) (set row i v) (line_words (drop len rest))) ≡ whole
      step = sym (ap (changed_row names named row) (words_of-word rest len some begins end) ∙ changed_row-cons names named row (take len rest) (line_words (drop len rest)) i v good) ∙ so_far

      -- a word that changes an input once more
      pub named_twice : get_or named i false ≡ true → whole ≡ None
      named_twice twice = sym step ∙ rw twice refl

      -- a word more
      pub change_more : (after : List ℕ) → line_words after ≡ line_words (drop len rest) → get_or named i false ≡ false → changed_row names (set named i true) (set row i v) (line_words after) ≡ whole
      change_more after same once = ap (changed_row names (set named i true) (set row i v)) same ∙ sym (rw once refl) ∙ step

-- The numbers of a line, one by one.
use Rattle.std.proofs.Common.{◌≡◌, ℕ, ◌+◌, ◌<◌, ◌≤◌, ℤ, Bool, true, false, cond, eqb, List, [], ◌∷◌, ◌++◌, Option, Some, None, length, take, drop, set, refl, sym, ap, ◌∙◌, arith, append_assoc, append-nil}
use Rattle.std.specs.Option.{option_map, option_and_then}
use Rattle.std.specs.List.{position_or_len}
use Rattle.std.proofs.lemmas.Bool.{ne_eqb, eq-eqb}
use Rattle.std.proofs.lemmas.List.{take_more_set, take_all}
use Rattle.trace_rows.specs.Numbers.{word_number}
use Rattle.trace_rows.specs.Words.{is_blank, line_words, BeginsNoBlank}
use Rattle.trace_rows.specs.Trace.{word_numbers, numbers_in}
use Rattle.trace_rows.proofs.Splitting.{words_of-word, words_of-empty}

-- these numbers in front of those
abbrev pub in_front : List ℤ → Option (List ℤ) → Option (List ℤ)
in_front done = option_map (λ more. done ++ more)

numbers_in_other : (n : ℕ) (words : List (List ℕ)) → (length words ≡ n → ⊥) → numbers_in n words ≡ None
numbers_in_other n words other = rw (ne_eqb (length words) n other) refl

cond_none : {A : Type 0} (b : Bool) → cond {A = Option A} b None None ≡ None
cond_none true = refl
cond_none false = refl

numbers_in_none : (n : ℕ) (words : List (List ℕ)) → word_numbers words ≡ None → numbers_in n words ≡ None
numbers_in_none n words e = rw e (cond_none (eqb (length words) n))

in_front_none : (o : Option (List ℤ)) → in_front [] o ≡ o
in_front_none None = refl
in_front_none (Some xs) = refl

in_front_more : (done : List ℤ) (n : ℤ) (o : Option (List ℤ)) → in_front (done ++ n ∷ []) o ≡ in_front done (option_map (λ ns. n ∷ ns) o)
in_front_more done n None = refl
in_front_more done n (Some xs) = ap Some (append_assoc done (n ∷ []) xs)

numbers_of-cons : (word : List ℕ) (words : List (List ℕ)) (n : ℤ) → word_number word ≡ Some n → word_numbers (word ∷ words) ≡ option_map (λ ns. n ∷ ns) (word_numbers words)
numbers_of-cons word words n e = ap (option_and_then (λ n. option_map (λ ns. n ∷ ns) (word_numbers words))) e

numbers_of-stops : (word : List ℕ) (words : List (List ℕ)) → word_number word ≡ None → word_numbers (word ∷ words) ≡ None
numbers_of-stops word words e = ap (option_and_then (λ n. option_map (λ ns. n ∷ ns) (word_numbers words))) e

pub numbers_start : (values : List ℤ) (words : List (List ℕ)) → in_front (take 0 values) (word_numbers words) ≡ word_numbers words
numbers_start values words = in_front_none (word_numbers words)

-- a word more than there are values
pub numbers_past : (n count : ℕ) (line rest : List ℕ) → count + length (line_words rest) ≡ length (line_words line) → n ≤ count → 0 < length rest → BeginsNoBlank rest →
    numbers_in n (line_words line) ≡ None
numbers_past n count line rest e full some begins =
    let first = words_of-word rest (position_or_len is_blank rest) some begins refl in
    numbers_in_other n (line_words line) (λ same. omega (arith, ap length first))

-- a word that is no number
pub numbers_stop : (n : ℕ) (done : List ℤ) (line rest : List ℕ) → in_front done (word_numbers (line_words rest)) ≡ word_numbers (line_words line) → 0 < length rest → BeginsNoBlank rest →
    word_number (take (position_or_len is_blank rest) rest) ≡ None → numbers_in n (line_words line) ≡ None
numbers_stop n done line rest e some begins bad =
    let end = position_or_len is_blank rest in
    numbers_in_none n (line_words line) (sym e ∙ ap (in_front done) (ap word_numbers (words_of-word rest end some begins refl) ∙ numbers_of-stops (take end rest) (line_words (drop end rest)) bad))

-- one number more
pub numbers_more : (values : List ℤ) (count : ℕ) (line rest after : List ℕ) (len : ℕ) (n : ℤ) → count < length values →
    in_front (take count values) (word_numbers (line_words rest)) ≡ word_numbers (line_words line) → 0 < length rest → BeginsNoBlank rest →
    len ≡ position_or_len is_blank rest → word_number (take len rest) ≡ Some n → line_words after ≡ line_words (drop len rest) →
    in_front (take (count + 1) (set values count n)) (word_numbers (line_words after)) ≡ word_numbers (line_words line)
numbers_more values count line rest after len n low e some begins end good same =
    ap (λ ws. in_front (take (count + 1) (set values count n)) (word_numbers ws)) same
    ∙ ap (λ done. in_front done (word_numbers (line_words (drop len rest)))) (take_more_set values count n low)
    ∙ in_front_more (take count values) n (word_numbers (line_words (drop len rest)))
    ∙ ap (in_front (take count values)) (sym (ap word_numbers (words_of-word rest len some begins end) ∙ numbers_of-cons (take len rest) (line_words (drop len rest)) n good))
    ∙ e

pub count_more : (count : ℕ) (line rest after : List ℕ) (len : ℕ) → count + length (line_words rest) ≡ length (line_words line) → 0 < length rest → BeginsNoBlank rest →
    len ≡ position_or_len is_blank rest → line_words after ≡ line_words (drop len rest) → count + 1 + length (line_words after) ≡ length (line_words line)
count_more count line rest after len e some begins end same =
    omega (arith, ap length (words_of-word rest len some begins end), ap length same)

-- all words were read
pub numbers_all : (values : List ℤ) (count : ℕ) (line rest : List ℕ) → count ≡ length values → in_front (take count values) (word_numbers (line_words rest)) ≡ word_numbers (line_words line) →
    count + length (line_words rest) ≡ length (line_words line) → length rest ≡ 0 → numbers_in (length values) (line_words line) ≡ Some values
numbers_all values count line rest full e all none =
    let no_words : line_words rest ≡ [] = words_of-empty rest none in
    let as_many : length (line_words line) ≡ length values = omega (arith, ap length no_words) in
    rw (eq-eqb (length (line_words line)) (length values) as_many)
    (sym e ∙ ap (λ ws. in_front (take count values) (word_numbers ws)) no_words ∙ ap Some (append-nil (take count values) ∙ take_all count values (omega arith)))

pub numbers_few : (n count : ℕ) (line rest : List ℕ) → (count ≡ n → ⊥) → count + length (line_words rest) ≡ length (line_words line) → length rest ≡ 0 → numbers_in n (line_words line) ≡ None
numbers_few n count line rest other all none =
    numbers_in_other n (line_words line) (λ same. other (omega (arith, ap length (words_of-empty rest none))))

-- Taking the first word off a line.
use Rattle.std.proofs.Common.{◌≡◌, inl, inr, ℕ, ◌+◌, ◌<◌, ◌≤◌, Bool, true, false, cond, not, nat_lt, Some, None, List, [], ◌∷◌, length, filter, take, drop, get_or, refl, sym, ap, ◌∙◌, arith}
use Rattle.std.specs.List.{slice_split, position, position_or_len, All}
use Rattle.std.proofs.lemmas.Bool.{cases_lt, ltb-false}
use Rattle.std.proofs.lemmas.List.{take_all, drop_all, drop_more, length-take}
use Rattle.std.proofs.lemmas.List.Elements.{All-from_get_or}
use Rattle.std.proofs.lemmas.List.Splits.{slice_split-cons_yes, slice_split_first, slice_split_none}
use Rattle.std.proofs.lemmas.List.Sums.{fails_before_first, passes_at_first, prefix_len-le-length}
use Rattle.trace_rows.specs.Words.{is_blank, is_some_text, line_words, BeginsNoBlank}

pub words_of-blank : (b : ℕ) (bs : List ℕ) → is_blank b ≡ true → line_words (b ∷ bs) ≡ line_words bs
unfolding line_words
words_of-blank b bs e = rw (slice_split-cons_yes is_blank b bs e) refl

pub words_of-none : line_words [] ≡ []
unfolding line_words
words_of-none = refl

pub words_of-empty : (line : List ℕ) → length line ≡ 0 → line_words line ≡ []
words_of-empty [] e = words_of-none
words_of-empty (b ∷ bs) e = absurd (omega arith)

kept : (w : List ℕ) (ps : List (List ℕ)) → 0 < length w → filter is_some_text (w ∷ ps) ≡ w ∷ filter is_some_text ps
kept [] ps h = absurd (omega arith)
kept (b ∷ bs) ps h = refl

-- a word that begins a line has a byte
pub word_some : (line : List ℕ) → 0 < length line → BeginsNoBlank line → 0 < position_or_len is_blank line
word_some [] some begins = absurd (omega arith)
word_some (b ∷ bs) some begins = rw begins (omega arith)

word_and : (line : List ℕ) → position_or_len is_blank line < length line → 0 < position_or_len is_blank line →
    line_words line ≡ take (position_or_len is_blank line) line ∷ line_words (drop (position_or_len is_blank line + 1) line)
unfolding line_words
word_and line low some =
    let n = position_or_len is_blank line in
    rw (slice_split_first is_blank line 0 low) (kept (take n line) (slice_split is_blank (drop (n + 1) line)) (omega (arith, length-take n line)))

word_alone : (line : List ℕ) → All (λ b. is_blank b ≡ false) line → 0 < length line → line_words line ≡ line ∷ []
unfolding line_words
word_alone line none some = rw (slice_split_none is_blank line none) (kept line [] some)

-- a line that begins with no blank, cut at its first blank or its end
pub words_of-word : (line : List ℕ) (n : ℕ) → 0 < length line → BeginsNoBlank line → n ≡ position_or_len is_blank line →
    line_words line ≡ take n line ∷ line_words (drop n line)
words_of-word line n some begins e =
    let first = position_or_len is_blank line in
    let long : first ≤ length line = prefix_len-le-length (λ b. not (is_blank b)) line in
    rw e (elim (cases_lt first (length line)) [
      | inl low ↦ (word_and line low (word_some line some begins)
          ∙ ap (λ ws. take first line ∷ ws) (sym (ap line_words (drop_more line first 0 low) ∙ words_of-blank (get_or line first 0) (drop (first + 1) line) (passes_at_first is_blank line 0 low))))
      | inr high ↦ (word_alone line (All-from_get_or (λ b. is_blank b ≡ false) line 0 (λ k h. fails_before_first is_blank line k 0 (omega arith))) some
          ∙ ap (λ ws. line ∷ ws) (sym words_of-none)
          ∙ sym (ap (λ w. w ∷ line_words (drop first line)) (take_all first line (omega arith)) ∙ ap (λ r. line ∷ line_words r) (drop_all first line (omega arith))))
    ])

by_test : {P : Type 0} (n : ℕ) (b : Bool) → cond b (Some n) None ≡ None → (b ≡ false → P) → P
by_test n true e f = absurd cc
by_test n false e f = f refl

by_test_some : {P : Type 0} (n m : ℕ) (b : Bool) → cond b (Some n) None ≡ Some m → (n ≡ m → P) → P
by_test_some n m true e f = f cc
by_test_some n m false e f = absurd cc

-- where the first blank stands
pub end_some : (line : List ℕ) (at : ℕ) → position is_blank line ≡ Some at → at ≡ position_or_len is_blank line
end_some line at e =
    let n = position_or_len is_blank line in
    by_test_some n at (nat_lt n (length line)) e (λ h. sym h)

-- no blank stands there
pub end_none : (line : List ℕ) → position is_blank line ≡ None → length line ≡ position_or_len is_blank line
end_none line e =
    let n = position_or_len is_blank line in
    let long : n ≤ length line = prefix_len-le-length (λ b. not (is_blank b)) line in
    by_test n (nat_lt n (length line)) e (λ h. let past : length line ≤ n = ltb-false n (length line) h in omega arith)

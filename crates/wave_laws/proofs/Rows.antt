-- The rows of a trace: how many there are, and what their numbers are.
use Rattle.std.proofs.Common.{◌≡◌, ℕ, zero, suc, ◌+◌, ◌-◌, ◌≤◌, ◌==◌, ℤ, pos, neg_ℤ, Bool, true, false, if◌then◌else◌, nat_le, nat_lt, Option, Some, None, Result, Ok, Err, List, [], ◌∷◌, length, replicate, refl, ap, subst, ◌∙◌, arith, FitsSigned, w32}
use Rattle.std.specs.Prelude.{slice_index_or, slice_set}
use Rattle.std.specs.List.{AllByRecursion, after_first, before_first, position}
use Rattle.std.specs.Option.{option_map, option_and_then}
use Rattle.std.specs.Str.{bytes_eq}
use Rattle.std.proofs.lemmas.Bool.{leb-true, ltb-false}
use Rattle.trace_rows.specs.Changes.{is_equals, change_in, changed_row}
use Rattle.trace_rows.specs.Lines.{lines_of}
use Rattle.trace_rows.specs.Numbers.{magnitude_of, positive, negative, word_number}
use Rattle.trace_rows.specs.Trace.{Row, Trace, Form, InOrder, Changes, most_line_bytes, names_each, places_of, is_mark, first_form, form_of, or_bad, header_at, word_numbers, arranged, row_of, row_at, next_form, form_after, onto, rows_from, behind, rows_of_lines, trace_of}
use Rattle.trace_rows.specs.Words.{line_words}
use Rattle.trace_rows.specs.declared.fault.RowFault.{RowFault}
use Rattle.trace_rows.specs.declared.fault.RowFault.TheVariants as fault
use Rattle.value_ranges.specs.Words.{AreWords}

some_is : {A : Type 0} (x y : A) → Some x ≡ Some y → x ≡ y
some_is x y e = cc

zero_fits : FitsSigned w32 (pos 0)
zero_fits = record { sfits = omega arith }

-- ---- numbers

positive_fits : (m : Option ℕ) (n : ℤ) → positive m ≡ Some n → FitsSigned w32 n
positive_fits None n e = absurd (let bad : None ≡ Some n = e in cc)
positive_fits (Some m) n e = by (nat_le m 2147483647) refl e
  where
    by : (b : Bool) → nat_le m 2147483647 ≡ b → (if b then Some (pos m) else None) ≡ Some n → FitsSigned w32 n
    by true h e = let small = leb-true m 2147483647 h in let fits : FitsSigned w32 (pos m) = record { sfits = omega arith } in subst (FitsSigned w32) (some_is (pos m) n e) fits
    by false h e = absurd (let bad : None ≡ Some n = e in cc)

least_fits : (m : ℕ) → m ≤ 2147483648 → FitsSigned w32 (neg_ℤ (pos m))
least_fits zero h = zero_fits
least_fits (suc m) h = record { sfits = omega arith }

negative_fits : (m : Option ℕ) (n : ℤ) → negative m ≡ Some n → FitsSigned w32 n
negative_fits None n e = absurd (let bad : None ≡ Some n = e in cc)
negative_fits (Some m) n e = by (nat_le m 2147483648) refl e
  where
    by : (b : Bool) → nat_le m 2147483648 ≡ b → (if b then Some (neg_ℤ (pos m)) else None) ≡ Some n → FitsSigned w32 n
    by true h e = subst (FitsSigned w32) (some_is (neg_ℤ (pos m)) n e) (least_fits m (leb-true m 2147483648 h))
    by false h e = absurd (let bad : None ≡ Some n = e in cc)

number_fits : (word : List ℕ) (n : ℤ) → word_number word ≡ Some n → FitsSigned w32 n
number_fits [] n e = absurd (let bad : None ≡ Some n = e in cc)
number_fits (b ∷ bs) n e = by (b == 45) e
  where
    by : (t : Bool) → (if t then negative (magnitude_of bs) else positive (magnitude_of (b ∷ bs))) ≡ Some n → FitsSigned w32 n
    by true e = negative_fits (magnitude_of bs) n e
    by false e = positive_fits (magnitude_of (b ∷ bs)) n e

-- ---- rows of numbers in order

numbers_fit : (words : List (List ℕ)) (ns : List ℤ) → word_numbers words ≡ Some ns → AreWords ns
numbers_fit [] ns e = subst AreWords (some_is [] ns e) tt
numbers_fit (word ∷ words) ns e = by (numbers_fit words) (word_number word) refl (word_numbers words) refl e
  where
    by : ((xs : List ℤ) → word_numbers words ≡ Some xs → AreWords xs) → (m : Option ℤ) → word_number word ≡ m → (ms : Option (List ℤ)) → word_numbers words ≡ ms → option_and_then (λ x. option_map (λ xs. x ∷ xs) ms) m ≡ Some ns → AreWords ns
    by rest None h ms g e = absurd (let bad : None ≡ Some ns = e in cc)
    by rest (Some x) h None g e = absurd (let bad : None ≡ Some ns = e in cc)
    by rest (Some x) h (Some xs) g e = subst AreWords (some_is (x ∷ xs) ns e) (number_fits word x h, rest xs g)

at_fits : (ns : List ℤ) (i : ℕ) → AreWords ns → FitsSigned w32 (slice_index_or ns i (pos 0))
at_fits [] i h = zero_fits
at_fits (n ∷ ns) zero h = h.0
at_fits (n ∷ ns) (suc i) h = at_fits ns i h.1

arranged_fit : (places : List ℕ) (ns : List ℤ) → AreWords ns → AreWords (arranged places ns)
arranged_fit [] ns h = tt
arranged_fit (p ∷ places) ns h = (at_fits ns p h, arranged_fit places ns h)

-- ---- rows of changes

set_fits : (row : List ℤ) (i : ℕ) (n : ℤ) → AreWords row → FitsSigned w32 n → AreWords (slice_set row i n)
set_fits [] i n h f = tt
set_fits (x ∷ row) zero n h f = (f, h.1)
set_fits (x ∷ row) (suc i) n h f = (h.0, set_fits row i n h.1 f)

change_fits : (names : List (List ℕ)) (word : List ℕ) (c : ℕ × ℤ) → change_in names word ≡ Some c → FitsSigned w32 c.1
change_fits names word c e = by (position (bytes_eq (before_first is_equals word)) names) (word_number (after_first is_equals word)) refl e
  where
    by : (at : Option ℕ) (m : Option ℤ) → word_number (after_first is_equals word) ≡ m → option_and_then (λ i. option_map (λ n. (i, n)) m) at ≡ Some c → FitsSigned w32 c.1
    by None m h e = absurd (let bad : None ≡ Some c = e in cc)
    by (Some i) None h e = absurd (let bad : None ≡ Some c = e in cc)
    by (Some i) (Some n) h e = let same : (i, n) ≡ c = cc in subst (λ (d : ℕ × ℤ). FitsSigned w32 d.1) same (number_fits (after_first is_equals word) n h)

changed_fits : (names : List (List ℕ)) (named : List Bool) (row : List ℤ) (words : List (List ℕ)) (ns : List ℤ) → AreWords row → changed_row names named row words ≡ Some ns → AreWords ns
changed_fits names named row [] ns h e = subst AreWords (some_is row ns e) h
changed_fits names named row (word ∷ words) ns h e = by (λ named row. changed_fits names named row words ns) (change_in names word) refl e
  where
    again : ((named : List Bool) (row : List ℤ) → AreWords row → changed_row names named row words ≡ Some ns → AreWords ns) → (c : ℕ × ℤ) → change_in names word ≡ Some c → (b : Bool) → (if b then None else changed_row names (slice_set named c.0 true) (slice_set row c.0 c.1) words) ≡ Some ns → AreWords ns
    again go c g true e = absurd (let bad : None ≡ Some ns = e in cc)
    again go c g false e = go (slice_set named c.0 true) (slice_set row c.0 c.1) (set_fits row c.0 c.1 h (change_fits names word c g)) e

    by : ((named : List Bool) (row : List ℤ) → AreWords row → changed_row names named row words ≡ Some ns → AreWords ns) → (c : Option (ℕ × ℤ)) → change_in names word ≡ c →
        option_and_then (λ c. if slice_index_or named c.0 false then None else changed_row names (slice_set named c.0 true) (slice_set row c.0 c.1) words) c ≡ Some ns → AreWords ns
    by go None g e = absurd (let bad : None ≡ Some ns = e in cc)
    by go (Some c) g e = again go c g (slice_index_or named c.0 false) e

-- ---- a trace

-- the last row that a form keeps fits
abbrev FormWords : Form → Type 0
FormWords (InOrder places) = Unit {0}
FormWords (Changes names last) = AreWords last

row_fits : (form : Form) (words : List (List ℕ)) (row : Row) → FormWords form → row_of form words ≡ Some row → AreWords row
row_fits (InOrder places) words row h e = by (length words == length places) (word_numbers words) refl e
  where
    by : (b : Bool) (m : Option (List ℤ)) → word_numbers words ≡ m → option_map (arranged places) (if b then m else None) ≡ Some row → AreWords row
    by false m g e = absurd (let bad : None ≡ Some row = e in cc)
    by true None g e = absurd (let bad : None ≡ Some row = e in cc)
    by true (Some ns) g e = subst AreWords (some_is (arranged places ns) row e) (arranged_fit places ns (numbers_fit words ns g))
row_fits (Changes names last) words row h e = changed_fits names (replicate (length names) false) last words row h e

next_fits : (form : Form) (row : Row) → AreWords row → FormWords (next_form form row)
next_fits (InOrder places) row h = tt
next_fits (Changes names last) row h = h

-- a row is one of at most so many, and its numbers fit
record GoodRow (limit n : ℕ) (row : Row) : Type 0 where
  within : n ≤ limit
  words : AreWords row

good_row : (limit : ℕ) (form : Form) (n : ℕ) (line : List ℕ) (row : Row) → FormWords form → row_at limit form n line ≡ Ok row → GoodRow limit n row
good_row limit form n line row h e = by (nat_lt limit n) refl (nat_lt most_line_bytes (length line)) (row_of form (line_words line)) refl e
  where
    by : (many : Bool) → nat_lt limit n ≡ many → (long : Bool) (r : Option Row) → row_of form (line_words line) ≡ r →
        (if many then Err fault.Many else (if long then Err fault.Long else or_bad r)) ≡ Ok row → GoodRow limit n row
    by true g long r w e = absurd (let bad : Err fault.Many ≡ Ok row = e in cc)
    by false g true r w e = absurd (let bad : Err fault.Long ≡ Ok row = e in cc)
    by false g false None w e = absurd (let bad : Err fault.Bad ≡ Ok row = e in cc)
    by false g false (Some x) w e =
        let same : x ≡ row = (let f : Ok x ≡ Ok row = e in cc) in
        record { within = ltb-false limit n g; words = row_fits form (line_words line) row h (w ∙ ap Some same) }

-- the rows from line n on are at most what is left of the limit, and their numbers fit
pub record GoodRows (limit n : ℕ) (rows : List Row) : Type 0 where
  pub few : length rows ≤ limit + 1 - n
  pub words : AllByRecursion AreWords rows

good_rows : (limit : ℕ) (form : Form) (n : ℕ) (lines : List (List ℕ)) → FormWords form → GoodRows limit n (rows_from limit form n lines).rows
good_rows limit form n [] h = record { few = omega arith; words = tt }
good_rows limit form n (line ∷ lines) h = by (λ form. good_rows limit form (n + 1) lines) (row_at limit form n line) refl
  where
    more : (row : Row) (rest : Trace) → GoodRow limit n row → GoodRows limit (n + 1) rest.rows → GoodRows limit n (row ∷ rest.rows)
    more row rest one all = record { few = omega (arith, one.within, all.few); words = (one.words, all.words) }

    by : ((form : Form) → FormWords form → GoodRows limit (n + 1) (rows_from limit form (n + 1) lines).rows) → (r : Result Row RowFault) → row_at limit form n line ≡ r → GoodRows limit n (onto r n (rows_from limit (form_after form r) (n + 1) lines)).rows
    by go (Ok row) e =
        let one = good_row limit form n line row h e in
        more row (rows_from limit (next_form form row) (n + 1) lines) one (go (next_form form row) (next_fits form row one.words))
    by go (Err f) e = record { few = omega arith; words = tt }

-- ---- the header

zeros_fit : (n : ℕ) → AreWords (replicate n (pos 0))
zeros_fit zero = tt
zeros_fit (suc n) = (zero_fits, zeros_fit n)

form_fits : (inputs words : List (List ℕ)) (form : Form) → form_of inputs words ≡ Some form → FormWords form
form_fits inputs words form e = by (is_mark words) (names_each inputs words) e
  where
    by : (mark each : Bool) → (if mark then Some (first_form inputs [] true) else (if each then Some (first_form inputs (places_of inputs words) false) else None)) ≡ Some form → FormWords form
    by true each e = subst FormWords (some_is (first_form inputs [] true) form e) (zeros_fit (length inputs))
    by false true e = subst FormWords (some_is (first_form inputs (places_of inputs words) false) form e) tt
    by false false e = absurd (let bad : None ≡ Some form = e in cc)

header_fits : (inputs : List (List ℕ)) (line : List ℕ) (form : Form) → header_at inputs line ≡ Ok form → FormWords form
header_fits inputs line form e = by (nat_lt most_line_bytes (length line)) (form_of inputs (line_words line)) refl e
  where
    by : (long : Bool) (f : Option Form) → form_of inputs (line_words line) ≡ f → (if long then Err fault.Long else or_bad f) ≡ Ok form → FormWords form
    by true f g e = absurd (let bad : Err fault.Long ≡ Ok form = e in cc)
    by false None g e = absurd (let bad : Err fault.Bad ≡ Ok form = e in cc)
    by false (Some x) g e = let same : x ≡ form = (let f : Ok x ≡ Ok form = e in cc) in subst FormWords same (form_fits inputs (line_words line) x g)

lines_good : (inputs : List (List ℕ)) (limit : ℕ) (lines : List (List ℕ)) → GoodRows limit 1 (rows_of_lines inputs limit lines).rows
lines_good inputs limit [] = record { few = omega arith; words = tt }
lines_good inputs limit (header ∷ lines) = by (header_at inputs header) refl
  where
    by : (r : Result Form RowFault) → header_at inputs header ≡ r → GoodRows limit 1 (behind r (λ form. rows_from limit form 1 lines)).rows
    by (Ok form) e = good_rows limit form 1 lines (header_fits inputs header form e)
    by (Err f) e = record { few = omega arith; words = tt }

pub trace_good : (inputs : List (List ℕ)) (limit : ℕ) (bytes : List ℕ) → GoodRows limit 1 (trace_of inputs limit bytes).rows
unfolding trace_of
trace_good inputs limit bytes = lines_good inputs limit (lines_of bytes)

-- What the first call says.
use Rattle.std.proofs.Common.{◌≡◌, ℕ, ◌+◌, ◌<◌, ◌==◌, ℤ, pos, replicate, Bool, true, false, cond, nat_lt, List, [], ◌∷◌, ◌++◌, Option, Some, None, Result, Ok, Err, length, count_by, get_or, refl, sym, ap, subst, ◌∙◌, arith, eqb-true}
use Rattle.std.specs.List.{position_or_len, All, list_all}
use Rattle.std.specs.Io.KnownBytes.{Consumes, IsAtEnd}
use Rattle.std.specs.Result.{IsErr}
use Rattle.std.specs.Str.{bytes_eq}
use Rattle.std.proofs.lemmas.Bool.{and_parts}
use Rattle.std.proofs.lemmas.List.{length-map, get_or-map}
use Rattle.std.proofs.lemmas.List.Elements.{All-from_get_or, All-get_or}
use Rattle.std.proofs.lemmas.List.Sums.{AllPass-from_list_all, sum_by-cons}
use Rattle.trace_rows.specs.declared.fault.RowFault.{RowFault}
use Rattle.trace_rows.specs.declared.fault.RowFault.TheVariants as fault
use Rattle.trace_rows.specs.Calls.{IfTold}
use Rattle.trace_rows.specs.Lines.{lines_of}
use Rattle.trace_rows.specs.Words.{line_words}
use Rattle.trace_rows.specs.Reader.{Reader, Takes, StartSays}
use Rattle.trace_rows.specs.RowForms.{form_with}
use Rattle.trace_rows.specs.SourceReads.{StartTook}
use Rattle.trace_rows.specs.Steps.{TakesHeader, NoHeader}
use Rattle.trace_rows.specs.Trace.{Form, InOrder, most_line_bytes, first_form, is_mark, names_each, or_bad, places_of, header_at, rows_of_lines, rows_from, stop, trace_of}
use Rattle.trace_rows.proofs.Told.{told_of, told_map, LineOf, line_told}
use Rattle.trace_rows.proofs.Heads.{some_header}
use Rattle.trace_rows.proofs.HeaderWords.{stands_once}

trace_of-lines : (inputs : List (List ℕ)) (limit : ℕ) (bytes : List ℕ) → trace_of inputs limit bytes ≡ rows_of_lines inputs limit (lines_of bytes)
unfolding trace_of
trace_of-lines inputs limit bytes = refl

-- ---- the places of a header

by_first : (p : List ℕ → Bool) (x : List ℕ) (xs : List (List ℕ)) (b : Bool) → p x ≡ b → 0 < cond b 1 0 + count_by p xs → (0 < count_by p xs → position_or_len p xs < length xs) →
    position_or_len p (x ∷ xs) < length (x ∷ xs)
by_first p x xs true e some rest = rw e (omega arith)
by_first p x xs false e some rest = let low = rest (omega (arith, some)) in rw e (omega (arith, low))

-- where something passes, the first that does stands within the list
position_within : (p : List ℕ → Bool) (xs : List (List ℕ)) → 0 < count_by p xs → position_or_len p xs < length xs
position_within p [] some = absurd (omega arith)
position_within p (x ∷ xs) some =
    by_first p x xs (p x) refl (omega (arith, some, sum_by-cons (λ y. cond (p y) 1 0) x xs)) (position_within p xs)

places_within : (names words : List (List ℕ)) → names_each names words ≡ true → All (λ place. place < length (places_of names words)) (places_of names words)
places_within names words each =
    let parts = and_parts (length words == length names) (list_all (stands_once words) names) each in
    let as_many : length words ≡ length names = eqb-true (length words) (length names) parts.0 in
    let once = AllPass-from_list_all (stands_once words) names parts.1 in
    let place : List ℕ → ℕ = λ name. position_or_len (bytes_eq name) words in
    All-from_get_or (λ p. p < length (places_of names words)) (places_of names words) 0 (λ i low.
    let low_name : i < length names = omega (arith, length-map names place) in
    let one : stands_once words (get_or names i []) ≡ true = All-get_or (λ name. stands_once words name ≡ true) names i [] low_name once in
    let some : 0 < count_by (bytes_eq (get_or names i [])) words = omega (arith, eqb-true (count_by (bytes_eq (get_or names i [])) words) 1 one) in
    rw (get_or-map place names i [] 0 low_name) (omega (arith, position_within (bytes_eq (get_or names i [])) words some, length-map names place)))

by_tests : (inputs : List (List ℕ)) (words : List (List ℕ)) (places : List ℕ) (long mark each : Bool) → names_each inputs words ≡ each →
    cond {A = Result Form RowFault} long (Err fault.Long)
    (or_bad (cond mark (Some (first_form inputs [] true)) (cond each (Some (InOrder (places_of inputs words))) None))) ≡ Ok (InOrder places) →
    All (λ place. place < length places) places
by_tests inputs words places true mark each n e = absurd cc
by_tests inputs words places false true each n e = absurd cc
by_tests inputs words places false false true n e =
    let same : places_of inputs words ≡ places = cc in
    subst (λ (ps : List ℕ). All (λ place. place < length ps) ps) same (places_within inputs words n)
by_tests inputs words places false false false n e = absurd cc

pub header_within : (inputs : List (List ℕ)) (line places : List ℕ) (changes : Bool) → header_at inputs line ≡ Ok (first_form inputs places changes) → changes ≡ false →
    All (λ place. place < length places) places
header_within inputs line places true e n = absurd cc
header_within inputs line places false e n =
    by_tests inputs (line_words line) places (nat_lt most_line_bytes (length line)) (is_mark (line_words line)) (names_each inputs (line_words line)) refl e

-- ---- the first call

told_none : (a b : Option (List ℕ)) (bs : List ℕ) → Consumes a b bs → IfTold a b (λ x y. Unit {0})
told_none a b bs c = told_of a b bs (λ x y. Unit {0}) c (λ x y h. tt)

no_header_says : (inputs : List (List ℕ)) (limit : ℕ) (w : List ℕ) (f : RowFault) (a b : Option (List ℕ)) → w ≡ [] → IfTold a b (λ x y. NoHeader inputs f (lines_of (w ++ x))) →
    IfTold a b (λ x y. trace_of inputs limit x ≡ stop (Some f) 0)
no_header_says inputs limit w f a b none h =
    told_map a b (λ x y. NoHeader inputs f (lines_of (w ++ x))) (λ x y. trace_of inputs limit x ≡ stop (Some f) 0) h
    (λ x y n. trace_of-lines inputs limit x ∙ ap (λ r. rows_of_lines inputs limit (lines_of (r ++ x))) (sym none) ∙ n limit)

pub err_says : (inputs : List (List ℕ)) (limit : ℕ) (places w w' : List ℕ) (was is : Bool) (f : RowFault) (a b : Option (List ℕ)) → w ≡ [] →
    TakesHeader inputs places w w' was is a b (Err f) → IfTold a b (StartSays inputs limit (Err f))
err_says inputs limit places w w' was is fault.Bad a b none h = no_header_says inputs limit w fault.Bad a b none h
err_says inputs limit places w w' was is fault.Long a b none h = no_header_says inputs limit w fault.Long a b none h
err_says inputs limit places w w' was is fault.Many a b none h = absurd h
err_says inputs limit places w w' was is fault.ReadFault a b none h = told_none a b h.came.bytes h.came.source
err_says inputs limit places w w' was is fault.OutOfMemory a b none h = absurd h

pub took_none : (inputs : List (List ℕ)) (r : Result Reader RowFault) (bytes : List ℕ) → IsErr r → StartTook inputs r bytes
took_none inputs (Ok r) bytes h = absurd cc
took_none inputs (Err f) bytes h = tt

pub ok_says : (inputs : List (List ℕ)) (limit : ℕ) (header w : List ℕ) (r : Reader) (a b : Option (List ℕ)) → w ≡ [] → header_at inputs header ≡ Ok r.form → Takes header w r.held r.ended a b →
    (r.ended ≡ true → IsAtEnd b) → r.limit ≡ limit → r.given ≡ 0 → IfTold a b (StartSays inputs limit (Ok r))
ok_says inputs limit header w r a b none good takes at_end most first =
    told_map a b (LineOf header w r.held) (StartSays inputs limit (Ok r)) (line_told header w r.held r.ended a b takes at_end)
    (λ x y l. trace_of-lines inputs limit x ∙ ap (λ v. rows_of_lines inputs limit (lines_of (v ++ x))) (sym none)
    ∙ some_header inputs header r.form (lines_of (w ++ x)) (lines_of (r.held ++ y)) l good limit
    ∙ ap (λ n. rows_from n r.form 1 (lines_of (r.held ++ y))) (sym most)
    ∙ ap (λ n. rows_from r.limit r.form (n + 1) (lines_of (r.held ++ y))) (sym first))

-- the form that a reader shows after the header
pub form_shown : (inputs texts : List (List ℕ)) (places : List ℕ) (values : List ℤ) (changes : Bool) → texts ≡ inputs → values ≡ replicate (length inputs) (pos 0) →
    first_form inputs places changes ≡ form_with texts places values changes
form_shown inputs texts places values false t v = refl
form_shown inputs texts places values true t v = rw (t, v) refl

-- The ticks over lines that have come whole.
use Rattle.std.proofs.Common.{◌≡◌, ℕ, ◌+◌, Bool, true, false, cond, if◌then◌else◌, List, [], ◌∷◌, ◌++◌, Option, Some, None, Ok, Err, codes, append_assoc, refl, sym, ap, subst, ◌∙◌}
use Rattle.std.specs.List.{slice_split, onto_first}
use Rattle.std.proofs.lemmas.List.Elements.{All-nil, All-cons}
use Rattle.std.proofs.lemmas.List.Splits.{slice_split_at}
use Rattle.forec_kernel.specs.Composed.{TickInput}
use Rattle.forec_kernel.specs.Shapes.{PlainKernel}
use Rattle.forec_kernel.specs.Ticks.{TickState, Fresh, tick, goes_on}
use Rattle.trace_rows.specs.Lines.{is_newline, tidy, all_but_last, on_parts, lines_of, whole_lines}
use Rattle.trace_rows.specs.Trace.{Row, Form, Trace, behind, form_after, header_at, next_form, onto, row_at, rows_from, rows_of_lines, trace_of}
use Rattle.trace_ticks.specs.KernelNames.{input_names}
use Rattle.trace_ticks.specs.Report.{Pace, advance, turns_from, trace_turns}
use Rattle.trace_ticks.specs.Formats.{format_after}
use Rattle.trace_ticks.specs.declared.format.Format.{Format}
use Rattle.trace_ticks.proofs.Advancing.{turns_on, went_of}
use Rattle.trace_ticks.proofs.Splitting.{NoNewline, first_part}
use Rattle.log_runs.specs.ReplayRuns.{with_ends}
use Rattle.log_runs.specs.RootWalks.{turns_over, turns_given}

-- ---- lines without byte 10

abbrev AllClean : List (List ℕ) → Type 0
AllClean [] = Unit {0}
AllClean (l ∷ ls) = NoNewline l × AllClean ls

parts_clean : (bs : List ℕ) → AllClean (slice_split is_newline bs)
parts_clean [] = (All-nil (λ b. is_newline b ≡ false), tt)
parts_clean (x ∷ xs) = by_test (is_newline x) (slice_split is_newline xs) refl (parts_clean xs)
  where
    by_test : (b : Bool) (parts : List (List ℕ)) → is_newline x ≡ b → AllClean parts → AllClean (cond b ([] ∷ parts) (onto_first x parts))
    by_test true parts e h = (All-nil (λ b. is_newline b ≡ false), h)
    by_test false [] e h = (All-cons (λ b. is_newline b ≡ false) x [] e (All-nil (λ b. is_newline b ≡ false)), tt)
    by_test false (part ∷ parts) e h = (All-cons (λ b. is_newline b ≡ false) x part e h.0, h.1)

front_clean : (parts : List (List ℕ)) (part : List ℕ) → AllClean parts → NoNewline part → AllClean (all_but_last parts part)
front_clean [] part hs h = tt
front_clean (next ∷ parts) part hs h = (h, front_clean parts next hs.1 hs.0)

whole_clean : (bs : List ℕ) → AllClean (whole_lines bs)
unfolding whole_lines
whole_clean bs = by (slice_split is_newline bs) (parts_clean bs)
  where
    by : (parts : List (List ℕ)) → AllClean parts → AllClean (on_parts all_but_last parts)
    by [] h = tt
    by (part ∷ parts) h = front_clean parts part h.1 h.0

lines_of-none : lines_of [] ≡ []
unfolding lines_of
lines_of-none = refl

lines_of-line : (l r : List ℕ) → NoNewline l → lines_of (l ++ 10 ∷ r) ≡ l ∷ lines_of r
unfolding lines_of
lines_of-line l r h =
    let p = first_part r in
    rw (slice_split_at is_newline l 10 r h refl, p.2)

newline : codes "\n" ≡ 10 ∷ []
newline = refl

ends_lines : (ls : List (List ℕ)) → AllClean ls → lines_of (with_ends ls) ≡ ls
ends_lines [] h = lines_of-none
ends_lines (l ∷ ls) h = ap (λ (c : List ℕ). lines_of (l ++ c ++ with_ends ls)) newline ∙ ap lines_of (append_assoc l (10 ∷ []) (with_ends ls)) ∙ lines_of-line l (with_ends ls) h.0 ∙ ap (λ x. l ∷ x) (ends_lines ls h.1)

-- ---- the ticks over what has come of a trace

-- nothing has come whole
pub given_none : (limit : ℕ) (k : PlainKernel) (budget : ℕ) (came : List ℕ) → whole_lines came ≡ [] → turns_given limit k budget came ≡ []
unfolding trace_turns trace_of
given_none limit k budget came none =
    ap (λ ls. turns_from k budget Fresh (rows_of_lines (input_names k) limit (lines_of (with_ends ls))).rows) none ∙ ap (λ ls. turns_from k budget Fresh (rows_of_lines (input_names k) limit ls).rows) lines_of-none

-- a header has, and these bytes after it
pub given_rows : (limit : ℕ) (k : PlainKernel) (budget : ℕ) (header : List ℕ) (form : Form) (came rest : List ℕ) → whole_lines came ≡ header ∷ whole_lines rest → header_at (input_names k) header ≡ Ok form →
    turns_given limit k budget came ≡ turns_over limit k budget form (whole_lines rest)
unfolding trace_turns trace_of
given_rows limit k budget header form came rest split is =
    let clean = whole_clean came in
    ap (λ ls. turns_from k budget Fresh (rows_of_lines (input_names k) limit ls).rows) (ends_lines (whole_lines came) clean ∙ split)
    ∙ ap (λ r. turns_from k budget Fresh (behind r (λ f. rows_from limit f 1 (whole_lines rest))).rows) is

-- From one row of a trace to the next.
use Rattle.std.proofs.Common.{◌≡◌, ℕ, ◌+◌, ◌≤◌, Bool, true, List, [], ◌++◌, Option, Some, None, Ok, Err, length, refl, sym, ap, subst, ◌∙◌, arith}
use Rattle.std.specs.List.{after_first}
use Rattle.std.specs.Io.KnownBytes.{IsAtEnd}
use Rattle.trace_rows.specs.declared.fault.Next.TheVariants as next
use Rattle.trace_rows.specs.declared.fault.RowFault.{RowFault}
use Rattle.trace_rows.specs.declared.fault.RowFault.TheVariants as fault
use Rattle.trace_rows.specs.Calls.{IfTold}
use Rattle.trace_rows.specs.Lines.{is_newline, lines_of}
use Rattle.trace_rows.specs.Words.{line_words}
use Rattle.trace_rows.specs.Reader.{Reader, Came, NextSays, NextTakes, first_line}
use Rattle.trace_rows.specs.SourceReads.{TakesRow}
use Rattle.trace_rows.specs.Steps.{FindsNext}
use Rattle.trace_rows.specs.Trace.{Row, Form, InOrder, Changes, row_width, most_line_bytes, next_form, onto, row_of, row_at, rows_from}
use Rattle.trace_rows.proofs.Told.{told_of, told_map, end_told, long_told, LongLine, some_told, SomeLine, LineOf, line_told, takes_first}
use Rattle.trace_rows.proofs.Heads.{row_many, row_long, row_bad, row_good, no_row, some_row, end_row}

-- the source failed, or what stands there is no row
pub err_says : (old new : Reader) (row : Row) (held : List ℕ) (ended : Bool) (f : RowFault) (a b : Option (List ℕ)) → Came old.held held a b → FindsNext old.limit old.given held ended (Err f) →
    IfTold a b (NextSays old new row (Err f))
err_says old new row held ended fault.Bad a b came finds = absurd finds
err_says old new row held ended fault.OutOfMemory a b came finds = absurd finds
err_says old new row held ended fault.ReadFault a b came finds = told_of a b came.bytes (NextSays old new row (Err fault.ReadFault)) came.source (λ x y h. tt)
err_says old new row held ended fault.Many a b came finds =
    told_map a b (SomeLine old.held) (NextSays old new row (Err fault.Many)) (some_told old.held held a b came finds.1)
    (λ x y s. no_row old.limit (old.given + 1) old.form s.0 fault.Many (lines_of (old.held ++ x)) s.1 s.2 (row_many old.limit (old.given + 1) old.form s.0 (let h = finds.0 in omega arith)))
err_says old new row held ended fault.Long a b came finds =
    told_map a b (LongLine old.held) (NextSays old new row (Err fault.Long)) (long_told old.held held a b came finds.1)
    (λ x y l. no_row old.limit (old.given + 1) old.form l.0 fault.Long (lines_of (old.held ++ x)) l.1 l.2 (row_long old.limit (old.given + 1) old.form l.0 (let h = finds.0 in omega arith) l.3))

-- nothing more is there
pub end_says : (old new : Reader) (row : Row) (held : List ℕ) (ended : Bool) (a b : Option (List ℕ)) → Came old.held held a b → FindsNext old.limit old.given held ended (Ok next.End) → (ended ≡ true → IsAtEnd b) →
    IfTold a b (NextSays old new row (Ok next.End))
end_says old new row held ended a b came finds at_end =
    told_map a b (λ x y. lines_of (old.held ++ x) ≡ []) (NextSays old new row (Ok next.End)) (end_told old.held held a b came finds.0 (at_end finds.1))
    (λ x y e. end_row old.limit (old.given + 1) old.form (lines_of (old.held ++ x)) e)

-- a line that is no row
pub bad_says : (old new : Reader) (row : Row) (line bytes : List ℕ) (ended : Bool) (a b : Option (List ℕ)) → Came old.held bytes a b → FindsNext old.limit old.given bytes ended (Ok next.Row) → (ended ≡ true → IsAtEnd b) →
    line ≡ first_line bytes → row_of old.form (line_words line) ≡ None → IfTold a b (NextSays old new row (Err fault.Bad))
bad_says old new row line bytes ended a b came finds at_end e bad =
    let rest : List ℕ = after_first is_newline bytes in
    let short : length line ≤ most_line_bytes = subst (λ (l : List ℕ). length l ≤ most_line_bytes) (sym e) finds.1 in
    told_map a b (LineOf line old.held rest) (NextSays old new row (Err fault.Bad))
    (line_told line old.held rest ended a b (takes_first line old.held rest bytes ended a b came finds.2 finds.3 e refl) at_end)
    (λ x y l. no_row old.limit (old.given + 1) old.form line fault.Bad (lines_of (old.held ++ x)) (lines_of (rest ++ y)) l
    (row_bad old.limit (old.given + 1) old.form line (let h = finds.0 in omega arith) short bad))

-- the next row is as wide as this one
pub next_width : (form : Form) (row : Row) → length row ≡ row_width form → row_width (next_form form row) ≡ row_width form
next_width (InOrder places) row e = refl
next_width (Changes names last) row e = e

-- a row
pub row_is : (old : Reader) (row : Row) (line bytes : List ℕ) (ended : Bool) → FindsNext old.limit old.given bytes ended (Ok next.Row) → line ≡ first_line bytes →
    row_of old.form (line_words line) ≡ Some row → row_at old.limit old.form (old.given + 1) line ≡ Ok row
row_is old row line bytes ended finds e good =
    row_good old.limit (old.given + 1) old.form line row (let h = finds.0 in omega arith) (subst (λ (l : List ℕ). length l ≤ most_line_bytes) (sym e) finds.1) good

pub row_takes : (old new : Reader) (row : Row) (line bytes : List ℕ) (ended : Bool) (a b : Option (List ℕ)) → Came old.held bytes a b → FindsNext old.limit old.given bytes ended (Ok next.Row) →
    line ≡ first_line bytes → new.held ≡ after_first is_newline bytes → new.ended ≡ ended →
    row_of old.form (line_words line) ≡ Some row → NextTakes old new row a b (Ok next.Row)
row_takes old new row line bytes ended a b came finds e rest same good = (
  line,
  row_is old row line bytes ended finds e good,
  takes_first line old.held new.held bytes new.ended a b came finds.2 (λ f. finds.3 (sym same ∙ f)) e rest,
)

pub row_took : (old new : Reader) (row : Row) (line bytes : List ℕ) (ended : Bool) → FindsNext old.limit old.given bytes ended (Ok next.Row) →
    line ≡ first_line bytes → new.held ≡ after_first is_newline bytes → new.ended ≡ ended →
    row_of old.form (line_words line) ≡ Some row → TakesRow old new row bytes
row_took old new row line bytes ended finds e rest same good =
    record {
      row_is = subst (λ (l : List ℕ). row_at old.limit old.form (old.given + 1) l ≡ Ok row) e (row_is old row line bytes ended finds e good);
      takes = record { rest = rest; whole = λ f. finds.3 (sym same ∙ f) };
    }

pub row_says : (old : Reader) (row : Row) (form : Form) (line bytes held : List ℕ) (ended was live : Bool) (a b : Option (List ℕ)) → Came old.held bytes a b → FindsNext old.limit old.given bytes was (Ok next.Row) →
    (was ≡ true → IsAtEnd b) → line ≡ first_line bytes → held ≡ after_first is_newline bytes → row_of old.form (line_words line) ≡ Some row → form ≡ next_form old.form row →
    IfTold a b (NextSays old (record { held = held; ended = ended; form = form; limit = old.limit; given = old.given + 1; live = live }) row (Ok next.Row))
row_says old row form line bytes held ended was live a b came finds at_end e rest good follows =
    told_map a b (LineOf line old.held held) (NextSays old (record { held = held; ended = ended; form = form; limit = old.limit; given = old.given + 1; live = live }) row (Ok next.Row))
    (line_told line old.held held was a b (takes_first line old.held held bytes was a b came finds.2 finds.3 e rest) at_end)
    (λ x y l. some_row old.limit (old.given + 1) old.form line row (lines_of (old.held ++ x)) (lines_of (held ++ y)) l (row_is old row line bytes was finds e good)
    ∙ ap (λ f. onto (Ok row) (old.given + 1) (rows_from old.limit f (old.given + 1 + 1) (lines_of (held ++ y)))) (sym follows))

-- The reads of a source that calls make.
use Rattle.std.specs.Prelude.{◌≡◌, ◌≤◌, ◌+◌, ℕ, Bool, true, false, List, [], ◌++◌, length, Option, Result, Ok, Err}
use Rattle.std.specs.List.{after_first}
use Rattle.std.specs.Io.KnownBytes.{Consumes}
use Rattle.forec_base.specs.Outside.{Rose}
use Rattle.trace_rows.specs.declared.fault.Next.{Next}
use Rattle.trace_rows.specs.declared.fault.Next.TheVariants as next
use Rattle.trace_rows.specs.declared.fault.RowFault.{RowFault}
use Rattle.trace_rows.specs.Lines.{is_newline}
use Rattle.trace_rows.specs.Reader.{Reader, HasLine, first_line}
use Rattle.trace_rows.specs.Trace.{Row, Form, header_at, most_line_bytes, row_at}

-- ---- reads, by what a source shows: what is left, how often it has failed, and whether its last call failed

-- one read: a piece came, or the source failed and nothing came
pub record IsRead {S : Type 0} (left : S → Option (List ℕ)) (faults : S → ℕ) (down : S → Bool) (old new : S) (piece : List ℕ) : Type 0 where
  pub came : Consumes (left old) (left new) piece
  pub later : faults old ≤ faults new
  pub failed : down new ≡ true → Rose (faults old) (faults new) × (piece ≡ [])

-- reads led from one source to another and gave these bytes; each was asked for where `May` holds of the bytes before it
pub data ReadsBytes {S : Type 0} (left : S → Option (List ℕ)) (faults : S → ℕ) (down : S → Bool) (May : List ℕ → Type 0) (old : S) : List ℕ → S → Type 0 where
  none : ReadsBytes left faults down May old [] old
  more : {given piece : List ℕ} {s new : S} → ReadsBytes left faults down May old given s → May given → IsRead left faults down s new piece → ReadsBytes left faults down May old (given ++ piece) new

-- no whole line is held, nor one that is too long already, and the source has not told its end
abbrev pub Lacks : List ℕ → Bool → Type 0
Lacks held ended = (HasLine held → ⊥) × (ended ≡ false) × (length held ≤ most_line_bytes)

-- bytes came after those that were held, by reads that were each asked for where a line was lacking
pub record Gathers {S : Type 0} (left : S → Option (List ℕ)) (faults : S → ℕ) (down : S → Bool) (held : List ℕ) (ended : Bool) (bytes : List ℕ) (old new : S) : Type 0 where
  pub given : List ℕ
  pub behind : bytes ≡ held ++ given
  pub reads : ReadsBytes left faults down (λ came. Lacks (held ++ came) ended) old given new

-- ---- what was taken of the bytes that were held and came

-- the first line was taken, and this is held now; the source has told its end where byte 10 isn't after the line
pub record TakesLine (bytes held : List ℕ) (ended : Bool) : Type 0 where
  pub rest : held ≡ after_first is_newline bytes
  pub whole : ended ≡ false → HasLine bytes

-- the header was taken
pub record TakesHead (inputs : List (List ℕ)) (form : Form) (bytes held : List ℕ) (ended : Bool) : Type 0 where
  pub header : header_at inputs (first_line bytes) ≡ Ok form
  pub takes : TakesLine bytes held ended

-- the next row was taken
pub record TakesRow (old new : Reader) (row : Row) (bytes : List ℕ) : Type 0 where
  pub row_is : row_at old.limit old.form (old.given + 1) (first_line bytes) ≡ Ok row
  pub takes : TakesLine bytes new.held new.ended

abbrev pub StartTook : List (List ℕ) → Result Reader RowFault → List ℕ → Type 0
StartTook inputs (Ok r) bytes = TakesHead inputs r.form bytes r.held r.ended
StartTook inputs (Err f) bytes = Unit {0}

abbrev pub NextTook : Reader → Reader → Row → Result Next RowFault → List ℕ → Type 0
NextTook old new row (Ok next.Row) bytes = TakesRow old new row bytes
NextTook old new row (Ok next.End) bytes = Unit {0}
NextTook old new row (Err f) bytes = Unit {0}

-- what a call reads and takes
abbrev pub Reading : {S : Type 0} → (S → Option (List ℕ)) → (S → ℕ) → (S → Bool) → List ℕ → Bool → S → S → (List ℕ → Type 0) → Type 0
Reading left faults down held ended old new Took = (bytes : List ℕ) × Gathers left faults down held ended bytes old new × Took bytes

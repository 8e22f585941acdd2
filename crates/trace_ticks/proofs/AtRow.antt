-- What a loop over the rows of a trace keeps.
use Rattle.std.proofs.Common.{◌≡◌, ◌≤◌, ◌+◌, ℕ, true, List, Option, length, vec_len, refl, sym, ap, ◌∙◌, arith}
use Rattle.std.specs.Io.KnownBytes.{IsAtEnd}
use Rattle.forec_kernel.specs.Shapes.{PlainShape}
use Rattle.trace_rows.specs.Reader.{Reader}
use Rattle.trace_rows.specs.Trace.{Row, row_width}
use Rattle.trace_ticks.specs.Formats.{names_in, format_after}
use Rattle.trace_ticks.specs.Sessions.{AreRowsOf, IsSessionOf}
use Rattle.trace_ticks.specs.declared.format.Format.{Format}
use Rattle.trace_ticks.specs.declared.session.Session.{Session}
use Rattle.trace_ticks.proofs.NextRows.{Gave}
use Rattle.trace_ticks.proofs.Running.{Stands_at, row_within, stands_first, stands_more}
use Rattle.trace_ticks.proofs.TickLines.{inputs_each, names_after}

-- before this row of those that a loop began with: the session has as many places and the same names as then, a further row may be asked for, and
-- no count of faults has fallen
pub record AtRow (begun now : Session) (first rows : Reader) (row : ℕ) (left : Option (List ℕ)) (read_old read_new written_old written_new : ℕ) : Type 0 where
  pub inputs : length now.image.inputs.items ≡ length begun.image.inputs.items
  pub outputs : length now.image.outputs.items ≡ length begun.image.outputs.items
  pub names : names_in now.waiting.format ≡ names_in begun.waiting.format
  pub live : rows.live ≡ true
  pub stands : Stands_at first row rows
  pub low : 1 ≤ row
  pub high : row ≤ first.limit + 1
  pub ended : rows.ended ≡ true → IsAtEnd left
  pub read : read_old ≤ read_new
  pub written : written_old ≤ written_new

-- the rows behind a header that was read for a session
pub rows_behind : {shape : PlainShape} {s : Session} {rows : Reader} → IsSessionOf shape s → (row_width rows.form ≡ length s.inputs) × (rows.limit ≡ s.limit) × (rows.given ≡ 0) × (rows.live ≡ true) → AreRowsOf s rows
rows_behind {shape} is rows = record {
  limit = rows.1;
  number = rows.2;
  each = rows.0 ∙ ap length is.inputs ∙ inputs_each shape ∙ sym is.image;
  live = rows.3;
}

-- at the start
pub at_first : {s : Session} {rows : Reader} {left : Option (List ℕ)} {read written : ℕ} → AreRowsOf s rows → (rows.ended ≡ true → IsAtEnd left) → AtRow s s rows rows 1 left read read written written
at_first {rows} are ended = record {
  inputs = refl;
  outputs = refl;
  names = refl;
  live = are.live;
  stands = stands_first rows are.number;
  low = omega arith;
  high = omega arith;
  ended = ended;
  read = omega arith;
  written = omega arith;
}

-- once a row more was given, and its tick was run and told
pub at_next : {begun now new : Session} {first old rows : Reader} {row : ℕ} {left left' : Option (List ℕ)} {read_old read read' written_old written written' : ℕ} {values : Row} {how : Format} →
    AtRow begun now first old row left read_old read written_old written → Gave old rows left left' values → vec_len new.image.inputs ≡ vec_len now.image.inputs → vec_len new.image.outputs ≡ vec_len now.image.outputs →
    how ≡ now.waiting.format → (outputs : Row) → new.waiting.format ≡ format_after how outputs → (rows.ended ≡ true → IsAtEnd left') → read ≤ read' → written ≤ written' →
    AtRow begun new first rows (row + 1) left' read_old read' written_old written'
at_next {now} {new} {first} {old} {rows} {row} {left} {left'} {values} {how} at gave inputs outputs same told after ended later more =
    let within = row_within first row old at.stands gave.within in
    record {
      inputs = sym new.image.inputs.ok.0 ∙ inputs ∙ now.image.inputs.ok.0 ∙ at.inputs;
      outputs = sym new.image.outputs.ok.0 ∙ outputs ∙ now.image.outputs.ok.0 ∙ at.outputs;
      names = ap names_in after ∙ names_after how told ∙ ap names_in same ∙ at.names;
      live = gave.live;
      stands = stands_more first row old rows left left' values at.stands gave;
      low = omega arith;
      high = omega (arith, within);
      ended = ended;
      read = omega (arith, at.read, later);
      written = omega (arith, at.written, more);
    }

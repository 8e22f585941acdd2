use Rattle.std.proofs.Common.{◌≡◌, ◌≤◌, [], ◌++◌, ℕ, List, length, take, drop, Some, Ok, refl, sym, ap, subst, ◌∙◌, arith}
use Rattle.trace_rows.specs.declared.fault.RowFault.TheVariants as fault
use Rattle.std.specs.List.{after_first}
use Rattle.trace_rows.specs.Lines.{is_newline, lines_of}
use Rattle.trace_rows.specs.Held.{held}
use Rattle.trace_rows.specs.Reader.{Takes}
use Rattle.trace_rows.specs.Steps.{NoHeader}
use Rattle.trace_rows.specs.Trace.{first_form, most_line_bytes, header_at, rows_of_lines}
use Rattle.trace_rows.proofs.Told.{told_map, end_told, LineOf, line_told, takes_first}
use Rattle.trace_rows.proofs.Heads.{header_bad, header_good, header_fault, no_header, written}
use Rattle.trace_rows.proofs.steps.take_header.Given.{Over}
use Rattle.trace_rows.proofs.steps.take_header.Goals.{After-line, In-Some}
use Rattle.trace_rows.proofs.steps.take_header.Goals as goal

-- the first line is no longer than a line may be
short : (g : Over) (c : After-line g) → length c.line.result.now ≤ most_line_bytes
short g c = let f = rw c.in-Ok-Row.field-0-is at c.in-Ok-Row.ensures.finds in subst (λ (l : List ℕ). length l ≤ most_line_bytes) (sym c.line.ensures) f.0

-- the places of the inputs, as they were written
abbrev places_of : (g : Over) → In-Some g → List ℕ
places_of g c = take c.args.places.now.len (c.read_form.new.places ++ drop (length c.read_form.new.places) c.args.places.now.items)

-- the first line is a header
good : (g : Over) (c : In-Some g) → length c.line.result.now ≤ most_line_bytes → header_at c.args.inputs.now c.line.result.now ≡ Ok (first_form c.args.inputs.now (places_of g c) c.in-Some.changes)
good g c low =
    let same : c.args.places.now.len ≡ length c.read_form.new.places = omega (arith, c.read_form.auto.places, c.deref_mut.ensures.len) in
    let is : places_of g c ≡ c.read_form.new.places = written c.read_form.new.places c.args.places.now.items c.args.places.now.len same in
    header_good c.args.inputs.now c.line.result.now (first_form c.args.inputs.now (places_of g c) c.in-Some.changes) low
    (c.in-Some.ensures.some ∙ ap (λ (ps : List ℕ). Some (first_form c.args.inputs.now ps c.in-Some.changes)) (sym is))

pub returns-in-Ok-End-clause-header : goal.returns-in-Ok-End-clause-header
returns-in-Ok-End-clause-header g c =
    let left = g.S.Source.left in
    let w : List ℕ = held c.args.lines.now in
    let f = rw c.in-Ok-End.field-0-is at c.in-Ok-End.ensures.finds in
    told_map (left c.args.source.now) (left c.find.new.source) (λ x y. lines_of (w ++ x) ≡ []) (λ x y. NoHeader c.args.inputs.now fault.Bad (lines_of (w ++ x)))
    (end_told w (held c.find.new.self) (left c.args.source.now) (left c.find.new.source) c.find.ensures.came f.0 (c.find.ensures.ended f.1))
    (λ x y e limit. ap (rows_of_lines c.args.inputs.now limit) e)

pub returns-in-Err-clause-header : goal.returns-in-Err-clause-header
returns-in-Err-clause-header g c =
    let left = g.S.Source.left in
    header_fault c.args.inputs.now c.args.places.now.items (held c.args.lines.now) (held c.find.new.self) c.args.lines.now.ended c.find.new.self.ended (left c.args.source.now) (left c.find.new.source) c.in-Err.fault c.find.ensures.came c.find.ensures.stays
    c.in-Err.ensures.finds

pub returns-in_default-clause-header : goal.returns-in_default-clause-header
returns-in_default-clause-header g c =
    let left = g.S.Source.left in
    let w : List ℕ = held c.args.lines.now in
    let bytes : List ℕ = held c.find.new.self in
    let line : List ℕ = c.line.result.now in
    let f = rw c.in-Ok-Row.field-0-is at c.in-Ok-Row.ensures.finds in
    let takes : Takes line w (after_first is_newline bytes) c.find.new.self.ended (left c.args.source.now) (left c.find.new.source) =
    takes_first line w (after_first is_newline bytes) bytes c.find.new.self.ended (left c.args.source.now) (left c.find.new.source) c.find.ensures.came f.1 f.2 c.line.ensures refl in
    told_map (left c.args.source.now) (left c.find.new.source) (LineOf line w (after_first is_newline bytes)) (λ x y. NoHeader c.args.inputs.now fault.Bad (lines_of (w ++ x)))
    (line_told line w (after_first is_newline bytes) c.find.new.self.ended (left c.args.source.now) (left c.find.new.source) takes c.find.ensures.ended)
    (λ x y e. no_header c.args.inputs.now line fault.Bad (lines_of (w ++ x)) (lines_of (after_first is_newline bytes ++ y)) e
    (header_bad c.args.inputs.now line (short g (goal.at.returns-in_default-clause-header g c).After-line) c.in_default.ensures.none))

pub returns-clause-header : goal.returns-clause-header
returns-clause-header g c =
    let at = goal.at.returns-clause-header g c in
    let f = rw c.in-Ok-Row.field-0-is at c.in-Ok-Row.ensures.finds in (
      c.line.result.now,
      good g at.In-Some (short g at.After-line),
      takes_first c.line.result.now (held c.args.lines.now) (held c.pass.new.self) (held c.find.new.self) c.pass.new.self.ended (g.S.Source.left c.args.source.now) (g.S.Source.left c.find.new.source) c.find.ensures.came f.1
          (λ e. f.2 (sym c.pass.ensures.ended ∙ e)) c.line.ensures c.pass.ensures.held,
    )

pub returns-clause-reads : goal.returns-clause-reads
returns-clause-reads g c =
    let at = goal.at.returns-clause-reads g c in
    let f = rw c.in-Ok-Row.field-0-is at c.in-Ok-Row.ensures.finds in (
      held c.find.new.self,
      c.find.ensures.reads,
      record {
        header = subst (λ (l : List ℕ). header_at c.args.inputs.now l ≡ Ok (first_form c.args.inputs.now (places_of g at.In-Some) c.in-Some.changes)) c.line.ensures (good g at.In-Some (short g at.After-line));
        takes = record { rest = c.pass.ensures.held; whole = λ e. f.2 (sym c.pass.ensures.ended ∙ e) };
      },
    )

use Rattle.std.proofs.Common.{◌≡◌, ◌+◌, ℕ, List, length, Ok, Err, true, false, refl, sym, ap, subst, ◌∙◌}
use Rattle.trace_rows.specs.declared.fault.Next.TheVariants as next
use Rattle.trace_rows.specs.declared.fault.RowFault.TheVariants as fault
use Rattle.trace_rows.specs.Calls.{IfTold}
use Rattle.trace_rows.specs.Held.{held}
use Rattle.trace_rows.specs.Reader.{Reader, NextLeaves, NextSays, NextTakes}
use Rattle.trace_rows.specs.RowForms.{shown_form}
use Rattle.trace_rows.specs.SourceReads.{Reading, TakesRow}
use Rattle.trace_rows.specs.Shown.{reader_of}
use Rattle.trace_rows.specs.Steps.{FindsNext}
use Rattle.trace_rows.specs.Trace.{next_form, row_width}
use Rattle.trace_rows.proofs.Following.{next_width, err_says, end_says, bad_says, row_takes, row_took, row_says}
use Rattle.trace_rows.proofs.rows.Rows.next.Goals as goal

pub returns-in-Err-clause-trace : goal.returns-in-Err-clause-trace
returns-in-Err-clause-trace g c =
    let left = g.S.Source.left in
    let a = c.self.inside in
    let old : Reader = reader_of a in
    let new : Reader = reader_of (record { lines = c.find_next.new.lines; form = a.form; limit = a.limit; given = a.given; live = false }) in
    subst (λ (r : Reader). IfTold (left c.args.source.now) (left c.find_next.new.source) (NextSays r new c.args.row.now (Err c.in-Err.fault))) c.self.view_is
    (err_says old new c.args.row.now (held c.find_next.new.lines) c.find_next.new.lines.ended c.in-Err.fault (left c.args.source.now) (left c.find_next.new.source) c.find_next.ensures.came c.in-Err.ensures.finds)

pub returns-in-Ok-End-clause-trace : goal.returns-in-Ok-End-clause-trace
returns-in-Ok-End-clause-trace g c =
    let left = g.S.Source.left in
    let a = c.self.inside in
    let old : Reader = reader_of a in
    let new : Reader = reader_of (record { lines = c.find_next.new.lines; form = a.form; limit = a.limit; given = a.given; live = false }) in
    subst (λ (r : Reader). IfTold (left c.args.source.now) (left c.find_next.new.source) (NextSays r new c.args.row.now (Ok next.End))) c.self.view_is
    (end_says old new c.args.row.now (held c.find_next.new.lines) c.find_next.new.lines.ended (left c.args.source.now) (left c.find_next.new.source) c.find_next.ensures.came
    (rw c.in-Ok-End.field-0-is at c.in-Ok-End.ensures.finds) c.find_next.ensures.ended)

pub returns-then-not-read-clause-trace : goal.returns-then-not-read-clause-trace
returns-then-not-read-clause-trace g c =
    let left = g.S.Source.left in
    let a = c.self.inside in
    let old : Reader = reader_of a in
    let finds : FindsNext old.limit old.given (held c.find_next.new.lines) c.find_next.new.lines.ended (Ok next.Row) = rw c.in-Ok-Row.field-0-is at c.in-Ok-Row.ensures.finds in
    let new : Reader = record { held = held c.find_next.new.lines; ended = c.find_next.new.lines.ended; form = shown_form c.read.new.self; limit = old.limit; given = old.given; live = false } in
    subst (λ (r : Reader). IfTold (left c.args.source.now) (left c.find_next.new.source) (NextSays r new c.read.new.row (Err fault.Bad))) c.self.view_is
    (bad_says old new c.read.new.row c.line.result.now (held c.find_next.new.lines) c.find_next.new.lines.ended (left c.args.source.now) (left c.find_next.new.source) c.find_next.ensures.came finds c.find_next.ensures.ended
    c.line.ensures (c.if-not-read.ensures.no refl))

pub returns-clause-trace : goal.returns-clause-trace
returns-clause-trace g c =
    let left = g.S.Source.left in
    let a = c.self.inside in
    let old : Reader = reader_of a in
    let finds : FindsNext old.limit old.given (held c.find_next.new.lines) c.find_next.new.lines.ended (Ok next.Row) = rw c.in-Ok-Row.field-0-is at c.in-Ok-Row.ensures.finds in
    let new : Reader = record { held = held c.pass.new.self; ended = c.pass.new.self.ended; form = shown_form c.read.new.self; limit = old.limit; given = old.given + 1; live = true } in
    subst (λ (r : Reader). IfTold (left c.args.source.now) (left c.find_next.new.source) (NextSays r new c.read.new.row (Ok next.Row))) c.self.view_is
    (row_says old c.read.new.row (shown_form c.read.new.self) c.line.result.now (held c.find_next.new.lines) (held c.pass.new.self) c.pass.new.self.ended c.find_next.new.lines.ended true (left c.args.source.now)
    (left c.find_next.new.source) c.find_next.ensures.came finds c.find_next.ensures.ended c.line.ensures c.pass.ensures.held (c.if-not-read.ensures.yes refl) (c.if-not-read.ensures.next refl))

pub returns-clause-bytes : goal.returns-clause-bytes
returns-clause-bytes g c =
    let left = g.S.Source.left in
    let a = c.self.inside in
    let old : Reader = reader_of a in
    let finds : FindsNext old.limit old.given (held c.find_next.new.lines) c.find_next.new.lines.ended (Ok next.Row) = rw c.in-Ok-Row.field-0-is at c.in-Ok-Row.ensures.finds in
    let new : Reader = record { held = held c.pass.new.self; ended = c.pass.new.self.ended; form = shown_form c.read.new.self; limit = old.limit; given = old.given + 1; live = true } in
    subst (λ (r : Reader). NextTakes r new c.read.new.row (left c.args.source.now) (left c.find_next.new.source) (Ok next.Row)) c.self.view_is
    (row_takes old new c.read.new.row c.line.result.now (held c.find_next.new.lines) c.find_next.new.lines.ended (left c.args.source.now) (left c.find_next.new.source)
    c.find_next.ensures.came finds c.line.ensures c.pass.ensures.held c.pass.ensures.ended (c.if-not-read.ensures.yes refl))

pub returns-in-Err-clause-reads : goal.returns-in-Err-clause-reads
returns-in-Err-clause-reads g c =
    subst (λ (r : Reader). Reading g.S.Source.left g.S.Source.faults g.S.Source.down r.held r.ended c.args.source.now c.find_next.new.source (λ bytes. Unit {0})) c.self.view_is
    (held c.find_next.new.lines, c.find_next.ensures.reads, tt)

pub returns-in-Ok-End-clause-reads : goal.returns-in-Ok-End-clause-reads
returns-in-Ok-End-clause-reads g c =
    subst (λ (r : Reader). Reading g.S.Source.left g.S.Source.faults g.S.Source.down r.held r.ended c.args.source.now c.find_next.new.source (λ bytes. Unit {0})) c.self.view_is
    (held c.find_next.new.lines, c.find_next.ensures.reads, tt)

pub returns-then-not-read-clause-reads : goal.returns-then-not-read-clause-reads
returns-then-not-read-clause-reads g c =
    subst (λ (r : Reader). Reading g.S.Source.left g.S.Source.faults g.S.Source.down r.held r.ended c.args.source.now c.find_next.new.source (λ bytes. Unit {0})) c.self.view_is
    (held c.find_next.new.lines, c.find_next.ensures.reads, tt)

pub returns-clause-reads : goal.returns-clause-reads
returns-clause-reads g c =
    let a = c.self.inside in
    let old : Reader = reader_of a in
    let bytes : List ℕ = held c.find_next.new.lines in
    let finds : FindsNext old.limit old.given bytes c.find_next.new.lines.ended (Ok next.Row) = rw c.in-Ok-Row.field-0-is at c.in-Ok-Row.ensures.finds in
    let new : Reader = record { held = held c.pass.new.self; ended = c.pass.new.self.ended; form = shown_form c.read.new.self; limit = old.limit; given = old.given + 1; live = true } in
    subst (λ (r : Reader). Reading g.S.Source.left g.S.Source.faults g.S.Source.down r.held r.ended c.args.source.now c.find_next.new.source (TakesRow r new c.read.new.row)) c.self.view_is
    (bytes, c.find_next.ensures.reads, row_took old new c.read.new.row c.line.result.now bytes c.find_next.new.lines.ended finds c.line.ensures c.pass.ensures.held c.pass.ensures.ended (c.if-not-read.ensures.yes refl))

pub returns-clause-goes : goal.returns-clause-goes
returns-clause-goes g c =
    let a = c.self.inside in
    let old : Reader = reader_of a in
    let finds : FindsNext old.limit old.given (held c.find_next.new.lines) c.find_next.new.lines.ended (Ok next.Row) = rw c.in-Ok-Row.field-0-is at c.in-Ok-Row.ensures.finds in
    let new : Reader = record { held = held c.pass.new.self; ended = c.pass.new.self.ended; form = shown_form c.read.new.self; limit = old.limit; given = old.given + 1; live = true } in
    let follows : new.form ≡ next_form old.form c.read.new.row = c.if-not-read.ensures.next refl in
    let wide : length c.read.new.row ≡ row_width old.form = c.read.auto.row ∙ (c.requires.width ∙ ap (λ (r : Reader). row_width r.form) (sym c.self.view_is)) in
    subst (λ (r : Reader). NextLeaves r new c.args.row.now c.read.new.row (Ok next.Row)) c.self.view_is
    (finds.0, refl, refl, follows, ap row_width follows ∙ next_width old.form c.read.new.row wide)

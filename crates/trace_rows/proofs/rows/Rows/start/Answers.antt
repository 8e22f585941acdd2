use Rattle.std.proofs.Common.{◌≡◌, ◌<◌, ℕ, List, [], length, pos, replicate, Ok, true, false, refl, sym, ap, subst, ◌∙◌, arith}
use Rattle.std.specs.List.{All}
use Rattle.trace_rows.specs.Held.{held}
use Rattle.trace_rows.proofs.Gathering.{gathers_none}
use Rattle.trace_rows.specs.RowForms.{form_with}
use Rattle.trace_rows.specs.Trace.{Form, first_form}
use Rattle.trace_rows.proofs.Starting.{took_none, err_says, ok_says, form_shown, header_within}
use Rattle.trace_rows.proofs.rows.Rows.start.Goals as goal

pub returns-in-Err-clause-trace : goal.returns-in-Err-clause-trace
returns-in-Err-clause-trace g c =
    let left = g.S.Source.left in
    err_says c.args.inputs.now c.args.limit c.take_header.new.places.items (held c.in_ok-lines.lines) (held c.take_header.new.lines) c.in_ok-lines.lines.ended c.take_header.new.lines.ended c.in-Err.fault
    (left c.args.source.now) (left c.take_header.new.source) c.in_ok-lines.ensures.held c.in-Err.ensures.header

pub returns-clause-trace : goal.returns-clause-trace
returns-clause-trace g c =
    let left = g.S.Source.left in
    let h = c.in-Ok.ensures.header in
    let places : List ℕ = c.take_header.new.places.items in
    let form : Form = form_with c.in_ok-names.names.texts places c.in_ok-values.values.items c.in-Ok.changes in
    let shown : first_form c.args.inputs.now places c.in-Ok.changes ≡ form =
    form_shown c.args.inputs.now c.in_ok-names.names.texts places c.in_ok-values.values.items c.in-Ok.changes c.in_ok-names.ensures
    (c.in_ok-values.ensures.items_if_clones_equal (λ y h. h) ∙ ap (λ n. replicate n (pos 0)) c.len-2.ensures) in
    ok_says c.args.inputs.now c.args.limit h.0 (held c.in_ok-lines.lines)
    (record { held = held c.take_header.new.lines; ended = c.take_header.new.lines.ended; form = form; limit = c.args.limit; given = 0; live = true })
    (left c.args.source.now) (left c.take_header.new.source) c.in_ok-lines.ensures.held (h.1 ∙ ap Ok shown) h.2 c.take_header.ensures.ended refl refl

pub invariant_of-form : goal.invariant_of-form
invariant_of-form g c =
    let inputs : List (List ℕ) = c.args.inputs.now in
    let places : List ℕ = c.take_header.new.places.items in
    let texts : length c.in_ok-names.names.texts ≡ length inputs = ap (λ (ts : List (List ℕ)). length ts) c.in_ok-names.ensures in
    let values : length c.in_ok-values.values.items ≡ length inputs = omega (arith, c.in_ok-values.ensures.len, c.in_ok-values.values.ok.0, c.len-2.ensures) in
    let named : length c.in_ok-named.named.items ≡ length inputs = omega (arith, c.in_ok-named.ensures.len, c.in_ok-named.named.ok.0, c.len-3.ensures) in
    let columns : length places ≡ length inputs = omega (arith, c.take_header.ensures.places, c.in_ok-places.ensures.len, c.in_ok-places.places.ok.0, c.len.ensures) in
    let h = c.in-Ok.ensures.header in
    record {
      each = values ∙ sym texts;
      flags = named ∙ sym texts;
      columns = columns ∙ sym texts;
      inside = λ e. subst (λ (n : ℕ). All (λ place. place < n) places) (columns ∙ sym values) (header_within inputs h.0 places c.in-Ok.changes h.1 e);
    }

pub returns-in_err-lines-clause-reads : goal.returns-in_err-lines-clause-reads
returns-in_err-lines-clause-reads g c =
    ([], gathers_none g.S.Source.left g.S.Source.faults g.S.Source.down [] false c.args.source.now, took_none c.args.inputs.now c.from_residual.result [] c.from_residual.ensures.0)

pub returns-in_err-places-clause-reads : goal.returns-in_err-places-clause-reads
returns-in_err-places-clause-reads g c =
    ([], gathers_none g.S.Source.left g.S.Source.faults g.S.Source.down [] false c.args.source.now, took_none c.args.inputs.now c.from_residual-in_err-places.result [] c.from_residual-in_err-places.ensures.0)

pub returns-in_err-values-clause-reads : goal.returns-in_err-values-clause-reads
returns-in_err-values-clause-reads g c =
    ([], gathers_none g.S.Source.left g.S.Source.faults g.S.Source.down [] false c.args.source.now, took_none c.args.inputs.now c.from_residual-in_err-values.result [] c.from_residual-in_err-values.ensures.0)

pub returns-in_err-named-clause-reads : goal.returns-in_err-named-clause-reads
returns-in_err-named-clause-reads g c =
    ([], gathers_none g.S.Source.left g.S.Source.faults g.S.Source.down [] false c.args.source.now, took_none c.args.inputs.now c.from_residual-in_err-named.result [] c.from_residual-in_err-named.ensures.0)

pub returns-in_err-names-clause-reads : goal.returns-in_err-names-clause-reads
returns-in_err-names-clause-reads g c =
    ([], gathers_none g.S.Source.left g.S.Source.faults g.S.Source.down [] false c.args.source.now, took_none c.args.inputs.now c.from_residual-in_err-names.result [] c.from_residual-in_err-names.ensures.0)

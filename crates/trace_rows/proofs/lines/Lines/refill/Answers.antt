use Rattle.std.proofs.Common.{◌≡◌, ◌+◌, ◌≤◌, ◌++◌, ℕ, List, [], length, sym, ap, subst, ◌∙◌, arith, append-nil, eqb-true}
use Rattle.std.specs.List.{slice_range, position_or_len}
use Rattle.trace_rows.specs.Lines.{is_newline}
use Rattle.trace_rows.specs.Held.{held}
use Rattle.trace_rows.specs.Reader.{HasLine}
use Rattle.trace_rows.proofs.Ranges.{range_front, length-range}
use Rattle.trace_rows.proofs.Gathering.{read_failed, read_gave}
use Rattle.trace_rows.proofs.Refilling.{held_more, stop_more}
use Rattle.trace_rows.proofs.lines.Lines.refill.Goals as goal

pub invariant_of-self : goal.invariant_of-self
invariant_of-self g c =
    let l = c.make_room.new.self in
    record {
      ordered = omega (arith, l.ordered);
      within = omega (arith, l.within);
      fits = omega (arith, l.fits, c.fill.ensures.same);
      room = c.fill.ensures.same ∙ l.room;
      first = l.first ∙ ap (λ (w : List ℕ). l.at + position_or_len is_newline w) (sym (range_front l.bytes.items c.fill.new.bytes.items l.at l.end c.fill.ensures.front));
    }

pub returns-in-Err-clause-read : goal.returns-in-Err-clause-read
returns-in-Err-clause-read g c =
    let l = c.make_room.new.self in
    let same : slice_range c.fill.new.bytes.items l.at l.end ≡ held c.args.self.now = range_front l.bytes.items c.fill.new.bytes.items l.at l.end c.fill.ensures.front ∙ c.make_room.ensures.held in
    ([], same ∙ sym (append-nil (held c.args.self.now)), read_failed g.S.Source.left g.S.Source.faults g.S.Source.down c.args.source.now c.fill.new.source c.in-Err.failed c.in-Err.ensures.bytes c.in-Err.ensures.cause)

pub returns-in-Err-clause-err : goal.returns-in-Err-clause-err
returns-in-Err-clause-err g c =
    let l = c.make_room.new.self in
    (range_front l.bytes.items c.fill.new.bytes.items l.at l.end c.fill.ensures.front ∙ c.make_room.ensures.held, c.make_room.ensures.ended ∙ c.requires.going)

pub invariant_of-self-2 : goal.invariant_of-self-2
invariant_of-self-2 g c =
    let l = c.make_room.new.self in
    let C : List ℕ = c.fill.new.bytes.items in
    let count = c.in-Ok.count in
    let within : l.end + count ≤ length C = omega (arith, c.in-Ok.ensures.within, c.fill.ensures.same) in
    let piece : c.line_end.result ≡ position_or_len is_newline (slice_range C l.end (l.end + count)) =
    c.line_end.ensures.end ∙ ap (λ (B : List ℕ). position_or_len is_newline (slice_range B l.end (l.end + count))) c.deref.ensures.value in
    let short : c.line_end.result ≤ count =
    (let long : l.end + count ≤ length c.deref.result.now = subst (λ (B : List ℕ). l.end + count ≤ length B) (sym c.deref.ensures.value) within in
    omega (arith, c.line_end.ensures.within, length-range c.deref.result.now l.end (l.end + count) long)) in
    let none : HasLine (held l) → ⊥ = subst (λ (w : List ℕ). HasLine w → ⊥) (sym c.make_room.ensures.held) c.requires.none in
    record {
      ordered = omega (arith, l.ordered, l.within);
      within = omega (arith, short);
      fits = within;
      room = c.fill.ensures.same ∙ l.room;
      first = ap (λ n. l.end + n) piece ∙ stop_more l.bytes.items C l.at l.end count (omega (arith, l.ordered, l.within)) l.fits within c.fill.ensures.front none;
    }

pub returns-clause-read : goal.returns-clause-read
returns-clause-read g c =
    let l = c.make_room.new.self in
    let C : List ℕ = c.fill.new.bytes.items in
    let count = c.in-Ok.count in
    let piece : List ℕ = slice_range C l.end (l.end + count) in
    let within : l.end + count ≤ length C = omega (arith, c.in-Ok.ensures.within, c.fill.ensures.same) in (
      piece,
      held_more l.bytes.items C l.at l.end count (omega (arith, l.ordered, l.within)) within c.fill.ensures.front ∙ ap (λ w. w ++ piece) c.make_room.ensures.held,
      read_gave g.S.Source.left g.S.Source.faults g.S.Source.down c.args.source.now c.fill.new.source count piece c.in-Ok.ensures.bytes.0 c.in-Ok.ensures.cause,
    )

pub returns-clause-ended : goal.returns-clause-ended
returns-clause-ended g c = λ e.
    let l = c.make_room.new.self in
    let C : List ℕ = c.fill.new.bytes.items in
    let zero : c.in-Ok.count ≡ 0 = eqb-true c.in-Ok.count 0 e in (
      c.in-Ok.ensures.bytes.1 zero,
      ap (λ n. slice_range C l.at n) (let e : l.end + c.in-Ok.count ≡ l.end = omega arith in e) ∙ range_front l.bytes.items C l.at l.end c.fill.ensures.front ∙ c.make_room.ensures.held,
    )

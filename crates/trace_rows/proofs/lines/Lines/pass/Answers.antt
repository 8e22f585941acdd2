use Rattle.std.proofs.Common.{◌≡◌, ◌+◌, ◌-◌, ◌≤◌, ℕ, min, List, length, sym, ap, subst, ◌∙◌, arith}
use Rattle.std.specs.List.{slice_range, position_or_len}
use Rattle.trace_rows.specs.Lines.{is_newline}
use Rattle.trace_rows.specs.Held.{held}
use Rattle.trace_rows.proofs.Ranges.{drop-range_min, length-range}
use Rattle.trace_rows.proofs.lines.Lines.pass.Goals as goal

pub overflow_add-self-2 : goal.overflow_add-self-2
overflow_add-self-2 c =
    let l = c.args.self.now in
    let fits : l.end ≤ length c.deref.result.now = subst (λ (B : List ℕ). l.end ≤ length B) (sym c.deref.ensures.value) l.fits in
    let short : c.line_end.result ≤ l.end - c.min-self.result = omega (arith, c.line_end.ensures.within, length-range c.deref.result.now c.min-self.result l.end fits) in
    omega (arith, short, l.fits, l.room)

pub invariant_of-self : goal.invariant_of-self
invariant_of-self c =
    let l = c.args.self.now in
    let fits : l.end ≤ length c.deref.result.now = subst (λ (B : List ℕ). l.end ≤ length B) (sym c.deref.ensures.value) l.fits in
    let short : c.line_end.result ≤ l.end - c.min-self.result = omega (arith, c.line_end.ensures.within, length-range c.deref.result.now c.min-self.result l.end fits) in
    record {
      ordered = omega arith;
      within = omega (arith, short, c.min-self.ensures);
      fits = l.fits;
      room = l.room;
      first = ap (λ n. c.min-self.result + n) (c.line_end.ensures.end ∙ ap (λ (B : List ℕ). position_or_len is_newline (slice_range B c.min-self.result l.end)) c.deref.ensures.value);
    }

pub returns-clause-held : goal.returns-clause-held
returns-clause-held c =
    let l = c.args.self.now in
    let n : ℕ = position_or_len is_newline (held l) in
    let m : c.min-self.result ≡ min (l.at + (n + 1)) l.end = omega (arith, c.min-self.ensures, l.first) in
    ap (λ a. slice_range l.bytes.items a l.end) m ∙ sym (drop-range_min l.bytes.items l.at l.end (n + 1) (omega (arith, l.ordered, l.within)) l.fits)

use Rattle.std.proofs.Common.{◌≤◌, length, arith}
use Rattle.trace_rows.specs.Held.{held}
use Rattle.trace_rows.specs.Reader.{HasLine}
use Rattle.trace_rows.specs.Trace.{most_line_bytes}
use Rattle.trace_rows.proofs.Gathering.{gathers_none, gathers_more}
use Rattle.trace_rows.proofs.Ranges.{length-range}
use Rattle.trace_rows.proofs.lines.Lines.begins.Goals as goal

pub returns-then-self-clause-reads : goal.returns-then-self-clause-reads
returns-then-self-clause-reads g c = gathers_none g.S.Source.left g.S.Source.faults g.S.Source.down (held c.args.self.now) c.args.self.now.ended c.args.source.now

pub returns-then-self-2-clause-reads : goal.returns-then-self-2-clause-reads
returns-then-self-2-clause-reads g c = gathers_none g.S.Source.left g.S.Source.faults g.S.Source.down (held c.args.self.now) c.args.self.now.ended c.args.source.now

pub returns-in-Ok-clause-reads : goal.returns-in-Ok-clause-reads
returns-in-Ok-clause-reads g c =
    let l = c.args.self.now in
    let short : length (held l) ≤ most_line_bytes = omega (arith, c.if-self.false, length-range l.bytes.items l.at l.end l.fits) in
    let none : HasLine (held l) → ⊥ = λ h. omega (arith, h, length-range l.bytes.items l.at l.end l.fits) in
    gathers_more g.S.Source.left g.S.Source.faults g.S.Source.down (held l) (held l) (held c.refill.new.self) l.ended c.args.source.now c.args.source.now c.refill.new.source
    (gathers_none g.S.Source.left g.S.Source.faults g.S.Source.down (held l) l.ended c.args.source.now) none c.if-self-2.false short c.refill.ensures.read

pub returns-in-Err-clause-reads : goal.returns-in-Err-clause-reads
returns-in-Err-clause-reads g c =
    let l = c.args.self.now in
    let short : length (held l) ≤ most_line_bytes = omega (arith, c.if-self.false, length-range l.bytes.items l.at l.end l.fits) in
    let none : HasLine (held l) → ⊥ = λ h. omega (arith, h, length-range l.bytes.items l.at l.end l.fits) in
    gathers_more g.S.Source.left g.S.Source.faults g.S.Source.down (held l) (held l) (held c.refill.new.self) l.ended c.args.source.now c.args.source.now c.refill.new.source
    (gathers_none g.S.Source.left g.S.Source.faults g.S.Source.down (held l) l.ended c.args.source.now) none c.if-self-2.false short c.refill.ensures.read

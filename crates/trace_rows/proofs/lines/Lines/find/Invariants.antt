use Rattle.std.proofs.Common.{◌≡◌, ◌+◌, ◌-◌, ◌*◌, ◌≤◌, true, false, cond, length}
use Rattle.std.specs.Io.KnownBytes.{IsAtEnd}
use Rattle.forec_base.specs.declared.limits.TheConstants.{MAX_LINE_BYTES}
use Rattle.trace_rows.specs.Held.{held}
use Rattle.trace_rows.specs.Reader.{HasLine, Came}
use Rattle.trace_rows.specs.SourceReads.{Gathers}
use Rattle.trace_rows.proofs.lines.Lines.find.Given as goal

abbrev pub invariant-pieces : goal.invariant-pieces
invariant-pieces g l =
    let left = g.S.Source.left in
    record {
      reads : Gathers left g.S.Source.faults g.S.Source.down (held l.fn.self) l.fn.self.ended (held l.self) l.fn.source l.source;
      came : Came (held l.fn.self) (held l.self) (left l.fn.source) (left l.source);
      ended : l.self.ended ≡ true → IsAtEnd (left l.source);
      stays : l.self.ended ≡ false → l.fn.self.ended ≡ false;
      asks : HasLine (held l.fn.self) → l.source ≡ l.fn.source;
      closed : l.fn.self.ended ≡ true → l.source ≡ l.fn.source;
      faults : g.S.Source.faults l.fn.source ≤ g.S.Source.faults l.source;
    }

-- a piece adds bytes to what is held, or it was the last
abbrev pub decreases-pieces : goal.decreases-pieces
decreases-pieces g l = 2 * (MAX_LINE_BYTES + 1 - length (held l.self)) + cond l.self.ended 0 1

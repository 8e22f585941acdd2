use Rattle.std.proofs.Common.{◌≡◌, ◌+◌, ◌-◌}
use Rattle.forec_kernel.specs.Shapes.{PlainKernel}
use Rattle.trace_ticks.specs.Ticking.{Starts}
use Rattle.trace_ticks.proofs.Asking.{Going}
use Rattle.trace_ticks.proofs.AtRow.{AtRow}
use Rattle.trace_ticks.proofs.Running.{run_of}
use Rattle.trace_ticks.proofs.ticks.run_rows.Given as goal

abbrev pub invariant-ticks : goal.invariant-ticks
invariant-ticks g l =
    let left = g.S.Source.left in
    let held = g.K.Sink.held in
    let shape = g.T.Ticker.shape l.fn.ticker in
    record {
      going : (k : PlainKernel) → Starts shape (g.T.Ticker.follows l.fn.ticker) k → Going left g.S.Source.faults g.S.Source.down (λ turns. Unit {0}) (run_of l.fn.session l.fn.rows k)
          (g.T.Ticker.follows l.ticker k) l.rows (held l.fn.out) (held l.out) l.session.waiting.bytes.items l.session.waiting.format l.row l.fn.trace l.trace;
      shape : g.T.Ticker.shape l.ticker ≡ shape;
      ready : g.T.Ticker.ready l.ticker ≡ g.T.Ticker.ready l.fn.ticker;
      live : g.T.Ticker.live l.ticker;
      kept : AtRow l.fn.session l.session l.fn.rows l.rows l.row (left l.trace) (g.S.Source.faults l.fn.trace) (g.S.Source.faults l.trace) (g.K.Sink.faults l.fn.out) (g.K.Sink.faults l.out);
    }

abbrev pub decreases-ticks : goal.decreases-ticks
decreases-ticks g l = l.fn.rows.limit + 2 - l.row

use Rattle.std.proofs.Common.{◌≡◌, true, length}
use Rattle.forec_kernel.specs.Shapes.{PlainKernel}
use Rattle.trace_ticks.specs.Ticking.{Starts}
use Rattle.trace_ticks.specs.Workload.{zero_row}
use Rattle.trace_ticks.proofs.TickingLemmas.{Gone}
use Rattle.trace_ticks.proofs.generated.run_workload.Given as goal

abbrev pub invariant-loop-tick : goal.invariant-loop-tick
invariant-loop-tick g l =
    let first = g.T.Ticker.shape l.fn.ticker in
    record {
      gone : (k : PlainKernel) → Starts first (g.T.Ticker.follows l.fn.ticker) k → Gone k l.budget (g.T.Ticker.follows l.ticker k) l.tick l.sum;
      shape : g.T.Ticker.shape l.ticker ≡ first;
      live : g.T.Ticker.live l.ticker;
      ready : g.T.Ticker.ready l.ticker ≡ true;
      waits : l.waiting ≡ l.fn.waiting;
      row : l.image.inputs.items ≡ zero_row first;
      outputs : length l.image.outputs.items ≡ length first.outputs;
    }

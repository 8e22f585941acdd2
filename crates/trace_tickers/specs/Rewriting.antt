-- What a rewriter does next.
use Rattle.std.specs.Prelude.{ℕ}
use Rattle.forec_kernel.specs.Shapes.{plain_kernel}
use Rattle.forec_kernel.specs.Ticks.{Tick, tick}
use Rattle.kernel_meaning.specs.States.{plain_state}
use Rattle.trace_rows.specs.Trace.{Row}
use Rattle.trace_tickers.specs.declared.rewriter.Rewriter.{Rewriter}

-- the tick of its kernel from where it stands
abbrev pub rewritten : Rewriter → ℕ → Row → Tick
rewritten r budget row = tick (plain_kernel r.kernel.now) budget (plain_state r.state.value) row

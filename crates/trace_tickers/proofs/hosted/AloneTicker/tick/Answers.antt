use Rattle.core_host.specs.Runs.{ticking}
use Rattle.trace_ticks.proofs.Following.{code_ticks}
use Rattle.trace_tickers.proofs.hosted.AloneTicker.tick.Goals as goal

pub returns-clause-tick : goal.returns-clause-tick
returns-clause-tick g c = code_ticks _ _ c.args.row.now c.args.budget _ c.args.outputs.now _ c.alone.ensures.runs

use Rattle.std.proofs.Common.{ap}
use Rattle.forec_kernel.specs.Shapes.{plain_kernel}
use Rattle.kernel_meaning.specs.States.{plain_state}
use Rattle.trace_tickers.proofs.Fine.{ok_all}
use Rattle.trace_ticks.proofs.Following.{rewritten_once}
use Rattle.trace_tickers.proofs.rewriter.RewriterTicker.tick.Goals as goal

pub returns-clause-tick : goal.returns-clause-tick
returns-clause-tick g c =
    let e = c.rewrite.ensures in
    ok_all c.rewrite.result _ _ _ _ (λ o how outputs state.
    rewritten_once (plain_kernel c.args.self.now.kernel.now) (plain_kernel c.rewrite.new.self.kernel.now) (ap plain_kernel e.kernel) (plain_state c.args.self.now.state.value) (plain_state c.rewrite.new.self.state.value)
    (record { row = c.args.row.now; budget = c.args.budget }) c.rewrite.new.outputs o how outputs state) e.outcome e.outputs e.state

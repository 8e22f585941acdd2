use Rattle.std.proofs.Common.{◌≡◌, subst}
use Rattle.forec_kernel.specs.Shapes.{plain_kernel}
use Rattle.forec_kernel.specs.Ticks.{tick}
use Rattle.kernel_meaning.specs.States.{plain_state}
use Rattle.kernel_meaning.specs.declared.ticks.State.{State}
use Rattle.trace_tickers.proofs.rewriter.Rewriter.rewrite.Goals as goal

pub returns-clause-outcome : goal.returns-clause-outcome
returns-clause-outcome c =
    let k = plain_kernel c.args.self.now.kernel.now in
    subst (λ (s : State). c.in_ok-outcome.outcome ≡ (tick k c.args.budget (plain_state s) c.args.row.now).outcome) c.deref.ensures c.in_ok-outcome.ensures.outcome

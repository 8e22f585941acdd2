use Rattle.std.proofs.Common.{◌∙◌, ap}
use Rattle.forec_kernel.specs.Shapes.{plain_kernel}
use Rattle.tick_bounds.specs.Capped.{at_table, as_budget}
use Rattle.tick_bounds.proofs.Visiting.{capped_worst}
use Rattle.tick_bounds.proofs.tick.tick_bound.Goals as goal

pub returns : goal.returns
returns c =
    c.as_budget.ensures
    ∙ ap as_budget (c.thread_bound.ensures ∙ ap (λ l. at_table l 0) c.as_slice-2.ensures.value ∙ c.in_ok-threads.ensures 0)
    ∙ capped_worst (plain_kernel c.args.kernel.now)

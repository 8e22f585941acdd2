use Rattle.std.proofs.Common.{◌≡◌}
use Rattle.forec_engine.specs.Budgets.{boundless}
use Rattle.trace_ticks.specs.declared.status.Status.TheVariants as status
use Rattle.trace_ticks.proofs.Printing.{prints_as}
use Rattle.forec_engine.proofs.answering.say_boundless.Goals as goal

pub returns : goal.returns
returns g c =
    prints_as g.K.Sink.held g.K.Sink.faults g.K.Sink.down Unit (λ q. q ≡ boundless) (status.Usage ≡ status.Usage) ⊥ ⊥ c.args.out.now c.say.new.out Unit (λ q. q ≡ boundless) Unit ⊥ ⊥ c.say.result (λ t. t)
    (λ t r is. is) (λ m. tt) (λ n. n) (λ n. n) c.say.ensures

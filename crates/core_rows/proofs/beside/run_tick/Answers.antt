use Rattle.std.proofs.Common.{ap, ◌∙◌}
use Rattle.core_seats.specs.Loads.{is_on}
use Rattle.core_rows.proofs.beside.run_tick.Goals as goal

pub returns-clause-here : goal.returns-clause-here
returns-clause-here g c = ap (λ l. is_on l c.tick-outcome.new.self.cores 0) c.tick-outcome.ensures.same.places ∙ ap (λ l. is_on c.args.root.now.places l 0) c.tick-outcome.ensures.same.cores ∙ c.requires.here

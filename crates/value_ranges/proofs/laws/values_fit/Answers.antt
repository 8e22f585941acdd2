use Rattle.value_ranges.proofs.Ticks.{ticks_fit, values_fit}
use Rattle.value_ranges.proofs.laws.values_fit.Goals as goal

pub returns : goal.returns
returns c = record { ticks = ticks_fit; runs = values_fit }

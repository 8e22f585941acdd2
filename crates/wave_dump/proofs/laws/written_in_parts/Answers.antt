use Rattle.wave_dump.specs.Wave.{no_values}
use Rattle.wave_dump.proofs.TickLemmas.{olds_push}
use Rattle.wave_dump.proofs.WritingLemmas.{tick_behind}
use Rattle.wave_dump.proofs.laws.written_in_parts.Goals as goal

pub returns-clause-tick : goal.returns-clause-tick
returns-clause-tick c = λ names ticks values. tick_behind names ticks values

pub returns-clause-olds : goal.returns-clause-olds
returns-clause-olds c = λ names ticks values. olds_push (no_values names) ticks values

use Rattle.core_bells.proofs.HintLemmas.{starts, pushes, pops, forks, merges, learns}
use Rattle.core_bells.proofs.laws.every_step_is_ruled.Goals as goal

pub returns : goal.returns
returns c = record { start = starts; push = pushes; pop = pops; split = forks; join = merges; between = learns }

use Rattle.loop_check.specs.Views.{indexed_text}
use Rattle.lower_names.specs.Landings.{AllLand}
use Rattle.lower_names.proofs.landing.landings.Given as goal

abbrev pub invariant-loop-f : goal.invariant-loop-f
invariant-loop-f l = AllLand (indexed_text l.index) l.table.items

use Rattle.combine_tree.proofs.Combines.{is_combining, first_value_stays}
use Rattle.combine_tree.proofs.laws.joins_combine_as_defined.Goals as goal

pub returns : goal.returns
returns c = record { combined = is_combining; first = first_value_stays }

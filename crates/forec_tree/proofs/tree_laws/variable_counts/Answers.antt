use Rattle.forec_tree.proofs.tree_laws.variable_counts.Goals as goal
use Rattle.forec_tree.proofs.VariableCounts.{variables_counted}

pub returns : goal.returns
returns c text = variables_counted text

use Rattle.forec_tree.proofs.tree_laws.thread_counts.Goals as goal
use Rattle.forec_tree.proofs.ThreadLaws.{tree_size}

pub returns : goal.returns
returns c text first = tree_size text first

use Rattle.text_kernel.proofs.TreeThreads.{threads_of_tree}
use Rattle.text_kernel.proofs.laws.threads_are_those_of_the_tree.Goals as goal

pub returns : goal.returns
returns c = threads_of_tree

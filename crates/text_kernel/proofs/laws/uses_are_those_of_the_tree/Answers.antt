use Rattle.text_kernel.proofs.TreeUses.{uses_are_those}
use Rattle.text_kernel.proofs.laws.uses_are_those_of_the_tree.Goals as goal

pub returns : goal.returns
returns c = uses_are_those

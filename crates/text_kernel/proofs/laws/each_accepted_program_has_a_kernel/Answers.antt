use Rattle.text_kernel.proofs.Whole.{well_formed}
use Rattle.text_kernel.proofs.laws.each_accepted_program_has_a_kernel.Goals as goal

pub returns : goal.returns
returns c = well_formed

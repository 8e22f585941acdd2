use Rattle.std.proofs.Common.{◌∙◌}
use Rattle.forec_tree.proofs.Rows.{of_group}
use Rattle.lower_names.specs.Landings as landings
use Rattle.lower_names.proofs.landing.inside.Goals as goal

pub returns-in-Group : goal.returns-in-Group
returns-in-Group c = c.only.ensures ∙ of_group landings.only_in_group c.args.s.now c.in-Group.body c.as_slice.result.now c.in-Group.is c.as_slice.ensures

use Rattle.std.proofs.Common.{◌∙◌}
use Rattle.forec_tree.specs.Rules as rules
use Rattle.forec_tree.proofs.Rows.{of_group}
use Rattle.program_walk.proofs.rules.items.+returns.Goals as goal

pub returns-returns-in-Group : goal.returns-returns-in-Group
returns-returns-in-Group t c = c.any_returns.ensures ∙ of_group rules.always_returns c.args.s.now c.in-Group.body c.as_slice.result.now c.in-Group.is c.as_slice.ensures

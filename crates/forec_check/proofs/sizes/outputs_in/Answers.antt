use Rattle.std.proofs.Common.{◌∙◌, sym, ap}
use Rattle.forec_tree.specs.Plain as plain
use Rattle.forec_check.specs.Checked as checked
use Rattle.forec_check.proofs.sizes.outputs_in.Goals as goal

pub returns-in-Global : goal.returns-in-Global
returns-in-Global c = c.output_count.ensures ∙ ap (λ i. checked.item_outputs (plain.plain_item i)) (sym c.in-Global.is)

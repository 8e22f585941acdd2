use Rattle.std.proofs.Common.{◌≡◌, ◌∙◌, ap, None}
use Rattle.forec_tree.specs.Faults.{main_faults}
use Rattle.loop_check.specs.Views.{indexed_text}
use Rattle.fault_order.specs.Least.{least_from}
use Rattle.program_walk.proofs.ItemRules.{text_is}
use Rattle.program_walk.proofs.walk.walk_program.Goals as goal

pub returns-clause-least : goal.returns-clause-least
returns-clause-least c =
    let text = indexed_text c.args.index.now in
    let names = c.args.names.now in
    text_is text names c.judge_start.new.least c.walk_items.new.program_notes.notes.least
    (c.judge_start.ensures ∙ ap (λ t. least_from None (main_faults t names)) c.requires) c.in_ok-walk_items.ensures.least

use Rattle.std.proofs.Common.{◌∙◌, ◌-◌, ◌^◌, min}
use Rattle.forec_tree.proofs.Rows.{of_group, of_abort}
use Rattle.text_sizes.specs.TermCounts.{slots}
use Rattle.text_sizes.specs.Spans.{slots_at}
use Rattle.text_sizes.proofs.span.+slots.Goals as goal

pub slots-returns-in-Group : goal.slots-returns-in-Group
slots-returns-in-Group t c =
    c.all_slots.ensures ∙ of_group (λ s. min (slots (slots_at c.args.table.now) s) (2 ^ 64 - 1)) c.args.s.now c.in-Group.body c.as_slice.result.now c.in-Group.is c.as_slice.ensures

pub slots-returns-in-Abort : goal.slots-returns-in-Abort
slots-returns-in-Abort t c =
    c.all_slots-in-Abort.ensures
    ∙ of_abort (λ s. min (slots (slots_at c.args.table.now) s) (2 ^ 64 - 1)) c.args.s.now c.in-Abort.weak c.in-Abort.immediate c.in-Abort.test c.in-Abort.body c.as_slice-in-Abort.result.now c.in-Abort.is c.as_slice-in-Abort.ensures

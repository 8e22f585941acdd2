use Rattle.std.proofs.Common.{◌≡◌, ◌∙◌, ◌+◌, ◌-◌, ◌^◌, min, arith, length}
use Rattle.forec_tree.specs.Plain.{statements}
use Rattle.forec_tree.proofs.Rows.{of_group, of_abort}
use Rattle.text_sizes.specs.Spans.{levels, levels_all, levels_at, block_levels, sequence_levels}
use Rattle.text_sizes.proofs.Tallied.{statements_length}
use Rattle.text_sizes.proofs.Widening.{sequence_near}
use Rattle.text_sizes.proofs.span.+levels.Goals as goal

pub block_levels-returns : goal.block_levels-returns
block_levels-returns t c =
    let a = c.all_levels.ensures in
    let list = c.args.list.now in
    let most = levels_all (levels_at c.args.table.now) (statements list) in
    c.sequence_levels.ensures
    ∙ (sequence_near (2 ^ 64 - 1) (length list) c.all_levels.result most (omega (arith, a)) ∙ Rattle.std.proofs.Common.ap (λ n. min (sequence_levels n most) (2 ^ 64 - 1)) (statements_length list))

pub levels-returns-in-Group : goal.levels-returns-in-Group
levels-returns-in-Group t c =
    c.block_levels.ensures ∙ of_group (λ s. min (levels (levels_at c.args.table.now) s) (2 ^ 64 - 1)) c.args.s.now c.in-Group.body c.as_slice.result.now c.in-Group.is c.as_slice.ensures

pub levels-returns-in-Abort : goal.levels-returns-in-Abort
levels-returns-in-Abort t c =
    let a = c.add-in-Abort.ensures in
    let b = c.block_levels-in-Abort.ensures in
    let list = statements c.as_slice-in-Abort.result.now in
    let base : c.add-in-Abort.result ≡ min (1 + block_levels (levels_at c.args.table.now) list) (2 ^ 64 - 1) = omega (arith, a, b) in
    base
    ∙ of_abort (λ s. min (levels (levels_at c.args.table.now) s) (2 ^ 64 - 1)) c.args.s.now c.in-Abort.weak c.in-Abort.immediate c.in-Abort.test c.in-Abort.body c.as_slice-in-Abort.result.now c.in-Abort.is c.as_slice-in-Abort.ensures

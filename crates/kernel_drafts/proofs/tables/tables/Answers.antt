use Rattle.std.proofs.Common.{◌∙◌, ◌+◌, map, sym, ap, drop}
use Rattle.forec_tree.specs.Plain.{plain_global}
use Rattle.text_kernel.specs.Kernels.{padded}
use Rattle.text_kernel.specs.Items.{globals_of, array_length, array_table}
use Rattle.kernel_drafts.specs.Reach.{table_items}
use Rattle.kernel_drafts.proofs.Assembled.{globals_next, mapped_more}
use Rattle.kernel_drafts.proofs.tables.tables.Goals as goal

pub loop-global-preserved : goal.loop-global-preserved
loop-global-preserved c =
    let list = c.args.arrays.now in
    let i = c.loop-global.global-index in
    let g = plain_global c.global-item.result.now in
    let one = c.in_ok-one.ensures ∙ (ap (λ n. padded n c.as_slice.result.now) c.length.ensures ∙ ap (padded (array_length g)) c.as_slice.ensures) in
    mapped_more table_items c.loop-global.list.items c.push.new.self.items c.in_ok-one.one (array_table g) (map array_table (globals_of (drop i list))) (map array_table (globals_of (drop (i + 1) list))) _ c.in_ok-push.ensures.items one
    (ap (map array_table) (globals_next list i c.global-item.result c.loop-global-test.true (sym c.global-item.is))) c.loop-global.invariant

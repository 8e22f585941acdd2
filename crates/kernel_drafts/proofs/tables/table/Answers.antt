use Rattle.std.proofs.Common.{◌+◌, ◌-◌, drop, SFits, w32, rules}
use Rattle.std.proofs.lemmas.Int.{to_z-of_z}
use Rattle.text_kernel.specs.Kernels.{padded}
use Rattle.kernel_drafts.proofs.Assembled.{padded_next, appended_more}
use Rattle.kernel_drafts.proofs.tables.table.Goals as goal

pub loop-i-preserved : goal.loop-i-preserved
loop-i-preserved c =
    let i = c.loop-i.i in
    let n = c.args.length in
    let values = c.args.values.now in
    let fits : SFits w32 c.number_at.result = search rules in
    appended_more c.loop-i.list.items c.push.new.self.items _ c.number_at.result (padded (n - i) (drop i values)) (padded (n - (i + 1)) (drop (i + 1) values)) (padded n values) c.in_ok-push.ensures.items
    (to_z-of_z w32 c.number_at.result fits) (padded_next n i values c.number_at.result c.loop-i-test.true c.number_at.ensures) c.loop-i.invariant

use Rattle.std.proofs.Common.{◌+◌, ◌∙◌, sym, ap}
use Rattle.forec_tree.specs.Plain as plain
use Rattle.forec_tree.specs.Faults as faults
use Rattle.forec_tree.specs.Rules as rules
use Rattle.program_walk.specs.declared.walk.item_counts.ItemCounts.{ItemCounts}
use Rattle.program_walk.specs.Items.{counts_after}
use Rattle.program_walk.proofs.walk.after.Goals as goal

pub returns-in-Global-clause-counts : goal.returns-in-Global-clause-counts
returns-in-Global-clause-counts c =
    let counts = c.args.counts in
    let input = faults.one_if (rules.is_input c.in-Global.global.kind) in
    ap (λ n. let r : ItemCounts = record { inputs = counts.inputs + n; outputs = counts.outputs + c.output_count.result; functions = counts.functions } in r)
    (c.one_if.ensures ∙ ap faults.one_if c.is_input.ensures)
    ∙ ap (λ n. let r : ItemCounts = record { inputs = counts.inputs + input; outputs = counts.outputs + n; functions = counts.functions } in r) c.output_count.ensures
    ∙ ap (λ i. counts_after counts (plain.plain_item i)) (sym c.in-Global.is)

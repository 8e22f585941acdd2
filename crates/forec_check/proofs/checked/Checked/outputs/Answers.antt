use Rattle.std.proofs.Common.{◌≤◌, ◌∙◌, sym, ap, subst, map}
use Rattle.forec_tree.specs.Plain as plain
use Rattle.forec_tree.specs.Terms.{Text}
use Rattle.forec_check.specs.Checked.{count_outputs}
use Rattle.forec_check.proofs.FewOutputs.{few_outputs}
use Rattle.forec_check.proofs.checked.Checked.outputs.Goals as goal

pub count_outputs-requires : goal.count_outputs-requires
count_outputs-requires c =
    let kept = c.args.self.now in
    let same = ap (map plain.plain_item) c.as_slice.ensures ∙ ap plain.program c.program.ensures in
    subst (λ (t : Text). count_outputs t ≤ 64) (sym same) (few_outputs (plain.program kept.program) kept.names.now kept.faultless)

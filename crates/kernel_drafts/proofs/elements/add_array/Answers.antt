use Rattle.std.proofs.Common.{◌+◌, ◌-◌, refl, Some}
use Rattle.forec_tree.specs.Plain.{plain_global}
use Rattle.forec_tree.specs.Variables.{elements_from}
use Rattle.kernel_drafts.specs.Elements.{plain_element}
use Rattle.kernel_drafts.proofs.Assembled.{mapped_more}
use Rattle.kernel_drafts.proofs.ElementLemmas.{row_next}
use Rattle.kernel_drafts.proofs.elements.add_array.Goals as goal

pub loop-i-preserved : goal.loop-i-preserved
loop-i-preserved c =
    let g = plain_global c.args.global.now in
    let i = c.loop-i.i in
    let n = c.args.length in
    mapped_more plain_element c.loop-i.list.items c.push.new.self.items (record { global = c.args.global; index = Some i }) (record { global = g; index = Some i }) (elements_from g i (n - i)) (elements_from g (i + 1) (n - (i + 1))) _
    c.in_ok-push.ensures.items refl (row_next g n i c.loop-i-test.true) c.loop-i.invariant

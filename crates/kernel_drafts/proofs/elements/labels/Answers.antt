use Rattle.std.proofs.Common.{◌+◌, map, sym, ap, drop}
use Rattle.forec_tree.specs.Rules.{spelling_of_name}
use Rattle.text_kernel.specs.Kernels.{element_name, variable_name}
use Rattle.kernel_drafts.specs.Elements.{plain_elements}
use Rattle.kernel_drafts.proofs.Assembled.{appended_more, name_at}
use Rattle.kernel_drafts.proofs.ElementLemmas.{elements_next}
use Rattle.kernel_drafts.proofs.elements.labels.Goals as goal

pub loop-e-preserved : goal.loop-e-preserved
loop-e-preserved c =
    let list = c.args.elements.now in
    let i = c.loop-e.e-index in
    let names = c.args.names.now in
    let e = c.e-item.result in
    appended_more c.loop-e.list c.add_name.new.list (element_name c.get.result.now e.index) (element_name (spelling_of_name names e.global.now.name.id) e.index) (map (variable_name names) (plain_elements (drop i list)))
    (map (variable_name names) (plain_elements (drop (i + 1) list))) _ c.in_ok-add_name.ensures
    (ap (λ n. element_name n e.index) (name_at names e.global.now.name.id c.get.result.now c.get.ensures))
    (ap (map (variable_name names)) (elements_next list i e c.loop-e-test.true (sym c.e-item.is))) c.loop-e.invariant

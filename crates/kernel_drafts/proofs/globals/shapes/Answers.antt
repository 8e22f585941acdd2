use Rattle.std.proofs.Common.{◌+◌, map, sym, ap, drop}
use Rattle.loop_check.specs.Views.{indexed_text}
use Rattle.text_kernel.specs.Kernels.{variable_shape}
use Rattle.kernel_drafts.specs.Elements.{plain_element, plain_elements}
use Rattle.kernel_drafts.proofs.Assembled.{appended_more}
use Rattle.kernel_drafts.proofs.ElementLemmas.{elements_next}
use Rattle.kernel_drafts.proofs.globals.shapes.Goals as goal

pub loop-e-preserved : goal.loop-e-preserved
loop-e-preserved c =
    let text = indexed_text c.args.globals.now.index in
    let names = c.args.names.now in
    let list = c.args.elements.now in
    let i = c.loop-e.e-index in
    let e = c.e-item.result in
    appended_more c.loop-e.list.items c.push.new.self.items c.shaped.result (variable_shape text names (plain_element e)) (map (variable_shape text names) (plain_elements (drop i list)))
    (map (variable_shape text names) (plain_elements (drop (i + 1) list))) _ c.in_ok-push.ensures.items c.shaped.ensures
    (ap (map (variable_shape text names)) (elements_next list i e c.loop-e-test.true (sym c.e-item.is))) c.loop-e.invariant

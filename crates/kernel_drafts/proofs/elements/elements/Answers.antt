use Rattle.std.proofs.Common.{◌+◌, sym, ap, drop}
use Rattle.forec_tree.specs.Plain.{plain_global}
use Rattle.forec_tree.specs.Variables.{variables_of}
use Rattle.text_kernel.specs.Items.{globals_of, each_variable}
use Rattle.kernel_drafts.specs.Elements.{plain_elements}
use Rattle.kernel_drafts.proofs.Assembled.{globals_next}
use Rattle.kernel_drafts.proofs.ElementLemmas.{joined_more}
use Rattle.kernel_drafts.proofs.elements.elements.Goals as goal

pub loop-global-preserved : goal.loop-global-preserved
loop-global-preserved c =
    let list = c.args.globals.now in
    let i = c.loop-global.global-index in
    joined_more (plain_elements c.loop-global.list.items) (plain_elements c.add_global.new.list.items) (variables_of (plain_global c.global-item.result.now)) (each_variable (globals_of (drop i list)))
    (each_variable (globals_of (drop (i + 1) list))) _ c.in_ok-add_global.ensures (ap each_variable (globals_next list i c.global-item.result c.loop-global-test.true (sym c.global-item.is))) c.loop-global.invariant

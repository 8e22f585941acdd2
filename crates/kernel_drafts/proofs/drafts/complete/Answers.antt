use Rattle.std.proofs.Common.{◌≡◌, ◌∙◌, sym, ap, map}
use Rattle.forec_tree.specs.Rules as rules
use Rattle.forec_kernel.specs.Plain.{stmt}
use Rattle.forec_kernel.specs.Shapes.{plain_thread}
use Rattle.loop_check.specs.Views.{indexed_text}
use Rattle.text_kernel.specs.Kernels as kernels
use Rattle.text_kernel.specs.Kernels.{kernel_of}
use Rattle.forec_tree.specs.Variables.{variables}
use Rattle.text_kernel.specs.Items.{globals_of, variable_items, each_variable}
use Rattle.text_kernel.proofs.VariableItems.{variables_are}
use Rattle.kernel_drafts.specs.Elements.{plain_elements}
use Rattle.kernel_drafts.specs.Reach.{table_items}
use Rattle.kernel_drafts.proofs.Drafting.{by_parts, draft_tables, draft_inputs, draft_outputs, draft_names}
use Rattle.kernel_drafts.proofs.drafts.complete.Goals as goal

pub returns : goal.returns
returns c =
    let text = indexed_text c.args.source.now.globals.index in
    let names = c.args.names.now in
    let d = c.args.draft in
    let vs = plain_elements c.in_ok-elements.elements.items in
    let are : vs ≡ variables text =
    c.in_ok-elements.ensures ∙ (ap (λ l. each_variable (globals_of l)) c.deref.ensures.value ∙ (ap each_variable (c.in_ok-list.ensures ∙ ap variable_items c.requires.items) ∙ sym (variables_are text))) in
    by_parts (kernel_of text names) (map plain_thread d.threads.items) d.variables.items d.functions.shapes.items (map table_items c.in_ok-tables.tables.items) c.in_ok-inputs.inputs.items c.in_ok-outputs.outputs.items c.in_ok-names.names (map stmt d.texts.items)
    (map stmt d.functions.bodies.items) c.requires.draft.threads c.requires.draft.variables c.requires.draft.shapes (draft_tables text names (map table_items c.in_ok-tables.tables.items) (globals_of c.args.arrays.now) c.in_ok-tables.ensures c.requires.arrays)
    (c.in_ok-inputs.ensures ∙ (ap (λ l. kernels.numbers_of text names rules.is_input 0 (plain_elements l)) c.deref-2.ensures.value ∙ draft_inputs text names vs are))
    (c.in_ok-outputs.ensures ∙ (ap (λ l. kernels.numbers_of text names rules.is_output 0 (plain_elements l)) c.deref-3.ensures.value ∙ draft_outputs text names vs are))
    (c.in_ok-names.ensures ∙ (ap (λ l. map (kernels.variable_name names) (plain_elements l)) c.deref-4.ensures.value ∙ draft_names text names vs are)) c.requires.draft.texts c.requires.draft.bodies

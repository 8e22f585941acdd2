use Rattle.std.proofs.Common.{◌≡◌, ◌∙◌, sym, ap, List, map, length}
use Rattle.std.proofs.lemmas.List.{length-map}
use Rattle.forec_tree.specs.Variables.{PlainVariable, variables}
use Rattle.forec_tree.proofs.VariableCounts.{variables_counted}
use Rattle.forec_kernel.specs.Plain.{stmt}
use Rattle.forec_kernel.specs.Shapes.{plain_thread}
use Rattle.loop_check.specs.Views.{indexed_text}
use Rattle.text_kernel.specs.Kernels as kernels
use Rattle.text_kernel.specs.Kernels.{kernel_of, variable_count}
use Rattle.lower_names.specs.Views.{of_thread}
use Rattle.kernel_drafts.specs.Drafts.{function_shape, function_text, root_of, thread_body}
use Rattle.text_kernel.specs.Items.{globals_of, functions_of, variable_items, each_variable}
use Rattle.text_kernel.proofs.VariableItems.{variables_are}
use Rattle.kernel_drafts.specs.Elements.{plain_element, plain_elements}
use Rattle.kernel_drafts.proofs.DraftLemmas.{bodies_are}
use Rattle.kernel_drafts.proofs.Drafting.{draft_threads, draft_texts, draft_variables, draft_shapes, draft_bodies, as_many, as_many_functions}
use Rattle.kernel_drafts.proofs.drafts.draft.Goals as goal

pub returns : goal.returns
returns c =
    let text = indexed_text c.args.source.now.globals.index in
    let names = c.args.names.now in
    let first = c.args.first in
    let k = kernel_of text names in
    let list = c.in_ok-elements.elements.items in
    let vs = plain_elements list in
    let are : vs ≡ variables text =
    c.in_ok-elements.ensures ∙ (ap (λ l. each_variable (globals_of l)) c.deref.ensures.value ∙ (ap each_variable (c.in_ok-list.ensures ∙ ap variable_items c.requires.items) ∙ sym (variables_are text))) in
    let fs = functions_of c.in_ok-list-2.list.items in
    let ints : fs ≡ kernels.int_functions text names text = c.in_ok-list-2.ensures ∙ ap (kernels.int_functions text names) c.requires.items in
    let count : c.in_ok-number.number ≡ variable_count text names =
    c.in_ok-number.ensures.ok ∙ (c.len.ensures ∙ (c.in_ok-elements.elements.ok.0 ∙ (sym (length-map list plain_element) ∙ (ap (λ (l : List PlainVariable). length l) are ∙ variables_counted text)))) in
    let e = c.in_ok-bodies.ensures in
    let b = c.in_ok-bodies.bodies in
    let threads : map plain_thread c.in_ok-threads.threads.shapes.items ≡ k.shape.threads =
    c.in_ok-threads.ensures.shapes ∙ draft_threads text names c.in_ok-number.number first b.words (map of_thread b.threads.items) count c.requires.first e.words e.threads in
    let texts : map stmt c.in_ok-texts.texts.items ≡ k.threads =
    c.in_ok-texts.ensures ∙ draft_texts text names first (stmt b.main) (map thread_body b.threads.items) c.requires.first e.main (bodies_are b.threads.items (root_of text first).made e.threads) in
    let shapes = c.in_ok-functions.ensures.shapes ∙ (ap (λ l. map (function_shape text names) (functions_of l)) c.deref-3.ensures.value ∙ draft_shapes text names fs ints) in
    let bodies = c.in_ok-functions.ensures.bodies ∙ (ap (λ l. map (function_text text names) (functions_of l)) c.deref-3.ensures.value ∙ draft_bodies text names fs ints) in
    record {
      threads = threads;
      texts = texts;
      variables = c.in_ok-variables.ensures ∙ (ap (λ l. map (kernels.variable_shape text names) (plain_elements l)) c.deref-2.ensures.value ∙ draft_variables text names vs are);
      shapes = shapes;
      bodies = bodies;
      fits =
          record {
            threads = sym (length-map c.in_ok-texts.texts.items stmt) ∙ (ap length texts ∙ (as_many text names ∙ (sym (ap length threads) ∙ length-map c.in_ok-threads.threads.shapes.items plain_thread)));
            functions = sym (length-map c.in_ok-functions.functions.bodies.items stmt) ∙ (ap length bodies ∙ (as_many_functions text names ∙ sym (ap length shapes)));
            rows = c.in_ok-threads.ensures.rows;
          };
    }

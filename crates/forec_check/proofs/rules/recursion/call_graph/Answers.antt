use Rattle.std.proofs.Common.{◌≡◌, ◌∙◌, sym, ap, Some}
use Rattle.std.specs.Prelude.{slice_get}
use Rattle.forec_tree.specs.Plain.{plain_item}
use Rattle.loop_check.specs.Views.{indexed_text}
use Rattle.program_walk.specs.Walk.{item_effects}
use Rattle.forec_check.specs.Early.{function_calls, effect_calls}
use Rattle.program_walk.proofs.ItemRules.{item_get}
use Rattle.forec_check.proofs.Recursion.{body_at, list_is}
use Rattle.forec_check.proofs.rules.recursion.call_graph.Goals as goal

pub loop-at-preserved : goal.loop-at-preserved
loop-at-preserved c =
    let text = indexed_text c.args.index.now in
    let at = c.loop-at.at in
    let x = plain_item c.index-items-at.result in
    let get : slice_get text at ≡ Some x = ap (λ t. slice_get t at) (sym c.requires.items) ∙ item_get c.args.items.now at c.index-items-at.result c.loop-at-test.true (sym c.index-items-at.is) in
    c.in_ok-add_function.ensures (function_calls text)
    (list_is text x c.in_ok-list.list.items c.index-bodies-at.result.items (body_at c.args.bodies.now text (item_effects text) at x c.index-bodies-at.result c.requires.bodies get (sym c.index-bodies-at.is))
    (c.in_ok-list.ensures ∙ ap effect_calls c.deref.ensures.value))
    c.loop-at.invariant

use Rattle.std.proofs.Common.{◌∙◌, sym, ap, subst, length, arith}
use Rattle.std.proofs.lemmas.List.{length-map}
use Rattle.forec_tree.specs.Plain.{plain_item}
use Rattle.loop_check.specs.Views.{indexed_text}
use Rattle.loop_check.specs.Graph.{callees, FunctionsCall}
use Rattle.std.specs.Prelude.{slice_get}
use Rattle.program_walk.proofs.ItemRules.{item_get}
use Rattle.forec_check.proofs.Recursion.{all_early, functions_call}
use Rattle.forec_check.proofs.rules.recursion.judge_recursion.Goals as goal

pub returns : goal.returns
returns c =
    let text = indexed_text c.args.index.now in
    let e = ap length (sym c.requires.items) in
    let m = length-map c.args.items.now plain_item in
    let t = c.loop-at-test.false in
    all_early text c.args.names.now c.loop-at.at c.loop-at.least (omega (arith, e, m, t)) c.loop-at.invariant

pub acyclic-requires : goal.acyclic-requires
acyclic-requires c =
    subst (λ f. FunctionsCall f (callees c.deref-2.result.now)) (sym c.deref.ensures.value)
    (subst (λ l. FunctionsCall c.args.calls.now.functions.items (callees l)) (sym c.deref-2.ensures.value)
    (functions_call (indexed_text c.args.index.now) c.args.calls.now.functions.items (callees c.args.calls.now.lists.items) c.requires.read))

pub loop-at-preserved : goal.loop-at-preserved
loop-at-preserved c = c.in_ok-judge_recursive.ensures

pub judge_recursive-requires-clause-item : goal.judge_recursive-requires-clause-item
judge_recursive-requires-clause-item c =
    let at = c.loop-at.at in
    ap (λ t. slice_get t at) (sym c.requires.items) ∙ item_get c.args.items.now at c.index-items-at.result c.loop-at-test.true (sym c.index-items-at.is)

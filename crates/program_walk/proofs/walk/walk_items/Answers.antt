use Rattle.std.proofs.Common.{◌≡◌, ◌∙◌, ◌+◌, ◌++◌, ◌∷◌, [], sym, ap, refl, map, drop, Some, append-nil}
use Rattle.std.specs.Prelude.{slice_get}
use Rattle.std.proofs.lemmas.List.{drop_all, take_all}
use Rattle.forec_tree.specs.Plain as plain
use Rattle.loop_check.specs.Views.{indexed_text}
use Rattle.program_walk.specs.Walk.{item_effects, effects_lists}
use Rattle.program_walk.specs.Items.{before_of}
use Rattle.program_walk.proofs.ItemRules.{items_at, item_get, least_step, least_end, bodies_step}
use Rattle.program_walk.proofs.walk.walk_items.Goals as goal

pub loop-at-preserved : goal.loop-at-preserved
loop-at-preserved c =
    let text = indexed_text c.args.index.now in
    let items = c.args.items.now in
    let at = c.loop-at.at in
    let x = plain.plain_item c.index-items-at.result in
    let rest = items_at items at c.index-items-at.result c.loop-at-test.true (sym c.index-items-at.is) in
    let get : slice_get text at ≡ Some x = ap (λ t. slice_get t at) (sym c.requires.items) ∙ item_get items at c.index-items-at.result c.loop-at-test.true (sym c.index-items-at.is) in (
      least_step text c.args.names.now _ _ at c.loop-at.counts c.after-counts.result x c.loop-at.program_notes.notes.least c.walk_item.new.notes.least _ get c.after-counts.ensures.counts rest
          c.in_ok-walk_item.ensures.least c.loop-at.invariant.0,
      bodies_step text at x c.loop-at.program_notes.bodies.items _ c.replace-effects.result (item_effects text) get c.in_ok-push.ensures.items
          (ap (λ v. v.items) c.replace-effects.ensures.value ∙ c.in_ok-walk_item.ensures.effects) c.loop-at.invariant.1,
      ap (λ v. v.items) c.replace-effects.ensures.after ∙ c.new.ensures.items,
      c.after-counts.ensures.few (at + 1) c.loop-at.invariant.3,
    )

pub returns-clause-least : goal.returns-clause-least
returns-clause-least c =
    let text = indexed_text c.args.index.now in
    least_end text c.args.names.now _ _ c.loop-at.program_notes.notes.least _ (ap (map plain.plain_item) (drop_all c.loop-at.at c.args.items.now c.loop-at-test.false)) c.loop-at.invariant.0

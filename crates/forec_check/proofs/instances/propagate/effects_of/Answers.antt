use Rattle.std.proofs.Common.{◌≡◌, ◌∙◌, sym, ap, Some}
use Rattle.std.specs.Prelude.{slice_get}
use Rattle.std.specs.Option.{option_copied}
use Rattle.loop_check.specs.Views.{indexed_text}
use Rattle.program_walk.specs.Walk.{item_effects}
use Rattle.forec_check.proofs.NamingTables.{bodied, found_effects}
use Rattle.forec_check.proofs.instances.propagate.effects_of.Goals as goal

pub returns-in-Some-at : goal.returns-in-Some-at
returns-in-Some-at c =
    let text = indexed_text c.args.index.now in
    let v : slice_get c.args.bodies.now c.in-Some.place ≡ Some c.in-Some-at.effects.now = sym c.at.ensures ∙ ap option_copied c.in-Some-at.is in
    let b = bodied c.args.bodies.now text (item_effects text) c.in-Some.place c.in-Some-at.effects.now c.requires v in
    c.deref.ensures.value ∙ (b.is ∙ found_effects text c.args.f b.item (c.in-Some.ensures ∙ b.stands))

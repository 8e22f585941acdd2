use Rattle.std.proofs.Common.{◌∙◌, sym, ap, Some}
use Rattle.std.specs.Prelude.{option_map}
use Rattle.std.specs.Borrow.{Bor}
use Rattle.forec_tree.specs.declared.tree.Item.{Item}
use Rattle.forec_tree.specs.Plain.{plain_item, plain_global}
use Rattle.loop_check.specs.Views.{indexed_text}
use Rattle.text_kernel.specs.Bindings.{item_stands}
use Rattle.lower_names.proofs.NumberingLemmas.{global_is}
use Rattle.lower_names.proofs.globals.Globals.stands.Goals as goal

pub returns-in-Some-Global : goal.returns-in-Some-Global
returns-in-Some-Global c =
    let text = indexed_text c.args.self.now.index in
    c.global_stands.ensures
    ∙ (global_is c.counts.result text (plain_global c.in-Some-Global.global) c.counts.ensures
    ∙ (ap (λ (i : Item). item_stands text (Some (plain_item i))) (sym c.in-Some-Global.field-0-is)
    ∙ ap (item_stands text) (ap (option_map (λ (x : Bor Item). plain_item x.now)) (sym c.in-Some-Global.is) ∙ c.find.ensures)))

use Rattle.std.proofs.Common.{◌≡◌, ◌∙◌, ◌-◌, sym, ap, refl, Option, Some, None, Bor, arith}
use Rattle.std.specs.Prelude.{option_map}
use Rattle.std.specs.Option.{option_copied}
use Rattle.std.proofs.lemmas.Option.{slice_get-map}
use Rattle.forec_tree.specs.declared.tree.Item.{Item}
use Rattle.forec_tree.specs.Plain.{plain_item}
use Rattle.loop_check.specs.Index.{blank_entry}
use Rattle.loop_check.specs.Views.{indexed_text}
use Rattle.loop_check.proofs.IndexLemmas.{absent_is, found_is}
use Rattle.loop_check.proofs.index.Index.find.Goals as goal

pub returns-then-first-eq0 : goal.returns-then-first-eq0
returns-then-first-eq0 c =
    let e = ap (λ y. y.first) c.entry-first.ensures in
    let t = c.if-first-eq0.true in
    sym (absent_is c.args.id 0 blank_entry (indexed_text c.args.self.now) refl (sym e ∙ t))

copied : (r : Option (Bor Item)) → option_map (λ x. plain_item x.now) r ≡ option_map plain_item (option_copied r)
copied None = refl
copied (Some x) = refl

pub returns : goal.returns
returns c =
    let e = ap (λ y. y.first) c.entry-first.ensures in
    let t = c.if-first-eq0.false in
    let k = c.entry-first.result.first - 1 in
    copied c.at.result ∙ ap (option_map plain_item) c.at.ensures ∙ sym (slice_get-map plain_item c.args.self.now.items.now k)
    ∙ sym (found_is c.args.id 0 k blank_entry (indexed_text c.args.self.now) refl (omega (arith, e, t)))

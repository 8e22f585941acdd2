use Rattle.std.proofs.Common.{ℕ, ◌<◌, ◌≡◌, ◌∙◌, sym, ap, refl, subst, Some, List, [], length, map, get_or, arith}
use Rattle.std.specs.Prelude.{slice_get, option_map}
use Rattle.std.specs.declared.vec.Vec.{Vec}
use Rattle.std.specs.declared.alloc.Global.{Global}
use Rattle.std.proofs.lemmas.Option.{slice_get-get_or, slice_get-map}
use Rattle.std.proofs.lemmas.List.{take_all, length-map}
use Rattle.forec_tree.specs.declared.tree.Item.{Item}
use Rattle.forec_tree.specs.Terms.{Text}
use Rattle.forec_tree.specs.Plain.{plain_item}
use Rattle.loop_check.specs.Graph.{callees}
use Rattle.loop_check.specs.Known.{Read, started_in}
use Rattle.loop_check.specs.Views.{indexed_text}
use Rattle.loop_check.proofs.table.read_calls.Goals as goal

none_read : (functions : List ℕ) (rows : List (Vec ℕ Global)) → functions ≡ [] → rows ≡ [] → Read started_in [] functions (callees rows)
none_read functions rows f r =
    subst (λ x. Read started_in [] x (callees rows)) (sym f)
    (subst (λ y. Read started_in [] [] (callees y)) (sym r) (record { stands = λ id. refl; lists = λ id. refl; few = omega arith }))

item_at : (text : Text) (xs : List Item) (i : ℕ) (x : Item) → map plain_item xs ≡ text → i < length xs → x ≡ get_or xs i x → slice_get text i ≡ Some (plain_item x)
item_at text xs i x e h g =
    subst (λ t. slice_get t i ≡ Some (plain_item x)) e
    (slice_get-map plain_item xs i ∙ ap (option_map plain_item) (slice_get-get_or xs i x h ∙ ap Some (sym g)))

pub loop-at-init : goal.loop-at-init
loop-at-init c = none_read c.new.result.items c.new-2.result.items c.new.ensures.items c.new-2.ensures.items

pub loop-at-preserved : goal.loop-at-preserved
loop-at-preserved c = c.in_ok-add_started.ensures c.loop-at.invariant

pub add_started-requires : goal.add_started-requires
add_started-requires c =
    item_at (indexed_text c.args.index.now) c.items-item-items.result.now c.loop-at.at c.item-item.result c.items-item-items.ensures c.loop-at-test.true c.item-item.is

pub returns : goal.returns
returns c =
    let past = c.loop-at-test.false in
    let n = sym (ap length c.items-item-items.ensures) ∙ length-map c.items-item-items.result.now plain_item in
    subst (λ t. Read started_in t c.loop-at.calls.functions.items (callees c.loop-at.calls.lists.items))
    (take_all c.loop-at.at (indexed_text c.args.index.now) (omega (arith, past, n))) c.loop-at.invariant

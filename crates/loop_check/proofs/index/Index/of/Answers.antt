use Rattle.std.proofs.Common.{ℕ, ◌+◌, ◌<◌, ◌≡◌, ◌∙◌, sym, ap, refl, suc, List, ◌∷◌, length, map, get_or, drop, add-one, arith}
use Rattle.std.proofs.Math.Seq.{drop-cons}
use Rattle.forec_tree.specs.declared.tree.Item.{Item}
use Rattle.forec_tree.specs.Plain.{plain_item}
use Rattle.loop_check.specs.declared.entry.Entry.{Entry}
use Rattle.loop_check.specs.Index.{blank_entry, entry_from, noted_item}
use Rattle.loop_check.proofs.index.Index.of.Goals as goal

-- one more item was noted
noted : (items : List Item) (i id : ℕ) (x : Item) (old new : Entry) → i < length items → x ≡ get_or items i x → new ≡ noted_item id i (plain_item x) old →
    entry_from id (i + 1) new (map plain_item (drop (i + 1) items)) ≡ entry_from id i old (map plain_item (drop i items))
noted items i id x old new h g n =
    let e : get_or items i x ≡ x = sym g in
    let d : drop i items ≡ x ∷ drop (i + 1) items = drop-cons items i x h ∙ rw (e, add-one) refl in
    let s : i + 1 ≡ suc i = omega arith in
    ap (λ y. entry_from id (i + 1) y (map plain_item (drop (i + 1) items))) n
    ∙ ap (λ k. entry_from id k (noted_item id i (plain_item x) old) (map plain_item (drop (i + 1) items))) s
    ∙ sym (ap (λ xs. entry_from id i old (map plain_item xs)) d)

pub loop-at-preserved : goal.loop-at-preserved
loop-at-preserved c =
    λ id.
    noted c.args.items.now c.loop-at.at id c.index-items-at.result (get_or c.loop-at.entries.items id blank_entry) (get_or c.note.new.entries.items id blank_entry)
    c.loop-at-test.true c.index-items-at.is (c.in_ok-note.ensures id) ∙ c.loop-at.invariant id

use Rattle.std.proofs.Common.{ℕ, ◌≡◌, None, drop, map, get_or}
use Rattle.forec_tree.specs.Plain.{plain_item}
use Rattle.lower_names.specs.Numbering.{no_indices, before_name, indices_or}
use Rattle.lower_names.proofs.globals.Globals.of.Given as goal

abbrev pub invariant-loop-item : goal.invariant-loop-item
invariant-loop-item l =
    (g : ℕ) → indices_or (get_or l.before.items g None) (before_name g l.total (map plain_item (drop l.item-index l.items))) ≡ before_name g no_indices (map plain_item l.items)

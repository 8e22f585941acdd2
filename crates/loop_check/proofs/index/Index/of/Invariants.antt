use Rattle.std.proofs.Common.{ℕ, ◌≡◌, get_or, map, drop}
use Rattle.forec_tree.specs.Plain.{plain_item}
use Rattle.loop_check.specs.Index.{blank_entry, entry_from}
use Rattle.loop_check.proofs.index.Index.of.Given as goal

abbrev pub invariant-loop-at : goal.invariant-loop-at
invariant-loop-at l =
    (id : ℕ) → entry_from id l.at (get_or l.entries.items id blank_entry) (map plain_item (drop l.at l.items)) ≡ entry_from id 0 blank_entry (map plain_item l.fn.items)

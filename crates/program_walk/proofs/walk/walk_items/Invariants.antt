use Rattle.std.proofs.Common.{◌≡◌, ◌≤◌, ◌+◌, ◌++◌, [], map, drop, take}
use Rattle.forec_tree.specs.Plain as plain
use Rattle.forec_tree.specs.Faults as faults
use Rattle.fault_order.specs.Least.{least_from}
use Rattle.loop_check.specs.Views.{indexed_text}
use Rattle.program_walk.specs.Walk.{item_effects, effects_lists}
use Rattle.program_walk.specs.Items.{before_of, CountsBelow}
use Rattle.program_walk.proofs.walk.walk_items.Given as goal

abbrev pub invariant-loop-at : goal.invariant-loop-at
invariant-loop-at l =
    (least_from l.program_notes.notes.least (faults.items_faults (indexed_text l.index) l.names (before_of (indexed_text l.index) l.at l.counts) (map plain.plain_item (drop l.at l.items)))
    ≡ least_from l.fn.program_notes.notes.least (faults.items_faults (indexed_text l.index) l.names faults.none_before (indexed_text l.index)))
    × (effects_lists l.program_notes.bodies.items ≡ map (item_effects (indexed_text l.index)) (take l.at (indexed_text l.index)))
    × (l.program_notes.notes.effects.items ≡ [])
    × CountsBelow l.counts (l.at + 1)

use Rattle.std.proofs.Common.{◌≡◌, length, map, List, [], false}
use Rattle.copy_slots.specs.declared.view.Role.TheVariants.{Keeper}
use Rattle.copy_slots.specs.SeatEnds.{Watches}
use Rattle.slot_board.specs.Dealt.{BelongToTable, IsLeftToDeal, new_ports, seats_state, spare_role}
use Rattle.slot_board.proofs.dealing.deal_cores.Given as goal

abbrev pub invariant-loop-core : goal.invariant-loop-core
invariant-loop-core g l = (bs : List g.row.W-Plain.Denot) → Watches l.fn.top.table_id l.fn.top.key.work.value bs (Keeper (length l.fn.ends) false []) l.fn.spare → IsLeftToDeal l.fn.top.table_id l.fn.top.key.work.value bs 0 l.fn.ends l.fn.all.items
    → Watches l.fn.top.table_id l.fn.top.key.work.value bs (spare_role l.fn.root (length l.fn.ends) l.core) l.spare × IsLeftToDeal l.fn.top.table_id l.fn.top.key.work.value bs l.core l.fn.ends l.all.items
    × BelongToTable l.fn.top.table_id l.fn.top.key.work.value l.hands.items × (map (seats_state l.fn.top.table_id l.fn.top.key.work.value) l.hands.items ≡ new_ports l.fn.top.table_id l.fn.top.key.work.value bs l.fn.ends l.fn.root l.core)

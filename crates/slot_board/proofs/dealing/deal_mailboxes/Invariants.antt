use Rattle.std.proofs.Common.{◌≡◌, ◌≤◌, [], length, false, List}
use Rattle.copy_slots.specs.declared.view.Role.TheVariants.{Keeper}
use Rattle.copy_slots.specs.SeatEnds.{Watches}
use Rattle.slot_board.specs.Dealt.{AllNew}
use Rattle.slot_board.proofs.dealing.deal_mailboxes.Given as goal

abbrev pub invariant-loop-from : goal.invariant-loop-from
invariant-loop-from g l = record {
  long : length l.all.items ≡ l.from;
  most : l.from ≤ l.count;
  kept : (bs : List g.row.W-Plain.Denot) → l.count ≡ length bs → Watches l.fn.top.table_id l.fn.top.key.work.value bs (Keeper 0 false []) l.fn.keeper
      → Watches l.fn.top.table_id l.fn.top.key.work.value bs (Keeper l.from false []) l.keeper × AllNew l.fn.top.table_id l.fn.top.key.work.value bs l.all.items;
}

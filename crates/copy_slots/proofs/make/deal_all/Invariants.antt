use Rattle.std.proofs.Common.{◌≡◌, ◌≤◌, [], length, false, List}
use Rattle.copy_slots.specs.declared.view.Role.TheVariants.{Keeper}
use Rattle.copy_slots.specs.SeatEnds.{Watches}
use Rattle.copy_slots.specs.Fresh.{AllFresh}
use Rattle.copy_slots.proofs.make.deal_all.Given as goal

abbrev pub invariant-loop-from : goal.invariant-loop-from
invariant-loop-from g l = record {
  long : length l.seats.items ≡ l.from;
  most : l.from ≤ l.count;
  kept : (bs : List g.row.W-Plain.Denot) → l.count ≡ length bs → Watches l.fn.top.table_id l.fn.top.key.work.value bs (Keeper 0 false []) l.fn.keeper
      → Watches l.fn.top.table_id l.fn.top.key.work.value bs (Keeper l.from false []) l.keeper × AllFresh l.fn.top.table_id l.fn.top.key.work.value bs l.seats.items;
}

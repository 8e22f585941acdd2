use Rattle.std.proofs.Common.{map, sym, ap, ◌∙◌, subst}
use Rattle.copy_slots.specs.Mail.{role_stopped}
use Rattle.copy_slots.specs.SeatEnds.{Watches}
use Rattle.slot_board.specs.Slots.{AllPairs, slot_state, is_watch}
use Rattle.copy_slots.proofs.Seating.{keeper_is, rewatches}
use Rattle.slot_board.proofs.Pairing.{both_of, watch_stopped, stopped_state}
use Rattle.slot_board.proofs.port.SlotPortPort.stop.Goals as goal

pub stop-requires-clause-seat : goal.stop-requires-clause-seat
stop-requires-clause-seat g c = let s = c.args.self.now in let k = keeper_is s.watch.me.0.role c.requires in
    (s.watch.me.0.blanks, k.0, k.1, k.2, subst (λ r. Watches s.top.now.shared.table_id s.top.now.shared.key.work.value s.watch.me.0.blanks r s.watch) k.3 s.watches.0)

pub invariant_of-self : goal.invariant_of-self
invariant_of-self g c = let s = c.args.self.now in let bs = s.watch.me.0.blanks in let e = c.stop.ensures bs s.watch.me.0.role s.watches.0 in let new = c.stop.new.seat in record {
  sized = s.sized;
  watches = (rewatches s.top.now.shared.table_id s.top.now.shared.key.work.value bs (role_stopped s.watch.me.0.role) new e, ap (λ m. is_watch m.0.role) e.me ∙ watch_stopped s.top.now.shared.table_id s.top.now.shared.key.work.value bs s.seats.items s.watch.me.0.role s.watches.1);
  pairs = subst (λ l. AllPairs s.top.now.shared.table_id s.top.now.shared.key.work.value l s.seats.items) (sym (ap (λ m. m.0.blanks) e.me)) s.pairs;
}

pub returns : goal.returns
returns g c = let s = c.args.self.now in let bs = s.watch.me.0.blanks in let e = c.stop.ensures bs s.watch.me.0.role s.watches.0 in
    (λ i. slot_state s.top.now.shared.table_id s.top.now.shared.key.work.value (ap (λ m. m.0.blanks) e.me i) (map both_of s.seats.items) (ap (λ m. m.0.role) e.me i)) ∙ stopped_state s.top.now.shared.table_id s.top.now.shared.key.work.value bs s.seats.items s.watch.me.0.role c.requires

use Rattle.std.proofs.Common.{map, sym, ap, ◌∙◌, subst}
use Rattle.copy_slots.specs.Mail.{role_checked}
use Rattle.copy_slots.specs.SeatEnds.{Watches}
use Rattle.copy_slots.specs.Ports.{stored_of, stop_word}
use Rattle.slot_board.specs.Slots.{AllPairs, slot_state, is_watch}
use Rattle.copy_slots.proofs.Seating.{keeper_is, rewatches}
use Rattle.slot_board.proofs.Pairing.{both_of, watch_checked, checked_state}
use Rattle.slot_board.proofs.port.SlotPortPort.stopped.Goals as goal

pub invariant_of-self : goal.invariant_of-self
invariant_of-self g c = let s = c.args.self.now in let z = s.top.now.shared.table_id in let work = s.top.now.shared.key.work.value in let bs = s.watch.me.0.blanks in let w = stop_word c.check.result in let e = c.check.ensures.seat bs s.watch.me.0.role s.watches.0 in record {
  sized = s.sized;
  watches = (rewatches z work bs (role_checked w s.watch.me.0.role) c.check.new.seat e, ap (λ m. is_watch m.0.role) e.me ∙ watch_checked z work bs s.seats.items w s.watch.me.0.role s.watches.1);
  pairs = subst (λ l. AllPairs z work l s.seats.items) (sym (ap (λ m. m.0.blanks) e.me)) s.pairs;
}

pub returns-clause-state : goal.returns-clause-state
returns-clause-state g c = let s = c.args.self.now in let z = s.top.now.shared.table_id in let work = s.top.now.shared.key.work.value in let bs = s.watch.me.0.blanks in let w = stop_word c.check.result in let e = c.check.ensures.seat bs s.watch.me.0.role s.watches.0 in
    (λ i. slot_state z work (ap (λ m. m.0.blanks) e.me i) (map both_of s.seats.items) (ap (λ m. m.0.role) e.me i)) ∙ checked_state z work bs s.seats.items c.check.result s.watch.me.0.role s.watches.1

pub returns-clause-stored : goal.returns-clause-stored
returns-clause-stored g c = let s = c.args.self.now in let bs = s.watch.me.0.blanks in
    λ root yes. let k = keeper_is s.watch.me.0.role root in
    ap stored_of k.3 ∙ c.check.ensures.stored bs k.0 k.1 k.2 (subst (λ role. Watches s.top.now.shared.table_id s.top.now.shared.key.work.value bs role s.watch) k.3 s.watches.0) yes

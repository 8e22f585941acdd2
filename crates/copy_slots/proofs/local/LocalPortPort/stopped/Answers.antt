use Rattle.std.proofs.Common.{map, sym, ap, ◌∙◌, subst}
use Rattle.copy_slots.specs.Mail.{role_checked}
use Rattle.copy_slots.specs.Ports.{is_keeper, stored_of, local_state, stop_word}
use Rattle.copy_slots.specs.SeatEnds.{Watches}
use Rattle.copy_slots.specs.Fresh.{AllSit}
use Rattle.copy_slots.proofs.Seating.{root_checked, keeper_is, checked_state, rewatches}
use Rattle.copy_slots.proofs.local.LocalPortPort.stopped.Goals as goal

pub invariant_of-self-2 : goal.invariant_of-self-2
invariant_of-self-2 g c = let s = c.args.self.now in let bs = s.watch.me.0.blanks in let w = stop_word c.check.result in let e = c.check.ensures.seat bs s.watch.me.0.role s.root.0 in let new = c.check.new.seat in record {
  sized = s.sized;
  root = (rewatches s.board.shared.table_id s.board.shared.key.work.value bs (role_checked w s.watch.me.0.role) new e, ap (λ m. is_keeper m.0.role) e.me ∙ root_checked s.board.shared.key.work.value bs (map (λ b. b.seat.me.0.role) s.seats.items) w s.watch.me.0.role s.root.1);
  both = subst (λ l. AllSit s.board.shared.table_id s.board.shared.key.work.value l s.seats.items) (sym (ap (λ m. m.0.blanks) e.me)) s.both;
}

pub returns-clause-state : goal.returns-clause-state
returns-clause-state g c = let s = c.args.self.now in let bs = s.watch.me.0.blanks in let w = stop_word c.check.result in let e = c.check.ensures.seat bs s.watch.me.0.role s.root.0 in
    (λ i. local_state s.board.shared.key.work.value (ap (λ m. m.0.blanks) e.me i) (map (λ b. b.seat.me.0.role) s.seats.items) (ap (λ m. m.0.role) e.me i)) ∙ checked_state s.board.shared.key.work.value bs (map (λ b. b.seat.me.0.role) s.seats.items) c.check.result s.watch.me.0.role s.root.1

pub returns-clause-stored : goal.returns-clause-stored
returns-clause-stored g c = let s = c.args.self.now in let bs = s.watch.me.0.blanks in
    let k = keeper_is s.watch.me.0.role s.root.1 in
    λ root yes. ap stored_of k.3 ∙ c.check.ensures.stored bs k.0 k.1 k.2 (subst (λ role. Watches s.board.shared.table_id s.board.shared.key.work.value bs role s.watch) k.3 s.root.0) yes

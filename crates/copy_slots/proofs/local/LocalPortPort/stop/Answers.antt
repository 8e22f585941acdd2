use Rattle.std.proofs.Common.{map, sym, ap, ◌∙◌, subst}
use Rattle.copy_slots.specs.Mail.{role_stopped}
use Rattle.copy_slots.specs.Ports.{is_keeper, local_state}
use Rattle.copy_slots.specs.Fresh.{AllSit}
use Rattle.copy_slots.proofs.Seating.{root_stopped, stopped_state, rewatches}
use Rattle.copy_slots.proofs.local.LocalPortPort.stop.Goals as goal

pub invariant_of-self-2 : goal.invariant_of-self-2
invariant_of-self-2 g c = let s = c.args.self.now in let bs = s.watch.me.0.blanks in let e = c.stop.ensures bs s.watch.me.0.role s.root.0 in let new = c.stop.new.seat in record {
  sized = s.sized;
  root = (rewatches s.board.shared.table_id s.board.shared.key.work.value bs (role_stopped s.watch.me.0.role) new e, ap (λ m. is_keeper m.0.role) e.me ∙ root_stopped s.board.shared.key.work.value bs (map (λ b. b.seat.me.0.role) s.seats.items) s.watch.me.0.role s.root.1);
  both = subst (λ l. AllSit s.board.shared.table_id s.board.shared.key.work.value l s.seats.items) (sym (ap (λ m. m.0.blanks) e.me)) s.both;
}

pub returns : goal.returns
returns g c = let s = c.args.self.now in let bs = s.watch.me.0.blanks in let e = c.stop.ensures bs s.watch.me.0.role s.root.0 in
    (λ i. local_state s.board.shared.key.work.value (ap (λ m. m.0.blanks) e.me i) (map (λ b. b.seat.me.0.role) s.seats.items) (ap (λ m. m.0.role) e.me i)) ∙ stopped_state s.board.shared.key.work.value bs (map (λ b. b.seat.me.0.role) s.seats.items) s.watch.me.0.role s.root.1

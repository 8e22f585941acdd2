use Rattle.std.proofs.Common.{arith, ◌<◌, ◌^◌, ◌++◌, ◌∷◌, [], length, Some, sym, subst, length-set}
use Rattle.copy_slots.specs.declared.view.PacketAt.TheVariants.{Held}
use Rattle.copy_slots.specs.declared.both.BothEnds.{BothEnds}
use Rattle.copy_slots.specs.Mail.{sender_sent}
use Rattle.copy_slots.specs.SeatEnds.{IsBoard}
use Rattle.copy_slots.specs.Ports.{ends_of, IsParent, sender_in, taker_in, sent_by}
use Rattle.copy_slots.proofs.SeatEndLemmas.{role_is}
use Rattle.copy_slots.proofs.EndLists.{parent_inside}
use Rattle.copy_slots.proofs.Seating.{at_index, parent_is, parent_state, resits}
use Rattle.copy_slots.proofs.local.LocalPortPort.offer.Goals as goal

pub index_mut-requires : goal.index_mut-requires
index_mut-requires g c = let h = parent_inside (λ b. b.seat.me.0.role) ends_of c.args.self.now.seats.items c.args.k Held c.requires.held in omega (arith, h)

pub offer-requires-clause-board : goal.offer-requires-clause-board
offer-requires-clause-board g c = let s = c.args.self.now in (length s.seats.items, s.sized.1, parent_inside (λ b. b.seat.me.0.role) ends_of c.args.self.now.seats.items c.args.k Held c.requires.held)

pub offer-requires-clause-seat : goal.offer-requires-clause-seat
offer-requires-clause-seat g c = let s = c.args.self.now in let a = c.index_mut.result.now in let at = at_index s.seats.items c.args.k a (parent_inside (λ b. b.seat.me.0.role) ends_of c.args.self.now.seats.items c.args.k Held c.requires.held) c.index_mut.ensures.value in
    let sits = s.both c.args.k a at in let x = sender_in a.seat.me.0.role in let y = taker_in a.seat.me.0.role in let role = role_is s.board.shared.table_id s.board.shared.key.work.value s.watch.me.0.blanks c.args.k (Some x) (Some y) a.seat sits in
    (s.watch.me.0.blanks, x, Some y, subst (λ z. IsParent z Held) (parent_is (λ b. b.seat.me.0.role) s.seats.items c.args.k c.args.k a _ _ at role) c.requires.held, sits, subst (λ z. g.W.Work.asks s.board.shared.key.work.value c.args.k (sent_by z ++ g.W.Work.plain c.args.packet ∷ [])) (parent_is (λ b. b.seat.me.0.role) s.seats.items c.args.k c.args.k a _ _ at role) c.requires.asks)

pub invariant_of-self-2 : goal.invariant_of-self-2
invariant_of-self-2 g c = let s = c.args.self.now in let a = c.index_mut.result.now in let at = at_index s.seats.items c.args.k a (parent_inside (λ b. b.seat.me.0.role) ends_of c.args.self.now.seats.items c.args.k Held c.requires.held) c.index_mut.ensures.value in
    let sits = s.both c.args.k a at in let x = sender_in a.seat.me.0.role in let y = taker_in a.seat.me.0.role in let role = role_is s.board.shared.table_id s.board.shared.key.work.value s.watch.me.0.blanks c.args.k (Some x) (Some y) a.seat sits in
    let b : BothEnds g.row.W.Denot g.row.W-Packet.Denot g.row.W-Plain.Denot = record { seat = c.offer.new.seat } in
    record {
      sized = subst (λ n. (n < 2 ^ 32) × IsBoard s.board.shared.table_id n) (sym (length-set s.seats.items c.args.k b)) s.sized;
      root = s.root;
      both = resits s.board.shared.table_id s.board.shared.key.work.value s.watch.me.0.blanks s.seats.items c.args.k b (sender_sent (g.W.Work.plain c.args.packet) x) y s.both (c.offer.ensures s.watch.me.0.blanks x (Some y) sits);
    }

pub returns : goal.returns
returns g c = let s = c.args.self.now in let a = c.index_mut.result.now in let at = at_index s.seats.items c.args.k a (parent_inside (λ b. b.seat.me.0.role) ends_of c.args.self.now.seats.items c.args.k Held c.requires.held) c.index_mut.ensures.value in
    let sits = s.both c.args.k a at in let x = sender_in a.seat.me.0.role in let y = taker_in a.seat.me.0.role in let role = role_is s.board.shared.table_id s.board.shared.key.work.value s.watch.me.0.blanks c.args.k (Some x) (Some y) a.seat sits in
    let b : BothEnds g.row.W.Denot g.row.W-Packet.Denot g.row.W-Plain.Denot = record { seat = c.offer.new.seat } in
    let now = c.offer.ensures s.watch.me.0.blanks x (Some y) sits in
    parent_state (λ b. b.seat.me.0.role) s.board.shared.key.work.value s.watch.me.0.blanks s.watch.me.0.role s.seats.items c.args.k c.args.k a b x (sender_sent (g.W.Work.plain c.args.packet)) (Some y) at role
    (role_is s.board.shared.table_id s.board.shared.key.work.value s.watch.me.0.blanks c.args.k (Some (sender_sent (g.W.Work.plain c.args.packet) x)) (Some y) c.offer.new.seat now)

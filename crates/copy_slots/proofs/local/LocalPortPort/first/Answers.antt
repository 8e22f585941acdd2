use Rattle.std.proofs.Common.{arith, ◌<◌, ◌^◌, length, Some, sym, subst, length-set}
use Rattle.copy_slots.specs.declared.view.PacketAt.TheVariants.{Fresh}
use Rattle.copy_slots.specs.declared.both.BothEnds.{BothEnds}
use Rattle.copy_slots.specs.Mail.{sender_opened}
use Rattle.copy_slots.specs.SeatEnds.{IsBoard}
use Rattle.copy_slots.specs.Ports.{ends_of, IsParent, sender_in, taker_in}
use Rattle.copy_slots.proofs.SeatEndLemmas.{role_is}
use Rattle.copy_slots.proofs.EndLists.{parent_inside}
use Rattle.copy_slots.proofs.Seating.{at_index, parent_is, parent_state, resits}
use Rattle.copy_slots.proofs.local.LocalPortPort.first.Goals as goal

pub index_mut-requires : goal.index_mut-requires
index_mut-requires g c = let h = parent_inside (λ b. b.seat.me.0.role) ends_of c.args.self.now.seats.items c.args.k Fresh c.requires in omega (arith, h)

pub open-requires-clause-board : goal.open-requires-clause-board
open-requires-clause-board g c = let s = c.args.self.now in (length s.seats.items, s.sized.1, parent_inside (λ b. b.seat.me.0.role) ends_of s.seats.items c.args.k Fresh c.requires)

pub open-requires-clause-seat : goal.open-requires-clause-seat
open-requires-clause-seat g c = let s = c.args.self.now in let a = c.index_mut.result.now in let at = at_index s.seats.items c.args.k a (parent_inside (λ b. b.seat.me.0.role) ends_of s.seats.items c.args.k Fresh c.requires) c.index_mut.ensures.value in
    let sits = s.both c.args.k a at in let role = role_is s.board.shared.table_id s.board.shared.key.work.value s.watch.me.0.blanks c.args.k (Some (sender_in a.seat.me.0.role)) (Some (taker_in a.seat.me.0.role)) a.seat sits in
    (s.watch.me.0.blanks, sender_in a.seat.me.0.role, Some (taker_in a.seat.me.0.role), subst (λ z. IsParent z Fresh) (parent_is (λ b. b.seat.me.0.role) s.seats.items c.args.k c.args.k a _ _ at role) c.requires, sits)

pub invariant_of-self-2 : goal.invariant_of-self-2
invariant_of-self-2 g c = let s = c.args.self.now in let a = c.index_mut.result.now in let at = at_index s.seats.items c.args.k a (parent_inside (λ b. b.seat.me.0.role) ends_of s.seats.items c.args.k Fresh c.requires) c.index_mut.ensures.value in
    let sits = s.both c.args.k a at in let x = sender_in a.seat.me.0.role in let y = taker_in a.seat.me.0.role in let b : BothEnds g.row.W.Denot g.row.W-Packet.Denot g.row.W-Plain.Denot = record { seat = c.open.new.seat } in record {
      sized = subst (λ n. (n < 2 ^ 32) × IsBoard s.board.shared.table_id n) (sym (length-set s.seats.items c.args.k b)) s.sized;
      root = s.root;
      both = resits s.board.shared.table_id s.board.shared.key.work.value s.watch.me.0.blanks s.seats.items c.args.k b (sender_opened x) y s.both (c.open.ensures.seat s.watch.me.0.blanks x (Some y) sits);
    }

pub returns-clause-state : goal.returns-clause-state
returns-clause-state g c = let s = c.args.self.now in let a = c.index_mut.result.now in let at = at_index s.seats.items c.args.k a (parent_inside (λ b. b.seat.me.0.role) ends_of s.seats.items c.args.k Fresh c.requires) c.index_mut.ensures.value in
    let sits = s.both c.args.k a at in let x = sender_in a.seat.me.0.role in let y = taker_in a.seat.me.0.role in let b : BothEnds g.row.W.Denot g.row.W-Packet.Denot g.row.W-Plain.Denot = record { seat = c.open.new.seat } in
    let now = c.open.ensures.seat s.watch.me.0.blanks x (Some y) sits in
    parent_state (λ b. b.seat.me.0.role) s.board.shared.key.work.value s.watch.me.0.blanks s.watch.me.0.role s.seats.items c.args.k c.args.k a b x sender_opened (Some y) at
    (role_is s.board.shared.table_id s.board.shared.key.work.value s.watch.me.0.blanks c.args.k (Some x) (Some y) a.seat sits)
    (role_is s.board.shared.table_id s.board.shared.key.work.value s.watch.me.0.blanks c.args.k (Some (sender_opened x)) (Some y) c.open.new.seat now)

pub returns-clause-blank : goal.returns-clause-blank
returns-clause-blank g c = let s = c.args.self.now in let a = c.index_mut.result.now in let at = at_index s.seats.items c.args.k a (parent_inside (λ b. b.seat.me.0.role) ends_of s.seats.items c.args.k Fresh c.requires) c.index_mut.ensures.value in
    c.open.ensures.blank s.watch.me.0.blanks (sender_in a.seat.me.0.role) (Some (taker_in a.seat.me.0.role)) (s.both c.args.k a at)

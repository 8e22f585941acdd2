use Rattle.std.proofs.Common.{arith, ◌≡◌, ◌<◌, ◌^◌, length, Some, sym, ◌∙◌, subst, length-set}
use Rattle.copy_slots.specs.declared.view.PacketAt.TheVariants.{Out}
use Rattle.copy_slots.specs.declared.both.BothEnds.{BothEnds}
use Rattle.copy_slots.specs.SeatEnds.{IsBoard}
use Rattle.copy_slots.specs.Ports.{ends_of, IsParent, sender_in, taker_in, sender_seen, sent_by, turn_of}
use Rattle.copy_slots.proofs.SeatEndLemmas.{role_is}
use Rattle.std.proofs.lemmas.Option.{IfSome_then}
use Rattle.copy_slots.specs.Ports.{in_plain}
use Rattle.copy_slots.proofs.EndLists.{parent_inside}
use Rattle.copy_slots.proofs.PortLemmas.{match_then}
use Rattle.copy_slots.proofs.Seating.{at_index, parent_is, child_is, parent_state, resits}
use Rattle.copy_slots.proofs.local.LocalPortPort.collect.Goals as goal

pub index_mut-requires : goal.index_mut-requires
index_mut-requires g c = let h = parent_inside (λ b. b.seat.me.0.role) ends_of c.args.self.now.seats.items c.args.k Out c.requires in omega (arith, h)

pub collect-requires-clause-board : goal.collect-requires-clause-board
collect-requires-clause-board g c = let s = c.args.self.now in (length s.seats.items, s.sized.1, parent_inside (λ b. b.seat.me.0.role) ends_of c.args.self.now.seats.items c.args.k Out c.requires)

pub collect-requires-clause-seat : goal.collect-requires-clause-seat
collect-requires-clause-seat g c = let s = c.args.self.now in let a = c.index_mut.result.now in let at = at_index s.seats.items c.args.k a (parent_inside (λ b. b.seat.me.0.role) ends_of c.args.self.now.seats.items c.args.k Out c.requires) c.index_mut.ensures.value in
    let sits = s.both c.args.k a at in let x = sender_in a.seat.me.0.role in let y = taker_in a.seat.me.0.role in let role = role_is s.board.shared.table_id s.board.shared.key.work.value s.watch.me.0.blanks c.args.k (Some x) (Some y) a.seat sits in
    (s.watch.me.0.blanks, x, Some y, subst (λ z. IsParent z Out) (parent_is (λ b. b.seat.me.0.role) s.seats.items c.args.k c.args.k a _ _ at role) c.requires, sits)

pub invariant_of-self-2 : goal.invariant_of-self-2
invariant_of-self-2 g c = let s = c.args.self.now in let a = c.index_mut.result.now in let at = at_index s.seats.items c.args.k a (parent_inside (λ b. b.seat.me.0.role) ends_of c.args.self.now.seats.items c.args.k Out c.requires) c.index_mut.ensures.value in
    let sits = s.both c.args.k a at in let x = sender_in a.seat.me.0.role in let y = taker_in a.seat.me.0.role in let role = role_is s.board.shared.table_id s.board.shared.key.work.value s.watch.me.0.blanks c.args.k (Some x) (Some y) a.seat sits in
    let b : BothEnds g.row.W.Denot g.row.W-Packet.Denot g.row.W-Plain.Denot = record { seat = c.collect.new.seat } in
    record {
      sized = subst (λ n. (n < 2 ^ 32) × IsBoard s.board.shared.table_id n) (sym (length-set s.seats.items c.args.k b)) s.sized;
      root = s.root;
      both = resits s.board.shared.table_id s.board.shared.key.work.value s.watch.me.0.blanks s.seats.items c.args.k b (sender_seen (in_plain g.W.Work.plain c.collect.result) x) y s.both (c.collect.ensures.seat s.watch.me.0.blanks x (Some y) sits);
    }

pub returns-clause-state : goal.returns-clause-state
returns-clause-state g c = let s = c.args.self.now in let a = c.index_mut.result.now in let at = at_index s.seats.items c.args.k a (parent_inside (λ b. b.seat.me.0.role) ends_of c.args.self.now.seats.items c.args.k Out c.requires) c.index_mut.ensures.value in
    let sits = s.both c.args.k a at in let x = sender_in a.seat.me.0.role in let y = taker_in a.seat.me.0.role in let role = role_is s.board.shared.table_id s.board.shared.key.work.value s.watch.me.0.blanks c.args.k (Some x) (Some y) a.seat sits in
    let b : BothEnds g.row.W.Denot g.row.W-Packet.Denot g.row.W-Plain.Denot = record { seat = c.collect.new.seat } in
    let now = c.collect.ensures.seat s.watch.me.0.blanks x (Some y) sits in
    parent_state (λ b. b.seat.me.0.role) s.board.shared.key.work.value s.watch.me.0.blanks s.watch.me.0.role s.seats.items c.args.k c.args.k a b x (sender_seen (in_plain g.W.Work.plain c.collect.result)) (Some y) at role
    (role_is s.board.shared.table_id s.board.shared.key.work.value s.watch.me.0.blanks c.args.k (Some (sender_seen (in_plain g.W.Work.plain c.collect.result) x)) (Some y) c.collect.new.seat now)

pub returns-clause-reply : goal.returns-clause-reply
returns-clause-reply g c = let s = c.args.self.now in let a = c.index_mut.result.now in let at = at_index s.seats.items c.args.k a (parent_inside (λ b. b.seat.me.0.role) ends_of c.args.self.now.seats.items c.args.k Out c.requires) c.index_mut.ensures.value in
    let sits = s.both c.args.k a at in let x = sender_in a.seat.me.0.role in let y = taker_in a.seat.me.0.role in let role = role_is s.board.shared.table_id s.board.shared.key.work.value s.watch.me.0.blanks c.args.k (Some x) (Some y) a.seat sits in
    IfSome_then c.collect.result c.collect.ensures.reply (λ r h. subst (λ z. g.W.Work.answers s.board.shared.key.work.value c.args.k (sent_by z) (g.W.Work.plain r)) (sym (parent_is (λ b. b.seat.me.0.role) s.seats.items c.args.k c.args.k a (Some x) (Some y) at role)) (h s.watch.me.0.blanks x (Some y) sits))

pub returns-clause-turn : goal.returns-clause-turn
returns-clause-turn g c told = let s = c.args.self.now in let a = c.index_mut.result.now in let at = at_index s.seats.items c.args.k a (parent_inside (λ b. b.seat.me.0.role) ends_of c.args.self.now.seats.items c.args.k Out c.requires) c.index_mut.ensures.value in
    let sits = s.both c.args.k a at in let x = sender_in a.seat.me.0.role in let y = taker_in a.seat.me.0.role in let role = role_is s.board.shared.table_id s.board.shared.key.work.value s.watch.me.0.blanks c.args.k (Some x) (Some y) a.seat sits in
    let same : turn_of (Some x) (Some y) ≡ _ = (λ i. turn_of (sym (parent_is (λ b. b.seat.me.0.role) s.seats.items c.args.k c.args.k a (Some x) (Some y) at role) i) (sym (child_is (λ b. b.seat.me.0.role) s.seats.items c.args.k c.args.k a (Some x) (Some y) at role) i)) in
    match_then c.collect.result _ _ _ _ (c.collect.ensures.turn s.watch.me.0.blanks x y sits) (λ n e. n (same ∙ e)) (λ r e. sym same ∙ e)

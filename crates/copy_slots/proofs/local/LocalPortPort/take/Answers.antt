use Rattle.std.proofs.Common.{arith, ◌<◌, ◌^◌, length, set, Some, false, sym, ap, subst, length-set}
use Rattle.copy_slots.specs.declared.both.BothEnds.{BothEnds}
use Rattle.copy_slots.specs.SeatEnds.{IsBoard}
use Rattle.copy_slots.specs.Ports.{ends_of, IsChild, sender_in, taker_in, taker_seen, sent_by, taken_by, turn_of}
use Rattle.copy_slots.proofs.SeatEndLemmas.{role_is}
use Rattle.std.proofs.lemmas.Option.{IfSome_then}
use Rattle.copy_slots.specs.Ports.{in_plain}
use Rattle.copy_slots.proofs.EndLists.{child_inside}
use Rattle.copy_slots.proofs.PortLemmas.{job_then, turn_then, set_at}
use Rattle.copy_slots.proofs.Seating.{at_index, parent_is, child_is, child_state, resits}
use Rattle.copy_slots.proofs.local.LocalPortPort.take.Goals as goal

pub index_mut-requires : goal.index_mut-requires
index_mut-requires g c = let h = child_inside (λ b. b.seat.me.0.role) ends_of c.args.self.now.seats.items c.args.k false c.requires in omega (arith, h)

pub take-requires-clause-board : goal.take-requires-clause-board
take-requires-clause-board g c = let s = c.args.self.now in (length s.seats.items, s.sized.1, child_inside (λ b. b.seat.me.0.role) ends_of c.args.self.now.seats.items c.args.k false c.requires)

pub take-requires-clause-seat : goal.take-requires-clause-seat
take-requires-clause-seat g c = let s = c.args.self.now in let a = c.index_mut.result.now in let at = at_index s.seats.items c.args.k a (child_inside (λ b. b.seat.me.0.role) ends_of c.args.self.now.seats.items c.args.k false c.requires) c.index_mut.ensures.value in
    let sits = s.both c.args.k a at in let x = sender_in a.seat.me.0.role in let y = taker_in a.seat.me.0.role in let role = role_is s.board.shared.table_id s.board.shared.key.work.value s.watch.me.0.blanks c.args.k (Some x) (Some y) a.seat sits in
    (s.watch.me.0.blanks, Some x, y, subst (λ z. IsChild z false) (child_is (λ b. b.seat.me.0.role) s.seats.items c.args.k c.args.k a _ _ at role) c.requires, sits)

pub invariant_of-self-2 : goal.invariant_of-self-2
invariant_of-self-2 g c = let s = c.args.self.now in let a = c.index_mut.result.now in let at = at_index s.seats.items c.args.k a (child_inside (λ b. b.seat.me.0.role) ends_of c.args.self.now.seats.items c.args.k false c.requires) c.index_mut.ensures.value in
    let sits = s.both c.args.k a at in let x = sender_in a.seat.me.0.role in let y = taker_in a.seat.me.0.role in let role = role_is s.board.shared.table_id s.board.shared.key.work.value s.watch.me.0.blanks c.args.k (Some x) (Some y) a.seat sits in
    let b : BothEnds g.row.W.Denot g.row.W-Packet.Denot g.row.W-Plain.Denot = record { seat = c.take.new.seat } in
    record {
      sized = subst (λ n. (n < 2 ^ 32) × IsBoard s.board.shared.table_id n) (sym (length-set s.seats.items c.args.k b)) s.sized;
      root = s.root;
      both = resits s.board.shared.table_id s.board.shared.key.work.value s.watch.me.0.blanks s.seats.items c.args.k b x (taker_seen (in_plain g.W.Work.plain c.take.result) y) s.both (c.take.ensures.seat s.watch.me.0.blanks (Some x) y sits);
    }

pub returns-clause-state : goal.returns-clause-state
returns-clause-state g c = let s = c.args.self.now in let a = c.index_mut.result.now in let at = at_index s.seats.items c.args.k a (child_inside (λ b. b.seat.me.0.role) ends_of c.args.self.now.seats.items c.args.k false c.requires) c.index_mut.ensures.value in
    let sits = s.both c.args.k a at in let x = sender_in a.seat.me.0.role in let y = taker_in a.seat.me.0.role in let role = role_is s.board.shared.table_id s.board.shared.key.work.value s.watch.me.0.blanks c.args.k (Some x) (Some y) a.seat sits in
    let b : BothEnds g.row.W.Denot g.row.W-Packet.Denot g.row.W-Plain.Denot = record { seat = c.take.new.seat } in
    let now = c.take.ensures.seat s.watch.me.0.blanks (Some x) y sits in
    child_state (λ b. b.seat.me.0.role) s.board.shared.key.work.value s.watch.me.0.blanks s.watch.me.0.role s.seats.items c.args.k c.args.k a b y (taker_seen (in_plain g.W.Work.plain c.take.result)) (Some x) at role
    (role_is s.board.shared.table_id s.board.shared.key.work.value s.watch.me.0.blanks c.args.k (Some x) (Some (taker_seen (in_plain g.W.Work.plain c.take.result) y)) c.take.new.seat now)

pub returns-clause-job : goal.returns-clause-job
returns-clause-job g c = let s = c.args.self.now in let a = c.index_mut.result.now in let at = at_index s.seats.items c.args.k a (child_inside (λ b. b.seat.me.0.role) ends_of c.args.self.now.seats.items c.args.k false c.requires) c.index_mut.ensures.value in
    let sits = s.both c.args.k a at in let x = sender_in a.seat.me.0.role in let y = taker_in a.seat.me.0.role in let role = role_is s.board.shared.table_id s.board.shared.key.work.value s.watch.me.0.blanks c.args.k (Some x) (Some y) a.seat sits in
    let b : BothEnds g.row.W.Denot g.row.W-Packet.Denot g.row.W-Plain.Denot = record { seat = c.take.new.seat } in let now = c.take.ensures.seat s.watch.me.0.blanks (Some x) y sits in
    let role' = role_is s.board.shared.table_id s.board.shared.key.work.value s.watch.me.0.blanks c.args.k (Some x) (Some (taker_seen (in_plain g.W.Work.plain c.take.result) y)) c.take.new.seat now in let here = set_at s.seats.items c.args.k b (child_inside (λ b. b.seat.me.0.role) ends_of c.args.self.now.seats.items c.args.k false c.requires) in
    job_then g.W.Work.plain y _ c.take.result (λ l. g.W.Work.asks s.board.shared.key.work.value c.args.k l) (ap taken_by (child_is (λ b. b.seat.me.0.role) (set s.seats.items c.args.k b) c.args.k c.args.k b (Some x) (Some (taker_seen (in_plain g.W.Work.plain c.take.result) y)) here role')) (IfSome_then c.take.result c.take.ensures.job (λ r h. h s.watch.me.0.blanks (Some x) y sits))

pub returns-clause-turn : goal.returns-clause-turn
returns-clause-turn g c told = let s = c.args.self.now in let a = c.index_mut.result.now in let at = at_index s.seats.items c.args.k a (child_inside (λ b. b.seat.me.0.role) ends_of c.args.self.now.seats.items c.args.k false c.requires) c.index_mut.ensures.value in
    let sits = s.both c.args.k a at in let x = sender_in a.seat.me.0.role in let y = taker_in a.seat.me.0.role in let role = role_is s.board.shared.table_id s.board.shared.key.work.value s.watch.me.0.blanks c.args.k (Some x) (Some y) a.seat sits in
    let b : BothEnds g.row.W.Denot g.row.W-Packet.Denot g.row.W-Plain.Denot = record { seat = c.take.new.seat } in let now = c.take.ensures.seat s.watch.me.0.blanks (Some x) y sits in
    let role' = role_is s.board.shared.table_id s.board.shared.key.work.value s.watch.me.0.blanks c.args.k (Some x) (Some (taker_seen (in_plain g.W.Work.plain c.take.result) y)) c.take.new.seat now in let here = set_at s.seats.items c.args.k b (child_inside (λ b. b.seat.me.0.role) ends_of c.args.self.now.seats.items c.args.k false c.requires) in
    turn_then g.W.Work.plain y _ c.take.result x.sent _ (turn_of (Some x) (Some y)) _ (ap taken_by (child_is (λ b. b.seat.me.0.role) (set s.seats.items c.args.k b) c.args.k c.args.k b (Some x) (Some (taker_seen (in_plain g.W.Work.plain c.take.result) y)) here role')) (ap sent_by (parent_is (λ b. b.seat.me.0.role) (set s.seats.items c.args.k b) c.args.k c.args.k b (Some x) (Some (taker_seen (in_plain g.W.Work.plain c.take.result) y)) here role')) (λ i. turn_of (parent_is (λ b. b.seat.me.0.role) s.seats.items c.args.k c.args.k a (Some x) (Some y) at role i) (child_is (λ b. b.seat.me.0.role) s.seats.items c.args.k c.args.k a (Some x) (Some y) at role i))
    (c.take.ensures.turn s.watch.me.0.blanks x y sits)

use Rattle.std.proofs.Common.{arith, ◌<◌, ◌^◌, length, Some, true, sym, subst, length-set}
use Rattle.copy_slots.specs.declared.both.BothEnds.{BothEnds}
use Rattle.copy_slots.specs.Mail.{taker_answered}
use Rattle.copy_slots.specs.SeatEnds.{IsBoard}
use Rattle.copy_slots.specs.Ports.{ends_of, IsChild, sender_in, taker_in, taken_by}
use Rattle.copy_slots.proofs.SeatEndLemmas.{role_is}
use Rattle.copy_slots.proofs.EndLists.{child_inside}
use Rattle.copy_slots.proofs.Seating.{at_index, child_is, child_state, resits}
use Rattle.copy_slots.proofs.local.LocalPortPort.answer.Goals as goal

pub index_mut-requires : goal.index_mut-requires
index_mut-requires g c = let h = child_inside (λ b. b.seat.me.0.role) ends_of c.args.self.now.seats.items c.args.k true c.requires.held in omega (arith, h)

pub answer-requires-clause-board : goal.answer-requires-clause-board
answer-requires-clause-board g c = let s = c.args.self.now in (length s.seats.items, s.sized.1, child_inside (λ b. b.seat.me.0.role) ends_of c.args.self.now.seats.items c.args.k true c.requires.held)

pub answer-requires-clause-seat : goal.answer-requires-clause-seat
answer-requires-clause-seat g c = let s = c.args.self.now in let a = c.index_mut.result.now in let at = at_index s.seats.items c.args.k a (child_inside (λ b. b.seat.me.0.role) ends_of c.args.self.now.seats.items c.args.k true c.requires.held) c.index_mut.ensures.value in
    let sits = s.both c.args.k a at in let x = sender_in a.seat.me.0.role in let y = taker_in a.seat.me.0.role in let role = role_is s.board.shared.table_id s.board.shared.key.work.value s.watch.me.0.blanks c.args.k (Some x) (Some y) a.seat sits in
    (s.watch.me.0.blanks, Some x, y, subst (λ z. IsChild z true) (child_is (λ b. b.seat.me.0.role) s.seats.items c.args.k c.args.k a _ _ at role) c.requires.held, sits, subst (λ z. g.W.Work.answers s.board.shared.key.work.value c.args.k (taken_by z) (g.W.Work.plain c.args.packet)) (child_is (λ b. b.seat.me.0.role) s.seats.items c.args.k c.args.k a _ _ at role) c.requires.answers)

pub invariant_of-self-2 : goal.invariant_of-self-2
invariant_of-self-2 g c = let s = c.args.self.now in let a = c.index_mut.result.now in let at = at_index s.seats.items c.args.k a (child_inside (λ b. b.seat.me.0.role) ends_of c.args.self.now.seats.items c.args.k true c.requires.held) c.index_mut.ensures.value in
    let sits = s.both c.args.k a at in let x = sender_in a.seat.me.0.role in let y = taker_in a.seat.me.0.role in let role = role_is s.board.shared.table_id s.board.shared.key.work.value s.watch.me.0.blanks c.args.k (Some x) (Some y) a.seat sits in
    let b : BothEnds g.row.W.Denot g.row.W-Packet.Denot g.row.W-Plain.Denot = record { seat = c.answer.new.seat } in
    record {
      sized = subst (λ n. (n < 2 ^ 32) × IsBoard s.board.shared.table_id n) (sym (length-set s.seats.items c.args.k b)) s.sized;
      root = s.root;
      both = resits s.board.shared.table_id s.board.shared.key.work.value s.watch.me.0.blanks s.seats.items c.args.k b x (taker_answered (g.W.Work.plain c.args.packet) y) s.both (c.answer.ensures s.watch.me.0.blanks (Some x) y sits);
    }

pub returns : goal.returns
returns g c = let s = c.args.self.now in let a = c.index_mut.result.now in let at = at_index s.seats.items c.args.k a (child_inside (λ b. b.seat.me.0.role) ends_of c.args.self.now.seats.items c.args.k true c.requires.held) c.index_mut.ensures.value in
    let sits = s.both c.args.k a at in let x = sender_in a.seat.me.0.role in let y = taker_in a.seat.me.0.role in let role = role_is s.board.shared.table_id s.board.shared.key.work.value s.watch.me.0.blanks c.args.k (Some x) (Some y) a.seat sits in
    let b : BothEnds g.row.W.Denot g.row.W-Packet.Denot g.row.W-Plain.Denot = record { seat = c.answer.new.seat } in
    let now = c.answer.ensures s.watch.me.0.blanks (Some x) y sits in
    child_state (λ b. b.seat.me.0.role) s.board.shared.key.work.value s.watch.me.0.blanks s.watch.me.0.role s.seats.items c.args.k c.args.k a b y (taker_answered (g.W.Work.plain c.args.packet)) (Some x) at role
    (role_is s.board.shared.table_id s.board.shared.key.work.value s.watch.me.0.blanks c.args.k (Some x) (Some (taker_answered (g.W.Work.plain c.args.packet) y)) c.answer.new.seat now)

use Rattle.std.proofs.Common.{arith, None, false, ap}
use Rattle.std.proofs.lemmas.Option.{IfSome_then}
use Rattle.copy_slots.specs.Ports.{taker_in, taker_seen, in_plain, taken_by}
use Rattle.copy_slots.proofs.PortLemmas.{job_then}
use Rattle.slot_board.proofs.SeatLemmas.{child_near, child_board, child_found, child_sits, child_has, child_fields, child_after, child_new}
use Rattle.slot_board.proofs.port.SlotPortPort.take.Goals as goal

pub index_mut-requires : goal.index_mut-requires
index_mut-requires g c = let h = child_near c.args.self.now c.args.k false c.requires in omega (arith, h)

pub unreachable-requires : goal.unreachable-requires
unreachable-requires g c = child_found c.args.self.now c.args.k false c.requires c.index_mut.result.now c.index_mut.ensures.value None c.in_default.is

pub take-requires-clause-board : goal.take-requires-clause-board
take-requires-clause-board g c = child_board c.args.self.now c.args.k false c.requires

pub take-requires-clause-seat : goal.take-requires-clause-seat
take-requires-clause-seat g c = child_has c.args.self.now c.args.k false c.requires c.index_mut.result.now c.index_mut.ensures.value c.in-Some.seat c.in-Some.is

pub invariant_of-self : goal.invariant_of-self
invariant_of-self g c = child_fields c.args.self.now c.args.k false c.requires c.index_mut.result.now c.index_mut.ensures.value c.in-Some.seat c.in-Some.is c.take.new.seat (taker_seen (in_plain g.W.Work.plain c.take.result)) c.take.ensures.seat

pub returns-clause-state : goal.returns-clause-state
returns-clause-state g c = child_after c.args.self.now c.args.k false c.requires c.index_mut.result.now c.index_mut.ensures.value c.in-Some.seat c.in-Some.is c.take.new.seat (taker_seen (in_plain g.W.Work.plain c.take.result)) c.take.ensures.seat

pub returns-clause-job : goal.returns-clause-job
returns-clause-job g c = job_then g.W.Work.plain (taker_in c.in-Some.seat.me.0.role) _ c.take.result (λ l. g.W.Work.asks c.args.self.now.top.now.shared.key.work.value c.args.k l)
    (ap taken_by (child_new c.args.self.now c.args.k false c.requires c.index_mut.result.now c.index_mut.ensures.value c.in-Some.seat c.in-Some.is c.take.new.seat (taker_seen (in_plain g.W.Work.plain c.take.result)) c.take.ensures.seat))
    (IfSome_then c.take.result c.take.ensures.job (λ r h. h c.args.self.now.watch.me.0.blanks None _ (child_sits c.args.self.now c.args.k false c.requires c.index_mut.result.now c.index_mut.ensures.value c.in-Some.seat c.in-Some.is)))

use Rattle.std.proofs.Common.{arith, None, true}
use Rattle.copy_slots.specs.Mail.{taker_answered}
use Rattle.slot_board.proofs.SeatLemmas.{child_near, child_board, child_found, child_can, child_fields, child_after}
use Rattle.slot_board.proofs.port.SlotPortPort.answer.Goals as goal

pub index_mut-requires : goal.index_mut-requires
index_mut-requires g c = let h = child_near c.args.self.now c.args.k true c.requires.held in omega (arith, h)

pub unreachable-requires : goal.unreachable-requires
unreachable-requires g c = child_found c.args.self.now c.args.k true c.requires.held c.index_mut.result.now c.index_mut.ensures.value None c.in_default.is

pub answer-requires-clause-board : goal.answer-requires-clause-board
answer-requires-clause-board g c = child_board c.args.self.now c.args.k true c.requires.held

pub answer-requires-clause-seat : goal.answer-requires-clause-seat
answer-requires-clause-seat g c = child_can c.args.self.now c.args.k true c.requires.held c.index_mut.result.now c.index_mut.ensures.value c.in-Some.seat c.in-Some.is g.W.Work.answers (g.W.Work.plain c.args.packet) c.requires.answers

pub invariant_of-self : goal.invariant_of-self
invariant_of-self g c = child_fields c.args.self.now c.args.k true c.requires.held c.index_mut.result.now c.index_mut.ensures.value c.in-Some.seat c.in-Some.is c.answer.new.seat (taker_answered (g.W.Work.plain c.args.packet)) c.answer.ensures

pub returns : goal.returns
returns g c = child_after c.args.self.now c.args.k true c.requires.held c.index_mut.result.now c.index_mut.ensures.value c.in-Some.seat c.in-Some.is c.answer.new.seat (taker_answered (g.W.Work.plain c.args.packet)) c.answer.ensures

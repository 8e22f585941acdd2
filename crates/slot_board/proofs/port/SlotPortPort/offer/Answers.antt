use Rattle.std.proofs.Common.{arith, None}
use Rattle.copy_slots.specs.declared.view.PacketAt.TheVariants.{Held}
use Rattle.copy_slots.specs.Mail.{sender_sent}
use Rattle.slot_board.proofs.SeatLemmas.{parent_near, parent_board, parent_found, parent_can, parent_fields, parent_after}
use Rattle.slot_board.proofs.port.SlotPortPort.offer.Goals as goal

pub index_mut-requires : goal.index_mut-requires
index_mut-requires g c = let h = parent_near c.args.self.now c.args.k Held c.requires.held in omega (arith, h)

pub unreachable-requires : goal.unreachable-requires
unreachable-requires g c = parent_found c.args.self.now c.args.k Held c.requires.held c.index_mut.result.now c.index_mut.ensures.value None c.in_default.is

pub offer-requires-clause-board : goal.offer-requires-clause-board
offer-requires-clause-board g c = parent_board c.args.self.now c.args.k Held c.requires.held

pub offer-requires-clause-seat : goal.offer-requires-clause-seat
offer-requires-clause-seat g c = parent_can c.args.self.now c.args.k Held c.requires.held c.index_mut.result.now c.index_mut.ensures.value c.in-Some.seat c.in-Some.is g.W.Work.asks (g.W.Work.plain c.args.packet) c.requires.asks

pub invariant_of-self : goal.invariant_of-self
invariant_of-self g c = parent_fields c.args.self.now c.args.k Held c.requires.held c.index_mut.result.now c.index_mut.ensures.value c.in-Some.seat c.in-Some.is c.offer.new.seat (sender_sent (g.W.Work.plain c.args.packet)) c.offer.ensures

pub returns : goal.returns
returns g c = parent_after c.args.self.now c.args.k Held c.requires.held c.index_mut.result.now c.index_mut.ensures.value c.in-Some.seat c.in-Some.is c.offer.new.seat (sender_sent (g.W.Work.plain c.args.packet)) c.offer.ensures

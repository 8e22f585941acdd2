use Rattle.std.proofs.Common.{arith, None}
use Rattle.copy_slots.specs.declared.view.PacketAt.TheVariants.{Fresh}
use Rattle.copy_slots.specs.Mail.{sender_opened}
use Rattle.slot_board.proofs.SeatLemmas.{parent_near, parent_board, parent_found, parent_sits, parent_has, parent_fields, parent_after}
use Rattle.slot_board.proofs.port.SlotPortPort.first.Goals as goal

pub index_mut-requires : goal.index_mut-requires
index_mut-requires g c = let h = parent_near c.args.self.now c.args.k Fresh c.requires in omega (arith, h)

pub unreachable-requires : goal.unreachable-requires
unreachable-requires g c = parent_found c.args.self.now c.args.k Fresh c.requires c.index_mut.result.now c.index_mut.ensures.value None c.in_default.is

pub open-requires-clause-board : goal.open-requires-clause-board
open-requires-clause-board g c = parent_board c.args.self.now c.args.k Fresh c.requires

pub open-requires-clause-seat : goal.open-requires-clause-seat
open-requires-clause-seat g c = parent_has c.args.self.now c.args.k Fresh c.requires c.index_mut.result.now c.index_mut.ensures.value c.in-Some.seat c.in-Some.is

pub invariant_of-self : goal.invariant_of-self
invariant_of-self g c = parent_fields c.args.self.now c.args.k Fresh c.requires c.index_mut.result.now c.index_mut.ensures.value c.in-Some.seat c.in-Some.is c.open.new.seat sender_opened c.open.ensures.seat

pub returns-clause-state : goal.returns-clause-state
returns-clause-state g c = parent_after c.args.self.now c.args.k Fresh c.requires c.index_mut.result.now c.index_mut.ensures.value c.in-Some.seat c.in-Some.is c.open.new.seat sender_opened c.open.ensures.seat

pub returns-clause-blank : goal.returns-clause-blank
returns-clause-blank g c = c.open.ensures.blank c.args.self.now.watch.me.0.blanks _ None (parent_sits c.args.self.now c.args.k Fresh c.requires c.index_mut.result.now c.index_mut.ensures.value c.in-Some.seat c.in-Some.is)

use Rattle.std.proofs.Common.{arith, None, sym, subst}
use Rattle.std.proofs.lemmas.Option.{IfSome_then}
use Rattle.copy_slots.specs.declared.view.PacketAt.TheVariants.{Out}
use Rattle.copy_slots.specs.Ports.{in_plain, sender_seen, sent_by}
use Rattle.slot_board.proofs.SeatLemmas.{parent_near, parent_board, parent_found, parent_sits, parent_has, parent_says, parent_fields, parent_after}
use Rattle.slot_board.proofs.port.SlotPortPort.collect.Goals as goal

pub index_mut-requires : goal.index_mut-requires
index_mut-requires g c = let h = parent_near c.args.self.now c.args.k Out c.requires in omega (arith, h)

pub unreachable-requires : goal.unreachable-requires
unreachable-requires g c = parent_found c.args.self.now c.args.k Out c.requires c.index_mut.result.now c.index_mut.ensures.value None c.in_default.is

pub collect-requires-clause-board : goal.collect-requires-clause-board
collect-requires-clause-board g c = parent_board c.args.self.now c.args.k Out c.requires

pub collect-requires-clause-seat : goal.collect-requires-clause-seat
collect-requires-clause-seat g c = parent_has c.args.self.now c.args.k Out c.requires c.index_mut.result.now c.index_mut.ensures.value c.in-Some.seat c.in-Some.is

pub invariant_of-self : goal.invariant_of-self
invariant_of-self g c = parent_fields c.args.self.now c.args.k Out c.requires c.index_mut.result.now c.index_mut.ensures.value c.in-Some.seat c.in-Some.is c.collect.new.seat (sender_seen (in_plain g.W.Work.plain c.collect.result)) c.collect.ensures.seat

pub returns-clause-state : goal.returns-clause-state
returns-clause-state g c = parent_after c.args.self.now c.args.k Out c.requires c.index_mut.result.now c.index_mut.ensures.value c.in-Some.seat c.in-Some.is c.collect.new.seat (sender_seen (in_plain g.W.Work.plain c.collect.result)) c.collect.ensures.seat

pub returns-clause-reply : goal.returns-clause-reply
returns-clause-reply g c = IfSome_then c.collect.result c.collect.ensures.reply (λ r h. subst (λ z. g.W.Work.answers c.args.self.now.top.now.shared.key.work.value c.args.k (sent_by z) (g.W.Work.plain r))
    (sym (parent_says c.args.self.now c.args.k Out c.requires c.index_mut.result.now c.index_mut.ensures.value c.in-Some.seat c.in-Some.is)) (h c.args.self.now.watch.me.0.blanks _ None (parent_sits c.args.self.now c.args.k Out c.requires c.index_mut.result.now c.index_mut.ensures.value c.in-Some.seat c.in-Some.is)))

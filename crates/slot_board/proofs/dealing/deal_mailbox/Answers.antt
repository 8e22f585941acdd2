use Rattle.std.proofs.Common.{refl}
use Rattle.slot_board.proofs.dealing.deal_mailbox.Goals as goal

pub part-child-requires-clause-seat : goal.part-child-requires-clause-seat
part-child-requires-clause-seat g c = let r = c.requires.keeper in (r.0, c.args.from, (c.deal_one-parent.ensures r.0 r.2).1)

pub returns : goal.returns
returns g c = λ bs h. let d = c.deal_one-parent.ensures bs h in let p = c.part-child.ensures bs c.args.from d.1 in
    (d.0, record { parent = (c.part-child.new.seat, refl, p.0); child = (c.part-child.result, refl, p.1) })

use Rattle.std.proofs.Common.{arith, ◌<◌, List, length, sym, ap, subst}
use Rattle.copy_slots.specs.Mail.{plain_list}
use Rattle.copy_slots.proofs.Dealing.{deals}
use Rattle.copy_slots.proofs.make.deal_one.Goals as goal

pub split_seat-requires : goal.split_seat-requires
split_seat-requires g c = let r = c.requires.keeper in let b = c.requires.board in let key = c.args.top.now.key in let words = b.1.0 in (
  r.2.table,
  omega arith,
  deals g.W.Work.plain g.W.Work.asks g.W.Work.answers key.work.value (plain_list g.W.Work.plain key.blanks.value.items) c.args.keeper.now.id c.args.keeper.now.me.0 c.args.from _ _ (ap (λ m. m.0.role) r.2.me) (subst (λ (l : List g.row.W-Plain.Denot). c.args.from < length l) (sym (ap (λ m. m.0.blanks) r.2.me)) r.1),
)

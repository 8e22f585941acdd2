use Rattle.std.proofs.Common.{arith}
use Rattle.copy_slots.specs.Mail.{plain_list}
use Rattle.copy_slots.proofs.SeatEndLemmas.{not_spent}
use Rattle.slot_board.proofs.SplitLemmas.{idles}
use Rattle.slot_board.proofs.splits.next_watch.Goals as goal

pub split_seat-next-requires : goal.split_seat-next-requires
split_seat-next-requires g c = let r = c.requires.spare in let b = c.requires.board in let key = c.args.top.now.key in let words = b.1.0 in (
  r.2.table,
  omega arith,
  idles g.W.Work.plain g.W.Work.asks g.W.Work.answers key.work.value (plain_list g.W.Work.plain key.blanks.value.items) c.args.spare.now.id c.args.spare.now.me.0 (not_spent c.args.top.now.table_id key.work.value r.0 r.1 c.args.spare.now r.2),
)

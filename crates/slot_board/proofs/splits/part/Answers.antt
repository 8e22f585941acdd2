use Rattle.std.proofs.Common.{arith, ap}
use Rattle.copy_slots.specs.Mail.{plain_list, new_sender, new_taker}
use Rattle.slot_board.proofs.SplitLemmas.{parts}
use Rattle.slot_board.proofs.splits.part.Goals as goal

pub split_seat-requires : goal.split_seat-requires
split_seat-requires g c = let r = c.requires.seat in let b = c.requires.board in let key = c.args.top.now.key in let words = b.1.0 in (
  r.2.table,
  omega arith,
  parts g.W.Work.plain g.W.Work.asks g.W.Work.answers key.work.value (plain_list g.W.Work.plain key.blanks.value.items) c.args.seat.now.id c.args.seat.now.me.0 r.1 new_sender new_taker (ap (λ m. m.0.role) r.2.me),
)

use Rattle.std.proofs.Common.{arith, ap, ◌∙◌}
use Rattle.copy_slots.specs.Mail.{plain_list}
use Rattle.copy_slots.proofs.SeatEndLemmas.{not_spent}
use Rattle.slot_board.specs.Slots.{is_watch}
use Rattle.slot_board.proofs.SplitLemmas.{merges}
use Rattle.slot_board.proofs.splits.merge.Goals as goal

pub join_seat-requires : goal.join_seat-requires
join_seat-requires g c = let r = c.requires.seats in let b = c.requires.board in let key = c.args.top.now.key in let z = c.args.top.now.table_id in let words = b.1.0 in (
  r.5.table,
  r.6.table,
  ap (λ m. m.1) r.6.me,
  omega arith,
  merges g.W.Work.plain g.W.Work.asks g.W.Work.answers key.work.value (plain_list g.W.Work.plain key.blanks.value.items) c.args.seat.now.id c.args.seat.now.me.0 c.args.other.id c.args.other.me.0
      (not_spent z key.work.value r.0 r.1 c.args.seat.now r.5) (not_spent z key.work.value r.0 r.2 c.args.other r.6) (ap (λ m. is_watch m.0.role) r.5.me ∙ r.3) (ap (λ m. is_watch m.0.role) r.6.me ∙ r.4),
)

use Rattle.std.proofs.Common.{arith, ◌<◌, sym}
use Rattle.copy_slots.specs.Mail.{plain_list}
use Rattle.copy_slots.proofs.Dealing.{checks}
use Rattle.copy_slots.proofs.SeatEndLemmas.{not_spent}
use Rattle.copy_slots.proofs.steps.check.Goals as goal

pub load-requires : goal.load-requires
load-requires g c = let r = c.requires.seat in let b = c.requires.board in let key = c.args.top.now.key in let near : c.args.word < c.args.top.now.table_id.words = omega arith in (
  r.2.table,
  near,
  checks g.W.Work.plain g.W.Work.asks g.W.Work.answers key.work.value (plain_list g.W.Work.plain key.blanks.value.items) _ _ _ c.args.word (not_spent c.args.top.now.table_id key.work.value r.0 r.1 c.args.seat.now r.2) (sym b.1),
)

use Rattle.std.proofs.Common.{arith, ◌<◌, sym, ap}
use Rattle.copy_slots.specs.Mail.{plain_list}
use Rattle.copy_slots.proofs.Dealing.{stores}
use Rattle.copy_slots.proofs.steps.stop.Goals as goal

pub store-requires : goal.store-requires
store-requires g c = let r = c.requires.seat in let b = c.requires.board in let key = c.args.top.now.key in let near : c.args.word < c.args.top.now.table_id.words = omega arith in (
  r.4.table,
  near,
  stores g.W.Work.plain g.W.Work.asks g.W.Work.answers key.work.value (plain_list g.W.Work.plain key.blanks.value.items) _ _ _ c.args.word r.1 r.2 r.3 (ap (λ m. m.0.role) r.4.me) (sym b.1),
)

use Rattle.std.proofs.Common.{arith, ◌∷◌, sym, ap, ◌∙◌, Some}
use Rattle.atomic_table.specs.Table.{rest}
use Rattle.copy_slots.specs.Mail.{plain_list}
use Rattle.copy_slots.proofs.MailLemmas.{opens}
use Rattle.copy_slots.proofs.steps.open.Goals as goal

pub load-requires : goal.load-requires
load-requires g c = let r = c.requires.seat in let b = c.requires.board in let key = c.args.top.now.key in let n = b.1.0 in
    (r.4.table, omega arith, opens g.W.Work.plain g.W.Work.asks g.W.Work.answers key.work.value (plain_list g.W.Work.plain key.blanks.value.items) _ _ _ c.args.k r.1 r.2 (ap (λ m. m.0.role) r.4.me) r.3)

pub exchange-requires : goal.exchange-requires
exchange-requires g c = let r = c.requires.seat in let t = c.load.ensures.2 r.1 r.2 (ap (λ m. m.0.role) r.4.me) in
    (c.load.ensures.0 ∙ r.4.table, (_, t.2 ∙ ap (λ cs. (c.args.k, Some t.0) ∷ rest cs) (sym t.2)))

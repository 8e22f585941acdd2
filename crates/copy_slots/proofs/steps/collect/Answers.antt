use Rattle.std.proofs.Common.{rules, arith, ◌≡◌, ◌∷◌, sym, refl, ap, ◌∙◌, subst, Some}
use Rattle.atomic_table.specs.Table.{rest}
use Rattle.copy_slots.specs.Mail.{plain_list, sender_got}
use Rattle.copy_slots.specs.SeatEnds.{HasEnds}
use Rattle.copy_slots.proofs.MailLemmas.{collects}
use Rattle.copy_slots.proofs.SeatEndLemmas.{one_place, comes, hand_got, took_out}
use Rattle.copy_slots.proofs.steps.collect.Goals as goal

pub load-requires : goal.load-requires
load-requires g c = let r = c.requires.seat in let b = c.requires.board in let key = c.args.top.now.key in let n = b.1.0 in
    (r.4.table, omega arith, collects g.W.Work.plain g.W.Work.asks g.W.Work.answers key.work.value (plain_list g.W.Work.plain key.blanks.value.items) _ _ _ c.args.k r.1 r.2 (ap (λ m. m.0.role) r.4.me) r.3)

pub exchange-requires : goal.exchange-requires
exchange-requires g c = let r = c.requires.seat in let t = (c.load.ensures.2 r.1 r.2 (ap (λ m. m.0.role) r.4.me)).0 c.if-load-ne0.false in
    (c.load.ensures.0 ∙ r.4.table, (_, t.2 ∙ ap (λ cs. (c.args.k, Some t.0) ∷ rest cs) (sym t.2)))

pub unwrap-requires : goal.unwrap-requires
unwrap-requires g c = let r = c.requires.seat in let t = (c.load.ensures.2 r.1 r.2 (ap (λ m. m.0.role) r.4.me)).0 c.if-load-ne0.false in
    let e = took_out _ _ _ c.exchange.result (Some t.0) t.2 c.exchange.ensures.2 in search (rules, e)

pub returns-then-load-ne0-clause-turn : goal.returns-then-load-ne0-clause-turn
returns-then-load-ne0-clause-turn g c bs x y h = let t = (c.load.ensures.2 x (Some y) (ap (λ m. m.0.role) h.me)) in let e = t.2 y refl in λ z. c.if-load-ne0.true (e ∙ z)

pub returns-clause-turn : goal.returns-clause-turn
returns-clause-turn g c bs x y h = let t = (c.load.ensures.2 x (Some y) (ap (λ m. m.0.role) h.me)) in sym (t.2 y refl) ∙ c.if-load-ne0.false

pub returns-clause-seat : goal.returns-clause-seat
returns-clause-seat g c bs x k h = let key = c.args.top.now.key in let r = c.requires.seat in let t = (c.load.ensures.2 x k (ap (λ m. m.0.role) h.me)).0 c.if-load-ne0.false in
    let e = took_out _ _ _ c.exchange.result (Some t.0) t.2 c.exchange.ensures.2 in let same : t.0 ≡ c.unwrap.result = search rules in
    subst (λ q. HasEnds c.args.top.now.table_id key.work.value bs c.args.k (Some (sender_got (g.W.Work.plain q) x)) k c.exchange.new.seat) same
    (comes c.args.top.now.table_id key.work.value bs c.args.k (Some x) (Some (sender_got (g.W.Work.plain t.0) x)) k k c.args.seat.now c.load.new.seat c.exchange.new.seat (Some t.0) h c.load.ensures.0 t.1 t.2 c.exchange.ensures.0 c.exchange.ensures.3
    (hand_got c.args.k x (sender_got (g.W.Work.plain t.0) x) k (one_place c.args.top.now.table_id key.work.value bs r.0 c.args.k x r.1 k r.2 c.args.seat.now h r.4 ∙ r.3) refl))

pub returns-clause-reply : goal.returns-clause-reply
returns-clause-reply g c bs x k h = let key = c.args.top.now.key in let t = (c.load.ensures.2 x k (ap (λ m. m.0.role) h.me)).0 c.if-load-ne0.false in
    let e = took_out _ _ _ c.exchange.result (Some t.0) t.2 c.exchange.ensures.2 in let same : t.0 ≡ c.unwrap.result = search rules in
    subst (λ q. g.W.Work.answers key.work.value c.args.k x.sent (g.W.Work.plain q)) same (t.3 key.work.value (ap (λ m. m.0.work) h.me))

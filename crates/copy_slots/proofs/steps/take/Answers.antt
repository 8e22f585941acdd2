use Rattle.std.proofs.Common.{rules, arith, ◌≡◌, [], ◌∷◌, ◌++◌, sym, refl, ap, ◌∙◌, subst, Some, None}
use Rattle.atomic_table.specs.Table.{rest}
use Rattle.copy_slots.specs.Mail.{plain_list, taker_took}
use Rattle.copy_slots.specs.SeatEnds.{HasEnds}
use Rattle.copy_slots.proofs.MailLemmas.{takes_job}
use Rattle.copy_slots.proofs.SeatEndLemmas.{one_hand, comes, hand_taken, hand_free, took_out}
use Rattle.copy_slots.proofs.steps.take.Goals as goal

pub load-requires : goal.load-requires
load-requires g c = let r = c.requires.seat in let b = c.requires.board in let key = c.args.top.now.key in let n = b.1.0 in
    (r.4.table, omega arith, takes_job g.W.Work.plain g.W.Work.asks g.W.Work.answers key.work.value (plain_list g.W.Work.plain key.blanks.value.items) _ _ _ c.args.k r.1 r.2 (ap (λ m. m.0.role) r.4.me) r.3)

pub exchange-requires : goal.exchange-requires
exchange-requires g c = let r = c.requires.seat in let t = (c.load.ensures.2 r.1 r.2 (ap (λ m. m.0.role) r.4.me)).0 c.if-load-eq0.false in
    (c.load.ensures.0 ∙ r.4.table, (_, t.2 ∙ ap (λ cs. (c.args.k, Some t.0) ∷ rest cs) (sym t.2)))

pub unwrap-requires : goal.unwrap-requires
unwrap-requires g c = let r = c.requires.seat in let t = (c.load.ensures.2 r.1 r.2 (ap (λ m. m.0.role) r.4.me)).0 c.if-load-eq0.false in
    let e = took_out _ _ _ c.exchange.result (Some t.0) t.2 c.exchange.ensures.2 in search (rules, e)

pub returns-then-load-eq0-clause-turn : goal.returns-then-load-eq0-clause-turn
returns-then-load-eq0-clause-turn g c bs x y h = let t = (c.load.ensures.2 (Some x) y (ap (λ m. m.0.role) h.me)) in sym (t.2 x refl) ∙ c.if-load-eq0.true

pub returns-clause-turn : goal.returns-clause-turn
returns-clause-turn g c bs x y h = let t = (c.load.ensures.2 (Some x) y (ap (λ m. m.0.role) h.me)) in let t0 = t.0 c.if-load-eq0.false in
    let e = took_out _ _ _ c.exchange.result (Some t0.0) t0.2 c.exchange.ensures.2 in let same : t0.0 ≡ c.unwrap.result = search rules in (
      (λ z. c.if-load-eq0.false (t.2 x refl ∙ z)),
      t0.5 x refl ∙ ap (λ q. y.taken ++ g.W.Work.plain q ∷ []) same,
    )

pub returns-clause-seat : goal.returns-clause-seat
returns-clause-seat g c bs b y h = let key = c.args.top.now.key in let r = c.requires.seat in let t = (c.load.ensures.2 b y (ap (λ m. m.0.role) h.me)).0 c.if-load-eq0.false in
    let e = took_out _ _ _ c.exchange.result (Some t.0) t.2 c.exchange.ensures.2 in let same : t.0 ≡ c.unwrap.result = search rules in
    subst (λ q. HasEnds c.args.top.now.table_id key.work.value bs c.args.k b (Some (taker_took (g.W.Work.plain q) y)) c.exchange.new.seat) same
    (comes c.args.top.now.table_id key.work.value bs c.args.k b b (Some y) (Some (taker_took (g.W.Work.plain t.0) y)) c.args.seat.now c.load.new.seat c.exchange.new.seat (Some t.0) h c.load.ensures.0 t.1 t.2 c.exchange.ensures.0 c.exchange.ensures.3
    (ap (λ l. (c.args.k, None) ∷ l) (hand_free c.args.k b y (one_hand c.args.top.now.table_id key.work.value bs r.0 c.args.k y r.2 b r.1 c.args.seat.now h r.4 ∙ r.3)) ∙ sym (hand_taken c.args.k b (taker_took (g.W.Work.plain t.0) y) refl)))

pub returns-clause-job : goal.returns-clause-job
returns-clause-job g c bs b y h = let key = c.args.top.now.key in let t = (c.load.ensures.2 b y (ap (λ m. m.0.role) h.me)).0 c.if-load-eq0.false in
    let e = took_out _ _ _ c.exchange.result (Some t.0) t.2 c.exchange.ensures.2 in let same : t.0 ≡ c.unwrap.result = search rules in
    subst (λ q. g.W.Work.asks key.work.value c.args.k (y.taken ++ g.W.Work.plain q ∷ [])) same (t.3 key.work.value (ap (λ m. m.0.work) h.me))

use Rattle.std.proofs.Common.{arith, ◌<◌, ◌∷◌, sym, refl, ap, ◌∙◌, Some, None}
use Rattle.atomic_table.specs.Table.{rest}
use Rattle.copy_slots.specs.Mail.{plain_list, taker_answered}
use Rattle.copy_slots.proofs.MailLemmas.{answers_job}
use Rattle.copy_slots.proofs.SeatEndLemmas.{one_hand, goes, hand_taken, hand_free}
use Rattle.copy_slots.proofs.steps.answer.Goals as goal

pub exchange-empty-requires : goal.exchange-empty-requires
exchange-empty-requires g c = let r = c.requires.seat in let e = ap (λ m. m.1) r.4.me ∙ hand_taken c.args.k r.1 r.2 r.3 in (r.4.table, (_, e ∙ ap (λ cs. (c.args.k, None) ∷ rest cs) (sym e)))

pub store-requires : goal.store-requires
store-requires g c = let r = c.requires.seat in let b = c.requires.board in let key = c.args.top.now.key in let n = b.1.0 in let near : c.args.k < c.args.top.now.table_id.words = omega arith in
    let now = c.exchange-empty.ensures.3 in (
      c.exchange-empty.ensures.0 ∙ r.4.table,
      near,
      answers_job g.W.Work.plain g.W.Work.asks g.W.Work.answers key.work.value (plain_list g.W.Work.plain key.blanks.value.items) _ _ _ c.args.k r.1 r.2 c.args.packet (ap (λ m. m.0.role) now ∙ ap (λ m. m.0.role) r.4.me) r.3 _ (ap (λ m. m.1) now) key.work.value (ap (λ m. m.0.work) now ∙ ap (λ m. m.0.work) r.4.me) r.5,
    )

pub returns : goal.returns
returns g c bs b y h = let key = c.args.top.now.key in let r = c.requires.seat in let now = c.exchange-empty.ensures.3 in let held = one_hand c.args.top.now.table_id key.work.value bs r.0 c.args.k y r.2 b r.1 c.args.seat.now h r.4 ∙ r.3 in
    let t = c.store.ensures.2 b y c.args.packet _ (ap (λ m. m.0.role) now ∙ ap (λ m. m.0.role) h.me) (ap (λ m. m.1) now) in
    goes c.args.top.now.table_id key.work.value bs c.args.k b b (Some y) (Some (taker_answered (g.W.Work.plain c.args.packet) y)) c.args.seat.now c.exchange-empty.new.seat c.store.new.seat h c.exchange-empty.ensures.0 (ap (λ m. m.0) now) c.store.ensures.0 t.0
    (t.1 ∙ (ap rest (ap (λ m. m.1) h.me ∙ hand_taken c.args.k b y held) ∙ sym (hand_free c.args.k b (taker_answered (g.W.Work.plain c.args.packet) y) refl)))

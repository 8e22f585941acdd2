use Rattle.std.proofs.Common.{refl, Some, None, true, false}
use Rattle.copy_slots.specs.declared.view.PacketAt.TheVariants.{Fresh, Held, Out}
use Rattle.copy_slots.specs.Mail.{sender_opened, sender_sent}
use Rattle.copy_slots.specs.Ports.{sender_seen, taker_seen}
use Rattle.core_rows.proofs.Asking.{parent_after, child_after}
use Rattle.core_rows.proofs.exchanged.exchange.Goals as goal

pub offer-requires-clause-held : goal.offer-requires-clause-held
offer-requires-clause-held g c = parent_after (g.P.Port.state c.args.parent.now) (g.P.Port.state c.first-blank.new.self) sender_opened Fresh Held c.first-blank.ensures.state c.requires.0.0 (λ x h. refl)

pub collect-requires : goal.collect-requires
collect-requires g c =
    parent_after (g.P.Port.state c.first-blank.new.self) (g.P.Port.state c.offer.new.self) (sender_sent 8) Held Out c.offer.ensures
    (parent_after (g.P.Port.state c.args.parent.now) (g.P.Port.state c.first-blank.new.self) sender_opened Fresh Held c.first-blank.ensures.state c.requires.0.0 (λ x h. refl)) (λ x h. refl)

pub take-requires-2 : goal.take-requires-2
take-requires-2 g c = let e = rw c.in-None.is at c.take.ensures.state in child_after (g.P.Port.state c.args.child.now) (g.P.Port.state c.take.new.self) (taker_seen None) false false e c.requires.1.0 (λ y h. h)

pub answer-requires-clause-held : goal.answer-requires-clause-held
answer-requires-clause-held g c = let e = rw c.in-None.is at c.take.ensures.state in let f = rw c.in_ok-job.was at c.take-2.ensures.state in
    child_after (g.P.Port.state c.take.new.self) (g.P.Port.state c.take-2.new.self) (taker_seen (Some c.in_ok-job.job)) false true f
    (child_after (g.P.Port.state c.args.child.now) (g.P.Port.state c.take.new.self) (taker_seen None) false false e c.requires.1.0 (λ y h. h)) (λ y h. refl)

pub collect-requires-2 : goal.collect-requires-2
collect-requires-2 g c = let e = rw c.in-None-collect.is at c.collect.ensures.state in
    parent_after (g.P.Port.state c.offer.new.self) (g.P.Port.state c.collect.new.self) (sender_seen None) Out Out e
    (parent_after (g.P.Port.state c.first-blank.new.self) (g.P.Port.state c.offer.new.self) (sender_sent 8) Held Out c.offer.ensures
    (parent_after (g.P.Port.state c.args.parent.now) (g.P.Port.state c.first-blank.new.self) sender_opened Fresh Held c.first-blank.ensures.state c.requires.0.0 (λ x h. refl)) (λ x h. refl)) (λ x h. h)

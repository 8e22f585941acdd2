use Rattle.std.proofs.Common.{◌%◌, ◌^◌, ◌++◌, ◌∷◌, [], refl, sym, ap, ◌∙◌, Some, None, true, false}
use Rattle.std.specs.List.{sum}
use Rattle.copy_slots.specs.Mail.{taker_answered}
use Rattle.copy_slots.specs.Ports.{taker_seen}
use Rattle.core_rows.proofs.Asking.{child_after, taken_after, total_after}
use Rattle.core_rows.proofs.summed.answer.Goals as goal

pub returns-in_default-clause-child : goal.returns-in_default-clause-child
returns-in_default-clause-child g c = let r = c.requires in let e = rw c.in_default.is at c.take.ensures.state in
    (child_after (g.P.Port.state c.args.port.now) (g.P.Port.state c.take.new.self) (taker_seen None) false false e r.0 (λ y h. h), r.1 ∙ ap (λ l. sum l % 2 ^ 64) (sym (taken_after (g.P.Port.state c.args.port.now) (g.P.Port.state c.take.new.self) (taker_seen None) (λ l. l) e (λ y. refl) false r.0)))

pub answer-requires-clause-held : goal.answer-requires-clause-held
answer-requires-clause-held g c = let e = rw c.in-Some.is at c.take.ensures.state in child_after (g.P.Port.state c.args.port.now) (g.P.Port.state c.take.new.self) (taker_seen (Some c.in-Some.job)) false true e c.requires.0 (λ y h. refl)

pub answer-requires-clause-answers : goal.answer-requires-clause-answers
answer-requires-clause-answers g c = let r = c.requires in let e = rw c.in-Some.is at c.take.ensures.state in
    total_after c.args.total.now c.in-Some.job (2 ^ 64) _ _ r.1 (taken_after (g.P.Port.state c.args.port.now) (g.P.Port.state c.take.new.self) (taker_seen (Some c.in-Some.job)) (λ l. l ++ c.in-Some.job ∷ []) e (λ y. refl) false r.0)

pub returns-clause-child : goal.returns-clause-child
returns-clause-child g c = let r = c.requires in let e = rw c.in-Some.is at c.take.ensures.state in let held = child_after (g.P.Port.state c.args.port.now) (g.P.Port.state c.take.new.self) (taker_seen (Some c.in-Some.job)) false true e r.0 (λ y h. refl) in (
  child_after (g.P.Port.state c.take.new.self) (g.P.Port.state c.answer.new.self) (taker_answered _) true false c.answer.ensures held (λ y h. refl),
  total_after c.args.total.now c.in-Some.job (2 ^ 64) _ _ r.1 (taken_after (g.P.Port.state c.args.port.now) (g.P.Port.state c.take.new.self) (taker_seen (Some c.in-Some.job)) (λ l. l ++ c.in-Some.job ∷ []) e (λ y. refl) false r.0)
      ∙ ap (λ l. sum l % 2 ^ 64) (sym (taken_after (g.P.Port.state c.take.new.self) (g.P.Port.state c.answer.new.self) (taker_answered _) (λ l. l) c.answer.ensures (λ y. refl) true held)),
)

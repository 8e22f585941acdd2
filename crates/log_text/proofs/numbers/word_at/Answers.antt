use Rattle.std.proofs.Common.{◌≡◌, ◌<◌, ◌^◌, ℕ, List, Some, None, SomeIff, decimal, sym, ap, subst, ◌∙◌, arith}
use Rattle.log_text.specs.Numbers.{IsNumberAt}
use Rattle.log_text.proofs.BriefLemmas.{only_number}
use Rattle.log_text.proofs.DigitLemmas.{decimal_is, digits_are}
use Rattle.log_text.proofs.numbers.word_at.Goals as goal

pub returns-in-Some-clause-only : goal.returns-in-Some-clause-only
returns-in-Some-clause-only c = λ n rest low stop e.
    let h = c.in-Some.ensures in
    only_number c.args.bytes.now rest c.args.at c.in-Some.value c.in-Some.end n (omega (arith, h.0)) low h.1 stop e

pub returns-in_err-digits-clause-only : goal.returns-in_err-digits-clause-only
returns-in_err-digits-clause-only c = λ n rest low stop e. absurd (c.in_err-digits.ensures.only (decimal n) rest n (decimal_is n low) stop e)

pub returns-in_err-digits-2-clause-only : goal.returns-in_err-digits-2-clause-only
returns-in_err-digits-2-clause-only c = λ n rest low stop e.
    let r = c.in_ok-digits.ensures.only (decimal n) rest n (decimal_is n low) stop e in
    let none : SomeIff None (n < 2 ^ 64) n = rw c.in_err-digits-2.was at r.1 in
    absurd (none low)

pub returns-clause-stands : goal.returns-clause-stands
returns-clause-stands c =
    let bytes = c.args.bytes.now in
    let h = c.in_ok-digits.ensures.stands in
    let some : SomeIff (Some c.in_ok-digits-2.field-0) (h.number < 2 ^ 64) h.number = rw c.in_ok-digits-2.was at h.value in
    let same : h.digits ≡ decimal c.in_ok-digits-2.field-0 = digits_are h.digits h.number h.decimal some.0 ∙ ap decimal (sym some.1) in
    subst (λ (l : List ℕ). IsNumberAt bytes c.args.at l c.in_ok-digits.digits.end) same h.is

pub returns-clause-only : goal.returns-clause-only
returns-clause-only c = λ n rest low stop e.
    let r = c.in_ok-digits.ensures.only (decimal n) rest n (decimal_is n low) stop e in
    let some : SomeIff (Some c.in_ok-digits-2.field-0) (n < 2 ^ 64) n = rw c.in_ok-digits-2.was at r.1 in
    (some.1, r.0)

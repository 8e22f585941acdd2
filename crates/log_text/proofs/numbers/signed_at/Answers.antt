use Rattle.std.proofs.Common.{◌≡◌, ◌<◌, ℕ, ℤ, pos, neg_ℤ, sym, ap, subst, ◌∙◌, arith}
use Rattle.std.specs.Int.{w32, cast_signed, cast_unsigned}
use Rattle.std.specs.Fmt.{signed_decimal}
use Rattle.std.proofs.lemmas.Int.{ints}
use Rattle.log_text.specs.Numbers.{IsNumberAt}
use Rattle.log_text.proofs.SignedLemmas.{minus_is, minus_stands}
use Rattle.log_text.proofs.numbers.signed_at.Goals as goal

pub returns-in_err-magnitude-2-clause-only : goal.returns-in_err-magnitude-2-clause-only
returns-in_err-magnitude-2-clause-only c = λ n rest fits stop e.
    let here = c.stands.ensures.0 c.if-not-stands.false in
    let r = minus_is c.args.bytes.now rest c.args.at n fits here.1 e in
    absurd (c.in_err-magnitude-2.ensures.only r.0 rest r.3 stop r.4)

pub returns-then-magnitude-eq0-clause-only : goal.returns-then-magnitude-eq0-clause-only
returns-then-magnitude-eq0-clause-only c = λ n rest fits stop e.
    let here = c.stands.ensures.0 c.if-not-stands.false in
    let r = minus_is c.args.bytes.now rest c.args.at n fits here.1 e in
    let o = c.in_ok-magnitude-2.ensures.only r.0 rest r.3 stop r.4 in
    let some : 0 < r.0 = r.1 in
    let zero : c.in_ok-magnitude-2.magnitude ≡ 0 = c.if-magnitude-eq0.true in
    omega (arith, o.0)

pub returns-clause-stands : goal.returns-clause-stands
returns-clause-stands c =
    let here = c.stands.ensures.0 c.if-not-stands.false in
    let magnitude = c.in_ok-magnitude-2.magnitude in
    let some : 0 < magnitude = (let ne = c.if-magnitude-eq0.false in omega arith) in
    let same : cast_signed w32 (cast_unsigned w32 c.negated.result) ≡ neg_ℤ (pos magnitude) = omega (arith, ints) in
    subst (λ (z : ℤ). IsNumberAt c.args.bytes.now c.args.at (signed_decimal z) c.in_ok-magnitude-2.end) (sym same)
    (minus_stands c.args.bytes.now c.args.at c.in_ok-magnitude-2.end magnitude here.0 here.1 c.in_ok-magnitude-2.ensures.stands.1 some)

pub returns-clause-only : goal.returns-clause-only
returns-clause-only c = λ n rest fits stop e.
    let here = c.stands.ensures.0 c.if-not-stands.false in
    let magnitude = c.in_ok-magnitude-2.magnitude in
    let r = minus_is c.args.bytes.now rest c.args.at n fits here.1 e in
    let o = c.in_ok-magnitude-2.ensures.only r.0 rest r.3 stop r.4 in
    let same : cast_signed w32 (cast_unsigned w32 c.negated.result) ≡ neg_ℤ (pos magnitude) = omega (arith, ints) in
    (same ∙ (ap (λ (k : ℕ). neg_ℤ (pos k)) o.0 ∙ sym r.2), o.1)

use Rattle.std.proofs.Common.{◌≡◌, ◌++◌, ℕ, List, ◌-◌, true, get_or, take, drop, refl, sym, ◌∙◌, arith}
use Rattle.std.specs.Char.{is_ascii_digit}
use Rattle.log_text.specs.Pieces.{EndsDigits, IsDecimal}
use Rattle.log_text.proofs.DigitLemmas.{ascii_range, ends_there}
use Rattle.log_text.proofs.DigitRuns.{one_digit_more, digits_stand, digits_only, digits_value_is, digits_long, leading_zero}
use Rattle.log_text.proofs.numbers.digits_at.Goals as goal
use Rattle.log_text.proofs.numbers.digits_at.Goals.{Left-loop-end, then-loop-end-test+else-is_ascii_digit, else-loop-end-test, else-end-at-2-via-else-end-at-2, else-end-at-2-via-then-end-at-2+else-bytes-at-eq48}

-- no further digit stands behind those that were read
stopped : (c : Left-loop-end) → EndsDigits (drop c.loop-end.end c.args.bytes.now)
stopped c = ends_there c.args.bytes.now c.loop-end.end (λ low. elim c.loop-end-test.branch [
  | then-loop-end-test+else-is_ascii_digit w ↦ sym w.is_ascii_digit.ensures.value ∙ w.if-is_ascii_digit.false
  | else-loop-end-test w ↦ absurd (omega arith)
])

-- no other digits stand there
only : (c : Left-loop-end) (digits rest : List ℕ) (n : ℕ) → IsDecimal digits n → EndsDigits rest → drop c.args.at c.args.bytes.now ≡ digits ++ rest →
    (digits ≡ take (c.loop-end.end - c.args.at) (drop c.args.at c.args.bytes.now)) × (drop c.loop-end.end c.args.bytes.now ≡ rest)
only c digits rest n is stop e = digits_only c.args.bytes.now c.args.at c.loop-end.end n c.loop-end.value digits rest c.loop-end.invariant (stopped c) is stop e

pub loop-end-preserved : goal.loop-end-preserved
loop-end-preserved c =
    let yes : is_ascii_digit (get_or c.args.bytes.now c.loop-end.end 0) ≡ true = sym c.is_ascii_digit.ensures.value ∙ c.if-is_ascii_digit.true in
    let range = ascii_range (get_or c.args.bytes.now c.loop-end.end 0) yes in
    one_digit_more c.args.bytes.now c.args.at c.loop-end.end (get_or c.args.bytes.now c.loop-end.end 0) c.loop-end.value c.with_digit-value.result c.loop-end.invariant
    c.loop-end-test.true refl range.0 range.1 c.with_digit-value.ensures

pub returns-then-end-at-clause-only : goal.returns-then-end-at-clause-only
returns-then-end-at-clause-only c = λ digits rest n is stop e.
    let same = only (goal.at.returns-then-end-at-clause-only c).Left-loop-end digits rest n is stop e in
    omega (arith, digits_long c.args.bytes.now c.args.at c.loop-end.end c.loop-end.value digits c.loop-end.invariant same.0, is.numeral.0)

pub returns-then-bytes-at-eq48-clause-only : goal.returns-then-bytes-at-eq48-clause-only
returns-then-bytes-at-eq48-clause-only c = λ digits rest n is stop e.
    let same = only (goal.at.returns-then-bytes-at-eq48-clause-only c).Left-loop-end digits rest n is stop e in
    leading_zero c.args.bytes.now c.args.at c.loop-end.end n c.loop-end.value digits c.loop-end.invariant is same.0 (omega arith) c.if-bytes-at-eq48.true

pub returns-clause-stands : goal.returns-clause-stands
returns-clause-stands c =
    digits_stand c.args.bytes.now c.args.at c.loop-end.end c.loop-end.value c.loop-end.invariant (stopped (goal.at.returns-clause-stands c).Left-loop-end)
    (let d = c.loop-end.invariant in let ne = c.if-end-at.false in omega (arith, d.low)) (λ z. let d = c.loop-end.invariant in let ne = c.if-end-at.false in elim c.else-end-at-2.branch [
      | else-end-at-2-via-then-end-at-2+else-bytes-at-eq48 w ↦ absurd (w.if-bytes-at-eq48.false z)
      | else-end-at-2-via-else-end-at-2 w ↦ omega (arith, d.low)
    ])

pub returns-clause-only : goal.returns-clause-only
returns-clause-only c = λ digits rest n is stop e.
    let same = only (goal.at.returns-clause-only c).Left-loop-end digits rest n is stop e in
    (same.1, digits_value_is c.args.bytes.now c.args.at c.loop-end.end n c.loop-end.value digits c.loop-end.invariant is same.0)

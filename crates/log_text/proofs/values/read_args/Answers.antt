use Rattle.std.proofs.Common.{◌≡◌, ◌+◌, ℤ, List, [], ◌∷◌, ◌++◌, length, set, take, sym, ap, subst, ◌∙◌, arith}
use Rattle.std.specs.Int.{w32, cast_signed, cast_unsigned}
use Rattle.std.proofs.lemmas.Int.{to_z-of_z}
use Rattle.std.proofs.lemmas.List.{length-set, length-take-le, take_all, take_more_set}
use Rattle.log_text.proofs.ValueLemmas.{Spaced, spaced_more, spaced_all, spaced_next}
use Rattle.log_text.proofs.values.read_args.Goals as goal

pub loop-i-preserved : goal.loop-i-preserved
loop-i-preserved c =
    let value = c.in_ok-value.value in
    let v = c.in_ok-value.ensures.stands in
    let same : cast_signed w32 (cast_unsigned w32 value) ≡ value = to_z-of_z w32 value v.int in
    let args = set c.loop-i.args c.loop-i.i (cast_signed w32 (cast_unsigned w32 value)) in
    let front : take (c.loop-i.i + 1) args ≡ take c.loop-i.i c.loop-i.args ++ value ∷ [] =
    take_more_set c.loop-i.args c.loop-i.i (cast_signed w32 (cast_unsigned w32 value)) (omega arith) ∙ ap (λ (z : ℤ). take c.loop-i.i c.loop-i.args ++ z ∷ []) same in
    record {
      same = length-set c.loop-i.args c.loop-i.i (cast_signed w32 (cast_unsigned w32 value)) ∙ c.loop-i.invariant.same;
      read = subst (λ (l : List ℤ). Spaced c.args.bytes.now c.args.at l c.in_ok-value.next) (sym front)
          (spaced_more c.args.bytes.now c.args.at c.loop-i.end c.in_ok-value.next (take c.loop-i.i c.loop-i.args) value c.loop-i.invariant.read v c.in_ok-value.ensures.only);
    }

pub returns-in_err-value-clause-only : goal.returns-in_err-value-clause-only
returns-in_err-value-clause-only c = λ ns rest size fit stop e.
    let few = length-take-le c.loop-i.i c.loop-i.args (omega arith) in
    absurd (spaced_next c.args.bytes.now c.args.at c.loop-i.end (take c.loop-i.i c.loop-i.args) ns rest c.loop-i.invariant.read fit stop (omega arith) e
    (λ n more f s t. c.in_err-value.ensures.only n more f s t))

pub returns-clause-only : goal.returns-clause-only
returns-clause-only c = λ ns rest size fit stop e.
    let all : take c.loop-i.i c.loop-i.args ≡ c.loop-i.args = take_all c.loop-i.i c.loop-i.args (omega arith) in
    let r = spaced_all c.args.bytes.now c.args.at c.loop-i.end (take c.loop-i.i c.loop-i.args) ns rest c.loop-i.invariant.read fit stop (omega (arith, ap (λ (l : List ℤ). length l) all)) e in
    (r.0, sym all ∙ r.1)

pub returns-clause-stands : goal.returns-clause-stands
returns-clause-stands c =
    let all : take c.loop-i.i c.loop-i.args ≡ c.loop-i.args = take_all c.loop-i.i c.loop-i.args (omega arith) in
    let read = subst (λ (l : List ℤ). Spaced c.args.bytes.now c.args.at l c.loop-i.end) all c.loop-i.invariant.read in
    record { ints = read.ints; stands = read.stands }

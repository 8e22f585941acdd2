use Rattle.std.proofs.Common.{◌≡◌, ◌+◌, ℕ, ℤ, List, [], ◌∷◌, ◌++◌, take, false, sym, ap, ◌∙◌, refl, arith}
use Rattle.std.specs.Int.{w32, cast_signed, cast_unsigned}
use Rattle.std.proofs.lemmas.Int.{to_z-of_z}
use Rattle.std.proofs.lemmas.List.{length-set, take_all, take_more_set, length_push}
use Rattle.forec_kernel.specs.declared.shape.VarCopy.{VarCopy}
use Rattle.forec_kernel.specs.Solo.{unmarked_copies}
use Rattle.log_text.proofs.ValueLemmas.{spaced_none, spaced_more, spaced_all, spaced_next, unmarked_push}
use Rattle.log_text.proofs.values.read_values.Goals as goal

pub loop-i-init : goal.loop-i-init
loop-i-init c = record { same = refl; values = []; count = refl; are = refl; read = spaced_none c.args.bytes.now c.args.at c.requires }

pub loop-i-preserved : goal.loop-i-preserved
loop-i-preserved c =
    let value = c.in_ok-value.value in
    let v = c.in_ok-value.ensures.stands in
    let inv = c.loop-i.invariant in
    let same : cast_signed w32 (cast_unsigned w32 value) ≡ value = to_z-of_z w32 value v.int in
    let copy : VarCopy = record { value = cast_signed w32 (cast_unsigned w32 value); modified = false } in
    record {
      same = length-set c.loop-i.copies c.loop-i.i copy ∙ inv.same;
      values = inv.values ++ value ∷ [];
      count = length_push inv.values value ∙ ap (λ (k : ℕ). k + 1) inv.count;
      are = take_more_set c.loop-i.copies c.loop-i.i copy (omega arith) ∙ (ap (λ (l : List VarCopy). l ++ copy ∷ []) inv.are
          ∙ (ap (λ (z : ℤ). unmarked_copies inv.values ++ (record { value = z; modified = false }) ∷ []) same ∙ sym (unmarked_push inv.values value)));
      read = spaced_more c.args.bytes.now c.args.at c.loop-i.end c.in_ok-value.next inv.values value inv.read v c.in_ok-value.ensures.only;
    }

pub returns-in_err-value-clause-only : goal.returns-in_err-value-clause-only
returns-in_err-value-clause-only c = λ ns rest size fit stop e.
    let inv = c.loop-i.invariant in
    absurd (spaced_next c.args.bytes.now c.args.at c.loop-i.end inv.values ns rest inv.read fit stop (omega (arith, inv.count)) e
    (λ n more f s t. c.in_err-value.ensures.only n more f s t))

pub returns-clause-only : goal.returns-clause-only
returns-clause-only c = λ ns rest size fit stop e.
    let inv = c.loop-i.invariant in
    let all : take c.loop-i.i c.loop-i.copies ≡ c.loop-i.copies = take_all c.loop-i.i c.loop-i.copies (omega arith) in
    let r = spaced_all c.args.bytes.now c.args.at c.loop-i.end inv.values ns rest inv.read fit stop (omega (arith, inv.count)) e in
    (r.0, sym all ∙ (inv.are ∙ ap unmarked_copies r.1))

pub returns-clause-stands : goal.returns-clause-stands
returns-clause-stands c =
    let inv = c.loop-i.invariant in
    let all : take c.loop-i.i c.loop-i.copies ≡ c.loop-i.copies = take_all c.loop-i.i c.loop-i.copies (omega arith) in
    record { values = inv.values; are = sym all ∙ inv.are; ints = inv.read.ints; stands = inv.read.stands }

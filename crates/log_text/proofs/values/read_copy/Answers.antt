use Rattle.std.proofs.Common.{◌≡◌, ◌+◌, ℕ, List, ◌++◌, codes, true, false, sym, subst, ◌∙◌, arith}
use Rattle.std.specs.Fmt.{signed_decimal}
use Rattle.std.specs.Int.{w32, cast_signed, cast_unsigned}
use Rattle.std.proofs.lemmas.Int.{to_z-of_z}
use Rattle.std.proofs.lemmas.List.{append-nil}
use Rattle.log_text.specs.Pieces.{StandsTo}
use Rattle.log_text.specs.Values.{star_of}
use Rattle.log_text.proofs.PieceLemmas.{stands_byte, stands_more}
use Rattle.log_text.proofs.ValueLemmas.{ends_behind, step_plain, step_star, same_copy, byte_there, no_byte_there}
use Rattle.log_text.proofs.values.read_copy.Goals as goal

pub returns-in_err-value-clause-only : goal.returns-in_err-value-clause-only
returns-in_err-value-clause-only c = λ d rest fit stop e. absurd (c.in_err-value.ensures.only d.value (star_of d ++ rest) fit (ends_behind d rest stop) e)

pub returns-then-stands-clause-only : goal.returns-then-stands-clause-only
returns-then-stands-clause-only c = λ d rest fit stop e.
    let bytes = c.args.bytes.now in
    let value = c.in_ok-value.value in
    let end = c.in_ok-value.end in
    let o = c.in_ok-value.ensures.only d.value (star_of d ++ rest) fit (ends_behind d rest stop) e in
    let here = c.stands.ensures.0 c.if-stands.true in
    let s = step_star bytes end d rest stop (byte_there bytes end 42 here.1) o.1 in
    let same : cast_signed w32 (cast_unsigned w32 value) ≡ value = to_z-of_z w32 value c.in_ok-value.ensures.stands.int in
    (same_copy (cast_signed w32 (cast_unsigned w32 value)) true d (same ∙ o.0) s.0, s.1)

pub returns-then-stands-clause-stands : goal.returns-then-stands-clause-stands
returns-then-stands-clause-stands c =
    let bytes = c.args.bytes.now in
    let value = c.in_ok-value.value in
    let end = c.in_ok-value.end in
    let v = c.in_ok-value.ensures.stands in
    let here = c.stands.ensures.0 c.if-stands.true in
    let same : cast_signed w32 (cast_unsigned w32 value) ≡ value = to_z-of_z w32 value v.int in
    record {
      int = rw same v.int;
      stands = rw same (stands_more bytes c.args.at end (end + 1) (codes " " ++ signed_decimal value) (codes "*") v.stands (stands_byte bytes end 42 here.0 here.1));
    }

pub returns-clause-only : goal.returns-clause-only
returns-clause-only c = λ d rest fit stop e.
    let bytes = c.args.bytes.now in
    let value = c.in_ok-value.value in
    let end = c.in_ok-value.end in
    let o = c.in_ok-value.ensures.only d.value (star_of d ++ rest) fit (ends_behind d rest stop) e in
    let s = step_plain bytes end d rest value stop
    (λ star. let f = c.if-stands.false in let yes = c.stands.ensures.1 (no_byte_there bytes end 42 (omega arith) star) in absurd (cc)) o.0 o.1 in
    let same : cast_signed w32 (cast_unsigned w32 value) ≡ value = to_z-of_z w32 value c.in_ok-value.ensures.stands.int in
    (same_copy (cast_signed w32 (cast_unsigned w32 value)) false d (same ∙ o.0) s.0, s.1)

pub returns-clause-stands : goal.returns-clause-stands
returns-clause-stands c =
    let value = c.in_ok-value.value in
    let v = c.in_ok-value.ensures.stands in
    let same : cast_signed w32 (cast_unsigned w32 value) ≡ value = to_z-of_z w32 value v.int in
    record {
      int = rw same v.int;
      stands = rw same (subst (λ (l : List ℕ). StandsTo c.args.bytes.now c.args.at l c.in_ok-value.end) (sym (append-nil (codes " " ++ signed_decimal value))) v.stands);
    }

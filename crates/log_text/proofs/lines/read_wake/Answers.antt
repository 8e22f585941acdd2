use Rattle.std.proofs.Common.{◌++◌, codes, decimal, ◌∙◌, refl, arith}
use Rattle.std.proofs.lemmas.List.{with_items_is}
use Rattle.exchange_meaning.specs.LogLines.{spaced_numbers}
use Rattle.log_text.proofs.PieceLemmas.{stands_more}
use Rattle.log_text.proofs.ValueLemmas.{ends_line, ends_values}
use Rattle.log_text.proofs.lines.read_wake.Goals as goal

pub returns-in_err-allowance-clause-only : goal.returns-in_err-allowance-clause-only
returns-in_err-allowance-clause-only c = λ a values rest low size ints e.
    absurd (c.in_err-allowance.ensures.only a (spaced_numbers values ++ (codes "\n" ++ rest)) low (ends_values values rest) e)

pub returns-in_err-at-clause-only : goal.returns-in_err-at-clause-only
returns-in_err-at-clause-only c = λ a values rest low size ints e.
    let o = c.in_ok-allowance.ensures.only a (spaced_numbers values ++ (codes "\n" ++ rest)) low (ends_values values rest) e in
    absurd (c.in_err-at.ensures.only values (codes "\n" ++ rest) (omega (arith, c.deref_mut.ensures.len)) ints (ends_line rest) o.1)

pub returns-in_err-end-clause-only : goal.returns-in_err-end-clause-only
returns-in_err-end-clause-only c = λ a values rest low size ints e.
    let o = c.in_ok-allowance.ensures.only a (spaced_numbers values ++ (codes "\n" ++ rest)) low (ends_values values rest) e in
    let q = c.in_ok-at.ensures.only values (codes "\n" ++ rest) (omega (arith, c.deref_mut.ensures.len)) ints (ends_line rest) o.1 in
    absurd (c.in_err-end.ensures.only rest q.0)

pub returns-clause-only : goal.returns-clause-only
returns-clause-only c = λ a values rest low size ints e.
    let o = c.in_ok-allowance.ensures.only a (spaced_numbers values ++ (codes "\n" ++ rest)) low (ends_values values rest) e in
    let q = c.in_ok-at.ensures.only values (codes "\n" ++ rest) (omega (arith, c.deref_mut.ensures.len)) ints (ends_line rest) o.1 in (
      c.in_ok-end.ensures.only rest q.0,
      record {
        kind = refl;
        allowance = o.0;
        copies = with_items_is c.args.packet.now.copies c.read_values.new.copies (omega (arith, c.deref_mut.ensures.len)) ∙ q.1;
      },
    )

pub returns-clause-stands : goal.returns-clause-stands
returns-clause-stands c =
    let bytes = c.args.bytes.now in
    let n = c.in_ok-allowance.ensures.stands in
    let v = c.in_ok-at.ensures.stands in
    let copies_are = with_items_is c.args.packet.now.copies c.read_values.new.copies (omega (arith, c.deref_mut.ensures.len)) in
    record {
      values = v.values;
      is = record { kind = refl; allowance = refl; copies = copies_are ∙ v.are };
      small = n.0;
      ints = v.ints;
      stands = stands_more bytes c.args.at c.in_ok-allowance.at c.in_ok-end.end (decimal c.in_ok-allowance.allowance) (spaced_numbers v.values ++ codes "\n") n.1.stands
          (stands_more bytes c.in_ok-allowance.at c.in_ok-at.at c.in_ok-end.end (spaced_numbers v.values) (codes "\n") v.stands c.in_ok-end.ensures.stands);
    }

use Rattle.std.proofs.Common.{◌++◌, codes, decimal, ◌∙◌, arith}
use Rattle.std.proofs.lemmas.List.{with_items_is}
use Rattle.exchange_meaning.specs.LogLines.{marked_numbers}
use Rattle.log_text.proofs.PieceLemmas.{stands_more}
use Rattle.log_text.proofs.ValueLemmas.{ends_copy_line, ends_copies}
use Rattle.log_text.proofs.lines.read_rest.Goals as goal

pub returns-in_err-units-clause-only : goal.returns-in_err-units-clause-only
returns-in_err-units-clause-only c = λ u copies rest low size ints e.
    absurd (c.in_err-units.ensures.only u (marked_numbers copies ++ (codes "\n" ++ rest)) (omega arith) (ends_copies copies rest) e)

pub returns-in_err-at-clause-only : goal.returns-in_err-at-clause-only
returns-in_err-at-clause-only c = λ u copies rest low size ints e.
    let o = c.in_ok-units.ensures.only u (marked_numbers copies ++ (codes "\n" ++ rest)) (omega arith) (ends_copies copies rest) e in
    absurd (c.in_err-at.ensures.only copies (codes "\n" ++ rest) (omega (arith, c.deref_mut.ensures.len)) ints (ends_copy_line rest) o.1)

pub returns-in_err-end-clause-only : goal.returns-in_err-end-clause-only
returns-in_err-end-clause-only c = λ u copies rest low size ints e.
    let o = c.in_ok-units.ensures.only u (marked_numbers copies ++ (codes "\n" ++ rest)) (omega arith) (ends_copies copies rest) e in
    let q = c.in_ok-at.ensures.only copies (codes "\n" ++ rest) (omega (arith, c.deref_mut.ensures.len)) ints (ends_copy_line rest) o.1 in
    absurd (c.in_err-end.ensures.only rest q.0)

pub returns-clause-only : goal.returns-clause-only
returns-clause-only c = λ u copies rest low size ints e.
    let o = c.in_ok-units.ensures.only u (marked_numbers copies ++ (codes "\n" ++ rest)) (omega arith) (ends_copies copies rest) e in
    let q = c.in_ok-at.ensures.only copies (codes "\n" ++ rest) (omega (arith, c.deref_mut.ensures.len)) ints (ends_copy_line rest) o.1 in
    (c.in_ok-end.ensures.only rest q.0, o.0, with_items_is c.args.packet.now.copies c.read_copies.new.copies (omega (arith, c.deref_mut.ensures.len)) ∙ q.1)

pub returns-clause-stands : goal.returns-clause-stands
returns-clause-stands c =
    let bytes = c.args.bytes.now in
    let n = c.in_ok-units.ensures.stands in
    let v = c.in_ok-at.ensures.stands in
    let copies = c.read_copies.new.copies in
    let copies_are = with_items_is c.args.packet.now.copies c.read_copies.new.copies (omega (arith, c.deref_mut.ensures.len)) in
    record {
      small = omega (arith, n.0);
      ints = rw copies_are v.ints;
      stands = rw copies_are (stands_more bytes c.args.at c.in_ok-units.at c.in_ok-end.end (decimal c.in_ok-units.units) (marked_numbers copies ++ codes "\n") n.1.stands
          (stands_more bytes c.in_ok-units.at c.in_ok-at.at c.in_ok-end.end (marked_numbers copies) (codes "\n") v.stands c.in_ok-end.ensures.stands));
    }

use Rattle.std.proofs.Common.{◌≡◌, ◌<◌, ℕ, ℤ, List, Some, length, take, drop, w32, to_z, of_z, SFits, sym, ap, subst, ◌∙◌, arith, rules, eqb-true}
use Rattle.std.proofs.lemmas.Bool.{eqb-false}
use Rattle.std.proofs.lemmas.Int.{to_z-of_z}
use Rattle.std.proofs.lemmas.List.{take_rest, length-set}
use Rattle.trace_rows.specs.Numbers.{word_number}
use Rattle.trace_rows.specs.Trace.{numbers_in}
use Rattle.trace_rows.specs.Words.{line_words}
use Rattle.trace_rows.proofs.LineNumbers.{numbers_past, numbers_stop, numbers_more, count_more, numbers_all, numbers_few}
use Rattle.trace_rows.proofs.values.read_numbers.Goals as goal

pub returns-then-count-values-clause-no : goal.returns-then-count-values-clause-no
returns-then-count-values-clause-no c = λ _.
    let i = c.words.invariant in
    let z = eqb-false (length c.words.rest.now) 0 (sym c.words-test.ensures) in
    numbers_past (length c.args.values.now) c.words.count c.args.line.now c.words.rest.now i.count (let e = c.if-count-values.true in omega (arith, c.words.auto.values)) (omega (arith, z)) i.begins

pub returns-in_default-clause-no : goal.returns-in_default-clause-no
returns-in_default-clause-no c = λ _.
    let i = c.words.invariant in
    let z = eqb-false (length c.words.rest.now) 0 (sym c.words-test.ensures) in
    numbers_stop (length c.args.values.now) (take c.words.count c.words.values) c.args.line.now c.words.rest.now i.numbers (omega (arith, z)) i.begins c.in_default.ensures.none

pub words-preserved : goal.words-preserved
words-preserved c =
    let i = c.words.invariant in
    let z = eqb-false (length c.words.rest.now) 0 (sym c.words-test.ensures) in
    let some : 0 < length c.words.rest.now = omega (arith, z) in
    let number = c.in-Some.number in
    let says = c.in-Some.ensures.some in
    let fits : SFits w32 number.value = search rules in
    let value : ℤ = to_z w32 (of_z w32 number.value) in
    let good : word_number (take number.len c.words.rest.now) ≡ Some value = says.1 ∙ ap Some (sym (to_z-of_z w32 number.value fits)) in
    let after : List ℕ = c.skip_blanks-rest-in-words.result.now in
    let same : line_words after ≡ line_words (drop number.len c.words.rest.now) = c.skip_blanks-rest-in-words.ensures.words ∙ ap line_words (take_rest c.words.rest.now number.len) in
    let low : c.words.count < length c.words.values = (let e = c.if-count-values.false in omega (arith, i.within)) in
    record {
      numbers = numbers_more c.words.values c.words.count c.args.line.now c.words.rest.now after number.len value low i.numbers some i.begins says.0 good same;
      count = count_more c.words.count c.args.line.now c.words.rest.now after number.len i.count some i.begins says.0 same;
      within = omega (arith, length-set c.words.values c.words.count value);
      begins = c.skip_blanks-rest-in-words.ensures.begins;
    }

pub returns-clause-yes : goal.returns-clause-yes
returns-clause-yes c = λ full.
    let i = c.words.invariant in
    let z = eqb-true (length c.words.rest.now) 0 (sym c.words-test.ensures) in
    subst (λ (n : ℕ). numbers_in n (line_words c.args.line.now) ≡ Some c.words.values) c.words.auto.values
    (numbers_all c.words.values c.words.count c.args.line.now c.words.rest.now (eqb-true c.words.count (length c.words.values) full) i.numbers i.count z)

pub returns-clause-no : goal.returns-clause-no
returns-clause-no c = λ other.
    let i = c.words.invariant in
    let z = eqb-true (length c.words.rest.now) 0 (sym c.words-test.ensures) in
    let n = eqb-false c.words.count (length c.words.values) other in
    numbers_few (length c.args.values.now) c.words.count c.args.line.now c.words.rest.now (λ e. n (omega (arith, c.words.auto.values, e))) i.count z

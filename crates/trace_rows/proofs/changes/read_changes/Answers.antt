use Rattle.std.proofs.Common.{◌≡◌, ℕ, ℤ, List, Some, length, take, drop, w32, to_z, of_z, SFits, sym, ap, ◌∙◌, arith, rules, eqb-true}
use Rattle.std.proofs.lemmas.Bool.{eqb-false}
use Rattle.std.proofs.lemmas.Int.{to_z-of_z}
use Rattle.std.proofs.lemmas.List.{take_rest}
use Rattle.trace_rows.specs.Changes.{change_in, row_behind}
use Rattle.trace_rows.specs.Words.{line_words}
use Rattle.trace_rows.proofs.ChangeWords.{all_changed, no_change, named_twice, change_more}
use Rattle.trace_rows.proofs.changes.read_changes.Goals as goal

pub returns-in_default-clause-no : goal.returns-in_default-clause-no
returns-in_default-clause-no c = λ _.
    let i = c.words.invariant in
    let z = eqb-false (length c.words.rest.now) 0 (sym c.words-test.ensures) in
    no_change c.args.names.now.texts c.words.named c.words.values c.words.rest.now (row_behind c.args.names.now.texts c.args.values.now (line_words c.args.line.now)) i.row (omega (arith, z)) i.begins c.in_default.ensures.none

pub returns-then-named-change-clause-no : goal.returns-then-named-change-clause-no
returns-then-named-change-clause-no c = λ _.
    let i = c.words.invariant in
    let z = eqb-false (length c.words.rest.now) 0 (sym c.words-test.ensures) in
    let change = c.in-Some.change in
    let says = c.in-Some.ensures.some in
    named_twice c.args.names.now.texts c.words.named c.words.values c.words.rest.now (row_behind c.args.names.now.texts c.args.values.now (line_words c.args.line.now)) i.row (omega (arith, z)) i.begins
    change.len change.input change.value says.0 says.1 c.if-named-change.true

pub words-preserved : goal.words-preserved
words-preserved c =
    let i = c.words.invariant in
    let z = eqb-false (length c.words.rest.now) 0 (sym c.words-test.ensures) in
    let change = c.in-Some.change in
    let says = c.in-Some.ensures.some in
    let fits : SFits w32 change.value = search rules in
    let value : ℤ = to_z w32 (of_z w32 change.value) in
    let good : change_in c.args.names.now.texts (take change.len c.words.rest.now) ≡ Some (change.input, value) =
    says.1 ∙ ap (λ v. Some (change.input, v)) (sym (to_z-of_z w32 change.value fits)) in
    let after : List ℕ = c.skip_blanks-rest-in-words.result.now in
    let same : line_words after ≡ line_words (drop change.len c.words.rest.now) = c.skip_blanks-rest-in-words.ensures.words ∙ ap line_words (take_rest c.words.rest.now change.len) in
    record {
      row = change_more c.args.names.now.texts c.words.named c.words.values c.words.rest.now (row_behind c.args.names.now.texts c.args.values.now (line_words c.args.line.now)) i.row (omega (arith, z)) i.begins
          change.len change.input value says.0 good after same c.if-named-change.false;
      begins = c.skip_blanks-rest-in-words.ensures.begins;
    }

pub returns-clause-yes : goal.returns-clause-yes
returns-clause-yes c = λ _.
    let i = c.words.invariant in
    let z = eqb-true (length c.words.rest.now) 0 (sym c.words-test.ensures) in
    all_changed c.args.names.now.texts c.words.named c.words.values c.words.rest.now (row_behind c.args.names.now.texts c.args.values.now (line_words c.args.line.now)) i.row z

use Rattle.std.proofs.Common.{◌-◌, ◌<◌, ◌∷◌, length, take, drop, sym, ap, ◌∙◌, arith, eqb-true}
use Rattle.std.proofs.lemmas.Bool.{eqb-false}
use Rattle.std.proofs.lemmas.List.{take_rest, length-take, length-drop}
use Rattle.trace_rows.specs.Words.{line_words}
use Rattle.trace_rows.proofs.Splitting.{words_of-word, words_of-empty, word_some}
use Rattle.trace_rows.proofs.words.first_word.Goals as goal

pub returns-then-is_empty-clause-none : goal.returns-then-is_empty-clause-none
returns-then-is_empty-clause-none c = words_of-empty c.args.line.now (eqb-true (length c.args.line.now) 0 (sym c.if-is_empty.ensures))

pub returns-clause-some : goal.returns-clause-some
returns-clause-some c =
    let line = c.args.line.now in
    let n = c.word_end-end.result in
    let z = eqb-false (length line) 0 (sym c.if-is_empty.ensures) in
    let some : 0 < length line = omega (arith, z) in
    let end = c.word_end-end.ensures.end in (
      words_of-word line n some c.requires end ∙ ap (λ r. take n line ∷ line_words r) (sym (take_rest line n)),
      omega (arith, end, word_some line some c.requires, length-take (length line - n) (drop n line), length-drop n line),
    )

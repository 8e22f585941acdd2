use Rattle.std.proofs.Common.{length, get_or, sym, arith}
use Rattle.std.proofs.lemmas.Bool.{false_from_ne_true}
use Rattle.std.proofs.lemmas.List.Sums.{position_or_len_is}
use Rattle.trace_rows.specs.Lines.{is_newline}
use Rattle.trace_rows.proofs.buffer.line_end.Goals as goal

pub returns-in-Some-clause-end : goal.returns-in-Some-clause-end
returns-in-Some-clause-end c =
    let bytes = c.args.bytes.now in
    let found = c.in-Some.ensures in
    sym (position_or_len_is is_newline bytes c.in-Some.end 0 (let high = found.0.high in omega arith)
    (λ k low. false_from_ne_true (is_newline (get_or bytes k 0)) (found.0.before k (omega arith) low)) (λ _. found.1))

pub returns-in-None-clause-end : goal.returns-in-None-clause-end
returns-in-None-clause-end c =
    let bytes = c.args.bytes.now in
    sym (position_or_len_is is_newline bytes (length bytes) 0 (omega arith)
    (λ k low. false_from_ne_true (is_newline (get_or bytes k 0)) (c.in-None.ensures k (omega arith) low)) (λ h. absurd (omega arith)))

use Rattle.std.proofs.Common.{◌≡◌, ◌+◌, ◌∷◌, ◌++◌, ap, sym, ◌∙◌, subst, IfOk, OnOk}
use Rattle.forec_kernel.specs.Plain.{stmt, stmts}
use Rattle.forec_kernel.proofs.VecTerms.{stmt-sequence}
use Rattle.code_sizes.specs.Sizes.{count_if, statement_length, statements_length, aborts_in, aborts_of}
use Rattle.code_sizes.proofs.Sizing.{put_size, one_byte}
use Rattle.code_sizes.proofs.sizes.+statement.Goals as goal

pub abort_size-returns-clause-bodies : goal.abort_size-returns-clause-bodies
abort_size-returns-clause-bodies t c =
    let base = c.args.sizes.now.items in
    let body = stmt c.args.body.now in
    let before = c.in_ok-before.before in
    let behind = c.in_ok-behind.behind in
    let flagged : before ≡ c.args.checks + count_if c.args.weak = c.in_ok-before.ensures ∙ ap (λ n. c.args.checks + n) (one_byte c.args.weak) in
    let guarded : behind ≡ c.args.prologue + (c.args.tested + 1) = c.in_ok-behind.ensures ∙ ap (λ n. c.args.prologue + n) c.in_ok-guarded.ensures in
    put_size base c.push.new.self.items c.statement_size.new.sizes.items (aborts_in before behind body) c.len-number.result c.in_ok-inside.inside
    (c.len-number.ensures ∙ c.args.sizes.now.ok.0) c.in_ok-push.ensures.items c.in_ok-inside.ensures.bodies
    ∙ ap (λ n. base ++ n ∷ aborts_in before behind body) c.in_ok-inside.ensures.size
    ∙ ap (λ n. base ++ statement_length n behind body ∷ aborts_in n behind body) flagged
    ∙ ap (λ n. base ++ statement_length (c.args.checks + count_if c.args.weak) n body ∷ aborts_in (c.args.checks + count_if c.args.weak) n body) guarded

pub statement_size-returns-in-Sequence-clause-size : goal.statement_size-returns-in-Sequence-clause-size
statement_size-returns-in-Sequence-clause-size t c =
    let same = ap stmt c.in-Sequence.is ∙ stmt-sequence c.in-Sequence.list in
    let e = ap (λ l. statements_length c.args.checks c.args.prologue (stmts l)) c.deref.ensures.value ∙ sym (ap (statement_length c.args.checks c.args.prologue) same) in
    subst (λ m. IfOk c.list_size.result (λ n. n ≡ m)) e c.list_size.ensures.size

pub statement_size-returns-in-Sequence-clause-bodies : goal.statement_size-returns-in-Sequence-clause-bodies
statement_size-returns-in-Sequence-clause-bodies t c =
    let same = ap stmt c.in-Sequence.is ∙ stmt-sequence c.in-Sequence.list in
    let e = ap (λ l. aborts_of c.args.checks c.args.prologue (stmts l)) c.deref.ensures.value ∙ sym (ap (aborts_in c.args.checks c.args.prologue) same) in
    subst (λ l. OnOk c.list_size.result (c.list_size.new.sizes.items ≡ c.args.sizes.now.items ++ l)) e c.list_size.ensures.bodies

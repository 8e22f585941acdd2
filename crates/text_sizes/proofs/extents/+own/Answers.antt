use Rattle.std.proofs.Common.{◌≡◌, ◌∙◌, ◌+◌, ◌-◌, ◌^◌, min, ap, arith}
use Rattle.forec_tree.specs.Plain.{term, optional_term, statement, statements, branches}
use Rattle.forec_tree.proofs.Rows.{of_group, of_for, of_abort, of_par}
use Rattle.forec_tree.specs.Plain.{perhaps_of}
use Rattle.text_sizes.specs.TermCounts.{own, own_start, own_step, optional_count, own_all, sequence_count, statement_count, term_count, branches_count}
use Rattle.text_sizes.specs.Extents.{own_at}
use Rattle.text_sizes.proofs.Tallied.{sequence_as_near, statements_length}
use Rattle.text_sizes.proofs.extents.+own.Goals as goal

pub block-returns : goal.block-returns
block-returns t c =
    let a = c.all_own.ensures in
    sequence_as_near c.sequence.result _ _ c.all_own.result (own_all (own_at c.args.table.now) (statements c.args.list.now)) c.sequence.ensures (statements_length c.args.list.now) (omega (arith, a))

pub own-returns-in-Group : goal.own-returns-in-Group
own-returns-in-Group t c = c.block.ensures ∙ of_group (λ s. min (own (own_at c.args.table.now) s) (2 ^ 64 - 1)) c.args.s.now c.in-Group.body c.as_slice.result.now c.in-Group.is c.as_slice.ensures

pub own-returns-in-Par : goal.own-returns-in-Par
own-returns-in-Par t c =
    let a = c.add-in-Par.ensures in
    let b = c.branch_terms.ensures in
    let base : c.add-in-Par.result ≡ min (1 + branches_count (branches c.as_slice-in-Par.result.now)) (2 ^ 64 - 1) = omega (arith, a, b) in
    base ∙ of_par (λ s. min (own (own_at c.args.table.now) s) (2 ^ 64 - 1)) c.args.s.now c.in-Par.branches c.as_slice-in-Par.result.now c.in-Par.is c.as_slice-in-Par.ensures

pub own-returns-in-Abort : goal.own-returns-in-Abort
own-returns-in-Abort t c =
    let a = c.add-in-Abort.ensures in
    let b = c.add-in-Abort-2.ensures in
    let d = c.terms_of-in-Abort.ensures in
    let e = c.block-in-Abort.ensures in
    let list = statements c.as_slice-in-Abort.result.now in
    let base : c.add-in-Abort-2.result ≡ min (1 + term_count (term c.in-Abort.test) + sequence_count (statement_count list) (own_all (own_at c.args.table.now) list)) (2 ^ 64 - 1) = omega (arith, a, b, d, e) in
    base
    ∙ of_abort (λ s. min (own (own_at c.args.table.now) s) (2 ^ 64 - 1)) c.args.s.now c.in-Abort.weak c.in-Abort.immediate c.in-Abort.test c.in-Abort.body c.as_slice-in-Abort.result.now c.in-Abort.is c.as_slice-in-Abort.ensures

pub own-returns-in-For : goal.own-returns-in-For
own-returns-in-For t c =
    let table = own_at c.args.table.now in
    let start = perhaps_of c.in-For.start in
    let test = optional_term c.in-For.test in
    let step = perhaps_of c.in-For.step in
    let body = own table (statement c.deref-in-For.result.now) in
    let s = c.step_own-body.ensures body c.own-in-For.ensures in
    let a = c.add-in-For.ensures in
    let b = c.add-in-For-2.ensures in
    let o = c.optional_terms.ensures in
    let turned : c.add-in-For-2.result ≡ min (1 + optional_count test + own_step table step body) (2 ^ 64 - 1) = omega (arith, s, a, b, o) in
    c.start_own.ensures (1 + optional_count test + own_step table step body) turned
    ∙ (ap (λ x. min (own_start table start (1 + optional_count test + own_step table step (own table (statement x)))) (2 ^ 64 - 1)) c.deref-in-For.ensures
    ∙ of_for (λ x. min (own table x) (2 ^ 64 - 1)) c.args.s.now c.in-For.start c.in-For.step c.in-For.test c.in-For.bound c.in-For.body c.in-For.is)

use Rattle.std.proofs.Common.{◌∙◌, ◌++◌, ap}
use Rattle.forec_kernel.specs.Plain.{stmt}
use Rattle.forec_kernel.specs.WellFormed.{stmt_calls, pars_of}
use Rattle.kernel_drafts.specs.Reach.{has, combine_at, pars_by}
use Rattle.kernel_drafts.proofs.Measuring.{calls_are, words_most, depth_most}
use Rattle.kernel_drafts.proofs.measure.thread_most.Goals as goal

pub returns-clause-words : goal.returns-clause-words
returns-clause-words c =
    let d = c.args.draft.now in
    let shape = c.index-shape.result.now in
    let text = c.index-text.result.now in
    let calls =
    c.deref-2.ensures.value
    ∙ (c.in_ok-calls.ensures
    ∙ (ap (λ x. stmt_calls (stmt text) ++ pars_by (has x) (combine_at c.as_slice-variables.result.now) c.as_slice.result.now (pars_of (stmt text))) c.as_slice-rows.ensures.value
    ∙ (ap (λ x. stmt_calls (stmt text) ++ pars_by (has d.rows.items) (combine_at x) c.as_slice.result.now (pars_of (stmt text))) c.as_slice-variables.ensures.value
    ∙ (ap (λ x. stmt_calls (stmt text) ++ pars_by (has d.rows.items) (combine_at d.variables.items) x (pars_of (stmt text))) c.as_slice.ensures.value
    ∙ calls_are d c.requires.fits c.args.t shape text c.requires.there c.index-shape.ensures c.index-text.ensures)))) in
    words_most d c.requires.fits c.args.t shape text c.requires.there c.index-shape.ensures c.index-text.ensures c.args.chains.now c.deref-2.result.now c.deref.result.now c.from.result c.greatest.result c.add.result
    c.requires.low c.requires.chains calls c.deref.ensures.value c.from.ensures c.greatest.ensures c.add.ensures

pub returns-clause-depth : goal.returns-clause-depth
returns-clause-depth c =
    let d = c.args.draft.now in
    let shape = c.index-shape.result.now in
    let text = c.index-text.result.now in
    let calls =
    c.deref-4.ensures.value
    ∙ (c.in_ok-calls.ensures
    ∙ (ap (λ x. stmt_calls (stmt text) ++ pars_by (has x) (combine_at c.as_slice-variables.result.now) c.as_slice.result.now (pars_of (stmt text))) c.as_slice-rows.ensures.value
    ∙ (ap (λ x. stmt_calls (stmt text) ++ pars_by (has d.rows.items) (combine_at x) c.as_slice.result.now (pars_of (stmt text))) c.as_slice-variables.ensures.value
    ∙ (ap (λ x. stmt_calls (stmt text) ++ pars_by (has d.rows.items) (combine_at d.variables.items) x (pars_of (stmt text))) c.as_slice.ensures.value
    ∙ calls_are d c.requires.fits c.args.t shape text c.requires.there c.index-shape.ensures c.index-text.ensures)))) in
    depth_most d c.requires.fits c.args.t shape text c.requires.there c.index-shape.ensures c.index-text.ensures c.args.chains.now c.deref-4.result.now c.deref-3.result.now c.statement_depth.result c.greatest-2.result c.add-2.result
    c.requires.low c.requires.chains calls c.deref-3.ensures.value c.statement_depth.ensures c.greatest-2.ensures c.add-2.ensures

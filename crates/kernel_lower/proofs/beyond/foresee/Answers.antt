use Rattle.std.proofs.Common.{◌∙◌, ap, sym, subst, arith}
use Rattle.text_kernel.specs.declared.limits.Quantity.TheVariants.{Words}
use Rattle.text_kernel.specs.Kernels.{kernel_of}
use Rattle.text_kernel.specs.Limits.{limit_of, widest}
use Rattle.text_sizes.specs.declared.span.Span.{Span}
use Rattle.text_sizes.specs.Spans.{span_at}
use Rattle.loop_check.specs.Views.{indexed_text}
use Rattle.kernel_lower.specs.Refusals.{HasLowerCause}
use Rattle.kernel_drafts.proofs.Drafting.{as_many}
use Rattle.kernel_lower.proofs.Reckoning.{at_most, words_told, levels_told, words_cause}
use Rattle.kernel_lower.proofs.Tallying.{err_passed}
use Rattle.kernel_lower.proofs.beyond.foresee.Goals as goal

pub returns-clause-words : goal.returns-clause-words
returns-clause-words c =
    let text = indexed_text c.args.index.now in
    let names = c.args.names.now in
    let first = c.args.first in
    let main = c.span_of-main.result in
    let same = c.span_of-main.ensures ∙ (ap (λ l. span_at l first) c.deref.ensures.value ∙ c.in_ok-table.ensures first) in
    let are = words_told text names first main.slots main.widest c.max-words.result c.requires.first (ap (λ (x : Span). x.slots) same) (ap (λ (x : Span). x.widest) same) c.max-words.ensures in
    at_most (limit_of Words) c.max-words.result (widest (kernel_of text names).shape.threads) (omega arith) are c.in_ok-within.ensures.ok

pub returns-clause-levels : goal.returns-clause-levels
returns-clause-levels c =
    let first = c.args.first in
    let main = c.span_of-main.result in
    let same = c.span_of-main.ensures ∙ (ap (λ l. span_at l first) c.deref.ensures.value ∙ c.in_ok-table.ensures first) in
    levels_told (indexed_text c.args.index.now) c.args.names.now first main.levels main.deepest c.max.result c.requires.first (ap (λ (x : Span). x.levels) same) (ap (λ (x : Span). x.deepest) same) c.max.ensures

pub returns-in_err-within-clause-fault : goal.returns-in_err-within-clause-fault
returns-in_err-within-clause-fault c =
    let text = indexed_text c.args.index.now in
    let names = c.args.names.now in
    let first = c.args.first in
    let main = c.span_of-main.result in
    let same = c.span_of-main.ensures ∙ (ap (λ l. span_at l first) c.deref.ensures.value ∙ c.in_ok-table.ensures first) in
    let are = words_told text names first main.slots main.widest c.max-words.result c.requires.first (ap (λ (x : Span). x.slots) same) (ap (λ (x : Span). x.widest) same) c.max-words.ensures in
    let cause = words_cause text names c.args.threads c.max-words.result c.in_err-within.field-0.0 (as_many text names) c.requires.threads c.requires.few are c.in_err-within.ensures.err in
    err_passed c.from_residual-in_err-within.result c.in_err-within.field-0.0 _ (λ e. HasLowerCause e text names) c.from_residual-in_err-within.ensures.1 (λ y e. subst (λ e. HasLowerCause e text names) (sym e) cause)

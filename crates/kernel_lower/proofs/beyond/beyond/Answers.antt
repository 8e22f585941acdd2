use Rattle.std.proofs.Common.{◌∙◌, ◌-◌, ◌^◌, min, sum, ap, map}
use Rattle.loop_check.specs.Views.{indexed_text}
use Rattle.kernel_lower.specs.declared.judge.Amounts.{Amounts}
use Rattle.text_kernel.specs.Items.{globals_of, array_items, array_length}
use Rattle.text_kernel.specs.Kernels.{kernel_of}
use Rattle.kernel_drafts.specs.Reach.{value_at}
use Rattle.text_chains.specs.Peaks.{most_words}
use Rattle.kernel_lower.specs.Refusals.{amount_in, HasLowerCause}
use Rattle.kernel_lower.proofs.Finishing.{tables_amount}
use Rattle.kernel_lower.proofs.Reckoning.{tells, words_are, told_causes, ok_more, err_more}
use Rattle.text_kernel.specs.declared.limits.Quantity.TheVariants as quantity
use Rattle.kernel_lower.proofs.beyond.beyond.Goals as goal

pub returns-clause-ok : goal.returns-clause-ok
returns-clause-ok c = ok_more c.judge.result (λ within. (within quantity.Globals, within quantity.Terms, within quantity.Depth)) c.judge.ensures.ok

pub returns-clause-fault : goal.returns-clause-fault
returns-clause-fault c =
    let text = indexed_text c.args.source.now.globals.index in
    let names = c.args.names.now in
    let k = kernel_of text names in
    let known = c.args.known in
    let a : Amounts = record { threads = known.threads; words = c.in_ok-words.words; globals = known.variables; tables = c.table_words.result; terms = known.terms; depth = known.levels } in
    let tables =
    tables_amount text names c.table_words.result (globals_of c.in_ok-arrays.arrays.items) (c.in_ok-arrays.ensures ∙ ap array_items c.requires.items)
    (c.table_words.ensures ∙ ap (λ l. min (sum (map array_length (globals_of l))) (2 ^ 64 - 1)) c.deref-3.ensures.value) in
    let values = c.in_ok-values.values.items in
    let words = words_are k values c.in_ok-words.words c.requires.low c.in_ok-values.ensures (c.in_ok-words.ensures ∙ ap (λ l. min (most_words (value_at l) k) (2 ^ 64 - 1)) c.deref-2.ensures.value) in
    let all = tells k a c.requires.threads words c.requires.variables tables c.requires.terms c.requires.levels in
    err_more c.judge.result _ (λ e. HasLowerCause e text names) c.judge.ensures.err (λ e f. told_causes text names (amount_in a) e all f)

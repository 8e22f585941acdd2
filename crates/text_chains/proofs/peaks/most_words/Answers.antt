use Rattle.std.proofs.Common.{ℕ, false, ◌∙◌, max, sym, ap, subst}
use Rattle.loop_check.specs.Views.{indexed_text}
use Rattle.loop_check.proofs.Ordered.{order_lent}
use Rattle.text_kernel.specs.Bindings.{number_among, is_int_function}
use Rattle.text_kernel.specs.Items.{globals_of}
use Rattle.text_kernel.specs.Kernels.{main_id}
use Rattle.text_kernel.proofs.Faultless.{clean_of}
use Rattle.text_chains.specs.Tallies.{table_value}
use Rattle.text_chains.specs.Peaks.{peak_by, peak_over}
use Rattle.text_chains.specs.Views.{SettlesTallies}
use Rattle.text_chains.proofs.Agreeing.{tallies_settle}
use Rattle.text_chains.proofs.PeakLemmas.{most_told}
use Rattle.text_chains.proofs.peaks.most_words.Goals as goal

pub peak-requires : goal.peak-requires
peak-requires c =
    let text = indexed_text c.args.globals.now.index in
    subst (λ o. SettlesTallies text o) (sym c.deref-3.ensures.value) (λ i array value worth. tallies_settle i array value worth text _ _ _ c.in_ok-calls.ensures (order_lent c.deref.ensures.value c.deref-2.ensures.value c.in_ok-order.ensures) c.requires.free)

pub peaks_with-requires : goal.peaks_with-requires
peaks_with-requires c =
    let text = indexed_text c.args.globals.now.index in
    subst (λ o. SettlesTallies text o) (sym c.deref-4.ensures.value) (λ i array value worth. tallies_settle i array value worth text _ _ _ c.in_ok-calls.ensures (order_lent c.deref.ensures.value c.deref-2.ensures.value c.in_ok-order.ensures) c.requires.free)

pub returns : goal.returns
returns c =
    let text = indexed_text c.args.globals.now.index in
    let names = c.args.names.now in
    let main = main_id text names in
    let u : ℕ → ℕ = table_value c.args.values.now in
    let value : ℕ → ℕ = λ id. u (number_among is_int_function id text) in
    let a = c.in_ok-most.ensures ∙ ap (peak_by 0 false value 0 text) c.requires.first in
    let b = c.in_ok-with.ensures ∙ (ap (λ f. peak_over value text f (globals_of c.args.variables.now)) c.requires.first ∙ ap (peak_over value text main) c.requires.variables) in
    c.max.ensures ∙ (ap (λ n. max n c.in_ok-with.with) a ∙ (ap (max (peak_by 0 false value 0 text main)) b ∙ most_told text names (clean_of text names c.requires.faultless) u))

use Rattle.std.proofs.Common.{ℕ, ◌+◌, ◌∙◌, max, sym, ap, List, drop}
use Rattle.std.specs.Borrow.{Bor}
use Rattle.forec_tree.specs.declared.tree.Global.{Global}
use Rattle.loop_check.specs.Views.{indexed_text}
use Rattle.text_kernel.specs.Items.{globals_of}
use Rattle.text_chains.specs.Peaks.{peak_over}
use Rattle.text_chains.specs.Views.{value_by}
use Rattle.text_chains.proofs.Sums.{drop_item, most_next}
use Rattle.text_chains.proofs.peaks.peaks_with.Goals as goal

pub loop-global-preserved : goal.loop-global-preserved
loop-global-preserved c =
    let w = c.args.w.now in
    let list = c.args.globals.now in
    let i = c.loop-global.global-index in
    let most = c.loop-global.most in
    let told : List (Bor Global) → ℕ = λ l. peak_over (value_by w) (indexed_text w.globals.now.index) c.args.first (globals_of l) in
    let d = drop_item list i c.global-item.result c.loop-global-test.true (sym c.global-item.is) in
    most_next most c.in_ok-peak_with.field-0 _ (told (drop (i + 1) list)) _ c.max-most.result c.max-most.ensures c.in_ok-peak_with.ensures (sym (ap (λ l. max most (told l)) d) ∙ c.loop-global.invariant)

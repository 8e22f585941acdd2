use Rattle.std.proofs.Common.{◌≡◌, ◌∙◌, ◌+◌, sum, map, sym, ap, drop, arith}
use Rattle.forec_tree.specs.Plain.{plain_global}
use Rattle.text_kernel.specs.Items.{globals_of, array_length}
use Rattle.std.proofs.lemmas.List.Sums.{sum_by-cons}
use Rattle.kernel_drafts.proofs.Assembled.{globals_next}
use Rattle.kernel_drafts.proofs.tables.table_words.Goals as goal

pub loop-global-preserved : goal.loop-global-preserved
loop-global-preserved c =
    let list = c.args.arrays.now in
    let i = c.loop-global.global-index in
    let g = plain_global c.global-item.result.now in
    let next : sum (map array_length (globals_of (drop i list))) ≡ array_length g + sum (map array_length (globals_of (drop (i + 1) list))) =
    ap (λ l. sum (map array_length l)) (globals_next list i c.global-item.result c.loop-global-test.true (sym c.global-item.is)) ∙ sum_by-cons (λ n. n) (array_length g) (map array_length (globals_of (drop (i + 1) list))) in
    let a = c.add-total.ensures in
    let b = c.from.ensures in
    let d = c.length.ensures in
    let told = c.loop-global.invariant.told in
    record { small = omega (arith, a); told = omega (arith, a, b, d, next, told) }

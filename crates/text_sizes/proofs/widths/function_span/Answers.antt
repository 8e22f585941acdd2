use Rattle.std.proofs.Common.{◌∙◌, ◌-◌, ◌^◌, min, sym, ap}
use Rattle.forec_tree.specs.Plain.{statements}
use Rattle.text_sizes.specs.TermCounts.{slots_all}
use Rattle.text_sizes.specs.Extents.{capped_size}
use Rattle.text_sizes.specs.Spans.{slots_at, widest_at, levels_at, deepest_at, span_at, span_by, most_all, block_levels, words_by, levels_by}
use Rattle.text_sizes.proofs.Widening.{by_four}
use Rattle.text_sizes.proofs.widths.function_span.Goals as goal

pub returns-in-Some : goal.returns-in-Some
returns-in-Some c =
    let table = c.args.table.now in
    let is = c.as_slice-body.ensures in
    by_four _ _ _ _ _ _ _ _ (c.all_slots.ensures ∙ ap (λ l. min (slots_all (slots_at table) (statements l)) (2 ^ 64 - 1)) is)
    (c.all_most.ensures ∙ ap (λ l. min (most_all (words_by (slots_at table)) (slots_all (slots_at table)) (widest_at table) (statements l)) (2 ^ 64 - 1)) is)
    (c.block_levels.ensures ∙ ap (λ l. min (block_levels (levels_at table) (statements l)) (2 ^ 64 - 1)) is)
    (c.all_most-in-Some.ensures ∙ ap (λ l. min (most_all (levels_by (levels_at table)) (block_levels (levels_at table)) (deepest_at table) (statements l)) (2 ^ 64 - 1)) is)
    ∙ ap (span_by capped_size (span_at table)) (sym c.in-Some.ensures)

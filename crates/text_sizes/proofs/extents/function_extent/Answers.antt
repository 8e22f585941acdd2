use Rattle.std.proofs.Common.{◌∙◌, ◌-◌, ◌^◌, ℕ, min, sym, ap}
use Rattle.forec_tree.specs.Plain.{statements}
use Rattle.text_sizes.specs.declared.extents.Extent.{Extent}
use Rattle.text_sizes.specs.TermCounts.{own_all, under_all, sequence_count, statement_count}
use Rattle.text_sizes.specs.Extents.{own_at, under_at, extent_at, extent_by, capped_size}
use Rattle.text_sizes.proofs.extents.function_extent.Goals as goal

pub returns-in-Some : goal.returns-in-Some
returns-in-Some c =
    let table = c.args.table.now in
    let parts : ℕ → ℕ → Extent = λ a b. record { own = a; under = b } in
    let own = c.block.ensures ∙ ap (λ l. min (sequence_count (statement_count (statements l)) (own_all (own_at table) (statements l))) (2 ^ 64 - 1)) c.as_slice-body.ensures in
    let under = c.all_under.ensures ∙ ap (λ l. min (under_all (own_at table) (under_at table) (statements l)) (2 ^ 64 - 1)) c.as_slice-body.ensures in
    ap (λ n. parts n c.all_under.result) own ∙ (ap (parts _) under ∙ ap (extent_by capped_size (extent_at table)) (sym c.in-Some.ensures))

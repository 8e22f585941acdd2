use Rattle.std.proofs.Common.{◌≡◌, ◌∙◌, sym, ap, subst, map}
use Rattle.forec_tree.specs.Plain as plain
use Rattle.forec_tree.specs.Faults.{text_faults, IsFault}
use Rattle.loop_check.specs.Views.{indexed_text}
use Rattle.forec_check.specs.Early.{IsLeastOrNone}
use Rattle.forec_check.proofs.Recursion.{kept_list}
use Rattle.forec_check.proofs.Lately.{late_kept, early_kept, none_early}
use Rattle.forec_check.proofs.rules.least_fault.Goals as goal

pub judge_recursion-requires-clause-kept : goal.judge_recursion-requires-clause-kept
judge_recursion-requires-clause-kept c =
    kept_list (text_faults (indexed_text c.in_ok-index.index) c.args.names.now) c.in_ok-program_notes.program_notes.notes.least c.in_ok-program_notes.ensures.least

pub least_late-requires-clause-early : goal.least_late-requires-clause-early
least_late-requires-clause-early c =
    none_early (indexed_text c.in_ok-index.index) c.args.names.now c.judge_recursion.new.least (sym c.is_some.ensures ∙ c.if-is_some.false) c.in_ok-judge_recursion.ensures

pub returns-then-is_some : goal.returns-then-is_some
returns-then-is_some c =
    let text = c.in_ok-index.ensures ∙ ap (map plain.plain_item) c.as_slice-items.ensures in
    subst (λ t. IsLeastOrNone c.judge_recursion.new.least (IsFault t c.args.names.now)) text
    (early_kept (indexed_text c.in_ok-index.index) c.args.names.now c.judge_recursion.new.least (sym c.is_some.ensures ∙ c.if-is_some.true) c.in_ok-judge_recursion.ensures)

pub returns : goal.returns
returns c =
    let text = c.in_ok-index.ensures ∙ ap (map plain.plain_item) c.as_slice-items.ensures in
    subst (λ t. IsLeastOrNone c.in_ok-late.late (IsFault t c.args.names.now)) text
    (late_kept (indexed_text c.in_ok-index.index) c.args.names.now c.in_ok-late.late
    (none_early (indexed_text c.in_ok-index.index) c.args.names.now c.judge_recursion.new.least (sym c.is_some.ensures ∙ c.if-is_some.false) c.in_ok-judge_recursion.ensures)
    c.in_ok-late.ensures)

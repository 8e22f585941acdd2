use Rattle.std.proofs.Common.{◌≡◌, ◌∙◌, ◌-◌, ◌^◌, ℕ, min, sum, sym, ap, subst, map, inl}
use Rattle.forec_tree.specs.Plain as plain
use Rattle.forec_tree.specs.Pauses.{callees_of}
use Rattle.forec_tree.specs.Faults.{Leads}
use Rattle.forec_kernel.specs.WellFormed.{Ranked}
use Rattle.forec_kernel.specs.Shapes.{PlainKernel}
use Rattle.forec_check.specs.declared.checked.Checked.{Checked}
use Rattle.forec_check.specs.Checked.{checked_text, names_of}
use Rattle.forec_check.specs.Faultless.{Faultless}
use Rattle.forec_check.proofs.Acyclic.{no_circle}
use Rattle.loop_check.specs.Views as views
use Rattle.text_kernel.specs.Kernels.{kernel_of}
use Rattle.kernel_lower.specs.declared.judge.Amounts.{Amounts}
use Rattle.text_kernel.specs.declared.limits.Quantity.{Quantity}
use Rattle.text_kernel.specs.declared.limits.Quantity.TheVariants.{Terms}
use Rattle.text_kernel.specs.Limits.{amount}
use Rattle.kernel_lower.specs.Refusals.{amount_in, HasLowerCause}
use Rattle.forec_tree.specs.Variables.{width}
use Rattle.text_kernel.specs.Items.{globals_of, variable_items, array_items, array_length}
use Rattle.kernel_drafts.specs.Measures.{CallsLow, IsDraft, plain_draft}
use Rattle.text_kernel.proofs.Called.{ranked}
use Rattle.kernel_drafts.proofs.InRange.{calls_low}
use Rattle.text_kernel.proofs.Faultless.{clean_of}
use Rattle.kernel_lower.proofs.Finishing.{Alike, draft_alike, ranked_same, low_same, words_amounts, depth_amounts, globals_amount, tables_amount, all_amounts, first_causes, within_limits}
use Rattle.kernel_lower.proofs.Reckoning.{variables_amount}
use Rattle.kernel_lower.proofs.Tallying.{err_passed}
use Rattle.kernel_lower.proofs.front.parts_of.Goals as goal
use Rattle.kernel_lower.proofs.front.parts_of.Goals.{In_ok-source, In_ok-draft, After-table_words}

-- ---- the text that is translated is the checked one

abbrev kernel : Checked → PlainKernel
kernel kept = kernel_of (checked_text kept) (names_of kept)

kept_ranked : (kept : Checked) → Ranked (kernel kept)
kept_ranked kept = ranked (checked_text kept) (names_of kept) (clean_of (checked_text kept) (names_of kept) kept.faultless)

kept_low : (kept : Checked) → CallsLow (kernel kept)
kept_low kept = calls_low (checked_text kept) (names_of kept) (clean_of (checked_text kept) (names_of kept) kept.faultless)

same_text : (c : In_ok-source) → views.indexed_text c.in_ok-source.source.globals.index ≡ checked_text c.args.checked.now
same_text c = c.in_ok-source.ensures.text ∙ (ap (map plain.plain_item) c.as_slice-items.ensures ∙ ap plain.program c.program.ensures)

same_kernel : (c : In_ok-source) → kernel_of (views.indexed_text c.in_ok-source.source.globals.index) c.args.names.now ≡ kernel c.args.checked.now
same_kernel c = ap (λ t. kernel_of t c.args.names.now) (same_text c) ∙ ap (kernel_of (checked_text c.args.checked.now)) c.requires.names

free : (c : In_ok-source) → (f : ℕ) → Leads (callees_of (views.indexed_text c.in_ok-source.source.globals.index)) f f → ⊥
free c f l =
    let kept = c.args.checked.now in
    no_circle (plain.program kept.program) kept.names.now (λ fault e. kept.faultless fault (inl e)) f (subst (λ t. Leads (callees_of t) f f) (same_text c) l)

pub of-requires : goal.of-requires
of-requires c =
    let kept = c.args.checked.now in
    let same = ap (map plain.plain_item) c.as_slice-items.ensures ∙ ap plain.program c.program.ensures in
    λ f l. no_circle (plain.program kept.program) kept.names.now (λ fault e. kept.faultless fault (inl e)) f (subst (λ t. Leads (callees_of t) f f) same l)

pub program_terms-requires-clause-free : goal.program_terms-requires-clause-free
program_terms-requires-clause-free c = free (goal.at.program_terms-requires-clause-free c).In_ok-source

pub foresee-requires-clause-free : goal.foresee-requires-clause-free
foresee-requires-clause-free c = free (goal.at.foresee-requires-clause-free c).In_ok-source

pub beyond-requires-clause-free : goal.beyond-requires-clause-free
beyond-requires-clause-free c = free (goal.at.beyond-requires-clause-free c).In_ok-source

pub beyond-requires-clause-ranked : goal.beyond-requires-clause-ranked
beyond-requires-clause-ranked c = subst Ranked (sym (same_kernel (goal.at.beyond-requires-clause-ranked c).In_ok-source)) (kept_ranked c.args.checked.now)

pub beyond-requires-clause-low : goal.beyond-requires-clause-low
beyond-requires-clause-low c = subst CallsLow (sym (same_kernel (goal.at.beyond-requires-clause-low c).In_ok-source)) (kept_low c.args.checked.now)

pub beyond-requires-clause-faultless : goal.beyond-requires-clause-faultless
beyond-requires-clause-faultless c =
    let kept = c.args.checked.now in
    subst (λ t. Faultless t c.args.names.now) (sym (same_text (goal.at.beyond-requires-clause-faultless c).In_ok-source)) (subst (Faultless (checked_text kept)) (sym c.requires.names) kept.faultless)

pub beyond-requires-clause-variables : goal.beyond-requires-clause-variables
beyond-requires-clause-variables c =
    let gs = globals_of c.in_ok-globals.globals.items in
    variables_amount (views.indexed_text c.in_ok-source.source.globals.index) c.args.names.now c.variable_total-variables.result gs (c.in_ok-globals.ensures ∙ ap variable_items (sym c.in_ok-source.ensures.text))
    (c.variable_total-variables.ensures ∙ ap (λ l. min (sum (map width (globals_of l))) (2 ^ 64 - 1)) c.deref-2.ensures.value)

-- ---- the draft is the kernel's

alike : (c : In_ok-draft) → kernel_of (views.indexed_text c.in_ok-source.source.globals.index) c.args.names.now ≡ kernel c.args.checked.now → Alike (plain_draft c.in_ok-draft.draft) (kernel c.args.checked.now)
alike c same = draft_alike (kernel c.args.checked.now) c.in_ok-draft.draft (subst (λ k. IsDraft k c.in_ok-draft.draft) same c.in_ok-draft.ensures)

pub most-requires-clause-ranked : goal.most-requires-clause-ranked
most-requires-clause-ranked c =
    let at = goal.at.most-requires-clause-ranked c in
    ranked_same (plain_draft c.in_ok-draft.draft) (kernel c.args.checked.now) (alike at.In_ok-draft (same_kernel at.In_ok-source)) (kept_ranked c.args.checked.now)

pub most-requires-clause-low : goal.most-requires-clause-low
most-requires-clause-low c =
    let at = goal.at.most-requires-clause-low c in
    low_same (plain_draft c.in_ok-draft.draft) (kernel c.args.checked.now) (alike at.In_ok-draft (same_kernel at.In_ok-source)) (kept_low c.args.checked.now)

-- ---- the amounts that are judged

abbrev amounts : After-table_words → Amounts
amounts c = record { threads = c.args.threads; words = c.in_ok-peak.peak.words; globals = c.len.result; tables = c.table_words.result; terms = c.in_ok-terms.terms; depth = c.in_ok-peak.peak.depth }

near : (c : After-table_words) → kernel_of (views.indexed_text c.in_ok-source.source.globals.index) c.args.names.now ≡ kernel c.args.checked.now →
    (q : Quantity) → amount_in (amounts c) q ≡ min (amount q (kernel c.args.checked.now)) (2 ^ 64 - 1)
near c same =
    let text = checked_text c.args.checked.now in
    let k = kernel c.args.checked.now in
    let d = c.in_ok-draft.draft in
    let all : map plain.plain_item c.as_slice-items.result.now ≡ text = ap (map plain.plain_item) c.as_slice-items.ensures ∙ ap plain.program c.program.ensures in
    let is : IsDraft k d = subst (λ k. IsDraft k d) same c.in_ok-draft.ensures in
    let agrees = draft_alike k d is in
    all_amounts k (amounts c) c.requires.threads (c.in_ok-peak.ensures.words ∙ ap (λ n. min n (2 ^ 64 - 1)) (words_amounts (plain_draft d) k agrees)) (globals_amount k d c.len.result is (c.len.ensures ∙ d.variables.ok.0)) c.len.type_inv
    (tables_amount text (names_of c.args.checked.now) c.table_words.result (globals_of c.in_ok-arrays.arrays.items) (c.in_ok-arrays.ensures ∙ ap array_items all) (c.table_words.ensures ∙ ap (λ l. min (sum (map array_length (globals_of l))) (2 ^ 64 - 1)) c.deref-3.ensures.value))
    (c.in_ok-terms.ensures ∙ ap (λ k. min (amount Terms k) (2 ^ 64 - 1)) same)
    (c.in_ok-peak.ensures.depth ∙ ap (λ n. min n (2 ^ 64 - 1)) (depth_amounts (plain_draft d) k agrees))

pub returns-in_err-judge-clause-fault : goal.returns-in_err-judge-clause-fault
returns-in_err-judge-clause-fault c =
    let text = checked_text c.args.checked.now in
    let names = names_of c.args.checked.now in
    let at = goal.at.returns-in_err-judge-clause-fault c in
    let cause = first_causes text names (amount_in (amounts at.After-table_words)) c.in_err-judge.field-0.0 (near at.After-table_words (same_kernel at.In_ok-source)) c.in_err-judge.ensures.err in
    err_passed c.from_residual-in_err-judge.result c.in_err-judge.field-0.0 _ (λ e. HasLowerCause e text names) c.from_residual-in_err-judge.ensures.1 (λ y e. subst (λ e. HasLowerCause e text names) (sym e) cause)

pub returns-clause-within : goal.returns-clause-within
returns-clause-within c =
    let at = goal.at.returns-clause-within c in
    within_limits (kernel c.args.checked.now) (amount_in (amounts at.After-table_words)) (near at.After-table_words (same_kernel at.In_ok-source)) c.in_ok-judge.ensures.ok

use Rattle.std.proofs.Common.{◌≡◌, ◌∙◌, IfOk, ap, sym, subst}
use Rattle.forec_kernel.specs.Plain.{stmt, stmts}
use Rattle.forec_kernel.specs.Texts.{text_of, texts_of}
use Rattle.forec_kernel.proofs.VecTerms.{stmt-sequence}
use Rattle.running_threads.specs.Views.{plugged, focused}
use Rattle.running_threads.proofs.Plugs.{texts_none, texts_some}
use Rattle.running_threads.proofs.frames.+start.Goals as goal

pub returns-then-is_empty : goal.returns-then-is_empty
returns-then-is_empty t c =
    ap (plugged c.args.frames.now.items)
    (texts_none c.as_slice-list.result.now (sym c.is_empty.ensures ∙ c.if-is_empty.true)
    ∙ ap (λ l. texts_of (stmts l)) c.as_slice-list.ensures.value
    ∙ sym (ap (λ s. text_of (stmt s)) c.in-Sequence.is ∙ ap text_of (stmt-sequence c.in-Sequence.list)))

pub returns-in_ok-push_rest-in-Sequence : goal.returns-in_ok-push_rest-in-Sequence
returns-in_ok-push_rest-in-Sequence t c =
    let list = c.as_slice-list.result.now in
    let whole =
    texts_some list c.index-list-0.result (sym c.is_empty.ensures ∙ c.if-is_empty.false) c.index-list-0.is
    ∙ ap (λ l. texts_of (stmts l)) c.as_slice-list.ensures.value
    ∙ sym (ap (λ s. text_of (stmt s)) c.in-Sequence.is ∙ ap text_of (stmt-sequence c.in-Sequence.list)) in
    subst (λ T. IfOk c.start.result (λ x. plugged c.start.new.frames.items (focused x) ≡ T))
    (c.in_ok-push_rest-in-Sequence.ensures (text_of (stmt c.index-list-0.result)) ∙ ap (plugged c.args.frames.now.items) whole) c.start.ensures

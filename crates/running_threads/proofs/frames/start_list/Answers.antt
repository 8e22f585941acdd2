use Rattle.std.proofs.Common.{◌≡◌, ◌∙◌, IfOk, ap, sym, subst}
use Rattle.forec_kernel.specs.Plain.{stmt}
use Rattle.forec_kernel.specs.Texts.{text_of}
use Rattle.running_threads.specs.Views.{plugged, focused}
use Rattle.running_threads.proofs.Plugs.{texts_none, texts_some}
use Rattle.running_threads.proofs.frames.start_list.Goals as goal

pub returns-then-is_empty : goal.returns-then-is_empty
returns-then-is_empty c =
    ap (plugged c.args.frames.now.items) (texts_none c.args.list.now (sym c.is_empty.ensures ∙ c.if-is_empty.true))

pub returns : goal.returns
returns c =
    let whole = texts_some c.args.list.now c.index-list-0.result (sym c.is_empty.ensures ∙ c.if-is_empty.false) c.index-list-0.is in
    subst (λ T. IfOk c.start.result (λ x. plugged c.start.new.frames.items (focused x) ≡ T))
    (c.in_ok-push_rest.ensures (text_of (stmt c.index-list-0.result)) ∙ ap (plugged c.args.frames.now.items) whole) c.start.ensures

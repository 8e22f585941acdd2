use Rattle.std.proofs.Common.{◌≡◌, ◌∙◌, sym, ap, subst, true, false, get_or, set}
use Rattle.loop_check.specs.Graph.{callees, any_waits, MarksUnordered}
use Rattle.loop_check.proofs.Ordered.{trues_clear, visited}
use Rattle.loop_check.proofs.graph.visit.Goals as goal

pub returns-clause-moved : goal.returns-clause-moved
returns-clause-moved c =
    λ e. trues_clear c.args.marks.now.items c.args.f (ap (λ xs. get_or xs c.args.f false) (sym c.deref.ensures.value) ∙ sym c.is_waiting.ensures ∙ c.if-not-is_waiting.false)

pub returns-clause-waits : goal.returns-clause-waits
returns-clause-waits c =
    let calls = callees c.args.calls.now in
    let marks = c.args.marks.now.items in
    let m : get_or marks c.args.f false ≡ true =
    ap (λ xs. get_or xs c.args.f false) (sym c.deref.ensures.value) ∙ sym c.is_waiting.ensures ∙ c.if-not-is_waiting.false in
    let next = visited c.args.functions.now calls marks c.args.order.now.items c.args.f c.requires m
    (ap (λ xs. any_waits xs (calls c.args.f)) (sym c.deref-2.ensures.value) ∙ sym c.any_callee_waits.ensures ∙ c.if-any_callee_waits.false) in
    subst (λ o. MarksUnordered c.args.functions.now calls (set marks c.args.f false) o) (sym c.in_ok-push.ensures.items) next

use Rattle.std.proofs.Common.{◌≡◌, ◌+◌, ◌-◌, ◌∙◌, sym, ap, refl, ◌++◌, []}
use Rattle.forec_tree.specs.Plain.{statement, statements, term, terms, optional_term, plain_function}
use Rattle.forec_tree.specs.Terms as tree
use Rattle.forec_tree.specs.Turns.{inferred}
use Rattle.forec_tree.proofs.Rows.{of_group, of_if, of_for, of_par, of_abort}
use Rattle.forec_tree.specs.Plain.{perhaps_of}
use Rattle.forec_kernel.specs.Terms as kernel
use Rattle.forec_kernel.specs.Plain.{stmt, stmts, expr}
use Rattle.lower_names.specs.declared.state.State.{State}
use Rattle.text_kernel.specs.Lowering.{NextNumbers, sequence, bound_of, or_inferred, after_start, lower_statement}
use Rattle.text_kernel.specs.Bindings.{params_at}
use Rattle.lower_names.specs.Heads.{for_of}
use Rattle.lower_names.specs.Landings.{called_within}
use Rattle.lower_names.specs.Views.{context_text, seen, next_of, Does, Done}
use Rattle.lower_names.proofs.Statements.{kept_then}
use Rattle.lower_names.proofs.LandingLemmas.{if_does, while_does, abort_does, does_boxed, does_shown, inner_lands, ok_then}
use Rattle.lower_names.proofs.Doing.{does_as, for_does, call_does, count_args, ends_pushed, same_kept, kept_cut}
use Rattle.lower_names.proofs.Going.{list_goes, list_ends, as_one_does, same_list, shown_same, place_none, place_unknown, place_known}
use Rattle.body_lower.proofs.body.+body.Goals as goal

pub list-loop-s-preserved : goal.list-loop-s-preserved
list-loop-s-preserved t c =
    let text = context_text c.args.context.now in (
      list_goes text (called_within text c.args.context.now.deep) c.args.context.now.owner c.args.body.now c.loop-s.s-index c.s-item.result c.loop-s.list.items c.push.new.self.items c.in_ok-k.k _ c.args.state.now c.loop-s.state c.statement.new.state
          c.loop-s-test.true (sym c.s-item.is) c.in_ok-k.ensures.seen c.in_ok-k.ensures.does c.in_ok-push.ensures.items c.loop-s.invariant.0,
      kept_then c.args.state.now.scope c.loop-s.state.scope c.statement.new.state.scope c.loop-s.invariant.1 c.in_ok-k.ensures.kept,
    )

pub list-returns-clause-does : goal.list-returns-clause-does
list-returns-clause-does t c =
    let text = context_text c.args.context.now in
    list_ends text (called_within text c.args.context.now.deep) c.args.context.now.owner c.args.body.now c.loop-s.s-index c.loop-s.list.items _ c.args.state.now c.loop-s.state c.loop-s-test.false c.loop-s.invariant.0

pub list-returns-clause-kept : goal.list-returns-clause-kept
list-returns-clause-kept t c = c.loop-s.invariant.1

pub in_function-returns-clause-does : goal.in_function-returns-clause-does
in_function-returns-clause-does t c =
    let text = context_text c.args.context.now in
    let old = c.args.state.now in
    let one : State = record old { scope = c.declare_params.new.self } in
    let two = c.list.new.state in
    let new : State = record two { scope = c.show.new.self } in
    as_one_does text _ _ (stmts c.in_ok-list.list.items) _ old one two new
    (same_list text (called_within text c.args.context.now.deep) c.args.context.now.owner (seen one.scope) (params_at c.args.first c.args.function.now.params) (next_of one) (next_of old) c.as_slice-body.result.now c.args.function.now.body
    (c.in_ok-declare_params.ensures.seen ∙ (ap (λ l. l ++ params_at c.args.first c.as_slice.result.now) c.hide-base.ensures.seen ∙ ap (params_at c.args.first) c.as_slice.ensures)) refl
    c.as_slice-body.ensures)
    refl c.in_ok-list.ensures.does c.sequence.ensures refl refl

pub in_function-returns-clause-same : goal.in_function-returns-clause-same
in_function-returns-clause-same t c =
    shown_same c.args.state.now.scope c.hide-base.new.self c.list.new.state.scope c.show.new.self c.hide-base.result c.hide-base.ensures.before c.hide-base.ensures.base c.hide-base.ensures.slots
    (kept_then c.hide-base.new.self c.declare_params.new.self c.list.new.state.scope c.in_ok-declare_params.ensures.kept c.in_ok-list.ensures.kept) c.show.ensures.slots c.show.ensures.base

pub by_kind-returns-in_ok-k-in-Group-clause-does : goal.by_kind-returns-in_ok-k-in-Group-clause-does
by_kind-returns-in_ok-k-in-Group-clause-does t c =
    let text = context_text c.args.context.now in
    does_as _ _ (stmt c.in_ok-k-in-Group.k) c.args.state.now c.block.new.state
    (of_group (lower_statement text (called_within text c.args.context.now.deep) c.args.context.now.owner (seen c.args.state.now.scope) (next_of c.args.state.now)) c.args.s.now c.in-Group.body c.as_slice-body.result.now c.in-Group.is c.as_slice-body.ensures)
    c.in_ok-k-in-Group.ensures.does

pub by_kind-returns-in_ok-k-in-If-clause-does : goal.by_kind-returns-in_ok-k-in-If-clause-does
by_kind-returns-in_ok-k-in-If-clause-does t c =
    let text = context_text c.args.context.now in
    let F = lower_statement text (called_within text c.args.context.now.deep) c.args.context.now.owner (seen c.args.state.now.scope) (next_of c.args.state.now) in
    does_as _ _ (stmt c.in_ok-k-in-If.k) c.args.state.now c.if_statement.new.state
    (ap (λ y. F (tree.If c.args.s.now.place (term c.in-If.test) (statement y) (perhaps_of c.in-If.no))) c.deref.ensures ∙ of_if F c.args.s.now c.in-If.test c.in-If.yes c.in-If.no c.in-If.is)
    (c.in_ok-k-in-If.ensures.does c.args.s.now.place)

pub by_kind-returns-in_ok-k-in-For-clause-does : goal.by_kind-returns-in_ok-k-in-For-clause-does
by_kind-returns-in_ok-k-in-For-clause-does t c =
    let text = context_text c.args.context.now in
    let F = lower_statement text (called_within text c.args.context.now.deep) c.args.context.now.owner (seen c.args.state.now.scope) (next_of c.args.state.now) in
    does_as _ _ (stmt c.in_ok-k-in-For.k) c.args.state.now c.for_statement.new.state
    (ap (λ y. F (tree.For c.args.s.now.place (perhaps_of c.in-For.start) (optional_term c.in-For.test) (perhaps_of c.in-For.step) c.in-For.bound (statement y))) c.deref-in-For.ensures
    ∙ of_for F c.args.s.now c.in-For.start c.in-For.step c.in-For.test c.in-For.bound c.in-For.body c.in-For.is)
    c.in_ok-k-in-For.ensures.does

pub by_kind-returns-in_ok-k-in-Par-clause-does : goal.by_kind-returns-in_ok-k-in-Par-clause-does
by_kind-returns-in_ok-k-in-Par-clause-does t c =
    let text = context_text c.args.context.now in
    does_as _ _ (stmt c.in_ok-k-in-Par.k) c.args.state.now c.par.new.state
    (of_par (lower_statement text (called_within text c.args.context.now.deep) c.args.context.now.owner (seen c.args.state.now.scope) (next_of c.args.state.now)) c.args.s.now c.in-Par.all c.as_slice-all.result.now c.in-Par.is c.as_slice-all.ensures)
    c.in_ok-k-in-Par.ensures.does

pub by_kind-returns-in_ok-k-in-Abort-clause-does : goal.by_kind-returns-in_ok-k-in-Abort-clause-does
by_kind-returns-in_ok-k-in-Abort-clause-does t c =
    let text = context_text c.args.context.now in
    does_as _ _ (stmt c.in_ok-k-in-Abort.k) c.args.state.now c.abort.new.state
    (of_abort (lower_statement text (called_within text c.args.context.now.deep) c.args.context.now.owner (seen c.args.state.now.scope) (next_of c.args.state.now)) c.args.s.now c.in-Abort.weak c.in-Abort.immediate c.in-Abort.test c.in-Abort.body
    c.as_slice-body-in-Abort.result.now c.in-Abort.is c.as_slice-body-in-Abort.ensures)
    (c.in_ok-k-in-Abort.ensures.does c.args.s.now.place)

pub inlined-returns-then-context-eq0-clause-does : goal.inlined-returns-then-context-eq0-clause-does
inlined-returns-then-context-eq0-clause-does t c =
    place_none (context_text c.args.context.now) c.args.context.now.deep c.args.id c.args.first c.args.context.now.owner c.args.state.now c.if-context-eq0.true

pub inlined-returns-in-None-clause-does : goal.inlined-returns-in-None-clause-does
inlined-returns-in-None-clause-does t c =
    place_unknown (context_text c.args.context.now) c.args.context.now.deep c.args.id c.args.first c.args.context.now.owner c.args.state.now c.if-context-eq0.false c.in-None.ensures

pub inlined-returns-in_ok-k-in-Some-clause-does : goal.inlined-returns-in_ok-k-in-Some-clause-does
inlined-returns-in_ok-k-in-Some-clause-does t c =
    place_known (context_text c.args.context.now) c.args.context.now.deep (c.args.context.now.deep - 1) c.args.id c.args.first c.args.context.now.owner (plain_function c.in-Some.function.now) (stmt c.in_ok-k-in-Some.k) c.args.state.now c.in_function.new.state
    c.if-context-eq0.false refl c.in-Some.ensures c.in_ok-k-in-Some.ensures.does

pub call-returns-clause-does : goal.call-returns-clause-does
call-returns-clause-does t c =
    let text = context_text c.args.context.now in
    let old = c.args.state.now in
    let one : State = record old { slot = c.in_ok-after.after } in
    let at = λ (x : Rattle.std.proofs.Common.ℕ). let n : NextNumbers = record { slot = x; thread = (next_of old).thread; par = old.par } in n in
    call_does text (called_within text c.args.context.now.deep) c.args.context.now.owner (seen old.scope) (next_of old) c.args.place c.args.name (terms c.args.args.now) old one c.inlined.new.state (stmts c.in_ok-list.list.items)
    (stmt c.in_ok-body.body) _ c.in_ok-list.ensures (ap at (c.in_ok-after.ensures.ok ∙ ap (λ n. old.slot + n) (c.in_ok-taken.ensures.ok ∙ count_args c.args.args.now))) refl c.in_ok-body.ensures.does
    (c.sequence.ensures ∙ ap sequence (ap stmts c.in_ok-push.ensures.items ∙ ends_pushed c.in_ok-list.list.items c.in_ok-body.body))

pub if_statement-returns-clause-does : goal.if_statement-returns-clause-does
if_statement-returns-clause-does t c =
    let text = context_text c.args.context.now in
    let old = c.args.state.now in
    let one = c.boxed_inner.new.state in
    let two = c.optional_inner.new.state in
    λ at.
    if_does text (called_within text c.args.context.now.deep) c.args.context.now.owner at (term c.args.test.now) (statement c.args.yes.now) (perhaps_of c.args.no.now) old one two (stmt c.in_ok-yes.yes.value)
    (stmt c.in_ok-no.no.value) (expr c.in_ok-test.test) c.in_ok-yes.ensures.same c.in_ok-no.ensures.same c.in_ok-yes.ensures.does c.in_ok-no.ensures.does c.in_ok-test.ensures

pub while_statement-returns-clause-does : goal.while_statement-returns-clause-does
while_statement-returns-clause-does t c =
    let text = context_text c.args.context.now in
    while_does text (called_within text c.args.context.now.deep) c.args.context.now.owner c.args.head.place (term c.args.head.test.now) c.args.head.bound (statement c.args.body.now) c.args.state.now c.boxed_inner.new.state
    (stmt c.in_ok-body.body.value) (expr c.in_ok-test.test) c.bound_of-bound.result c.in_ok-body.ensures.same c.in_ok-body.ensures.does c.in_ok-test.ensures c.bound_of-bound.ensures

pub abort-returns-clause-does : goal.abort-returns-clause-does
abort-returns-clause-does t c =
    let text = context_text c.args.context.now in
    λ at.
    abort_does text (called_within text c.args.context.now.deep) c.args.context.now.owner at c.args.head.weak c.args.head.immediate (term c.args.head.test.now) (statements c.args.body.now) c.args.state.now c.block.new.state
    (stmt c.in_ok-body-2.body.value) (expr c.in_ok-test.test) c.in_ok-body.ensures.same (does_boxed _ _ _ c.in_ok-body-2.ensures c.block.new.state c.in_ok-body.ensures.does) c.in_ok-test.ensures

pub for_statement-returns-clause-does : goal.for_statement-returns-clause-does
for_statement-returns-clause-does t c =
    let text = context_text c.args.context.now in
    let old = c.args.state.now in
    let one = c.optional_statement.new.state in
    let two = c.optional_statement-2.new.state in
    let three = c.boxed_inner.new.state in
    let new : State = record three { scope = c.forget.new.self } in
    let start = perhaps_of c.args.head.start.now in
    let step = perhaps_of c.args.head.step.now in
    let first = stmt c.in_ok-first.first.value in
    let test = expr c.in_ok-test.test.value in
    let whole = for_of c.args.head c.args.body.now in
    for_does text (called_within text c.args.context.now.deep) c.args.context.now.owner (seen old.scope) (next_of old) c.args.head.place start (optional_term c.args.head.test.now) step c.args.head.bound (statement c.args.body.now) old one two three new
    (inferred text whole) test first (stmt c.in_ok-next.next.value) (stmt c.in_ok-body.body.value) (stmt c.in_ok-k.k) c.in_ok-first.ensures.does c.in_ok-first.ensures.seen c.in_ok-test.ensures c.in_ok-next.ensures.does
    c.in_ok-next.ensures.seen c.in_ok-body.ensures.does (record { next = refl; threads = refl }) refl
    (c.in_ok-k.ensures
    ∙ (ap (λ s. after_start start first (stmt s)) c.in_ok-turned.ensures
    ∙ (ap (λ e. after_start start first (kernel.While (expr e) c.args.turns (stmt c.in_ok-body-2.body.value) c.args.head.place)) c.into_inner.ensures
    ∙ (ap (λ b. after_start start first (kernel.While test b (stmt c.in_ok-body-2.body.value) c.args.head.place)) c.requires.turns
    ∙ ap (λ b. after_start start first (kernel.While test (or_inferred (bound_of c.args.head.bound) (inferred text whole)) b c.args.head.place)) c.in_ok-body-2.ensures))))

pub for_statement-returns-clause-same : goal.for_statement-returns-clause-same
for_statement-returns-clause-same t c =
    let a = c.args.state.now.scope in
    let one = c.optional_statement.new.state.scope in
    let two = c.optional_statement-2.new.state.scope in
    let three = c.boxed_inner.new.state.scope in
    kept_cut a three c.forget.new.self c.len-len.result
    (kept_then a two three (kept_then a one two c.in_ok-first.ensures.kept c.in_ok-next.ensures.kept) (same_kept two three c.in_ok-body.ensures.same)) c.len-len.ensures c.forget.ensures.slots c.forget.ensures.base

pub landed-returns-clause-does : goal.landed-returns-clause-does
landed-returns-clause-does t c =
    let text = context_text c.args.context.now in
    let old = c.args.state.now in
    let one : State = record old { scope = c.hide-base.new.self } in
    let two = c.by_kind.new.state in
    let new : State = record two { scope = c.show.new.self } in
    does_shown text (λ s. lower_statement text (called_within text (c.args.context.now.deep - c.args.calls)) c.args.context.now.owner s (next_of old) (statement c.args.s.now)) _ (seen one.scope) old one two new refl
    c.hide-base.ensures.seen c.in_ok-k.ensures.does refl refl

pub landed-returns-clause-same : goal.landed-returns-clause-same
landed-returns-clause-same t c =
    shown_same c.args.state.now.scope c.hide-base.new.self c.by_kind.new.state.scope c.show.new.self c.hide-base.result c.hide-base.ensures.before c.hide-base.ensures.base c.hide-base.ensures.slots c.in_ok-k.ensures.kept
    c.show.ensures.slots c.show.ensures.base

pub inner-returns-then-landing-context-clause-does : goal.inner-returns-then-landing-context-clause-does
inner-returns-then-landing-context-clause-does t c =
    let text = context_text c.args.context.now in
    let deep = c.args.context.now.deep in
    let owner = c.args.context.now.owner in
    let old = c.args.state.now in
    let new = c.landed.new.state in
    let l = c.in-Some.landing in
    ok_then c.landed.result (λ k. Does text (lower_statement text (called_within text (deep - l.calls)) owner [] (next_of old) (statement l.statement.now)) (stmt k) old new) (λ k. Done c.args.context.now (statement c.args.s.now) (stmt k) old new)
    (λ k d. inner_lands text deep owner (statement c.args.s.now) (statement c.innermost-one.result.now) l (stmt k) old new c.innermost-one.ensures.same c.in-Some.ensures c.if-landing-context.true d) c.landed.ensures.does

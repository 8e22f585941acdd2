use Rattle.std.proofs.Common.{refl, []}
use Rattle.forec_kernel.specs.Plain.{stmts}
use Rattle.lower_names.specs.declared.state.State.{State}
use Rattle.lower_names.specs.Landings.{called_within}
use Rattle.lower_names.specs.Views.{context_text, seen, next_of}
use Rattle.lower_names.proofs.Going.{as_one_does, same_list, shown_same}
use Rattle.body_lower.proofs.threads.hidden.Goals as goal

pub returns-clause-does : goal.returns-clause-does
returns-clause-does c =
    let text = context_text c.args.context.now in
    let old = c.args.state.now in
    let one : State = record old { scope = c.hide-base.new.self } in
    let two = c.list.new.state in
    let new : State = record two { scope = c.show.new.self } in
    as_one_does text _ _ (stmts c.in_ok-list.list.items) _ old one two new
    (same_list text (called_within text c.args.context.now.deep) c.args.context.now.owner (seen one.scope) [] (next_of one) (next_of old) c.args.body.now c.args.body.now c.hide-base.ensures.seen refl refl) refl c.in_ok-list.ensures.does c.sequence.ensures refl refl

pub returns-clause-same : goal.returns-clause-same
returns-clause-same c =
    shown_same c.args.state.now.scope c.hide-base.new.self c.list.new.state.scope c.show.new.self c.hide-base.result c.hide-base.ensures.before c.hide-base.ensures.base c.hide-base.ensures.slots c.in_ok-list.ensures.kept
    c.show.ensures.slots c.show.ensures.base

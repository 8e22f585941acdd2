use Rattle.std.proofs.Common.{ℕ, ◌∙◌, sym, ap, refl}
use Rattle.text_kernel.specs.Lowering.{NextNumbers}
use Rattle.lower_names.specs.declared.state.State.{State}
use Rattle.lower_names.specs.Landings.{called_within}
use Rattle.lower_names.specs.Views.{context_text, seen, next_of}
use Rattle.lower_names.proofs.Going.{par_goes}
use Rattle.body_lower.proofs.branches.par.Goals as goal

pub returns-clause-does : goal.returns-clause-does
returns-clause-does c =
    let text = context_text c.args.context.now in
    let old = c.args.state.now in
    let one : State = record old { par = c.in_ok-state.field-0 } in
    let at = λ (x : ℕ). let n : NextNumbers = record { slot = old.slot; thread = old.thread; par = x } in n in
    par_goes text (called_within text c.args.context.now.deep) c.args.context.now.owner (seen old.scope) (next_of old) c.args.place c.args.all.now old one c.branches.new.state _ (sym c.is_empty.ensures ∙ c.if-is_empty.false) (ap at c.in_ok-state.ensures.ok) refl
    c.in_ok-branches.ensures.does

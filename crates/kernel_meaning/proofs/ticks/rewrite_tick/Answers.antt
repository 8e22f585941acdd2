use Rattle.std.proofs.Common.{◌≡◌, ◌∙◌, ap, sym, subst, cond}
use Rattle.forec_kernel.specs.Shapes.{plain_kernel}
use Rattle.forec_kernel.specs.declared.shape.KernelParts.{KernelParts}
use Rattle.forec_kernel.specs.Texts.{uses_of}
use Rattle.forec_kernel.specs.Ticks.{tick, outcome_of, values_of}
use Rattle.running_threads.specs.Views.{plain_status}
use Rattle.kernel_meaning.specs.States.{plain_state, told_tick, is_told}
use Rattle.kernel_meaning.proofs.ticks.rewrite_tick.Goals as goal

pub returns-in_ok-duplicate_state-in-None-clause-outcome : goal.returns-in_ok-duplicate_state-in-None-clause-outcome
returns-in_ok-duplicate_state-in-None-clause-outcome c =
    let now = subst (λ p. tick (plain_kernel p) c.args.budget (plain_state c.args.state.now) c.args.row.now ≡ told_tick (plain_kernel p) (plain_state c.args.state.now) c.in_ok-tick_of.field-0) c.parts-parts.ensures.same c.in_ok-tick_of.ensures in
    let whole = now ∙ ap (told_tick (plain_kernel c.args.kernel.now) (plain_state c.args.state.now)) c.in-None.is in
    sym (ap (λ t. t.outcome) whole)

pub returns-in_ok-duplicate_state-in-None-clause-state : goal.returns-in_ok-duplicate_state-in-None-clause-state
returns-in_ok-duplicate_state-in-None-clause-state c =
    let now = subst (λ p. tick (plain_kernel p) c.args.budget (plain_state c.args.state.now) c.args.row.now ≡ told_tick (plain_kernel p) (plain_state c.args.state.now) c.in_ok-tick_of.field-0) c.parts-parts.ensures.same c.in_ok-tick_of.ensures in
    let whole = now ∙ ap (told_tick (plain_kernel c.args.kernel.now) (plain_state c.args.state.now)) c.in-None.is in
    c.in_ok-duplicate_state-in-None.ensures ∙ sym (ap (λ t. t.state) whole)

pub returns-in-Some-clause-outcome : goal.returns-in-Some-clause-outcome
returns-in-Some-clause-outcome c =
    let now = subst (λ p. tick (plain_kernel p) c.args.budget (plain_state c.args.state.now) c.args.row.now ≡ told_tick (plain_kernel p) (plain_state c.args.state.now) c.in_ok-tick_of.field-0) c.parts-parts.ensures.same c.in_ok-tick_of.ensures in
    let whole = now ∙ ap (told_tick (plain_kernel c.args.kernel.now) (plain_state c.args.state.now)) c.in-Some.is in
    c.tell-outcome.ensures.outcome ∙ sym (ap (λ t. t.outcome) whole)

pub returns-in-Some-clause-state : goal.returns-in-Some-clause-state
returns-in-Some-clause-state c =
    let now = subst (λ p. tick (plain_kernel p) c.args.budget (plain_state c.args.state.now) c.args.row.now ≡ told_tick (plain_kernel p) (plain_state c.args.state.now) c.in_ok-tick_of.field-0) c.parts-parts.ensures.same c.in_ok-tick_of.ensures in
    let whole = now ∙ ap (told_tick (plain_kernel c.args.kernel.now) (plain_state c.args.state.now)) c.in-Some.is in
    sym (ap (λ t. t.state) whole)

pub returns-in-Some-clause-outputs : goal.returns-in-Some-clause-outputs
returns-in-Some-clause-outputs c =
    let now = subst (λ p. tick (plain_kernel p) c.args.budget (plain_state c.args.state.now) c.args.row.now ≡ told_tick (plain_kernel p) (plain_state c.args.state.now) c.in_ok-tick_of.field-0) c.parts-parts.ensures.same c.in_ok-tick_of.ensures in
    let whole = now ∙ ap (told_tick (plain_kernel c.args.kernel.now) (plain_state c.args.state.now)) c.in-Some.is in
    let list = λ (k : KernelParts). values_of (uses_of (plain_kernel k) 0) c.in-Some.main.copies.items k.shape.outputs.items in
    let shown = outcome_of (plain_status c.in-Some.main.status) in
    let written =
    subst (λ k. c.tell-outcome.new.outputs ≡ cond (is_told shown) (list k) c.args.outputs.now) c.parts-parts.ensures.same c.tell-outcome.ensures.outputs in
    written
    ∙ ap (λ o. cond (is_told o) (list c.args.kernel.now) c.args.outputs.now) (sym c.tell-outcome.ensures.outcome)
    ∙ ap (λ t. cond (is_told c.tell-outcome.result) t.outputs c.args.outputs.now) (sym whole)

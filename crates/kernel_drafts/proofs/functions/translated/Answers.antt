use Rattle.std.proofs.Common.{◌∙◌, ℕ, ap, length}
use Rattle.forec_tree.specs.Plain.{plain_function}
use Rattle.forec_kernel.specs.Plain.{stmt}
use Rattle.forec_kernel.specs.declared.shape.FunctionShape.{FunctionShape}
use Rattle.loop_check.specs.Views.{indexed_text}
use Rattle.lower_names.specs.declared.state.State.{State}
use Rattle.text_kernel.specs.Lowering.{NextNumbers}
use Rattle.kernel_drafts.proofs.Assembled.{translated}
use Rattle.kernel_drafts.proofs.functions.translated.Goals as goal

pub returns-clause-body : goal.returns-clause-body
returns-clause-body c =
    let old : State = record c.new-state.result { slot = c.in_ok-params.params } in
    let d =
    translated (indexed_text c.args.source.now.globals.index) c.args.names.now (plain_function c.args.function.now) (stmt c.in_ok-body.body) old c.in_function.new.state (c.in_ok-params.ensures.ok ∙ c.len.ensures) c.new-state.ensures.thread
    c.new-state.ensures.par c.in_ok-body.ensures.does in
    d.is

pub returns-clause-shape : goal.returns-clause-shape
returns-clause-shape c =
    let old : State = record c.new-state.result { slot = c.in_ok-params.params } in
    let made : ℕ → ℕ → FunctionShape = λ a b. record { params = a; words = b } in
    let d =
    translated (indexed_text c.args.source.now.globals.index) c.args.names.now (plain_function c.args.function.now) (stmt c.in_ok-body.body) old c.in_function.new.state (c.in_ok-params.ensures.ok ∙ c.len.ensures) c.new-state.ensures.thread
    c.new-state.ensures.par c.in_ok-body.ensures.does in
    ap (λ a. made a c.in_function.new.state.slot) (c.in_ok-params.ensures.ok ∙ c.len.ensures) ∙ ap (λ (n : NextNumbers). made (length (plain_function c.args.function.now).params) n.slot) d.next

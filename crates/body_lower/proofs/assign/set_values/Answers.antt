use Rattle.std.proofs.Common.{◌∙◌, sym, ap, pos}
use Rattle.forec_kernel.specs.Terms.{SetAt, Num}
use Rattle.forec_kernel.specs.Plain.{expr}
use Rattle.loop_check.specs.Views.{indexed_text}
use Rattle.lower_names.specs.Views.{seen}
use Rattle.lower_names.proofs.Statements.{values_step, values_end}
use Rattle.body_lower.proofs.assign.set_values.Goals as goal

pub loop-at-preserved : goal.loop-at-preserved
loop-at-preserved c =
    values_step (indexed_text c.args.globals.now.index) (seen c.args.scope.now) c.args.values.now c.loop-at.at c.args.array.slot c.args.array.length c.index-values-at.result c.args.array.place c.loop-at.list.items c.push.new.self.items _ _
    c.loop-at-test.true (sym c.index-values-at.is)
    (ap (λ i. SetAt c.args.array.slot c.args.array.length i (expr c.in_ok-value.value) c.args.array.place) c.in_ok-index.ensures ∙ ap (λ v. SetAt c.args.array.slot c.args.array.length (Num (pos c.loop-at.at)) v c.args.array.place) c.in_ok-value.ensures)
    c.in_ok-push.ensures.items c.loop-at.invariant

pub returns : goal.returns
returns c =
    values_end (indexed_text c.args.globals.now.index) (seen c.args.scope.now) c.args.values.now c.loop-at.at c.args.array.slot c.args.array.length c.args.array.place c.loop-at.list.items _ c.loop-at-test.false c.loop-at.invariant

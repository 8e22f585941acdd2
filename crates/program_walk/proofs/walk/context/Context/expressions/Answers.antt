use Rattle.std.proofs.Common.{sym}
use Rattle.program_walk.specs.Views.{judging_in, text_in, scope_of}
use Rattle.program_walk.specs.Walk.{notes_of}
use Rattle.program_walk.proofs.Parts.{terms_step, terms_end}
use Rattle.program_walk.proofs.walk.context.Context.expressions.Goals as goal

pub loop-e-preserved : goal.loop-e-preserved
loop-e-preserved c =
    let j = judging_in c.args.self.now in
    let text = text_in c.args.self.now in
    let s = scope_of c.args.scope.now in
    let k = notes_of c.args.notes.now in
    terms_step j text s c.args.list.now c.loop-e.e-index c.e-item.result (notes_of c.loop-e.notes) (notes_of c.expression.new.notes) _ c.loop-e-test.true (sym c.e-item.is)
    c.in_ok-expression.ensures c.loop-e.invariant

pub returns : goal.returns
returns c =
    let j = judging_in c.args.self.now in
    let text = text_in c.args.self.now in
    let s = scope_of c.args.scope.now in
    let k = notes_of c.args.notes.now in
    terms_end j text s c.args.list.now c.loop-e.e-index (notes_of c.loop-e.notes) _ c.loop-e-test.false c.loop-e.invariant

use Rattle.program_walk.specs.Views.{judging_in, text_in, scope_of}
use Rattle.program_walk.specs.Walk.{notes_of}
use Rattle.program_walk.proofs.Statements.{target_some}
use Rattle.program_walk.proofs.walk.context.Context.target.Goals as goal

pub returns-in_ok-expression-in-Some : goal.returns-in_ok-expression-in-Some
returns-in_ok-expression-in-Some c =
    let j = judging_in c.args.self.now in
    let text = text_in c.args.self.now in
    let s = scope_of c.args.scope.now in
    let k = notes_of c.args.notes.now in
    target_some j text s c.args.to.now c.in-Some.at k (notes_of c.use_name-in-Some.new.notes) (notes_of c.expression.new.notes) c.in-Some.is c.in_ok-use_name-in-Some.ensures c.in_ok-expression-in-Some.ensures

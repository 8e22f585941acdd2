use Rattle.std.proofs.Common.{sym}
use Rattle.program_walk.specs.Views.{judging_in, text_in, scope_of}
use Rattle.program_walk.specs.Walk.{notes_of}
use Rattle.program_walk.proofs.ScopeLaws.{framed_on}
use Rattle.program_walk.proofs.Statements.{locals_step, locals_end, scope_step, scope_end}
use Rattle.program_walk.proofs.walk.context.Context.locals.Goals as goal

pub loop-l-preserved : goal.loop-l-preserved
loop-l-preserved c =
    let j = judging_in c.args.self.now in
    let text = text_in c.args.self.now in
    let s = scope_of c.loop-l.scope in (
      locals_step j text s c.args.list.now c.loop-l.l-index c.l-item.result _ (notes_of c.loop-l.notes) (notes_of c.local.new.notes) _ c.loop-l-test.true (sym c.l-item.is)
          c.in_ok-local.ensures.scope c.in_ok-local.ensures.notes c.loop-l.invariant.0,
      scope_step j text s c.args.list.now c.loop-l.l-index c.l-item.result _ _ c.loop-l-test.true (sym c.l-item.is) c.in_ok-local.ensures.scope c.loop-l.invariant.1,
      framed_on c.args.scope.now c.loop-l.scope c.local.new.scope c.loop-l.invariant.2 c.in_ok-local.ensures.frame,
    )

pub returns-clause-notes : goal.returns-clause-notes
returns-clause-notes c =
    let j = judging_in c.args.self.now in
    let text = text_in c.args.self.now in
    locals_end j text (scope_of c.loop-l.scope) c.args.list.now c.loop-l.l-index (notes_of c.loop-l.notes) _ c.loop-l-test.false c.loop-l.invariant.0

pub returns-clause-scope : goal.returns-clause-scope
returns-clause-scope c =
    let j = judging_in c.args.self.now in
    let text = text_in c.args.self.now in
    scope_end j text (scope_of c.loop-l.scope) c.args.list.now c.loop-l.l-index _ c.loop-l-test.false c.loop-l.invariant.1

use Rattle.std.proofs.Common.{refl, ◌∷◌, [], None}
use Rattle.forec_tree.specs.Findings.{Declares}
use Rattle.program_walk.specs.Views.{judging_in, text_in, scope_of, ExtendsScope}
use Rattle.program_walk.specs.Walk.{notes_of}
use Rattle.program_walk.proofs.WalkLemmas.{walked_early}
use Rattle.program_walk.proofs.ItemRules.{params_step, params_scope, params_end}
use Rattle.program_walk.proofs.ScopeLaws.{framed_on}
use Rattle.program_walk.proofs.walk.context.Context.parameters.Goals as goal

pub loop-name-preserved : goal.loop-name-preserved
loop-name-preserved c =
    let j = judging_in c.args.self.now in
    let text = text_in c.args.self.now in
    let s = scope_of c.loop-name.scope in
    let step : ExtendsScope c.loop-name.scope c.declare.new.self =
    record { base = c.in_ok-declare.ensures.frame.0; start = c.in_ok-declare.ensures.frame.1; front = c.in_ok-declare.ensures.front } in (
      params_step j text s c.args.all.now c.loop-name.name-index (scope_of c.declare.new.self) c.is_here-again.result (notes_of c.loop-name.notes) _ _ _ c.loop-name-test.true
          c.is_here-again.ensures c.in_ok-declare.ensures.scope (walked_early j (Declares _ _ None 0 ∷ []) (notes_of c.loop-name.notes) _ refl c.judge_declared.ensures refl)
          c.loop-name.invariant.0,
      params_scope j text s c.args.all.now c.loop-name.name-index (scope_of c.declare.new.self) _ _ c.loop-name-test.true c.in_ok-declare.ensures.scope c.loop-name.invariant.1,
      framed_on c.args.scope.now c.loop-name.scope c.declare.new.self c.loop-name.invariant.2 step,
    )

pub returns-clause-notes : goal.returns-clause-notes
returns-clause-notes c =
    let j = judging_in c.args.self.now in
    let text = text_in c.args.self.now in
    params_end j text (scope_of c.loop-name.scope) c.args.all.now c.loop-name.name-index (notes_of c.loop-name.notes) _ c.loop-name-test.false c.loop-name.invariant.0

use Rattle.std.proofs.Common.{◌∙◌, sym, ap, append-nil, ◌++◌}
use Rattle.forec_tree.specs.Findings.{use_at}
use Rattle.program_walk.specs.Views.{judging_in, text_in, scope_of}
use Rattle.program_walk.specs.Walk.{notes_of, as_list, effect_of}
use Rattle.program_walk.proofs.WalkLemmas.{walked_one, use_least}
use Rattle.program_walk.proofs.walk.context.Context.use_name.Goals as goal

pub returns-in_ok-push : goal.returns-in_ok-push
returns-in_ok-push c =
    let old = c.args.notes.now in
    let e = c.effect.ensures in
    walked_one (judging_in c.args.self.now) (use_at (text_in c.args.self.now) (scope_of c.args.scope.now) c.args.how c.args.name) (notes_of old) _
    (use_least (judging_in c.args.self.now) c.args.how c.args.name _ _ old.least _ c.meaning-means.ensures c.judge_use.ensures)
    (c.in_ok-push.ensures.items
    ∙ ap (λ o. old.effects.items ++ as_list o) (sym c.in-Some.is ∙ e ∙ ap (effect_of c.args.how c.args.name.id) c.meaning-means.ensures))

pub returns-in_default : goal.returns-in_default
returns-in_default c =
    let old = c.args.notes.now in
    let e = c.effect.ensures in
    walked_one (judging_in c.args.self.now) (use_at (text_in c.args.self.now) (scope_of c.args.scope.now) c.args.how c.args.name) (notes_of old) _
    (use_least (judging_in c.args.self.now) c.args.how c.args.name _ _ old.least _ c.meaning-means.ensures c.judge_use.ensures)
    (sym (append-nil old.effects.items)
    ∙ ap (λ o. old.effects.items ++ as_list o) (sym c.in_default.is ∙ e ∙ ap (effect_of c.args.how c.args.name.id) c.meaning-means.ensures))

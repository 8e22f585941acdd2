use Rattle.std.proofs.Common.{◌≡◌, Some, sym, ap, ◌∙◌, arith}
use Rattle.std.specs.Prelude.{slice_get}
use Rattle.std.proofs.lemmas.Option.{slice_get-get_or}
use Rattle.core_bells.specs.Ropes.{RopeState}
use Rattle.core_bells.proofs.rope.Rope.core_of.Goals as goal

pub returns-then-at-len-clause-value : goal.returns-then-at-len-clause-value
returns-then-at-len-clause-value c =
    sym (ap (λ (r : RopeState). slice_get r.placement.places c.args.thread) (sym c.self.view_is) ∙ slice_get-get_or c.self.inside.belfry.now.places.items c.args.thread c.index.result.now (omega arith) ∙ ap Some (sym c.index.ensures))

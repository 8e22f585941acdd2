use Rattle.std.proofs.Common.{◌<◌, ◌++◌, ◌∷◌, [], sym, ap, ◌∙◌, subst}
use Rattle.std.specs.Prelude.{All}
use Rattle.core_bells.proofs.Lists.{all_snoc, take_next}
use Rattle.core_bells.proofs.rooms.places_of.Goals as goal

pub loop-thread-preserved : goal.loop-thread-preserved
loop-thread-preserved c =
    let items = c.in_ok-push.ensures.items in let i = c.loop-thread.invariant in record {
      same = items ∙ ap (λ l. l ++ c.core.result ∷ []) i.same ∙ take_next c.args.placement.now.places c.loop-thread.thread c.core.result c.core.ensures.value;
      below = subst (λ l. All (λ core. core < c.args.placement.now.cores) l) (sym items) (all_snoc (λ core. core < c.args.placement.now.cores) c.loop-thread.places.items c.core.result i.below c.core.ensures.below);
    }

use Rattle.std.proofs.Common.{◌<◌, ◌++◌, ◌∷◌, [], sym, ap, ◌∙◌, subst}
use Rattle.std.specs.Prelude.{All}
use Rattle.core_seats.proofs.LoadLemmas.{all_then, take_next}
use Rattle.core_seats.proofs.load.places_of.Goals as goal

pub loop-thread-preserved : goal.loop-thread-preserved
loop-thread-preserved c =
    let items = c.in_ok-push.ensures.items in
    record {
      same = items ∙ ap (λ l. l ++ c.core.result ∷ []) c.loop-thread.invariant.same ∙ take_next c.args.placement.now.places c.loop-thread.thread c.core.result c.core.ensures.value;
      below = subst (λ l. All (λ core. core < c.args.placement.now.cores) l) (sym items) (all_then c.args.placement.now.cores c.loop-thread.places.items c.core.result c.loop-thread.invariant.below c.core.ensures.below);
    }

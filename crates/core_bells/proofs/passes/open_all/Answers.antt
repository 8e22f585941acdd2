use Rattle.std.proofs.Common.{◌+◌, ◌∷◌, ◌++◌, [], sym, ap, ◌∙◌, add-one}
use Rattle.crossbeam_queue.specs.Passes.{ruled_capacity}
use Rattle.core_bells.specs.Rooms.{rooms_of_first}
use Rattle.core_bells.proofs.Lists.{length_snoc, map_snoc}
use Rattle.core_bells.proofs.Dealing.{firsts_more}
use Rattle.core_bells.proofs.passes.open_all.Goals as goal

pub loop-core-preserved : goal.loop-core-preserved
loop-core-preserved c =
    let i = c.loop-core.invariant in let q = c.in_ok-queue.queue in let p = c.in_ok-queue.first in let e = c.in_ok-queue.ensures in
    let queues = c.in_ok-push.ensures.items in let firsts = c.in_ok-push-2.ensures.items in let ends = c.args.ends.now in let core = c.loop-core.core in record {
      count = rw queues (length_snoc c.loop-core.queues.items q ∙ ap (λ n. n + 1) i.count);
      rooms = rw queues (map_snoc ruled_capacity c.loop-core.queues.items q ∙ ((λ j. i.rooms j ++ (e.room ∙ c.room.ensures) j ∷ []) ∙ ap (rooms_of_first ends) (sym (add-one core))));
      firsts = rw (queues, firsts) (firsts_more c.loop-core.queues.items c.loop-core.firsts.items q p i.firsts e.pass e.log);
    }

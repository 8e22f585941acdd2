use Rattle.std.proofs.Common.{◌∙◌, None, [], ◌∷◌, length, length-append, ap, arith}
use Rattle.tick_bounds.specs.Known.{has_bound}
use Rattle.tick_bounds.proofs.Tables.{none_more}
use Rattle.tick_bounds.proofs.functions.unknown.Goals as goal

pub loop-preserved : goal.loop-preserved
loop-preserved c =
    let items = c.in_ok-push.ensures.items in
    record {
      long = omega (arith, ap length items, length-append c.loop.table.items (None ∷ []), c.loop.invariant.long);
      empty = λ g. ap (λ l. has_bound l g) items ∙ none_more c.loop.table.items g (c.loop.invariant.empty g);
    }

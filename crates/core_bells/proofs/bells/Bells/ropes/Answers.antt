use Rattle.std.proofs.Common.{◌≡◌, ◌∷◌, suc, ap, ◌∙◌, arith}
use Rattle.std.specs.Prelude.{slice_get}
use Rattle.core_bells.specs.Ropes.{placed_on}
use Rattle.core_bells.proofs.Loosening.{one_given}
use Rattle.core_bells.proofs.bells.Bells.ropes.Goals as goal

pub cores-preserved : goal.cores-preserved
cores-preserved c =
    let r = c.in-Some.rope in let i = c.cores.invariant in let b = c.args.self.now.belfry in let rest = c.pop_front.new.self.items in
    let items : c.cores.loose.items ≡ r ∷ rest = rw c.in-Some.is at c.pop_front.ensures.items in record {
      fit = λ k s e. i.fit (suc k) s (ap (λ l. slice_get l (suc k)) items ∙ e);
      room = let n = i.room in let m = rw c.in-Some.is at c.pop_front.ensures.cases in let p = c.push_reserved.ensures.len in let q = c.push_reserved.ensures.capacity in omega (arith, n, m, p, q);
      all = let before = rw items at i.all in rw c.push_reserved.ensures.items (one_given (placed_on b.cores b.places.items) b.queues.items c.cores.ropes.items r rest _ before);
    }

use Rattle.std.proofs.Common.{arith, ◌≡◌, ◌∷◌, suc, refl, ap, ◌∙◌, slice_get}
use Rattle.slot_board.proofs.Cutting.{one_given}
use Rattle.slot_board.proofs.board.SlotBoard.ports.Goals as goal

pub invariant_of-push_reserved : goal.invariant_of-push_reserved
invariant_of-push_reserved g c = let h = c.in-Some.hand in
    let items : c.cores.hands.items ≡ h ∷ c.pop_front.new.self.items = rw c.in-Some.is at c.pop_front.ensures.items in
    let f = c.cores.invariant.fit 0 h (ap (λ l. slice_get l 0) items) in record { sized = f.sized; watches = f.watches; pairs = f.pairs }

pub push_reserved-requires : goal.push_reserved-requires
push_reserved-requires g c = let n = c.cores.invariant.room in let m = rw c.in-Some.is at c.pop_front.ensures.cases in omega (arith, n, m)

pub cores-preserved : goal.cores-preserved
cores-preserved g c = let h = c.in-Some.hand in
    let items : c.cores.hands.items ≡ h ∷ c.pop_front.new.self.items = rw c.in-Some.is at c.pop_front.ensures.items in let i = c.cores.invariant in record {
      fit = λ k q e. i.fit (suc k) q (ap (λ l. slice_get l (suc k)) items ∙ e);
      room = let n = i.room in let m = rw c.in-Some.is at c.pop_front.ensures.cases in let p = c.push_reserved.ensures.len in let q = c.push_reserved.ensures.capacity in omega (arith, n, m, p, q);
      all = let before = rw items at i.all in rw c.push_reserved.ensures.items (one_given _ _ c.cores.ports.items _ h c.pop_front.new.self.items refl ∙ before);
    }

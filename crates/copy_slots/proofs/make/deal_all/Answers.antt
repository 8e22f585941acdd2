use Rattle.std.proofs.Common.{rules, arith, ◌≡◌, ◌<◌, ℕ, List, length, length-append, [], ◌∷◌, ◌++◌, Some, slice_get, sym, ap, ◌∙◌, subst, true, false}
use Rattle.copy_slots.specs.declared.view.Role.TheVariants.{Keeper}
use Rattle.std.specs.Result.{is_ok}
use Rattle.std.proofs.lemmas.Grind.{common_steps}
use Rattle.copy_slots.specs.declared.both.BothEnds.{BothEnds}
use Rattle.copy_slots.specs.SeatEnds.{Watches}
use Rattle.copy_slots.specs.Fresh.{AllFresh}
use Rattle.copy_slots.proofs.Seating.{fresh_more}
use Rattle.copy_slots.proofs.make.deal_all.Goals as goal

none_there : {A : Type 0} (l : List A) (j : ℕ) (s : A) → l ≡ [] → slice_get l j ≡ Some s → ⊥
none_there [] j s e h = absurd (cc)
none_there (x ∷ l) j s e h = absurd (cc)

pub loop-from-init : goal.loop-from-init
loop-from-init g c = record {
  long = ap length c.new-seats.ensures.items;
  most = omega arith;
  kept = λ bs n h. (h, λ j s e. absurd (none_there c.new-seats.result.items j s c.new-seats.ensures.items e));
}

pub deal_one-seat-requires-clause-keeper : goal.deal_one-seat-requires-clause-keeper
deal_one-seat-requires-clause-keeper g c = let r = c.requires.keeper in let k = c.loop-from.invariant.kept r.0 r.1 r.2 in let n = r.1 in let t = c.loop-from-test.true in let h : c.loop-from.from < length r.0 = omega arith in (r.0, h, k.0)

pub loop-from-preserved : goal.loop-from-preserved
loop-from-preserved g c = let b : BothEnds g.row.W.Denot g.row.W-Packet.Denot g.row.W-Plain.Denot = record { seat = c.deal_one-seat.result } in let went : is_ok c.push.result ≡ true = first_of (search rules, grind (arith, common_steps)) in let items : c.push.new.self.items ≡ c.loop-from.seats.items ++ b ∷ [] = rw went at c.push.ensures.items in let i = c.loop-from.invariant in let t = c.loop-from-test.true in record {
  long = ap length items ∙ (let n = length-append c.loop-from.seats.items (b ∷ []) in let l = i.long in omega arith);
  most = omega arith;
  kept = λ bs n h. let k = i.kept bs n h in let now = c.deal_one-seat.ensures bs k.0 in
      (now.0, subst (λ l. AllFresh c.args.top.now.table_id c.args.top.now.key.work.value bs l) (sym items) (fresh_more c.args.top.now.table_id c.args.top.now.key.work.value bs c.loop-from.seats.items c.loop-from.from b i.long k.1 now.1));
}

pub returns : goal.returns
returns g c = let i = c.loop-from.invariant in let t = c.loop-from-test.false in let all : c.loop-from.from ≡ c.args.count = omega arith in
    record {
      count = i.long ∙ all;
      fresh = λ bs n h. let k = i.kept bs n h in (subst (λ m. Watches c.args.top.now.table_id c.args.top.now.key.work.value bs (Keeper m false []) c.loop-from.keeper) all k.0, k.1);
    }

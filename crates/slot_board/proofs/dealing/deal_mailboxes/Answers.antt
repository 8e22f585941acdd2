use Rattle.std.proofs.Common.{rules, arith, ◌≡◌, ◌<◌, length, length-append, [], ◌∷◌, ◌++◌, sym, ap, ◌∙◌, subst, true, false}
use Rattle.copy_slots.specs.declared.view.Role.TheVariants.{Keeper}
use Rattle.std.specs.Result.{is_ok}
use Rattle.std.proofs.lemmas.Grind.{common_steps}
use Rattle.copy_slots.specs.SeatEnds.{Watches}
use Rattle.slot_board.specs.Dealt.{AllNew}
use Rattle.slot_board.proofs.Cutting.{new_more, none_there}
use Rattle.slot_board.proofs.dealing.deal_mailboxes.Goals as goal

pub loop-from-init : goal.loop-from-init
loop-from-init g c = record {
  long = ap length c.new-all.ensures.items;
  most = omega arith;
  kept = λ bs n h. (h, λ j s e. absurd (none_there c.new-all.result.items j s c.new-all.ensures.items e));
}

pub deal_mailbox-both-requires-clause-keeper : goal.deal_mailbox-both-requires-clause-keeper
deal_mailbox-both-requires-clause-keeper g c = let r = c.requires.keeper in let k = c.loop-from.invariant.kept r.0 r.1 r.2 in let n = r.1 in let t = c.loop-from-test.true in let h : c.loop-from.from < length r.0 = omega arith in (r.0, h, k.0)

pub loop-from-preserved : goal.loop-from-preserved
loop-from-preserved g c = let b = c.deal_mailbox-both.result in let went : is_ok c.push.result ≡ true = first_of (search rules, grind (arith, common_steps)) in let items : c.push.new.self.items ≡ c.loop-from.all.items ++ b ∷ [] = rw went at c.push.ensures.items in let i = c.loop-from.invariant in let t = c.loop-from-test.true in record {
  long = ap length items ∙ (let n = length-append c.loop-from.all.items (b ∷ []) in let l = i.long in omega arith);
  most = omega arith;
  kept = λ bs n h. let k = i.kept bs n h in let now = c.deal_mailbox-both.ensures bs k.0 in
      (now.0, subst (λ l. AllNew c.args.top.now.table_id c.args.top.now.key.work.value bs l) (sym items) (new_more c.args.top.now.table_id c.args.top.now.key.work.value bs c.loop-from.all.items c.loop-from.from b i.long k.1 now.1));
}

pub returns : goal.returns
returns g c = let i = c.loop-from.invariant in let t = c.loop-from-test.false in let all : c.loop-from.from ≡ c.args.count = omega arith in
    record {
      count = i.long ∙ all;
      fresh = λ bs n h. let k = i.kept bs n h in (subst (λ m. Watches c.args.top.now.table_id c.args.top.now.key.work.value bs (Keeper m false []) c.loop-from.keeper) all k.0, k.1);
    }

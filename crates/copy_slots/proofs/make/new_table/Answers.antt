use Rattle.std.proofs.Common.{rules, arith, ◌≡◌, ◌+◌, ℕ, List, map, length, get_or, replicate, refl, sym, ap, ◌∙◌, Some}
use Rattle.std.proofs.lemmas.List.{length-replicate}
use Rattle.std.proofs.lemmas.Grind.{common_steps}
use Rattle.copy_slots.specs.Mail.{plain_list}
use Rattle.copy_slots.proofs.Dealing.{starts, all_zero}
use Rattle.copy_slots.proofs.make.new_table.Goals as goal

pub new-requires : goal.new-requires
new-requires g c = let packets : List g.row.W-Packet.Denot = c.of-2.result.value.items in let same : packets ≡ c.args.blanks.items = search rules in
    let words : c.as_slice.result.now ≡ replicate (length c.args.blanks.items + 1) 0 = first_of (search rules, grind (arith, common_steps)) in
    let slots : c.in_ok-slots.slots.items ≡ map Some packets = first_of (search rules, grind (arith, common_steps)) in
    starts g.W.Work.plain g.W.Work.asks g.W.Work.answers c.of.result.value (plain_list g.W.Work.plain packets) c.as_slice.result.now packets c.in_ok-slots.slots.items slots refl
    (ap (λ (z : List ℕ). length z) words ∙ (length-replicate (length c.args.blanks.items + 1) 0 ∙ ap (λ (z : List g.row.W-Packet.Denot). length z + 1) (sym same)))
    (λ k. ap (λ (z : List ℕ). get_or z k 0) words ∙ all_zero (length c.args.blanks.items + 1) k)

use Rattle.std.proofs.Common.{rules, arith, ◌≡◌, ◌<◌, ◌^◌, ℕ, List, length, map, [], false, sym, ap, ◌∙◌, subst}
use Rattle.std.proofs.lemmas.Grind.{common_steps}
use lib.ListN.{length-map}
use Rattle.copy_slots.specs.declared.view.Role.TheVariants.{Keeper}
use Rattle.copy_slots.specs.SeatEnds.{IsBoard, Watches}
use Rattle.copy_slots.specs.Fresh.{AllFresh, AllSit}
use Rattle.copy_slots.specs.Ports.{is_keeper, local_state}
use Rattle.copy_slots.proofs.Seating.{fresh_sits, fresh_state, rewatches}
use Rattle.copy_slots.proofs.local.LocalPort.new.Goals as goal

pub invariant_of-result : goal.invariant_of-result
invariant_of-result g c = let t = c.in_ok-board.ensures in let u = c.in_ok-seats.ensures in let bs : List g.row.W-Plain.Denot = map g.W.Work.plain c.args.blanks.items in let z = c.in_ok-board.board.shared.table_id in let w = c.in_ok-board.board.shared.key.work.value in
    let counted : c.len-count.result ≡ length c.args.blanks.items = first_of (search rules, grind (arith, common_steps)) in let n : c.len-count.result ≡ length bs = counted ∙ sym (length-map c.args.blanks.items g.W.Work.plain) in
    let h = u.fresh bs n (subst (λ (v : g.row.W.Denot). Watches z v bs (Keeper 0 false []) c.in_ok-board.watch) (sym t.work) t.keeper) in let long : length c.in_ok-seats.seats.items ≡ length c.args.blanks.items = u.count ∙ counted in
    record {
      sized = subst (λ (m : ℕ). (m < 2 ^ 32) × IsBoard z m) (sym long) ((let r = c.requires in omega arith), t.board);
      root = (rewatches z w bs (Keeper c.len-count.result false []) c.deal_all.new.keeper h.0, ap (λ m. is_keeper m.0.role) h.0.me);
      both = subst (λ l. AllSit z w l c.in_ok-seats.seats.items) (sym (ap (λ m. m.0.blanks) h.0.me)) (fresh_sits g.W.Work.plain z w c.args.blanks.items c.in_ok-seats.seats.items h.1);
    }

pub returns : goal.returns
returns g c = let t = c.in_ok-board.ensures in let u = c.in_ok-seats.ensures in let bs : List g.row.W-Plain.Denot = map g.W.Work.plain c.args.blanks.items in let z = c.in_ok-board.board.shared.table_id in let w = c.in_ok-board.board.shared.key.work.value in
    let counted : c.len-count.result ≡ length c.args.blanks.items = first_of (search rules, grind (arith, common_steps)) in let n : c.len-count.result ≡ length bs = counted ∙ sym (length-map c.args.blanks.items g.W.Work.plain) in
    let h = u.fresh bs n (subst (λ (v : g.row.W.Denot). Watches z v bs (Keeper 0 false []) c.in_ok-board.watch) (sym t.work) t.keeper) in let long : length c.in_ok-seats.seats.items ≡ length c.args.blanks.items = u.count ∙ counted in
    (λ i. local_state (t.work i) (ap (λ m. m.0.blanks) h.0.me i) (map (λ b. b.seat.me.0.role) c.in_ok-seats.seats.items) (ap (λ m. m.0.role) h.0.me i))
    ∙ fresh_state g.W.Work.plain z c.args.work c.args.blanks.items c.in_ok-seats.seats.items c.len-count.result long (subst (λ (v : g.row.W.Denot). AllFresh z v bs c.in_ok-seats.seats.items) t.work h.1)

use Rattle.std.proofs.Common.{◌≡◌, List, length, map, [], false, sym, ap, ◌∙◌, subst}
use lib.ListN.{length-map}
use Rattle.copy_slots.specs.declared.view.Role.TheVariants.{Keeper}
use Rattle.copy_slots.specs.SeatEnds.{Watches}
use Rattle.slot_board.specs.Dealt.{new_ports}
use Rattle.slot_board.proofs.Cutting.{new_waits}
use Rattle.slot_board.proofs.board.SlotBoard.new.Goals as goal

pub deal_cores-requires-clause-seats : goal.deal_cores-requires-clause-seats
deal_cores-requires-clause-seats g c = let t = c.in_ok-board.ensures in let u = c.in_ok-all.ensures in let bs : List g.row.W-Plain.Denot = map g.W.Work.plain c.args.blanks.items in let z = c.in_ok-board.board.shared.table_id in let w = c.in_ok-board.board.shared.key.work.value in
    let n : length c.args.ends.now ≡ length bs = c.requires.1 ∙ sym (length-map c.args.blanks.items g.W.Work.plain) in
    let h = u.fresh bs n (subst (λ (v : g.row.W.Denot). Watches z v bs (Keeper 0 false []) c.in_ok-board.keeper) (sym t.work) t.keeper) in
    (bs, h.0, new_waits z w bs c.args.ends.now c.in_ok-all.all.items u.count h.1)

pub returns-clause-whole : goal.returns-clause-whole
returns-clause-whole g c = let t = c.in_ok-board.ensures in let u = c.in_ok-all.ensures in let bs : List g.row.W-Plain.Denot = map g.W.Work.plain c.args.blanks.items in let z = c.in_ok-board.board.shared.table_id in let w = c.in_ok-board.board.shared.key.work.value in
    let n : length c.args.ends.now ≡ length bs = c.requires.1 ∙ sym (length-map c.args.blanks.items g.W.Work.plain) in
    let h = u.fresh bs n (subst (λ (v : g.row.W.Denot). Watches z v bs (Keeper 0 false []) c.in_ok-board.keeper) (sym t.work) t.keeper) in
    (c.in_ok-hands.ensures bs h.0 (new_waits z w bs c.args.ends.now c.in_ok-all.all.items u.count h.1)).0

pub returns-clause-ports : goal.returns-clause-ports
returns-clause-ports g c = let t = c.in_ok-board.ensures in let u = c.in_ok-all.ensures in let bs : List g.row.W-Plain.Denot = map g.W.Work.plain c.args.blanks.items in let z = c.in_ok-board.board.shared.table_id in let w = c.in_ok-board.board.shared.key.work.value in
    let n : length c.args.ends.now ≡ length bs = c.requires.1 ∙ sym (length-map c.args.blanks.items g.W.Work.plain) in
    let h = u.fresh bs n (subst (λ (v : g.row.W.Denot). Watches z v bs (Keeper 0 false []) c.in_ok-board.keeper) (sym t.work) t.keeper) in
    (c.in_ok-hands.ensures bs h.0 (new_waits z w bs c.args.ends.now c.in_ok-all.all.items u.count h.1)).1 ∙ ap (λ (v : g.row.W.Denot). new_ports z v bs c.args.ends.now c.args.root c.args.cores) t.work

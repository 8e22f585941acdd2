use Rattle.std.proofs.Common.{◌<◌, ◌^◌, List, length, sym, ap, ◌∙◌, subst}
use Rattle.atomic_table.specs.Seated.{TableId}
use Rattle.copy_slots.specs.SeatEnds.{IsBoard, Watches}
use Rattle.slot_board.specs.Slots.{AllPairs, is_watch}
use Rattle.slot_board.specs.Splits.{role_joined}
use Rattle.copy_slots.proofs.Seating.{rewatches}
use Rattle.slot_board.proofs.Uniting.{one_table, as_many, join_says, joined_sits, state_joined}
use Rattle.slot_board.proofs.port.SlotPort.join.Goals as goal

pub merge-requires-clause-board : goal.merge-requires-clause-board
merge-requires-clause-board g c = let s = c.args.self in (length s.seats.items, s.sized.1)

pub merge-requires-clause-seats : goal.merge-requires-clause-seats
merge-requires-clause-seats g c = let s = c.args.self in let t = c.args.other in let r = c.requires in let z = one_table s.top.now.shared.table_id t.top.now.shared.table_id r.0 in (
  s.watch.me.0.blanks,
  s.watch.me.0.role,
  t.watch.me.0.role,
  s.watches.1,
  t.watches.1,
  s.watches.0,
  subst (λ (q : TableId × (g.row.W.Denot × List g.row.W-Plain.Denot)). Watches q.0 q.1.0 q.1.1 t.watch.me.0.role t.watch) (λ i. (sym z i, (sym r.1 i, sym r.2 i))) t.watches.0,
)

pub join_seats-requires : goal.join_seats-requires
join_seats-requires g c = let s = c.args.self in let t = c.args.other in as_many s.top.now.shared.table_id t.top.now.shared.table_id (length s.seats.items) (length t.seats.items) (one_table s.top.now.shared.table_id t.top.now.shared.table_id c.requires.0) s.sized.1 t.sized.1

pub invariant_of-result : goal.invariant_of-result
invariant_of-result g c = let s = c.args.self in let t = c.args.other in let r = c.requires in let z = s.top.now.shared.table_id in let work = s.top.now.shared.key.work.value in let bs = s.watch.me.0.blanks in
    let same = one_table z t.top.now.shared.table_id r.0 in
    let more : Watches z work bs t.watch.me.0.role t.watch = subst (λ (q : TableId × (g.row.W.Denot × List g.row.W-Plain.Denot)). Watches q.0 q.1.0 q.1.1 t.watch.me.0.role t.watch) (λ i. (sym same i, (sym r.1 i, sym r.2 i))) t.watches.0 in
    let pairs : AllPairs z work bs t.seats.items = subst (λ (q : TableId × (g.row.W.Denot × List g.row.W-Plain.Denot)). AllPairs q.0 q.1.0 q.1.1 t.seats.items) (λ i. (sym same i, (sym r.1 i, sym r.2 i))) t.pairs in
    let long = as_many z t.top.now.shared.table_id (length s.seats.items) (length t.seats.items) same s.sized.1 t.sized.1 in
    let now = c.merge.ensures bs s.watch.me.0.role t.watch.me.0.role s.watches.0 more in let joined = c.join_seats.ensures in record {
      sized = subst (λ n. (n < 2 ^ 32) × IsBoard z n) (sym joined.long) s.sized;
      watches = (rewatches z work bs (role_joined s.watch.me.0.role t.watch.me.0.role) c.merge.new.seat now, ap (λ m. is_watch m.0.role) now.me ∙ (join_says s.watch.me.0.role t.watch.me.0.role s.watches.1 t.watches.1).3);
      pairs = subst (λ l. AllPairs z work l c.join_seats.new.mine.items) (sym (ap (λ m. m.0.blanks) now.me)) (joined_sits z work bs s.seats.items t.seats.items c.join_seats.new.mine.items long joined s.pairs pairs);
    }

pub returns : goal.returns
returns g c = let s = c.args.self in let t = c.args.other in let r = c.requires in let z = s.top.now.shared.table_id in let work = s.top.now.shared.key.work.value in let bs = s.watch.me.0.blanks in
    let same = one_table z t.top.now.shared.table_id r.0 in
    let more : Watches z work bs t.watch.me.0.role t.watch = subst (λ (q : TableId × (g.row.W.Denot × List g.row.W-Plain.Denot)). Watches q.0 q.1.0 q.1.1 t.watch.me.0.role t.watch) (λ i. (sym same i, (sym r.1 i, sym r.2 i))) t.watches.0 in
    let long = as_many z t.top.now.shared.table_id (length s.seats.items) (length t.seats.items) same s.sized.1 t.sized.1 in
    let now = c.merge.ensures bs s.watch.me.0.role t.watch.me.0.role s.watches.0 more in
    state_joined z t.top.now.shared.table_id work t.top.now.shared.key.work.value bs c.merge.new.seat.me.0.blanks t.watch.me.0.blanks s.seats.items t.seats.items c.join_seats.new.mine.items s.watch.me.0.role t.watch.me.0.role c.merge.new.seat.me.0.role
    s.watches.1 t.watches.1 long c.join_seats.ensures (ap (λ m. m.0.blanks) now.me) (ap (λ m. m.0.role) now.me)

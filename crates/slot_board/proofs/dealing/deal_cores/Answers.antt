use Rattle.std.proofs.Common.{rules, arith, ◌≡◌, ◌+◌, ◌++◌, ◌∷◌, [], ℕ, suc, length, map, refl, ap, ◌∙◌, sym, subst, true, add-one}
use Rattle.std.specs.Result.{is_ok}
use Rattle.std.proofs.lemmas.Grind.{common_steps}
use Rattle.copy_slots.specs.SeatEnds.{Watches}
use Rattle.slot_board.specs.declared.seats.CoreSeats.{CoreSeats}
use Rattle.slot_board.specs.Dealt.{new_ports, seats_state, spare_role}
use Rattle.slot_board.proofs.Cutting.{cut_waits, core_fits, core_is, fit_more, map_snoc, none_there}
use Rattle.slot_board.proofs.dealing.deal_cores.Goals as goal

pub loop-core-init : goal.loop-core-init
loop-core-init g c bs w h = (w, h, (λ j s e. absurd (none_there c.new-hands.result.items j s c.new-hands.ensures.items e)), ap (λ l. map (seats_state c.args.top.now.table_id c.args.top.now.key.work.value) l) c.new-hands.ensures.items)

pub next_watch-watch-requires-clause-spare : goal.next_watch-watch-requires-clause-spare
next_watch-watch-requires-clause-spare g c = let r = c.requires.seats in (r.0, spare_role c.args.root (length c.args.ends.now) c.loop-core.core, (c.loop-core.invariant r.0 r.1 r.2).0)

pub cut_core-requires : goal.cut_core-requires
cut_core-requires g c = let r = c.requires.seats in (c.loop-core.invariant r.0 r.1 r.2).1.long

pub loop-core-preserved : goal.loop-core-preserved
loop-core-preserved g c bs w h = let z = c.args.top.now.table_id in let work = c.args.top.now.key.work.value in let ends = c.args.ends.now in let root = c.args.root in let n = length ends in let core = c.loop-core.core in
    let i = c.loop-core.invariant bs w h in let nw = c.next_watch-watch.ensures bs (spare_role root n core) i.0 in let cut = c.in_ok-seats.ensures in
    let seats : CoreSeats g.row.W.Denot g.row.W-Packet.Denot g.row.W-Plain.Denot = record { watch = c.next_watch-watch.result; seats = c.in_ok-seats.seats } in
    let went : is_ok c.push_back.result ≡ true = first_of (search rules, grind (arith, common_steps)) in let items : c.push_back.new.self.items ≡ c.loop-core.hands.items ++ seats ∷ [] = rw went at c.push_back.ensures.items in
    let fits = core_fits z work bs core ends c.loop-core.all.items c.in_ok-seats.seats.items c.cut_core.new.all.items i.1 cut root n c.next_watch-watch.result c.requires.board nw.1 seats refl refl in
    let is = core_is z work bs core ends c.loop-core.all.items c.in_ok-seats.seats.items c.cut_core.new.all.items i.1 cut root n c.next_watch-watch.result nw.1 seats refl refl in
    let next : (core + 1) ≡ suc core = add-one core in (
      subst (λ (m : ℕ). Watches z work bs (spare_role root n m) c.next_watch-watch.new.spare) (sym next) nw.0,
      cut_waits z work bs core ends c.loop-core.all.items c.in_ok-seats.seats.items c.cut_core.new.all.items i.1 cut,
      rw items (fit_more z work bs c.loop-core.hands.items seats i.2 fits),
      rw items (map_snoc (seats_state z work) c.loop-core.hands.items seats ∙ (ap (λ l. l ++ seats_state z work seats ∷ []) i.3 ∙ (ap (λ s. new_ports z work bs ends root core ++ s ∷ []) is ∙ ap (λ (m : ℕ). new_ports z work bs ends root m) (sym next)))),
    )

pub returns : goal.returns
returns g c = λ bs w h. let i = c.loop-core.invariant bs w h in let t = c.loop-core-test.false in let auto = c.loop-core.auto.core-end in let all : c.loop-core.core ≡ c.args.cores = omega (arith, t, auto) in
    (i.2, i.3 ∙ ap (λ (m : ℕ). new_ports c.args.top.now.table_id c.args.top.now.key.work.value bs c.args.ends.now c.args.root m) all)

use Rattle.std.proofs.Common.{◌≡◌, map, length}
use Rattle.std.specs.Vec.Iter.{into_iter_items, into_iter_len}
use Rattle.slot_board.specs.Slots.{slot_state}
use Rattle.board_hosts.specs.CoreHosts.{AreMade, AreNewRopes}
use Rattle.board_hosts.proofs.Made.{RestLoads}
use Rattle.board_hosts.proofs.hosts.hosts_of.Given as goal

abbrev pub invariant-loop-core : goal.invariant-loop-core
invariant-loop-core l = record {
  rest : RestLoads l.code l.placement l.core
      (map (λ s. slot_state s.top.now.shared.table_id s.top.now.shared.key.work.value s.watch.me.0.blanks (map (λ b. (b.parent, b.child)) s.seats.items) s.watch.me.0.role) (into_iter_items l.ports));
  len : into_iter_len l.ports ≡ length (into_iter_items l.ports);
  roped : AreNewRopes l.code l.placement l.core (into_iter_items l.ropes);
  roped_len : into_iter_len l.ropes ≡ length (into_iter_items l.ropes);
  made : AreMade l.code l.placement l.core l.made.root l.made.others.items;
}

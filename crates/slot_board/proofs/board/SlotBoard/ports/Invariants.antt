use Rattle.std.proofs.Common.{◌≡◌, ◌+◌, ◌≤◌, ◌++◌, map}
use Rattle.std.specs.Prelude.{vec_len, vec_capacity}
use Rattle.std.proofs.Common.{deque_len}
use Rattle.slot_board.specs.Dealt.{BelongToTable, seats_state}
use Rattle.slot_board.specs.Slots.{slot_state}
use Rattle.slot_board.proofs.board.SlotBoard.ports.Given as goal

abbrev pub invariant-cores : goal.invariant-cores
invariant-cores g l = record {
  fit : BelongToTable l.top.shared.table_id l.top.shared.key.work.value l.hands.items;
  room : vec_len l.ports + deque_len l.hands ≤ vec_capacity l.ports;
  all : map (λ s. slot_state s.top.now.shared.table_id s.top.now.shared.key.work.value s.watch.me.0.blanks (map (λ b. (b.parent, b.child)) s.seats.items) s.watch.me.0.role) l.ports.items ++ map (seats_state l.top.shared.table_id l.top.shared.key.work.value) l.hands.items
      ≡ map (seats_state l.fn.self.board.shared.table_id l.fn.self.board.shared.key.work.value) l.fn.self.hands.items;
}

abbrev pub decreases-cores : goal.decreases-cores
decreases-cores g l = deque_len l.hands

use Rattle.std.proofs.Common.{◌≡◌, ◌%◌, ◌^◌, false}
use Rattle.std.specs.List.{sum}
use Rattle.copy_slots.specs.Ports.{ChildIs, taken}
use Rattle.slot_board.specs.Joined.{IsOneBoard}
use Rattle.core_rows.proofs.summed.answer_all.Given as goal

abbrev pub invariant-serving : goal.invariant-serving
invariant-serving g l = ChildIs (g.P.Port.state l.port) 0 false × (l.total ≡ sum (taken (g.P.Port.state l.port) 0) % 2 ^ 64) × IsOneBoard (g.P.Port.state l.fn.port) (g.P.Port.state l.port)

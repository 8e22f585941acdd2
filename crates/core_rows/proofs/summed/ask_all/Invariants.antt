use Rattle.std.proofs.Common.{◌≡◌, true}
use Rattle.copy_slots.specs.declared.view.PacketAt.TheVariants.{Held}
use Rattle.copy_slots.specs.Ports.{ParentIs}
use Rattle.slot_board.specs.Joined.{IsOneBoard}
use Rattle.core_rows.proofs.summed.ask_all.Given as goal

abbrev pub invariant-loop-job : goal.invariant-loop-job
invariant-loop-job g l = ParentIs (g.P.Port.state l.port) 0 Held × IsOneBoard (g.P.Port.state l.fn.port) (g.P.Port.state l.port) × ((g.P.Port.state l.port).root ≡ true)

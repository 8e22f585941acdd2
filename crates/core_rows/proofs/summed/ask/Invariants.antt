use Rattle.std.proofs.Common.{◌≡◌}
use Rattle.copy_slots.specs.declared.view.PacketAt.TheVariants.{Out}
use Rattle.copy_slots.specs.Ports.{ParentIs}
use Rattle.slot_board.specs.Joined.{IsOneBoard}
use Rattle.core_rows.proofs.summed.ask.Given as goal

abbrev pub invariant-waiting : goal.invariant-waiting
invariant-waiting g l = ParentIs (g.P.Port.state l.port) 0 Out × ((g.P.Port.state l.port).root ≡ (g.P.Port.state l.fn.port).root) × IsOneBoard (g.P.Port.state l.fn.port) (g.P.Port.state l.port)

-- What holds between ticks.
use Rattle.std.specs.Prelude.{◌≡◌}
use Rattle.forec_kernel.specs.Ticks.{TickState, Fresh, After_tick}
use Rattle.combine_tree.specs.declared.packet.Packet.{Packet}
use Rattle.combine_tree.specs.declared.packet.PacketKind.{PacketKind}
use Rattle.combine_tree.specs.declared.packet.PacketKind.TheVariants as kind
use Rattle.core_machine.specs.declared.thread.Thread.{Thread}
use Rattle.core_machine.specs.Threads.{HasPaused}

-- the next tick can begin: no tick was run, or the last one paused
abbrev pub IsReady : Thread → PacketKind → Type 0
IsReady h kind.Blank = Unit {0}
IsReady h kind.Paused = HasPaused h
IsReady h _ = ⊥

-- what the packet of thread 0 has between ticks: before the first nothing, later the copies with which the last one paused
abbrev pub HoldsState : TickState → Packet → Type 0
HoldsState Fresh p = p.kind ≡ kind.Blank
HoldsState (After_tick thread) p = (p.kind ≡ kind.Paused) × (p.copies.items ≡ thread.copies)

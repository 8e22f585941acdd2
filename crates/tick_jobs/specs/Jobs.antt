-- The jobs that a host gives its thread.
use Rattle.std.specs.Prelude.{ℕ, ◌+◌, ◌==◌, ℤ, Bool, true, List, [], ◌∷◌, ◌&&◌}
use Rattle.forec_kernel.specs.declared.shape.VarCopy.{VarCopy}
use Rattle.forec_kernel.specs.Shapes.{PlainShape}
use Rattle.forec_kernel.specs.Texts.{uses_in}
use Rattle.forec_kernel.specs.Ticks.{start_copies, unmarked, with_row}
use Rattle.forec_kernel.specs.Engine.{Job, Start, Wake}
use Rattle.forec_kernel.specs.Solo.{values_in}
use Rattle.combine_tree.specs.declared.packet.Packet.{Packet}
use Rattle.combine_tree.specs.declared.packet.PacketKind.{PacketKind}
use Rattle.combine_tree.specs.declared.packet.PacketKind.TheVariants as kind

-- no tick was run, or the last one paused
abbrev pub IsBetweenTicks : PacketKind → Type 0
IsBetweenTicks kind.Blank = Unit {0}
IsBetweenTicks kind.Paused = Unit {0}
IsBetweenTicks _ = ⊥

-- the copies with which a tick begins, but for the row: the start values in the first tick, then those of the last reply, unmarked
abbrev pub copies_before : PlainShape → PacketKind → List VarCopy → List VarCopy
copies_before s kind.Blank copies = start_copies s.variables
copies_before s _ copies = unmarked copies

abbrev pub copies_at : PlainShape → Packet → List ℤ → List VarCopy
copies_at s p row = with_row (uses_in s.threads 0) s.inputs row (copies_before s p.kind p.copies.items)

abbrev pub job_with : PacketKind → List ℤ → ℕ → Job
job_with kind.Blank values budget = Start [] values budget
job_with _ values budget = Wake values budget

-- the next tick's job, where this is the packet of the last reply
abbrev pub job_of : PlainShape → Packet → List ℤ → ℕ → Job
job_of s p row budget = job_with p.kind (values_in (copies_at s p row)) budget

abbrev pub next_job_kind : PacketKind → PacketKind
next_job_kind kind.Blank = kind.Start
next_job_kind _ = kind.Wake

-- each number is one more than the one before it
abbrev pub follow_each_other : List ℕ → Bool
follow_each_other [] = true
follow_each_other (a ∷ []) = true
follow_each_other (a ∷ b ∷ rest) = (b == a + 1) && follow_each_other (b ∷ rest)

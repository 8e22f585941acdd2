-- How a run ends.
use Rattle.std.specs.Prelude.{◌≡◌, ℕ, Bool, List, ◌++◌, Option, Some, ⊤}
use Rattle.std.specs.Io.KnownBytes.{Appends}
use Rattle.forec_kernel.specs.Shapes.{PlainKernel}
use Rattle.trace_rows.specs.Calls.{IfTold}
use Rattle.trace_rows.specs.Lines.{whole_lines}
use Rattle.trace_rows.specs.SourceReads.{ReadsBytes}
use Rattle.trace_ticks.specs.Report.{Report, printed_for}
use Rattle.trace_ticks.specs.declared.format.Format.{Format}
use Rattle.trace_ticks.specs.declared.status.Status.{Status}
use Rattle.trace_ticks.specs.declared.status.Status.TheVariants as status

-- a status that a report ends with: neither a fault nor out of memory
abbrev pub IsOwn : Status → Type 0
IsOwn status.Done = ⊤
IsOwn status.Usage = ⊤
IsOwn status.Refused = ⊤
IsOwn status.Trace = ⊤
IsOwn status.Trapped = ⊤
IsOwn status.Over = ⊤
IsOwn status.ReadFault = ⊥
IsOwn status.WriteFault = ⊥
IsOwn status.NoMemory = ⊥
IsOwn status.Full = ⊤

-- the report was given, whole
pub record Given (r : Report) (end : Status) (held_old held_new : Option (List ℕ)) : Type 0 where
  pub status : end ≡ r.status
  pub bytes : Appends held_old held_new r.bytes

-- these bytes are what the lines print that have come whole, none of which stops the program
abbrev pub PrintedFor : ℕ → Format → PlainKernel → ℕ → List ℕ → List ℕ → List ℕ → Type 0
PrintedFor limit how k budget bytes left_old left_new =
    (given : List ℕ) × (left_old ≡ given ++ left_new) × (printed_for limit how k budget (whole_lines given) ≡ Some bytes)

-- the trace was wanted by a kernel: no line that came whole stops it, and what was printed is what those lines print
abbrev pub Wanted : ℕ → Format → PlainKernel → ℕ → Option (List ℕ) → Option (List ℕ) → Option (List ℕ) → Option (List ℕ) → Type 0
Wanted limit how k budget left_old left_new held_old held_new =
    (bytes : List ℕ) × Appends held_old held_new bytes × IfTold left_old left_new (PrintedFor limit how k budget bytes)

-- ---- reads of the trace

-- none of the lines that have come whole stops the program: the first is the header, each further one a row, and it goes on at each
abbrev pub GoesOn : ℕ → Format → PlainKernel → ℕ → List ℕ → Type 0
GoesOn limit how k budget came = (bytes : List ℕ) × (printed_for limit how k budget (whole_lines came) ≡ Some bytes)

-- the trace was read for a kernel: each read was asked for while no line that had come whole stops the program
abbrev pub ReadFor : {S : Type 0} → (S → Option (List ℕ)) → (S → ℕ) → (S → Bool) → ℕ → Format → PlainKernel → ℕ → S → S → Type 0
ReadFor left faults down limit how k budget old new =
    (given : List ℕ) × ReadsBytes left faults down (GoesOn limit how k budget) old given new

-- What a call does that prints a report.
use Rattle.std.specs.Prelude.{◌≡◌, ◌⊎◌, ℕ, Bool, List, Option, ⊤}
use Rattle.forec_base.specs.Outside.{Fell}
use Rattle.whole_writes.specs.Calls.{AppendsFront}
use Rattle.trace_ticks.specs.Ends.{IsOwn, Given}
use Rattle.trace_ticks.specs.Report.{Report}
use Rattle.trace_ticks.specs.declared.status.Status.{Status}
use Rattle.trace_ticks.specs.declared.status.Status.TheVariants as status

-- It prints one of these reports, where what they rest on is told. `Misused`: it may end with the status of a misuse. `Unread`: a text
-- or a trace couldn't be read. `Parted`: where memory runs out a front of a report may be printed. What the sink shows: the bytes
-- that it holds, how often it has failed, and whether its last call failed.
pub record Prints {K : Type 0} (held : K → Option (List ℕ)) (faults : K → ℕ) (down : K → Bool) (Told : Type 0) (Is : Report → Type 0)
    (Misused Unread Parted : Type 0) (old new : K) (end : Status) : Type 0 where
  pub own : IsOwn end → Told → (r : Report) × Is r × Given r end (held old) (held new)
  pub write : end ≡ status.WriteFault →
      Fell (faults old) (faults new) (down new) × (Told → (r : Report) × Is r × AppendsFront (held old) (held new) r.bytes)
  pub memory : end ≡ status.NoMemory →
      (held new ≡ held old) ⊎ (Parted × (Told → (r : Report) × Is r × AppendsFront (held old) (held new) r.bytes))
  pub read : end ≡ status.ReadFault → Unread
  pub usage : end ≡ status.Usage → Misused

-- It prints this report, and reads nothing.
abbrev pub PrintsReport : {K : Type 0} → (K → Option (List ℕ)) → (K → ℕ) → (K → Bool) → Report → Type 0 → K → K → Status → Type 0
PrintsReport held faults down r Misused old new end = Prints held faults down ⊤ (λ q. q ≡ r) Misused ⊥ ⊥ old new end

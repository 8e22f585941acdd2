-- What calls over a sink that may not tell what it holds say of it.
use Rattle.std.specs.Prelude.{◌≡◌, ℕ, Bool, List, ◌++◌, Option}
use Rattle.std.specs.Io.KnownBytes.{Appends}
use Rattle.forec_base.specs.Outside.{Fell}
use Rattle.whole_writes.specs.Calls.{AppendsFront}
use Rattle.dump_report.specs.Ends.{EndsReport}
use Rattle.dump_report.specs.Told.{ToldReport}
use Rattle.dump_report.specs.declared.status.DumpStatus.{DumpStatus}
use Rattle.dump_report.specs.declared.status.DumpStatus.TheVariants as status

-- a front of these bytes was added, and the rest waits
pub record Sends (held_old held_new : Option (List ℕ)) (bytes waiting : List ℕ) : Type 0 where
  pub sent : List ℕ
  pub whole : bytes ≡ sent ++ waiting
  pub appended : Appends held_old held_new sent

-- It tells this report, unless the sink fails or memory runs out. What the sink shows: the bytes that it holds, how often it has failed,
-- and whether its last call failed.
pub record TellsReport {K : Type 0} (held : K → Option (List ℕ)) (faults : K → ℕ) (down : K → Bool) (r : ToldReport) (old new : K) (end : DumpStatus) : Type 0 where
  pub own : EndsReport end → (end ≡ r.status) × Appends (held old) (held new) r.bytes
  pub write : end ≡ status.WriteFault → Fell (faults old) (faults new) (down new) × AppendsFront (held old) (held new) r.bytes
  pub memory : end ≡ status.NoMemory → new ≡ old

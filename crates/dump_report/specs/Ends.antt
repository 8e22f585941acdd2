-- How a call ends that tells a report.
use Rattle.std.specs.Prelude.{⊤}
use Rattle.dump_report.specs.declared.status.DumpStatus.{DumpStatus}
use Rattle.dump_report.specs.declared.status.DumpStatus.TheVariants as status

-- a status that a report ends with: neither a fault nor out of memory
abbrev pub EndsReport : DumpStatus → Type 0
EndsReport status.Done = ⊤
EndsReport status.Refused = ⊤
EndsReport status.WriteFault = ⊥
EndsReport status.NoMemory = ⊥

-- What is printed of a dump.
use Rattle.std.specs.Prelude.{◌≡◌, ℕ, List, Option, Some}
use Rattle.dump_report.specs.Told.{dump_report}
use Rattle.dump_report.specs.declared.status.DumpStatus.{DumpStatus}
use Rattle.dump_report.specs.declared.status.DumpStatus.TheVariants as dump
use Rattle.trace_ticks.specs.Report.{Report}
use Rattle.trace_ticks.specs.declared.status.Status.{Status}
use Rattle.trace_ticks.specs.declared.status.Status.TheVariants as status

-- the status of the program, where what a dump tells ended so
abbrev pub status_of_dump : DumpStatus → Status
status_of_dump dump.Done = status.Done
status_of_dump dump.Refused = status.Refused
status_of_dump dump.WriteFault = status.WriteFault
status_of_dump dump.NoMemory = status.NoMemory

-- the report of a text that is to be a dump
abbrev pub dump_printed : List ℕ → Report
dump_printed text = record { bytes = (dump_report text).bytes; status = status_of_dump (dump_report text).status }

-- r is the report of the text of a name, which is to be a dump
abbrev pub DumpReport : (List ℕ → Option (List ℕ)) → List ℕ → Report → Type 0
DumpReport content name r = (text : List ℕ) × (content name ≡ Some text) × (r ≡ dump_printed text)

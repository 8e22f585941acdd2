-- The numbers of the statuses.
use Rattle.std.specs.Prelude.{ℕ}
use Rattle.trace_ticks.specs.declared.status.Status.{Status}
use Rattle.trace_ticks.specs.declared.status.Status.TheVariants as status

abbrev pub status_number : Status → ℕ
status_number status.Done = 0
status_number status.Usage = 2
status_number status.Refused = 3
status_number status.Trace = 4
status_number status.Trapped = 5
status_number status.Over = 6
status_number status.ReadFault = 7
status_number status.WriteFault = 8
status_number status.NoMemory = 9
status_number status.Full = 10

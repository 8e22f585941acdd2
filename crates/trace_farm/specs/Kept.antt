-- What a trace that lies in memory and a report that is kept there tell.
use Rattle.std.specs.Prelude.{ℕ, Bool, List}
use Rattle.trace_farm.specs.declared.slice_source.SliceSource.{SliceSource}
use Rattle.trace_farm.specs.declared.report_sink.ReportSink.{ReportSink}

abbrev pub slice_left : SliceSource → List ℕ
slice_left s = s.rest.now

abbrev pub report_held : ReportSink → List ℕ
report_held s = s.bytes.items

abbrev pub report_faults : ReportSink → ℕ
report_faults s = s.faults

abbrev pub report_down : ReportSink → Bool
report_down s = s.down

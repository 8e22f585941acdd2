use Rattle.std.proofs.Common.{◌≡◌, true, Some, length}
use Rattle.std.specs.Io.KnownBytes.{IsAtEnd}
use Rattle.forec_base.specs.Memory.{source_left}
use Rattle.trace_rows.specs.Trace.{row_width}
use Rattle.forec_rows.proofs.rows.read.Given as goal

abbrev pub invariant-rows : goal.invariant-rows
invariant-rows l = record {
  live : l.rows.live ≡ true;
  width : length l.row ≡ row_width l.rows.form;
  ended : l.rows.ended ≡ true → IsAtEnd (Some (source_left l.source));
}

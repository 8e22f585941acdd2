use Rattle.std.proofs.Common.{◌≤◌, take, map}
use Rattle.std.specs.List.{concat}
use Rattle.std.specs.Io.KnownBytes.{Appends}
use Rattle.std.specs.Simd.Lanes.{zip2}
use Rattle.trace_farm.specs.Farm.{plain_report}
use Rattle.forec_engine.specs.Farms.{trace_group}
use Rattle.forec_engine.specs.Farming.{told_all}
use Rattle.forec_engine.proofs.farm_reports.write_groups.Given as goal

abbrev pub invariant-loop-i : goal.invariant-loop-i
invariant-loop-i g l = record {
  written : Appends (g.K.Sink.held l.fn.out) (g.K.Sink.held l.out) (concat (take l.i (zip2 trace_group (map (λ n. n.now) l.names) (told_all l.long (map plain_report l.reports)))));
  faults : g.K.Sink.faults l.fn.out ≤ g.K.Sink.faults l.out;
}

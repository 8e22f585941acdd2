use Rattle.std.proofs.Common.{◌≡◌, take, vec_len}
use Rattle.forec_kernel.specs.Shapes.{PlainKernel}
use Rattle.forec_kernel.specs.WellFormed.{WellFormed}
use Rattle.thread_code.specs.Alone.{Stands}
use Rattle.thread_code.specs.Plain.{plain_code}
use Rattle.trace_farm.specs.Farm.{AreReportsOf}
use Rattle.trace_farm.proofs.halves.one_by_one.Given as goal

abbrev pub invariant-loop-trace : goal.invariant-loop-trace
invariant-loop-trace g l =
    record {
      count : vec_len l.reports ≡ l.trace-index;
      each : (k : PlainKernel) → WellFormed k → Stands (plain_code l.code) k →
          AreReportsOf l.plan.rows k l.plan.budget (take l.trace-index l.traces) l.reports.items;
    }

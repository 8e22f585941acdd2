use Rattle.std.proofs.Common.{ℕ, Bool, List, Vec, Global, map, length, sym, ap, ap₂, ◌∙◌}
use Rattle.forec_kernel.specs.Shapes.{plain_kernel}
use Rattle.trace_farm.specs.Farm.{plain_report, report_of}
use Rattle.trace_farm.specs.declared.farm_report.FarmReport.{FarmReport}
use Rattle.forec_engine.specs.Farming.{told_all, reports_of}
use Rattle.forec_engine.specs.declared.farm_traces.TheConstants.{FARM_ROWS}
use Rattle.forec_engine.proofs.FarmPrinting.{all_run, farm_told}
use Rattle.forec_engine.proofs.farming.run_traces.Goals as goal

pub print_reports-requires-clause-reports : goal.print_reports-requires-clause-reports
print_reports-requires-clause-reports g c = λ κs within.
    ap length c.deref-2.ensures.value ∙ c.in-Ok-farm.ensures.count ∙ ap length c.deref.ensures.value ∙ c.requires.bytes

pub print_reports-requires-clause-long : goal.print_reports-requires-clause-long
print_reports-requires-clause-long g c = λ κs within.
    ap length c.deref-3.ensures.value ∙ c.requires.long
    ∙ sym (ap length c.deref-2.ensures.value ∙ c.in-Ok-farm.ensures.count ∙ ap length c.deref.ensures.value ∙ c.requires.bytes)

pub returns : goal.returns
returns g c =
    let k = plain_kernel c.args.kernel.now in
    let traces = c.args.traces.now in
    let are =
    c.in-Ok-farm.ensures.each k c.shape.ensures.well_formed c.in-Ok.ensures
    ∙ ap (map (λ (t : Vec ℕ Global). report_of FARM_ROWS k c.args.units t.items)) c.deref.ensures.value in
    c.print_reports.ensures (reports_of k c.args.units traces.long.items (map (λ v. v.items) traces.bytes.items))
    (ap₂ (λ (long : List Bool) (reports : List FarmReport). told_all long (map plain_report reports)) c.deref-3.ensures.value c.deref-2.ensures.value
    ∙ farm_told k c.args.units traces.long.items c.in-Ok-farm.reports.items traces.bytes.items are)
    (all_run k c.args.units traces.long.items (map (λ v. v.items) traces.bytes.items))

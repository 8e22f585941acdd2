use Rattle.std.proofs.Common.{map}
use Rattle.trace_farm.specs.Farm.{plain_report}
use Rattle.forec_engine.specs.Farming.{told_all}
use Rattle.forec_engine.proofs.FarmPrinting.{farm_printed, farm_front}
use Rattle.forec_engine.proofs.farming.print_reports.Goals as goal

pub returns-in-Ok-write_groups : goal.returns-in-Ok-write_groups
returns-in-Ok-write_groups g c = λ rs are run.
    farm_printed g.K.Sink.held g.K.Sink.faults g.K.Sink.down c.args.out.now c.write_groups.new.out (map (λ n. n.now) c.args.names.now) rs run (told_all c.args.long.now (map plain_report c.args.reports.now)) are
    c.in-Ok.status c.in-Ok.ensures c.in-Ok-write_groups.ensures.ok

pub returns-in-Err : goal.returns-in-Err
returns-in-Err g c = λ rs are run.
    farm_front g.K.Sink.held g.K.Sink.faults g.K.Sink.down c.args.out.now c.write_groups.new.out (map (λ n. n.now) c.args.names.now) rs run (told_all c.args.long.now (map plain_report c.args.reports.now)) are
    c.in-Err.ensures.cause.failed c.in-Err.ensures.err

use Rattle.std.proofs.Common.{map, subst, ap, arith}
use Rattle.std.specs.List.{concat}
use Rattle.std.specs.Io.KnownBytes.{Appends}
use Rattle.std.specs.Simd.Lanes.{zip2}
use Rattle.std.proofs.lemmas.List.{take_all}
use Rattle.trace_farm.specs.Farm.{plain_report}
use Rattle.forec_engine.specs.Farms.{trace_group}
use Rattle.forec_engine.specs.Farming.{plain_told, told_all}
use Rattle.forec_engine.proofs.FarmPieces.{group_more, group_front, groups_length}
use Rattle.forec_engine.proofs.farm_reports.write_groups.Goals as goal

pub loop-i-preserved : goal.loop-i-preserved
loop-i-preserved g c =
    let held = g.K.Sink.held in
    record {
      written = group_more c.args.reports.now c.args.long.now c.requires.long c.loop-i.i (omega (arith, c.loop-i-test.true, c.requires.reports)) _ (plain_told c.told.result) c.index-reports-i.is c.told.ensures
          c.args.names.now _ c.requires.reports (held c.args.out.now) (held c.loop-i.out) (held c.write_group.new.out) c.loop-i.invariant.written c.in-Ok.ensures.ok;
      faults = omega (arith, c.loop-i.invariant.faults, c.in-Ok.ensures.cause.later);
    }

pub returns-in-Err-clause-err : goal.returns-in-Err-clause-err
returns-in-Err-clause-err g c =
    let held = g.K.Sink.held in
    group_front c.args.reports.now c.args.long.now c.requires.long c.loop-i.i (omega (arith, c.loop-i-test.true, c.requires.reports)) _ (plain_told c.told.result) c.index-reports-i.is c.told.ensures
    c.args.names.now _ c.requires.reports (held c.args.out.now) (held c.loop-i.out) (held c.write_group.new.out) c.loop-i.invariant.written c.in-Err.ensures.err

pub returns-clause-ok : goal.returns-clause-ok
returns-clause-ok g c =
    let held = g.K.Sink.held in
    let all = zip2 trace_group (map (λ n. n.now) c.args.names.now) (told_all c.args.long.now (map plain_report c.args.reports.now)) in
    let many = groups_length c.args.reports.now c.args.long.now c.requires.long c.args.names.now c.requires.reports in
    subst (Appends (held c.args.out.now) (held c.loop-i.out)) (ap concat (take_all c.loop-i.i all (omega (arith, many, c.loop-i-test.false)))) c.loop-i.invariant.written

use Rattle.std.proofs.Common.{◌++◌, ◌∷◌, [], ℕ, List, map, sym, ap, ◌∙◌, arith}
use Rattle.trace_farm.specs.Farm.{NumberedReport, plain_report}
use Rattle.std.proofs.lemmas.List.{take_all}
use Rattle.forec_engine.specs.Farming.{plain_told, told_all}
use Rattle.forec_engine.proofs.FarmPieces.{number_more, numbers_length}
use Rattle.forec_engine.proofs.farm_reports.numbers.Goals as goal

pub loop-i-preserved : goal.loop-i-preserved
loop-i-preserved c =
    c.in_ok-push.ensures.items ∙ ap (λ (ns : List ℕ). ns ++ c.told.result.status ∷ []) c.loop-i.invariant
    ∙ sym (number_more c.args.reports.now c.args.long.now c.requires c.loop-i.i c.loop-i-test.true _ (plain_told c.told.result) c.index-reports-i.is c.told.ensures)

pub returns : goal.returns
returns c =
    let ns = map (λ (t : NumberedReport). t.status) (told_all c.args.long.now (map plain_report c.args.reports.now)) in
    c.loop-i.invariant ∙ take_all c.loop-i.i ns (omega (arith, numbers_length c.args.reports.now c.args.long.now c.requires, c.loop-i-test.false))

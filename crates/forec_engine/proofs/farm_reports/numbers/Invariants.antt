use Rattle.std.proofs.Common.{◌≡◌, take, map}
use Rattle.trace_farm.specs.Farm.{plain_report}
use Rattle.forec_engine.specs.Farming.{told_all}
use Rattle.forec_engine.proofs.farm_reports.numbers.Given as goal

abbrev pub invariant-loop-i : goal.invariant-loop-i
invariant-loop-i l = l.numbers.items ≡ take l.i (map (λ r. r.status) (told_all l.long (map plain_report l.reports)))

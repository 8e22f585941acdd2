use Rattle.std.proofs.Common.{drop, ◌≡◌}
use Rattle.forec_check.specs.AccessScan.{AccessScan, scan_start}
use Rattle.forec_check.specs.AccessCounts.{AlikeUpToTwo, scan_of, called_access, scan_effects}
use Rattle.forec_check.proofs.instances.accesses.text_access.Given as goal

abbrev pub invariant-loop-effect : goal.invariant-loop-effect
invariant-loop-effect l =
    (r : AccessScan) × AlikeUpToTwo (scan_of l.t) r × (scan_effects l.g (called_access l.table) r (drop l.effect-index l.effects) ≡ scan_effects l.g (called_access l.table) scan_start l.fn.effects)

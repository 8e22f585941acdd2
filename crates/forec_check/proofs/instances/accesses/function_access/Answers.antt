use Rattle.std.proofs.Common.{◌∙◌, ap}
use Rattle.forec_check.specs.AccessScan.{scan_start, as_access}
use Rattle.loop_check.specs.Views.{indexed_text}
use Rattle.forec_check.specs.AccessCounts.{capped_access, called_access, scan_effects}
use Rattle.forec_check.proofs.NamingTables.{step_effects}
use Rattle.forec_check.proofs.instances.accesses.function_access.Goals as goal

pub returns : goal.returns
returns c =
    let called = called_access c.args.table.now in
    c.in_ok-n.ensures ∙ ap (λ es. capped_access (as_access (scan_effects c.args.g called scan_start es))) c.effects_of.ensures ∙ step_effects (indexed_text c.args.index.now) c.args.g c.args.id called

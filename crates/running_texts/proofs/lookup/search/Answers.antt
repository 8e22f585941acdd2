use Rattle.std.proofs.Common.{◌≡◌, false, arith}
use Rattle.forec_kernel.specs.Combining.{contains}
use Rattle.running_texts.proofs.Lookups.{not_there}
use Rattle.running_texts.proofs.lookup.search.Goals as goal
use Rattle.running_texts.proofs.lookup.search.Goals.{else-at-uses-via-then-at-uses+else-uses-at, else-at-uses-via-else-at-uses}

pub returns-else-at-uses : goal.returns-else-at-uses
returns-else-at-uses c =
    let bound = c.lower_bound-at.ensures in
    let none : contains c.args.variable c.args.uses.now ≡ false =
    not_there c.args.uses.now c.args.variable c.lower_bound-at.result c.requires bound (elim c.else-at-uses.branch [
      | else-at-uses-via-then-at-uses+else-uses-at w ↦ λ p. w.if-uses-at.false
      | else-at-uses-via-else-at-uses w ↦ λ p. absurd (omega arith)
    ])
    in
    rw none

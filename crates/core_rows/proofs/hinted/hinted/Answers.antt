use Rattle.std.proofs.Common.{◌∙◌}
use Rattle.core_rows.proofs.hinted.hinted.Goals as goal

pub both-requires : goal.both-requires
both-requires g c = record { code = c.args.code.now; placement = c.in_ok-placement.placement; count = c.in_ok-placement.placement.cores; are = c.in_ok-ropes.ensures ∙ c.in_ok-bells.ensures.ropes }

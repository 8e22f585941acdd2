use Rattle.std.proofs.Common.{◌∙◌}
use Rattle.tick_bounds.proofs.Searching.{in_search}
use Rattle.tick_bounds.proofs.scope.is_among.Goals as goal

pub returns : goal.returns
returns c = c.is_ok.ensures.value ∙ in_search c.args.uses.now c.args.variable c.binary_search.result c.requires c.binary_search.ensures.position

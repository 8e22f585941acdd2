use Rattle.std.proofs.Common.{◌∙◌, sym, ap}
use Rattle.forec_check.specs.CallSites.{sites_at}
use Rattle.forec_check.proofs.instances.propagate.propagate_function.Goals as goal

pub returns-then-is_none-clause-settled : goal.returns-then-is_none-clause-settled
returns-then-is_none-clause-settled c =
    λ e some. absurd (some (ap (λ t. sites_at t c.args.f) (sym c.deref.ensures.value) ∙ (sym c.at.ensures ∙ c.is_none.ensures.none c.if-is_none.true)))

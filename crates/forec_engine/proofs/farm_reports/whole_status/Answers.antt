use Rattle.std.proofs.Common.{ℕ, List, Some, sym, subst, ◌∙◌, nat_cmp}
use Rattle.rayon.specs.Lists.{IsGreatest}
use Rattle.forec_engine.proofs.FarmStatuses.{greatest_is, no_statuses}
use Rattle.forec_engine.proofs.farm_reports.whole_status.Goals as goal

pub returns-in-Some : goal.returns-in-Some
returns-in-Some g c = λ ss are.
    c.status_of.ensures _ (greatest_is ss c.in-Some.number
    (subst (λ (ns : List ℕ). IsGreatest nat_cmp ns (Some c.in-Some.number)) (c.deref.ensures.value ∙ c.in_ok-numbers.ensures ∙ are) c.in-Some.ensures))

pub returns : goal.returns
returns g c = λ ss are. no_statuses ss (sym are ∙ sym c.in_ok-numbers.ensures ∙ sym c.deref.ensures.value ∙ c.in-None.ensures)

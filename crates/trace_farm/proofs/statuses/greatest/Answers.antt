use Rattle.std.proofs.Common.{ap, subst, ◌∙◌}
use Rattle.std.specs.Ordering.{nat_cmp}
use Rattle.rayon.specs.Lists.{IsGreatest}
use Rattle.trace_farm.proofs.statuses.greatest.Goals as goal

pub returns : goal.returns
returns g c =
    let done = c.max.ensures in
    let list = done.1.2 ∙ done.1.1 ∙ ap (λ it. it.slice.now) c.copied.ensures ∙ c.par_iter.ensures in
    subst (λ l. IsGreatest nat_cmp l c.max.result) list done.2

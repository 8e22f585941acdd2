use Rattle.std.proofs.Common.{◌∙◌, ap, take, not, nat_eq}
use Rattle.std.specs.List.{list_all}
use Rattle.core_machine.specs.Branches.{Gathered}
use Rattle.core_machine.proofs.Gathering.{none_counted}
use Rattle.core_machine.proofs.branches.Branches.none_ended.Goals as goal

pub returns : goal.returns
returns c =
    let i = c.self.inside in
    ap (λ n. nat_eq n 0) c.self.invariant.3 ∙ none_counted (take i.settled i.ended.items) ∙ ap (λ (g : Gathered). list_all (λ e. not e) g.ended) c.self.view_is

use Rattle.std.proofs.Common.{◌∙◌, sym, ap, arith, take, nat_eq}
use Rattle.std.specs.List.{count_by, list_all}
use Rattle.std.proofs.lemmas.List.{length-take-le}
use Rattle.core_machine.specs.Branches.{Gathered}
use Rattle.core_machine.proofs.Gathering.{all_counted}
use Rattle.core_machine.proofs.branches.Branches.all_ended.Goals as goal

pub returns : goal.returns
returns c =
    let i = c.self.inside in
    let v = c.self.invariant in
    let es = take i.settled i.ended.items in
    let all = length-take-le i.settled i.ended.items (omega (arith, v.0, v.1, v.2)) in
    ap (λ n. nat_eq n i.settled) v.3 ∙ ap (nat_eq (count_by (λ e. e) es)) (sym all) ∙ all_counted es ∙ ap (λ (g : Gathered). list_all (λ e. e) g.ended) c.self.view_is

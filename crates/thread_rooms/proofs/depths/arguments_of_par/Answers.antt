use Rattle.std.proofs.Common.{◌<◌, ◌∙◌, IfSome, length, sym, ap, subst}
use Rattle.thread_code.specs.Plain.{plain_code}
use Rattle.thread_code.specs.Valid.{branches_in}
use Rattle.thread_state.specs.Pars.{first_of, arguments_from}
use Rattle.thread_state.proofs.Links.{lead_within, lead_arguments}
use Rattle.thread_rooms.proofs.depths.arguments_of_par.Goals as goal

pub arguments_from-requires : goal.arguments_from-requires
arguments_from-requires c =
    let s = (plain_code c.args.code.now).shape in
    let p = c.args.pars.now in
    let j = c.args.par in
    subst (λ o. IfSome o (λ b. b < length p.siblings)) (sym c.first.ensures) (lead_within s p.siblings (first_of p j) (branches_in s j) (c.requires.lead j))

pub returns : goal.returns
returns c =
    let s = (plain_code c.args.code.now).shape in
    let p = c.args.pars.now in
    let j = c.args.par in
    c.arguments_from.ensures ∙ ap (arguments_from p.siblings) c.first.ensures ∙ lead_arguments s p.siblings (first_of p j) (branches_in s j) (c.requires.lead j)

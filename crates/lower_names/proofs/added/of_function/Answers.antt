use Rattle.std.proofs.Common.{refl, subst}
use Rattle.forec_tree.specs.Plain.{statements, plain_function}
use Rattle.lower_names.specs.Additions.{ListAdds}
use Rattle.lower_names.proofs.AdditionLemmas.{body_adds}
use Rattle.lower_names.proofs.added.of_function.Goals as goal

pub returns : goal.returns
returns c =
    λ text all.
    body_adds text (plain_function c.args.function.now) c.in_ok-below.below (record { threads = c.in_ok-below.below.threads; pars = c.in_ok-below.below.pars; calls = c.in-Some.calls })
    (subst (λ l. ListAdds text (statements l) c.in_ok-below.below) c.as_slice-body.ensures (c.in_ok-below.ensures text all)) refl refl c.in-Some.ensures.1

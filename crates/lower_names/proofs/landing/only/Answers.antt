use Rattle.std.proofs.Common.{refl}
use Rattle.lower_names.proofs.LandingLemmas.{only_other}
use Rattle.lower_names.proofs.landing.only.Goals as goal

pub returns-else-body-eq1 : goal.returns-else-body-eq1
returns-else-body-eq1 c = only_other c.args.body.now _ refl c.if-body-eq1.false

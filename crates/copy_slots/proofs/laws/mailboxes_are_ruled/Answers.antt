use Rattle.copy_slots.proofs.RuleLemmas.{between}
use Rattle.copy_slots.proofs.laws.mailboxes_are_ruled.Goals as goal

pub returns : goal.returns
returns g c = λ work blanks s r. between g.W.Work.plain g.W.Work.asks g.W.Work.answers work blanks s r

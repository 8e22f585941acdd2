use Rattle.core_seats.proofs.LoadLemmas.{OwnBelow}
use Rattle.core_seats.proofs.load.own_mailboxes.Given as goal

abbrev pub invariant-loop-mailbox : goal.invariant-loop-mailbox
invariant-loop-mailbox l = OwnBelow l.places l.cores l.own.items l.mailbox

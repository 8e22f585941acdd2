use Rattle.thread_code.specs.Plain.{plain_code}
use Rattle.board_hosts.proofs.Branches.{EndsBelow}
use Rattle.board_hosts.proofs.board.ends_of.Given as goal

abbrev pub invariant-loop-mailbox : goal.invariant-loop-mailbox
invariant-loop-mailbox l = EndsBelow (plain_code l.code) l.placement.places l.mailbox l.ends.items

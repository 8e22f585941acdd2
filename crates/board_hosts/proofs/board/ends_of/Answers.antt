use Rattle.std.proofs.Common.{◌+◌, sym, subst}
use Rattle.thread_code.specs.Plain.{plain_code}
use Rattle.board_hosts.proofs.Branches.{EndsBelow, ends_more}
use Rattle.board_hosts.proofs.board.ends_of.Goals as goal

pub loop-mailbox-preserved : goal.loop-mailbox-preserved
loop-mailbox-preserved c =
    let code = plain_code c.args.code.now in
    let places = c.args.placement.now.places in
    subst (λ l. EndsBelow code places (c.loop-mailbox.mailbox + 1) l) (sym c.in_ok-push.ensures.items)
    (ends_more code places c.loop-mailbox.mailbox c.loop-mailbox.ends.items c.parent_core-parent.result c.core-child.result c.loop-mailbox.invariant c.parent_core-parent.ensures c.core-child.ensures.value)

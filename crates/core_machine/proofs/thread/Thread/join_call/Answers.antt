use Rattle.std.proofs.Common.{◌∙◌, sym}
use Rattle.core_machine.proofs.Direct.{packet_of}
use Rattle.core_machine.proofs.thread.Thread.join_call.Goals as goal

pub returns-clause-stands : goal.returns-clause-stands
returns-clause-stands c = λ xs rs r n e is stands.
    let p = packet_of c.args.branch.now r is in
    c.join.ensures.stands p.0 xs rs r (p.1 ∙ sym c.copies.ensures) n e p.2 stands

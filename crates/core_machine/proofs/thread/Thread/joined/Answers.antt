use Rattle.std.proofs.Common.{sym}
use Rattle.combine_tree.specs.Plain.{plain_packet}
use Rattle.core_machine.proofs.thread.Thread.joined.Goals as goal

pub returns-clause-stands : goal.returns-clause-stands
returns-clause-stands c = λ xs rs r n e is stands. c.join.ensures.stands (plain_packet c.args.packet.now) xs rs r (sym c.deref.ensures.value) n e is stands

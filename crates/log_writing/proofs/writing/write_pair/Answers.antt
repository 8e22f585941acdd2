use Rattle.std.proofs.Common.{arith}
use Rattle.exchange_log.proofs.TextLemmas.{log_length}
use Rattle.log_writing.proofs.writing.write_pair.Goals as goal

pub lines-length-requires-clause-there : goal.lines-length-requires-clause-there
lines-length-requires-clause-there g c =
    let mailbox = c.args.mailbox in
    omega (arith, c.requires.pair, log_length c.args.port.now.mail mailbox (c.requires.tells.replied mailbox c.requires.mailbox))

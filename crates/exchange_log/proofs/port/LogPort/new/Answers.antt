use Rattle.exchange_log.specs.Kept.{code_in_mail}
use Rattle.exchange_log.proofs.KeptLemmas.{kept_new}
use Rattle.exchange_log.proofs.port.LogPort.new.Goals as goal

pub invariant_of-result : goal.invariant_of-result
invariant_of-result g c =
    let e = c.in_ok-book.ensures in
    kept_new (code_in_mail (g.P.Port.state c.args.port)) (g.P.Port.state c.args.port).ends c.args.mailboxes c.in_ok-book.book c.requires e.needed e.jobs e.replies

use Rattle.std.proofs.Common.{◌-◌, ◌++◌, length, take, ap, ◌∙◌, arith}
use Rattle.dump_report.proofs.Sent.{front_put}
use Rattle.dump_report.proofs.room.put_tick.Goals as goal

pub returns-clause-front : goal.returns-clause-front
returns-clause-front c =
    let room = c.args.room.now in
    front_put c.args.end (length room - c.args.end) c.line-length.result room c.line-length.new.buffer (omega (arith, c.requires.room)) c.line-length.ensures.fits
    ∙ ap (λ w. take c.args.end room ++ w) c.line-length.ensures.line

use Rattle.std.proofs.Common.{◌≡◌, length, refl, arith}
use Rattle.exchange_replay.proofs.NewLemmas.{blank_room}
use Rattle.exchange_replay.proofs.track.Track.new.Goals as goal

pub returns-clause-before : goal.returns-clause-before
returns-clause-before c pairs has =
    let counted : c.len-copies.result ≡ length c.index-own.result.now.uses.items = omega (arith, c.len-copies.ensures, c.index-own.result.now.uses.ok.0) in
    record {
      fits = record {
        logged = blank_room c.args.shape.now c.args.thread c.index-own.result.now c.in_ok-new.field-0 c.index-own.result.now.params c.len-copies.result c.requires.shape c.index-own.ensures c.in_ok-new.ensures refl counted;
        written = blank_room c.args.shape.now c.args.thread c.index-own.result.now c.in_ok-new-2.field-0 c.index-own.result.now.params c.len-copies.result c.requires.shape c.index-own.ensures c.in_ok-new-2.ensures refl counted;
      };
      at = c.start.ensures _ pairs has;
    }

use Rattle.std.proofs.Common.{map, arith}
use Rattle.forec_engine.proofs.FarmPieces.{piece_more, piece_front, piece_at, within_map}
use Rattle.forec_engine.proofs.farm_lines.write_pieces.Goals as goal

pub loop-piece-preserved : goal.loop-piece-preserved
loop-piece-preserved g c =
    let held = g.K.Sink.held in
    let pieces = c.args.pieces.now in
    let i = c.loop-piece.piece-index in
    record {
      written = piece_more (held c.args.out.now) (held c.loop-piece.out) (held c.write_all.new.out) (map (λ p. p.now) pieces) i _ (within_map (λ p. p.now) pieces i c.loop-piece-test.true)
          (piece_at pieces i _ c.loop-piece-test.true) c.loop-piece.invariant.written c.in-Ok.ensures.ok;
      faults = omega (arith, c.loop-piece.invariant.faults, c.in-Ok.ensures.cause.later);
    }

pub returns-in-Err-clause-err : goal.returns-in-Err-clause-err
returns-in-Err-clause-err g c =
    let held = g.K.Sink.held in
    let pieces = c.args.pieces.now in
    let i = c.loop-piece.piece-index in
    piece_front (held c.args.out.now) (held c.loop-piece.out) (held c.write_all.new.out) (map (λ p. p.now) pieces) i _ (within_map (λ p. p.now) pieces i c.loop-piece-test.true)
    (piece_at pieces i _ c.loop-piece-test.true) c.loop-piece.invariant.written c.in-Err.ensures.err

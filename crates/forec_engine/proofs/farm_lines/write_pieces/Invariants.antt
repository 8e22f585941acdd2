use Rattle.std.proofs.Common.{◌≤◌, take, map}
use Rattle.std.specs.List.{concat}
use Rattle.std.specs.Io.KnownBytes.{Appends}
use Rattle.forec_engine.proofs.farm_lines.write_pieces.Given as goal

abbrev pub invariant-loop-piece : goal.invariant-loop-piece
invariant-loop-piece g l = record {
  written : Appends (g.K.Sink.held l.fn.out) (g.K.Sink.held l.out) (concat (take l.piece-index (map (λ p. p.now) l.pieces)));
  faults : g.K.Sink.faults l.fn.out ≤ g.K.Sink.faults l.out;
}

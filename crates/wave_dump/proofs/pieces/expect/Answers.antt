use Rattle.std.proofs.Common.{◌≡◌, ◌+◌, ◌<◌, ◌≤◌, ◌⊎◌, inl, inr, length, get_or, ◌∙◌, arith}
use Rattle.wave_dump.proofs.FromLemmas.{piece_more, piece_stops}
use Rattle.wave_dump.proofs.pieces.expect.Goals as goal
use Rattle.wave_dump.proofs.pieces.expect.Goals.{then-at-i-via-then-at-i, then-at-i-via-else-at-i+then-bytes-at}

pub returns-then-at-i-clause-goes : goal.returns-then-at-i-clause-goes
returns-then-at-i-clause-goes c =
    let bytes = c.args.bytes.now in
    let piece = c.args.piece.now in
    let at = c.args.at in
    let i = c.loop-i.i in
    let low : at + i ≤ length bytes = c.loop-i.invariant.within in
    let few : i < length piece = c.loop-i-test.true in
    let why : (length bytes ≤ at + i) ⊎ (get_or bytes (at + i) 0 ≡ get_or piece i 0 → ⊥) = elim c.then-at-i.branch [
      | then-at-i-via-then-at-i w ↦ inl (omega arith)
      | then-at-i-via-else-at-i+then-bytes-at w ↦ inr (λ e. omega arith)
    ] in
    λ s. c.loop-i.invariant.same s ∙ piece_stops bytes piece at i s low few why

pub loop-i-preserved : goal.loop-i-preserved
loop-i-preserved c =
    let bytes = c.args.bytes.now in
    let piece = c.args.piece.now in
    let at = c.args.at in
    let i = c.loop-i.i in
    let low : at + i < length bytes = omega arith in
    let few : i < length piece = c.loop-i-test.true in
    let same : get_or bytes (at + i) 0 ≡ get_or piece i 0 = omega arith in
    record {
      within = omega arith;
      same = λ s. c.loop-i.invariant.same s ∙ piece_more bytes piece at i s low few same;
    }

use Rattle.std.proofs.Common.{◌≡◌, ℕ, ◌+◌, ◌≤◌, List, length, get_or, take, subst, arith}
use Rattle.log_text.proofs.PieceLemmas.{room_for, byte_at, behind}
use Rattle.log_text.specs.Pieces.{StandsTo}
use Rattle.std.proofs.lemmas.List.{take_all}
use Rattle.log_text.proofs.pieces.expect.Goals as goal

pub returns-then-bytes-at-clause-only : goal.returns-then-bytes-at-clause-only
returns-then-bytes-at-clause-only c = λ rest e.
    let room : c.args.at + length c.args.piece.now ≤ length c.args.bytes.now = room_for c.args.bytes.now c.args.at c.args.piece.now rest (omega arith) e in
    omega arith

pub returns-then-bytes-at-2-clause-only : goal.returns-then-bytes-at-2-clause-only
returns-then-bytes-at-2-clause-only c = λ rest e.
    let same : get_or c.args.bytes.now (c.args.at + c.loop-i.i) 0 ≡ get_or c.args.piece.now c.loop-i.i 0 = byte_at c.args.bytes.now c.args.at c.loop-i.i c.args.piece.now rest e c.loop-i-test.true in
    omega arith

pub returns-clause-only : goal.returns-clause-only
returns-clause-only c = λ rest e.
    let bytes = c.args.bytes.now in
    let piece = c.args.piece.now in
    let at = c.args.at in
    let all : c.loop-i.i ≡ length piece = omega arith in
    let stands : StandsTo bytes at (take (length piece) piece) (at + length piece) = subst (λ (k : ℕ). StandsTo bytes at (take k piece) (at + k)) all c.loop-i.invariant in
    behind bytes at (at + length piece) piece rest (subst (λ (l : List ℕ). StandsTo bytes at l (at + length piece)) (take_all (length piece) piece (omega arith)) stands) e

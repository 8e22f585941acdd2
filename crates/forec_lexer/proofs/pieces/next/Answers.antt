use Rattle.std.proofs.Common.{ℕ, ◌<◌, ◌≤◌, List, length, take, Option, Some, None, IfSome, IfNone}
use Rattle.forec_tree.specs.Lexis.{NextPiece, NothingFits}
use Rattle.forec_lexer.specs.declared.pieces.Piece.{Piece}
use Rattle.forec_lexer.specs.Reading.{shown, IsText}
use Rattle.forec_lexer.proofs.FrontLemmas.{Reads, read_of, reads_as}
use Rattle.forec_lexer.proofs.pieces.next.Goals as goal

found : (text : List ℕ) (o : Option (Piece × ℕ)) → Reads text o → IfSome o (λ r. NextPiece text (shown r.0) r.1)
found text None h = tt
found text (Some r) h = h

some : (text : List ℕ) (o : Option (Piece × ℕ)) → Reads text o → IfSome o (λ r. 0 < r.1)
some text None h = tt
some text (Some r) h = (read_of text r.0 r.1 h).some

within : (text : List ℕ) (o : Option (Piece × ℕ)) → Reads text o → IfSome o (λ r. r.1 ≤ length text)
within text None h = tt
within text (Some r) h = (read_of text r.0 r.1 h).within

letters : (text : List ℕ) (o : Option (Piece × ℕ)) → Reads text o → IfSome o (λ r. IsText r.0 (take r.1 text))
letters text None h = tt
letters text (Some r) h = (read_of text r.0 r.1 h).letters

none : (text : List ℕ) (o : Option (Piece × ℕ)) → Reads text o → IfNone o (NothingFits text)
none text None h = h
none text (Some r) h = tt

pub returns-clause-found : goal.returns-clause-found
returns-clause-found c = found c.args.text.now c.front.result (reads_as c.args.text.now c.front.result c.front.ensures)

pub returns-clause-some : goal.returns-clause-some
returns-clause-some c = some c.args.text.now c.front.result (reads_as c.args.text.now c.front.result c.front.ensures)

pub returns-clause-within : goal.returns-clause-within
returns-clause-within c = within c.args.text.now c.front.result (reads_as c.args.text.now c.front.result c.front.ensures)

pub returns-clause-letters : goal.returns-clause-letters
returns-clause-letters c = letters c.args.text.now c.front.result (reads_as c.args.text.now c.front.result c.front.ensures)

pub returns-clause-none : goal.returns-clause-none
returns-clause-none c = none c.args.text.now c.front.result (reads_as c.args.text.now c.front.result c.front.ensures)

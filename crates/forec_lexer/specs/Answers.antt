-- The answers of the lexer.
use Rattle.std.specs.Prelude.{◌≡◌, ℕ, Option, Some, None, List, [], ◌∷◌, ◌++◌, length}
use Rattle.forec_base.specs.declared.Place.{Place}
use Rattle.forec_tree.specs.declared.token.Token.{Token}
use Rattle.forec_tree.specs.declared.token.TokenKind.{TokenKind}
use Rattle.forec_tree.specs.LexedText.{max_tokens, IsBad, IsMany}
use Rattle.forec_lexer.specs.declared.fault.LexFault.{LexFault}
use Rattle.forec_lexer.specs.declared.fault.LexFault.TheVariants.{Bad, Many, OutOfMemory}

-- Why a text is refused. Want of memory has no cause in the text.
abbrev pub HasLexCause : List ℕ → LexFault → Type 0
HasLexCause text (Bad place) = IsBad text place
HasLexCause text (Many place) = IsMany text place
HasLexCause text OutOfMemory = Unit {0}

-- the tokens with the one of a piece, if it gives one
abbrev pub kept : List Token → Option TokenKind → ℕ → ℕ → Place → List Token
kept tokens None start end place = tokens
kept tokens (Some kind) start end place = tokens ++ record { kind = kind; start = start; end = end; place = place } ∷ []

-- why no token is added
abbrev pub IsFull : List Token → Option TokenKind → Place → LexFault → Type 0
IsFull tokens kind place (Bad p) = ⊥
IsFull tokens None place (Many p) = ⊥
IsFull tokens (Some kind) place (Many p) = (p ≡ place) × (length tokens ≡ max_tokens)
IsFull tokens kind place OutOfMemory = Unit {0}

-- An expression of its own is read exactly as it is spelled.
use Rattle.std.proofs.Common.{◌≡◌, ℕ, suc, ◌≤◌, true, List, ◌++◌, Option, Ok, refl, arith}
use Rattle.forec_tree.specs.declared.token.Token.{Token}
use Rattle.forec_tree.specs.declared.token.TokenKind.{TokenKind}
use Rattle.forec_tree.specs.Terms.{Term}
use Rattle.forec_tree.specs.Spelling.{Spelt, tokens, IsWithin, Whole}
use Rattle.expr_parser.specs.Input.{Input, input, kind_ahead, max_level}
use Rattle.expr_parser.specs.Meaning.{ends}
use Rattle.expr_parser.specs.Reading.{read_expression}
use Rattle.expr_parser.specs.Spelled.{reads, IsSpelledBetween}
use Rattle.expr_parser.proofs.Exact.{Part, part, Any, comes_within, read_at}
use Rattle.expr_parser.proofs.ExpressionSound.{sound, value_by}
use Rattle.expr_parser.proofs.ExpressionComplete.{complete_whole}

parted : {v w : ℕ} {x : Term} {ls : List Spelt} {k : Option TokenKind} → Part Any Whole v x w ls k → Whole x v ls × (w ≡ v)
parted (part s c) = (s, refl)

pub read_is_spelled : (x : Term) (i j : Input) → i.level ≤ max_level → reads i ≡ Ok (x, j) → IsSpelledBetween x i j
read_is_spelled x i j small h =
    let m = (value_by max_level (read_expression max_level (suc max_level)) (sound max_level (suc max_level))).sound i j x small h in
    let s = parted m.spells in
    record { spelt = m.spelt; are = m.front; spells = s.0; within = m.within; level = s.1 }

pub spelled_is_read : (x : Term) (v : ℕ) (ls : List Spelt) (rest : List Token) → v ≤ max_level → IsWithin max_level ls → Whole x v ls → ends (kind_ahead rest) ≡ true
    → reads (input (tokens ls ++ rest) v) ≡ Ok (x, input rest v)
spelled_is_read x v ls rest small within s e = comes_within (read_at (complete_whole max_level s (suc max_level) (kind_ahead rest) small (omega arith) e) rest refl) within

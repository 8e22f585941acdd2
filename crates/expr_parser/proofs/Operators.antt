-- The tables of expressions, read backwards, and what ends an expression.
use Rattle.std.proofs.Common.{◌≡◌, ◌≤◌, ◌<◌, true, false, Option, Some, refl, arith}
use Rattle.forec_base.specs.declared.operators.Unary.{Unary}
use Rattle.forec_base.specs.declared.operators.Unary.TheVariants as un
use Rattle.forec_base.specs.declared.operators.Binary.{Binary}
use Rattle.forec_base.specs.declared.operators.Binary.TheVariants as bin
use Rattle.forec_tree.specs.declared.operators.Operator.{Operator}
use Rattle.forec_tree.specs.declared.operators.Operator.TheVariants as oper
use Rattle.forec_tree.specs.declared.token.TokenKind.{TokenKind}
use Rattle.forec_tree.specs.declared.token.TokenKind.TheVariants as kind
use Rattle.forec_tree.specs.declared.token.Mark.TheVariants as mark
use Rattle.forec_tree.specs.Spelling.{level_of, computing_level, mark_of, sign_of}
use Rattle.expr_parser.specs.declared.fixed.Fixed.TheVariants as fixed
use Rattle.expr_parser.specs.declared.meaning.Start.{Start}
use Rattle.expr_parser.specs.declared.meaning.Start.TheVariants as beg
use Rattle.expr_parser.specs.declared.meaning.Infix.{Infix}
use Rattle.expr_parser.specs.declared.meaning.Infix.TheVariants as inf
use Rattle.expr_parser.specs.declared.meaning.Behind.TheVariants as follow
use Rattle.expr_parser.specs.Meaning.{term_start, infix_of, after_of, binds, is_fixed}
use Rattle.expr_parser.proofs.Closers.{other-kind}
pub use Rattle.expr_parser.specs.Meaning.{ends}

-- ---- backwards

abbrev pub Begins : Option TokenKind → Start → Type 0
Begins k beg.Literal = Unit {0}
Begins k beg.Named = Unit {0}
Begins k (beg.Sign op) = k ≡ Some (kind.Mark (sign_of op))
Begins k beg.Round = Unit {0}
Begins k beg.Nothing = Unit {0}

pub begins : (k : Option TokenKind) → Begins k (term_start k)
begins (Some (kind.Mark mark.Minus)) = refl
begins (Some (kind.Mark mark.Tilde)) = refl
begins (Some (kind.Mark mark.Bang)) = refl
begins (Some (kind.Mark mark.LeftRound)) = tt
begins (Some (kind.Number value)) = tt
begins (Some (kind.Name id)) = tt
begins _ = tt

abbrev pub Joins : Option TokenKind → Infix → Type 0
Joins k (inf.Joins op) = k ≡ Some (kind.Mark (mark_of op))
Joins k inf.Question = k ≡ Some (kind.Mark mark.Question)
Joins k inf.Nothing = Unit {0}

pub joins : (k : Option TokenKind) → Joins k (infix_of k)
joins (Some (kind.Mark mark.OrOr)) = refl
joins (Some (kind.Mark mark.AndAnd)) = refl
joins (Some (kind.Mark mark.Bar)) = refl
joins (Some (kind.Mark mark.Caret)) = refl
joins (Some (kind.Mark mark.Ampersand)) = refl
joins (Some (kind.Mark mark.Equal)) = refl
joins (Some (kind.Mark mark.NotEqual)) = refl
joins (Some (kind.Mark mark.Less)) = refl
joins (Some (kind.Mark mark.LessEqual)) = refl
joins (Some (kind.Mark mark.Greater)) = refl
joins (Some (kind.Mark mark.GreaterEqual)) = refl
joins (Some (kind.Mark mark.Shl)) = refl
joins (Some (kind.Mark mark.Shr)) = refl
joins (Some (kind.Mark mark.Plus)) = refl
joins (Some (kind.Mark mark.Minus)) = refl
joins (Some (kind.Mark mark.Star)) = refl
joins (Some (kind.Mark mark.Slash)) = refl
joins (Some (kind.Mark mark.Percent)) = refl
joins (Some (kind.Mark mark.Question)) = refl
joins _ = tt

-- ---- forwards

pub sign_start : (op : Unary) → term_start (Some (kind.Mark (sign_of op))) ≡ beg.Sign op
sign_start un.Minus = refl
sign_start un.Invert = refl
sign_start un.Not = refl

pub mark_infix : (op : Operator) → infix_of (Some (kind.Mark (mark_of op))) ≡ inf.Joins op
mark_infix oper.Or = refl
mark_infix oper.And = refl
mark_infix (oper.Computes bin.BitOr) = refl
mark_infix (oper.Computes bin.BitXor) = refl
mark_infix (oper.Computes bin.BitAnd) = refl
mark_infix (oper.Computes bin.Eq) = refl
mark_infix (oper.Computes bin.Ne) = refl
mark_infix (oper.Computes bin.Lt) = refl
mark_infix (oper.Computes bin.Le) = refl
mark_infix (oper.Computes bin.Gt) = refl
mark_infix (oper.Computes bin.Ge) = refl
mark_infix (oper.Computes bin.Shl) = refl
mark_infix (oper.Computes bin.Shr) = refl
mark_infix (oper.Computes bin.Add) = refl
mark_infix (oper.Computes bin.Sub) = refl
mark_infix (oper.Computes bin.Mul) = refl
mark_infix (oper.Computes bin.Div) = refl
mark_infix (oper.Computes bin.Rem) = refl

pub mark_behind : (op : Operator) → after_of (Some (kind.Mark (mark_of op))) ≡ follow.Nothing
mark_behind oper.Or = refl
mark_behind oper.And = refl
mark_behind (oper.Computes bin.BitOr) = refl
mark_behind (oper.Computes bin.BitXor) = refl
mark_behind (oper.Computes bin.BitAnd) = refl
mark_behind (oper.Computes bin.Eq) = refl
mark_behind (oper.Computes bin.Ne) = refl
mark_behind (oper.Computes bin.Lt) = refl
mark_behind (oper.Computes bin.Le) = refl
mark_behind (oper.Computes bin.Gt) = refl
mark_behind (oper.Computes bin.Ge) = refl
mark_behind (oper.Computes bin.Shl) = refl
mark_behind (oper.Computes bin.Shr) = refl
mark_behind (oper.Computes bin.Add) = refl
mark_behind (oper.Computes bin.Sub) = refl
mark_behind (oper.Computes bin.Mul) = refl
mark_behind (oper.Computes bin.Div) = refl
mark_behind (oper.Computes bin.Rem) = refl

computing_bounds : (op : Binary) → (4 ≤ computing_level op) × (computing_level op ≤ 11)
computing_bounds bin.BitOr = (omega arith, omega arith)
computing_bounds bin.BitXor = (omega arith, omega arith)
computing_bounds bin.BitAnd = (omega arith, omega arith)
computing_bounds bin.Eq = (omega arith, omega arith)
computing_bounds bin.Ne = (omega arith, omega arith)
computing_bounds bin.Lt = (omega arith, omega arith)
computing_bounds bin.Le = (omega arith, omega arith)
computing_bounds bin.Gt = (omega arith, omega arith)
computing_bounds bin.Ge = (omega arith, omega arith)
computing_bounds bin.Shl = (omega arith, omega arith)
computing_bounds bin.Shr = (omega arith, omega arith)
computing_bounds bin.Add = (omega arith, omega arith)
computing_bounds bin.Sub = (omega arith, omega arith)
computing_bounds bin.Mul = (omega arith, omega arith)
computing_bounds bin.Div = (omega arith, omega arith)
computing_bounds bin.Rem = (omega arith, omega arith)

pub level_bounds : (op : Operator) → (2 ≤ level_of op) × (level_of op ≤ 11)
level_bounds oper.Or = (omega arith, omega arith)
level_bounds oper.And = (omega arith, omega arith)
level_bounds (oper.Computes op) = let b = computing_bounds op in (omega (arith, b.0), b.1)

pub binds_small : (x : Infix) → binds x < 12
binds_small (inf.Joins op) = omega (arith, (level_bounds op).1)
binds_small inf.Question = omega arith
binds_small inf.Nothing = omega arith

-- ---- ends

pub ends_ahead : (k : Option TokenKind) → ends k ≡ true → binds (infix_of k) ≡ 0
ends_ahead (Some (kind.Mark mark.RightRound)) h = refl
ends_ahead (Some (kind.Mark mark.RightSquare)) h = refl
ends_ahead (Some (kind.Mark mark.RightCurly)) h = refl
ends_ahead (Some (kind.Mark mark.Comma)) h = refl
ends_ahead (Some (kind.Mark mark.Semicolon)) h = refl
ends_ahead (Some (kind.Mark mark.Colon)) h = refl
ends_ahead _ h = absurd (cc)

pub ends_behind : (k : Option TokenKind) → ends k ≡ true → after_of k ≡ follow.Nothing
ends_behind (Some (kind.Mark mark.RightRound)) h = refl
ends_behind (Some (kind.Mark mark.RightSquare)) h = refl
ends_behind (Some (kind.Mark mark.RightCurly)) h = refl
ends_behind (Some (kind.Mark mark.Comma)) h = refl
ends_behind (Some (kind.Mark mark.Semicolon)) h = refl
ends_behind (Some (kind.Mark mark.Colon)) h = refl
ends_behind _ h = absurd (cc)

pub ends_square : (k : Option TokenKind) → ends k ≡ true → is_fixed fixed.LeftSquare k ≡ false
ends_square = other-kind ends fixed.LeftSquare refl

pub ends_round : (k : Option TokenKind) → ends k ≡ true → is_fixed fixed.LeftRound k ≡ false
ends_round = other-kind ends fixed.LeftRound refl

pub ends_assign : (k : Option TokenKind) → ends k ≡ true → is_fixed fixed.Assign k ≡ false
ends_assign = other-kind ends fixed.Assign refl

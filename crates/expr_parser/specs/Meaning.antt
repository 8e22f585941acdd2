-- What a token means where it stands; each table is written once.
use Rattle.std.specs.Prelude.{ℕ, ℤ, Bool, true, false, nat_eq, Option, Some, None}
use Rattle.forec_base.specs.declared.operators.Unary.TheVariants as un
use Rattle.forec_base.specs.declared.operators.Binary.TheVariants as bin
use Rattle.forec_tree.specs.declared.operators.Operator.TheVariants as oper
use Rattle.forec_tree.specs.declared.token.TokenKind.{TokenKind}
use Rattle.forec_tree.specs.declared.token.TokenKind.TheVariants as kind
use Rattle.forec_tree.specs.declared.token.Mark.TheVariants as mark
use Rattle.forec_tree.specs.declared.token.Word.TheVariants as word
use Rattle.forec_tree.specs.Spelling as spelling
use Rattle.expr_parser.specs.declared.fixed.Fixed.{Fixed}
use Rattle.expr_parser.specs.declared.fixed.Fixed.TheVariants as fixed
use Rattle.expr_parser.specs.declared.meaning.Start.{Start}
use Rattle.expr_parser.specs.declared.meaning.Start.TheVariants as beg
use Rattle.expr_parser.specs.declared.meaning.Infix.{Infix}
use Rattle.expr_parser.specs.declared.meaning.Infix.TheVariants as inf
use Rattle.expr_parser.specs.declared.meaning.Behind.{Behind}
use Rattle.expr_parser.specs.declared.meaning.Behind.TheVariants as follow

-- ---- tokens that a rule asks for by themselves

abbrev pub fixed_number : Fixed → ℕ
fixed_number fixed.LeftRound = 0
fixed_number fixed.RightRound = 1
fixed_number fixed.LeftSquare = 2
fixed_number fixed.RightSquare = 3
fixed_number fixed.LeftCurly = 4
fixed_number fixed.RightCurly = 5
fixed_number fixed.Comma = 6
fixed_number fixed.Semicolon = 7
fixed_number fixed.Colon = 8
fixed_number fixed.Assign = 9
fixed_number fixed.Hash = 10
fixed_number fixed.Minus = 11
fixed_number fixed.Int = 12
fixed_number fixed.Void = 13
fixed_number fixed.Const = 14
fixed_number fixed.Input = 15
fixed_number fixed.Output = 16
fixed_number fixed.Shared = 17
fixed_number fixed.Combine = 18
fixed_number fixed.With = 19
fixed_number fixed.If = 20
fixed_number fixed.Else = 21
fixed_number fixed.While = 22
fixed_number fixed.For = 23
fixed_number fixed.Pause = 24
fixed_number fixed.Par = 25
fixed_number fixed.Weak = 26
fixed_number fixed.Abort = 27
fixed_number fixed.When = 28
fixed_number fixed.Immediate = 29
fixed_number fixed.Return = 30

abbrev pub fixed_of : Option TokenKind → Option Fixed
fixed_of (Some (kind.Mark mark.LeftRound)) = Some fixed.LeftRound
fixed_of (Some (kind.Mark mark.RightRound)) = Some fixed.RightRound
fixed_of (Some (kind.Mark mark.LeftSquare)) = Some fixed.LeftSquare
fixed_of (Some (kind.Mark mark.RightSquare)) = Some fixed.RightSquare
fixed_of (Some (kind.Mark mark.LeftCurly)) = Some fixed.LeftCurly
fixed_of (Some (kind.Mark mark.RightCurly)) = Some fixed.RightCurly
fixed_of (Some (kind.Mark mark.Comma)) = Some fixed.Comma
fixed_of (Some (kind.Mark mark.Semicolon)) = Some fixed.Semicolon
fixed_of (Some (kind.Mark mark.Colon)) = Some fixed.Colon
fixed_of (Some (kind.Mark mark.Assign)) = Some fixed.Assign
fixed_of (Some (kind.Mark mark.Hash)) = Some fixed.Hash
fixed_of (Some (kind.Mark mark.Minus)) = Some fixed.Minus
fixed_of (Some (kind.Word word.Int)) = Some fixed.Int
fixed_of (Some (kind.Word word.Void)) = Some fixed.Void
fixed_of (Some (kind.Word word.Const)) = Some fixed.Const
fixed_of (Some (kind.Word word.Input)) = Some fixed.Input
fixed_of (Some (kind.Word word.Output)) = Some fixed.Output
fixed_of (Some (kind.Word word.Shared)) = Some fixed.Shared
fixed_of (Some (kind.Word word.Combine)) = Some fixed.Combine
fixed_of (Some (kind.Word word.With)) = Some fixed.With
fixed_of (Some (kind.Word word.If)) = Some fixed.If
fixed_of (Some (kind.Word word.Else)) = Some fixed.Else
fixed_of (Some (kind.Word word.While)) = Some fixed.While
fixed_of (Some (kind.Word word.For)) = Some fixed.For
fixed_of (Some (kind.Word word.Pause)) = Some fixed.Pause
fixed_of (Some (kind.Word word.Par)) = Some fixed.Par
fixed_of (Some (kind.Word word.Weak)) = Some fixed.Weak
fixed_of (Some (kind.Word word.Abort)) = Some fixed.Abort
fixed_of (Some (kind.Word word.When)) = Some fixed.When
fixed_of (Some (kind.Word word.Immediate)) = Some fixed.Immediate
fixed_of (Some (kind.Word word.Return)) = Some fixed.Return
fixed_of _ = None

abbrev pub same_fixed : Fixed → Option Fixed → Bool
same_fixed f None = false
same_fixed f (Some g) = nat_eq (fixed_number f) (fixed_number g)

-- whether the token is this one
abbrev pub is_fixed : Fixed → Option TokenKind → Bool
is_fixed f k = same_fixed f (fixed_of k)

-- ---- expressions

abbrev pub token_name : Option TokenKind → Option ℕ
token_name (Some (kind.Name id)) = Some id
token_name _ = None

abbrev pub token_number : Option TokenKind → Option ℤ
token_number (Some (kind.Number value)) = Some value
token_number _ = None

abbrev pub term_start : Option TokenKind → Start
term_start (Some (kind.Number value)) = beg.Literal
term_start (Some (kind.Name id)) = beg.Named
term_start (Some (kind.Mark mark.Minus)) = beg.Sign un.Minus
term_start (Some (kind.Mark mark.Tilde)) = beg.Sign un.Invert
term_start (Some (kind.Mark mark.Bang)) = beg.Sign un.Not
term_start (Some (kind.Mark mark.LeftRound)) = beg.Round
term_start _ = beg.Nothing

abbrev pub infix_of : Option TokenKind → Infix
infix_of (Some (kind.Mark mark.OrOr)) = inf.Joins oper.Or
infix_of (Some (kind.Mark mark.AndAnd)) = inf.Joins oper.And
infix_of (Some (kind.Mark mark.Bar)) = inf.Joins (oper.Computes bin.BitOr)
infix_of (Some (kind.Mark mark.Caret)) = inf.Joins (oper.Computes bin.BitXor)
infix_of (Some (kind.Mark mark.Ampersand)) = inf.Joins (oper.Computes bin.BitAnd)
infix_of (Some (kind.Mark mark.Equal)) = inf.Joins (oper.Computes bin.Eq)
infix_of (Some (kind.Mark mark.NotEqual)) = inf.Joins (oper.Computes bin.Ne)
infix_of (Some (kind.Mark mark.Less)) = inf.Joins (oper.Computes bin.Lt)
infix_of (Some (kind.Mark mark.LessEqual)) = inf.Joins (oper.Computes bin.Le)
infix_of (Some (kind.Mark mark.Greater)) = inf.Joins (oper.Computes bin.Gt)
infix_of (Some (kind.Mark mark.GreaterEqual)) = inf.Joins (oper.Computes bin.Ge)
infix_of (Some (kind.Mark mark.Shl)) = inf.Joins (oper.Computes bin.Shl)
infix_of (Some (kind.Mark mark.Shr)) = inf.Joins (oper.Computes bin.Shr)
infix_of (Some (kind.Mark mark.Plus)) = inf.Joins (oper.Computes bin.Add)
infix_of (Some (kind.Mark mark.Minus)) = inf.Joins (oper.Computes bin.Sub)
infix_of (Some (kind.Mark mark.Star)) = inf.Joins (oper.Computes bin.Mul)
infix_of (Some (kind.Mark mark.Slash)) = inf.Joins (oper.Computes bin.Div)
infix_of (Some (kind.Mark mark.Percent)) = inf.Joins (oper.Computes bin.Rem)
infix_of (Some (kind.Mark mark.Question)) = inf.Question
infix_of _ = inf.Nothing

abbrev pub after_of : Option TokenKind → Behind
after_of (Some (kind.Mark mark.LeftSquare)) = follow.Index
after_of (Some (kind.Mark mark.LeftRound)) = follow.Arguments
after_of _ = follow.Nothing

abbrev pub binds : Infix → ℕ
binds (inf.Joins op) = spelling.level_of op
binds inf.Question = 1
binds inf.Nothing = 0

-- what ends an expression
abbrev pub ends : Option TokenKind → Bool
ends (Some (kind.Mark mark.RightRound)) = true
ends (Some (kind.Mark mark.RightSquare)) = true
ends (Some (kind.Mark mark.RightCurly)) = true
ends (Some (kind.Mark mark.Comma)) = true
ends (Some (kind.Mark mark.Semicolon)) = true
ends (Some (kind.Mark mark.Colon)) = true
ends _ = false

-- The tokens that a rule asks for by themselves: the table, read backwards.
use Rattle.std.proofs.Common.{◌≡◌, ℕ, Bool, true, false, nat_eq, Option, Some, None, refl, sym, ◌∙◌, ap, arith, if◌then◌else◌}
use Rattle.forec_tree.specs.declared.token.TokenKind.{TokenKind}
use Rattle.forec_tree.specs.declared.token.TokenKind.TheVariants as kind
use Rattle.forec_tree.specs.declared.token.Mark.TheVariants as mark
use Rattle.forec_tree.specs.declared.token.Word.TheVariants as word
use Rattle.expr_parser.specs.declared.fixed.Fixed.{Fixed}
use Rattle.expr_parser.specs.declared.fixed.Fixed.TheVariants as fixed
use Rattle.expr_parser.specs.Meaning.{fixed_number, fixed_of, same_fixed, is_fixed}

abbrev pub kind_of : Fixed → TokenKind
kind_of fixed.LeftRound = kind.Mark mark.LeftRound
kind_of fixed.RightRound = kind.Mark mark.RightRound
kind_of fixed.LeftSquare = kind.Mark mark.LeftSquare
kind_of fixed.RightSquare = kind.Mark mark.RightSquare
kind_of fixed.LeftCurly = kind.Mark mark.LeftCurly
kind_of fixed.RightCurly = kind.Mark mark.RightCurly
kind_of fixed.Comma = kind.Mark mark.Comma
kind_of fixed.Semicolon = kind.Mark mark.Semicolon
kind_of fixed.Colon = kind.Mark mark.Colon
kind_of fixed.Assign = kind.Mark mark.Assign
kind_of fixed.Hash = kind.Mark mark.Hash
kind_of fixed.Minus = kind.Mark mark.Minus
kind_of fixed.Int = kind.Word word.Int
kind_of fixed.Void = kind.Word word.Void
kind_of fixed.Const = kind.Word word.Const
kind_of fixed.Input = kind.Word word.Input
kind_of fixed.Output = kind.Word word.Output
kind_of fixed.Shared = kind.Word word.Shared
kind_of fixed.Combine = kind.Word word.Combine
kind_of fixed.With = kind.Word word.With
kind_of fixed.If = kind.Word word.If
kind_of fixed.Else = kind.Word word.Else
kind_of fixed.While = kind.Word word.While
kind_of fixed.For = kind.Word word.For
kind_of fixed.Pause = kind.Word word.Pause
kind_of fixed.Par = kind.Word word.Par
kind_of fixed.Weak = kind.Word word.Weak
kind_of fixed.Abort = kind.Word word.Abort
kind_of fixed.When = kind.Word word.When
kind_of fixed.Immediate = kind.Word word.Immediate
kind_of fixed.Return = kind.Word word.Return

abbrev numbered : ℕ → Fixed
numbered n =
    if nat_eq n 0 then fixed.LeftRound else (
    if nat_eq n 1 then fixed.RightRound else (
    if nat_eq n 2 then fixed.LeftSquare else (
    if nat_eq n 3 then fixed.RightSquare else (
    if nat_eq n 4 then fixed.LeftCurly else (
    if nat_eq n 5 then fixed.RightCurly else (
    if nat_eq n 6 then fixed.Comma else (
    if nat_eq n 7 then fixed.Semicolon else (
    if nat_eq n 8 then fixed.Colon else (
    if nat_eq n 9 then fixed.Assign else (
    if nat_eq n 10 then fixed.Hash else (
    if nat_eq n 11 then fixed.Minus else (
    if nat_eq n 12 then fixed.Int else (
    if nat_eq n 13 then fixed.Void else (
    if nat_eq n 14 then fixed.Const else (
    if nat_eq n 15 then fixed.Input else (
    if nat_eq n 16 then fixed.Output else (
    if nat_eq n 17 then fixed.Shared else (
    if nat_eq n 18 then fixed.Combine else (
    if nat_eq n 19 then fixed.With else (
    if nat_eq n 20 then fixed.If else (
    if nat_eq n 21 then fixed.Else else (
    if nat_eq n 22 then fixed.While else (
    if nat_eq n 23 then fixed.For else (
    if nat_eq n 24 then fixed.Pause else (
    if nat_eq n 25 then fixed.Par else (
    if nat_eq n 26 then fixed.Weak else (
    if nat_eq n 27 then fixed.Abort else (
    if nat_eq n 28 then fixed.When else (
    if nat_eq n 29 then fixed.Immediate else (
    fixed.Return))))))))))))))))))))))))))))))

numbered-of : (f : Fixed) → numbered (fixed_number f) ≡ f
numbered-of fixed.LeftRound = refl
numbered-of fixed.RightRound = refl
numbered-of fixed.LeftSquare = refl
numbered-of fixed.RightSquare = refl
numbered-of fixed.LeftCurly = refl
numbered-of fixed.RightCurly = refl
numbered-of fixed.Comma = refl
numbered-of fixed.Semicolon = refl
numbered-of fixed.Colon = refl
numbered-of fixed.Assign = refl
numbered-of fixed.Hash = refl
numbered-of fixed.Minus = refl
numbered-of fixed.Int = refl
numbered-of fixed.Void = refl
numbered-of fixed.Const = refl
numbered-of fixed.Input = refl
numbered-of fixed.Output = refl
numbered-of fixed.Shared = refl
numbered-of fixed.Combine = refl
numbered-of fixed.With = refl
numbered-of fixed.If = refl
numbered-of fixed.Else = refl
numbered-of fixed.While = refl
numbered-of fixed.For = refl
numbered-of fixed.Pause = refl
numbered-of fixed.Par = refl
numbered-of fixed.Weak = refl
numbered-of fixed.Abort = refl
numbered-of fixed.When = refl
numbered-of fixed.Immediate = refl
numbered-of fixed.Return = refl

same_number : (f g : Fixed) → nat_eq (fixed_number f) (fixed_number g) ≡ true → f ≡ g
same_number f g h = let e : fixed_number f ≡ fixed_number g = grind arith in sym (numbered-of f) ∙ ap numbered e ∙ numbered-of g

abbrev Shows : Option TokenKind → Option Fixed → Type 0
Shows k None = Unit {0}
Shows k (Some f) = k ≡ Some (kind_of f)

shows : (k : Option TokenKind) → Shows k (fixed_of k)
shows (Some (kind.Mark mark.LeftRound)) = refl
shows (Some (kind.Mark mark.RightRound)) = refl
shows (Some (kind.Mark mark.LeftSquare)) = refl
shows (Some (kind.Mark mark.RightSquare)) = refl
shows (Some (kind.Mark mark.LeftCurly)) = refl
shows (Some (kind.Mark mark.RightCurly)) = refl
shows (Some (kind.Mark mark.Comma)) = refl
shows (Some (kind.Mark mark.Semicolon)) = refl
shows (Some (kind.Mark mark.Colon)) = refl
shows (Some (kind.Mark mark.Assign)) = refl
shows (Some (kind.Mark mark.Hash)) = refl
shows (Some (kind.Mark mark.Minus)) = refl
shows (Some (kind.Word word.Int)) = refl
shows (Some (kind.Word word.Void)) = refl
shows (Some (kind.Word word.Const)) = refl
shows (Some (kind.Word word.Input)) = refl
shows (Some (kind.Word word.Output)) = refl
shows (Some (kind.Word word.Shared)) = refl
shows (Some (kind.Word word.Combine)) = refl
shows (Some (kind.Word word.With)) = refl
shows (Some (kind.Word word.If)) = refl
shows (Some (kind.Word word.Else)) = refl
shows (Some (kind.Word word.While)) = refl
shows (Some (kind.Word word.For)) = refl
shows (Some (kind.Word word.Pause)) = refl
shows (Some (kind.Word word.Par)) = refl
shows (Some (kind.Word word.Weak)) = refl
shows (Some (kind.Word word.Abort)) = refl
shows (Some (kind.Word word.When)) = refl
shows (Some (kind.Word word.Immediate)) = refl
shows (Some (kind.Word word.Return)) = refl
shows _ = tt

-- a token that is this one has its kind
pub fixed-kind : (f : Fixed) (k : Option TokenKind) → is_fixed f k ≡ true → k ≡ Some (kind_of f)
fixed-kind f k h = of (fixed_of k) (shows k) h
  where
    of : (g : Option Fixed) → Shows k g → same_fixed f g ≡ true → k ≡ Some (kind_of f)
    of None s h = absurd (cc)
    of (Some g) s h = let e : f ≡ g = same_number f g h in s ∙ ap (λ (z : Fixed). Some (kind_of z)) (sym e)

-- a token of which something holds that doesn't of this one is another
pub other-kind : (holds : Option TokenKind → Bool) (f : Fixed) → holds (Some (kind_of f)) ≡ false → (k : Option TokenKind) → holds k ≡ true → is_fixed f k ≡ false
other-kind holds f fails k h = of (is_fixed f k) (fixed-kind f k)
  where
    of : (b : Bool) → (b ≡ true → k ≡ Some (kind_of f)) → b ≡ false
    of true same = absurd (let e : true ≡ false = sym h ∙ (ap holds (same refl) ∙ fails) in cc)
    of false same = refl

-- and the other way round
pub kind-fixed : (f : Fixed) → is_fixed f (Some (kind_of f)) ≡ true
kind-fixed fixed.LeftRound = refl
kind-fixed fixed.RightRound = refl
kind-fixed fixed.LeftSquare = refl
kind-fixed fixed.RightSquare = refl
kind-fixed fixed.LeftCurly = refl
kind-fixed fixed.RightCurly = refl
kind-fixed fixed.Comma = refl
kind-fixed fixed.Semicolon = refl
kind-fixed fixed.Colon = refl
kind-fixed fixed.Assign = refl
kind-fixed fixed.Hash = refl
kind-fixed fixed.Minus = refl
kind-fixed fixed.Int = refl
kind-fixed fixed.Void = refl
kind-fixed fixed.Const = refl
kind-fixed fixed.Input = refl
kind-fixed fixed.Output = refl
kind-fixed fixed.Shared = refl
kind-fixed fixed.Combine = refl
kind-fixed fixed.With = refl
kind-fixed fixed.If = refl
kind-fixed fixed.Else = refl
kind-fixed fixed.While = refl
kind-fixed fixed.For = refl
kind-fixed fixed.Pause = refl
kind-fixed fixed.Par = refl
kind-fixed fixed.Weak = refl
kind-fixed fixed.Abort = refl
kind-fixed fixed.When = refl
kind-fixed fixed.Immediate = refl
kind-fixed fixed.Return = refl

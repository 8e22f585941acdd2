-- The tables of statements, read in the other direction.
use Rattle.std.proofs.Common.{◌≡◌, Bool, true, false, not, Option, Some, None, refl, ap}
use Rattle.forec_base.specs.declared.operators.Binary.{Binary}
use Rattle.forec_tree.specs.declared.token.Token.{Token}
use Rattle.forec_tree.specs.declared.token.TokenKind.{TokenKind}
use Rattle.forec_tree.specs.declared.token.TokenKind.TheVariants as kind
use Rattle.forec_tree.specs.declared.token.Mark.TheVariants as mark
use Rattle.forec_tree.specs.declared.token.Word.TheVariants as word
use Rattle.forec_tree.specs.Parts.{updates_by, steps_by}
use Rattle.forec_tree.specs.Rules.{is_none}
use Rattle.forec_tree.specs.Spelling.{IsMark}
use Rattle.expr_parser.specs.declared.fixed.Fixed.TheVariants as fixed
use Rattle.statement_parser.specs.declared.meaning.Change.TheVariants as change
use Rattle.statement_parser.specs.declared.meaning.Act.TheVariants as act
use Rattle.statement_parser.specs.declared.meaning.Sort.TheVariants as sort
use Rattle.expr_parser.specs.Meaning.{is_fixed}
use Rattle.expr_parser.proofs.Closers.{other-kind}
use Rattle.expr_parser.proofs.Operators.{ends}
use Rattle.statement_parser.specs.Meaning.{change_of, act_of, sort_of, ends_body, update_of, token_step}

pub update_changes : (k : TokenKind) (op : Binary) → updates_by k ≡ Some op → change_of (Some k) ≡ change.Updates
update_changes (kind.Mark mark.ShlAssign) op h = refl
update_changes (kind.Mark mark.ShrAssign) op h = refl
update_changes (kind.Mark mark.AddAssign) op h = refl
update_changes (kind.Mark mark.SubAssign) op h = refl
update_changes (kind.Mark mark.MulAssign) op h = refl
update_changes (kind.Mark mark.DivAssign) op h = refl
update_changes (kind.Mark mark.RemAssign) op h = refl
update_changes (kind.Mark mark.AndAssign) op h = refl
update_changes (kind.Mark mark.OrAssign) op h = refl
update_changes (kind.Mark mark.XorAssign) op h = refl
update_changes _ op h = absurd (cc)

pub step_changes : (k : TokenKind) (op : Binary) → steps_by k ≡ Some op → change_of (Some k) ≡ change.Increments
step_changes (kind.Mark mark.PlusPlus) op h = refl
step_changes (kind.Mark mark.MinusMinus) op h = refl
step_changes _ op h = absurd (cc)

pub step_acts : (k : TokenKind) (op : Binary) → steps_by k ≡ Some op → act_of (Some k) ≡ act.Increments
step_acts (kind.Mark mark.PlusPlus) op h = refl
step_acts (kind.Mark mark.MinusMinus) op h = refl
step_acts _ op h = absurd (cc)

-- what stands after a target, if it has no index
pub update_square : (k : TokenKind) (op : Binary) → updates_by k ≡ Some op → is_fixed fixed.LeftSquare (Some k) ≡ false
update_square k op h = other-kind (λ o. not (is_none (update_of o))) fixed.LeftSquare refl (Some k) (ap (λ o. not (is_none o)) h)

pub update_round : (k : TokenKind) (op : Binary) → updates_by k ≡ Some op → is_fixed fixed.LeftRound (Some k) ≡ false
update_round k op h = other-kind (λ o. not (is_none (update_of o))) fixed.LeftRound refl (Some k) (ap (λ o. not (is_none o)) h)

pub step_square : (k : TokenKind) (op : Binary) → steps_by k ≡ Some op → is_fixed fixed.LeftSquare (Some k) ≡ false
step_square k op h = other-kind (λ o. not (is_none (token_step o))) fixed.LeftSquare refl (Some k) (ap (λ o. not (is_none o)) h)

pub step_round : (k : TokenKind) (op : Binary) → steps_by k ≡ Some op → is_fixed fixed.LeftRound (Some k) ≡ false
step_round k op h = other-kind (λ o. not (is_none (token_step o))) fixed.LeftRound refl (Some k) (ap (λ o. not (is_none o)) h)

-- ---- what a simple statement begins with

abbrev pub acts_first : Option TokenKind → Bool
acts_first (Some (kind.Name id)) = true
acts_first (Some (kind.Mark mark.PlusPlus)) = true
acts_first (Some (kind.Mark mark.MinusMinus)) = true
acts_first _ = false

pub step_first : (k : TokenKind) (op : Binary) → steps_by k ≡ Some op → acts_first (Some k) ≡ true
step_first (kind.Mark mark.PlusPlus) op h = refl
step_first (kind.Mark mark.MinusMinus) op h = refl
step_first _ op h = absurd (cc)

pub acts_simple : (k : Option TokenKind) → acts_first k ≡ true → sort_of k ≡ sort.Simple
acts_simple (Some (kind.Name id)) h = refl
acts_simple (Some (kind.Mark mark.PlusPlus)) h = refl
acts_simple (Some (kind.Mark mark.MinusMinus)) h = refl
acts_simple _ h = absurd (cc)

pub acts_semicolon : (k : Option TokenKind) → acts_first k ≡ true → is_fixed fixed.Semicolon k ≡ false
acts_semicolon = other-kind acts_first fixed.Semicolon refl

pub acts_round : (k : Option TokenKind) → acts_first k ≡ true → is_fixed fixed.RightRound k ≡ false
acts_round = other-kind acts_first fixed.RightRound refl

pub acts_int : (k : Option TokenKind) → acts_first k ≡ true → is_fixed fixed.Int k ≡ false
acts_int = other-kind acts_first fixed.Int refl

-- ---- what a statement begins with

abbrev pub says_first : Option TokenKind → Bool
says_first (Some (kind.Mark mark.Semicolon)) = true
says_first (Some (kind.Mark mark.LeftCurly)) = true
says_first (Some (kind.Word word.Int)) = true
says_first (Some (kind.Word word.If)) = true
says_first (Some (kind.Word word.While)) = true
says_first (Some (kind.Word word.For)) = true
says_first (Some (kind.Word word.Pause)) = true
says_first (Some (kind.Word word.Par)) = true
says_first (Some (kind.Word word.Weak)) = true
says_first (Some (kind.Word word.Abort)) = true
says_first (Some (kind.Word word.Return)) = true
says_first (Some (kind.Name id)) = true
says_first (Some (kind.Mark mark.PlusPlus)) = true
says_first (Some (kind.Mark mark.MinusMinus)) = true
says_first _ = false

pub acts_says : (k : Option TokenKind) → acts_first k ≡ true → says_first k ≡ true
acts_says (Some (kind.Name id)) h = refl
acts_says (Some (kind.Mark mark.PlusPlus)) h = refl
acts_says (Some (kind.Mark mark.MinusMinus)) h = refl
acts_says _ h = absurd (cc)

pub says_else : (k : Option TokenKind) → says_first k ≡ true → is_fixed fixed.Else k ≡ false
says_else = other-kind says_first fixed.Else refl

pub says_hash : (k : Option TokenKind) → says_first k ≡ true → is_fixed fixed.Hash k ≡ false
says_hash = other-kind says_first fixed.Hash refl

pub says_ends : (k : Option TokenKind) → says_first k ≡ true → ends_body k ≡ false
says_ends None h = absurd (let e : false ≡ true = h in cc)
says_ends (Some k) h = other-kind says_first fixed.RightCurly refl (Some k) h

-- ---- what ends a list

pub curly_ends : (t : Token) → IsMark mark.RightCurly t → ends (Some t.kind) ≡ true
curly_ends t h = rw h

pub curly_comma : (t : Token) → IsMark mark.RightCurly t → is_fixed fixed.Comma (Some t.kind) ≡ false
curly_comma t h = rw h

pub semicolon_ends : (t : Token) → IsMark mark.Semicolon t → ends (Some t.kind) ≡ true
semicolon_ends t h = rw h

pub semicolon_comma : (t : Token) → IsMark mark.Semicolon t → is_fixed fixed.Comma (Some t.kind) ≡ false
semicolon_comma t h = rw h

-- What a token means where it stands; each table is written once.
use Rattle.std.specs.Prelude.{Bool, true, Option, Some, None}
use Rattle.forec_base.specs.declared.Policy.{Policy}
use Rattle.forec_base.specs.declared.Policy.TheVariants as policy
use Rattle.forec_base.specs.declared.operators.Binary.{Binary}
use Rattle.forec_tree.specs.declared.token.TokenKind.{TokenKind}
use Rattle.forec_tree.specs.declared.token.TokenKind.TheVariants as kind
use Rattle.forec_tree.specs.declared.token.Mark.TheVariants as mark
use Rattle.forec_tree.specs.declared.token.Word.TheVariants as word
use Rattle.forec_tree.specs.Parts.{updates_by, steps_by}
use Rattle.expr_parser.specs.declared.fixed.Fixed.TheVariants as fixed
use Rattle.statement_parser.specs.declared.meaning.Change.{Change}
use Rattle.statement_parser.specs.declared.meaning.Change.TheVariants as change
use Rattle.statement_parser.specs.declared.meaning.Act.{Act}
use Rattle.statement_parser.specs.declared.meaning.Act.TheVariants as act
use Rattle.statement_parser.specs.declared.meaning.Sort.{Sort}
use Rattle.statement_parser.specs.declared.meaning.Sort.TheVariants as sort
use Rattle.statement_parser.specs.declared.meaning.Opening.{Opening}
use Rattle.statement_parser.specs.declared.meaning.Opening.TheVariants as opening
use Rattle.expr_parser.specs.Meaning.{is_fixed}

-- ---- statements

-- whether a list of statements ends here
abbrev pub ends_body : Option TokenKind → Bool
ends_body None = true
ends_body (Some k) = is_fixed fixed.RightCurly (Some k)

-- the operator of `+=` and its kin
abbrev pub update_of : Option TokenKind → Option Binary
update_of None = None
update_of (Some k) = updates_by k

-- the operator of `++` and `--`
abbrev pub token_step : Option TokenKind → Option Binary
token_step None = None
token_step (Some k) = steps_by k

-- how a target is changed
abbrev pub change_of : Option TokenKind → Change
change_of (Some (kind.Mark mark.Assign)) = change.Sets
change_of (Some (kind.Mark mark.ShlAssign)) = change.Updates
change_of (Some (kind.Mark mark.ShrAssign)) = change.Updates
change_of (Some (kind.Mark mark.AddAssign)) = change.Updates
change_of (Some (kind.Mark mark.SubAssign)) = change.Updates
change_of (Some (kind.Mark mark.MulAssign)) = change.Updates
change_of (Some (kind.Mark mark.DivAssign)) = change.Updates
change_of (Some (kind.Mark mark.RemAssign)) = change.Updates
change_of (Some (kind.Mark mark.AndAssign)) = change.Updates
change_of (Some (kind.Mark mark.OrAssign)) = change.Updates
change_of (Some (kind.Mark mark.XorAssign)) = change.Updates
change_of (Some (kind.Mark mark.PlusPlus)) = change.Increments
change_of (Some (kind.Mark mark.MinusMinus)) = change.Increments
change_of _ = change.Nothing

-- what a token begins where a simple statement is wanted
abbrev pub act_of : Option TokenKind → Act
act_of (Some (kind.Name id)) = act.Named
act_of (Some (kind.Mark mark.PlusPlus)) = act.Increments
act_of (Some (kind.Mark mark.MinusMinus)) = act.Increments
act_of _ = act.Nothing

-- what a token begins where a statement is wanted
abbrev pub sort_of : Option TokenKind → Sort
sort_of (Some (kind.Mark mark.Semicolon)) = sort.Empty
sort_of (Some (kind.Mark mark.LeftCurly)) = sort.Curly
sort_of (Some (kind.Word word.Int)) = sort.Declares
sort_of (Some (kind.Word word.If)) = sort.If
sort_of (Some (kind.Word word.While)) = sort.While
sort_of (Some (kind.Word word.For)) = sort.For
sort_of (Some (kind.Word word.Pause)) = sort.Pause
sort_of (Some (kind.Word word.Par)) = sort.Par
sort_of (Some (kind.Word word.Weak)) = sort.Weak
sort_of (Some (kind.Word word.Abort)) = sort.Abort
sort_of (Some (kind.Word word.Return)) = sort.Return
sort_of (Some (kind.Name id)) = sort.Simple
sort_of (Some (kind.Mark mark.PlusPlus)) = sort.Simple
sort_of (Some (kind.Mark mark.MinusMinus)) = sort.Simple
sort_of _ = sort.Nothing

-- ---- items

-- what a token begins where a global or a function is wanted
abbrev pub opening_of : Option TokenKind → Opening
opening_of (Some (kind.Word word.Const)) = opening.Const
opening_of (Some (kind.Word word.Input)) = opening.Input
opening_of (Some (kind.Word word.Output)) = opening.Output
opening_of (Some (kind.Word word.Shared)) = opening.Shared
opening_of (Some (kind.Word word.Int)) = opening.Int
opening_of (Some (kind.Word word.Void)) = opening.Void
opening_of _ = opening.Nothing

abbrev pub token_policy : Option TokenKind → Option Policy
token_policy (Some (kind.Word word.All)) = Some policy.All
token_policy (Some (kind.Word word.New)) = Some policy.New
token_policy (Some (kind.Word word.Mod)) = Some policy.Mod
token_policy _ = None

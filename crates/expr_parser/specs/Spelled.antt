-- What it means that an expression is read as it is spelled.
use Rattle.std.specs.Prelude.{◌≡◌, suc, ◌++◌, List}
use Rattle.forec_tree.specs.Terms.{Term}
use Rattle.forec_tree.specs.Spelling.{Spelt, tokens, IsWithin, Whole}
use Rattle.expr_parser.specs.Input.{Input, Parser, max_level}
use Rattle.expr_parser.specs.Reading.{value, read_expression}

-- an expression of its own, with all the levels that there are
abbrev pub reads : Parser Term
reads = value max_level (read_expression max_level (suc max_level))

-- The tokens between the two places spell the expression within the greatest level; the level after them is that before them.
pub record IsSpelledBetween (x : Term) (i j : Input) : Type 0 where
  pub spelt : List Spelt
  pub are : i.rest ≡ tokens spelt ++ j.rest
  pub spells : Whole x i.level spelt
  pub within : IsWithin max_level spelt
  pub level : j.level ≡ i.level

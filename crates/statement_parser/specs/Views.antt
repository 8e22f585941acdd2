-- The parts of a tree as the parser hands them on, seen as plain values.
use Rattle.std.specs.Prelude.{List, Option, Some, None, Box, map}
use Rattle.std.specs.Global.{Global}
use Rattle.forec_base.specs.declared.Place.{Place}
use Rattle.forec_tree.specs.declared.tree.Expr.{Expr}
use Rattle.forec_tree.specs.declared.tree.Branch as branch
use Rattle.forec_tree.specs.declared.tree.Branch.{Branch}
use Rattle.forec_tree.specs.declared.tree.Stmt.{Stmt}
use Rattle.forec_tree.specs.Terms.{Term, Statement, Perhaps, absent, present}
use Rattle.forec_tree.specs.Plain.{terms, statement, statement_row}
use Rattle.forec_tree.specs.Parts.{Launch, Calls, Blocks, Head}
use Rattle.expr_parser.specs.Boxes.{term_in}
use Rattle.statement_parser.specs.declared.parts.Block.{Block}
use Rattle.statement_parser.specs.declared.parts.ForHead.{ForHead}

abbrev pub statement_in : Box Stmt Global → Statement
statement_in b = statement b.value

abbrev pub optional_term_in : Option (Box Expr Global) → Option Term
optional_term_in None = None
optional_term_in (Some b) = Some (term_in b)

abbrev pub perhaps_in : Option (Box Stmt Global) → Perhaps
perhaps_in None = absent
perhaps_in (Some b) = present (statement_in b)

abbrev pub launch_of : Branch → Launch
launch_of (branch.Call name args) = Calls name (terms args)
launch_of (branch.Group' place shape body) = Blocks place (statement_row body)

abbrev pub block_statements : Block → Place × List Statement
block_statements b = (b.place, map statement b.body)

abbrev pub head_view : ForHead → Head
head_view h = record { start = perhaps_in h.start; test = optional_term_in h.test; step = perhaps_in h.step }

-- Names for terms whose places have lines and columns.
use Rattle.std.specs.Prelude.{List}
use Rattle.forec_kernel.specs.Terms.{Expr, Exprs, Branch, Stmt, Stmts}
use Rattle.value_ranges.specs.Properties.{ExprHolds, ExprsHolds, BranchesHolds, StmtHolds, StmtsHolds}
use Rattle.log_ranges.specs.Places.{places}

abbrev pub ExprPlaces : Expr → Type 0
ExprPlaces = ExprHolds places

abbrev pub ExprsPlaces : Exprs → Type 0
ExprsPlaces = ExprsHolds places

abbrev pub BranchesPlaces : List Branch → Type 0
BranchesPlaces = BranchesHolds places

abbrev pub StmtPlaces : Stmt → Type 0
StmtPlaces = StmtHolds places

abbrev pub StmtsPlaces : Stmts → Type 0
StmtsPlaces = StmtsHolds places

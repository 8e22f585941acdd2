-- Names for terms whose numbers fit 32 bits.
use Rattle.std.specs.Prelude.{List}
use Rattle.forec_kernel.specs.Terms.{Expr, Exprs, Branch, Stmt, Stmts}
use Rattle.value_ranges.specs.Properties.{ExprHolds, ExprsHolds, BranchesHolds, StmtHolds, StmtsHolds}
use Rattle.value_ranges.specs.Words.{fitting_words}

abbrev pub ExprWords : Expr → Type 0
ExprWords = ExprHolds fitting_words

abbrev pub ExprsWords : Exprs → Type 0
ExprsWords = ExprsHolds fitting_words

abbrev pub BranchesWords : List Branch → Type 0
BranchesWords = BranchesHolds fitting_words

abbrev pub StmtWords : Stmt → Type 0
StmtWords = StmtHolds fitting_words

abbrev pub StmtsWords : Stmts → Type 0
StmtsWords = StmtsHolds fitting_words

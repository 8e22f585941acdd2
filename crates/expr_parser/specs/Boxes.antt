-- What boxes hold, as plain values.
use Rattle.std.specs.Prelude.{Box}
use Rattle.std.specs.Global.{Global}
use Rattle.forec_tree.specs.declared.tree.Expr.{Expr}
use Rattle.forec_tree.specs.Terms.{Term}
use Rattle.forec_tree.specs.Plain.{term}

abbrev pub term_in : Box Expr Global → Term
term_in b = term b.value

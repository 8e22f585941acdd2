-- Statements of the tree by their heads and their bodies.
use Rattle.std.specs.Prelude.{ℕ, Option, List}
use Rattle.forec_base.specs.declared.Place.{Place}
use Rattle.forec_tree.specs.declared.tree.Stmt as rust
use Rattle.forec_tree.specs.Plain.{term, optional_term, statement, statements, perhaps_of}
use Rattle.forec_tree.specs.Terms.{Text, Statement, While, For, Abort}
use Rattle.forec_tree.specs.Turns.{inferred}
use Rattle.text_kernel.specs.Lowering.{bound_of, or_inferred}
use Rattle.lower_names.specs.declared.heads.WhileHead.{WhileHead}
use Rattle.lower_names.specs.declared.heads.ForHead.{ForHead}
use Rattle.lower_names.specs.declared.heads.AbortHead.{AbortHead}

abbrev pub while_of : WhileHead → rust.Stmt → Statement
while_of h body = While h.place (term h.test.now) h.bound (statement body)

abbrev pub for_of : ForHead → rust.Stmt → Statement
for_of h body = For h.place (perhaps_of h.start.now) (optional_term h.test.now) (perhaps_of h.step.now) h.bound (statement body)

-- the number of iterations of a `for`, by its bound or its form
abbrev pub turns_of : Text → ForHead → rust.Stmt → Option ℕ
turns_of text h body = or_inferred (bound_of h.bound) (inferred text (for_of h body))

-- an abort at a place
abbrev pub abort_at : Place → AbortHead → List rust.Stmt → Statement
abort_at at h body = Abort at h.weak h.immediate (term h.test.now) (statements body)

-- The lists of a tree, as the plain tree has them.
use Rattle.std.proofs.Common.{◌≡◌, Bool, List, [], ◌∷◌, map, refl, sym, ap, ◌∙◌}
use Rattle.forec_base.specs.declared.Place.{Place}
use Rattle.forec_tree.specs.declared.tree.Expr.{Expr}
use Rattle.forec_tree.specs.Terms as plain
use Rattle.forec_tree.specs.Terms.{more_statements}
use Rattle.forec_tree.specs.Plain.{term, statement, statements, statement_at, branches, branch_with}
use Rattle.forec_tree.specs.declared.tree.Stmt.{Stmt}
use Rattle.forec_tree.specs.declared.tree.StmtKind.{Group, Abort, Par}
use Rattle.forec_tree.specs.declared.tree.Branch.{Branch}
use Rattle.forec_tree.specs.declared.tree.Branch as branch
use Rattle.forec_tree.specs.Parts.{in_order, Launch, Calls, Blocks, launched, launched_before}
use Rattle.statement_parser.specs.Views.{launch_of}
use Rattle.forec_tree.proofs.Rows.{statement-group, statement-abort, statement-par, branch-group}

pub statements-in_order : (ss : List Stmt) → statements ss ≡ in_order (map statement ss)
statements-in_order [] = refl
statements-in_order (s ∷ ss) = ap (more_statements (statement s)) (statements-in_order ss)

pub group-in_order : (body : List Stmt) (at : Place) → statement_at (Group body) at ≡ plain.Group at (in_order (map statement body))
group-in_order body at = statement-group body at ∙ ap (plain.Group at) (statements-in_order body)

pub abort-in_order : (weak immediate : Bool) (test : Expr) (body : List Stmt) (at : Place)
    → statement_at (Abort weak immediate test body) at ≡ plain.Abort at weak immediate (term test) (in_order (map statement body))
abort-in_order weak immediate test body at = statement-abort weak immediate test body at ∙ ap (plain.Abort at weak immediate (term test)) (statements-in_order body)

branch-launched : (b : Branch) (rest : plain.Branches) → branch_with b rest ≡ launched_before (launch_of b) rest
branch-launched (branch.Call name args) rest = refl
branch-launched (branch.Group' place shape body) rest = refl

branches-launched : (bs : List Branch) → branches bs ≡ launched (map launch_of bs)
branches-launched [] = refl
branches-launched (b ∷ bs) = ap (branch_with b) (branches-launched bs) ∙ branch-launched b (launched (map launch_of bs))

pub par-launched : (bs : List Branch) (at : Place) → statement_at (Par bs) at ≡ plain.Par at (launched (map launch_of bs))
par-launched bs at = statement-par bs at ∙ ap (plain.Par at) (branches-launched bs)

abbrev first_launch : plain.Branches → Launch
first_launch plain.no_branches = Calls (record { id = 0; place = record { line = 0; column = 0 } }) plain.no_terms
first_launch (plain.by_call name args rest) = Calls name args
first_launch (plain.by_group place body rest) = Blocks place body

first-before : (b : Launch) → first_launch (launched_before b plain.no_branches) ≡ b
first-before (Calls name args) = refl
first-before (Blocks place body) = refl

pub launch-group : (place : Place) (body : List Stmt) → launch_of (branch.Group place body) ≡ Blocks place (in_order (map statement body))
launch-group place body =
    let b = branch.Group place body in
    sym (first-before (launch_of b)) ∙ ap first_launch (sym (branch-launched b plain.no_branches) ∙ branch-group place body plain.no_branches) ∙ ap (Blocks place) (statements-in_order body)

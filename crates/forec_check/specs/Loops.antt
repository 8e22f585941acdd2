-- The loops that may run for ever.
use Rattle.std.specs.Prelude.{List, [], ◌∷◌, ◌++◌}
use Rattle.forec_tree.specs.declared.fault.Fault.{Fault}
use Rattle.forec_tree.specs.declared.rule.TheConstants as rule
use Rattle.forec_tree.specs.Terms.{Text, PlainItem, IsGlobal, IsFunction, Statement, Declare, Nothing, Group, Assign, Invoke, If, While, For, Pause, Par, Abort, Return, Statements, no_statements, more_statements, Perhaps, absent, present, Branches, no_branches, by_call, by_group}
use Rattle.forec_tree.specs.Rules.{fault_if, endless, loop_place}

abbrev pub loops_faults : Text → List Statement → List Fault
loops_faults text [] = []
loops_faults text (l ∷ rest) = fault_if (endless text l) (loop_place l) rule.ENDLESS_LOOP ++ loops_faults text rest

-- the loops of a statement, each after those in its body
abbrev mutual
  pub loops_in : Statement → List Statement
  loops_in (Nothing at) = []
  loops_in (Group at body) = loops_in_all body
  loops_in (Declare at locals) = []
  loops_in (Assign at target op value) = []
  loops_in (Invoke at name args) = []
  loops_in (If at test a b) = loops_in a ++ loops_in_perhaps b
  loops_in (While at test bound body) = loops_in body ++ While at test bound body ∷ []
  loops_in (For at start test step bound body) =
      loops_in_perhaps start ++ (loops_in_perhaps step ++ (loops_in body ++ For at start test step bound body ∷ []))
  loops_in (Pause at) = []
  loops_in (Par at bs) = loops_in_branches bs
  loops_in (Abort at weak immediate test body) = loops_in_all body
  loops_in (Return at value) = []

  pub loops_in_all : Statements → List Statement
  loops_in_all no_statements = []
  loops_in_all (more_statements a rest) = loops_in a ++ loops_in_all rest

  pub loops_in_perhaps : Perhaps → List Statement
  loops_in_perhaps absent = []
  loops_in_perhaps (present a) = loops_in a

  pub loops_in_branches : Branches → List Statement
  loops_in_branches no_branches = []
  loops_in_branches (by_call name args rest) = loops_in_branches rest
  loops_in_branches (by_group at body rest) = loops_in_all body ++ loops_in_branches rest

abbrev pub item_loops : PlainItem → List Statement
item_loops (IsGlobal g) = []
item_loops (IsFunction f) = loops_in_all f.body

abbrev pub all_loops : List PlainItem → List Statement
all_loops [] = []
all_loops (i ∷ rest) = item_loops i ++ all_loops rest

use Rattle.std.proofs.Common.{drop}
use Rattle.forec_tree.specs.Plain as plain
use Rattle.forec_tree.specs.Terms.{Text}
use Rattle.lower_names.specs.Additions.{AllAdd}
use Rattle.lower_names.proofs.AdditionLemmas.{ListGoes, BranchesGo}
use Rattle.lower_names.proofs.added.+added.Given as goal

abbrev pub invariant-of_list-loop-s : goal.invariant-of_list-loop-s
invariant-of_list-loop-s l = (text : Text) → AllAdd text l.table → ListGoes text (plain.statements (drop l.s-index l.list)) (plain.statements l.list) l.total

abbrev pub invariant-of_branches-loop-one : goal.invariant-of_branches-loop-one
invariant-of_branches-loop-one l = (text : Text) → AllAdd text l.table → BranchesGo text (plain.branches (drop l.one-index l.list)) (plain.branches l.list) l.total

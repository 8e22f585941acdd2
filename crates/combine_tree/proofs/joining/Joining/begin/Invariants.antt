use Rattle.std.proofs.Common.{◌≡◌, ◌++◌, length, map, take, drop}
use Rattle.combine_tree.specs.Joins.{begun}
use Rattle.combine_tree.proofs.joining.Joining.begin.Given as goal

abbrev pub invariant-loop-at : goal.invariant-loop-at
invariant-loop-at l = record {
  long : length l.self-inside.folds.items ≡ length l.base;
  front : l.self-inside.folds.items ≡ map begun (take l.at l.base) ++ drop l.at l.initial.self-inside.folds.items;
}

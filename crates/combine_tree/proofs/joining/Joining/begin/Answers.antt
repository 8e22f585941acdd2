use Rattle.std.proofs.Common.{rules, pos, false, length, ap, sym, ◌∙◌}
use Rattle.combine_tree.specs.Joins.{begun}
use Rattle.combine_tree.proofs.Written.{written_more}
use Rattle.combine_tree.proofs.joining.Joining.begin.Goals as goal

pub loop-at-preserved : goal.loop-at-preserved
loop-at-preserved c = record {
  long = search rules;
  front = written_more begun (record { value = pos 0; modified = false }) c.args.base.now c.self.inside.folds.items _ c.loop-at.at c.loop-at-test.true (ap length c.self.view_is ∙ sym c.requires) c.loop-at.invariant.front;
}

use Rattle.std.proofs.Common.{◌≡◌}
use Rattle.forec_kernel.specs.Shapes.{plain_kernel}
use Rattle.running_threads.specs.Views.{threads}
use Rattle.running_steps.proofs.Transposed.{joined_ok, joined_err}
use Rattle.running_steps.proofs.joins.join_copies.Goals as goal

pub returns-in-Err : goal.returns-in-Err
returns-in-Err c =
    joined_err (plain_kernel c.args.kernel.now) (threads c.args.children.now) c.args.uses.now c.args.copies.now c.in_ok-folds.folds.items _ _ _
    c.in_ok-folds.ensures c.in-Err.ensures

pub returns-in_ok-end_folds-in-Ok : goal.returns-in_ok-end_folds-in-Ok
returns-in_ok-end_folds-in-Ok c =
    let folds : c.deref.result.now ≡ c.in-Ok.folds.items = c.deref.ensures.value in
    joined_ok (plain_kernel c.args.kernel.now) (threads c.args.children.now) c.args.uses.now c.args.copies.now c.in_ok-folds.folds.items _ _ c.in-Ok.folds _
    c.in_ok-folds.ensures c.in-Ok.ensures (rw folds at c.in_ok-end_folds-in-Ok.ensures)

use Rattle.std.proofs.Common.{◌∙◌, ap, arith}
use Rattle.forec_kernel.specs.Combining.{variable_of}
use Rattle.forec_kernel.specs.Shapes.{plain_shape}
use Rattle.thread_code.specs.Valid.{of_shape}
use Rattle.thread_state.specs.Kept.{place_of}
use Rattle.thread_state.proofs.Indexed.{found_at, place_within}
use Rattle.thread_rooms.proofs.room.most_combined.Goals as goal

pub returns : goal.returns
returns c = λ v f h e.
    let uses = c.args.uses.now in
    let lt = place_within uses v h in
    c.loop-i.invariant (place_of uses v) f (omega (arith, lt)) (ap (λ v. (variable_of (of_shape (plain_shape c.args.shape.now)) v).combine) (found_at uses v h) ∙ e)

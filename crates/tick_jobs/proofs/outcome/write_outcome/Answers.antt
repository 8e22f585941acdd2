use Rattle.std.proofs.Common.{◌∙◌, ap, length}
use Rattle.forec_kernel.specs.declared.shape.VarCopy.{VarCopy}
use Rattle.forec_kernel.specs.Shapes.{plain_shape}
use Rattle.forec_kernel.specs.Ticks.{values_of}
use Rattle.forec_kernel.specs.Texts.{uses_in}
use Rattle.combine_tree.specs.Plain.{plain_packet}
use Rattle.std.proofs.Common.{List}
use Rattle.tick_jobs.proofs.Rooms.{all_copies, below_outputs, outputs_told}
use Rattle.tick_jobs.proofs.outcome.write_outcome.Goals as goal

pub write_values-requires-clause-variables : goal.write_values-requires-clause-variables
write_values-requires-clause-variables c =
    let s = plain_shape c.args.shape.now in
    below_outputs s c.requires.fine c.deref.result.now (ap length c.deref.ensures.value ∙ all_copies s c.requires.fine (plain_packet c.args.packet.now) c.requires.room) c.deref-in-Paused.result.now c.deref-in-Paused.ensures.value

pub write_values-requires-in-Ended-clause-variables : goal.write_values-requires-in-Ended-clause-variables
write_values-requires-in-Ended-clause-variables c =
    let s = plain_shape c.args.shape.now in
    below_outputs s c.requires.fine c.deref-in-Ended.result.now (ap length c.deref-in-Ended.ensures.value ∙ all_copies s c.requires.fine (plain_packet c.args.packet.now) c.requires.room) c.deref-in-Ended-2.result.now c.deref-in-Ended-2.ensures.value

pub returns-in-Paused-clause-outputs : goal.returns-in-Paused-clause-outputs
returns-in-Paused-clause-outputs c has =
    let s = plain_shape c.args.shape.now in
    let copies = c.deref.result.now in
    let counted = ap length c.deref.ensures.value ∙ all_copies s c.requires.fine (plain_packet c.args.packet.now) c.requires.room in
    outputs_told s c.requires.fine copies counted c.deref-in-Paused.result.now c.write_values.new.values c.deref-in-Paused.ensures.value c.write_values.ensures
    ∙ ap (λ (cs : List VarCopy). values_of (uses_in s.threads 0) cs s.outputs) c.deref.ensures.value

pub returns-in-Ended-clause-outputs : goal.returns-in-Ended-clause-outputs
returns-in-Ended-clause-outputs c has =
    let s = plain_shape c.args.shape.now in
    let copies = c.deref-in-Ended.result.now in
    let counted = ap length c.deref-in-Ended.ensures.value ∙ all_copies s c.requires.fine (plain_packet c.args.packet.now) c.requires.room in
    outputs_told s c.requires.fine copies counted c.deref-in-Ended-2.result.now c.write_values-in-Ended.new.values c.deref-in-Ended-2.ensures.value c.write_values-in-Ended.ensures
    ∙ ap (λ (cs : List VarCopy). values_of (uses_in s.threads 0) cs s.outputs) c.deref-in-Ended.ensures.value

use Rattle.std.proofs.Common.{◌∙◌, length, ap, sym}
use Rattle.forec_kernel.specs.Shapes.{plain_shape}
use Rattle.combine_tree.specs.Plain.{plain_packet}
use Rattle.tick_jobs.proofs.Rooms.{all_copies}
use Rattle.tick_jobs.proofs.job.write_before.Goals as goal

pub write_start-requires : goal.write_start-requires
write_start-requires c =
    ap length c.deref_mut.ensures.value ∙ all_copies (plain_shape c.args.shape.now) c.requires.fine (plain_packet c.args.packet.now) c.requires.room
    ∙ sym (ap length c.deref.ensures.value)

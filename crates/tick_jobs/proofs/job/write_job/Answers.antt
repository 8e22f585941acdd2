use Rattle.std.proofs.Common.{◌≡◌, ◌∙◌, length, ap, refl, List}
use Rattle.forec_kernel.specs.declared.shape.VarCopy.{VarCopy}
use Rattle.forec_kernel.specs.Shapes.{plain_shape}
use Rattle.forec_kernel.specs.Ticks.{with_row}
use Rattle.forec_kernel.specs.Texts.{uses_in}
use Rattle.combine_tree.specs.Plain.{plain_kind, plain_packet}
use Rattle.std.specs.Vec.{with_items}
use Rattle.std.proofs.Common.{rules}
use Rattle.std.proofs.lemmas.List.{with_items_is, places}
use Rattle.tick_jobs.specs.Jobs.{copies_at}
use Rattle.tick_jobs.proofs.Rooms.{all_copies, no_args, length_before, length_at, below_inputs, row_told, is_job}
use Rattle.tick_jobs.proofs.InARow.{below_more}
use Rattle.forec_kernel.specs.WellFormed.{all_below}
use Rattle.forec_base.specs.declared.limits.TheConstants.{MAX_GLOBALS}
use Rattle.std.proofs.Common.{ℕ}
use Rattle.tick_jobs.proofs.job.write_job.Goals as goal

pub write_row-requires-clause-inputs : goal.write_row-requires-clause-inputs
write_row-requires-clause-inputs c =
    let s = plain_shape c.args.shape.now in
    let p = c.args.packet.now in
    let counted = ap length (c.deref_mut.ensures.value ∙ c.write_before.ensures.copies) ∙ length_before s p.kind p.copies.items (all_copies s c.requires.fine (plain_packet p) c.requires.room) in
    below_inputs s c.requires.fine c.deref_mut.result.now counted c.deref.result.now c.deref.ensures.value

pub write_row-requires-clause-small : goal.write_row-requires-clause-small
write_row-requires-clause-small c =
    let s = plain_shape c.args.shape.now in
    ap (λ (vs : List ℕ). all_below MAX_GLOBALS vs) c.deref.ensures.value
    ∙ below_more (length s.variables) MAX_GLOBALS s.inputs c.requires.fine.few_variables c.requires.fine.inputs_named

written : (c : goal.After-packet-2-1) → (with_items c.write_before.new.packet.copies c.write_row.new.copies).items ≡ copies_at (plain_shape c.args.shape.now) c.args.packet.now c.args.row.now
written c =
    let s = plain_shape c.args.shape.now in
    let p = c.args.packet.now in
    let is = c.deref_mut.ensures.value ∙ c.write_before.ensures.copies in
    let counted = ap length is ∙ length_before s p.kind p.copies.items (all_copies s c.requires.fine (plain_packet p) c.requires.room) in
    with_items_is c.write_before.new.packet.copies c.write_row.new.copies (search (rules, places))
    ∙ row_told s c.requires.fine c.deref_mut.result.now counted c.deref.result.now c.args.row.now c.write_row.new.copies c.deref.ensures.value c.write_row.ensures
    ∙ ap (λ (cs : List VarCopy). with_row (uses_in s.threads 0) s.inputs c.args.row.now cs) is

pub returns-clause-job : goal.returns-clause-job
returns-clause-job c =
    let s = plain_shape c.args.shape.now in
    let p = c.args.packet.now in
    is_job s p (plain_packet (record p { kind = c.write_before.new.packet.kind; args = c.write_before.new.packet.args; copies = with_items c.write_before.new.packet.copies c.write_row.new.copies; allowance = c.args.budget; units = c.write_before.new.packet.units })) c.args.row.now c.args.budget c.requires.between (ap plain_kind c.write_before.ensures.kind) (c.write_before.ensures.args ∙ no_args s c.requires.fine (plain_packet p) c.requires.room) (written c) refl

pub returns-clause-room : goal.returns-clause-room
returns-clause-room c =
    let s = plain_shape c.args.shape.now in
    let p = c.args.packet.now in
    record {
      args = ap length c.write_before.ensures.args ∙ c.requires.room.args;
      copies = ap length (written c) ∙ length_at s c.requires.fine p c.args.row.now (all_copies s c.requires.fine (plain_packet p) c.requires.room);
    }

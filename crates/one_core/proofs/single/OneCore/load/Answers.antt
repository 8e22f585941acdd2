use Rattle.std.proofs.Common.{◌≡◌, length, ap, ◌∙◌, arith}
use Rattle.forec_kernel.specs.declared.shape.Shape.{Shape}
use Rattle.forec_kernel.specs.Packets.{PlainPacket}
use Rattle.forec_kernel.specs.Packed.{HasRoom}
use Rattle.thread_code.specs.Plain.{plain_code}
use Rattle.thread_code.specs.Valid.{of_shape}
use Rattle.combine_tree.specs.declared.packet.PacketKind.TheVariants as kind
use Rattle.combine_tree.specs.Plain.{plain_packet}
use Rattle.one_core.specs.Seats.{Seated}
use Rattle.tick_jobs.proofs.Rooms.{blank_room}
use Rattle.tick_jobs.proofs.TickOutcome.{blank_of}
use Rattle.one_core.proofs.Newly.{new_single, ran_none}
use Rattle.one_core.proofs.single.OneCore.load.Goals.{In_ok-root}
use Rattle.one_core.proofs.single.OneCore.load.Goals as goal

-- the threads and the packet that were made
module _ (c : In_ok-root) where
  abbrev made : Seated
  made = record { code = c.args.code.now; threads = c.in_ok-seats.seats.items }

  room : HasRoom (of_shape (plain_code c.args.code.now).shape) 0 (plain_packet c.in_ok-root.root)
  room =
      let s = (plain_code c.args.code.now).shape in
      let counted : c.len-variables.result ≡ length s.variables = omega (arith, c.len-variables.ensures, ap (λ (x : Shape). length x.variables.items) c.shape.ensures.same, c.shape.result.now.variables.ok.0) in
      blank_room s c.shape.ensures.valid.shape c.len-variables.result (plain_packet c.in_ok-root.root) counted c.in_ok-root.ensures

  is_blank : c.in_ok-root.root.kind ≡ kind.Blank
  is_blank = blank_of c.in_ok-root.root.kind (ap (λ (p : PlainPacket). p.kind) c.in_ok-root.ensures)

pub invariant_of-result : goal.invariant_of-result
invariant_of-result c =
    let r = (goal.at.invariant_of-result c).In_ok-root in new_single (made r) c.shape.ensures.valid c.in_ok-seats.ensures.count c.in_ok-seats.ensures.each c.in_ok-root.root (room r) (is_blank r)

pub returns-clause-none : goal.returns-clause-none
returns-clause-none c =
    let r = (goal.at.returns-clause-none c).In_ok-root in ran_none (made r) c.shape.ensures.valid c.in_ok-seats.ensures.count c.in_ok-seats.ensures.each c.in_ok-root.root (room r) (is_blank r)

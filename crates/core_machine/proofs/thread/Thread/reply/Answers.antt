use Rattle.std.proofs.Common.{◌∙◌, refl, sym, subst}
use Rattle.forec_kernel.specs.Packed.{IsReply}
use Rattle.thread_code.specs.Plain.{plain_code}
use Rattle.combine_tree.specs.declared.packet.PacketKind.TheVariants as kind
use Rattle.combine_tree.specs.Plain.{plain_packet}
use Rattle.core_machine.proofs.Jobs.{reply_in, gives_reply, gives_over}
use Rattle.core_machine.proofs.thread.Thread.reply.Goals as goal

pub returns-then-self-clause-gives : goal.returns-then-self-clause-gives
returns-then-self-clause-gives c =
    let p = c.args.packet.now in
    gives_over (plain_code c.args.code.now) c.args.self.now c.requires.loaded c.requires.done (plain_packet (record p { kind = kind.Over })) c.if-self.true refl

pub returns-in-Paused-clause-gives : goal.returns-in-Paused-clause-gives
returns-in-Paused-clause-gives c =
    let h = c.args.self.now in
    let p = c.args.packet.now in
    let q = plain_packet (record p { kind = kind.Paused; copies = c.copy_from_slice.new.self; units = h.units }) in
    let is : IsReply q (reply_in h h.phase) = subst (λ s. IsReply q (reply_in h s)) (sym c.in-Paused.is) (refl, c.copy_from_slice.ensures.items ∙ c.copies.ensures, refl) in
    gives_reply (plain_code c.args.code.now) h c.requires.loaded c.requires.done q c.if-self.false is

pub returns-in-Ended-clause-gives : goal.returns-in-Ended-clause-gives
returns-in-Ended-clause-gives c =
    let h = c.args.self.now in
    let p = c.args.packet.now in
    let q = plain_packet (record p { kind = kind.Ended; copies = c.copy_from_slice-in-Ended.new.self; units = h.units }) in
    let is : IsReply q (reply_in h h.phase) = subst (λ s. IsReply q (reply_in h s)) (sym c.in-Ended.is) (refl, c.copy_from_slice-in-Ended.ensures.items ∙ c.copies-in-Ended.ensures, refl) in
    gives_reply (plain_code c.args.code.now) h c.requires.loaded c.requires.done q c.if-self.false is

pub returns-in-Trapped-clause-gives : goal.returns-in-Trapped-clause-gives
returns-in-Trapped-clause-gives c =
    let h = c.args.self.now in
    let p = c.args.packet.now in
    let q = plain_packet (record p { kind = kind.Trapped c.in-Trapped.place c.in-Trapped.trap; units = h.units }) in
    let is : IsReply q (reply_in h h.phase) = subst (λ s. IsReply q (reply_in h s)) (sym c.in-Trapped.is) (refl, refl) in
    gives_reply (plain_code c.args.code.now) h c.requires.loaded c.requires.done q c.if-self.false is

pub returns-in-Over-clause-gives : goal.returns-in-Over-clause-gives
returns-in-Over-clause-gives c =
    let h = c.args.self.now in
    let p = c.args.packet.now in
    let q = plain_packet (record p { kind = kind.Over; units = h.units }) in
    let is : IsReply q (reply_in h h.phase) = subst (λ s. IsReply q (reply_in h s)) (sym c.in-Over.is) refl in
    gives_reply (plain_code c.args.code.now) h c.requires.loaded c.requires.done q c.if-self.false is

use Rattle.std.proofs.Common.{sym, ap, subst, ◌∙◌, arith}
use Rattle.std.proofs.lemmas.Option.{slice_get_within}
use Rattle.std.specs.Prelude.{Option, IfSome}
use Rattle.combine_tree.specs.declared.packet.Packet.{Packet}
use Rattle.combine_tree.specs.Plain.{plain_packet}
use Rattle.core_seats.specs.Posts.{Mail}
use Rattle.core_seats.specs.Asking.{Replies}
use Rattle.copy_slots.specs.declared.view.PacketAt.TheVariants.{Out}
use Rattle.copy_slots.specs.Ports.{parent_at, ParentIs, sent, after_collect, in_plain}
use Rattle.exchange_log.specs.Notes.{NotesReply}
use Rattle.exchange_log.specs.Kept.{Logging, KeepsMail, code_in_mail}
use Rattle.exchange_log.proofs.KeptLemmas.{has_parent, kept_none, reply_noted}
use Rattle.exchange_log.proofs.port.LogPortPortForecWork.collect.Goals as goal

pub invariant_of-self : goal.invariant_of-self
invariant_of-self g c =
    let old = g.P.Port.state c.self.inside.port in
    subst (λ (m : Mail). KeepsMail m c.self.inside.book) (sym c.collect.ensures.state)
    (kept_none (code_in_mail old) old.ends c.args.k c.self.inside.book c.collect.result c.in_default.not-Some c.self.invariant)

pub note_reply-requires-clause-counted : goal.note_reply-requires-clause-counted
note_reply-requires-clause-counted g c =
    let mail = ap (λ (l : Logging). l.mail) c.self.view_is in
    let x = has_parent Out (parent_at (g.P.Port.state c.self.inside.port).ends c.args.k) (subst (λ (m : Mail). ParentIs m c.args.k Out) (sym mail) c.requires) in
    slice_get_within c.self.inside.book.replies.counts.items c.args.k _ (c.self.invariant.reply_counts c.args.k x.0 x.1)

pub invariant_of-self-2 : goal.invariant_of-self-2
invariant_of-self-2 g c =
    let old = g.P.Port.state c.self.inside.port in
    let mail = ap (λ (l : Logging). l.mail) c.self.view_is in
    let x = has_parent Out (parent_at old.ends c.args.k) (subst (λ (m : Mail). ParentIs m c.args.k Out) (sym mail) c.requires) in
    let notes = subst (λ (p : Packet). NotesReply c.self.inside.book c.note_reply.new.self c.args.k p) c.deref.ensures c.note_reply.ensures in
    let state = c.collect.ensures.state ∙ ap (λ o. after_collect c.args.k (in_plain plain_packet o) old) c.in-Some.is in
    let replies = subst (λ (o : Option Packet). IfSome o (λ r. Replies (code_in_mail old) c.args.k (sent old c.args.k) (plain_packet r))) c.in-Some.is c.collect.ensures.reply in
    let few = c.self.inside.book.few in
    subst (λ (m : Mail). KeepsMail m c.note_reply.new.self) (sym state)
    (reply_noted (code_in_mail old) old.ends c.self.inside.book c.note_reply.new.self c.args.k c.in-Some.packet x.0 c.self.invariant x.1 (omega (arith, few)) replies.room notes)

use Rattle.std.proofs.Common.{sym, ap, subst, ◌++◌, ◌∷◌, [], arith}
use Rattle.std.proofs.lemmas.Option.{slice_get_within}
use Rattle.combine_tree.specs.declared.packet.Packet.{Packet}
use Rattle.combine_tree.specs.Plain.{plain_packet}
use Rattle.core_seats.specs.Posts.{Mail}
use Rattle.core_seats.specs.Asking.{Asks}
use Rattle.copy_slots.specs.declared.view.PacketAt.TheVariants.{Held}
use Rattle.copy_slots.specs.Ports.{parent_at, ParentIs, sent}
use Rattle.exchange_log.specs.Notes.{NotesJob}
use Rattle.exchange_log.specs.Kept.{Logging, KeepsMail, code_in_mail}
use Rattle.exchange_log.proofs.KeptLemmas.{has_parent, job_noted, asked_room}
use Rattle.exchange_log.proofs.port.LogPortPortForecWork.offer.Goals as goal

pub note_job-requires-clause-counted : goal.note_job-requires-clause-counted
note_job-requires-clause-counted g c =
    let mail = ap (λ (l : Logging). l.mail) c.self.view_is in
    let x = has_parent Held (parent_at (g.P.Port.state c.self.inside.port).ends c.args.k) (subst (λ (m : Mail). ParentIs m c.args.k Held) (sym mail) c.requires.held) in
    slice_get_within c.self.inside.book.jobs.counts.items c.args.k _ (c.self.invariant.job_counts c.args.k x.0 x.1)

pub invariant_of-self : goal.invariant_of-self
invariant_of-self g c =
    let mail = ap (λ (l : Logging). l.mail) c.self.view_is in
    let old = g.P.Port.state c.self.inside.port in
    let x = has_parent Held (parent_at old.ends c.args.k) (subst (λ (m : Mail). ParentIs m c.args.k Held) (sym mail) c.requires.held) in
    let asks = subst (λ (m : Mail). Asks (code_in_mail m) c.args.k (sent m c.args.k ++ plain_packet c.args.packet ∷ [])) (sym mail) c.requires.asks in
    let notes = subst (λ (p : Packet). NotesJob c.self.inside.book c.note_job.new.self c.args.k p) c.deref.ensures c.note_job.ensures in
    let few = c.self.inside.book.few in
    subst (λ (m : Mail). KeepsMail m c.note_job.new.self) (sym c.offer.ensures)
    (job_noted (code_in_mail old) old.ends c.self.inside.book c.note_job.new.self c.args.k c.args.packet x.0 c.self.invariant x.1 (omega (arith, few))
    (asked_room (code_in_mail old) c.args.k (sent old c.args.k) (plain_packet c.args.packet) asks) notes)

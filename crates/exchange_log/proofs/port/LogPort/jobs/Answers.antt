use Rattle.std.proofs.Common.{◌≡◌, Some, min, length, sym, ap, ◌∙◌}
use Rattle.std.specs.Prelude.{Option}
use Rattle.std.proofs.lemmas.Option.{slice_get_within}
use Rattle.forec_kernel.specs.Packets.{PlainPacket}
use Rattle.copy_slots.specs.declared.view.Sender.{Sender}
use Rattle.core_seats.specs.Posts.{Mail}
use Rattle.copy_slots.specs.Ports.{parent_at, sent_by}
use Rattle.exchange_log.specs.Notes.{most_counted}
use Rattle.exchange_log.specs.Kept.{Logging}
use Rattle.exchange_log.proofs.KeptLemmas.{number_same}
use Rattle.exchange_log.proofs.port.LogPort.jobs.Goals as goal

pub count-requires : goal.count-requires
count-requires g c =
    let mail = ap (λ (l : Logging). l.mail) c.self.view_is in
    let at : parent_at (g.P.Port.state c.self.inside.port).ends c.args.k ≡ Some c.requires.0 = ap (λ (m : Mail). parent_at m.ends c.args.k) mail ∙ c.requires.1 in
    slice_get_within c.self.inside.book.jobs.counts.items c.args.k _ (c.self.invariant.job_counts c.args.k c.requires.0 at)

pub returns : goal.returns
returns g c =
    let mail = ap (λ (l : Logging). l.mail) c.self.view_is in
    let at : parent_at (g.P.Port.state c.self.inside.port).ends c.args.k ≡ Some c.requires.0 = ap (λ (m : Mail). parent_at m.ends c.args.k) mail ∙ c.requires.1 in
    number_same c.count.result (min (length c.requires.0.sent) most_counted) (sym c.count.ensures ∙ c.self.invariant.job_counts c.args.k c.requires.0 at)
    ∙ ap (λ (o : Option (Sender PlainPacket)). min (length (sent_by o)) most_counted) (sym c.requires.1)

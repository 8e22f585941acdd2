use Rattle.std.proofs.Common.{◌≡◌, ◌++◌, ◌∷◌, [], suc, slice_get, sym, ap, ◌∙◌, subst}
use Rattle.std.proofs.lemmas.Option.{get_or_from_slice_get}
use Rattle.forec_kernel.specs.Packed.{HasRoom, IsJob}
use Rattle.thread_code.specs.declared.instruction.CodeParts.{CodeParts}
use Rattle.thread_code.specs.Plain.{plain_code}
use Rattle.thread_code.specs.Valid.{of_shape}
use Rattle.combine_tree.specs.Plain.{plain_packet}
use Rattle.copy_slots.specs.Mail.{sender_sent}
use Rattle.copy_slots.specs.Ports.{sent}
use Rattle.core_machine.specs.Forks.{jobs_at, branch_at}
use Rattle.core_seats.specs.Asking.{Asks}
use Rattle.core_seats.specs.Keeping.{SchedulerState, code_in, LacksPacket}
use Rattle.core_seats.specs.Moving.{ChangesPacket, HasSent}
use Rattle.core_seats.proofs.Mails.{state, with_parent}
use Rattle.core_seats.proofs.Send.{asks_now, sent_moves, sent_lacks, has_sent}
use Rattle.core_seats.proofs.scheduler.Scheduler.send.Goals as goal

pub offer-requires-clause-asks : goal.offer-requires-clause-asks
offer-requires-clause-asks g c =
    let s = c.args.self.now in
    let m = c.args.mailbox in
    let q = plain_packet c.job.new.packet in
    let port = g.P.Port.state c.self.inside.port in
    let code : c.self.inside.code.now ≡ s.code = ap (λ (s : SchedulerState). s.code) c.self.view_is ∙ c.packet-packet.ensures.moves.code in
    let work : port.work.code.value ≡ s.code =
    ap (λ (s : SchedulerState). s.mail.work.code.value) c.self.view_is ∙ ap (λ w. w.code.value) c.packet-packet.ensures.moves.alike.work ∙ c.requires.seated.work in
    let job = c.requires.job in
    let is : IsJob q job.job.job = (c.job.ensures.job job.job (ap (λ (x : CodeParts). slice_get (jobs_at (plain_code x) c.args.thread.now) c.args.k) code ∙ job.at)).1 in
    let sent_same : sent port m ≡ sent s.mail m = ap (λ (s : SchedulerState). sent s.mail m) c.self.view_is ∙ c.packet-packet.ensures.sent in
    let room : HasRoom (of_shape (code_in s).shape) (suc m) q =
    subst (λ t. HasRoom (of_shape (code_in s).shape) t q) (get_or_from_slice_get c.args.thread.now.branches.numbers c.args.k (suc m) 0 job.number)
    (subst (λ (x : CodeParts). HasRoom (of_shape (plain_code x).shape) (branch_at c.args.thread.now c.args.k) q) code c.job.ensures.room) in
    subst (λ (x : CodeParts). Asks (plain_code x) m (sent port m ++ q ∷ [])) (sym work)
    (asks_now (code_in s) s.mail port m q job.job.job is sent_same job.may room c.job.ensures.small)

-- the state afterwards
now_is : (g : _) (c : goal.After-offer g) →
    state c.self.inside.code.now c.self.inside.places.items (g.P.Port.state c.offer.new.self) c.self.inside.seats.items c.self.inside.hands.items
    ≡ with_parent c.packet-packet.new.self c.args.mailbox (sender_sent (plain_packet c.job.new.packet)) c.packet-packet.new.self.hands
now_is g c =
    ap (λ m. state c.self.inside.code.now c.self.inside.places.items m c.self.inside.seats.items c.self.inside.hands.items) c.offer.ensures
    ∙ ap (λ (s : SchedulerState). with_parent s c.args.mailbox (sender_sent (plain_packet c.job.new.packet)) s.hands) c.self.view_is

pub returns-clause-moves : goal.returns-clause-moves
returns-clause-moves g c =
    subst (ChangesPacket c.args.mailbox c.args.self.now) (sym (now_is g c))
    (sent_moves c.args.self.now c.packet-packet.new.self c.args.mailbox c.packet-packet.ensures.moves c.packet-packet.ensures.held c.packet-packet.ensures.empty c.packet-packet.ensures.sent
    c.packet-packet.ensures.got (plain_packet c.job.new.packet))

pub returns-clause-lacks : goal.returns-clause-lacks
returns-clause-lacks g c =
    subst (λ (s : SchedulerState). LacksPacket s c.args.mailbox) (sym (now_is g c))
    (sent_lacks c.args.self.now c.packet-packet.new.self c.args.mailbox c.packet-packet.ensures.moves c.packet-packet.ensures.held c.packet-packet.ensures.empty c.packet-packet.ensures.sent
    c.packet-packet.ensures.got (plain_packet c.job.new.packet))

pub returns-clause-sent : goal.returns-clause-sent
returns-clause-sent g c w at =
    let code : c.self.inside.code.now ≡ c.args.self.now.code = ap (λ (s : SchedulerState). s.code) c.self.view_is ∙ c.packet-packet.ensures.moves.code in
    let is = (c.job.ensures.job w (ap (λ (x : CodeParts). slice_get (jobs_at (plain_code x) c.args.thread.now) c.args.k) code ∙ at)).1 in
    subst (λ (s : SchedulerState). HasSent c.args.self.now s c.args.mailbox w.job) (sym (now_is g c))
    (has_sent c.args.self.now c.packet-packet.new.self c.args.mailbox c.packet-packet.ensures.moves c.packet-packet.ensures.held c.packet-packet.ensures.empty c.packet-packet.ensures.sent
    c.packet-packet.ensures.got (plain_packet c.job.new.packet) w.job is)

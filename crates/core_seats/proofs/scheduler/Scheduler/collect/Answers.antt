use Rattle.std.proofs.Common.{◌≡◌, Some, sym, ap, ◌∙◌, subst}
use Rattle.std.specs.Prelude.{slice_set}
use Rattle.thread_code.specs.declared.instruction.CodeParts.{CodeParts}
use Rattle.thread_code.specs.Plain.{plain_code}
use Rattle.combine_tree.specs.Plain.{plain_packet}
use Rattle.copy_slots.specs.Mail.{sender_got, sender_looked}
use Rattle.copy_slots.specs.Ports.{sent}
use Rattle.core_seats.specs.Asking.{Replies}
use Rattle.core_seats.specs.Keeping.{SchedulerState, code_in}
use Rattle.core_seats.specs.Moving.{ChangesPacket, HasGot, HasLooked}
use Rattle.core_seats.proofs.Mails.{state, with_parent}
use Rattle.core_seats.proofs.Send.{got_moves, has_got, looked_moves, has_looked}
use Rattle.core_seats.proofs.scheduler.Scheduler.collect.Goals as goal
use Rattle.core_seats.proofs.scheduler.Scheduler.collect.Goals.{In-None}

-- the state afterwards
now_is : (g : _) (c : goal.Joined-index_mut g) →
    state c.self.inside.code.now c.self.inside.places.items (g.P.Port.state c.collect.new.self) c.self.inside.seats.items (slice_set c.self.inside.hands.items c.args.mailbox (Some c.in-Some.packet))
    ≡ with_parent c.args.self.now c.args.mailbox (sender_got (plain_packet c.in-Some.packet)) (slice_set c.args.self.now.hands c.args.mailbox (Some c.in-Some.packet))
now_is g c =
    ap (λ m. state c.self.inside.code.now c.self.inside.places.items m c.self.inside.seats.items (slice_set c.self.inside.hands.items c.args.mailbox (Some c.in-Some.packet))) c.in-Some.ensures.state
    ∙ ap (λ (s : SchedulerState). with_parent s c.args.mailbox (sender_got (plain_packet c.in-Some.packet)) (slice_set s.hands c.args.mailbox (Some c.in-Some.packet))) c.self.view_is

replies : (g : _) (c : goal.Joined-index_mut g) → Replies (code_in c.args.self.now) c.args.mailbox (sent c.args.self.now.mail c.args.mailbox) (plain_packet c.in-Some.packet)
replies g c =
    let work = ap (λ (s : SchedulerState). s.mail.work.code.value) c.self.view_is ∙ c.requires.seated.work in
    subst (λ (x : CodeParts). Replies (plain_code x) c.args.mailbox (sent c.args.self.now.mail c.args.mailbox) (plain_packet c.in-Some.packet)) work
    (subst (λ l. Replies (plain_code (g.P.Port.state c.self.inside.port).work.code.value) c.args.mailbox l (plain_packet c.in-Some.packet)) (ap (λ (s : SchedulerState). sent s.mail c.args.mailbox) c.self.view_is) c.in-Some.ensures.reply)

pub returns-in-Some-clause-moves : goal.returns-in-Some-clause-moves
returns-in-Some-clause-moves g c =
    subst (ChangesPacket c.args.mailbox c.args.self.now) (sym (now_is g c))
    (got_moves c.args.self.now c.args.mailbox c.requires.seated c.requires.inside c.requires.lacks c.in-Some.packet (replies g c))

pub returns-in-Some-clause-there : goal.returns-in-Some-clause-there
returns-in-Some-clause-there g c _ =
    subst (λ (s : SchedulerState). HasGot c.args.self.now s c.args.mailbox) (sym (now_is g c))
    (has_got c.args.self.now c.args.mailbox c.requires.seated c.requires.inside c.requires.lacks c.in-Some.packet (replies g c))

-- the state afterwards, where the reply isn't there
missed_is : (g : _) (c : In-None g) →
    state c.self.inside.code.now c.self.inside.places.items (g.P.Port.state c.collect.new.self) c.self.inside.seats.items c.self.inside.hands.items
    ≡ with_parent c.args.self.now c.args.mailbox sender_looked c.args.self.now.hands
missed_is g c =
    ap (λ m. state c.self.inside.code.now c.self.inside.places.items m c.self.inside.seats.items c.self.inside.hands.items) c.in-None.ensures.state
    ∙ ap (λ (s : SchedulerState). with_parent s c.args.mailbox sender_looked s.hands) c.self.view_is

pub returns-in-None-clause-moves : goal.returns-in-None-clause-moves
returns-in-None-clause-moves g c =
    subst (ChangesPacket c.args.mailbox c.args.self.now) (sym (missed_is g c)) (looked_moves c.args.self.now c.args.mailbox c.requires.seated c.requires.inside c.requires.lacks)

pub returns-in-None-clause-awaited : goal.returns-in-None-clause-awaited
returns-in-None-clause-awaited g c _ =
    subst (λ (s : SchedulerState). HasLooked c.args.self.now s c.args.mailbox) (sym (missed_is g c)) (has_looked c.args.self.now c.args.mailbox c.requires.seated c.requires.inside c.requires.lacks)

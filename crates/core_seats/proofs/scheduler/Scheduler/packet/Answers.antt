use Rattle.std.proofs.Common.{◌≡◌, ℕ, Option, None, List, sym, ap, ◌∙◌, subst}
use Rattle.thread_code.specs.declared.instruction.CodeParts.{CodeParts}
use Rattle.combine_tree.specs.declared.packet.Packet.{Packet}
use Rattle.core_seats.specs.declared.seat.Seat.{Seat}
use Rattle.core_seats.specs.Posts.{Mail}
use Rattle.combine_tree.specs.Plain.{plain_packet}
use Rattle.copy_slots.specs.declared.view.PacketAt.TheVariants.{Held}
use Rattle.copy_slots.specs.Ports.{ParentIs, sent, got}
use Rattle.core_seats.specs.Keeping.{SchedulerState}
use Rattle.core_seats.specs.Moving.{ChangesPacket}
use Rattle.std.specs.Prelude.{slice_index_or, slice_set, slice_get}
use Rattle.copy_slots.specs.Mail.{sender_opened}
use Rattle.copy_slots.specs.Ports.{after_first}
use Rattle.core_seats.proofs.Mails.{state, with_parent, handed, handed_moves, handed_empty, reply_held, reply_room, opened_moves, opened_held, opened_sent, opened_got, opened_room}
use Rattle.core_seats.proofs.scheduler.Scheduler.packet.Goals as goal

-- the state afterwards, where the packet was in hand
handed_is : (hands : List (Option Packet)) (code : CodeParts) (places : List ℕ) (mail : Mail) (seats : List Seat) (s : SchedulerState) (k : ℕ) (now : Option Packet) → state code places mail seats hands ≡ s → now ≡ None →
    state code places mail seats (slice_set hands k now) ≡ handed s k
handed_is hands code places mail seats s k now view none =
    ap (λ h. state code places mail seats (slice_set hands k h)) none ∙ ap (λ (x : SchedulerState). record x { hands = slice_set x.hands k None }) view

pub returns-in-Some-clause-moves : goal.returns-in-Some-clause-moves
returns-in-Some-clause-moves g c =
    subst (ChangesPacket c.args.mailbox c.args.self.now)
    (sym (handed_is c.self.inside.hands.items c.self.inside.code.now c.self.inside.places.items (g.P.Port.state c.self.inside.port) c.self.inside.seats.items c.args.self.now c.args.mailbox c.take.new.self c.self.view_is c.take.ensures.after))
    (handed_moves c.args.self.now c.args.mailbox)

pub returns-in-Some-clause-empty : goal.returns-in-Some-clause-empty
returns-in-Some-clause-empty g c =
    ap (λ (s : SchedulerState). slice_get s.hands c.args.mailbox)
    (handed_is c.self.inside.hands.items c.self.inside.code.now c.self.inside.places.items (g.P.Port.state c.self.inside.port) c.self.inside.seats.items c.args.self.now c.args.mailbox c.take.new.self c.self.view_is c.take.ensures.after)
    ∙ handed_empty c.args.self.now c.args.mailbox c.requires.seated c.requires.inside c.requires.has

pub returns-in-Some-clause-room : goal.returns-in-Some-clause-room
returns-in-Some-clause-room g c =
    reply_room c.args.self.now c.args.mailbox c.requires.seated c.requires.inside c.requires.has c.in-Some.packet c.index_mut.result.now
    (c.index_mut.ensures.value ∙ ap (λ (s : SchedulerState). slice_index_or s.hands c.args.mailbox c.index_mut.result.now) c.self.view_is) (sym c.take.ensures.value ∙ c.in-Some.is)

hand_is : (g : _) (c : goal.After-first g) → c.index_mut.result.now ≡ slice_index_or c.args.self.now.hands c.args.mailbox c.index_mut.result.now
hand_is g c = c.index_mut.ensures.value ∙ ap (λ (s : SchedulerState). slice_index_or s.hands c.args.mailbox c.index_mut.result.now) c.self.view_is

gone : (g : _) (c : goal.After-first g) → c.index_mut.result.now ≡ None
gone g c = sym c.take.ensures.value ∙ c.in-None.is

-- the state afterwards
abbrev after : (g : _) (c : goal.After-first g) → SchedulerState
after g c = with_parent c.args.self.now c.args.mailbox sender_opened (slice_set c.args.self.now.hands c.args.mailbox None)

now_is : (g : _) (c : goal.After-first g) →
    state c.self.inside.code.now c.self.inside.places.items (g.P.Port.state c.first.new.self) c.self.inside.seats.items (slice_set c.self.inside.hands.items c.args.mailbox c.take.new.self) ≡ after g c
now_is g c =
    ap (λ m. state c.self.inside.code.now c.self.inside.places.items m c.self.inside.seats.items (slice_set c.self.inside.hands.items c.args.mailbox c.take.new.self)) c.first.ensures.state
    ∙ ap (λ h. state c.self.inside.code.now c.self.inside.places.items (after_first c.args.mailbox (g.P.Port.state c.self.inside.port)) c.self.inside.seats.items (slice_set c.self.inside.hands.items c.args.mailbox h)) c.take.ensures.after
    ∙ ap (λ (s : SchedulerState). with_parent s c.args.mailbox sender_opened (slice_set s.hands c.args.mailbox None)) c.self.view_is

pub returns-in-None-clause-moves : goal.returns-in-None-clause-moves
returns-in-None-clause-moves g c =
    subst (ChangesPacket c.args.mailbox c.args.self.now) (sym (now_is g c))
    (opened_moves c.args.self.now c.args.mailbox c.requires.seated c.requires.inside c.requires.has c.index_mut.result.now (hand_is g c) (gone g c))

pub returns-in-None-clause-held : goal.returns-in-None-clause-held
returns-in-None-clause-held g c =
    subst (λ (s : SchedulerState). ParentIs s.mail c.args.mailbox Held) (sym (now_is g c))
    (opened_held c.args.self.now c.args.mailbox c.requires.seated c.requires.inside c.requires.has c.index_mut.result.now (hand_is g c) (gone g c))

pub returns-in-None-clause-room : goal.returns-in-None-clause-room
returns-in-None-clause-room g c =
    opened_room c.args.self.now c.args.mailbox c.requires.seated c.requires.inside c.requires.has c.index_mut.result.now (hand_is g c) (gone g c) (plain_packet c.first.result)
    (ap (λ (s : SchedulerState). slice_get s.mail.blanks c.args.mailbox) (sym c.self.view_is) ∙ c.first.ensures.blank)

pub returns-in-None-clause-sent : goal.returns-in-None-clause-sent
returns-in-None-clause-sent g c =
    ap (λ (s : SchedulerState). sent s.mail c.args.mailbox) (now_is g c)
    ∙ opened_sent c.args.self.now c.args.mailbox c.requires.seated c.requires.inside c.requires.has c.index_mut.result.now (hand_is g c) (gone g c)

pub returns-in-None-clause-got : goal.returns-in-None-clause-got
returns-in-None-clause-got g c =
    ap (λ (s : SchedulerState). got s.mail c.args.mailbox) (now_is g c)
    ∙ opened_got c.args.self.now c.args.mailbox c.requires.seated c.requires.inside c.requires.has c.index_mut.result.now (hand_is g c) (gone g c)

pub returns-in-Some-clause-held : goal.returns-in-Some-clause-held
returns-in-Some-clause-held g c =
    subst (λ (s : SchedulerState). ParentIs s.mail c.args.mailbox Held) (sym c.self.view_is)
    (reply_held c.args.self.now c.args.mailbox c.requires.seated c.requires.inside c.requires.has c.in-Some.packet c.index_mut.result.now
    (c.index_mut.ensures.value ∙ ap (λ (s : SchedulerState). slice_index_or s.hands c.args.mailbox c.index_mut.result.now) c.self.view_is) (sym c.take.ensures.value ∙ c.in-Some.is))

pub returns-in-None-clause-empty : goal.returns-in-None-clause-empty
returns-in-None-clause-empty g c =
    ap (λ (s : SchedulerState). slice_get s.hands c.args.mailbox) (now_is g c) ∙ handed_empty c.args.self.now c.args.mailbox c.requires.seated c.requires.inside c.requires.has

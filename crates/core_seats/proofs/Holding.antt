-- A thread that waits at a fork is put into its seat.
use Rattle.std.proofs.Common.{◌≡◌, suc, ◌+◌, ◌<◌, Some, length, refl, sym, ap, ◌∙◌, subst, arith}
use Rattle.std.specs.Prelude.{slice_get, slice_set}
use Rattle.std.proofs.lemmas.List.{length-set}
use Rattle.core_seats.specs.declared.active.Active.{Active}
use Rattle.core_seats.specs.declared.seat.Seat.{Seat}
use Rattle.core_seats.specs.Descending.{IsHeld}
use Rattle.core_seats.specs.Keeping.{SchedulerState, IsSeated}
use Rattle.core_seats.specs.Waiting.{RestsOrWaits, waits}
use Rattle.core_seats.specs.Serving.{Touches}
use Rattle.core_seats.proofs.Mails.{alike_same}
use Rattle.tick_jobs.proofs.Lists.{get_set, get_set_else}
use Rattle.core_seats.proofs.KeepingLemmas.{grown_same}
use Rattle.core_seats.proofs.WaitingLemmas.{waiting_keeps}

module _ (s : SchedulerState) (seated : IsSeated s) (x : Active) (held : IsHeld s x) (s1 : SchedulerState) (sitting : s1 ≡ record s { seats = slice_set s.seats (x.mailbox + 1) (record { thread = Some x.thread; job = Some x.packet }) }) where
  abbrev seat : Seat
  seat = record { thread = Some x.thread; job = Some x.packet }

  abbrev put : SchedulerState
  put = record s { seats = slice_set s.seats (x.mailbox + 1) seat }

  one : x.mailbox + 1 ≡ suc x.mailbox
  one = omega arith

  in_seats : x.mailbox + 1 < length s.seats
  in_seats =
      let inside = held.active.inside in
      let mailboxes = seated.mailboxes in
      let seats = seated.seats in omega (arith, inside, mailboxes, seats)

  pub hold_between : RestsOrWaits s1 x.mailbox
  hold_between =
      subst (λ z. RestsOrWaits z x.mailbox) (sym sitting) (waits (record {
        thread = x.thread;
        sits = record { seat = seat; at = ap (λ n. slice_get put.seats n) (sym one) ∙ get_set s.seats (x.mailbox + 1) seat in_seats; is = refl; loaded = held.active.loaded; number = held.active.number };
        packet = x.packet;
        holds = refl;
        room = held.active.room;
        waiting = waiting_keeps s s.mail (slice_set s.seats (x.mailbox + 1) seat) s.hands refl refl x.thread (λ j mine. refl) (λ j mine. refl) held.waiting refl;
      }))

  pub hold_touches : Touches x.mailbox s s1
  hold_touches =
      subst (Touches x.mailbox s) (sym sitting) (record {
        code = refl;
        places = refl;
        alike = alike_same s.mail;
        grown = grown_same s.mail;
        seats = λ j n. get_set_else s.seats (x.mailbox + 1) j seat (λ e. n (e ∙ one));
        seat_count = length-set s.seats (x.mailbox + 1) seat;
        children = λ j n. refl;
        parents = λ j n. refl;
        hands = λ j n. refl;
        hand_count = refl;
      })

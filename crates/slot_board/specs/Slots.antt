-- A port with a seat for each end.
use Rattle.std.specs.Prelude.{◌≡◌, ℕ, List, map, slice_get, Option, Some, None, Bool, true, false}
use Rattle.atomic_table.specs.Seated.{TableId}
use Rattle.atomic_table.specs.declared.shared.Seat.{Seat}
use Rattle.copy_slots.specs.declared.view.Sender.{Sender}
use Rattle.copy_slots.specs.declared.view.Taker.{Taker}
use Rattle.copy_slots.specs.declared.view.Role.{Role}
use Rattle.copy_slots.specs.declared.view.Role.TheVariants.{Mailbox}
use Rattle.copy_slots.specs.declared.view.View.{View}
use Rattle.copy_slots.specs.SeatEnds.{HasEnds, Watches}
use Rattle.copy_slots.specs.Ports.{MailboxEnds, PortState, sender_in, taker_in, stops_of, stored_of, is_keeper}
use Rattle.slot_board.specs.declared.seats.EndSeats.{EndSeats}

-- the seat looks at the stop word, and has no end of a mailbox of its own
abbrev pub is_watch : {Q : Type 0} → Role Q → Bool
is_watch (Mailbox k p c) = false
is_watch r = true

module _ {W P Q : Type 0} where
  -- each seat that is there has its end of mailbox k
  pub record PairSits (z : TableId) (work : W) (blanks : List Q) (k : ℕ) (p c : Option (Seat (Option P) (View W Q))) : Type 0 where
    pub of_parent : (s : Seat (Option P) (View W Q)) → p ≡ Some s → HasEnds z work blanks k (Some (sender_in s.me.0.role)) None s
    pub of_child : (s : Seat (Option P) (View W Q)) → c ≡ Some s → HasEnds z work blanks k None (Some (taker_in s.me.0.role)) s

  -- each seat of these that is there has its end of its mailbox
  abbrev pub AllPairs : TableId → W → List Q → List (EndSeats W P Q) → Type 0
  AllPairs z work blanks l = (k : ℕ) (s : EndSeats W P Q) → slice_get l k ≡ Some s → PairSits z work blanks k s.parent s.child

  -- the seat looks at the stop word, by its own view
  abbrev pub IsWatchSeat : TableId → W → Seat (Option P) (View W Q) → Type 0
  IsWatchSeat z work s = Watches z work s.me.0.blanks s.me.0.role s × (is_watch s.me.0.role ≡ true)

  abbrev pub sender_of : Option (Seat (Option P) (View W Q)) → Option (Sender Q)
  sender_of None = None
  sender_of (Some s) = Some (sender_in s.me.0.role)

  abbrev pub taker_of : Option (Seat (Option P) (View W Q)) → Option (Taker Q)
  taker_of None = None
  taker_of (Some s) = Some (taker_in s.me.0.role)

  abbrev pub pair_ends : Option (Seat (Option P) (View W Q)) × Option (Seat (Option P) (View W Q)) → MailboxEnds Q
  pair_ends t = record { parent = sender_of t.0; child = taker_of t.1 }

  -- the state of a port, by its seats at each mailbox and the role of the one that looks at the stop word
  abbrev pub slot_state : TableId → W → List Q → List (Option (Seat (Option P) (View W Q)) × Option (Seat (Option P) (View W Q))) → Role Q → PortState W Q
  slot_state z work blanks pairs watch = record { board = Some z; work = work; blanks = blanks; ends = map pair_ends pairs; tells = false; root = is_keeper watch; stored = stored_of watch; stops = stops_of watch }

  -- the same, by the seats
  abbrev pub port_state : TableId → W → Seat (Option P) (View W Q) → List (EndSeats W P Q) → PortState W Q
  port_state z work watch seats = slot_state z work watch.me.0.blanks (map (λ b. (b.parent, b.child)) seats) watch.me.0.role

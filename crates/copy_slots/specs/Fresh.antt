-- A port with all ends.
use Rattle.std.specs.Prelude.{◌≡◌, ℕ, List, [], map, slice_get, Some, None, true, false}
use Rattle.atomic_table.specs.Seated.{TableId}
use Rattle.copy_slots.specs.declared.both.BothEnds.{BothEnds}
use Rattle.copy_slots.specs.Mail.{new_sender, new_taker}
use Rattle.copy_slots.specs.SeatEnds.{HasEnds}
use Rattle.copy_slots.specs.Ports.{MailboxEnds, PortState, sender_in, taker_in}

-- each seat has both ends of its mailbox, and nothing was done there
module _ {W P Q : Type 0} where
  abbrev pub AllFresh : TableId → W → List Q → List (BothEnds W P Q) → Type 0
  AllFresh z work blanks l = (j : ℕ) (s : BothEnds W P Q) → slice_get l j ≡ Some s → HasEnds z work blanks j (Some new_sender) (Some new_taker) s.seat

-- each seat has both ends of its mailbox, by its own view
module _ {W P Q : Type 0} where
  abbrev pub AllSit : TableId → W → List Q → List (BothEnds W P Q) → Type 0
  AllSit z work blanks l = (k : ℕ) (s : BothEnds W P Q) → slice_get l k ≡ Some s → HasEnds z work blanks k (Some (sender_in s.seat.me.0.role)) (Some (taker_in s.seat.me.0.role)) s.seat

abbrev pub fresh_ends : {Q : Type 0} → MailboxEnds Q
fresh_ends = record { parent = Some new_sender; child = Some new_taker }

-- a port with all ends, before its first call
abbrev pub new_state : {W P Q : Type 0} → (P → Q) → W → List P → PortState W Q
new_state plain work blanks = record { board = None; work = work; blanks = map plain blanks; ends = map (λ p. fresh_ends) blanks; tells = true; root = true; stored = false; stops = [] }

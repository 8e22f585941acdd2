-- How a seat's view is cut in two, and how two are made one.
use Rattle.std.specs.Prelude.{◌≡◌, ℕ, List, [], ◌++◌, Option, Some, None, Bool, true, false}
use Rattle.atomic_table.specs.declared.shared.Seat.{Seat}
use Rattle.atomic_table.specs.declared.shared.Shared.{Shared}
use Rattle.copy_slots.specs.declared.rule.Setup.{Setup}
use Rattle.copy_slots.specs.declared.view.Role.{Role}
use Rattle.copy_slots.specs.declared.view.Role.TheVariants.{Idle, Keeper, Mailbox}
use Rattle.copy_slots.specs.declared.view.View.{View}
use Rattle.copy_slots.specs.Mail.{new_sender, new_taker, posed}
use Rattle.copy_slots.specs.SeatEnds.{HasEnds, Watches}
use Rattle.copy_slots.specs.Steps.{IsFreshSeat}
use Rattle.slot_board.specs.Slots.{is_watch}

abbrev pub pick : {A : Type 0} → Bool → A → A → A
pick true a b = a
pick false a b = b

module _ {Q : Type 0} where
  abbrev pub parent_alone : Role Q → Role Q
  parent_alone (Mailbox k p c) = Mailbox k p None
  parent_alone r = r

  abbrev pub child_alone : Role Q → Role Q
  child_alone (Mailbox k p c) = Mailbox k None c
  child_alone r = Idle []

  -- of two seats that look at the stop word at most one has the root's mark, and keeps it
  abbrev pub role_joined : Role Q → Role Q → Role Q
  role_joined (Idle ws) (Idle us) = Idle (ws ++ us)
  role_joined (Idle ws) (Keeper from st us) = Keeper from st (ws ++ us)
  role_joined (Keeper from st ws) (Idle us) = Keeper from st (ws ++ us)
  role_joined (Keeper from st ws) (Keeper f z us) = Keeper from st (ws ++ us)
  role_joined r t = r

module _ {W Q : Type 0} where
  abbrev pub parent_part : View W Q → View W Q
  parent_part v = posed v (parent_alone v.role)

  abbrev pub child_part : View W Q → View W Q
  child_part v = posed v (child_alone v.role)

  abbrev pub idle : View W Q → View W Q
  idle v = posed v (Idle [])

  abbrev pub joined_view : View W Q → View W Q → View W Q
  joined_view v w = posed v (role_joined v.role w.role)

module _ {W P Q M : Type 0} (top : Shared (Option P) (View W Q) (Setup W P Q) M) where
  -- the seat has both ends of a mailbox, and nothing was done there
  abbrev pub HasBothFresh : Seat (Option P) (View W Q) → Type 0
  HasBothFresh s = (bs : List Q) × (k : ℕ) × IsFreshSeat top bs k s

  -- of such a seat, one keeps the parent's end and another gets the child's
  abbrev pub PartsEnds : Seat (Option P) (View W Q) → Seat (Option P) (View W Q) → Seat (Option P) (View W Q) → Type 0
  PartsEnds old parent child = (bs : List Q) (k : ℕ) → IsFreshSeat top bs k old
      → HasEnds top.table_id top.key.work.value bs k (Some new_sender) None parent × HasEnds top.table_id top.key.work.value bs k None (Some new_taker) child

  -- of a seat that looks at the stop word, one is left and another comes of it; for the root's core that gets all
  abbrev pub PartsWatch : Bool → Seat (Option P) (View W Q) → Seat (Option P) (View W Q) → Seat (Option P) (View W Q) → Type 0
  PartsWatch is_root old left next = (bs : List Q) (role : Role Q) → Watches top.table_id top.key.work.value bs role old
      → Watches top.table_id top.key.work.value bs (pick is_root (Idle []) role) left × Watches top.table_id top.key.work.value bs (pick is_root role (Idle [])) next

  -- both seats look at the stop word
  abbrev pub CanMerge : Seat (Option P) (View W Q) → Seat (Option P) (View W Q) → Type 0
  CanMerge s t = (bs : List Q) × (role : Role Q) × (more : Role Q) × (is_watch role ≡ true) × (is_watch more ≡ true)
      × Watches top.table_id top.key.work.value bs role s × Watches top.table_id top.key.work.value bs more t

  -- one seat comes of both
  abbrev pub MergesWatches : Seat (Option P) (View W Q) → Seat (Option P) (View W Q) → Seat (Option P) (View W Q) → Type 0
  MergesWatches s t both = (bs : List Q) (role more : Role Q) → Watches top.table_id top.key.work.value bs role s → Watches top.table_id top.key.work.value bs more t
      → Watches top.table_id top.key.work.value bs (role_joined role more) both

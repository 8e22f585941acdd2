-- What a seat with ends of a mailbox knows and holds, as its owner states it.
use Rattle.std.specs.Prelude.{◌≡◌, ℕ, ◌+◌, List, [], ◌∷◌, ◌++◌, Option, Some, None, Bool, true, false}
use Rattle.atomic_table.specs.Seated.{TableId}
use Rattle.atomic_table.specs.declared.shared.Seat.{Seat}
use Rattle.copy_slots.specs.declared.view.PacketAt.{PacketAt}
use Rattle.copy_slots.specs.declared.view.PacketAt.TheVariants.{Held}
use Rattle.copy_slots.specs.declared.view.Sender.{Sender}
use Rattle.copy_slots.specs.declared.view.Taker.{Taker}
use Rattle.copy_slots.specs.declared.view.Role.{Role}
use Rattle.copy_slots.specs.declared.view.Role.TheVariants.{Mailbox}
use Rattle.copy_slots.specs.declared.view.View.{View}

-- one turn word and one slot for each mailbox, and the stop word
abbrev pub IsBoard : TableId → ℕ → Type 0
IsBoard z n = (z.words ≡ n + 1) × (z.slots ≡ n)

module _ {P : Type 0} where
  abbrev pub hand_in : PacketAt → ℕ → List (ℕ × Option P)
  hand_in Held k = (k, None) ∷ []
  hand_in _ k = []

  abbrev pub hand_if : Bool → ℕ → List (ℕ × Option P)
  hand_if true k = (k, None) ∷ []
  hand_if false k = []

module _ {P Q : Type 0} where
  abbrev pub parent_hand : Option (Sender Q) → ℕ → List (ℕ × Option P)
  parent_hand None k = []
  parent_hand (Some x) k = hand_in x.place k

  abbrev pub child_hand : Option (Taker Q) → ℕ → List (ℕ × Option P)
  child_hand None k = []
  child_hand (Some y) k = hand_if y.holds k

  -- the slots that are out with a seat: while a packet is in a hand, its slot is empty
  abbrev pub hand : Option (Sender Q) → Option (Taker Q) → ℕ → List (ℕ × Option P)
  hand p c k = parent_hand p k ++ child_hand c k

module _ {W P Q : Type 0} where
  -- the seat has these ends of the mailbox k
  pub record HasEnds (z : TableId) (work : W) (blanks : List Q) (k : ℕ) (p : Option (Sender Q)) (c : Option (Taker Q)) (s : Seat (Option P) (View W Q)) : Type 0 where
    pub table : s.table_id ≡ z
    pub me : s.me ≡ (record { work = Some work; blanks = blanks; role = Mailbox k p c }, hand p c k)

  -- the seat that looks at the stop word, with the root's mark or without
  pub record Watches (z : TableId) (work : W) (blanks : List Q) (role : Role Q) (s : Seat (Option P) (View W Q)) : Type 0 where
    pub table : s.table_id ≡ z
    pub me : s.me ≡ (record { work = Some work; blanks = blanks; role = role }, [])

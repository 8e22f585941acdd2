-- What the steps on the table ask of a seat, and what they say of it.
use Rattle.std.specs.Prelude.{◌≡◌, ◌≢◌, ℕ, ◌<◌, List, [], ◌∷◌, ◌++◌, length, Option, Some, Bool, true, false}
use Rattle.atomic_table.specs.declared.shared.Seat.{Seat}
use Rattle.atomic_table.specs.declared.shared.Shared.{Shared}
use Rattle.copy_slots.specs.declared.rule.Setup.{Setup}
use Rattle.copy_slots.specs.declared.view.PacketAt.{PacketAt}
use Rattle.copy_slots.specs.declared.view.PacketAt.TheVariants.{Held}
use Rattle.copy_slots.specs.declared.view.Sender.{Sender}
use Rattle.copy_slots.specs.declared.view.Taker.{Taker}
use Rattle.copy_slots.specs.declared.view.Role.{Role}
use Rattle.copy_slots.specs.declared.view.Role.TheVariants.{Keeper}
use Rattle.copy_slots.specs.declared.view.View.{View}
use Rattle.copy_slots.specs.Mail.{new_sender, new_taker, turn_between}
use Rattle.copy_slots.specs.SeatEnds.{HasEnds, Watches}

-- as one who has both ends knows it, it is the child's turn, and this is the job that it did not take yet
abbrev pub IsNewJob : {Q : Type 0} → Sender Q → Taker Q → Q → Type 0
IsNewJob x y q = (turn_between x y ≢ 0) × (x.sent ≡ y.taken ++ q ∷ [])

module _ {W P Q M : Type 0} (top : Shared (Option P) (View W Q) (Setup W P Q) M) where
  -- ---- the ends of mailbox k

  -- the seat has the parent's end, whose packet is there
  abbrev pub HasParentAt : ℕ → PacketAt → Seat (Option P) (View W Q) → Type 0
  HasParentAt k p s = (bs : List Q) × (x : Sender Q) × (c : Option (Taker Q)) × (x.place ≡ p) × HasEnds top.table_id top.key.work.value bs k (Some x) c s

  -- it has the packet in its hand, and this may be sent next
  abbrev pub CanOffer : (W → ℕ → List Q → Type 0) → ℕ → Q → Seat (Option P) (View W Q) → Type 0
  CanOffer asks k q s = (bs : List Q) × (x : Sender Q) × (c : Option (Taker Q)) × (x.place ≡ Held) × HasEnds top.table_id top.key.work.value bs k (Some x) c s × asks top.key.work.value k (x.sent ++ q ∷ [])

  -- the seat has the child's end, with its packet in hand or without
  abbrev pub HasChildWith : ℕ → Bool → Seat (Option P) (View W Q) → Type 0
  HasChildWith k held s = (bs : List Q) × (b : Option (Sender Q)) × (y : Taker Q) × (y.holds ≡ held) × HasEnds top.table_id top.key.work.value bs k b (Some y) s

  -- it has the packet in its hand, and this answers the jobs
  abbrev pub CanAnswer : (W → ℕ → List Q → Q → Type 0) → ℕ → Q → Seat (Option P) (View W Q) → Type 0
  CanAnswer answers k q s = (bs : List Q) × (b : Option (Sender Q)) × (y : Taker Q) × (y.holds ≡ true) × HasEnds top.table_id top.key.work.value bs k b (Some y) s × answers top.key.work.value k y.taken q

  -- a step does this to the parent's end, and leaves the child's
  abbrev pub ChangesParent : ℕ → (Sender Q → Sender Q) → Seat (Option P) (View W Q) → Seat (Option P) (View W Q) → Type 0
  ChangesParent k f old new = (bs : List Q) (x : Sender Q) (c : Option (Taker Q)) → HasEnds top.table_id top.key.work.value bs k (Some x) c old → HasEnds top.table_id top.key.work.value bs k (Some (f x)) c new

  -- a step does this to the child's end, and leaves the parent's
  abbrev pub ChangesChild : ℕ → (Taker Q → Taker Q) → Seat (Option P) (View W Q) → Seat (Option P) (View W Q) → Type 0
  ChangesChild k f old new = (bs : List Q) (b : Option (Sender Q)) (y : Taker Q) → HasEnds top.table_id top.key.work.value bs k b (Some y) old → HasEnds top.table_id top.key.work.value bs k b (Some (f y)) new

  -- this holds of the parent's end, of the child's, and of both
  abbrev pub OfParent : ℕ → Seat (Option P) (View W Q) → (List Q → Sender Q → Type 0) → Type 0
  OfParent k s fact = (bs : List Q) (x : Sender Q) (c : Option (Taker Q)) → HasEnds top.table_id top.key.work.value bs k (Some x) c s → fact bs x

  abbrev pub OfChild : ℕ → Seat (Option P) (View W Q) → (Taker Q → Type 0) → Type 0
  OfChild k s fact = (bs : List Q) (b : Option (Sender Q)) (y : Taker Q) → HasEnds top.table_id top.key.work.value bs k b (Some y) s → fact y

  abbrev pub OfBoth : ℕ → Seat (Option P) (View W Q) → (Sender Q → Taker Q → Type 0) → Type 0
  OfBoth k s fact = (bs : List Q) (x : Sender Q) (y : Taker Q) → HasEnds top.table_id top.key.work.value bs k (Some x) (Some y) s → fact x y

  -- ---- the stop word

  -- the seat looks at the stop word, and has the root's mark
  abbrev pub IsKeeper : Seat (Option P) (View W Q) → Type 0
  IsKeeper s = (bs : List Q) × (from : ℕ) × (st : Bool) × (ws : List ℕ) × Watches top.table_id top.key.work.value bs (Keeper from st ws) s

  abbrev pub LooksAtStop : Seat (Option P) (View W Q) → Type 0
  LooksAtStop s = (bs : List Q) × (role : Role Q) × Watches top.table_id top.key.work.value bs role s

  -- a step does this to what the seat saw and stored of it
  abbrev pub ChangesWatch : (Role Q → Role Q) → Seat (Option P) (View W Q) → Seat (Option P) (View W Q) → Type 0
  ChangesWatch f old new = (bs : List Q) (role : Role Q) → Watches top.table_id top.key.work.value bs role old → Watches top.table_id top.key.work.value bs (f role) new

  -- where the seat has the root's mark, this holds of what it stored
  abbrev pub OfKeeper : Seat (Option P) (View W Q) → (Bool → Type 0) → Type 0
  OfKeeper s fact = (bs : List Q) (from : ℕ) (st : Bool) (ws : List ℕ) → Watches top.table_id top.key.work.value bs (Keeper from st ws) s → fact st

  -- ---- as the mailboxes are dealt

  -- the seat has the root's mark and all ends of the mailboxes from this one on, and there is such a mailbox
  abbrev pub CanDeal : ℕ → Seat (Option P) (View W Q) → Type 0
  CanDeal from s = (bs : List Q) × (from < length bs) × Watches top.table_id top.key.work.value bs (Keeper from false []) s

  -- it has those of so many mailboxes, which are all
  abbrev pub CanDealAll : ℕ → Seat (Option P) (View W Q) → Type 0
  CanDealAll count s = (bs : List Q) × (count ≡ length bs) × Watches top.table_id top.key.work.value bs (Keeper 0 false []) s

  -- the seat has both ends of mailbox k, and nothing was done there
  abbrev pub IsFreshSeat : List Q → ℕ → Seat (Option P) (View W Q) → Type 0
  IsFreshSeat bs k s = HasEnds top.table_id top.key.work.value bs k (Some new_sender) (Some new_taker) s

  -- what the keeper had of the mailboxes, from one on, it has from another on, and this holds of what it gave away
  abbrev pub HandsOut : ℕ → ℕ → Seat (Option P) (View W Q) → Seat (Option P) (View W Q) → (List Q → Type 0) → Type 0
  HandsOut from to old new fact = (bs : List Q) → Watches top.table_id top.key.work.value bs (Keeper from false []) old → Watches top.table_id top.key.work.value bs (Keeper to false []) new × fact bs

  -- the same where all mailboxes are given away
  abbrev pub HandsOutAll : ℕ → Seat (Option P) (View W Q) → Seat (Option P) (View W Q) → (List Q → Type 0) → Type 0
  HandsOutAll count old new fact = (bs : List Q) → count ≡ length bs → Watches top.table_id top.key.work.value bs (Keeper 0 false []) old → Watches top.table_id top.key.work.value bs (Keeper count false []) new × fact bs

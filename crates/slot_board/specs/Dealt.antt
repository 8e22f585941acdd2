-- How the ends of all mailboxes are dealt to the cores.
use Rattle.std.specs.Prelude.{◌≡◌, ℕ, zero, suc, ◌<◌, ◌≤◌, ◌^◌, ◌==◌, List, [], ◌∷◌, ◌++◌, length, map, slice_get, Option, Some, None, false}
use Rattle.atomic_table.specs.Seated.{TableId}
use Rattle.atomic_table.specs.declared.shared.Seat.{Seat}
use Rattle.atomic_table.specs.declared.shared.Shared.{Shared}
use Rattle.copy_slots.specs.declared.rule.Setup.{Setup}
use Rattle.copy_slots.specs.declared.view.Role.{Role}
use Rattle.copy_slots.specs.declared.view.Role.TheVariants.{Idle, Keeper}
use Rattle.copy_slots.specs.declared.view.View.{View}
use Rattle.copy_slots.specs.Mail.{new_sender, new_taker}
use Rattle.copy_slots.specs.SeatEnds.{IsBoard, HasEnds, Watches}
use Rattle.copy_slots.specs.Ports.{MailboxEnds, PortState}
use Rattle.slot_board.specs.declared.seats.EndSeats.{EndSeats}
use Rattle.slot_board.specs.declared.seats.CoreSeats.{CoreSeats}
use Rattle.slot_board.specs.Slots.{AllPairs, IsWatchSeat, sender_of, taker_of, port_state}
use Rattle.slot_board.specs.Splits.{pick}

-- ---- what each core gets

-- of a mailbox between these two cores, the ends that this core has, before their first call
abbrev pub ends_of_core : {Q : Type 0} → ℕ → ℕ × ℕ → MailboxEnds Q
ends_of_core core e = record { parent = pick (e.0 == core) (Some new_sender) None; child = pick (e.1 == core) (Some new_taker) None }

module _ {W Q : Type 0} (z : TableId) (work : W) (blanks : List Q) (ends : List (ℕ × ℕ)) (root : ℕ) where
  -- the port of a core, before its first call
  abbrev pub core_state : ℕ → PortState W Q
  core_state core = record { board = Some z; work = work; blanks = blanks; ends = map (ends_of_core core) ends; tells = false; root = core == root; stored = false; stops = [] }

  -- the ports of the first so many cores
  abbrev pub new_ports : ℕ → List (PortState W Q)
  new_ports zero = []
  new_ports (suc n) = new_ports n ++ core_state n ∷ []

-- ---- seats

module _ {W P Q : Type 0} where
  -- both ends of mailbox k, each in a seat of its own, with nothing done
  pub record AreNewEnds (z : TableId) (work : W) (blanks : List Q) (k : ℕ) (p c : Option (Seat (Option P) (View W Q))) : Type 0 where
    pub parent : (s : Seat (Option P) (View W Q)) × (p ≡ Some s) × HasEnds z work blanks k (Some new_sender) None s
    pub child : (s : Seat (Option P) (View W Q)) × (c ≡ Some s) × HasEnds z work blanks k None (Some new_taker) s

  abbrev pub AllNew : TableId → W → List Q → List (EndSeats W P Q) → Type 0
  AllNew z work blanks l = (j : ℕ) (s : EndSeats W P Q) → slice_get l j ≡ Some s → AreNewEnds z work blanks j s.parent s.child

  -- of a mailbox between these two cores, what this core takes and what it leaves
  abbrev pub taken_by_core : ℕ → ℕ × ℕ → EndSeats W P Q → EndSeats W P Q
  taken_by_core core e p = record { parent = pick (e.0 == core) p.parent None; child = pick (e.1 == core) p.child None }

  abbrev pub left_by_core : ℕ → ℕ × ℕ → EndSeats W P Q → EndSeats W P Q
  left_by_core core e p = record { parent = pick (e.0 == core) None p.parent; child = pick (e.1 == core) None p.child }

  pub record IsCut (core : ℕ) (ends : List (ℕ × ℕ)) (old mine rest : List (EndSeats W P Q)) : Type 0 where
    pub mine_long : length mine ≡ length old
    pub rest_long : length rest ≡ length old
    pub mine_at : (k : ℕ) (e : ℕ × ℕ) (p : EndSeats W P Q) → slice_get ends k ≡ Some e → slice_get old k ≡ Some p → slice_get mine k ≡ Some (taken_by_core core e p)
    pub rest_at : (k : ℕ) (e : ℕ × ℕ) (p : EndSeats W P Q) → slice_get ends k ≡ Some e → slice_get old k ≡ Some p → slice_get rest k ≡ Some (left_by_core core e p)

  -- the seats of a core belong to the table
  pub record BelongsToTable (z : TableId) (work : W) (h : CoreSeats W P Q) : Type 0 where
    pub sized : (length h.seats.items < 2 ^ 32) × IsBoard z (length h.seats.items)
    pub watches : IsWatchSeat z work h.watch
    pub pairs : AllPairs z work h.watch.me.0.blanks h.seats.items

  abbrev pub BelongToTable : TableId → W → List (CoreSeats W P Q) → Type 0
  BelongToTable z work l = (c : ℕ) (h : CoreSeats W P Q) → slice_get l c ≡ Some h → BelongsToTable z work h

  -- the port that these seats make
  abbrev pub seats_state : TableId → W → CoreSeats W P Q → PortState W Q
  seats_state z work h = port_state z work h.watch h.seats.items

  -- what is left for the cores from this one on
  pub record IsLeftToDeal (z : TableId) (work : W) (blanks : List Q) (core : ℕ) (ends : List (ℕ × ℕ)) (all : List (EndSeats W P Q)) : Type 0 where
    pub long : length all ≡ length ends
    pub sits : AllPairs z work blanks all
    pub parent : (k : ℕ) (e : ℕ × ℕ) (p : EndSeats W P Q) → slice_get ends k ≡ Some e → slice_get all k ≡ Some p → core ≤ e.0 → sender_of p.parent ≡ Some new_sender
    pub child : (k : ℕ) (e : ℕ × ℕ) (p : EndSeats W P Q) → slice_get ends k ≡ Some e → slice_get all k ≡ Some p → core ≤ e.1 → taker_of p.child ≡ Some new_taker

-- the seat that others are split off has the root's mark until the root's core gets it
abbrev pub spare_role : {Q : Type 0} → ℕ → ℕ → ℕ → Role Q
spare_role root n zero = Keeper n false []
spare_role root n (suc core) = pick (core == root) (Idle []) (spare_role root n core)

module _ {W P Q M : Type 0} (top : Shared (Option P) (View W Q) (Setup W P Q) M) where
  -- no core has its seats yet: the root's mark is in one seat, and both ends of each mailbox in others
  abbrev pub CanDealCores : List (ℕ × ℕ) → Seat (Option P) (View W Q) → List (EndSeats W P Q) → Type 0
  CanDealCores ends spare all = (bs : List Q) × Watches top.table_id top.key.work.value bs (Keeper (length ends) false []) spare × IsLeftToDeal top.table_id top.key.work.value bs 0 ends all

  -- these are the seats of the cores, and make their ports
  abbrev pub DealsCores : List (ℕ × ℕ) → ℕ → ℕ → Seat (Option P) (View W Q) → List (EndSeats W P Q) → List (CoreSeats W P Q) → Type 0
  DealsCores ends root cores spare all hands = (bs : List Q) → Watches top.table_id top.key.work.value bs (Keeper (length ends) false []) spare → IsLeftToDeal top.table_id top.key.work.value bs 0 ends all
      → BelongToTable top.table_id top.key.work.value hands × (map (seats_state top.table_id top.key.work.value) hands ≡ new_ports top.table_id top.key.work.value bs ends root cores)

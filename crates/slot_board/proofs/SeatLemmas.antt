-- What a port knows of the seat that has one end of a mailbox, before a step of that end and after it.
use Rattle.std.proofs.Common.{◌≡◌, ℕ, ◌<◌, ◌^◌, List, [], ◌∷◌, ◌++◌, length, set, get_or, sym, ap, ◌∙◌, subst, length-set, Option, Some, None, Bool, slice_get}
use Rattle.atomic_table.specs.declared.shared.Seat.{Seat}
use Rattle.copy_slots.specs.declared.view.PacketAt.{PacketAt}
use Rattle.copy_slots.specs.declared.view.Sender.{Sender}
use Rattle.copy_slots.specs.declared.view.Taker.{Taker}
use Rattle.copy_slots.specs.declared.view.View.{View}
use Rattle.copy_slots.specs.SeatEnds.{IsBoard, HasEnds}
use Rattle.copy_slots.specs.Ports.{PortState, MailboxEnds, parent_at, child_at, on_parent, on_child, sent_by, taken_by, IsParent, IsChild, sender_in, taker_in}
use Rattle.copy_slots.specs.Steps.{HasParentAt, HasChildWith, ChangesParent, ChangesChild}
use Rattle.copy_slots.proofs.EndLists.{all_ends, parent_inside, parent_is, child_inside, child_is}
use Rattle.copy_slots.proofs.PortLemmas.{set_at}
use Rattle.copy_slots.proofs.Seating.{at_index}
use Rattle.slot_board.specs.declared.port.SlotPort.{SlotPort}
use Rattle.slot_board.specs.declared.seats.EndSeats.{EndSeats}
use Rattle.slot_board.specs.Slots.{PairSits, AllPairs, IsWatchSeat, pair_ends, sender_of, taker_of, port_state}
use Rattle.slot_board.proofs.Pairing.{both_of, parent_state, parent_repaired, child_state, child_repaired, repairs}

module _ {W P Q : Type 0} (s : SlotPort W P Q) where
  abbrev seats : List (EndSeats W P Q)
  seats = s.seats.items

  abbrev ends : List (EndSeats W P Q) → List (MailboxEnds Q)
  ends l = all_ends both_of pair_ends l

  abbrev state : List (EndSeats W P Q) → PortState W Q
  state l = port_state s.top.now.shared.table_id s.top.now.shared.key.work.value s.watch l

  abbrev Sits : ℕ → EndSeats W P Q → Type 0
  Sits k b = PairSits s.top.now.shared.table_id s.top.now.shared.key.work.value s.watch.me.0.blanks k b.parent b.child

  abbrev Has : ℕ → Option (Sender Q) → Option (Taker Q) → Seat (Option P) (View W Q) → Type 0
  Has k p c t = HasEnds s.top.now.shared.table_id s.top.now.shared.key.work.value s.watch.me.0.blanks k p c t

  -- a board with mailbox k, as each step asks for
  abbrev Board : ℕ → Type 0
  Board k = (n : ℕ) × IsBoard s.top.now.shared.table_id n × (k < n)

  -- the ghost fields of the port with these seats
  abbrev Fields : List (EndSeats W P Q) → Type 0
  Fields l = record {
    sized : (length l < 2 ^ 32) × IsBoard s.top.now.shared.table_id (length l);
    watches : IsWatchSeat s.top.now.shared.table_id s.top.now.shared.key.work.value s.watch;
    pairs : AllPairs s.top.now.shared.table_id s.top.now.shared.key.work.value s.watch.me.0.blanks l;
  }

  fields : (k : ℕ) (b : EndSeats W P Q) → Sits k b → Fields (set seats k b)
  fields k b sits = record {
    sized = subst (λ n. (n < 2 ^ 32) × IsBoard s.top.now.shared.table_id n) (sym (length-set seats k b)) s.sized;
    watches = s.watches;
    pairs = repairs s.top.now.shared.table_id s.top.now.shared.key.work.value s.watch.me.0.blanks seats k b s.pairs sits;
  }

  -- ---- the parent's end

  module _ (k : ℕ) (p : PacketAt) (is : IsParent (parent_at (ends seats) k) p) where
    pub parent_near : k < length seats
    parent_near = parent_inside both_of pair_ends seats k p is

    pub parent_board : Board k
    parent_board = (length seats, s.sized.1, parent_near)

    module _ (a : EndSeats W P Q) (value : a ≡ get_or seats k a) where
      parent_there : slice_get seats k ≡ Some a
      parent_there = at_index seats k a parent_near value

      -- what the port has there is its end
      pub parent_found : (o : Option (Seat (Option P) (View W Q))) → a.parent ≡ o → IsParent (sender_of o) p
      parent_found o e = subst (λ z. IsParent (sender_of z) p) e (subst (λ z. IsParent z p) (parent_is both_of pair_ends seats k a parent_there) is)

      module _ (seat : Seat (Option P) (View W Q)) (here : a.parent ≡ Some seat) where
        pub parent_sits : Has k (Some (sender_in seat.me.0.role)) None seat
        parent_sits = (s.pairs k a parent_there).of_parent seat here

        -- what the step asks of the seat
        pub parent_has : HasParentAt s.top.now.shared k p seat
        parent_has = (s.watch.me.0.blanks, sender_in seat.me.0.role, None, parent_found (Some seat) here, parent_sits)

        pub parent_says : parent_at (ends seats) k ≡ Some (sender_in seat.me.0.role)
        parent_says = parent_is both_of pair_ends seats k a parent_there ∙ ap sender_of here

        -- the same with what may be sent next
        pub parent_can : (asks : W → ℕ → List Q → Type 0) (q : Q) → asks s.top.now.shared.key.work.value k (sent_by (parent_at (ends seats) k) ++ q ∷ [])
            → (bs : List Q) × (x : Sender Q) × (o : Option (Taker Q)) × (x.place ≡ p) × HasEnds s.top.now.shared.table_id s.top.now.shared.key.work.value bs k (Some x) o seat × asks s.top.now.shared.key.work.value k (x.sent ++ q ∷ [])
        parent_can asks q h = (s.watch.me.0.blanks, sender_in seat.me.0.role, None, parent_found (Some seat) here, parent_sits, subst (λ z. asks s.top.now.shared.key.work.value k (sent_by z ++ q ∷ [])) parent_says h)

        module _ (next : Seat (Option P) (View W Q)) (f : Sender Q → Sender Q) (step : ChangesParent s.top.now.shared k f seat next) where
          abbrev parent_next : EndSeats W P Q
          parent_next = record { parent = Some next; child = a.child }

          parent_now : Has k (Some (f (sender_in seat.me.0.role))) None next
          parent_now = step s.watch.me.0.blanks (sender_in seat.me.0.role) None parent_sits

          -- after the step: the ghost fields of the port, and its state
          pub parent_fields : Fields (set seats k parent_next)
          parent_fields = fields k parent_next (parent_repaired s.top.now.shared.table_id s.top.now.shared.key.work.value s.watch.me.0.blanks k a next (f (sender_in seat.me.0.role)) (s.pairs k a parent_there) parent_now)

          pub parent_after : state (set seats k parent_next) ≡ record (state seats) { ends = on_parent (ends seats) k f }
          parent_after = parent_state s.top.now.shared.key.work.value s.watch.me.0.blanks s.watch.me.0.role s.top.now.shared.table_id seats k a seat next f parent_there here parent_now

  -- ---- the child's end

  module _ (k : ℕ) (b : Bool) (is : IsChild (child_at (ends seats) k) b) where
    pub child_near : k < length seats
    child_near = child_inside both_of pair_ends seats k b is

    pub child_board : Board k
    child_board = (length seats, s.sized.1, child_near)

    module _ (a : EndSeats W P Q) (value : a ≡ get_or seats k a) where
      child_there : slice_get seats k ≡ Some a
      child_there = at_index seats k a child_near value

      -- what the port has there is its end
      pub child_found : (o : Option (Seat (Option P) (View W Q))) → a.child ≡ o → IsChild (taker_of o) b
      child_found o e = subst (λ z. IsChild (taker_of z) b) e (subst (λ z. IsChild z b) (child_is both_of pair_ends seats k a child_there) is)

      module _ (seat : Seat (Option P) (View W Q)) (here : a.child ≡ Some seat) where
        pub child_sits : Has k None (Some (taker_in seat.me.0.role)) seat
        child_sits = (s.pairs k a child_there).of_child seat here

        -- what the step asks of the seat
        pub child_has : HasChildWith s.top.now.shared k b seat
        child_has = (s.watch.me.0.blanks, None, taker_in seat.me.0.role, child_found (Some seat) here, child_sits)

        pub child_says : child_at (ends seats) k ≡ Some (taker_in seat.me.0.role)
        child_says = child_is both_of pair_ends seats k a child_there ∙ ap taker_of here

        -- the same with what may be sent back
        pub child_can : (answers : W → ℕ → List Q → Q → Type 0) (q : Q) → answers s.top.now.shared.key.work.value k (taken_by (child_at (ends seats) k)) q
            → (bs : List Q) × (o : Option (Sender Q)) × (y : Taker Q) × (y.holds ≡ b) × HasEnds s.top.now.shared.table_id s.top.now.shared.key.work.value bs k o (Some y) seat × answers s.top.now.shared.key.work.value k y.taken q
        child_can answers q h = (s.watch.me.0.blanks, None, taker_in seat.me.0.role, child_found (Some seat) here, child_sits, subst (λ z. answers s.top.now.shared.key.work.value k (taken_by z) q) child_says h)

        module _ (next : Seat (Option P) (View W Q)) (f : Taker Q → Taker Q) (step : ChangesChild s.top.now.shared k f seat next) where
          abbrev child_next : EndSeats W P Q
          child_next = record { parent = a.parent; child = Some next }

          child_now : Has k None (Some (f (taker_in seat.me.0.role))) next
          child_now = step s.watch.me.0.blanks None (taker_in seat.me.0.role) child_sits

          -- after the step: the ghost fields of the port, and its state
          pub child_fields : Fields (set seats k child_next)
          child_fields = fields k child_next (child_repaired s.top.now.shared.table_id s.top.now.shared.key.work.value s.watch.me.0.blanks k a next (f (taker_in seat.me.0.role)) (s.pairs k a child_there) child_now)

          pub child_after : state (set seats k child_next) ≡ record (state seats) { ends = on_child (ends seats) k f }
          child_after = child_state s.top.now.shared.key.work.value s.watch.me.0.blanks s.watch.me.0.role s.top.now.shared.table_id seats k a seat next f child_there here child_now

          pub child_new : child_at (ends (set seats k child_next)) k ≡ Some (f (taker_in seat.me.0.role))
          child_new = child_is both_of pair_ends (set seats k child_next) k child_next (set_at seats k child_next child_near) ∙ ap (λ m. Some (taker_in m.0.role)) child_now.me

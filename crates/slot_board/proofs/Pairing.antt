-- A port with a seat for each end.
use Rattle.std.proofs.Common.{◌≡◌, ℕ, List, map, set, sym, refl, ap, ◌∙◌, subst, ⊎_elim, Option, Some, None, Bool, true, slice_get}
use Rattle.atomic_table.specs.Seated.{TableId}
use Rattle.atomic_table.specs.declared.shared.Seat.{Seat}
use Rattle.copy_slots.specs.declared.view.Sender.{Sender}
use Rattle.copy_slots.specs.declared.view.Taker.{Taker}
use Rattle.copy_slots.specs.declared.view.Role.{Role}
use Rattle.copy_slots.specs.declared.view.Role.TheVariants.{Idle, Keeper, Mailbox}
use Rattle.copy_slots.specs.declared.view.View.{View}
use Rattle.slot_board.specs.declared.seats.EndSeats.{EndSeats}
use Rattle.copy_slots.specs.Mail.{role_checked, role_stopped}
use Rattle.copy_slots.specs.SeatEnds.{HasEnds}
use Rattle.copy_slots.specs.Ports.{MailboxEnds, PortState, on_sender, on_taker, on_parent, on_child, sender_in, taker_in, is_keeper, stop_word, after_check, after_stop}
use Rattle.slot_board.specs.Slots.{PairSits, AllPairs, sender_of, taker_of, pair_ends, slot_state, is_watch}
use Rattle.copy_slots.proofs.SeatEndLemmas.{role_is}
use Rattle.copy_slots.proofs.EndLists.{all_ends, parent_moved, child_moved}
use Rattle.copy_slots.proofs.Seating.{set_cases}

module _ {W P Q : Type 0} where
  abbrev pub both_of : EndSeats W P Q → Option (Seat (Option P) (View W Q)) × Option (Seat (Option P) (View W Q))
  both_of b = (b.parent, b.child)

module _ {W P Q : Type 0} (z : TableId) (work : W) (blanks : List Q) where
  pub repairs : (l : List (EndSeats W P Q)) (k : ℕ) (b : EndSeats W P Q) → AllPairs z work blanks l → PairSits z work blanks k b.parent b.child → AllPairs z work blanks (set l k b)
  repairs l k b all h j s e = ⊎_elim (λ (t : (j ≡ k) × (b ≡ s)). subst (λ (q : ℕ × EndSeats W P Q). PairSits z work blanks q.0 q.1.parent q.1.child) (λ i. (sym t.0 i, t.1 i)) h)
      (λ t. all j s t) (set_cases l k j b s e)

  some_seat : (s t : Seat (Option P) (View W Q)) → Some s ≡ Some t → s ≡ t
  some_seat s t e = cc

  pub parent_repaired : (k : ℕ) (a : EndSeats W P Q) (t : Seat (Option P) (View W Q)) (x : Sender Q) → PairSits z work blanks k a.parent a.child → HasEnds z work blanks k (Some x) None t → PairSits z work blanks k (Some t) a.child
  parent_repaired k a t x old h = record {
    of_parent = λ s e. subst (λ (q : Seat (Option P) (View W Q)). HasEnds z work blanks k (Some (sender_in q.me.0.role)) None q) (some_seat t s e)
        (subst (λ (q : Sender Q). HasEnds z work blanks k (Some q) None t) (sym (ap sender_in (role_is z work blanks k (Some x) None t h))) h);
    of_child = old.of_child;
  }

  pub child_repaired : (k : ℕ) (a : EndSeats W P Q) (t : Seat (Option P) (View W Q)) (y : Taker Q) → PairSits z work blanks k a.parent a.child → HasEnds z work blanks k None (Some y) t → PairSits z work blanks k a.parent (Some t)
  child_repaired k a t y old h = record {
    of_parent = old.of_parent;
    of_child = λ s e. subst (λ (q : Seat (Option P) (View W Q)). HasEnds z work blanks k None (Some (taker_in q.me.0.role)) q) (some_seat t s e)
        (subst (λ (q : Taker Q). HasEnds z work blanks k None (Some q) t) (sym (ap taker_in (role_is z work blanks k None (Some y) t h))) h);
  }

module _ {W P Q : Type 0} (work : W) (blanks : List Q) (watch : Role Q) where
  abbrev pub state_of : TableId → List (EndSeats W P Q) → PortState W Q
  state_of z l = slot_state z work blanks (map both_of l) watch

  pub parent_state : (z : TableId) (l : List (EndSeats W P Q)) (k : ℕ) (a : EndSeats W P Q) (s t : Seat (Option P) (View W Q)) (g : Sender Q → Sender Q) → slice_get l k ≡ Some a → a.parent ≡ Some s → HasEnds z work blanks k (Some (g (sender_in s.me.0.role))) None t
      → state_of z (set l k (record { parent = Some t; child = a.child })) ≡ record (state_of z l) { ends = on_parent (all_ends both_of pair_ends l) k g }
  parent_state z l k a s t g e is h = let b : EndSeats W P Q = record { parent = Some t; child = a.child } in
      ap (λ (es : List (MailboxEnds Q)). let st : PortState W Q = record (state_of z l) { ends = es } in st)
      (parent_moved both_of pair_ends l k a b g e (ap (λ (o : Option (Sender Q)). let st : MailboxEnds Q = record { parent = o; child = taker_of a.child } in st)
      (ap (λ (r : Role Q). Some (sender_in r)) (role_is z work blanks k _ None t h) ∙ ap (λ (o : Option (Seat (Option P) (View W Q))). on_sender g (sender_of o)) (sym is))))

  pub child_state : (z : TableId) (l : List (EndSeats W P Q)) (k : ℕ) (a : EndSeats W P Q) (s t : Seat (Option P) (View W Q)) (g : Taker Q → Taker Q) → slice_get l k ≡ Some a → a.child ≡ Some s → HasEnds z work blanks k None (Some (g (taker_in s.me.0.role))) t
      → state_of z (set l k (record { parent = a.parent; child = Some t })) ≡ record (state_of z l) { ends = on_child (all_ends both_of pair_ends l) k g }
  child_state z l k a s t g e is h = let b : EndSeats W P Q = record { parent = a.parent; child = Some t } in
      ap (λ (es : List (MailboxEnds Q)). let st : PortState W Q = record (state_of z l) { ends = es } in st)
      (child_moved both_of pair_ends l k a b g e (ap (λ (o : Option (Taker Q)). let st : MailboxEnds Q = record { parent = sender_of a.parent; child = o } in st)
      (ap (λ (r : Role Q). Some (taker_in r)) (role_is z work blanks k None _ t h) ∙ ap (λ (o : Option (Seat (Option P) (View W Q))). on_taker g (taker_of o)) (sym is))))

module _ {W P Q : Type 0} (z : TableId) (work : W) (blanks : List Q) (l : List (EndSeats W P Q)) where
  pub watch_checked : (w : ℕ) (role : Role Q) → is_watch role ≡ true → is_watch (role_checked w role) ≡ true
  watch_checked w (Idle ws) e = refl
  watch_checked w (Keeper from st ws) e = refl
  watch_checked w (Mailbox k p c) e = e

  pub watch_stopped : (role : Role Q) → is_watch role ≡ true → is_watch (role_stopped role) ≡ true
  watch_stopped (Idle ws) e = refl
  watch_stopped (Keeper from st ws) e = refl
  watch_stopped (Mailbox k p c) e = e

  pub checked_state : (stopped : Bool) (role : Role Q) → is_watch role ≡ true → slot_state z work blanks (map both_of l) (role_checked (stop_word stopped) role) ≡ after_check stopped (slot_state z work blanks (map both_of l) role)
  checked_state w (Idle ws) e = refl
  checked_state w (Keeper from st ws) e = refl
  checked_state w (Mailbox k p c) e = absurd (cc)

  pub stopped_state : (role : Role Q) → is_keeper role ≡ true → slot_state z work blanks (map both_of l) (role_stopped role) ≡ after_stop (slot_state z work blanks (map both_of l) role)
  stopped_state (Idle ws) e = absurd (cc)
  stopped_state (Keeper from st ws) e = refl
  stopped_state (Mailbox k p c) e = absurd (cc)

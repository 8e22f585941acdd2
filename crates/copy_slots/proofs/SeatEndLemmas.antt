-- What a seat knows and holds after a step, as its owner states it.
use Rattle.std.proofs.Common.{◌≡◌, ◌≢◌, ℕ, List, [], ◌∷◌, ◌++◌, sym, refl, ap, ◌∙◌, subst, Option, Some, None, Bool, true, false}
use Rattle.atomic_table.specs.Table.{Me, rest}
use Rattle.atomic_table.specs.Seated.{TableId}
use Rattle.atomic_table.specs.declared.shared.Seat.{Seat}
use Rattle.copy_slots.specs.declared.view.PacketAt.{PacketAt}
use Rattle.copy_slots.specs.declared.view.PacketAt.TheVariants.{Fresh, Held, Out}
use Rattle.copy_slots.specs.declared.view.Sender.{Sender}
use Rattle.copy_slots.specs.declared.view.Taker.{Taker}
use Rattle.copy_slots.specs.declared.view.Role.{Role}
use Rattle.copy_slots.specs.declared.view.Role.TheVariants.{Mailbox}
use Rattle.copy_slots.specs.declared.view.View.{View}
use Rattle.copy_slots.specs.Mail.{posed, spent}
use Rattle.copy_slots.specs.SeatEnds.{hand_in, hand_if, parent_hand, child_hand, hand, HasEnds, Watches}

module _ {Q : Type 0} where
  abbrev place_of : Role Q → PacketAt
  place_of (Mailbox k (Some x) c) = x.place
  place_of r = Fresh

  abbrev holds_of : Role Q → Bool
  holds_of (Mailbox k b (Some y)) = y.holds
  holds_of r = false

module _ {W P Q : Type 0} where
  pub role_is : (z : TableId) (work : W) (blanks : List Q) (k : ℕ) (p : Option (Sender Q)) (c : Option (Taker Q)) (s : Seat (Option P) (View W Q)) → HasEnds z work blanks k p c s → s.me.0.role ≡ Mailbox k p c
  role_is z work blanks k p c s h = ap (λ (m : Me (Option P) (View W Q)). m.0.role) h.me

  pub work_is : (z : TableId) (work : W) (blanks : List Q) (k : ℕ) (p : Option (Sender Q)) (c : Option (Taker Q)) (s : Seat (Option P) (View W Q)) → HasEnds z work blanks k p c s → s.me.0.work ≡ Some work
  work_is z work blanks k p c s h = ap (λ (m : Me (Option P) (View W Q)). m.0.work) h.me

  pub one_place : (z : TableId) (work : W) (blanks blanks' : List Q) (k : ℕ) (x x' : Sender Q) (c c' : Option (Taker Q)) (s : Seat (Option P) (View W Q)) → HasEnds z work blanks k (Some x) c s → HasEnds z work blanks' k (Some x') c' s → x.place ≡ x'.place
  one_place z work blanks blanks' k x x' c c' s h h' = ap place_of (sym (role_is z work blanks k (Some x) c s h) ∙ role_is z work blanks' k (Some x') c' s h')

  pub one_hand : (z : TableId) (work : W) (blanks blanks' : List Q) (k : ℕ) (y y' : Taker Q) (b b' : Option (Sender Q)) (s : Seat (Option P) (View W Q)) → HasEnds z work blanks k b (Some y) s → HasEnds z work blanks' k b' (Some y') s → y.holds ≡ y'.holds
  one_hand z work blanks blanks' k y y' b b' s h h' = ap holds_of (sym (role_is z work blanks k b (Some y) s h) ∙ role_is z work blanks' k b' (Some y') s h')

  -- the packet of k comes into a hand, at a look and an exchange
  pub comes : (z : TableId) (work : W) (blanks : List Q) (k : ℕ) (p p' : Option (Sender Q)) (c c' : Option (Taker Q)) (s t u : Seat (Option P) (View W Q)) (q : Option P) → HasEnds z work blanks k p c s
      → t.table_id ≡ s.table_id → t.me.0 ≡ posed s.me.0 (Mailbox k p' c') → t.me.1 ≡ (k, q) ∷ s.me.1 → u.table_id ≡ t.table_id → u.me ≡ (t.me.0, (k, None) ∷ rest t.me.1)
      → (k, None) ∷ hand p c k ≡ hand {P = P} p' c' k → HasEnds z work blanks k p' c' u
  comes z work blanks k p p' c c' s t u q h id view carried id' me hands = record {
    table = id' ∙ (id ∙ h.table);
    me = me ∙ (λ i. ((view ∙ ap (λ (m : Me (Option P) (View W Q)). posed m.0 (Mailbox k p' c')) h.me) i, (ap (λ (l : List (ℕ × Option P)). (k, None) ∷ rest l) carried ∙ (ap (λ (m : Me (Option P) (View W Q)). (k, None) ∷ m.1) h.me ∙ hands)) i));
  }

  -- the packet of k leaves a hand, at an exchange and a store
  pub goes : (z : TableId) (work : W) (blanks : List Q) (k : ℕ) (p p' : Option (Sender Q)) (c c' : Option (Taker Q)) (s t u : Seat (Option P) (View W Q)) → HasEnds z work blanks k p c s
      → t.table_id ≡ s.table_id → t.me.0 ≡ s.me.0 → u.table_id ≡ t.table_id → u.me.0 ≡ posed t.me.0 (Mailbox k p' c') → u.me.1 ≡ hand p' c' k → HasEnds z work blanks k p' c' u
  goes z work blanks k p p' c c' s t u h id view id' view' carried = record {
    table = id' ∙ (id ∙ h.table);
    me = λ i. ((view' ∙ (ap (λ (v : View W Q). posed v (Mailbox k p' c')) view ∙ ap (λ (m : Me (Option P) (View W Q)). posed m.0 (Mailbox k p' c')) h.me)) i, carried i);
  }

module _ {P Q : Type 0} where
  pub hand_got : (k : ℕ) (x x' : Sender Q) (c : Option (Taker Q)) → x.place ≡ Out → x'.place ≡ Held → (k, None) ∷ hand (Some x) c k ≡ hand {P = P} (Some x') c k
  hand_got k x x' c is is' = ap (λ (z : PacketAt). (k, None) ∷ (hand_in {P = P} z k ++ child_hand c k)) is ∙ ap (λ (z : PacketAt). hand_in {P = P} z k ++ child_hand c k) (sym is')

  pub hand_opened : (k : ℕ) (x x' : Sender Q) (c : Option (Taker Q)) → x.place ≡ Fresh → x'.place ≡ Held → (k, None) ∷ hand (Some x) c k ≡ hand {P = P} (Some x') c k
  hand_opened k x x' c is is' = ap (λ (z : PacketAt). (k, None) ∷ (hand_in {P = P} z k ++ child_hand c k)) is ∙ ap (λ (z : PacketAt). hand_in {P = P} z k ++ child_hand c k) (sym is')

  -- the slot of k is the one that was taken last
  pub hand_held : (k : ℕ) (x : Sender Q) (c : Option (Taker Q)) → x.place ≡ Held → hand {P = P} (Some x) c k ≡ (k, None) ∷ child_hand c k
  hand_held k x c is = ap (λ (z : PacketAt). hand_in {P = P} z k ++ child_hand c k) is

  pub hand_sent : (k : ℕ) (x : Sender Q) (c : Option (Taker Q)) → x.place ≡ Out → hand {P = P} (Some x) c k ≡ child_hand c k
  hand_sent k x c is = ap (λ (z : PacketAt). hand_in {P = P} z k ++ child_hand c k) is

  pub hand_taken : (k : ℕ) (b : Option (Sender Q)) (y : Taker Q) → y.holds ≡ true → hand {P = P} b (Some y) k ≡ (k, None) ∷ parent_hand b k
  hand_taken k b y is = ap (λ (z : Bool). parent_hand {P = P} b k ++ hand_if {P = P} z k) is ∙ turned b
    where
      placed : (p : PacketAt) → hand_in {P = P} p k ++ (k, None) ∷ [] ≡ (k, None) ∷ hand_in p k
      placed Fresh = refl
      placed Held = refl
      placed Out = refl

      turned : (b : Option (Sender Q)) → parent_hand {P = P} b k ++ (k, None) ∷ [] ≡ (k, None) ∷ parent_hand b k
      turned None = refl
      turned (Some x) = placed x.place

  pub hand_free : (k : ℕ) (b : Option (Sender Q)) (y : Taker Q) → y.holds ≡ false → hand {P = P} b (Some y) k ≡ parent_hand b k
  hand_free k b y is = ap (λ (z : Bool). parent_hand {P = P} b k ++ hand_if {P = P} z k) is ∙ turned b
    where
      placed : (p : PacketAt) → hand_in {P = P} p k ++ [] ≡ hand_in p k
      placed Fresh = refl
      placed Held = refl
      placed Out = refl

      turned : (b : Option (Sender Q)) → parent_hand {P = P} b k ++ [] ≡ parent_hand b k
      turned None = refl
      turned (Some x) = placed x.place

module _ {P : Type 0} where
  abbrev first_of_hand : Option P → List (ℕ × Option P) → Option P
  first_of_hand d [] = d
  first_of_hand d ((i, q) ∷ cs) = q

  -- what an exchange takes out
  pub took_out : (l m : List (ℕ × Option P)) (k : ℕ) (r q : Option P) → l ≡ (k, q) ∷ m → l ≡ (k, r) ∷ rest l → r ≡ q
  took_out l m k r q is is' = ap (first_of_hand None) (sym is' ∙ is)

  abbrev packet_or : P → Option P → P
  packet_or d None = d
  packet_or d (Some q) = q

  pub same_packet : (p q : P) (r : Option P) → r ≡ Some p → r ≡ Some q → p ≡ q
  same_packet p q r is is' = ap (packet_or p) (sym is ∙ is')

abbrev has_work : {W : Type 0} → Option W → Type 0
has_work None = ⊥
has_work (Some w) = Unit {0}

module _ {W P Q : Type 0} where
  pub not_spent : (z : TableId) (work : W) (blanks : List Q) (role : Role Q) (s : Seat (Option P) (View W Q)) → Watches z work blanks role s → s.me.0 ≢ spent
  not_spent z work blanks role s h e = subst has_work (sym (ap (λ (m : Me (Option P) (View W Q)). m.0.work) h.me) ∙ ap (λ (v : View W Q). v.work) e) tt

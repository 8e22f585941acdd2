-- A port whose seats have both ends of a mailbox each.
use Rattle.std.proofs.Common.{◌≡◌, ◌⊎◌, ℕ, suc, zero, ◌<◌, List, [], ◌∷◌, ◌++◌, length, map, get_or, set, sym, refl, ap, ◌∙◌, subst, ⊎_elim, inl, inr, arith, Option, Some, None, Bool, true, false, slice_get}
use Rattle.std.proofs.lemmas.Option.{slice_get-get_or}
use Rattle.atomic_table.specs.Table.{Me}
use Rattle.atomic_table.specs.Seated.{TableId}
use Rattle.atomic_table.specs.declared.shared.Seat.{Seat}
use Rattle.copy_slots.specs.declared.view.View.{View}
use Rattle.copy_slots.specs.declared.view.Sender.{Sender}
use Rattle.copy_slots.specs.declared.view.Taker.{Taker}
use Rattle.copy_slots.specs.declared.view.Role.{Role}
use Rattle.copy_slots.specs.declared.view.Role.TheVariants.{Idle, Keeper, Mailbox}
use Rattle.copy_slots.specs.Mail.{role_checked, role_stopped, new_sender, new_taker}
use Rattle.copy_slots.specs.Fresh.{AllFresh, AllSit, fresh_ends, new_state}
use Rattle.copy_slots.specs.declared.both.BothEnds.{BothEnds}
use Rattle.copy_slots.specs.SeatEnds.{HasEnds, Watches}
use Rattle.copy_slots.specs.Ports.{PortState, local_state, MailboxEnds, parent_at, child_at, on_sender, on_taker, on_parent, on_child, ends_of, sender_in, taker_in, is_keeper, after_check, stop_word, after_stop}
use Rattle.copy_slots.proofs.EndLists.{all_ends, parent_is as its_parent, child_is as its_child, parent_moved as its_parent_moved, child_moved as its_child_moved}
use Rattle.copy_slots.proofs.SeatEndLemmas.{role_is}

pub set_cases : {A : Type 0} (l : List A) (k j : ℕ) (a b : A) → slice_get (set l k a) j ≡ Some b → ((j ≡ k) × (a ≡ b)) ⊎ (slice_get l j ≡ Some b)
set_cases [] k j a b e = inr e
set_cases (x ∷ xs) zero zero a b e = inl (refl, cc)
set_cases (x ∷ xs) zero (suc j) a b e = inr e
set_cases (x ∷ xs) (suc k) zero a b e = inr e
set_cases (x ∷ xs) (suc k) (suc j) a b e = ⊎_elim (λ t. inl (ap suc t.0, t.1)) (λ t. inr t) (set_cases xs k j a b e)

pub at_index : {A : Type 0} (l : List A) (k : ℕ) (a : A) → k < length l → a ≡ get_or l k a → slice_get l k ≡ Some a
at_index l k a h e = slice_get-get_or l k a h ∙ ap Some (sym e)

-- as `EndLists` has it, where each seat has both ends of its mailbox
module _ {A Q : Type 0} (f : A → Role Q) where
  abbrev pub ends_in : List A → List (MailboxEnds Q)
  ends_in l = all_ends f ends_of l

  pub parent_is : (l : List A) (k j : ℕ) (a : A) (p : Option (Sender Q)) (c : Option (Taker Q)) → slice_get l k ≡ Some a → f a ≡ Mailbox j p c → parent_at (ends_in l) k ≡ p
  parent_is l k j a p c e is = its_parent f ends_of l k a e ∙ ap (λ r. (ends_of r).parent) is

  pub child_is : (l : List A) (k j : ℕ) (a : A) (p : Option (Sender Q)) (c : Option (Taker Q)) → slice_get l k ≡ Some a → f a ≡ Mailbox j p c → child_at (ends_in l) k ≡ c
  child_is l k j a p c e is = its_child f ends_of l k a e ∙ ap (λ r. (ends_of r).child) is

  pub parent_moved : (l : List A) (k j : ℕ) (a b : A) (x : Sender Q) (g : Sender Q → Sender Q) (c : Option (Taker Q)) → slice_get l k ≡ Some a → f a ≡ Mailbox j (Some x) c → f b ≡ Mailbox j (Some (g x)) c
      → ends_in (set l k b) ≡ on_parent (ends_in l) k g
  parent_moved l k j a b x g c e is is' = its_parent_moved f ends_of l k a b g e
      (ap ends_of is' ∙ ap (λ (r : Role Q). let es : MailboxEnds Q = record { parent = on_sender g (ends_of r).parent; child = (ends_of r).child } in es) (sym is))

  pub child_moved : (l : List A) (k j : ℕ) (a b : A) (y : Taker Q) (g : Taker Q → Taker Q) (p : Option (Sender Q)) → slice_get l k ≡ Some a → f a ≡ Mailbox j p (Some y) → f b ≡ Mailbox j p (Some (g y))
      → ends_in (set l k b) ≡ on_child (ends_in l) k g
  child_moved l k j a b y g p e is is' = its_child_moved f ends_of l k a b g e
      (ap ends_of is' ∙ ap (λ (r : Role Q). let es : MailboxEnds Q = record { parent = (ends_of r).parent; child = on_taker g (ends_of r).child } in es) (sym is))

module _ {W P Q : Type 0} (z : TableId) (work : W) (blanks : List Q) where
  pub resits : (l : List (BothEnds W P Q)) (k : ℕ) (b : BothEnds W P Q) (x : Sender Q) (y : Taker Q) → AllSit z work blanks l → HasEnds z work blanks k (Some x) (Some y) b.seat → AllSit z work blanks (set l k b)
  resits l k b x y all h j s e = ⊎_elim
      (λ (t : (j ≡ k) × (b ≡ s)). let role = role_is z work blanks k (Some x) (Some y) b.seat h in
      subst (λ (q : ℕ × BothEnds W P Q). HasEnds z work blanks q.0 (Some (sender_in q.1.seat.me.0.role)) (Some (taker_in q.1.seat.me.0.role)) q.1.seat) (λ i. (sym t.0 i, t.1 i))
      (subst (λ (q : Sender Q × Taker Q). HasEnds z work blanks k (Some q.0) (Some q.1) b.seat) (λ i. (sym (ap sender_in role) i, sym (ap taker_in role) i)) h))
      (λ t. all j s t) (set_cases l k j b s e)

module _ {W A Q : Type 0} (f : A → Role Q) (work : W) (blanks : List Q) (watch : Role Q) where
  abbrev pub state_of : List A → PortState W Q
  state_of l = local_state work blanks (map f l) watch

  pub parent_state : (l : List A) (k j : ℕ) (a b : A) (x : Sender Q) (g : Sender Q → Sender Q) (c : Option (Taker Q)) → slice_get l k ≡ Some a → f a ≡ Mailbox j (Some x) c → f b ≡ Mailbox j (Some (g x)) c
      → state_of (set l k b) ≡ record (state_of l) { ends = on_parent (ends_in f l) k g }
  parent_state l k j a b x g c e is is' = ap (λ (es : List (MailboxEnds Q)). let s : PortState W Q = record (state_of l) { ends = es } in s) (parent_moved f l k j a b x g c e is is')

  pub child_state : (l : List A) (k j : ℕ) (a b : A) (y : Taker Q) (g : Taker Q → Taker Q) (p : Option (Sender Q)) → slice_get l k ≡ Some a → f a ≡ Mailbox j p (Some y) → f b ≡ Mailbox j p (Some (g y))
      → state_of (set l k b) ≡ record (state_of l) { ends = on_child (ends_in f l) k g }
  child_state l k j a b y g p e is is' = ap (λ (es : List (MailboxEnds Q)). let s : PortState W Q = record (state_of l) { ends = es } in s) (child_moved f l k j a b y g p e is is')

pub keeper_is : {Q : Type 0} (role : Role Q) → is_keeper role ≡ true → (from : ℕ) × (st : Bool) × (ws : List ℕ) × (role ≡ Keeper from st ws)
keeper_is (Idle ws) e = absurd (cc)
keeper_is (Keeper from st ws) e = (from, st, ws, refl)
keeper_is (Mailbox k p c) e = absurd (cc)

module _ {W Q : Type 0} (work : W) (blanks : List Q) (roles : List (Role Q)) where
  pub root_checked : (w : ℕ) (role : Role Q) → is_keeper role ≡ true → is_keeper (role_checked w role) ≡ true
  root_checked w (Idle ws) e = e
  root_checked w (Keeper from st ws) e = refl
  root_checked w (Mailbox k p c) e = e

  pub root_stopped : (role : Role Q) → is_keeper role ≡ true → is_keeper (role_stopped role) ≡ true
  root_stopped (Idle ws) e = e
  root_stopped (Keeper from st ws) e = refl
  root_stopped (Mailbox k p c) e = e

  pub checked_state : (stopped : Bool) (role : Role Q) → is_keeper role ≡ true → local_state work blanks roles (role_checked (stop_word stopped) role) ≡ after_check stopped (local_state work blanks roles role)
  checked_state w (Idle ws) e = absurd (cc)
  checked_state w (Keeper from st ws) e = refl
  checked_state w (Mailbox k p c) e = absurd (cc)

  pub stopped_state : (role : Role Q) → is_keeper role ≡ true → local_state work blanks roles (role_stopped role) ≡ after_stop (local_state work blanks roles role)
  stopped_state (Idle ws) e = absurd (cc)
  stopped_state (Keeper from st ws) e = refl
  stopped_state (Mailbox k p c) e = absurd (cc)

module _ {W P Q : Type 0} (z : TableId) (work : W) (blanks : List Q) where
  -- the seat that looks at the stop word, by its own view
  pub rewatches : (role : Role Q) (s : Seat (Option P) (View W Q)) → Watches z work blanks role s → Watches z work s.me.0.blanks s.me.0.role s
  rewatches role s h = subst (λ (q : List Q × Role Q). Watches z work q.0 q.1 s) (λ i. (sym (ap (λ (m : Me (Option P) (View W Q)). m.0.blanks) h.me) i, sym (ap (λ (m : Me (Option P) (View W Q)). m.0.role) h.me) i)) h

pub snoc_cases : {A : Type 0} (l : List A) (a b : A) (j : ℕ) → slice_get (l ++ a ∷ []) j ≡ Some b → ((j ≡ length l) × (a ≡ b)) ⊎ (slice_get l j ≡ Some b)
snoc_cases [] a b zero e = inl (refl, cc)
snoc_cases [] a b (suc j) e = absurd (cc)
snoc_cases (x ∷ xs) a b zero e = inr e
snoc_cases (x ∷ xs) a b (suc j) e = ⊎_elim (λ t. inl (ap suc t.0, t.1)) (λ t. inr t) (snoc_cases xs a b j e)

module _ {W P Q : Type 0} (z : TableId) (work : W) (blanks : List Q) where
  pub fresh_more : (l : List (BothEnds W P Q)) (k : ℕ) (b : BothEnds W P Q) → length l ≡ k → AllFresh z work blanks l → HasEnds z work blanks k (Some new_sender) (Some new_taker) b.seat → AllFresh z work blanks (l ++ b ∷ [])
  fresh_more l k b long all h j s e = ⊎_elim
      (λ (t : (j ≡ length l) × (b ≡ s)). subst (λ (q : ℕ × BothEnds W P Q). HasEnds z work blanks q.0 (Some new_sender) (Some new_taker) q.1.seat) (λ i. (sym (t.0 ∙ long) i, t.1 i)) h)
      (λ t. all j s t) (snoc_cases l b s j e)

all_same : {A B C : Type 0} (f : A → B) (v : B) (l : List A) (m : List C) → length l ≡ length m → ((j : ℕ) (s : A) → slice_get l j ≡ Some s → f s ≡ v) → map f l ≡ map (λ (x : C). v) m
all_same f v [] [] e h = refl
all_same f v [] (y ∷ m) e h = absurd (omega arith)
all_same f v (x ∷ l) [] e h = absurd (omega arith)
all_same f v (x ∷ l) (y ∷ m) e h = λ i. h 0 x refl i ∷ all_same f v l m (omega arith) (λ j s t. h (suc j) s t) i

pub map_map : {A B C : Type 0} (f : A → B) (g : B → C) (l : List A) → map g (map f l) ≡ map (λ x. g (f x)) l
map_map f g [] = refl
map_map f g (x ∷ l) = ap (λ t. g (f x) ∷ t) (map_map f g l)

module _ {W P Q : Type 0} (plain : P → Q) (z : TableId) (work : W) (packets : List P) where
  pub fresh_sits : (l : List (BothEnds W P Q)) → AllFresh z work (map plain packets) l → AllSit z work (map plain packets) l
  fresh_sits l h j s e = let role = role_is z work (map plain packets) j (Some new_sender) (Some new_taker) s.seat (h j s e) in
      subst (λ (q : Sender Q × Taker Q). HasEnds z work (map plain packets) j (Some q.0) (Some q.1) s.seat) (λ i. (sym (ap sender_in role) i, sym (ap taker_in role) i)) (h j s e)

  pub fresh_state : (l : List (BothEnds W P Q)) (n : ℕ) → length l ≡ length packets → AllFresh z work (map plain packets) l
      → local_state work (map plain packets) (map (λ (b : BothEnds W P Q). b.seat.me.0.role) l) (Keeper n false []) ≡ new_state plain work packets
  fresh_state l n long h = ap (λ (es : List (MailboxEnds Q)). let s : PortState W Q = record { board = None; work = work; blanks = map plain packets; ends = es; tells = true; root = true; stored = false; stops = [] } in s)
      (map_map (λ (b : BothEnds W P Q). b.seat.me.0.role) ends_of l ∙ all_same (λ (b : BothEnds W P Q). ends_of b.seat.me.0.role) fresh_ends l packets long
      (λ j s e. ap ends_of (role_is z work (map plain packets) j (Some new_sender) (Some new_taker) s.seat (h j s e))))

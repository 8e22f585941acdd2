-- The ends of the mailboxes of a port, by its seats: the end at an index is that of the seat there, and changes as that one does.
use Rattle.std.proofs.Common.{◌≡◌, ℕ, suc, zero, ◌<◌, List, [], ◌∷◌, length, map, set, sym, ap, ◌∙◌, arith, Some, Bool, slice_get}
use Rattle.copy_slots.specs.declared.view.PacketAt.{PacketAt}
use Rattle.copy_slots.specs.declared.view.Sender.{Sender}
use Rattle.copy_slots.specs.declared.view.Taker.{Taker}
use Rattle.copy_slots.specs.Ports.{MailboxEnds, parent_at, child_at, on_sender, on_taker, on_parent, on_child, IsParent, IsChild}

module _ {A B Q : Type 0} (f : A → B) (h : B → MailboxEnds Q) where
  abbrev pub all_ends : List A → List (MailboxEnds Q)
  all_ends l = map h (map f l)

  pub parent_inside : (l : List A) (k : ℕ) (p : PacketAt) → IsParent (parent_at (all_ends l) k) p → k < length l
  parent_inside [] k p e = absurd e
  parent_inside (a ∷ l) zero p e = omega arith
  parent_inside (a ∷ l) (suc k) p e = let t = parent_inside l k p e in omega arith

  pub child_inside : (l : List A) (k : ℕ) (b : Bool) → IsChild (child_at (all_ends l) k) b → k < length l
  child_inside [] k b e = absurd e
  child_inside (a ∷ l) zero b e = omega arith
  child_inside (a ∷ l) (suc k) b e = let t = child_inside l k b e in omega arith

  pub parent_is : (l : List A) (k : ℕ) (a : A) → slice_get l k ≡ Some a → parent_at (all_ends l) k ≡ (h (f a)).parent
  parent_is [] k a e = absurd (cc)
  parent_is (b ∷ l) zero a e = let same : b ≡ a = cc in ap (λ z. (h (f z)).parent) same
  parent_is (b ∷ l) (suc k) a e = parent_is l k a e

  pub child_is : (l : List A) (k : ℕ) (a : A) → slice_get l k ≡ Some a → child_at (all_ends l) k ≡ (h (f a)).child
  child_is [] k a e = absurd (cc)
  child_is (b ∷ l) zero a e = let same : b ≡ a = cc in ap (λ z. (h (f z)).child) same
  child_is (b ∷ l) (suc k) a e = child_is l k a e

  pub parent_moved : (l : List A) (k : ℕ) (a b : A) (g : Sender Q → Sender Q) → slice_get l k ≡ Some a → h (f b) ≡ (record { parent = on_sender g (h (f a)).parent; child = (h (f a)).child }) → all_ends (set l k b) ≡ on_parent (all_ends l) k g
  parent_moved [] k a b g e is = absurd (cc)
  parent_moved (c ∷ l) zero a b g e is = let same : c ≡ a = cc in ap (λ z. z ∷ all_ends l) is ∙ ap (λ z. on_parent (h (f z) ∷ all_ends l) zero g) (sym same)
  parent_moved (c ∷ l) (suc k) a b g e is = ap (λ t. h (f c) ∷ t) (parent_moved l k a b g e is)

  pub child_moved : (l : List A) (k : ℕ) (a b : A) (g : Taker Q → Taker Q) → slice_get l k ≡ Some a → h (f b) ≡ (record { parent = (h (f a)).parent; child = on_taker g (h (f a)).child }) → all_ends (set l k b) ≡ on_child (all_ends l) k g
  child_moved [] k a b g e is = absurd (cc)
  child_moved (c ∷ l) zero a b g e is = let same : c ≡ a = cc in ap (λ z. z ∷ all_ends l) is ∙ ap (λ z. on_child (h (f z) ∷ all_ends l) zero g) (sym same)
  child_moved (c ∷ l) (suc k) a b g e is = ap (λ t. h (f c) ∷ t) (child_moved l k a b g e is)

-- What a change of one end leaves at each mailbox.
use Rattle.std.proofs.Common.{◌≡◌, ◌≢◌, ◌<◌, slice_get, ℕ, suc, zero, List, [], ◌∷◌, ◌++◌, length, set, refl, ap, sym, ◌∙◌, subst, Option, Some, None, Bool, arith}
use Rattle.copy_slots.specs.declared.view.PacketAt.{PacketAt}
use Rattle.copy_slots.specs.declared.view.Sender.{Sender}
use Rattle.copy_slots.specs.declared.view.Taker.{Taker}
use Rattle.std.specs.Option.{MatchOption, IfSome}
use Rattle.copy_slots.specs.Ports.{in_plain, taker_seen, MailboxEnds, parent_at, child_at, on_sender, on_taker, on_parent, on_child, sent_by, IsParent, IsChild}

module _ {Q : Type 0} where
  pub parent_here : (es : List (MailboxEnds Q)) (k : ℕ) (f : Sender Q → Sender Q) → parent_at (on_parent es k f) k ≡ on_sender f (parent_at es k)
  parent_here [] k f = refl
  parent_here (e ∷ es) zero f = refl
  parent_here (e ∷ es) (suc k) f = parent_here es k f

  pub parent_else : (es : List (MailboxEnds Q)) (k j : ℕ) (f : Sender Q → Sender Q) → j ≢ k → parent_at (on_parent es k f) j ≡ parent_at es j
  parent_else [] k j f n = refl
  parent_else (e ∷ es) zero zero f n = absurd (n refl)
  parent_else (e ∷ es) zero (suc j) f n = refl
  parent_else (e ∷ es) (suc k) zero f n = refl
  parent_else (e ∷ es) (suc k) (suc j) f n = parent_else es k j f (λ i. n (ap suc i))

  pub child_on_parent : (es : List (MailboxEnds Q)) (k j : ℕ) (f : Sender Q → Sender Q) → child_at (on_parent es k f) j ≡ child_at es j
  child_on_parent [] k j f = refl
  child_on_parent (e ∷ es) zero zero f = refl
  child_on_parent (e ∷ es) zero (suc j) f = refl
  child_on_parent (e ∷ es) (suc k) zero f = refl
  child_on_parent (e ∷ es) (suc k) (suc j) f = child_on_parent es k j f

  pub child_here : (es : List (MailboxEnds Q)) (k : ℕ) (f : Taker Q → Taker Q) → child_at (on_child es k f) k ≡ on_taker f (child_at es k)
  child_here [] k f = refl
  child_here (e ∷ es) zero f = refl
  child_here (e ∷ es) (suc k) f = child_here es k f

  pub child_else : (es : List (MailboxEnds Q)) (k j : ℕ) (f : Taker Q → Taker Q) → j ≢ k → child_at (on_child es k f) j ≡ child_at es j
  child_else [] k j f n = refl
  child_else (e ∷ es) zero zero f n = absurd (n refl)
  child_else (e ∷ es) zero (suc j) f n = refl
  child_else (e ∷ es) (suc k) zero f n = refl
  child_else (e ∷ es) (suc k) (suc j) f n = child_else es k j f (λ i. n (ap suc i))

  pub parent_on_child : (es : List (MailboxEnds Q)) (k j : ℕ) (f : Taker Q → Taker Q) → parent_at (on_child es k f) j ≡ parent_at es j
  parent_on_child [] k j f = refl
  parent_on_child (e ∷ es) zero zero f = refl
  parent_on_child (e ∷ es) zero (suc j) f = refl
  parent_on_child (e ∷ es) (suc k) zero f = refl
  parent_on_child (e ∷ es) (suc k) (suc j) f = parent_on_child es k j f

  pub parent_moves : (es : List (MailboxEnds Q)) (k : ℕ) (f : Sender Q → Sender Q) (p p' : PacketAt) → IsParent (parent_at es k) p → ((x : Sender Q) → x.place ≡ p → (f x).place ≡ p') → IsParent (parent_at (on_parent es k f) k) p'
  parent_moves es k f p p' is moves = subst (λ (z : Option (Sender Q)). IsParent z p') (sym (parent_here es k f)) (go (parent_at es k) is)
    where
      go : (o : Option (Sender Q)) → IsParent o p → IsParent (on_sender f o) p'
      go None h = h
      go (Some x) h = moves x h

  pub parent_stays : (es : List (MailboxEnds Q)) (k j : ℕ) (f : Sender Q → Sender Q) (p : PacketAt) → j ≢ k → IsParent (parent_at es j) p → IsParent (parent_at (on_parent es k f) j) p
  parent_stays es k j f p n is = subst (λ (z : Option (Sender Q)). IsParent z p) (sym (parent_else es k j f n)) is

  pub sent_stays : (es : List (MailboxEnds Q)) (k : ℕ) (f : Sender Q → Sender Q) → ((x : Sender Q) → (f x).sent ≡ x.sent) → sent_by (parent_at (on_parent es k f) k) ≡ sent_by (parent_at es k)
  sent_stays es k f same = ap sent_by (parent_here es k f) ∙ go (parent_at es k)
    where
      go : (o : Option (Sender Q)) → sent_by (on_sender f o) ≡ sent_by o
      go None = refl
      go (Some x) = same x

pub match_then : {X : Type 0} (o : Option X) (A B : Type 0) (P R : X → Type 0) → MatchOption o A P → (A → B) → ((x : X) → P x → R x) → MatchOption o B R
match_then None A B P R h f g = f h
match_then (Some x) A B P R h f g = g x h

module _ {P Q : Type 0} (plain : P → Q) (y : Taker Q) (l : List Q) where
  pub job_then : (o : Option P) (A : List Q → Type 0) → l ≡ (taker_seen (in_plain plain o) y).taken → IfSome o (λ r. A (y.taken ++ plain r ∷ [])) → IfSome o (λ r. A l)
  job_then None A e h = h
  job_then (Some r) A e h = subst A (sym e) h

  pub turn_then : (o : Option P) (s m : List Q) (t u : ℕ) → l ≡ (taker_seen (in_plain plain o) y).taken → m ≡ s → u ≡ t → MatchOption o (t ≡ 0) (λ r. (t ≢ 0) × (s ≡ y.taken ++ plain r ∷ [])) → MatchOption o (u ≡ 0) (λ r. (u ≢ 0) × (l ≡ m))
  turn_then None s m t u e e' same h = same ∙ h
  turn_then (Some r) s m t u e e' same h = ((λ z. h.0 (sym same ∙ z)), e ∙ (sym h.1 ∙ sym e'))

pub set_at : {A : Type 0} (l : List A) (k : ℕ) (a : A) → k < length l → slice_get (set l k a) k ≡ Some a
set_at [] k a h = absurd (omega arith)
set_at (x ∷ xs) zero a h = refl
set_at (x ∷ xs) (suc k) a h = set_at xs k a (omega arith)

pub child_moves : {Q : Type 0} (es : List (MailboxEnds Q)) (k : ℕ) (f : Taker Q → Taker Q) (b b' : Bool) → IsChild (child_at es k) b → ((y : Taker Q) → y.holds ≡ b → (f y).holds ≡ b') → IsChild (child_at (on_child es k f) k) b'
child_moves {Q} es k f b b' is moves = subst (λ (z : Option (Taker Q)). IsChild z b') (sym (child_here es k f)) (go (child_at es k) is)
  where
    go : (o : Option (Taker Q)) → IsChild o b → IsChild (on_taker f o) b'
    go None h = h
    go (Some y) h = moves y h

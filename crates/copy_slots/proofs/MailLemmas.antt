-- Each step keeps the rule.
use Rattle.std.proofs.Common.{◌≡◌, ◌≢◌, ◌⊎◌, ℕ, suc, zero, ◌+◌, ◌<◌, Bool, true, false, List, [], ◌∷◌, ◌++◌, length, get_or, set, sym, refl, ap, ◌∙◌, subst, ⊎_elim, inl, inr, arith, Option, Some, None, length-set, length-append, get_or-set_other, get_or-set_same, slice_get}
use mathlib.Core.Logic.{dite}
use mathlib.Core.Option.{none, some, some-ne-none, some-injective}
use mathlib.Core.Option as maybe
use native.Mathlib.Decide.{ℕ_discrete}
use lib.ListN.{get_elem?}
use Rattle.std.proofs.lemmas.List.{take-append-le, take_all}
use Rattle.atomic_table.specs.Table.{State, Me, Valid, carried_after, put_back, rest, step, Act, keeps, takes, gives, stepped, Allows}
use Rattle.atomic_table.proofs.Lists.{at_set, set_here, set_else}
use Rattle.copy_slots.specs.declared.view.PacketAt.{PacketAt}
use Rattle.copy_slots.specs.declared.view.PacketAt.TheVariants.{Fresh, Held, Out}
use Rattle.copy_slots.specs.declared.view.Sender.{Sender}
use Rattle.copy_slots.specs.declared.view.Taker.{Taker}
use Rattle.copy_slots.specs.declared.view.Role.{Role}
use Rattle.copy_slots.specs.declared.view.Role.TheVariants.{Idle, Keeper, Mailbox}
use Rattle.copy_slots.specs.declared.view.View.{View}
use Rattle.copy_slots.specs.Mail.{MailStage, fresh, with_parent, at_child, with_child, at_parent, MailboxState, End, parent_of, child_of, root, owner_of, IsUnderWay, IsAtStage, HeldByChild, SendsAt, TakesAt, KnowsParent, KnowsChild, KnowsRole, Has, IsFresh, IsWithParent, IsAtChild, IsWithChild, IsAtParent, BoxAt, Past, spent, IsSeatView, MailInvariant, posed, sender_opened, sender_got, sender_looked, sender_sent, taker_took, taker_looked, taker_answered, turn_between, opened, collected, gave, took, gave_back}

module _ {A : Type 0} where
  abbrev pick : {X : Type 0} → Dec X → A → A → A
  pick (yes _) a b = a
  pick (no _) a b = b

  pub put : (ℕ → A) → ℕ → A → ℕ → A
  put f i c j = pick (ℕ_discrete j i) c (f j)

  pub put_here : (f : ℕ → A) (i : ℕ) (c : A) → put f i c i ≡ c
  unfolding put
  put_here f i c = go (ℕ_discrete i i)
    where
      go : (d : Dec (i ≡ i)) → pick d c (f i) ≡ c
      go (yes _) = refl
      go (no n) = absurd (n refl)

  pub put_else : (f : ℕ → A) (i : ℕ) (c : A) (j : ℕ) → j ≢ i → put f i c j ≡ f j
  unfolding put
  put_else f i c j other = go (ℕ_discrete j i)
    where
      go : (d : Dec (j ≡ i)) → pick d c (f j) ≡ f j
      go (yes e) = absurd (other e)
      go (no _) = refl

some_is : {A : Type 0} (a b : A) → Some a ≡ Some b → a ≡ b
some_is a b e = cc

module _ {W P Q : Type 0} (plain : P → Q) (asks : W → ℕ → List Q → Type 0) (answers : W → ℕ → List Q → Q → Type 0) (work : W) (blanks : List Q) where
  abbrev pub St : Type 0
  St = State (Option P) (View W Q)

  abbrev pub Rule : St → Type 0
  Rule = MailInvariant plain asks answers work blanks

  abbrev Home : Type 0
  Home = maybe.Option (maybe.Option (Option P))

  -- a change of the mailbox k, by the seat id, as another seat sees it
  others : (s : St) (r : Rule s) (id k : ℕ) (m : MailboxState Q) → ((r.parent k ≡ id) ⊎ (r.child k ≡ id))
      → ((x : Sender Q) → SendsAt (r.mail k) x → SendsAt m x) ⊎ (r.parent k ≡ id)
      → ((y : Taker Q) → TakesAt (r.mail k) y → TakesAt m y) ⊎ (r.child k ≡ id)
      → (j : ℕ) → j ≢ id → (role : Role Q) → KnowsRole (length blanks) r.mail (owner_of r.parent r.child r.keeper) r.stored j role
      → KnowsRole (length blanks) (put r.mail k m) (owner_of r.parent r.child r.keeper) r.stored j role
  others s r id k m mine sends takes_ j apart (Idle ws) h = tt
  others s r id k m mine sends takes_ j apart (Keeper from st ws) h = (
    h.0,
    h.1,
    λ i low high. let t = h.2 i low high in (
      t.0,
      t.1,
      dite (ℕ_discrete i k)
          (λ e. absurd (⊎_elim (λ (p : r.parent k ≡ id). apart (sym t.0 ∙ (ap r.parent e ∙ p))) (λ (c : r.child k ≡ id). apart (sym t.1 ∙ (ap r.child e ∙ c))) mine))
          (λ e. put_else r.mail k m i e ∙ t.2),
    ),
  )
  others s r id k m mine sends takes_ j apart (Mailbox i p c) h = (h.0, parent p h.1, child c h.2)
    where
      parent : (p : Option (Sender Q)) → KnowsParent (length blanks) r.mail (owner_of r.parent r.child r.keeper) r.stored j i p → KnowsParent (length blanks) (put r.mail k m) (owner_of r.parent r.child r.keeper) r.stored j i p
      parent None t = tt
      parent (Some x) t = (
        t.0,
        dite (ℕ_discrete i k)
            (λ e. ⊎_elim (λ (f : (x : Sender Q) → SendsAt (r.mail k) x → SendsAt m x). subst (λ (z : MailboxState Q). SendsAt z x) (sym (ap (put r.mail k m) e ∙ put_here r.mail k m)) (f x (subst (λ (z : ℕ). SendsAt (r.mail z) x) e t.1)))
            (λ (q : r.parent k ≡ id). absurd (apart (sym t.0 ∙ (ap r.parent e ∙ q)))) sends)
            (λ e. subst (λ (z : MailboxState Q). SendsAt z x) (sym (put_else r.mail k m i e)) t.1),
      )

      child : (c : Option (Taker Q)) → KnowsChild (length blanks) r.mail (owner_of r.parent r.child r.keeper) r.stored j i c → KnowsChild (length blanks) (put r.mail k m) (owner_of r.parent r.child r.keeper) r.stored j i c
      child None t = tt
      child (Some y) t = (
        t.0,
        dite (ℕ_discrete i k)
            (λ e. ⊎_elim (λ (f : (y : Taker Q) → TakesAt (r.mail k) y → TakesAt m y). subst (λ (z : MailboxState Q). TakesAt z y) (sym (ap (put r.mail k m) e ∙ put_here r.mail k m)) (f y (subst (λ (z : ℕ). TakesAt (r.mail z) y) e t.1)))
            (λ (q : r.child k ≡ id). absurd (apart (sym t.0 ∙ (ap r.child e ∙ q)))) takes_)
            (λ e. subst (λ (z : MailboxState Q). TakesAt z y) (sym (put_else r.mail k m i e)) t.1),
      )

  -- the views after the seat id has a new role with the same ends
  pub ends_stay : (vs : List (View W Q)) (id : ℕ) (v w : View W Q) → get_elem? vs id ≡ some v
      → (e : End) → (Has v.role e → Has w.role e) → (i : ℕ) → ((u : View W Q) × (get_elem? vs i ≡ some u) × Has u.role e) → (u : View W Q) × (get_elem? (set vs id w) i ≡ some u) × Has u.role e
  ends_stay vs id v w at e has i t = dite (ℕ_discrete i id)
      (λ same. (w, subst (λ (z : ℕ). get_elem? (set vs id w) z ≡ some w) (sym same) (set_here vs id w (inside vs id v at)), has (subst (λ (z : View W Q). Has z.role e) (some-injective _ _ (sym t.1 ∙ (ap (get_elem? vs) same ∙ at))) t.2)))
      (λ other. (t.0, set_else vs id i w other ∙ t.1, t.2))
    where
      inside : (vs : List (View W Q)) (id : ℕ) (v : View W Q) → get_elem? vs id ≡ some v → id < length vs
      inside [] id v e = absurd (some-ne-none v (sym e))
      inside (x ∷ xs) zero v e = omega arith
      inside (x ∷ xs) (suc id) v e = let t = inside xs id v e in omega arith

  box_step : (s : St) (r : Rule s) (id k x : ℕ) (v w : View W Q) (m : MailboxState Q) (homes : List (maybe.Option (Option P))) → get_elem? s.views id ≡ some v → k < length blanks → x < 2
      → BoxAt plain asks answers work blanks m.stage k m x (get_elem? homes k) → Past plain asks answers work blanks k m
      → length homes ≡ length s.homes → ((i : ℕ) → i ≢ k → get_elem? homes i ≡ get_elem? s.homes i)
      → (w.work ≡ Some work) × (w.blanks ≡ blanks) × KnowsRole (length blanks) (put r.mail k m) (owner_of r.parent r.child r.keeper) r.stored id w.role
      → ((e : End) → Has v.role e → Has w.role e)
      → ((r.parent k ≡ id) ⊎ (r.child k ≡ id))
      → ((x : Sender Q) → SendsAt (r.mail k) x → SendsAt m x) ⊎ (r.parent k ≡ id)
      → ((y : Taker Q) → TakesAt (r.mail k) y → TakesAt m y) ⊎ (r.child k ≡ id)
      → Rule record { words = set s.words k x; homes = homes; views = set s.views id w }
  box_step s r id k x v w m homes at near small box past as_long apart knows has mine sends takes_ = let wide = r.wide in let n = length blanks in record {
    mail = put r.mail k m;
    parent = r.parent;
    child = r.child;
    keeper = r.keeper;
    stored = r.stored;
    wide = length-set s.words k x ∙ r.wide;
    deep = as_long ∙ r.deep;
    each_box = λ i l. dite (ℕ_discrete i k)
        (λ e. let same : put r.mail k m i ≡ m = ap (put r.mail k m) e ∙ put_here r.mail k m in
        subst (λ (z : MailboxState Q). BoxAt plain asks answers work blanks z.stage i z (get_or (set s.words k x) i 0) (get_elem? homes i)) (sym same)
        (subst (λ (z : ℕ). BoxAt plain asks answers work blanks m.stage z m (get_or (set s.words k x) z 0) (get_elem? homes z)) (sym e)
        (subst (λ (z : ℕ). BoxAt plain asks answers work blanks m.stage k m z (get_elem? homes k)) (sym (get_or-set_same s.words k x 0 (omega arith))) box)))
        (λ e. subst (λ (z : MailboxState Q × ℕ × Home). BoxAt plain asks answers work blanks z.0.stage i z.0 z.1 z.2)
        (λ c. (sym (put_else r.mail k m i e) c, sym (get_or-set_other s.words k i x 0 e) c, sym (apart i e) c)) (r.each_box i l));
    each_past = λ i l. dite (ℕ_discrete i k)
        (λ e. subst (λ (z : MailboxState Q). Past plain asks answers work blanks i z) (sym (ap (put r.mail k m) e ∙ put_here r.mail k m)) (subst (λ (z : ℕ). Past plain asks answers work blanks z m) (sym e) past))
        (λ e. subst (λ (z : MailboxState Q). Past plain asks answers work blanks i z) (sym (put_else r.mail k m i e)) (r.each_past i l));
    each_view = λ j u e. ⊎_elim
        (λ (t : (j ≡ id) × (w ≡ u)). subst (λ (z : ℕ × View W Q). IsSeatView plain asks answers work blanks (put r.mail k m) (owner_of r.parent r.child r.keeper) r.stored z.0 z.1) (λ c. (sym t.0 c, t.1 c)) (inr knows))
        (λ (t : (j ≢ id) × (get_elem? s.views j ≡ some u)). ⊎_elim (λ (g : u ≡ spent). inl g)
        (λ (h : (u.work ≡ Some work) × (u.blanks ≡ blanks) × KnowsRole (length blanks) r.mail (owner_of r.parent r.child r.keeper) r.stored j u.role). inr (h.0, h.1, others s r id k m mine sends takes_ j t.0 u.role h.2)) (r.each_view j u t.1))
        (at_set s.views id j w u e);
    each_end = λ e in_range. ends_stay s.views id v w at e (has e) _ (r.each_end e in_range);
    stop = let same = get_or-set_other s.words k (length blanks) x 0 (λ e. omega arith) in (subst (λ (z : ℕ). z < 2) (sym same) r.stop.0, λ e. r.stop.1 (sym same ∙ e));
  }

  abbrev pub IsBusy : Role Q → Type 0
  IsBusy (Idle ws) = ⊥
  IsBusy z = Unit {0}

  pub knows : (s : St) (r : Rule s) (id : ℕ) (v : View W Q) (role : Role Q) → get_elem? s.views id ≡ some v → v.role ≡ role → IsBusy role
      → (v.work ≡ Some work) × (v.blanks ≡ blanks) × KnowsRole (length blanks) r.mail (owner_of r.parent r.child r.keeper) r.stored id role
  knows s r id v role at is busy = ⊎_elim (λ (g : v ≡ spent). absurd (subst IsBusy (sym is ∙ ap (λ (z : View W Q). z.role) g) busy))
      (λ (h : (v.work ≡ Some work) × (v.blanks ≡ blanks) × KnowsRole (length blanks) r.mail (owner_of r.parent r.child r.keeper) r.stored id v.role). (h.0, h.1, subst (KnowsRole (length blanks) r.mail (owner_of r.parent r.child r.keeper) r.stored id) is h.2)) (r.each_view id v at)

  same_end : (k : ℕ) (b b' : Option (Sender Q)) (c c' : Option (Taker Q)) → ((x : Sender Q) → b ≡ Some x → (x' : Sender Q) × (b' ≡ Some x')) → ((y : Taker Q) → c ≡ Some y → (y' : Taker Q) × (c' ≡ Some y'))
      → (e : End) → Has (Mailbox k b c) e → Has (Mailbox k b' c') e
  same_end k b b' c c' f g (parent_of i) t = (t.0, f t.1.0 t.1.1)
  same_end k b b' c c' f g (child_of i) t = (t.0, g t.1.0 t.1.1)
  same_end k b b' c c' f g root t = t

  -- a step by the seat with the parent's end
  parent_step : (s : St) (r : Rule s) (id k x : ℕ) (v : View W Q) (p p' : Sender Q) (c : Option (Taker Q)) (m : MailboxState Q) (homes : List (maybe.Option (Option P))) → get_elem? s.views id ≡ some v → v.role ≡ Mailbox k (Some p) c → x < 2
      → BoxAt plain asks answers work blanks m.stage k m x (get_elem? homes k) → Past plain asks answers work blanks k m
      → length homes ≡ length s.homes → ((i : ℕ) → i ≢ k → get_elem? homes i ≡ get_elem? s.homes i)
      → SendsAt m p' → ((y : Taker Q) → TakesAt (r.mail k) y → TakesAt m y)
      → Rule record { words = set s.words k x; homes = homes; views = set s.views id (posed v (Mailbox k (Some p') c)) }
  parent_step s r id k x v p p' c m homes at is small box past as_long apart sends_ takes_ = let h = knows s r id v (Mailbox k (Some p) c) at is tt in
      box_step s r id k x v (posed v (Mailbox k (Some p') c)) m homes at h.2.0 small box past as_long apart
      (h.0, h.1, (h.2.0, (h.2.1.0, subst (λ (z : MailboxState Q). SendsAt z p') (sym (put_here r.mail k m)) sends_), child c h.2.2))
      (λ e t. same_end k (Some p) (Some p') c c (λ _ _. (p', refl)) (λ y q. (y, q)) e (subst (λ (z : Role Q). Has z e) is t))
      (inl h.2.1.0) (inr h.2.1.0) (inl takes_)
    where
      child : (c : Option (Taker Q)) → KnowsChild (length blanks) r.mail (owner_of r.parent r.child r.keeper) r.stored id k c → KnowsChild (length blanks) (put r.mail k m) (owner_of r.parent r.child r.keeper) r.stored id k c
      child None t = tt
      child (Some y) t = (t.0, subst (λ (z : MailboxState Q). TakesAt z y) (sym (put_here r.mail k m)) (takes_ y t.1))

  -- a step by the seat with the child's end
  child_step : (s : St) (r : Rule s) (id k x : ℕ) (v : View W Q) (b : Option (Sender Q)) (y y' : Taker Q) (m : MailboxState Q) (homes : List (maybe.Option (Option P))) → get_elem? s.views id ≡ some v → v.role ≡ Mailbox k b (Some y) → x < 2
      → BoxAt plain asks answers work blanks m.stage k m x (get_elem? homes k) → Past plain asks answers work blanks k m
      → length homes ≡ length s.homes → ((i : ℕ) → i ≢ k → get_elem? homes i ≡ get_elem? s.homes i)
      → TakesAt m y' → ((p : Sender Q) → SendsAt (r.mail k) p → SendsAt m p)
      → Rule record { words = set s.words k x; homes = homes; views = set s.views id (posed v (Mailbox k b (Some y'))) }
  child_step s r id k x v b y y' m homes at is small box past as_long apart takes_ sends_ = let h = knows s r id v (Mailbox k b (Some y)) at is tt in
      box_step s r id k x v (posed v (Mailbox k b (Some y'))) m homes at h.2.0 small box past as_long apart
      (h.0, h.1, (h.2.0, parent b h.2.1, (h.2.2.0, subst (λ (z : MailboxState Q). TakesAt z y') (sym (put_here r.mail k m)) takes_)))
      (λ e t. same_end k b b (Some y) (Some y') (λ p q. (p, q)) (λ _ _. (y', refl)) e (subst (λ (z : Role Q). Has z e) is t))
      (inr h.2.2.0) (inl sends_) (inr h.2.2.0)
    where
      parent : (b : Option (Sender Q)) → KnowsParent (length blanks) r.mail (owner_of r.parent r.child r.keeper) r.stored id k b → KnowsParent (length blanks) (put r.mail k m) (owner_of r.parent r.child r.keeper) r.stored id k b
      parent None t = tt
      parent (Some p) t = (t.0, subst (λ (z : MailboxState Q). SendsAt z p) (sym (put_here r.mail k m)) (sends_ p t.1))

  held_moves : (b : Bool) (g g' : MailStage) → g ≢ with_child → g' ≢ with_child → HeldByChild b g → HeldByChild b g'
  held_moves true g g' n n' h = absurd (n h)
  held_moves false g g' n n' h = n'

  placed_moves : (p : PacketAt) (g g' : MailStage) → IsUnderWay g → IsUnderWay g' → IsAtStage p g → IsAtStage p g'
  placed_moves Fresh g g' o o' h = absurd (subst IsUnderWay h o)
  placed_moves Held g g' o o' h = absurd (subst IsUnderWay h o)
  placed_moves Out g g' o o' h = o'

  -- the parent takes the blank packet
  pub opens : (slots id : ℕ) (me : Me (Option P) (View W Q)) (k : ℕ) (x : Sender Q) (c : Option (Taker Q)) → me.0.role ≡ Mailbox k (Some x) c → x.place ≡ Fresh
      → Allows Rule slots id me k (λ n. n) (opened plain (step slots k 0 0 none) me)
  opens slots id me k x c is place s r deep at _ = let h = knows s r id me.0 (Mailbox k (Some x) c) at is tt in let at_k = h.2.1.1 in
      let stage : (r.mail k).stage ≡ fresh = subst (λ (z : PacketAt). IsAtStage z (r.mail k).stage) place at_k.place in
      let box : IsFresh plain asks answers work blanks k (r.mail k) (get_or s.words k 0) (get_elem? s.homes k) = subst (λ (z : MailStage). BoxAt plain asks answers work blanks z k (r.mail k) (get_or s.words k 0) (get_elem? s.homes k)) stage (r.each_box k h.2.0) in
      let m : MailboxState Q = record { stage = with_parent; sent = []; got = []; taken = []; answered = [] } in
      let low : get_or s.words k 0 < 2 = let w = box.word_is in omega arith in
      let was : k < length s.homes = let d = r.deep in let n = h.2.0 in omega arith in (
        posed me.0 (Mailbox k (Some (sender_opened x)) c),
        takes k (Some box.packet),
        box.home_is,
        parent_step s r id k (get_or s.words k 0) me.0 x (sender_opened x) c m (set s.homes k none) at is low
            record { word_is = box.word_is; home_is = set_here s.homes k none was; taken = refl; got = refl; counts = refl }
            record { replies = λ i q e. absurd (some-ne-none q (sym e)); jobs = λ i l. absurd (omega arith) }
            (length-set s.homes k none) (λ i other. set_else s.homes k i none other)
            record { place = refl; sent = at_k.sent ∙ ap (λ (z : MailboxState Q). z.sent) box.mail_is; got = at_k.got ∙ ap (λ (z : MailboxState Q). z.got) box.mail_is }
            (λ y t. record { holds = held_moves y.holds (r.mail k).stage with_parent (λ e. absurd (cc)) (λ e. absurd (cc)) t.holds; taken = t.taken ∙ ap (λ (z : MailboxState Q). z.taken) box.mail_is; answered = t.answered ∙ ap (λ (z : MailboxState Q). z.answered) box.mail_is }),
        λ x' c' is'. (
          box.packet,
          ap (λ (z : Role Q). posed me.0 (opened_role z)) (sym is ∙ is'),
          refl,
          box.word_is,
          ap (λ (z : List Q). slice_get z k) h.1 ∙ box.blank,
        ),
      )
    where
      opened_role : Role Q → Role Q
      opened_role (Mailbox i (Some u) d) = Mailbox i (Some (sender_opened u)) d
      opened_role z = z

  pub below : {A : Type 0} (l : List A) (i : ℕ) (a : A) → get_elem? l i ≡ some a → i < length l
  below [] i a e = absurd (some-ne-none a (sym e))
  below (x ∷ xs) zero a e = omega arith
  below (x ∷ xs) (suc i) a e = let t = below xs i a e in omega arith

  pub at_end : {A : Type 0} (l : List A) (a b : A) (j : ℕ) → get_elem? (l ++ a ∷ []) j ≡ some b → (get_elem? l j ≡ some b) ⊎ ((a ≡ b) × (j ≡ length l))
  at_end [] a b zero e = inr (some-injective a b e, refl)
  at_end [] a b (suc j) e = absurd (some-ne-none b (sym e))
  at_end (x ∷ xs) a b zero e = inl e
  at_end (x ∷ xs) a b (suc j) e = ⊎_elim (λ t. inl t) (λ t. inr (t.0, ap suc t.1)) (at_end xs a b j e)

  box_of : (s : St) (r : Rule s) (k : ℕ) (g : MailStage) → k < length blanks → (r.mail k).stage ≡ g → BoxAt plain asks answers work blanks g k (r.mail k) (get_or s.words k 0) (get_elem? s.homes k)
  box_of s r k g near is = subst (λ (z : MailStage). BoxAt plain asks answers work blanks z k (r.mail k) (get_or s.words k 0) (get_elem? s.homes k)) is (r.each_box k near)

  slot_there : (s : St) (r : Rule s) (k : ℕ) → k < length blanks → k < length s.homes
  slot_there s r k near = let d = r.deep in omega arith

  -- a look that finds the other's turn, by the parent
  parent_looks : (s : St) (r : Rule s) (id k : ℕ) (v : View W Q) (x : Sender Q) (c : Option (Taker Q)) → get_elem? s.views id ≡ some v → v.role ≡ Mailbox k (Some x) c → get_or s.words k 0 < 2
      → Rule record { words = set s.words k (get_or s.words k 0); homes = s.homes; views = set s.views id (posed v (Mailbox k (Some (sender_looked x)) c)) }
  parent_looks s r id k v x c at is low = let h = knows s r id v (Mailbox k (Some x) c) at is tt in
      parent_step s r id k (get_or s.words k 0) v x (sender_looked x) c (r.mail k) s.homes at is low (r.each_box k h.2.0) (r.each_past k h.2.0) refl (λ i other. refl)
      record { place = h.2.1.1.place; sent = h.2.1.1.sent; got = h.2.1.1.got } (λ y t. t)

  -- the same by the child
  child_looks : (s : St) (r : Rule s) (id k : ℕ) (v : View W Q) (b : Option (Sender Q)) (y : Taker Q) → get_elem? s.views id ≡ some v → v.role ≡ Mailbox k b (Some y) → get_or s.words k 0 < 2
      → Rule record { words = set s.words k (get_or s.words k 0); homes = s.homes; views = set s.views id (posed v (Mailbox k b (Some (taker_looked y)))) }
  child_looks s r id k v b y at is low = let h = knows s r id v (Mailbox k b (Some y)) at is tt in
      child_step s r id k (get_or s.words k 0) v b y (taker_looked y) (r.mail k) s.homes at is low (r.each_box k h.2.0) (r.each_past k h.2.0) refl (λ i other. refl)
      record { holds = h.2.2.1.holds; taken = h.2.2.1.taken; answered = h.2.2.1.answered } (λ p t. t)

  abbrev got_role : Q → Role Q → Role Q
  got_role q (Mailbox i (Some u) d) = Mailbox i (Some (sender_got q u)) d
  got_role q z = z

  abbrev parent_looked : Role Q → Role Q
  parent_looked (Mailbox i (Some u) d) = Mailbox i (Some (sender_looked u)) d
  parent_looked z = z

  abbrev jobs_of : List Q → Role Q → List Q
  jobs_of d (Mailbox i (Some u) c) = u.sent
  jobs_of d z = d

  -- the parent looks for a reply
  pub collects : (slots id : ℕ) (me : Me (Option P) (View W Q)) (k : ℕ) (x : Sender Q) (c : Option (Taker Q)) → me.0.role ≡ Mailbox k (Some x) c → x.place ≡ Out
      → Allows Rule slots id me k (λ n. n) (collected plain answers (step slots k 0 0 none) me)
  collects slots id me k x c is place s r deep at _ = go (r.mail k).stage refl
    where
      h : (me.0.work ≡ Some work) × (me.0.blanks ≡ blanks) × KnowsRole (length blanks) r.mail (owner_of r.parent r.child r.keeper) r.stored id (Mailbox k (Some x) c)
      h = knows s r id me.0 (Mailbox k (Some x) c) at is tt

      out : (g : MailStage) → (r.mail k).stage ≡ g → IsUnderWay g
      out g e = subst (λ (z : PacketAt). IsAtStage z g) place (subst (IsAtStage x.place) e h.2.1.1.place)

      Goal : Type 0
      Goal = (w : View W Q) × (a : Act (Option P)) × Valid s.homes me.1 a × Rule (stepped s k (get_or s.words k 0) id me.1 w a) × collected plain answers (step slots k 0 0 none) me (get_or s.words k 0) (w, carried_after me.1 a)

      misses : get_or s.words k 0 ≡ 1 → length (r.mail k).sent ≡ length (r.mail k).answered + 1 → Goal
      misses one count = (
        posed me.0 (Mailbox k (Some (sender_looked x)) c),
        keeps,
        tt,
        parent_looks s r id k me.0 x c at is (omega arith),
        λ x' c' is'. (
          (λ zero_. absurd (omega arith)),
          (λ _. (ap (λ (z : Role Q). posed me.0 (parent_looked z)) (sym is ∙ is'), refl, one)),
          (λ y e. turn x' c' is' y e one count),
        ),
      )
        where
          turn : (x' : Sender Q) (c' : Option (Taker Q)) → me.0.role ≡ Mailbox k (Some x') c' → (y : Taker Q) → c' ≡ Some y → get_or s.words k 0 ≡ 1 → length (r.mail k).sent ≡ length (r.mail k).answered + 1 → get_or s.words k 0 ≡ turn_between x' y
          turn x' c' is' y e one count = let h' = knows s r id me.0 (Mailbox k (Some x') (Some y)) at (is' ∙ ap (λ (z : Option (Taker Q)). Mailbox k (Some x') z) e) tt in
              let a = ap (λ (z : List Q). length z) h'.2.1.1.sent in let b = ap (λ (z : List Q). length z) h'.2.2.1.answered in omega arith

      go : (g : MailStage) → (r.mail k).stage ≡ g → Goal
      go fresh e = absurd (out fresh e)
      go with_parent e = absurd (out with_parent e)
      go at_child e = let b : IsAtChild plain asks answers work blanks k (r.mail k) (get_or s.words k 0) (get_elem? s.homes k) = box_of s r k at_child h.2.0 e in misses b.word_is b.counts
      go with_child e = let b : IsWithChild plain asks answers work blanks k (r.mail k) (get_or s.words k 0) (get_elem? s.homes k) = box_of s r k with_child h.2.0 e in misses b.word_is b.counts
      go at_parent e = let b : IsAtParent plain asks answers work blanks k (r.mail k) (get_or s.words k 0) (get_elem? s.homes k) = box_of s r k at_parent h.2.0 e in
          let old = r.mail k in let past = r.each_past k h.2.0 in
          let m : MailboxState Q = record { stage = with_parent; sent = old.sent; got = old.answered; taken = old.taken; answered = old.answered } in (
            posed me.0 (Mailbox k (Some (sender_got (plain b.packet) x)) c),
            takes k (Some b.packet),
            b.home_is,
            parent_step s r id k (get_or s.words k 0) me.0 x (sender_got (plain b.packet) x) c m (set s.homes k none) at is (let w = b.word_is in omega arith)
                record { word_is = b.word_is; home_is = set_here s.homes k none (slot_there s r k h.2.0); taken = b.taken; got = refl; counts = b.counts }
                record { replies = past.replies; jobs = past.jobs }
                (length-set s.homes k none) (λ i other. set_else s.homes k i none other)
                record { place = refl; sent = h.2.1.1.sent; got = ap (λ (z : List Q). z ++ plain b.packet ∷ []) h.2.1.1.got ∙ sym b.answered }
                (λ y t. record { holds = held_moves y.holds old.stage with_parent (λ q. absurd (cc)) (λ q. absurd (cc)) t.holds; taken = t.taken; answered = t.answered }),
            λ x' c' is'. (
              (λ _. (
                b.packet,
                ap (λ (z : Role Q). posed me.0 (got_role (plain b.packet) z)) (sym is ∙ is'),
                refl,
                λ w e. subst (λ (z : W × List Q). answers z.0 k z.1 (plain b.packet)) (λ i. (some_is work w (sym h.0 ∙ e) i, (sym h.2.1.1.sent ∙ ap (jobs_of []) (sym is ∙ is')) i)) b.reply,
              )),
              (λ other. absurd (other b.word_is)),
              (λ y q. let h' = knows s r id me.0 (Mailbox k (Some x') (Some y)) at (is' ∙ ap (λ (z : Option (Taker Q)). Mailbox k (Some x') z) q) tt in
                  let a1 = ap (λ (z : List Q). length z) h'.2.1.1.sent in let a2 = ap (λ (z : List Q). length z) h'.2.2.1.answered in let n = b.counts in let w = b.word_is in omega arith),
            ),
          )

  abbrev plain_of : Q → List (ℕ × Option P) → Q
  plain_of d ((i, Some p) ∷ cs) = plain p
  plain_of d cs = d

  abbrev sent_role : Q → Role Q → Role Q
  sent_role q (Mailbox i (Some u) d) = Mailbox i (Some (sender_sent q u)) d
  sent_role q z = z

  -- the parent sends a job
  pub offers : (slots id : ℕ) (me : Me (Option P) (View W Q)) (k : ℕ) (x : Sender Q) (c : Option (Taker Q)) (p : P) → me.0.role ≡ Mailbox k (Some x) c → x.place ≡ Held → (tail : List (ℕ × Option P)) → me.1 ≡ (k, Some p) ∷ tail
      → (w : W) → me.0.work ≡ Some w → asks w k (x.sent ++ plain p ∷ []) → Allows Rule slots id me k (λ _. 1) (λ _. gave plain (step slots k 1 0 none) me 1)
  offers slots id me k x c p is place tail carried w at_work allowed s r deep at _ = let h = knows s r id me.0 (Mailbox k (Some x) c) at is tt in let at_k = h.2.1.1 in let old = r.mail k in let q = plain p in
      let stage : old.stage ≡ with_parent = subst (λ (z : PacketAt). IsAtStage z old.stage) place at_k.place in
      let b : IsWithParent plain asks answers work blanks k old (get_or s.words k 0) (get_elem? s.homes k) = box_of s r k with_parent h.2.0 stage in let past = r.each_past k h.2.0 in
      let m : MailboxState Q = record { stage = at_child; sent = old.sent ++ q ∷ []; got = old.got; taken = old.taken; answered = old.answered } in
      let asked : asks work k (old.sent ++ q ∷ []) = subst (λ (z : W × List Q). asks z.0 k (z.1 ++ q ∷ [])) (λ i. (some_is w work (sym at_work ∙ h.0) i, at_k.sent i)) allowed in
      let grows = length-append old.sent (q ∷ []) in let even = b.counts in (
        posed me.0 (Mailbox k (Some (sender_sent q x)) c),
        gives,
        tt,
        subst (λ (z : List (ℕ × Option P)). Rule record { words = set s.words k 1; homes = put_back s.homes z; views = set s.views id (posed me.0 (Mailbox k (Some (sender_sent q x)) c)) }) (sym carried)
            (parent_step s r id k 1 me.0 x (sender_sent q x) c m (set s.homes k (some (Some p))) at is (omega arith)
            record { packet = p; word_is = refl; home_is = set_here s.homes k (some (Some p)) (slot_there s r k h.2.0); sent = ap (λ (z : List Q). z ++ q ∷ []) (sym b.taken); got = b.got; counts = omega arith; asked = asked }
            record {
              replies = λ i y e. let near = below old.answered i y e in subst (λ (z : List Q). answers work k z y) (sym (take-append-le (suc i) old.sent (q ∷ []) (omega arith))) (past.replies i y e);
              jobs = λ i l. dite (ℕ_discrete i (length old.sent))
                  (λ e. subst (λ (z : List Q). asks work k z) (sym (take_all (suc i) (old.sent ++ q ∷ []) (omega arith))) asked)
                  (λ e. subst (λ (z : List Q). asks work k z) (sym (take-append-le (suc i) old.sent (q ∷ []) (omega arith))) (past.jobs i (omega arith)));
            }
            (length-set s.homes k (some (Some p))) (λ i other. set_else s.homes k i (some (Some p)) other)
            record { place = tt; sent = ap (λ (z : List Q). z ++ q ∷ []) at_k.sent; got = at_k.got }
            (λ y t. record { holds = held_moves y.holds old.stage at_child (λ e. absurd (cc)) (λ e. absurd (cc)) t.holds; taken = t.taken; answered = t.answered })),
        λ x' c' p' cs is' carried'. (
          (λ i. posed me.0 (sent_role (plain_of q ((sym carried ∙ carried') i)) ((sym is ∙ is') i))),
          ap rest carried',
        ),
      )

  abbrev took_role : Q → Role Q → Role Q
  took_role q (Mailbox i d (Some u)) = Mailbox i d (Some (taker_took q u))
  took_role q z = z

  abbrev child_looked : Role Q → Role Q
  child_looked (Mailbox i d (Some u)) = Mailbox i d (Some (taker_looked u))
  child_looked z = z

  abbrev taken_of : List Q → Role Q → List Q
  taken_of d (Mailbox i b (Some u)) = u.taken
  taken_of d z = d

  -- the child looks for a job
  pub takes_job : (slots id : ℕ) (me : Me (Option P) (View W Q)) (k : ℕ) (b : Option (Sender Q)) (y : Taker Q) → me.0.role ≡ Mailbox k b (Some y) → y.holds ≡ false
      → Allows Rule slots id me k (λ n. n) (took plain asks (step slots k 0 0 none) me)
  takes_job slots id me k b y is free s r deep at _ = go (r.mail k).stage refl
    where
      h : (me.0.work ≡ Some work) × (me.0.blanks ≡ blanks) × KnowsRole (length blanks) r.mail (owner_of r.parent r.child r.keeper) r.stored id (Mailbox k b (Some y))
      h = knows s r id me.0 (Mailbox k b (Some y)) at is tt

      empty : (r.mail k).stage ≢ with_child
      empty = subst (λ (z : Bool). HeldByChild z (r.mail k).stage) free h.2.2.1.holds

      Goal : Type 0
      Goal = (w : View W Q) × (a : Act (Option P)) × Valid s.homes me.1 a × Rule (stepped s k (get_or s.words k 0) id me.1 w a) × took plain asks (step slots k 0 0 none) me (get_or s.words k 0) (w, carried_after me.1 a)

      misses : get_or s.words k 0 ≡ 0 → length (r.mail k).answered ≡ length (r.mail k).sent → Goal
      misses none_ count = (
        posed me.0 (Mailbox k b (Some (taker_looked y))),
        keeps,
        tt,
        child_looks s r id k me.0 b y at is (omega arith),
        λ b' y' is'. (
          (λ some_. absurd (some_ none_)),
          (λ _. (ap (λ (z : Role Q). posed me.0 (child_looked z)) (sym is ∙ is'), refl)),
          (λ x e. let h' = knows s r id me.0 (Mailbox k (Some x) (Some y')) at (is' ∙ ap (λ (z : Option (Sender Q)). Mailbox k z (Some y')) e) tt in
              let a1 = ap (λ (z : List Q). length z) h'.2.1.1.sent in let a2 = ap (λ (z : List Q). length z) h'.2.2.1.answered in omega arith),
        ),
      )

      go : (g : MailStage) → (r.mail k).stage ≡ g → Goal
      go fresh e = let b : IsFresh plain asks answers work blanks k (r.mail k) (get_or s.words k 0) (get_elem? s.homes k) = box_of s r k fresh h.2.0 e in
          misses b.word_is (ap (λ (z : MailboxState Q). length z.answered) b.mail_is ∙ sym (ap (λ (z : MailboxState Q). length z.sent) b.mail_is))
      go with_parent e = let b : IsWithParent plain asks answers work blanks k (r.mail k) (get_or s.words k 0) (get_elem? s.homes k) = box_of s r k with_parent h.2.0 e in misses b.word_is b.counts
      go with_child e = absurd (empty e)
      go at_parent e = let b : IsAtParent plain asks answers work blanks k (r.mail k) (get_or s.words k 0) (get_elem? s.homes k) = box_of s r k at_parent h.2.0 e in misses b.word_is b.counts
      go at_child e = let x : IsAtChild plain asks answers work blanks k (r.mail k) (get_or s.words k 0) (get_elem? s.homes k) = box_of s r k at_child h.2.0 e in
          let old = r.mail k in let past = r.each_past k h.2.0 in let at_k = h.2.2.1 in
          let m : MailboxState Q = record { stage = with_child; sent = old.sent; got = old.got; taken = old.sent; answered = old.answered } in (
            posed me.0 (Mailbox k b (Some (taker_took (plain x.packet) y))),
            takes k (Some x.packet),
            x.home_is,
            child_step s r id k (get_or s.words k 0) me.0 b y (taker_took (plain x.packet) y) m (set s.homes k none) at is (let w = x.word_is in omega arith)
                record { word_is = x.word_is; home_is = set_here s.homes k none (slot_there s r k h.2.0); taken = refl; got = x.got; counts = x.counts }
                record { replies = past.replies; jobs = past.jobs }
                (length-set s.homes k none) (λ i other. set_else s.homes k i none other)
                record { holds = refl; taken = ap (λ (z : List Q). z ++ plain x.packet ∷ []) at_k.taken ∙ sym x.sent; answered = at_k.answered }
                (λ p t. record { place = placed_moves p.place old.stage with_child (subst IsUnderWay (sym e) tt) tt t.place; sent = t.sent; got = t.got }),
            λ b' y' is'. (
              (λ _. (
                x.packet,
                ap (λ (z : Role Q). posed me.0 (took_role (plain x.packet) z)) (sym is ∙ is'),
                refl,
                λ w e. subst (λ (z : W × List Q). asks z.0 k z.1) (λ i. (some_is work w (sym h.0 ∙ e) i, (x.sent ∙ ap (λ (z : List Q). z ++ plain x.packet ∷ []) (sym at_k.taken ∙ ap (taken_of []) (sym is ∙ is'))) i)) x.asked,
                x.word_is,
                λ p q. let h' = knows s r id me.0 (Mailbox k (Some p) (Some y')) at (is' ∙ ap (λ (z : Option (Sender Q)). Mailbox k z (Some y')) q) tt in
                    h'.2.1.1.sent ∙ (x.sent ∙ ap (λ (z : List Q). z ++ plain x.packet ∷ []) (sym h'.2.2.1.taken)),
              )),
              (λ none_. let w = x.word_is in absurd (omega arith)),
              (λ p q. let h' = knows s r id me.0 (Mailbox k (Some p) (Some y')) at (is' ∙ ap (λ (z : Option (Sender Q)). Mailbox k z (Some y')) q) tt in
                  let a1 = ap (λ (z : List Q). length z) h'.2.1.1.sent in let a2 = ap (λ (z : List Q). length z) h'.2.2.1.answered in let n = x.counts in let w = x.word_is in omega arith),
            ),
          )

  abbrev answered_role : Q → Role Q → Role Q
  answered_role q (Mailbox i d (Some u)) = Mailbox i d (Some (taker_answered q u))
  answered_role q z = z

  -- the child sends a reply
  pub answers_job : (slots id : ℕ) (me : Me (Option P) (View W Q)) (k : ℕ) (b : Option (Sender Q)) (y : Taker Q) (p : P) → me.0.role ≡ Mailbox k b (Some y) → y.holds ≡ true → (tail : List (ℕ × Option P)) → me.1 ≡ (k, Some p) ∷ tail
      → (w : W) → me.0.work ≡ Some w → answers w k y.taken (plain p) → Allows Rule slots id me k (λ _. 0) (λ _. gave_back plain (step slots k 0 0 none) me 0)
  answers_job slots id me k b y p is held tail carried w at_work right s r deep at _ = let h = knows s r id me.0 (Mailbox k b (Some y)) at is tt in let at_k = h.2.2.1 in let old = r.mail k in let q = plain p in
      let stage : old.stage ≡ with_child = subst (λ (z : Bool). HeldByChild z old.stage) held at_k.holds in
      let x : IsWithChild plain asks answers work blanks k old (get_or s.words k 0) (get_elem? s.homes k) = box_of s r k with_child h.2.0 stage in let past = r.each_past k h.2.0 in
      let m : MailboxState Q = record { stage = at_parent; sent = old.sent; got = old.got; taken = old.taken; answered = old.answered ++ q ∷ [] } in
      let reply : answers work k old.sent q = subst (λ (z : W × List Q). answers z.0 k z.1 q) (λ i. (some_is w work (sym at_work ∙ h.0) i, (at_k.taken ∙ x.taken) i)) right in
      let grows = length-append old.answered (q ∷ []) in let odd = x.counts in (
        posed me.0 (Mailbox k b (Some (taker_answered q y))),
        gives,
        tt,
        subst (λ (z : List (ℕ × Option P)). Rule record { words = set s.words k 0; homes = put_back s.homes z; views = set s.views id (posed me.0 (Mailbox k b (Some (taker_answered q y)))) }) (sym carried)
            (child_step s r id k 0 me.0 b y (taker_answered q y) m (set s.homes k (some (Some p))) at is (omega arith)
            record { packet = p; word_is = refl; home_is = set_here s.homes k (some (Some p)) (slot_there s r k h.2.0); taken = x.taken; answered = ap (λ (z : List Q). z ++ q ∷ []) (sym x.got); counts = omega arith; reply = reply }
            record {
              replies = λ i u e. ⊎_elim (λ (t : get_elem? old.answered i ≡ some u). past.replies i u t)
                  (λ (t : (q ≡ u) × (i ≡ length old.answered)). let n = t.1 in subst (λ (z : List Q × Q). answers work k z.0 z.1) (λ j. (sym (take_all (suc i) old.sent (omega arith)) j, t.0 j)) reply)
                  (at_end old.answered q u i e);
              jobs = past.jobs;
            }
            (length-set s.homes k (some (Some p))) (λ i other. set_else s.homes k i (some (Some p)) other)
            record { holds = λ e. absurd (cc); taken = at_k.taken; answered = ap (λ (z : List Q). z ++ q ∷ []) at_k.answered }
            (λ u t. record { place = placed_moves u.place old.stage at_parent (subst IsUnderWay (sym stage) tt) tt t.place; sent = t.sent; got = t.got })),
        λ b' y' p' cs is' carried'. (
          (λ i. posed me.0 (answered_role (plain_of q ((sym carried ∙ carried') i)) ((sym is ∙ is') i))),
          ap rest carried',
        ),
      )

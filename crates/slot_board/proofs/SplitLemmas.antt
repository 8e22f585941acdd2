-- Seats that are split off and joined keep the rule of the mailboxes.
use Rattle.std.proofs.Common.{◌≡◌, ◌≢◌, ◌⊎◌, ℕ, Bool, true, false, List, ◌++◌, length, set, sym, refl, ap, ◌∙◌, subst, ⊎_elim, inl, inr, Option, Some, None}
use mathlib.Core.Logic.{dite}
use mathlib.Core.Option.{some, some-injective}
use native.Mathlib.Decide.{ℕ_discrete}
use lib.ListN.{get_elem?}
use Rattle.atomic_table.specs.Table.{State, Splits, Joins}
use Rattle.atomic_table.proofs.Lists.{at_set, set_here, set_else}
use Rattle.copy_slots.specs.declared.view.Sender.{Sender}
use Rattle.copy_slots.specs.declared.view.Taker.{Taker}
use Rattle.copy_slots.specs.declared.view.Role.{Role}
use Rattle.copy_slots.specs.declared.view.Role.TheVariants.{Idle, Keeper, Mailbox}
use Rattle.copy_slots.specs.declared.view.View.{View}
use Rattle.copy_slots.specs.Mail.{MailboxState, End, parent_of, child_of, root, owner_of, KnowsParent, KnowsChild, KnowsRole, Has, IsEnd, spent, IsSeatView, MailInvariant}
use Rattle.copy_slots.proofs.MailLemmas.{put, put_here, put_else, knows, below}
use Rattle.copy_slots.proofs.Dealing.{resplit}
use Rattle.slot_board.specs.Slots.{is_watch}
use Rattle.slot_board.specs.Splits.{parent_alone, child_alone, role_joined, parent_part, child_part, idle, joined_view}

abbrev chosen : {A : Type 0} {X : Type 0} → Dec X → A → A → A
chosen (yes _) a b = a
chosen (no _) a b = b

-- what the seat `other` had is the seat id's
moved : ℕ → ℕ → ℕ → ℕ
moved other id i = chosen (ℕ_discrete i other) id i

moved_here : (other id i : ℕ) → i ≡ other → moved other id i ≡ id
unfolding moved
moved_here other id i e = go (ℕ_discrete i other)
  where
    go : (d : Dec (i ≡ other)) → chosen d id i ≡ id
    go (yes _) = refl
    go (no n) = absurd (n e)

moved_else : (other id i : ℕ) → i ≢ other → moved other id i ≡ i
unfolding moved
moved_else other id i n = go (ℕ_discrete i other)
  where
    go : (d : Dec (i ≡ other)) → chosen d id i ≡ i
    go (yes e) = absurd (n e)
    go (no _) = refl

pub not_watch : {A : Type 0} → false ≡ true → A
not_watch e = absurd (cc)

module _ {W P Q : Type 0} (plain : P → Q) (asks : W → ℕ → List Q → Type 0) (answers : W → ℕ → List Q → Q → Type 0) (work : W) (blanks : List Q) where
  abbrev St : Type 0
  St = State (Option P) (View W Q)

  abbrev Rule : St → Type 0
  Rule = MailInvariant plain asks answers work blanks

  abbrev Known : (ℕ → MailboxState Q) → (End → ℕ) → Bool → ℕ → View W Q → Type 0
  Known mail owner stored j v = (v.work ≡ Some work) × (v.blanks ≡ blanks) × KnowsRole (length blanks) mail owner stored j v.role

  -- the child's end of a mailbox
  pub parts : (id : ℕ) (v : View W Q) (k : ℕ) (x : Sender Q) (y : Taker Q) → v.role ≡ Mailbox k (Some x) (Some y) → Splits Rule id v (parent_part v) (child_part v)
  parts id v k x y is s r at = resplit plain asks answers work blanks s r id v (parent_part v) (child_part v) r.parent (put r.child k new) at
      (inr (h.0, h.1, subst (λ (z : Role Q). KnowsRole (length blanks) r.mail own r.stored id (parent_alone z)) (sym is) (h.2.0, h.2.1, tt)))
      (inr (h.0, h.1, subst (λ (z : Role Q). KnowsRole (length blanks) r.mail own r.stored new (child_alone z)) (sym is) (h.2.0, tt, (put_here r.child k new, h.2.2.1))))
      (λ j u other. ⊎_elim (λ (g : u ≡ spent). inl g)
      (λ (t : (u.work ≡ Some work) × (u.blanks ≡ blanks) × KnowsRole (length blanks) r.mail (owner_of r.parent r.child r.keeper) r.stored j u.role). inr (t.0, t.1, same j other u.role t.2)))
      ends
    where
      h : (v.work ≡ Some work) × (v.blanks ≡ blanks) × KnowsRole (length blanks) r.mail (owner_of r.parent r.child r.keeper) r.stored id (Mailbox k (Some x) (Some y))
      h = knows plain asks answers work blanks s r id v (Mailbox k (Some x) (Some y)) at is tt

      new : ℕ
      new = length s.views

      own : End → ℕ
      own = owner_of r.parent (put r.child k new) r.keeper

      same : (j : ℕ) → j ≢ id → (role : Role Q) → KnowsRole (length blanks) r.mail (owner_of r.parent r.child r.keeper) r.stored j role → KnowsRole (length blanks) r.mail own r.stored j role
      same j other (Idle us) t = tt
      same j other (Keeper f z us) t = (t.0, t.1, λ i low high. let q = t.2 i low high in (q.0, put_else r.child k new i (λ e. other (sym q.1 ∙ (ap r.child e ∙ h.2.2.0))) ∙ q.1, q.2))
      same j other (Mailbox i p c) t = (t.0, parents p t.1, children c t.2)
        where
          parents : (p : Option (Sender Q)) → KnowsParent (length blanks) r.mail (owner_of r.parent r.child r.keeper) r.stored j i p → KnowsParent (length blanks) r.mail own r.stored j i p
          parents None q = tt
          parents (Some x) q = q

          children : (c : Option (Taker Q)) → KnowsChild (length blanks) r.mail (owner_of r.parent r.child r.keeper) r.stored j i c → KnowsChild (length blanks) r.mail own r.stored j i c
          children None q = tt
          children (Some x) q = (put_else r.child k new i (λ e. other (sym q.0 ∙ (ap r.child e ∙ h.2.2.0))) ∙ q.0, q.1)

      ends : (e : End) → IsEnd (length blanks) e → ((own e ≡ owner_of r.parent r.child r.keeper e) × (Has v.role e → Has (parent_alone v.role) e)) ⊎ ((own e ≡ length s.views) × Has (child_alone v.role) e)
      ends (parent_of i) l = inl (refl, subst (λ (z : Role Q). Has z (parent_of i) → Has (parent_alone z) (parent_of i)) (sym is) (λ q. q))
      ends (child_of i) l = dite (ℕ_discrete i k)
          (λ e. inr (ap (put r.child k new) e ∙ put_here r.child k new, subst (λ (z : Role Q). Has (child_alone z) (child_of i)) (sym is) (sym e, (y, refl))))
          (λ e. inl (put_else r.child k new i e, subst (λ (z : Role Q). Has z (child_of i) → Has (parent_alone z) (child_of i)) (sym is) (λ (q : (k ≡ i) × ((y : Taker Q) × _)). absurd (e (sym q.0)))))
      ends root l = inl (refl, subst (λ (z : Role Q). Has z root → Has (parent_alone z) root) (sym is) (λ q. q))

  known : (s : St) (r : Rule s) (id : ℕ) (v : View W Q) → v ≢ spent → get_elem? s.views id ≡ some v → Known r.mail (owner_of r.parent r.child r.keeper) r.stored id v
  known s r id v live at = ⊎_elim (λ (g : v ≡ spent). absurd (live g)) (λ (h : Known r.mail (owner_of r.parent r.child r.keeper) r.stored id v). h) (r.each_view id v at)

  -- a seat that has no end
  pub idles : (id : ℕ) (v : View W Q) → v ≢ spent → Splits Rule id v v (idle v)
  idles id v live s r at = let h = known s r id v live at in
      resplit plain asks answers work blanks s r id v v (idle v) r.parent r.child at (inr h) (inr (h.0, h.1, tt)) (λ j u other t. t) (λ e l. inl (refl, λ q. q))

  -- two seats that look at the stop word
  pub merges : (id : ℕ) (v : View W Q) (other : ℕ) (w : View W Q) → v ≢ spent → w ≢ spent → is_watch v.role ≡ true → is_watch w.role ≡ true → Joins Rule id v other w (joined_view v w) spent
  merges id v other w live more_live watch more s r at apart there = record {
    mail = r.mail;
    parent = λ k. move (r.parent k);
    child = λ k. move (r.child k);
    keeper = move r.keeper;
    stored = r.stored;
    wide = r.wide;
    deep = r.deep;
    each_box = r.each_box;
    each_past = r.each_past;
    each_view = λ j u e. ⊎_elim
        (λ (t : (j ≡ other) × (spent ≡ u)). inl (sym t.1))
        (λ (t : (j ≢ other) × (get_elem? (set s.views id both) j ≡ some u)). ⊎_elim
        (λ (q : (j ≡ id) × (both ≡ u)). subst (λ (z : ℕ × View W Q). IsSeatView plain asks answers work blanks r.mail now r.stored z.0 z.1) (λ i. (sym q.0 i, q.1 i)) (inr (kv.0, kv.1, into v.role w.role watch more kv.2 kw.2)))
        (λ (q : (j ≢ id) × (get_elem? s.views j ≡ some u)). ⊎_elim (λ (g : u ≡ spent). inl g) (λ (h : Known r.mail was r.stored j u). inr (h.0, h.1, keep j t.0 u.role h.2)) (r.each_view j u q.1))
        (at_set s.views id j both u t.1))
        (at_set (set s.views id both) other j spent u e);
    each_end = λ e l. let t = r.each_end e l in dite (ℕ_discrete (was e) other)
        (λ same. (both, subst (λ (i : ℕ). get_elem? views i ≡ some both) (sym (now_is e ∙ moved_here other id (was e) same)) at_id, has_right v.role w.role watch more kv.2 kw.2 e (subst (λ (z : View W Q). Has z.role e) (some-injective _ _ (sym t.1 ∙ (ap (get_elem? s.views) same ∙ there_too))) t.2)))
        (λ else_. dite (ℕ_discrete (was e) id)
        (λ same. (both, subst (λ (i : ℕ). get_elem? views i ≡ some both) (sym (now_is e ∙ (moved_else other id (was e) else_ ∙ same))) at_id, has_left v.role w.role watch e (subst (λ (z : View W Q). Has z.role e) (some-injective _ _ (sym t.1 ∙ (ap (get_elem? s.views) same ∙ at))) t.2)))
        (λ apart_too. (t.0, subst (λ (i : ℕ). get_elem? views i ≡ some t.0) (sym (now_is e ∙ moved_else other id (was e) else_)) (set_else (set s.views id both) other (was e) spent else_ ∙ (set_else s.views id (was e) both apart_too ∙ t.1)), t.2)));
    stop = r.stop;
  }
    where
      both : View W Q
      both = joined_view v w

      views : List (View W Q)
      views = set (set s.views id both) other spent

      move : ℕ → ℕ
      move = moved other id

      was : End → ℕ
      was = owner_of r.parent r.child r.keeper

      now : End → ℕ
      now = owner_of (λ k. move (r.parent k)) (λ k. move (r.child k)) (move r.keeper)

      now_is : (e : End) → now e ≡ move (was e)
      now_is (parent_of k) = refl
      now_is (child_of k) = refl
      now_is root = refl

      there_too : get_elem? s.views other ≡ some w
      there_too = sym (set_else s.views id other both apart) ∙ there

      at_id : get_elem? views id ≡ some both
      at_id = set_else (set s.views id both) other id spent (λ e. apart (sym e)) ∙ set_here s.views id both (below plain asks answers work blanks s.views id v at)

      kv : Known r.mail was r.stored id v
      kv = known s r id v live at

      kw : Known r.mail was r.stored other w
      kw = known s r other w more_live there_too

      mine : (i j : ℕ) → j ≢ other → i ≡ j → move i ≡ j
      mine i j n e = moved_else other id i (λ f. n (sym e ∙ f)) ∙ e

      keep : (j : ℕ) → j ≢ other → (role : Role Q) → KnowsRole (length blanks) r.mail was r.stored j role → KnowsRole (length blanks) r.mail now r.stored j role
      keep j n (Idle us) t = tt
      keep j n (Keeper f z us) t = (mine r.keeper j n t.0, t.1, λ i low high. let q = t.2 i low high in (mine (r.parent i) j n q.0, mine (r.child i) j n q.1, q.2))
      keep j n (Mailbox i p c) t = (t.0, parents p t.1, children c t.2)
        where
          parents : (p : Option (Sender Q)) → KnowsParent (length blanks) r.mail was r.stored j i p → KnowsParent (length blanks) r.mail now r.stored j i p
          parents None q = tt
          parents (Some x) q = (mine (r.parent i) j n q.0, q.1)

          children : (c : Option (Taker Q)) → KnowsChild (length blanks) r.mail was r.stored j i c → KnowsChild (length blanks) r.mail now r.stored j i c
          children None q = tt
          children (Some x) q = (mine (r.child i) j n q.0, q.1)

      into : (a b : Role Q) → is_watch a ≡ true → is_watch b ≡ true → KnowsRole (length blanks) r.mail was r.stored id a → KnowsRole (length blanks) r.mail was r.stored other b → KnowsRole (length blanks) r.mail now r.stored id (role_joined a b)
      into (Idle ws) (Idle us) _ _ ha hb = tt
      into (Idle ws) (Keeper f z us) _ _ ha hb = (moved_here other id r.keeper hb.0, hb.1, λ i low high. let q = hb.2 i low high in (moved_here other id (r.parent i) q.0, moved_here other id (r.child i) q.1, q.2))
      into (Idle ws) (Mailbox k p c) _ e ha hb = not_watch e
      into (Keeper f z ws) (Idle us) _ _ ha hb = keep id (λ e. apart (sym e)) (Keeper f z (ws ++ us)) ha
      into (Keeper f z ws) (Keeper f' z' us) _ _ ha hb = absurd (apart (sym hb.0 ∙ ha.0))
      into (Keeper f z ws) (Mailbox k p c) _ e ha hb = not_watch e
      into (Mailbox k p c) b e _ ha hb = not_watch e

      has_left : (a b : Role Q) → is_watch a ≡ true → (e : End) → Has a e → Has (role_joined a b) e
      has_left (Idle ws) b _ e h = absurd h
      has_left (Keeper f z ws) (Idle us) _ (parent_of k) h = h
      has_left (Keeper f z ws) (Idle us) _ (child_of k) h = h
      has_left (Keeper f z ws) (Idle us) _ root h = h
      has_left (Keeper f z ws) (Keeper f' z' us) _ (parent_of k) h = h
      has_left (Keeper f z ws) (Keeper f' z' us) _ (child_of k) h = h
      has_left (Keeper f z ws) (Keeper f' z' us) _ root h = h
      has_left (Keeper f z ws) (Mailbox k p c) _ e h = h
      has_left (Mailbox k p c) b w e h = not_watch w

      has_right : (a b : Role Q) → is_watch a ≡ true → is_watch b ≡ true → KnowsRole (length blanks) r.mail was r.stored id a → KnowsRole (length blanks) r.mail was r.stored other b → (e : End) → Has b e → Has (role_joined a b) e
      has_right a (Idle us) _ _ ha hb e h = absurd h
      has_right a (Mailbox k p c) _ w ha hb e h = not_watch w
      has_right (Idle ws) (Keeper f z us) _ _ ha hb (parent_of k) h = h
      has_right (Idle ws) (Keeper f z us) _ _ ha hb (child_of k) h = h
      has_right (Idle ws) (Keeper f z us) _ _ ha hb root h = h
      has_right (Keeper f' z' ws) (Keeper f z us) _ _ ha hb e h = absurd (apart (sym hb.0 ∙ ha.0))
      has_right (Mailbox k p c) (Keeper f z us) w _ ha hb e h = not_watch w

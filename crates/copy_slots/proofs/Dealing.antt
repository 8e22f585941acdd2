-- The steps that move no packet: looks at the stop word, its store, and seats that are split and joined.
use Rattle.std.proofs.Common.{replicate, ◌≡◌, ◌≢◌, ◌⊎◌, ℕ, suc, zero, ◌+◌, ◌<◌, ◌≤◌, Bool, true, false, List, [], ◌∷◌, ◌++◌, map, length, get_or, set, sym, refl, ap, ◌∙◌, subst, ⊎_elim, inl, inr, arith, Option, Some, None, length-set, get_or-set_other, get_or-set_same, slice_get}
use mathlib.Core.Logic.{dite}
use mathlib.Core.Option.{none, some, some-ne-none, some-injective}
use native.Mathlib.Decide.{ℕ_discrete}
use lib.ListN.{get_elem?, length-map}
use lib.Seq.{set-get_or}
use Rattle.atomic_table.specs.Table.{State, Me, step, keeps, Allows, Splits, opening}
use Rattle.atomic_table.proofs.Lists.{at_set, at_longer, at_last}
use Rattle.copy_slots.specs.declared.view.Sender.{Sender}
use Rattle.copy_slots.specs.declared.view.Taker.{Taker}
use Rattle.copy_slots.specs.declared.view.Role.{Role}
use Rattle.copy_slots.specs.declared.view.Role.TheVariants.{Idle, Keeper, Mailbox}
use Rattle.copy_slots.specs.declared.view.View.{View}
use Rattle.copy_slots.specs.Mail.{MailboxState, untouched, End, parent_of, child_of, root, owner_of, SendsAt, TakesAt, KnowsParent, KnowsChild, KnowsRole, Has, IsEnd, BoxAt, spent, IsSeatView, MailInvariant, posed, new_sender, new_taker, left_of, right_of, dealt_left, dealt_right, role_checked, role_stopped, starting, checked, stops}
use Rattle.copy_slots.proofs.MailLemmas.{put, put_here, put_else, ends_stay, knows, at_end}

module _ {W P Q : Type 0} (plain : P → Q) (asks : W → ℕ → List Q → Type 0) (answers : W → ℕ → List Q → Q → Type 0) (work : W) (blanks : List Q) where
  abbrev St : Type 0
  St = State (Option P) (View W Q)

  abbrev Rule : St → Type 0
  Rule = MailInvariant plain asks answers work blanks

  abbrev Sits : (ℕ → MailboxState Q) → (ℕ → ℕ) → (ℕ → ℕ) → ℕ → Bool → ℕ → View W Q → Type 0
  Sits mail parent child keeper stored = IsSeatView plain asks answers work blanks mail (owner_of parent child keeper) stored

  -- the seat id has a new role with the same ends, and only the stop word may change
  pub reseat : (s : St) (r : Rule s) (id : ℕ) (v w : View W Q) (words : List ℕ) (stored : Bool) → get_elem? s.views id ≡ some v → length words ≡ length s.words
      → ((k : ℕ) → k < length blanks → get_or words k 0 ≡ get_or s.words k 0)
      → (get_or words (length blanks) 0 < 2) × (get_or words (length blanks) 0 ≡ 1 → stored ≡ true)
      → Sits r.mail r.parent r.child r.keeper stored id w
      → ((e : End) → Has v.role e → Has w.role e)
      → ((j : ℕ) (u : View W Q) → j ≢ id → Sits r.mail r.parent r.child r.keeper r.stored j u → Sits r.mail r.parent r.child r.keeper stored j u)
      → Rule record { words = words; homes = s.homes; views = set s.views id w }
  reseat s r id v w words stored at as_wide same stop sits has others = record {
    mail = r.mail;
    parent = r.parent;
    child = r.child;
    keeper = r.keeper;
    stored = stored;
    wide = as_wide ∙ r.wide;
    deep = r.deep;
    each_box = λ k l. subst (λ (z : ℕ). BoxAt plain asks answers work blanks (r.mail k).stage k (r.mail k) z (get_elem? s.homes k)) (sym (same k l)) (r.each_box k l);
    each_past = r.each_past;
    each_view = λ j u e. ⊎_elim (λ (t : (j ≡ id) × (w ≡ u)). subst (λ (z : ℕ × View W Q). Sits r.mail r.parent r.child r.keeper stored z.0 z.1) (λ c. (sym t.0 c, t.1 c)) sits)
        (λ (t : (j ≢ id) × (get_elem? s.views j ≡ some u)). others j u t.0 (r.each_view j u t.1)) (at_set s.views id j w u e);
    each_end = λ e l. ends_stay plain asks answers work blanks s.views id v w at e (has e) _ (r.each_end e l);
    stop = stop;
  }

  -- a look at the stop word
  pub checks : (slots id : ℕ) (me : Me (Option P) (View W Q)) (word : ℕ) → me.0 ≢ spent → word ≡ slots → Allows Rule slots id me word (λ n. n) (checked (step slots word 0 0 none) me)
  checks slots id me word live last s r deep at _ = let n : word ≡ length blanks = last ∙ (sym deep ∙ r.deep) in let found = get_or s.words word 0 in let was = sym (set-get_or s.words word 0) in let w : View W Q = posed me.0 (role_checked found me.0.role) in (
    w,
    keeps,
    tt,
    subst (λ (ws : List ℕ). Rule record { words = ws; homes = s.homes; views = set s.views id w }) was
        (reseat s r id me.0 w s.words r.stored at refl (λ k l. refl) r.stop
        (⊎_elim (λ (g : me.0 ≡ spent). absurd (live g)) (λ (h : (me.0.work ≡ Some work) × (me.0.blanks ≡ blanks) × KnowsRole (length blanks) r.mail (owner_of r.parent r.child r.keeper) r.stored id me.0.role). inr (h.0, h.1, still r.mail r.parent r.child r.keeper r.stored id found me.0.role h.2)) (r.each_view id me.0 at))
        (λ e. has found me.0.role e) (λ j u other t. t)),
    (
      refl,
      refl,
      subst (λ (z : ℕ). get_or s.words z 0 < 2) (sym n) r.stop.0,
      λ one from st ws is. (knows plain asks answers work blanks s r id me.0 (Keeper from st ws) at is tt).2.1 ∙ r.stop.1 (ap (λ (z : ℕ). get_or s.words z 0) (sym n) ∙ one),
    ),
  )
    where
      still : (mail : ℕ → MailboxState Q) (parent child : ℕ → ℕ) (keeper : ℕ) (stored : Bool) (j found : ℕ) (role : Role Q) → KnowsRole (length blanks) mail (owner_of parent child keeper) stored j role → KnowsRole (length blanks) mail (owner_of parent child keeper) stored j (role_checked found role)
      still mail parent child keeper stored j found (Idle ws) h = tt
      still mail parent child keeper stored j found (Keeper from st ws) h = h
      still mail parent child keeper stored j found (Mailbox k p c) h = h

      has : (found : ℕ) (role : Role Q) (e : End) → Has role e → Has (role_checked found role) e
      has found (Idle ws) e h = h
      has found (Keeper from st ws) (parent_of k) h = h
      has found (Keeper from st ws) (child_of k) h = h
      has found (Keeper from st ws) root h = h
      has found (Mailbox k p c) e h = h

  -- the stop word is stored
  pub stores : (slots id : ℕ) (me : Me (Option P) (View W Q)) (word from : ℕ) (st : Bool) (ws : List ℕ) → me.0.role ≡ Keeper from st ws → word ≡ slots → Allows Rule slots id me word (λ _. 1) (λ _. stops (step slots word 1 0 none) me 1)
  stores slots id me word from st ws is last s r deep at _ = let h = knows plain asks answers work blanks s r id me.0 (Keeper from st ws) at is tt in let w : View W Q = posed me.0 (role_stopped me.0.role) in
      let now : role_stopped me.0.role ≡ Keeper from true ws = ap role_stopped is in let n : word ≡ length blanks = last ∙ (sym deep ∙ r.deep) in let wide = r.wide in (
        w,
        keeps,
        tt,
        reseat s r id me.0 w (set s.words word 1) true at (length-set s.words word 1)
            (λ k l. get_or-set_other s.words word k 1 0 (λ e. omega arith))
            (subst (λ (z : ℕ). get_or (set s.words word 1) z 0 < 2) n (subst (λ (z : ℕ). z < 2) (sym (get_or-set_same s.words word 1 0 (omega arith))) (omega arith)), λ _. refl)
            (inr (h.0, h.1, subst (KnowsRole (length blanks) r.mail (owner_of r.parent r.child r.keeper) true id) (sym now) (h.2.0, refl, h.2.2)))
            (λ e t. subst (λ (z : Role Q). Has z e) (sym now) (has e (subst (λ (z : Role Q). Has z e) is t)))
            (λ j u other. ⊎_elim (λ (g : u ≡ spent). inl g)
            (λ (t : (u.work ≡ Some work) × (u.blanks ≡ blanks) × KnowsRole (length blanks) r.mail (owner_of r.parent r.child r.keeper) r.stored j u.role). inr (t.0, t.1, same r.mail r.parent r.child r.keeper r.stored id j other h.2.0 u.role t.2))),
        (refl, refl),
      )
    where
      has : (e : End) → Has {Q = Q} (Keeper from st ws) e → Has {Q = Q} (Keeper from true ws) e
      has (parent_of k) h = h
      has (child_of k) h = h
      has root h = h

      same : (mail : ℕ → MailboxState Q) (parent child : ℕ → ℕ) (keeper : ℕ) (stored : Bool) (id j : ℕ) → j ≢ id → keeper ≡ id → (role : Role Q) → KnowsRole (length blanks) mail (owner_of parent child keeper) stored j role → KnowsRole (length blanks) mail (owner_of parent child keeper) true j role
      same mail parent child keeper stored id j other mine (Idle us) h = tt
      same mail parent child keeper stored id j other mine (Keeper f z us) h = absurd (other (sym h.0 ∙ mine))
      same mail parent child keeper stored id j other mine (Mailbox k p c) h = (h.0, parents p h.1, children c h.2)
        where
          parents : (p : Option (Sender Q)) → KnowsParent (length blanks) mail (owner_of parent child keeper) stored j k p → KnowsParent (length blanks) mail (owner_of parent child keeper) true j k p
          parents None t = tt
          parents (Some x) t = t

          children : (c : Option (Taker Q)) → KnowsChild (length blanks) mail (owner_of parent child keeper) stored j k c → KnowsChild (length blanks) mail (owner_of parent child keeper) true j k c
          children None t = tt
          children (Some x) t = t

  -- a seat is split, and the new one stands after the others
  pub resplit : (s : St) (r : Rule s) (id : ℕ) (v left right : View W Q) (parent child : ℕ → ℕ) → get_elem? s.views id ≡ some v
      → Sits r.mail parent child r.keeper r.stored id left → Sits r.mail parent child r.keeper r.stored (length s.views) right
      → ((j : ℕ) (u : View W Q) → j ≢ id → Sits r.mail r.parent r.child r.keeper r.stored j u → Sits r.mail parent child r.keeper r.stored j u)
      → ((e : End) → IsEnd (length blanks) e → ((owner_of parent child r.keeper e ≡ owner_of r.parent r.child r.keeper e) × (Has v.role e → Has left.role e)) ⊎ ((owner_of parent child r.keeper e ≡ length s.views) × Has right.role e))
      → Rule record { words = s.words; homes = s.homes; views = set s.views id left ++ right ∷ [] }
  resplit s r id v left right parent child at on_left on_right others ends = let long = length-set s.views id left in record {
    mail = r.mail;
    parent = parent;
    child = child;
    keeper = r.keeper;
    stored = r.stored;
    wide = r.wide;
    deep = r.deep;
    each_box = r.each_box;
    each_past = r.each_past;
    each_view = λ j u e. ⊎_elim
        (λ (t : get_elem? (set s.views id left) j ≡ some u). ⊎_elim
        (λ (q : (j ≡ id) × (left ≡ u)). subst (λ (z : ℕ × View W Q). Sits r.mail parent child r.keeper r.stored z.0 z.1) (λ c. (sym q.0 c, q.1 c)) on_left)
        (λ (q : (j ≢ id) × (get_elem? s.views j ≡ some u)). others j u q.0 (r.each_view j u q.1)) (at_set s.views id j left u t))
        (λ (t : (right ≡ u) × (j ≡ length (set s.views id left))). subst (λ (z : ℕ × View W Q). Sits r.mail parent child r.keeper r.stored z.0 z.1) (λ c. (sym (t.1 ∙ long) c, t.0 c)) on_right)
        (at_end plain asks answers work blanks (set s.views id left) right u j e);
    each_end = λ e l. ⊎_elim
        (λ (t : (owner_of parent child r.keeper e ≡ owner_of r.parent r.child r.keeper e) × (Has v.role e → Has left.role e)). let x = ends_stay plain asks answers work blanks s.views id v left at e t.1 _ (r.each_end e l) in
        (x.0, subst (λ (z : ℕ). get_elem? (set s.views id left ++ right ∷ []) z ≡ some x.0) (sym t.0) (at_longer (set s.views id left) (right ∷ []) _ x.0 x.1), x.2))
        (λ (t : (owner_of parent child r.keeper e ≡ length s.views) × Has right.role e). (right, subst (λ (z : ℕ). get_elem? (set s.views id left ++ right ∷ []) z ≡ some right) (sym t.0) (at_last (set s.views id left) right (length s.views) long), t.1))
        (ends e l);
    stop = r.stop;
  }

  -- a seat is split off: both ends of the keeper's next mailbox
  pub deals : (id : ℕ) (v : View W Q) (from : ℕ) (st : Bool) (ws : List ℕ) → v.role ≡ Keeper from st ws → from < length v.blanks → Splits Rule id v (dealt_left v) (dealt_right v)
  deals id v from st ws is near s r at = resplit s r id v (dealt_left v) (dealt_right v) (put r.parent from new) (put r.child from new) at
      (inr (
        h.0,
        h.1,
        subst (λ (z : Role Q). KnowsRole (length blanks) r.mail own r.stored id (left_of z)) (sym is)
            (h.2.0, h.2.1, λ k low high. let t = h.2.2 k (omega arith) high in (put_else r.parent from new k (λ e. omega arith) ∙ t.0, put_else r.child from new k (λ e. omega arith) ∙ t.1, t.2)),
      ))
      (inr (
        h.0,
        h.1,
        subst (λ (z : Role Q). KnowsRole (length blanks) r.mail own r.stored new (right_of z)) (sym is)
            (inside, (put_here r.parent from new, fresh_sends), (put_here r.child from new, fresh_takes)),
      ))
      (λ j u other. ⊎_elim (λ (g : u ≡ spent). inl g)
      (λ (t : (u.work ≡ Some work) × (u.blanks ≡ blanks) × KnowsRole (length blanks) r.mail (owner_of r.parent r.child r.keeper) r.stored j u.role). inr (t.0, t.1, same j other u.role t.2)))
      ends
    where
      h : (v.work ≡ Some work) × (v.blanks ≡ blanks) × KnowsRole (length blanks) r.mail (owner_of r.parent r.child r.keeper) r.stored id (Keeper from st ws)
      h = knows plain asks answers work blanks s r id v (Keeper from st ws) at is tt

      new : ℕ
      new = length s.views

      own : End → ℕ
      own = owner_of (put r.parent from new) (put r.child from new) r.keeper

      inside : from < length blanks
      inside = subst (λ (z : List Q). from < length z) h.1 near

      mine : (r.parent from ≡ id) × (r.child from ≡ id) × (r.mail from ≡ untouched)
      mine = h.2.2 from (omega arith) inside

      fresh_sends : SendsAt (r.mail from) new_sender
      fresh_sends = subst (λ (z : MailboxState Q). SendsAt z new_sender) (sym mine.2) record { place = refl; sent = refl; got = refl }

      fresh_takes : TakesAt (r.mail from) new_taker
      fresh_takes = subst (λ (z : MailboxState Q). TakesAt z new_taker) (sym mine.2) record { holds = λ e. absurd (cc); taken = refl; answered = refl }

      same : (j : ℕ) → j ≢ id → (role : Role Q) → KnowsRole (length blanks) r.mail (owner_of r.parent r.child r.keeper) r.stored j role → KnowsRole (length blanks) r.mail own r.stored j role
      same j other (Idle us) t = tt
      same j other (Keeper f z us) t = absurd (other (sym t.0 ∙ h.2.0))
      same j other (Mailbox k p c) t = (t.0, parents p t.1, children c t.2)
        where
          parents : (p : Option (Sender Q)) → KnowsParent (length blanks) r.mail (owner_of r.parent r.child r.keeper) r.stored j k p → KnowsParent (length blanks) r.mail own r.stored j k p
          parents None q = tt
          parents (Some x) q = (put_else r.parent from new k (λ e. other (sym q.0 ∙ (ap r.parent e ∙ mine.0))) ∙ q.0, q.1)

          children : (c : Option (Taker Q)) → KnowsChild (length blanks) r.mail (owner_of r.parent r.child r.keeper) r.stored j k c → KnowsChild (length blanks) r.mail own r.stored j k c
          children None q = tt
          children (Some x) q = (put_else r.child from new k (λ e. other (sym q.0 ∙ (ap r.child e ∙ mine.1))) ∙ q.0, q.1)

      ends : (e : End) → IsEnd (length blanks) e → ((own e ≡ owner_of r.parent r.child r.keeper e) × (Has v.role e → Has (left_of v.role) e)) ⊎ ((own e ≡ length s.views) × Has (right_of v.role) e)
      ends (parent_of k) l = dite (ℕ_discrete k from)
          (λ e. inr (ap (put r.parent from new) e ∙ put_here r.parent from new, subst (λ (z : Role Q). Has (right_of z) (parent_of k)) (sym is) (sym e, (new_sender, refl))))
          (λ e. inl (put_else r.parent from new k e, subst (λ (z : Role Q). Has z (parent_of k) → Has (left_of z) (parent_of k)) (sym is) (λ (q : from ≤ k). let g : from + 1 ≤ k = omega arith in g)))
      ends (child_of k) l = dite (ℕ_discrete k from)
          (λ e. inr (ap (put r.child from new) e ∙ put_here r.child from new, subst (λ (z : Role Q). Has (right_of z) (child_of k)) (sym is) (sym e, (new_taker, refl))))
          (λ e. inl (put_else r.child from new k e, subst (λ (z : Role Q). Has z (child_of k) → Has (left_of z) (child_of k)) (sym is) (λ (q : from ≤ k). let g : from + 1 ≤ k = omega arith in g)))
      ends root l = inl (refl, subst (λ (z : Role Q). Has z root → Has (left_of z) root) (sym is) (λ q. tt))

  -- the table at the start
  pub blank_at : (packets : List P) (k : ℕ) → k < length packets → (p : P) × (get_elem? (map some (map Some packets)) k ≡ some (some (Some p))) × (slice_get (map plain packets) k ≡ Some (plain p))
  blank_at [] k l = absurd (omega arith)
  blank_at (x ∷ xs) zero l = (x, refl, refl)
  blank_at (x ∷ xs) (suc k) l = blank_at xs k (omega arith)

  pub starts : (words : List ℕ) (packets : List P) (slots : List (Option P)) → slots ≡ map Some packets → blanks ≡ map plain packets → length words ≡ length packets + 1 → ((k : ℕ) → get_or words k 0 ≡ 0)
      → Rule (opening words slots (starting work blanks))
  starts words packets slots are blank wide zeros = let long : length blanks ≡ length packets = ap (λ (z : List Q). length z) blank ∙ length-map packets plain in record {
    mail = λ k. untouched;
    parent = λ k. 0;
    child = λ k. 0;
    keeper = 0;
    stored = false;
    wide = wide ∙ ap (λ (z : ℕ). z + 1) (sym long);
    deep = length-map slots some ∙ (ap (λ (z : List (Option P)). length z) are ∙ (length-map packets Some ∙ sym long));
    each_box = λ k l. let b = blank_at packets k (omega arith) in record {
      packet = b.0;
      word_is = zeros k;
      home_is = ap (λ (z : List (Option P)). get_elem? (map some z) k) are ∙ b.1;
      blank = ap (λ (z : List Q). slice_get z k) blank ∙ b.2;
      mail_is = refl;
    };
    each_past = λ k l. record { replies = λ i q e. absurd (some-ne-none q (sym e)); jobs = λ i z. absurd (omega arith) };
    each_view = λ j v e. first j v e;
    each_end = λ e l. (starting work blanks, own e, has e);
    stop = (let z = zeros (length blanks) in omega arith, λ e. let z = zeros (length blanks) in absurd (omega arith));
  }
    where
      first : (j : ℕ) (v : View W Q) → get_elem? (starting work blanks ∷ []) j ≡ some v → Sits (λ k. untouched) (λ k. 0) (λ k. 0) 0 false j v
      first zero v e = subst (λ (z : View W Q). Sits (λ k. untouched) (λ k. 0) (λ k. 0) 0 false 0 z) (some-injective _ _ e) (inr (refl, refl, (refl, refl, λ k low high. (refl, refl, refl))))
      first (suc j) v e = absurd (some-ne-none v (sym e))

      own : (e : End) → get_elem? (starting work blanks ∷ []) (owner_of (λ k. 0) (λ k. 0) 0 e) ≡ some (starting work blanks)
      own (parent_of k) = refl
      own (child_of k) = refl
      own root = refl

      has : (e : End) → Has {Q = Q} (Keeper 0 false []) e
      has (parent_of k) = omega arith
      has (child_of k) = omega arith
      has root = tt

pub all_zero : (n k : ℕ) → get_or (replicate {A = ℕ} n 0) k 0 ≡ 0
all_zero zero k = refl
all_zero (suc n) zero = refl
all_zero (suc n) (suc k) = all_zero n k

-- The rule of the mailboxes gives its parts.
use Rattle.std.proofs.Common.{◌≡◌, slice_index, ℕ, ◌+◌, ◌<◌, List, [], ◌∷◌, ◌++◌, length, length-append, sym, refl, ap, ◌∙◌, subst, inl, inr, ⊎_elim, arith, Bool, true, false, Option, Some, None}
use mathlib.Core.Option.{none, some}
use mathlib.Core.Option as maybe
use lib.ListN.{get_elem?}
use Rattle.copy_slots.specs.declared.view.PacketAt.{PacketAt}
use Rattle.copy_slots.specs.declared.view.PacketAt.TheVariants.{Fresh, Held, Out}
use Rattle.copy_slots.specs.declared.view.Sender.{Sender}
use Rattle.copy_slots.specs.declared.view.Taker.{Taker}
use Rattle.copy_slots.specs.declared.view.Role.{Role}
use Rattle.copy_slots.specs.declared.view.Role.TheVariants.{Idle, Keeper, Mailbox}
use Rattle.copy_slots.specs.declared.view.View.{View}
use Rattle.atomic_table.specs.Table.{State}
use Rattle.copy_slots.specs.Mail.{MailStage, fresh, with_parent, at_child, with_child, at_parent, MailboxState, End, parent_of, child_of, root, owner_of, IsAtStage, HeldByChild, SendsAt, TakesAt, KnowsRole, Has, IsEnd, BoxAt, Past, spent, MailInvariant}
use Rattle.copy_slots.specs.Ports.{stored_of}
use Rattle.copy_slots.specs.Rule.{IsAtHome, IsInHand, SaysParent, SaysChild, IsRuled, HasView, ParentSays, ChildSays, Between}

packet_in : {P : Type 0} → P → maybe.Option (maybe.Option (Option P)) → P
packet_in d (some (some (Some p))) = p
packet_in d h = d

same_home : {P : Type 0} (h : maybe.Option (maybe.Option (Option P))) (p q : P) → IsAtHome h p → IsAtHome h q → p ≡ q
unfolding packet_in
same_home h p q e f = ap (packet_in p) (sym e ∙ f)

home_or_hand : {P : Type 0} (h : maybe.Option (maybe.Option (Option P))) (p : P) → IsAtHome h p → IsInHand h → ⊥
home_or_hand h p e f = let g : some (some (Some p)) ≡ some none = sym e ∙ f in absurd (cc)

some_is : {A : Type 0} (a b : A) → Some a ≡ Some b → a ≡ b
some_is a b e = cc

not_none : {A : Type 0} (b : A) → None ≡ Some b → ⊥
not_none b e = cc

one_more : {A : Type 0} (l m : List A) (a : A) → l ≡ m ++ a ∷ [] → length l ≡ length m + 1
one_more l m a e = ap length e ∙ length-append m (a ∷ [])

none_there : {A : Type 0} (l : List A) → l ≡ [] → length l ≡ 0
none_there l e = ap length e

-- ---- where a packet is, as its two ends know it

place_at : MailStage → PacketAt
place_at fresh = Fresh
place_at with_parent = Held
place_at at_child = Out
place_at with_child = Out
place_at at_parent = Out

holds_at : MailStage → Bool
holds_at with_child = true
holds_at _ = false

place_is : (p : PacketAt) (g : MailStage) → IsAtStage p g → p ≡ place_at g
unfolding place_at
place_is Fresh g h = ap place_at (sym h)
place_is Held g h = ap place_at (sym h)
place_is Out fresh h = absurd h
place_is Out with_parent h = absurd h
place_is Out at_child h = refl
place_is Out with_child h = refl
place_is Out at_parent h = refl

holds_is : (b : Bool) (g : MailStage) → HeldByChild b g → b ≡ holds_at g
unfolding holds_at
holds_is true g h = ap holds_at (sym h)
holds_is false with_child h = absurd (h refl)
holds_is false fresh h = refl
holds_is false with_parent h = refl
holds_is false at_child h = refl
holds_is false at_parent h = refl

fresh_held : Fresh ≡ Held → ⊥
fresh_held e = cc

held_fresh : Held ≡ Fresh → ⊥
held_fresh e = cc

out_held : Out ≡ Held → ⊥
out_held e = cc

out_fresh : Out ≡ Fresh → ⊥
out_fresh e = cc

false_true : false ≡ true → ⊥
false_true e = cc

module _ {W P Q : Type 0} (plain : P → Q) (asks : W → ℕ → List Q → Type 0) (answers : W → ℕ → List Q → Q → Type 0) (work : W) (blanks : List Q) where
  abbrev sender_of : MailStage → MailboxState Q → List ℕ → Sender Q
  sender_of g m l = record { place = place_at g; sent = m.sent; got = m.got; looked = l }

  abbrev taker_of : MailStage → MailboxState Q → List ℕ → Taker Q
  taker_of g m l = record { holds = holds_at g; taken = m.taken; answered = m.answered; looked = l }

  ruled : (g : MailStage) (k : ℕ) (m : MailboxState Q) (seen looked : List ℕ) (w : ℕ) (h : maybe.Option (maybe.Option (Option P))) → BoxAt plain asks answers work blanks g k m w h → Past plain asks answers work blanks k m
      → IsRuled plain asks answers work blanks k (sender_of g m seen) (taker_of g m looked) w h
  unfolding place_at holds_at
  ruled fresh k m seen looked w h b past = let zero = b.word_is in let none_sent = ap (λ (z : MailboxState Q). z.sent) b.mail_is in record {
    word_is = omega arith;
    slot_is = inl (b.packet, b.home_is);
    parent_holds = (λ e. absurd (fresh_held e), λ t. absurd (home_or_hand h b.packet b.home_is t.1));
    child_holds = (λ e. absurd (false_true e), λ t. absurd (home_or_hand h b.packet b.home_is t.1));
    fresh = (λ e. (b.packet, b.home_is, none_sent), λ t. refl);
    answered = λ _. (ap (λ (z : MailboxState Q). length z.sent) b.mail_is ∙ sym (ap (λ (z : MailboxState Q). length z.answered) b.mail_is), ap (λ (z : MailboxState Q). z.taken) b.mail_is ∙ sym none_sent);
    rests = λ _ p e. inl (none_sent, ap (λ (z : MailboxState Q). z.got) b.mail_is, b.blank ∙ ap (λ (z : P). Some (plain z)) (same_home h b.packet p b.home_is e));
    held = λ _ e. absurd (home_or_hand h b.packet b.home_is e);
    out = λ e. absurd (omega arith);
    waits = λ e p f. absurd (omega arith);
    taken = λ e f. absurd (omega arith);
    replies = past.replies;
    jobs = past.jobs;
    reply = λ _ p e n. absurd (n none_sent);
    job = λ e p f. absurd (omega arith);
  }
  ruled with_parent k m seen looked w h b past = let zero = b.word_is in record {
    word_is = omega arith;
    slot_is = inr b.home_is;
    parent_holds = (λ e. (b.word_is, b.home_is), λ t. refl);
    child_holds = (λ e. absurd (false_true e), λ t. let one = t.0 in absurd (omega arith));
    fresh = (λ e. absurd (held_fresh e), λ t. absurd (home_or_hand h t.0 t.1 b.home_is));
    answered = λ _. (sym b.counts, b.taken);
    rests = λ _ p e. absurd (home_or_hand h p e b.home_is);
    held = λ _ e. b.got;
    out = λ e. absurd (omega arith);
    waits = λ e p f. absurd (omega arith);
    taken = λ e f. absurd (omega arith);
    replies = past.replies;
    jobs = past.jobs;
    reply = λ _ p e n. absurd (home_or_hand h p e b.home_is);
    job = λ e p f. absurd (omega arith);
  }
  ruled at_child k m seen looked w h b past = let one = b.word_is in let counts = b.counts in record {
    word_is = omega arith;
    slot_is = inl (b.packet, b.home_is);
    parent_holds = (λ e. absurd (out_held e), λ t. absurd (home_or_hand h b.packet b.home_is t.1));
    child_holds = (λ e. absurd (false_true e), λ t. absurd (home_or_hand h b.packet b.home_is t.1));
    fresh = (λ e. absurd (out_fresh e), λ t. let empty = none_there m.sent t.2 in absurd (omega arith));
    answered = λ e. absurd (omega arith);
    rests = λ e p f. absurd (omega arith);
    held = λ e f. absurd (omega arith);
    out = λ _. (b.counts, b.got);
    waits = λ _ p e. b.sent ∙ ap (λ (z : P). m.taken ++ plain z ∷ []) (same_home h b.packet p b.home_is e);
    taken = λ _ e. absurd (home_or_hand h b.packet b.home_is e);
    replies = past.replies;
    jobs = past.jobs;
    reply = λ e p f n. absurd (omega arith);
    job = λ _ p e. subst (λ (z : List Q). asks work k z) (b.sent ∙ ap (λ (z : P). m.taken ++ plain z ∷ []) (same_home h b.packet p b.home_is e)) b.asked;
  }
  ruled with_child k m seen looked w h b past = let one = b.word_is in record {
    word_is = omega arith;
    slot_is = inr b.home_is;
    parent_holds = (λ e. absurd (out_held e), λ t. let zero = t.0 in absurd (omega arith));
    child_holds = (λ e. (b.word_is, b.home_is), λ t. refl);
    fresh = (λ e. absurd (out_fresh e), λ t. absurd (home_or_hand h t.0 t.1 b.home_is));
    answered = λ e. absurd (omega arith);
    rests = λ e p f. absurd (omega arith);
    held = λ e f. absurd (omega arith);
    out = λ _. (b.counts, b.got);
    waits = λ _ p e. absurd (home_or_hand h p e b.home_is);
    taken = λ _ e. b.taken;
    replies = past.replies;
    jobs = past.jobs;
    reply = λ e p f n. absurd (omega arith);
    job = λ _ p e. absurd (home_or_hand h p e b.home_is);
  }
  ruled at_parent k m seen looked w h b past = let zero = b.word_is in let counts = b.counts in let more = one_more m.answered m.got (plain b.packet) b.answered in record {
    word_is = omega arith;
    slot_is = inl (b.packet, b.home_is);
    parent_holds = (λ e. absurd (out_held e), λ t. absurd (home_or_hand h b.packet b.home_is t.1));
    child_holds = (λ e. absurd (false_true e), λ t. absurd (home_or_hand h b.packet b.home_is t.1));
    fresh = (λ e. absurd (out_fresh e), λ t. let empty = none_there m.sent t.2 in absurd (omega arith));
    answered = λ _. (sym b.counts, b.taken);
    rests = λ _ p e. inr (λ none. let empty = none_there m.sent none in absurd (omega arith), b.answered ∙ ap (λ (z : P). m.got ++ plain z ∷ []) (same_home h b.packet p b.home_is e));
    held = λ _ e. absurd (home_or_hand h b.packet b.home_is e);
    out = λ e. absurd (omega arith);
    waits = λ e p f. absurd (omega arith);
    taken = λ e f. absurd (omega arith);
    replies = past.replies;
    jobs = past.jobs;
    reply = λ _ p e n. subst (λ (z : P). answers work k m.sent (plain z)) (same_home h b.packet p b.home_is e) b.reply;
    job = λ e p f. absurd (omega arith);
  }

  -- what is said of the two ends agrees with the lists of the mailbox
  ruled_as_said : (k : ℕ) (m : MailboxState Q) (x : Sender Q) (y : Taker Q) (w : ℕ) (h : maybe.Option (maybe.Option (Option P))) → BoxAt plain asks answers work blanks m.stage k m w h → Past plain asks answers work blanks k m
      → SendsAt m x → TakesAt m y → IsRuled plain asks answers work blanks k x y w h
  ruled_as_said k m x y w h b past sends takes_ =
      let parent : sender_of m.stage m x.looked ≡ x = λ i. record { place = sym (place_is x.place m.stage sends.place) i; sent = sym sends.sent i; got = sym sends.got i; looked = x.looked } in
      let child : taker_of m.stage m y.looked ≡ y = λ i. record { holds = sym (holds_is y.holds m.stage takes_.holds) i; taken = sym takes_.taken i; answered = sym takes_.answered i; looked = y.looked } in
      subst (λ (z : Sender Q × Taker Q). IsRuled plain asks answers work blanks k z.0 z.1 w h) (λ i. (parent i, child i)) (ruled m.stage k m x.looked y.looked w h b past)

  sends_at : (mail : ℕ → MailboxState Q) (owner : End → ℕ) (stored : Bool) (j : ℕ) (role : Role Q) (k : ℕ) (x : Sender Q) → k < length blanks → KnowsRole (length blanks) mail owner stored j role → SaysParent role k x → SendsAt (mail k) x
  sends_at mail owner stored j (Idle ws) k x near knows says = absurd says
  sends_at mail owner stored j (Keeper from st ws) k x near knows says =
      subst (λ (z : MailboxState Q × Sender Q). SendsAt z.0 z.1) (λ i. (sym (knows.2 k says.0 near).2 i, sym says.1 i)) (record { place = refl; sent = refl; got = refl })
  sends_at mail owner stored j (Mailbox i None c) k x near knows says = absurd (not_none x says.1)
  sends_at mail owner stored j (Mailbox i (Some z) c) k x near knows says = subst (λ (q : ℕ × Sender Q). SendsAt (mail q.0) q.1) (λ l. (says.0 l, some_is z x says.1 l)) knows.1.1

  takes_at : (mail : ℕ → MailboxState Q) (owner : End → ℕ) (stored : Bool) (j : ℕ) (role : Role Q) (k : ℕ) (y : Taker Q) → k < length blanks → KnowsRole (length blanks) mail owner stored j role → SaysChild role k y → TakesAt (mail k) y
  takes_at mail owner stored j (Idle ws) k y near knows says = absurd says
  takes_at mail owner stored j (Keeper from st ws) k y near knows says =
      subst (λ (z : MailboxState Q × Taker Q). TakesAt z.0 z.1) (λ i. (sym (knows.2 k says.0 near).2 i, sym says.1 i)) (record { holds = λ e. cc; taken = refl; answered = refl })
  takes_at mail owner stored j (Mailbox i p None) k y near knows says = absurd (not_none y says.1)
  takes_at mail owner stored j (Mailbox i p (Some z)) k y near knows says = subst (λ (q : ℕ × Taker Q). TakesAt (mail q.0) q.1) (λ l. (says.0 l, some_is z y says.1 l)) knows.2.1

  -- a seat that has an end is the one that the rule names
  owns : (mail : ℕ → MailboxState Q) (owner : End → ℕ) (stored : Bool) (j : ℕ) (role : Role Q) (e : End) → IsEnd (length blanks) e → KnowsRole (length blanks) mail owner stored j role → Has role e → owner e ≡ j
  owns mail owner stored j (Idle ws) e inside knows has = absurd has
  owns mail owner stored j (Keeper from st ws) (parent_of k) inside knows has = (knows.2 k has inside).0
  owns mail owner stored j (Keeper from st ws) (child_of k) inside knows has = (knows.2 k has inside).1
  owns mail owner stored j (Keeper from st ws) root inside knows has = knows.0
  owns mail owner stored j (Mailbox i None c) (parent_of k) inside knows has = absurd (cc)
  owns mail owner stored j (Mailbox i (Some x) c) (parent_of k) inside knows has = subst (λ (z : ℕ). owner (parent_of z) ≡ j) has.0 knows.1.0
  owns mail owner stored j (Mailbox i p None) (child_of k) inside knows has = absurd (cc)
  owns mail owner stored j (Mailbox i p (Some y)) (child_of k) inside knows has = subst (λ (z : ℕ). owner (child_of z) ≡ j) has.0 knows.2.0
  owns mail owner stored j (Mailbox i p c) root inside knows has = absurd has

  no_end : (e : End) → Has {Q = Q} (Idle []) e → ⊥
  no_end e has = has

  stored_is : (mail : ℕ → MailboxState Q) (owner : End → ℕ) (stored : Bool) (j : ℕ) (role : Role Q) → KnowsRole (length blanks) mail owner stored j role → Has role root → stored_of role ≡ stored
  stored_is mail owner stored j (Idle ws) knows has = absurd has
  stored_is mail owner stored j (Keeper from st ws) knows has = knows.1
  stored_is mail owner stored j (Mailbox i p c) knows has = absurd has

  module _ (s : State (Option P) (View W Q)) (r : MailInvariant plain asks answers work blanks s) where
    abbrev owner : End → ℕ
    owner = owner_of r.parent r.child r.keeper

    abbrev Known : ℕ → View W Q → Type 0
    Known j v = (v.work ≡ Some work) × (v.blanks ≡ blanks) × KnowsRole (length blanks) r.mail owner r.stored j v.role

    known : (j : ℕ) (v : View W Q) → HasView s j v → Known j v
    known j v h = ⊎_elim (λ (g : v ≡ spent). absurd (h.live g)) (λ (q : Known j v). q) (r.each_view j v h.at)

    parent_at : (k : ℕ) (x : Sender Q) → k < length blanks → ParentSays s k x → SendsAt (r.mail k) x
    parent_at k x near p = sends_at r.mail owner r.stored p.seat p.view.role k x near (known p.seat p.view p.has).2 p.says

    child_at : (k : ℕ) (y : Taker Q) → k < length blanks → ChildSays s k y → TakesAt (r.mail k) y
    child_at k y near c = takes_at r.mail owner r.stored c.seat c.view.role k y near (known c.seat c.view c.has).2 c.says

    pub between : Between plain asks answers work blanks s
    between = record {
      shared = λ j v h. let q = known j v h in (q.0, q.1);
      ends = λ e inside. let t = r.each_end e inside in record {
        seat = owner e;
        has = record { view = t.0; has = record { at = t.1; live = λ g. no_end e (subst (λ (z : View W Q). Has z.role e) g t.2) }; end = t.2 };
        only = λ j h. sym (owns r.mail owner r.stored j h.view.role e inside (known j h.view h.has).2 h.end);
      };
      each = λ k near x y p c. ruled_as_said k (r.mail k) x y (slice_index s.words k) (get_elem? s.homes k) (r.each_box k near) (r.each_past k near) (parent_at k x near p) (child_at k y near c);
      stop_word = r.stop.0;
      stop = λ one j h. stored_is r.mail owner r.stored j h.view.role (known j h.view h.has).2 h.end ∙ r.stop.1 one;
    }

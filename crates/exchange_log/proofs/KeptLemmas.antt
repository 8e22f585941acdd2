-- How what is kept grows.
use Rattle.std.proofs.Common.{ℕ, zero, suc, ◌+◌, ◌<◌, ◌≤◌, ◌≡◌, ◌≢◌, ◌==◌, min, Bool, true, false, cond, Option, None, Some, List, [], ◌∷◌, ◌++◌, length, get_or, refl, sym, ap, subst, ◌∙◌, arith}
use Rattle.std.specs.Prelude.{slice_get, slice_set, replicate}
use Rattle.std.proofs.lemmas.Bool.Decides.{nat_tests}
use Rattle.std.proofs.lemmas.List.{length-replicate, get_or-replicate}
use Rattle.std.proofs.lemmas.Option.{slice_get_within, get_or_from_slice_get}
use Rattle.forec_kernel.specs.Packets.{PlainPacket}
use Rattle.forec_kernel.specs.Packed.{HasRoom}
use Rattle.thread_code.specs.Plain.{PlainCode}
use Rattle.thread_code.specs.Valid.{of_shape}
use Rattle.combine_tree.specs.declared.packet.Packet.{Packet}
use Rattle.combine_tree.specs.Plain.{plain_packet}
use Rattle.copy_slots.specs.declared.view.PacketAt.{PacketAt}
use Rattle.copy_slots.specs.declared.view.Sender.{Sender}
use Rattle.copy_slots.specs.declared.view.Taker.{Taker}
use Rattle.copy_slots.specs.Mail.{sender_looked, sender_got, sender_sent}
use Rattle.copy_slots.specs.Ports.{MailboxEnds, parent_at, on_sender, on_parent, on_child, IsParent, sender_seen, in_plain}
use Rattle.copy_slots.proofs.PortLemmas.{parent_here, parent_else, parent_on_child}
use Rattle.tick_jobs.proofs.Lists.{get_set, get_set_else}
use Rattle.core_seats.specs.Asking.{Asks}
use Rattle.exchange_log.specs.declared.book.Book.{Book}
use Rattle.exchange_log.specs.declared.register.Register.{Register}
use Rattle.exchange_log.specs.Registers.{packets_in, packets_of, count_in, AreInside, AreNumbered, IsEmpty, KeepsPacket}
use Rattle.exchange_log.specs.Notes.{most_counted, NotesJob, NotesReply}
use Rattle.exchange_log.specs.Kept.{job_words, reply_words, words_of_jobs, words_of_replies, words_of_end, mail_words, job_note, reply_note, job_notes, reply_notes, HasAll, HaveRoom, KeepsExchanges}
use Rattle.exchange_log.proofs.RegisterLemmas.{length_app, counted, count_most, packets_grow, inside_grows, numbered_grows, entry_count, args_count, copies_count}

job_notes_snoc : (ps : List PlainPacket) (p : PlainPacket) → job_notes (ps ++ p ∷ []) ≡ job_notes ps ++ job_note p ∷ []
job_notes_snoc [] p = refl
job_notes_snoc (x ∷ ps) p = ap (λ l. job_note x ∷ l) (job_notes_snoc ps p)

reply_notes_snoc : (ps : List PlainPacket) (p : PlainPacket) → reply_notes (ps ++ p ∷ []) ≡ reply_notes ps ++ reply_note p ∷ []
reply_notes_snoc [] p = refl
reply_notes_snoc (x ∷ ps) p = ap (λ l. reply_note x ∷ l) (reply_notes_snoc ps p)

pub job_notes_length : (ps : List PlainPacket) → length (job_notes ps) ≡ length ps
job_notes_length [] = refl
job_notes_length (p ∷ ps) = ap suc (job_notes_length ps)

pub reply_notes_length : (ps : List PlainPacket) → length (reply_notes ps) ≡ length ps
reply_notes_length [] = refl
reply_notes_length (p ∷ ps) = ap suc (reply_notes_length ps)

room_snoc : (c : PlainCode) (k : ℕ) (ps : List PlainPacket) (p : PlainPacket) → HaveRoom c k ps → HasRoom (of_shape c.shape) (suc k) p → HaveRoom c k (ps ++ p ∷ [])
room_snoc c k [] p h r = (r, tt)
room_snoc c k (x ∷ ps) p h r = (h.0, room_snoc c k ps p h.1 r)

-- ---- words

jobs_snoc : (ps : List PlainPacket) (p : PlainPacket) → words_of_jobs (ps ++ p ∷ []) ≡ words_of_jobs ps + job_words p
jobs_snoc [] p = omega arith
jobs_snoc (x ∷ ps) p = let ih = jobs_snoc ps p in omega (arith, ih)

replies_snoc : (ps : List PlainPacket) (p : PlainPacket) → words_of_replies (ps ++ p ∷ []) ≡ words_of_replies ps + reply_words p
replies_snoc [] p = omega arith
replies_snoc (x ∷ ps) p = let ih = replies_snoc ps p in omega (arith, ih)

words_on : (ends : List (MailboxEnds PlainPacket)) (k n : ℕ) (f : Sender PlainPacket → Sender PlainPacket) (x : Sender PlainPacket) → parent_at ends k ≡ Some x →
    words_of_end (Some (f x)) ≡ words_of_end (Some x) + n → mail_words (on_parent ends k f) ≡ mail_words ends + n
words_on [] k n f x e h = cc
words_on (e0 ∷ es) zero n f x e h =
    let a : words_of_end (on_sender f e0.parent) ≡ words_of_end (Some (f x)) = ap (λ o. words_of_end (on_sender f o)) e in
    let b : words_of_end e0.parent ≡ words_of_end (Some x) = ap words_of_end e in omega (arith, a, b, h)
words_on (e0 ∷ es) (suc k) n f x e h = let ih = words_on es k n f x e h in omega (arith, ih)

words_same : (ends : List (MailboxEnds PlainPacket)) (k : ℕ) (f : Sender PlainPacket → Sender PlainPacket) → ((x : Sender PlainPacket) → words_of_end (Some (f x)) ≡ words_of_end (Some x)) → mail_words (on_parent ends k f) ≡ mail_words ends
words_same [] k f h = refl
words_same (e ∷ es) zero f h = ap (λ n. n + mail_words es) (by_end e.parent)
  where
    by_end : (o : Option (Sender PlainPacket)) → words_of_end (on_sender f o) ≡ words_of_end o
    by_end None = refl
    by_end (Some x) = h x
words_same (e ∷ es) (suc k) f h = ap (λ n. words_of_end e.parent + n) (words_same es k f h)

words_child : (ends : List (MailboxEnds PlainPacket)) (k : ℕ) (f : Taker PlainPacket → Taker PlainPacket) → mail_words (on_child ends k f) ≡ mail_words ends
words_child [] k f = refl
words_child (e ∷ es) zero f = refl
words_child (e ∷ es) (suc k) f = ap (λ n. words_of_end e.parent + n) (words_child es k f)

-- ---- which mailbox

some_is : (x y : Sender PlainPacket) → Some x ≡ Some y → x ≡ y
some_is x y e = cc

number_is : (a b : ℕ) → (a == b) ≡ true → a ≡ b
number_is a b h = grind (arith, nat_tests)

number_not : (a b : ℕ) → (a == b) ≡ false → a ≢ b
number_not a b h e = let t : (a == b) ≡ true = grind (arith, nat_tests) in cc

pub has_parent : (p : PacketAt) (o : Option (Sender PlainPacket)) → IsParent o p → (x : Sender PlainPacket) × (o ≡ Some x)
has_parent p None h = absurd h
has_parent p (Some x) h = (x, refl)

pub number_same : (a b : ℕ) → Some a ≡ Some b → a ≡ b
number_same a b e = cc

data Where (ends : List (MailboxEnds PlainPacket)) (k j : ℕ) (z y : Sender PlainPacket) : Type 0 where
  here : (k == j) ≡ true → j ≡ k → y ≡ z → Where ends k j z y
  there : (k == j) ≡ false → j ≢ k → parent_at ends j ≡ Some y → Where ends k j z y

where_is : (ends : List (MailboxEnds PlainPacket)) (k j : ℕ) (f : Sender PlainPacket → Sender PlainPacket) (x y : Sender PlainPacket) → parent_at ends k ≡ Some x → parent_at (on_parent ends k f) j ≡ Some y → Where ends k j (f x) y
where_is ends k j f x y e h = by_test (k == j) refl
  where
    by_test : (t : Bool) → (k == j) ≡ t → Where ends k j (f x) y
    by_test true t =
        let same = number_is k j t in
        let at : parent_at (on_parent ends k f) k ≡ Some y = ap (parent_at (on_parent ends k f)) same ∙ h in
        here t (sym same) (some_is y (f x) (sym at ∙ parent_here ends k f ∙ ap (on_sender f) e))
    by_test false t =
        let other : j ≢ k = λ s. number_not k j t (sym s) in there t other (sym (parent_else ends k j f other) ∙ h)

-- ---- what is the same

kept_same : (c : PlainCode) (ends ends' : List (MailboxEnds PlainPacket)) (b : Book) → mail_words ends' ≡ mail_words ends →
    ((j : ℕ) (y : Sender PlainPacket) → parent_at ends' j ≡ Some y → (x : Sender PlainPacket) × (parent_at ends j ≡ Some x) × (y.sent ≡ x.sent) × (y.got ≡ x.got)) → KeepsExchanges c ends b → KeepsExchanges c ends' b
kept_same c ends ends' b words same h =
    record {
      needed = h.needed ∙ ap (λ n. min n most_counted) (sym words);
      job_counts = λ j y at. let s = same j y at in h.job_counts j s.0 s.1 ∙ ap (λ (l : List PlainPacket). Some (min (length l) most_counted)) (sym s.2);
      reply_counts = λ j y at. let s = same j y at in h.reply_counts j s.0 s.1 ∙ ap (λ (l : List PlainPacket). Some (min (length l) most_counted)) (sym s.3);
      all = λ le. let a = h.all le in
          record {
            small = a.small;
            jobs = a.jobs;
            replies = a.replies;
            jobs_numbered = a.jobs_numbered;
            replies_numbered = a.replies_numbered;
            sent = λ j y at. let s = same j y at in a.sent j s.0 s.1 ∙ ap job_notes (sym s.2);
            got = λ j y at. let s = same j y at in a.got j s.0 s.1 ∙ ap reply_notes (sym s.3);
          };
      jobs_fit = λ j y at. let s = same j y at in subst (HaveRoom c j) (sym s.2) (h.jobs_fit j s.0 s.1);
      replies_fit = λ j y at. let s = same j y at in subst (HaveRoom c j) (sym s.3) (h.replies_fit j s.0 s.1);
    }

-- an end that looks, or opens
pub kept_looks : (c : PlainCode) (ends : List (MailboxEnds PlainPacket)) (k : ℕ) (b : Book) (f : Sender PlainPacket → Sender PlainPacket) → ((x : Sender PlainPacket) → (f x).sent ≡ x.sent) → ((x : Sender PlainPacket) → (f x).got ≡ x.got) →
    KeepsExchanges c ends b → KeepsExchanges c (on_parent ends k f) b
kept_looks c ends k b f fs fg h =
    kept_same c ends (on_parent ends k f) b
    (words_same ends k f (λ x. ap (λ l. words_of_jobs l + words_of_replies (f x).got) (fs x) ∙ ap (λ l. words_of_jobs x.sent + words_of_replies l) (fg x))) same h
  where
    from : (o : Option (Sender PlainPacket)) (y : Sender PlainPacket) → on_sender f o ≡ Some y → (x : Sender PlainPacket) × (o ≡ Some x) × (y.sent ≡ x.sent) × (y.got ≡ x.got)
    from None y e = cc
    from (Some x) y e = let is = some_is (f x) y e in (x, refl, ap (λ (z : Sender PlainPacket). z.sent) (sym is) ∙ fs x, ap (λ (z : Sender PlainPacket). z.got) (sym is) ∙ fg x)

    same : (j : ℕ) (y : Sender PlainPacket) → parent_at (on_parent ends k f) j ≡ Some y → (x : Sender PlainPacket) × (parent_at ends j ≡ Some x) × (y.sent ≡ x.sent) × (y.got ≡ x.got)
    same j y at = by_test (k == j) refl
      where
        by_test : (t : Bool) → (k == j) ≡ t → (x : Sender PlainPacket) × (parent_at ends j ≡ Some x) × (y.sent ≡ x.sent) × (y.got ≡ x.got)
        by_test true t =
            let e = number_is k j t in
            let r = from (parent_at ends k) y (sym (parent_here ends k f) ∙ ap (parent_at (on_parent ends k f)) e ∙ at) in (r.0, ap (parent_at ends) (sym e) ∙ r.1, r.2, r.3)
        by_test false t = let other : j ≢ k = λ s. number_not k j t (sym s) in (y, sym (parent_else ends k j f other) ∙ at, refl, refl)

pub kept_child : (c : PlainCode) (ends : List (MailboxEnds PlainPacket)) (k : ℕ) (b : Book) (f : Taker PlainPacket → Taker PlainPacket) → KeepsExchanges c ends b → KeepsExchanges c (on_child ends k f) b
kept_child c ends k b f h = kept_same c ends (on_child ends k f) b (words_child ends k f) (λ j y at. (y, sym (parent_on_child ends k j f) ∙ at, refl, refl)) h

-- ---- one list of an end, as it grows

more_words : (a n w : ℕ) → a ≡ min w most_counted → min (a + n) most_counted ≡ min (w + n) most_counted
more_words a n w e = omega (arith, e)

exact : (a n b : ℕ) → b ≡ min (a + n) most_counted → b < most_counted → b ≡ a + n
exact a n b e h = omega (arith, e, h)

module _ (ends : List (MailboxEnds PlainPacket)) (get : Sender PlainPacket → List PlainPacket) where
  abbrev CountsOf : List ℕ → Type 0
  CountsOf cs = (j : ℕ) (y : Sender PlainPacket) → parent_at ends j ≡ Some y → slice_get cs j ≡ Some (min (length (get y)) most_counted)

  abbrev PacketsOf : (List PlainPacket → List PlainPacket) → Register → Type 0
  PacketsOf notes r = (j : ℕ) (y : Sender PlainPacket) → parent_at ends j ≡ Some y → packets_in r j ≡ notes (get y)

  abbrev FitsOf : PlainCode → Type 0
  FitsOf c = (j : ℕ) (y : Sender PlainPacket) → parent_at ends j ≡ Some y → HaveRoom c j (get y)

module _ (ends : List (MailboxEnds PlainPacket)) (get : Sender PlainPacket → List PlainPacket) (k : ℕ) (f : Sender PlainPacket → Sender PlainPacket) (x : Sender PlainPacket) (at : parent_at ends k ≡ Some x) where
  -- one more
  module _ (q : PlainPacket) (is : get (f x) ≡ get x ++ q ∷ []) where
    counts_grow : (cs cs' : List ℕ) → cs' ≡ slice_set cs k (min (get_or cs k 0 + 1) most_counted) → CountsOf ends get cs → CountsOf (on_parent ends k f) get cs'
    counts_grow cs cs' set had j y e = by_place (where_is ends k j f x y at e)
      where
        by_place : Where ends k j (f x) y → slice_get cs' j ≡ Some (min (length (get y)) most_counted)
        by_place (here t same eq) =
            let was = had k x at in
            let within = slice_get_within cs k (min (length (get x)) most_counted) was in
            let old : get_or cs k 0 ≡ min (length (get x)) most_counted = get_or_from_slice_get cs k (min (length (get x)) most_counted) 0 was in
            let more : length (get y) ≡ length (get x) + 1 = ap (λ z. length (get z)) eq ∙ ap length is ∙ length_app (get x) (q ∷ []) in
            let value : min (get_or cs k 0 + 1) most_counted ≡ min (length (get y)) most_counted = omega (arith, old, more) in
            ap (slice_get cs') same ∙ ap (λ l. slice_get l k) set ∙ get_set cs k (min (get_or cs k 0 + 1) most_counted) within ∙ ap Some value
        by_place (there t other was) = ap (λ l. slice_get l j) set ∙ get_set_else cs k j (min (get_or cs k 0 + 1) most_counted) other ∙ had j y was

    lists_grow : (notes : List PlainPacket → List PlainPacket) (note : PlainPacket) (a b : Register) → ((l : List PlainPacket) → notes (l ++ q ∷ []) ≡ notes l ++ note ∷ []) →
        ((j : ℕ) → packets_in b j ≡ cond (k == j) (packets_in a j ++ note ∷ []) (packets_in a j)) → PacketsOf ends get notes a → PacketsOf (on_parent ends k f) get notes b
    lists_grow notes note a b snoc grows had j y e = by_place (where_is ends k j f x y at e)
      where
        by_place : Where ends k j (f x) y → packets_in b j ≡ notes (get y)
        by_place (here t same eq) =
            grows j ∙ ap (λ u. cond u (packets_in a j ++ note ∷ []) (packets_in a j)) t ∙ ap (λ l. l ++ note ∷ []) (had j x (ap (parent_at ends) same ∙ at)) ∙ sym (snoc (get x)) ∙ ap notes (sym is) ∙ ap (λ z. notes (get z)) (sym eq)
        by_place (there t other was) = grows j ∙ ap (λ u. cond u (packets_in a j ++ note ∷ []) (packets_in a j)) t ∙ had j y was

    fits_grow : (c : PlainCode) → HasRoom (of_shape c.shape) (suc k) q → FitsOf ends get c → FitsOf (on_parent ends k f) get c
    fits_grow c room had j y e = by_place (where_is ends k j f x y at e)
      where
        by_place : Where ends k j (f x) y → HaveRoom c j (get y)
        by_place (here t same eq) =
            subst (λ i. HaveRoom c i (get y)) (sym same) (subst (λ z. HaveRoom c k (get z)) (sym eq) (subst (HaveRoom c k) (sym is) (room_snoc c k (get x) q (had k x at) room)))
        by_place (there t other was) = had j y was

  -- or none
  module _ (is : get (f x) ≡ get x) where
    counts_stay : (cs : List ℕ) → CountsOf ends get cs → CountsOf (on_parent ends k f) get cs
    counts_stay cs had j y e = by_place (where_is ends k j f x y at e)
      where
        by_place : Where ends k j (f x) y → slice_get cs j ≡ Some (min (length (get y)) most_counted)
        by_place (here t same eq) = had j x (ap (parent_at ends) same ∙ at) ∙ ap (λ (l : List PlainPacket). Some (min (length l) most_counted)) (sym is) ∙ ap (λ z. Some (min (length (get z)) most_counted)) (sym eq)
        by_place (there t other was) = had j y was

    lists_stay : (notes : List PlainPacket → List PlainPacket) (a : Register) → PacketsOf ends get notes a → PacketsOf (on_parent ends k f) get notes a
    lists_stay notes a had j y e = by_place (where_is ends k j f x y at e)
      where
        by_place : Where ends k j (f x) y → packets_in a j ≡ notes (get y)
        by_place (here t same eq) = had j x (ap (parent_at ends) same ∙ at) ∙ ap notes (sym is) ∙ ap (λ z. notes (get z)) (sym eq)
        by_place (there t other was) = had j y was

    fits_stay : (c : PlainCode) → FitsOf ends get c → FitsOf (on_parent ends k f) get c
    fits_stay c had j y e = by_place (where_is ends k j f x y at e)
      where
        by_place : Where ends k j (f x) y → HaveRoom c j (get y)
        by_place (here t same eq) = subst (λ i. HaveRoom c i (get y)) (sym same) (subst (λ z. HaveRoom c k (get z)) (sym eq) (subst (HaveRoom c k) (sym is) (had k x at)))
        by_place (there t other was) = had j y was

-- the count of a mailbox, while all is kept
kept_count : (r : Register) (k n : ℕ) (ps : List PlainPacket) → slice_get r.counts.items k ≡ Some (min n most_counted) → packets_in r k ≡ ps → length ps ≡ n → length r.entries.items < most_counted → get_or r.counts.items k 0 ≡ count_in k r.entries.items
kept_count r k n ps at is long few =
    let c = counted r.args.items r.copies.items k r.entries.items in
    let l = ap length is in
    let m = count_most k r.entries.items in
    let g = get_or_from_slice_get r.counts.items k (min n most_counted) 0 at in omega (arith, c, l, m, g, long, few)

-- ---- a job

pub job_noted : (c : PlainCode) (ends : List (MailboxEnds PlainPacket)) (a b : Book) (k : ℕ) (p : Packet) (x : Sender PlainPacket) → KeepsExchanges c ends a → parent_at ends k ≡ Some x → a.words < most_counted →
    HasRoom (of_shape c.shape) (suc k) (plain_packet p) → NotesJob a b k p → KeepsExchanges c (on_parent ends k (sender_sent (plain_packet p))) b
job_noted c ends a b k p x h at little room n =
    let f = sender_sent (plain_packet p) in
    let m = 3 + length p.args.items + length p.copies.items in
    let grows : words_of_end (Some (f x)) ≡ words_of_end (Some x) + job_words (plain_packet p) = let s = jobs_snoc x.sent (plain_packet p) in omega (arith, s) in
    let words : mail_words (on_parent ends k f) ≡ mail_words ends + m = words_on ends k m f x at grows in
    record {
      needed = n.needed ∙ more_words a.needed m (mail_words ends) h.needed ∙ ap (λ w. min w most_counted) (sym words);
      job_counts = counts_grow ends (λ (y : Sender PlainPacket). y.sent) k f x at (plain_packet p) refl a.jobs.counts.items b.jobs.counts.items n.counts h.job_counts;
      reply_counts = subst (λ (r : Register). CountsOf (on_parent ends k f) (λ (y : Sender PlainPacket). y.got) r.counts.items) (sym n.replies)
          (counts_stay ends (λ (y : Sender PlainPacket). y.got) k f x at refl a.replies.counts.items h.reply_counts);
      all = λ le.
          let was : a.needed ≤ a.words = omega (arith, h.needed, n.needed, n.words, le, little) in
          let is : b.needed ≡ a.needed + m = exact a.needed m b.needed n.needed (omega (arith, le, n.words, little)) in all_at (h.all was) (n.kept le) is was;
      jobs_fit = fits_grow ends (λ (y : Sender PlainPacket). y.sent) k f x at (plain_packet p) refl c room h.jobs_fit;
      replies_fit = fits_stay ends (λ (y : Sender PlainPacket). y.got) k f x at refl c h.replies_fit;
    }
  where
    all_at : HasAll ends a → KeepsPacket a.jobs b.jobs k p.kind p.allowance p.args.items p.copies.items → b.needed ≡ a.needed + (3 + length p.args.items + length p.copies.items) → a.needed ≤ a.words → HasAll (on_parent ends k (sender_sent (plain_packet p))) b
    all_at old new is was =
        let f = sender_sent (plain_packet p) in
        let A = p.args.items in
        let C = p.copies.items in
        let e = entry_count a.jobs b.jobs k p.kind p.allowance A C new in
        let s = args_count a.jobs b.jobs k p.kind p.allowance A C new in
        let t = copies_count a.jobs b.jobs k p.kind p.allowance A C new in
        let u = ap (λ (r : Register). length r.entries.items) n.replies in
        let v = ap (λ (r : Register). length r.args.items) n.replies in
        let w = ap (λ (r : Register). length r.copies.items) n.replies in
        record {
          small = omega (arith, e, s, t, u, v, w, is, old.small);
          jobs = inside_grows a.jobs b.jobs k p.kind p.allowance A C new old.jobs;
          replies = subst (λ (r : Register). AreInside (length r.args.items) (length r.copies.items) r.entries.items) (sym n.replies) old.replies;
          jobs_numbered = numbered_grows a.jobs b.jobs k p.kind p.allowance A C new old.jobs_numbered
              (kept_count a.jobs k (length x.sent) (job_notes x.sent) (h.job_counts k x at) (old.sent k x at) (job_notes_length x.sent) (omega (arith, old.small, was, little)));
          replies_numbered = subst (λ (r : Register). AreNumbered [] r.entries.items) (sym n.replies) old.replies_numbered;
          sent = lists_grow ends (λ (y : Sender PlainPacket). y.sent) k f x at (plain_packet p) refl job_notes (job_note (plain_packet p)) a.jobs b.jobs (λ l. job_notes_snoc l (plain_packet p))
              (packets_grow a.jobs b.jobs k p.kind p.allowance A C new old.jobs) old.sent;
          got = subst (λ (r : Register). PacketsOf (on_parent ends k f) (λ (y : Sender PlainPacket). y.got) reply_notes r) (sym n.replies) (lists_stay ends (λ (y : Sender PlainPacket). y.got) k f x at refl reply_notes a.replies old.got);
        }

-- ---- a reply

pub reply_noted : (c : PlainCode) (ends : List (MailboxEnds PlainPacket)) (a b : Book) (k : ℕ) (p : Packet) (x : Sender PlainPacket) → KeepsExchanges c ends a → parent_at ends k ≡ Some x → a.words < most_counted →
    HasRoom (of_shape c.shape) (suc k) (plain_packet p) → NotesReply a b k p → KeepsExchanges c (on_parent ends k (sender_got (plain_packet p))) b
reply_noted c ends a b k p x h at little room n =
    let f = sender_got (plain_packet p) in
    let m = 6 + length p.copies.items + length p.copies.items in
    let grows : words_of_end (Some (f x)) ≡ words_of_end (Some x) + reply_words (plain_packet p) = let s = replies_snoc x.got (plain_packet p) in omega (arith, s) in
    let words : mail_words (on_parent ends k f) ≡ mail_words ends + m = words_on ends k m f x at grows in
    record {
      needed = n.needed ∙ more_words a.needed m (mail_words ends) h.needed ∙ ap (λ w. min w most_counted) (sym words);
      job_counts = subst (λ (r : Register). CountsOf (on_parent ends k f) (λ (y : Sender PlainPacket). y.sent) r.counts.items) (sym n.jobs)
          (counts_stay ends (λ (y : Sender PlainPacket). y.sent) k f x at refl a.jobs.counts.items h.job_counts);
      reply_counts = counts_grow ends (λ (y : Sender PlainPacket). y.got) k f x at (plain_packet p) refl a.replies.counts.items b.replies.counts.items n.counts h.reply_counts;
      all = λ le.
          let was : a.needed ≤ a.words = omega (arith, h.needed, n.needed, n.words, le, little) in
          let is : b.needed ≡ a.needed + m = exact a.needed m b.needed n.needed (omega (arith, le, n.words, little)) in all_at (h.all was) (n.kept le) is was;
      jobs_fit = fits_stay ends (λ (y : Sender PlainPacket). y.sent) k f x at refl c h.jobs_fit;
      replies_fit = fits_grow ends (λ (y : Sender PlainPacket). y.got) k f x at (plain_packet p) refl c room h.replies_fit;
    }
  where
    all_at : HasAll ends a → KeepsPacket a.replies b.replies k p.kind p.units [] p.copies.items → b.needed ≡ a.needed + (6 + length p.copies.items + length p.copies.items) → a.needed ≤ a.words → HasAll (on_parent ends k (sender_got (plain_packet p))) b
    all_at old new is was =
        let f = sender_got (plain_packet p) in
        let C = p.copies.items in
        let e = entry_count a.replies b.replies k p.kind p.units [] C new in
        let s = args_count a.replies b.replies k p.kind p.units [] C new in
        let t = copies_count a.replies b.replies k p.kind p.units [] C new in
        let u = ap (λ (r : Register). length r.entries.items) n.jobs in
        let v = ap (λ (r : Register). length r.args.items) n.jobs in
        let w = ap (λ (r : Register). length r.copies.items) n.jobs in
        record {
          small = omega (arith, e, s, t, u, v, w, is, old.small);
          jobs = subst (λ (r : Register). AreInside (length r.args.items) (length r.copies.items) r.entries.items) (sym n.jobs) old.jobs;
          replies = inside_grows a.replies b.replies k p.kind p.units [] C new old.replies;
          jobs_numbered = subst (λ (r : Register). AreNumbered [] r.entries.items) (sym n.jobs) old.jobs_numbered;
          replies_numbered = numbered_grows a.replies b.replies k p.kind p.units [] C new old.replies_numbered
              (kept_count a.replies k (length x.got) (reply_notes x.got) (h.reply_counts k x at) (old.got k x at) (reply_notes_length x.got) (omega (arith, old.small, was, little)));
          sent = subst (λ (r : Register). PacketsOf (on_parent ends k f) (λ (y : Sender PlainPacket). y.sent) job_notes r) (sym n.jobs) (lists_stay ends (λ (y : Sender PlainPacket). y.sent) k f x at refl job_notes a.jobs old.sent);
          got = lists_grow ends (λ (y : Sender PlainPacket). y.got) k f x at (plain_packet p) refl reply_notes (reply_note (plain_packet p)) a.replies b.replies (λ l. reply_notes_snoc l (plain_packet p))
              (packets_grow a.replies b.replies k p.kind p.units [] C new old.replies) old.got;
        }

-- a job that may be sent has its lengths
last_one : (xs ys : List PlainPacket) (x y : PlainPacket) → xs ++ x ∷ [] ≡ ys ++ y ∷ [] → x ≡ y
last_one [] [] x y e = cc
last_one [] (z ∷ []) x y e = cc
last_one [] (z ∷ w ∷ ys) x y e = cc
last_one (z ∷ []) [] x y e = cc
last_one (z ∷ w ∷ xs) [] x y e = cc
last_one (z ∷ xs) (w ∷ ys) x y e = last_one xs ys x y (tail e)
  where
    tail : z ∷ (xs ++ x ∷ []) ≡ w ∷ (ys ++ y ∷ []) → xs ++ x ∷ [] ≡ ys ++ y ∷ []
    tail e = cc

pub asked_room : (c : PlainCode) (k : ℕ) (jobs : List PlainPacket) (p : PlainPacket) → Asks c k (jobs ++ p ∷ []) → HasRoom (of_shape c.shape) (suc k) p
asked_room c k jobs p asks = subst (HasRoom (of_shape c.shape) (suc k)) (sym (last_one jobs asks.before p asks.last asks.are)) asks.room

-- a look that finds nothing
pub kept_none : (c : PlainCode) (ends : List (MailboxEnds PlainPacket)) (k : ℕ) (b : Book) (o : Option Packet) → ((p : Packet) → o ≡ Some p → ⊥) → KeepsExchanges c ends b → KeepsExchanges c (on_parent ends k (sender_seen (in_plain plain_packet o))) b
kept_none c ends k b None never h = kept_looks c ends k b sender_looked (λ x. refl) (λ x. refl) h
kept_none c ends k b (Some p) never h = absurd (never p refl)

-- ---- before the first job

at_some : {A : Type 0} → (l : List A) (k : ℕ) (d : A) → k < length l → slice_get l k ≡ Some (get_or l k d)
at_some [] k d lt = absurd (omega (arith, lt))
at_some (x ∷ l) zero d lt = refl
at_some (x ∷ l) (suc k) d lt = at_some l k d (omega (arith, lt))

no_words : (ends : List (MailboxEnds PlainPacket)) → ((k : ℕ) (x : Sender PlainPacket) → parent_at ends k ≡ Some x → (x.sent ≡ []) × (x.got ≡ [])) → mail_words ends ≡ 0
no_words [] h = refl
no_words (e ∷ es) h = let a = by_end e.parent (λ x at. h 0 x at) in let b = no_words es (λ k x at. h (suc k) x at) in omega (arith, a, b)
  where
    by_end : (o : Option (Sender PlainPacket)) → ((x : Sender PlainPacket) → o ≡ Some x → (x.sent ≡ []) × (x.got ≡ [])) → words_of_end o ≡ 0
    by_end None h = refl
    by_end (Some x) h = let n = h x refl in ap (λ l. words_of_jobs l + words_of_replies x.got) n.0 ∙ ap (λ l. words_of_jobs [] + words_of_replies l) n.1

zero_count : (r : Register) (n k : ℕ) (ps : List PlainPacket) → IsEmpty r n → k < n → ps ≡ [] → slice_get r.counts.items k ≡ Some (min (length ps) most_counted)
zero_count r n k ps empty lt none =
    let zeros : List ℕ = replicate n 0 in
    let long : length zeros ≡ n = length-replicate {A = ℕ} n 0 in
    let inside : k < length zeros = omega (arith, lt, long) in
    let is : get_or zeros k 0 ≡ 0 = get_or-replicate {A = ℕ} n k 0 0 lt in
    ap (λ l. slice_get l k) empty.counts ∙ at_some zeros k 0 inside ∙ ap Some is ∙ ap (λ (l : List PlainPacket). Some (min (length l) most_counted)) (sym none)

pub kept_new : (c : PlainCode) (ends : List (MailboxEnds PlainPacket)) (n : ℕ) (b : Book) → ((k : ℕ) (x : Sender PlainPacket) → parent_at ends k ≡ Some x → (k < n) × (x.sent ≡ []) × (x.got ≡ [])) → b.needed ≡ 0 →
    IsEmpty b.jobs n → IsEmpty b.replies n → KeepsExchanges c ends b
kept_new c ends n b unused needed jobs replies =
    let none = no_words ends (λ k x at. let u = unused k x at in (u.1, u.2)) in
    record {
      needed = omega (arith, none, needed);
      job_counts = λ k x at. let u = unused k x at in zero_count b.jobs n k x.sent jobs u.0 u.1;
      reply_counts = λ k x at. let u = unused k x at in zero_count b.replies n k x.got replies u.0 u.2;
      all = λ le.
          let j = ap length jobs.entries in
          let ja = ap length jobs.args in
          let jc = ap length jobs.copies in
          let r = ap length replies.entries in
          let ra = ap length replies.args in
          let rc = ap length replies.copies in
          record {
            small = omega (arith, j, ja, jc, r, ra, rc);
            jobs = subst (AreInside (length b.jobs.args.items) (length b.jobs.copies.items)) (sym jobs.entries) tt;
            replies = subst (AreInside (length b.replies.args.items) (length b.replies.copies.items)) (sym replies.entries) tt;
            jobs_numbered = subst (AreNumbered []) (sym jobs.entries) tt;
            replies_numbered = subst (AreNumbered []) (sym replies.entries) tt;
            sent = λ k x at. ap (packets_of b.jobs.args.items b.jobs.copies.items k) jobs.entries ∙ ap job_notes (sym (unused k x at).1);
            got = λ k x at. ap (packets_of b.replies.args.items b.replies.copies.items k) replies.entries ∙ ap reply_notes (sym (unused k x at).2);
          };
      jobs_fit = λ k x at. subst (HaveRoom c k) (sym (unused k x at).1) tt;
      replies_fit = λ k x at. subst (HaveRoom c k) (sym (unused k x at).2) tt;
    }

-- The branches of a fork are told their jobs and do them, one after the other: what stays, and what is told and heard.
use Rattle.std.proofs.Common.{◌≡◌, ◌≢◌, ℕ, zero, suc, ◌+◌, ◌-◌, ◌<◌, ◌≤◌, Bool, true, false, Option, Some, List, [], ◌∷◌, ◌++◌, length, take, refl, sym, ap, ◌∙◌, subst, append_assoc, append-nil, inl, inr, ⊎_elim, arith}
use Rattle.std.specs.Prelude.{slice_get, drop}
use Rattle.std.proofs.lemmas.List.{length-map, length-append}
use Rattle.std.proofs.lemmas.Option.{slice_get_within}
use Rattle.forec_kernel.specs.Engine.{Answered, Reply, Written, pair_up}
use Rattle.thread_code.specs.Plain.{plain_code}
use Rattle.core_machine.specs.declared.thread.Thread.{Thread}
use Rattle.core_machine.specs.Forks.{jobs_at}
use Rattle.combine_tree.specs.declared.packet.Packet.{Packet}
use Rattle.copy_slots.specs.Ports.{parent_at, sent_by, sent, got}
use Rattle.core_seats.specs.declared.seat.Seat.{Seat}
use Rattle.core_seats.specs.Posts.{Mail}
use Rattle.tick_jobs.specs.Branches.{IsBranchOf}
use Rattle.core_seats.specs.Changes.{Extends}
use Rattle.core_seats.specs.Calling.{ServesFork, HasSentMore, HasCalled, IsCalling, HasServedFork}
use Rattle.core_seats.specs.Descending.{Descends}
use Rattle.core_seats.specs.Keeping.{SchedulerState, code_in, IsSeated, HasPacket, LacksPacket, IsJobFor, AtFork, CanSend, HasHeard}
use Rattle.core_seats.specs.Moving.{ChangesPacket, HasSent, HasGot, HasLooked}
use Rattle.core_seats.specs.Serving.{ChangesBranches, KeepsOthers}
use Rattle.core_seats.specs.Waiting.{IsOut, HasTold, IsForked, IsGathering, CanDescend}
use Rattle.core_seats.proofs.Mails.{extends_one, extends_same, extends_then}
use Rattle.tick_jobs.proofs.Lists.{some_once, get_then, length_then}
use Rattle.core_seats.proofs.KeepingLemmas.{leaves_same, leaves_then, leaves_less, seated_keeps}
use Rattle.tick_jobs.proofs.Branching.{branch_above, parent_once}
use Rattle.core_seats.proofs.LoadLemmas.{take_next, take_end}
use Rattle.tick_jobs.proofs.Pairs.{pairs_more, no_pairs}
use Rattle.core_seats.proofs.OneMoreExchange.{changed, changed_is, lacks_keeps, told_one, told_still, told_back, answers}
use Rattle.core_seats.proofs.WaitingLemmas.{told_keeps, heard_keeps, between_moves}
use Rattle.core_seats.proofs.Seats.{vacant_by, can_keep, can_above}
use Rattle.core_seats.proofs.SendJobs.{branch_moves, branches_seated}
use Rattle.core_seats.proofs.NextJob.{job, is_suc, mine_b, inside_m, low, can_send, not_yet, apart, apart_before, job_keeps}
use Rattle.core_seats.proofs.ServingLemmas.{child_keeps}
use Rattle.core_seats.proofs.DescendingLemmas.{descends_less, descends_seated}

apart_bools : false ≡ true → ⊥
apart_bools e = cc

-- ---- what stays

pub stays_same : (t : ℕ) (a : SchedulerState) → ServesFork t a a
stays_same t a = record { leaves = leaves_same t t a; seat = refl; here = λ j h. h; was_here = λ j h. h; between = λ j le x. x; vacant = λ j le v. v }

pub stays_then : (t : ℕ) (a b c : SchedulerState) → ServesFork t a b → ServesFork t b c → ServesFork t a c
stays_then t a b c h g = record {
  leaves = leaves_then t t a b c h.leaves g.leaves;
  seat = g.seat ∙ h.seat;
  here = λ j x. g.here j (h.here j x);
  was_here = λ j x. h.was_here j (g.was_here j x);
  between = λ j le x. g.between j le (h.between j le x);
  vacant = λ j le x. g.vacant j le (h.vacant j le x);
}

pub branches_stay : (t : ℕ) (a b : SchedulerState) → ChangesBranches t a b → ServesFork t a b
branches_stay t a b moves = record {
  leaves = record {
    code = moves.code;
    places = moves.places;
    alike = moves.alike;
    grown = moves.grown;
    seats = λ j lt. ap (λ l. slice_get l j) moves.seats;
    seat_count = ap length moves.seats;
    hands = λ k p mine lt. moves.hands k (other k p mine lt);
    hand_count = moves.hand_count;
    parents = λ k p mine lt. moves.parents k (other k p mine lt);
    children = λ k lt. moves.children k;
  };
  seat = ap (λ l. slice_get l t) moves.seats;
  here = λ j h. child_keeps a.mail b.mail j (moves.children j) h;
  was_here = λ j h. child_keeps b.mail a.mail j (sym (moves.children j)) h;
  between = λ j le x. between_moves a b t moves j (λ e. omega (arith, e, le)) x;
  vacant = λ j le v. vacant_by a b (suc j) (ap (λ l. slice_get l (suc j)) moves.seats) v;
}
  where
    other : (k p : ℕ) → IsBranchOf (code_in a).shape p k → p < t → IsBranchOf (code_in a).shape t k → ⊥
    other k p mine lt is = let same = parent_once (code_in a) p t k mine is in omega (arith, same, lt)

pub down_stays : (t m : ℕ) (a b : SchedulerState) → t ≤ m → Descends m m a b → ServesFork t a b
down_stays t m a b le d =
    let all = descends_less m t t a b le d in
    record {
      leaves = leaves_less (suc t) t t t a b (omega arith) (omega arith) all.leaves;
      seat = all.leaves.seats t (omega arith);
      here = all.here;
      was_here = all.was_here;
      between = all.between;
      vacant = all.vacant;
    }

pub stays_descends : (m t : ℕ) (a b : SchedulerState) → t ≡ suc m → ServesFork t a b → Descends m (suc m) a b
stays_descends m t a b at s = record {
  leaves = leaves_less t t (suc m) m a b (omega (arith, at)) (omega (arith, at)) s.leaves;
  here = s.here;
  was_here = s.was_here;
  between = λ j le x. s.between j (omega (arith, le, at)) x;
  vacant = λ j le v. s.vacant j (omega (arith, le, at)) v;
}

pub stays_others : (t : ℕ) (a b : SchedulerState) → t ≡ 0 → ServesFork t a b → KeepsOthers a b
stays_others t a b root s = record {
  code = s.leaves.code;
  places = s.leaves.places;
  alike = s.leaves.alike;
  grown = s.leaves.grown;
  seat = ap (λ i. slice_get b.seats i) (sym root) ∙ s.seat ∙ ap (λ i. slice_get a.seats i) root;
  seat_count = s.leaves.seat_count;
  hand_count = s.leaves.hand_count;
  here = s.here;
  was_here = s.was_here;
  between = λ j x. s.between j (omega (arith, root)) x;
  vacant = λ j v. s.vacant j (omega (arith, root)) v;
}

pub stays_seated : (t : ℕ) (a b : SchedulerState) → ServesFork t a b → IsSeated a → IsSeated b
stays_seated t a b s seated = seated_keeps t t a b s.leaves seated

pub stays_can : (t : ℕ) (a b : SchedulerState) → ServesFork t a b → CanDescend a t → CanDescend b t
stays_can t a b s can = can_keep a b t s.leaves.alike.count s.between s.vacant can

-- ---- lists

drop_none : {A : Type 0} (l : List A) → drop 0 l ≡ l
drop_none [] = refl
drop_none (x ∷ l) = refl

-- one more is out
drop_take : {A : Type 0} (l : List A) (n k : ℕ) (x : A) → n ≤ k → slice_get l k ≡ Some x → drop n (take k l) ++ x ∷ [] ≡ drop n (take (suc k) l)
drop_take l zero k x le e = ap (λ q. q ++ x ∷ []) (drop_none (take k l)) ∙ take_next l k x e ∙ ap (λ i. take i l) more ∙ sym (drop_none (take (suc k) l))
  where
    more : k + 1 ≡ suc k
    more = omega arith
drop_take [] (suc n) zero x le e = absurd (omega (arith, le))
drop_take [] (suc n) (suc k) x le e = cc
drop_take (y ∷ l) (suc n) zero x le e = absurd (omega (arith, le))
drop_take (y ∷ l) (suc n) (suc k) x le e = drop_take l n k x (omega (arith, le)) e

-- none is
drop_all : {A : Type 0} (l : List A) (k : ℕ) → drop k (take k l) ≡ []
drop_all [] zero = refl
drop_all [] (suc k) = refl
drop_all (x ∷ l) zero = refl
drop_all (x ∷ l) (suc k) = drop_all l k

out_of : (b : ℕ) (ws : List Written) (n : ℕ) → IsOut b (drop n ws) → IsOut b ws
out_of b [] zero o = o
out_of b [] (suc n) o = o
out_of b (w ∷ ws) zero o = o
out_of b (w ∷ ws) (suc n) o = inr (out_of b ws n o)

-- ---- one branch after the other

-- the first k branches were told their jobs; each is served before the next one is told its job for as long as `replied` is true
pub record CallsFirst (a b : SchedulerState) (h : Thread) (k : ℕ) (replied : Bool) : Type 0 where
  pub within : k ≤ length h.branches.numbers
  pub stays : ServesFork h.number a b
  pub calling : (pairs : List Answered) → HasTold a h.number pairs [] → IsCalling b h pairs k replied
  pub rest : (i : ℕ) (w : Written) → k ≤ i → slice_get (jobs_at (code_in a) h) i ≡ Some w → IsJobFor (code_in a) b.mail h.number w
  pub sent : 0 < k → HasSentMore (code_in a).shape h.number a.mail b.mail

pub called_none : (a : SchedulerState) (h : Thread) (replied : Bool) → AtFork a h → CallsFirst a a h 0 replied
called_none a h replied fork = record {
  within = omega arith;
  stays = stays_same h.number a;
  calling = λ pairs told. record {
    replies = [];
    within = omega arith;
    all = λ e. refl;
    heard = λ i n r at there. nothing i r there;
    told = subst (λ l. HasTold a h.number l (drop 0 (take 0 (jobs_at (code_in a) h)))) (sym (append-nil pairs) ∙ ap (λ l. pairs ++ l) (sym (no_pairs (jobs_at (code_in a) h))))
        (subst (HasTold a h.number pairs) (sym (drop_all (jobs_at (code_in a) h) 0)) told);
  };
  rest = λ i w le at. fork.each i w at;
  sent = λ lt. absurd (omega (arith, lt));
}
  where
    nothing : {A : Type 0} (i : ℕ) (r : Reply) → slice_get [] i ≡ Some r → A
    nothing zero r e = cc
    nothing (suc i) r e = cc

-- ---- a state with the same code

module _ (s : SchedulerState) (mail : Mail) (seats : List Seat) (hands : List (Option Packet)) (h : Thread) (m k : ℕ) (mine : IsBranchOf (code_in s).shape h.number m) (moves : ChangesPacket m s (changed s mail seats hands)) (w : Written) (at : slice_get (jobs_at (code_in s) h) k ≡ Some w)
    (is : w.branch ≡ suc m) (before : (i n j : ℕ) → i < k → slice_get h.branches.numbers i ≡ Some n → n ≡ suc j → j ≢ m) (pairs : List Answered) where
  abbrev s' : SchedulerState
  s' = changed s mail seats hands

  abbrev ws : List Written
  ws = jobs_at (code_in s) h

  kept : (i b : ℕ) (r : Reply) → i < k → slice_get h.branches.numbers i ≡ Some b → HasHeard s b r → HasHeard s' b r
  kept i b r lt there old = record { mailbox = old.mailbox; is = old.is; packet = old.packet; at = moves.hands old.mailbox (before i b old.mailbox lt there old.is) ∙ old.at; room = old.room; reply = old.reply }

  -- the k-th is told its job
  module _ (r : Bool) (c : IsCalling s h pairs k r) (sent_now : HasSent s s' m w.job) (lacks : LacksPacket s' m) where
    pub told_next : (c' : IsCalling s' h pairs (suc k) false) × (length c'.replies ≡ length c.replies)
    told_next =
        let le = c.within in
        let named : drop (length c.replies) (take k ws) ++ record { branch = suc m; job = w.job } ∷ [] ≡ drop (length c.replies) (take (suc k) ws) =
        ap (λ n. drop (length c.replies) (take k ws) ++ record { branch = n; job = w.job } ∷ []) (sym is) ∙ drop_take ws (length c.replies) k w le at in (
          record {
            replies = c.replies;
            within = omega (arith, le);
            all = λ e. absurd (apart_bools e);
            heard = λ i n q there heard. kept i n q (let lt = slice_get_within c.replies i q heard in omega (arith, lt, le)) there (c.heard i n q there heard);
            told = subst (HasTold s' h.number (pairs ++ pair_up ws c.replies)) named
                (told_one s mail seats hands h.number m mine moves (pairs ++ pair_up ws c.replies) (drop (length c.replies) (take k ws)) c.told w.job sent_now lacks);
          },
          refl,
        )

  -- its reply is looked for
  module _ (c : IsCalling s h pairs (suc k) false) (next : length c.replies ≡ k) where
    out_is : drop (length c.replies) (take (suc k) ws) ≡ w ∷ []
    out_is = ap (λ n. drop n (take (suc k) ws)) next ∙ sym (drop_take ws k k w (omega arith) at) ∙ ap (λ l. l ++ w ∷ []) (drop_all ws k)

    told_w : HasTold s h.number (pairs ++ pair_up ws c.replies) (w ∷ [])
    told_w = subst (HasTold s h.number (pairs ++ pair_up ws c.replies)) out_is c.told

    pub missed_next : HasLooked s s' m → IsCalling s' h pairs (suc k) false
    missed_next missed = record {
      replies = c.replies;
      within = c.within;
      all = c.all;
      heard = λ i n q there heard. kept i n q (let lt = slice_get_within c.replies i q heard in omega (arith, lt, next)) there (c.heard i n q there heard);
      told = subst (HasTold s' h.number (pairs ++ pair_up ws c.replies)) (sym out_is) (told_still s mail seats hands h.number m mine moves (pairs ++ pair_up ws c.replies) (w ∷ []) told_w (inl is) missed);
    }

    module _ (number : slice_get h.branches.numbers k ≡ Some (suc m)) (above : h.number < suc m) (got_now : HasGot s s' m) where
      abbrev r : Reply
      r = (answers s mail seats hands h.number m mine moves (pairs ++ pair_up ws c.replies) w is [] told_w above (λ o. o) got_now).plain_reply

      told_now : HasTold s' h.number (pairs ++ pair_up ws (c.replies ++ r ∷ [])) (drop (length (c.replies ++ r ∷ [])) (take (suc k) ws))
      told_now =
          let new = told_back s mail seats hands h.number m mine moves (pairs ++ pair_up ws c.replies) w is [] told_w above (λ o. o) got_now in
          let named : (pairs ++ pair_up ws c.replies) ++ record { branch = w.branch; job = w.job; reply = r } ∷ [] ≡ pairs ++ pair_up ws (c.replies ++ r ∷ []) =
          append_assoc pairs (pair_up ws c.replies) (record { branch = w.branch; job = w.job; reply = r } ∷ [])
          ∙ ap (λ l. pairs ++ l) (sym (pairs_more ws c.replies w r (ap (λ i. slice_get ws i) next ∙ at))) in
          let long : length (c.replies ++ r ∷ []) ≡ suc k = let n = length_then c.replies r in omega (arith, n, next) in
          subst (HasTold s' h.number (pairs ++ pair_up ws (c.replies ++ r ∷ []))) (sym (ap (λ n. drop n (take (suc k) ws)) long ∙ drop_all ws (suc k)))
          (subst (λ l. HasTold s' h.number l []) named new)

      heard_now : HasHeard s' (suc m) r
      heard_now = record { mailbox = m; is = refl; packet = got_now.packet; at = got_now.at; room = got_now.replies.room; reply = got_now.replies.answers.reply_is }

      heard_all : (i b : ℕ) (q : Reply) → slice_get h.branches.numbers i ≡ Some b → slice_get (c.replies ++ r ∷ []) i ≡ Some q → HasHeard s' b q
      heard_all i b q there heard =
          ⊎_elim
          (λ p. let branch : suc m ≡ b = some_once (suc m) b (sym number ∙ ap (λ z. slice_get h.branches.numbers z) (sym next ∙ sym p.0) ∙ there) in
          subst (λ z. HasHeard s' z q) branch (subst (HasHeard s' (suc m)) (sym p.1) heard_now))
          (λ old. kept i b q (let lt = slice_get_within c.replies i q old in omega (arith, lt, next)) there (c.heard i b q there old))
          (get_then c.replies r i q heard)

      pub got_next : IsCalling s' h pairs (suc k) true
      got_next =
          let n = length_then c.replies r in
          record { replies = c.replies ++ r ∷ []; within = omega (arith, n, next); all = λ e. omega (arith, n, next); heard = heard_all; told = told_now }

-- threads above the branch were served
module _ (s c : SchedulerState) (h : Thread) (m k : ℕ) (forked : IsForked (code_in s) h) (up : h.number ≤ m) (d : Descends m m s c) (pairs : List Answered) (x : IsCalling s h pairs k false) where
  parents : (j : ℕ) → IsBranchOf (code_in s).shape h.number j → parent_at c.mail.ends j ≡ parent_at s.mail.ends j
  parents j mine = d.leaves.parents j h.number mine (omega (arith, up))

  hand : (j : ℕ) → IsBranchOf (code_in s).shape h.number j → slice_get c.hands j ≡ slice_get s.hands j
  hand j mine = d.leaves.hands j h.number mine (omega (arith, up))

  pub served_next : (x' : IsCalling c h pairs k false) × (length x'.replies ≡ length x.replies)
  served_next =
      subst (λ z. (x' : IsCalling z h pairs k false) × (length x'.replies ≡ length x.replies)) (changed_is s c d.leaves.code d.leaves.places) (
        record {
          replies = x.replies;
          within = x.within;
          all = x.all;
          heard = λ i n r at there. heard_keeps s c.mail c.seats c.hands d.leaves.alike.blanks d.leaves.alike.count h parents hand forked i n r at (x.heard i n r at there);
          told = told_keeps s c.mail c.seats c.hands d.leaves.alike.blanks d.leaves.alike.count h.number parents hand _ _ x.told;
        },
        refl,
      )

pub extends_long : {A : Type 0} (before after : List A) → Extends before after → length before ≤ length after
extends_long before after e = let n = ap length e.is ∙ length-append before e.more in omega (arith, n)

pub calls_by : (a b c : SchedulerState) (h : Thread) (k : ℕ) (r q : Bool) → c ≡ b → q ≡ r → CallsFirst a b h k r → CallsFirst a c h k q
calls_by a b c h k r q state replied done = subst (λ z. CallsFirst a z h k q) (sym state) (subst (CallsFirst a b h k) (sym replied) done)

-- ---- one branch is called

-- a mailbox can be served, with the threads from its own on
pub record CanServeAt (s : SchedulerState) (m : ℕ) : Type 0 where
  pub inside : m < length s.mail.ends
  pub seated : IsSeated s
  pub above : CanDescend s m

-- its reply can be looked for
pub record CanLookAt (s : SchedulerState) (m : ℕ) : Type 0 where
  pub inside : m < length s.mail.ends
  pub seated : IsSeated s
  pub lacks : LacksPacket s m

module _ (a s1 : SchedulerState) (h : Thread) (k m : ℕ) (seated : IsSeated a) (can : CanSend a h k m) (mine : IsBranchOf (code_in a).shape h.number m) (above : CanDescend a m) (moves : ChangesPacket m a s1)
    (sent_now : (w : Written) → slice_get (jobs_at (code_in a) h) k ≡ Some w → HasSent a s1 m w.job) where
  up_to : h.number < suc m
  up_to = branch_above (code_in a) seated.valid h.number m (let lt = can.inside in let n = seated.mailboxes in omega (arith, lt, n)) mine

  first_moves : ChangesBranches h.number a s1
  first_moves = let s = sent_now can.job can.at in branch_moves h.number m a s1 mine moves (extends_one (sent a.mail m) (sent s1.mail m) s.packet s.sent, extends_same _ _ s.got)

  pub told_at : CanServeAt s1 m
  told_at =
      let lt = can.inside in
      let count = moves.alike.count in
      let up = up_to in
      record {
        inside = omega (arith, lt, count);
        seated = branches_seated h.number a s1 first_moves seated;
        above = can_keep a s1 m count (λ j le x. between_moves a s1 h.number first_moves j (λ e. omega (arith, e, le, up)) x) (λ j le v. vacant_by a s1 (suc j) (ap (λ l. slice_get l (suc j)) moves.seats) v) above;
      }

  pub served_at : (s2 : SchedulerState) → Descends m m s1 s2 → LacksPacket s1 m → CanLookAt s2 m
  served_at s2 d lacks =
      let lt = told_at.inside in
      let count = d.leaves.alike.count in
      let mine1 = subst (λ x. IsBranchOf (plain_code x).shape h.number m) (sym moves.code) mine in
      record {
        inside = omega (arith, lt, count);
        seated = descends_seated m m s1 s2 d told_at.seated;
        lacks = lacks_keeps m s1 s2 (d.leaves.parents m h.number mine1 up_to) (d.leaves.hands m h.number mine1 up_to) lacks;
      }

-- ---- one more

module _ (a b : SchedulerState) (h : Thread) (k number : ℕ) (seated : IsSeated a) (fork : AtFork a h) (forked : IsForked (code_in a) h) (some : (pairs : List Answered) × HasTold a h.number pairs []) (replied : Bool) (done : CallsFirst a b h k replied)
    (at : slice_get h.branches.numbers k ≡ Some number) where
  abbrev pub m : ℕ
  m = number - 1

  code : b.code ≡ a.code
  code = done.stays.leaves.code

  pub seated_b : IsSeated b
  seated_b = stays_seated h.number a b done.stays seated

  the_job : (w : Written) × (slice_get (jobs_at (code_in a) h) k ≡ Some w) × (w.branch ≡ number)
  the_job = job a b code seated_b h k number fork done.rest at

  job_b : slice_get (jobs_at (code_in b) h) k ≡ Some the_job.0
  job_b = subst (λ x. slice_get (jobs_at (plain_code x) h) k ≡ Some the_job.0) (sym code) the_job.1

  number_is : number ≡ suc m
  number_is = is_suc a b code seated_b h k number fork done.rest at

  pub some_number : 1 ≤ number
  some_number = let e = number_is in omega (arith, e)

  pub mine : IsBranchOf (code_in b).shape h.number m
  mine = mine_b a b code seated_b h k number fork done.rest at

  up : h.number ≤ m
  up = low a b code seated_b h k number fork done.rest at

  inside : m < length b.mail.ends
  inside = inside_m a b code seated_b h k number fork done.rest at

  before : (i n j : ℕ) → i < k → slice_get h.branches.numbers i ≡ Some n → n ≡ suc j → j ≢ m
  before = apart_before a b code seated_b h k number fork done.rest at

  pub can_call : CanSend b h k m
  can_call = can_send a b code seated_b h k number fork done.rest at

  -- none of the jobs that are out is for this branch
  pub its_packet : HasPacket b m
  its_packet =
      let c = done.calling some.0 some.1 in
      c.told.has m inside mine
      (λ o. not_yet a b code seated_b h k number fork done.rest at (subst (λ x. IsOut (suc m) (take k (jobs_at (plain_code x) h))) code (out_of (suc m) (take k (jobs_at (code_in b) h)) (length c.replies) o)))

  pub can_serve : CanDescend a h.number → CanDescend b m
  can_serve can = can_above b h.number m up (stays_can h.number a b done.stays can)

  -- it can be called
  pub record CanCall : Type 0 where
    pub low : h.number ≤ m
    pub inside : suc m < length (code_in a).threads
    pub few : length (code_in a).threads ≤ 256
    pub ready : IsSeated b
    pub can : CanSend b h k m
    pub packet : HasPacket b m
    pub mine : IsBranchOf (code_in b).shape h.number m
    pub above : CanDescend a h.number → CanDescend b m

  pub calls_at : CanCall
  calls_at =
      let lt = inside in
      let boxes = seated_b.mailboxes in
      let same = ap (λ x. length (plain_code x).threads) code in
      let few = seated.valid.shape.few_threads in
      let threads = seated.valid.threads in
      record {
        low = up;
        inside = omega (arith, lt, boxes, same);
        few = omega (arith, few, threads);
        ready = seated_b;
        can = can_call;
        packet = its_packet;
        mine = mine;
        above = can_serve;
      }

  one : suc k ≡ k + 1
  one = omega arith

  within_next : k + 1 ≤ length h.branches.numbers
  within_next = let lt = slice_get_within h.branches.numbers k number at in omega (arith, lt)

  forked_b : IsForked (code_in b) h
  forked_b = subst (λ x. IsForked (plain_code x) h) (sym code) forked

  mine_a : IsBranchOf (code_in a).shape h.number m
  mine_a = subst (λ x. IsBranchOf (plain_code x).shape h.number m) code mine

  -- what was sent through the later mailboxes stays
  rest_next : (c : SchedulerState) → ((j : ℕ) → IsBranchOf (code_in b).shape h.number j → j ≢ m → sent c.mail j ≡ sent b.mail j) → (i : ℕ) (w : Written) → k + 1 ≤ i → slice_get (jobs_at (code_in a) h) i ≡ Some w → IsJobFor (code_in a) c.mail h.number w
  rest_next c same i w le at' =
      let it = done.rest i w (omega (arith, le)) at' in
      job_keeps (code_in a) b.mail c.mail h.number w it
      (same it.mailbox (subst (λ x. IsBranchOf (plain_code x).shape h.number it.mailbox) (sym code) it.mine) (apart a b code seated_b h k number fork done.rest at i it.mailbox w (omega (arith, le)) at' it.branch))

  module _ (s1 : SchedulerState) (moves : ChangesPacket m b s1) (lacks : LacksPacket s1 m) (sent_now : (w : Written) → slice_get (jobs_at (code_in b) h) k ≡ Some w → HasSent b s1 m w.job) where
    path1 : changed b s1.mail s1.seats s1.hands ≡ s1
    path1 = changed_is b s1 moves.code moves.places

    sent1 : HasSent b s1 m the_job.0.job
    sent1 = sent_now the_job.0 job_b

    one_moves : ChangesBranches h.number b s1
    one_moves = branch_moves h.number m b s1 mine moves (extends_one (sent b.mail m) (sent s1.mail m) sent1.packet sent1.sent, extends_same _ _ sent1.got)

    pub sent_stays : ServesFork h.number b s1
    sent_stays = branches_stay h.number b s1 one_moves

    calling1 : (pairs : List Answered) (c : IsCalling b h pairs k replied) → (c' : IsCalling s1 h pairs (suc k) false) × (length c'.replies ≡ length c.replies)
    calling1 pairs c =
        subst (λ x. (c' : IsCalling x h pairs (suc k) false) × (length c'.replies ≡ length c.replies)) path1
        (told_next b s1.mail s1.seats s1.hands h m k mine (subst (ChangesPacket m b) (sym path1) moves) the_job.0 job_b (the_job.2 ∙ number_is) before pairs replied c (subst (λ x. HasSent b x m the_job.0.job) (sym path1) sent1) (subst (λ x. LacksPacket x m) (sym path1) lacks))

    more : (c : SchedulerState) → Extends (sent s1.mail m) (sent c.mail m) → HasSentMore (code_in a).shape h.number a.mail c.mail
    more c e =
        let first = extends_long _ _ (done.stays.leaves.grown.sent m) in
        let here = ap length sent1.sent ∙ length-append (sent b.mail m) (sent1.packet ∷ []) in
        let last = extends_long _ _ e in
        record { mailbox = m; mine = mine_a; more = omega (arith, first, here, last) }

    -- it was told its job, and no more
    pub sent_first : CallsFirst a s1 h (k + 1) false
    sent_first = record {
      within = within_next;
      stays = stays_then h.number a b s1 done.stays sent_stays;
      calling = λ pairs told. subst (λ n. IsCalling s1 h pairs n false) one (calling1 pairs (done.calling pairs told)).0;
      rest = rest_next s1 (λ j is n. ap sent_by (moves.parents j n));
      sent = λ lt. more s1 (extends_same _ _ refl);
    }

    -- it was served, and its reply was looked for
    module _ (s2 s3 : SchedulerState) (serves : Descends m m s1 s2) (looks : ChangesPacket m s2 s3) (result : Bool) (heard : result ≡ true → HasGot s2 s3 m) (missed : result ≡ false → HasLooked s2 s3 m) (going : replied ≡ true) where
      path3 : changed s2 s3.mail s3.seats s3.hands ≡ s3
      path3 = changed_is s2 s3 looks.code looks.places

      looks3 : ChangesPacket m s2 (changed s2 s3.mail s3.seats s3.hands)
      looks3 = subst (ChangesPacket m s2) (sym path3) looks

      code2 : s2.code ≡ b.code
      code2 = serves.leaves.code ∙ moves.code

      job2 : slice_get (jobs_at (code_in s2) h) k ≡ Some the_job.0
      job2 = subst (λ x. slice_get (jobs_at (plain_code x) h) k ≡ Some the_job.0) (sym code2) job_b

      mine2 : IsBranchOf (code_in s2).shape h.number m
      mine2 = subst (λ x. IsBranchOf (plain_code x).shape h.number m) (sym code2) mine

      forked1 : IsForked (code_in s1) h
      forked1 = subst (λ x. IsForked (plain_code x) h) (sym moves.code) forked_b

      calling2 : (pairs : List Answered) (c : IsCalling b h pairs k replied) → (c' : IsCalling s2 h pairs (suc k) false) × (length c'.replies ≡ k)
      calling2 pairs c =
          let x = calling1 pairs c in
          let y = served_next s1 s2 h m (suc k) forked1 up serves pairs x.0 in (y.0, y.1 ∙ x.1 ∙ c.all going)

      calling3 : (r : Bool) → result ≡ r → (pairs : List Answered) → HasTold a h.number pairs [] → IsCalling s3 h pairs (suc k) r
      calling3 true e pairs told =
          let x = calling2 pairs (done.calling pairs told) in
          subst (λ z. IsCalling z h pairs (suc k) true) path3
          (got_next s2 s3.mail s3.seats s3.hands h m k mine2 looks3 the_job.0 job2 (the_job.2 ∙ number_is) before pairs x.0 x.1 (at ∙ ap Some number_is) (omega (arith, up)) (subst (λ z. HasGot s2 z m) (sym path3) (heard e)))
      calling3 false e pairs told =
          let x = calling2 pairs (done.calling pairs told) in
          subst (λ z. IsCalling z h pairs (suc k) false) path3
          (missed_next s2 s3.mail s3.seats s3.hands h m k mine2 looks3 the_job.0 job2 (the_job.2 ∙ number_is) before pairs x.0 x.1 (subst (λ z. HasLooked s2 z m) (sym path3) (missed e)))

      grows : (r : Bool) → result ≡ r → Extends (sent s2.mail m) (sent s3.mail m) × Extends (got s2.mail m) (got s3.mail m)
      grows true e = let g = heard e in (extends_same _ _ g.sent, extends_one _ _ _ g.got)
      grows false e = let g = missed e in (extends_same _ _ g.sent, extends_same _ _ g.got)

      look_moves : ChangesBranches h.number s2 s3
      look_moves = branch_moves h.number m s2 s3 mine2 looks (grows result refl)

      stays3 : ServesFork h.number b s3
      stays3 = stays_then h.number b s1 s3 sent_stays (stays_then h.number s1 s2 s3 (down_stays h.number m s1 s2 up serves) (branches_stay h.number s2 s3 look_moves))

      same_sent : (j : ℕ) → IsBranchOf (code_in b).shape h.number j → j ≢ m → sent s3.mail j ≡ sent b.mail j
      same_sent j is n =
          ap sent_by (looks.parents j n) ∙ ap sent_by (serves.leaves.parents j h.number (subst (λ x. IsBranchOf (plain_code x).shape h.number j) (sym moves.code) is) (omega (arith, up))) ∙ ap sent_by (moves.parents j n)

      pub called_first : CallsFirst a s3 h (k + 1) result
      called_first = record {
        within = within_next;
        stays = stays_then h.number a b s3 done.stays stays3;
        calling = λ pairs told. subst (λ n. IsCalling s3 h pairs n result) one (calling3 result refl pairs told);
        rest = rest_next s3 same_sent;
        sent = λ lt. more s3 (extends_then _ _ _ (serves.leaves.grown.sent m) (grows result refl).0);
      }

  pub called_more : (s3 : SchedulerState) (result : Bool) → HasCalled b s3 h k m result → replied ≡ true → CallsFirst a s3 h (k + 1) result
  called_more s3 result c going = called_first c.told c.sends c.lacks c.job c.served s3 c.serves c.looks result c.got c.missed going

-- ---- all were told

pub served_all : (a b : SchedulerState) (h : Thread) (k : ℕ) (replied : Bool) → IsForked (code_in a) h → CallsFirst a b h k replied → length h.branches.numbers ≤ k → HasServedFork a b h replied
served_all a b h k replied forked done past =
    let le = done.within in
    let same : k ≡ length h.branches.numbers = omega (arith, le, past) in
    let code = done.stays.leaves.code in
    let forked_b : IsForked (code_in b) h = subst (λ x. IsForked (plain_code x) h) (sym code) forked in
    let count = ap length forked_b.numbers ∙ length-map (jobs_at (code_in b) h) (λ w. w.branch) in
    let gathers : (pairs : List Answered) → (c : IsCalling b h pairs k replied) → IsGathering b h pairs = λ pairs c.
    record {
      forked = forked_b;
      replies = c.replies;
      gathered = record {
        within = let n = c.within in omega (arith, n, same);
        heard = c.heard;
        told = subst (λ l. HasTold b h.number (pairs ++ pair_up (jobs_at (code_in b) h) c.replies) (drop (length c.replies) l)) (take_end (jobs_at (code_in b) h) k (omega (arith, count, past))) c.told;
      };
    } in
    record {
      stays = done.stays;
      gathering = λ pairs told. gathers pairs (done.calling pairs told);
      replies = λ e pairs told. let c = done.calling pairs told in record { gathering = gathers pairs c; all = c.all e ∙ same };
      sent = done.sent (let n = forked.some in omega (arith, n, past));
    }

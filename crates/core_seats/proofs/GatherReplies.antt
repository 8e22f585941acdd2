-- The replies at a fork are got, branch by branch.
use Rattle.std.proofs.Common.{◌≡◌, ◌≢◌, ℕ, zero, suc, ◌+◌, ◌-◌, ◌<◌, ◌≤◌, Option, Some, None, List, [], ◌∷◌, ◌++◌, length, refl, sym, ap, ◌∙◌, subst, append_assoc, inl, inr, ⊎_elim, arith}
use Rattle.std.specs.Prelude.{slice_get, drop, ◌⊎◌}
use Rattle.std.proofs.lemmas.Bool.{cases_lt}
use Rattle.std.proofs.lemmas.Option.{slice_get_within}
use Rattle.forec_kernel.specs.Engine.{Answered, Reply, Written, pair_up}
use Rattle.thread_code.specs.Plain.{plain_code}
use Rattle.combine_tree.specs.declared.packet.Packet.{Packet}
use Rattle.combine_tree.specs.Plain.{plain_packet}
use Rattle.core_machine.specs.declared.thread.Thread.{Thread}
use Rattle.core_machine.specs.Forks.{jobs_at}
use Rattle.copy_slots.specs.Ports.{sent, got}
use Rattle.core_seats.specs.declared.seat.Seat.{Seat}
use Rattle.core_seats.specs.Posts.{Mail}
use Rattle.tick_jobs.specs.Branches.{IsBranchOf}
use Rattle.core_seats.specs.Changes.{Extends, Awaits}
use Rattle.core_seats.specs.Keeping.{SchedulerState, code_in, IsSeated, LacksPacket, HasHeard, HaveHeard}
use Rattle.core_seats.specs.Moving.{ChangesPacket, HasGot, HasLooked}
use Rattle.core_seats.specs.Waiting.{IsOut, HasTold, IsFor, IsGathering, HasReplies}
use Rattle.core_seats.specs.Serving.{ChangesBranches}
use Rattle.core_seats.proofs.Mails.{alike_same, extends_one, extends_same}
use Rattle.tick_jobs.proofs.Lists.{some_once, get_then, length_then, at_map}
use Rattle.tick_jobs.proofs.Pairs.{pairs_more}
use Rattle.core_seats.proofs.OneMoreExchange.{changed, changed_is, told_still, told_back, answers}
use Rattle.core_seats.proofs.NextJob.{JobBetween}
use Rattle.core_seats.proofs.SendJobs.{branches_same, branches_then, branches_seated, branch_moves}

-- ---- places in the list of jobs

drop_next : {A : Type 0} (l : List A) (k : ℕ) (x : A) → slice_get l k ≡ Some x → drop k l ≡ x ∷ drop (suc k) l
drop_next [] zero x e = cc
drop_next [] (suc k) x e = cc
drop_next (y ∷ []) zero x e = ap (λ z. z ∷ []) (some_once y x e)
drop_next (y ∷ z ∷ l) zero x e = ap (λ v. v ∷ z ∷ l) (some_once y x e)
drop_next (y ∷ l) (suc k) x e = drop_next l k x e

pub out_dropped : (b : ℕ) (ws : List Written) (k : ℕ) → IsOut b (drop k ws) → JobBetween b ws k (length ws)
out_dropped b [] zero h = absurd h
out_dropped b [] (suc k) h = absurd h
out_dropped b (w ∷ ws) zero h =
    ⊎_elim (λ e. record { index = 0; job = w; low = omega arith; high = omega arith; at = refl; is = e })
    (λ o. let p = out_dropped b ws 0 (from_start ws o) in record { index = suc p.index; job = p.job; low = omega arith; high = let x = p.high in omega (arith, x); at = p.at; is = p.is }) h
  where
    from_start : (l : List Written) → IsOut b l → IsOut b (drop 0 l)
    from_start [] o = o
    from_start (v ∷ l) o = o
out_dropped b (w ∷ ws) (suc k) h =
    let p = out_dropped b ws k h in record { index = suc p.index; job = p.job; low = let x = p.low in omega (arith, x); high = let x = p.high in omega (arith, x); at = p.at; is = p.is }

-- ---- a state with the same code

module _ (s : SchedulerState) (mail : Mail) (seats : List Seat) (hands : List (Option Packet)) (h : Thread) (m : ℕ) (mine : IsBranchOf (code_in s).shape h.number m) (moves : ChangesPacket m s (changed s mail seats hands)) where
  abbrev s' : SchedulerState
  s' = changed s mail seats hands

  abbrev ws : List Written
  ws = jobs_at (code_in s) h

  module _ (pairs : List Answered) (w : IsGathering s h pairs) (n : ℕ) (number : slice_get h.branches.numbers n ≡ Some (suc m)) (next : n ≡ length w.replies) where
    abbrev rs : List Reply
    rs = w.replies

    job : (v : Written) × (slice_get ws n ≡ Some v) × (v.branch ≡ suc m)
    job = at_map (λ v. v.branch) ws n (suc m) (ap (λ l. slice_get l n) (sym w.forked.numbers) ∙ number)

    rest_is : drop (length rs) ws ≡ job.0 ∷ drop (suc n) ws
    rest_is = ap (λ i. drop i ws) (sym next) ∙ drop_next ws n job.0 job.1

    pub it_lacks : LacksPacket s m
    it_lacks = w.gathered.told.lacks m mine (subst (IsOut (suc m)) (sym rest_is) (inl job.2))

    -- no later job is for this branch
    alone : IsOut (suc m) (drop (suc n) ws) → ⊥
    alone o =
        let p = out_dropped (suc m) ws (suc n) o in
        let less = w.forked.order n p.index job.0 p.job (let x = p.low in omega (arith, x)) job.1 p.at in
        let x = p.is in
        let y = job.2 in absurd (omega (arith, less, x, y))

    -- nor an earlier one
    apart : (i b : ℕ) (r : Reply) → slice_get h.branches.numbers i ≡ Some b → slice_get rs i ≡ Some r → (j : ℕ) → b ≡ suc j → j ≢ m
    apart i b r at there j is e =
        let lt = slice_get_within rs i r there in
        let v = at_map (λ v. v.branch) ws i b (ap (λ l. slice_get l i) (sym w.forked.numbers) ∙ at) in
        let less = w.forked.order i n v.0 job.0 (omega (arith, lt, next)) v.1 job.1 in
        let x = v.2 in
        let y = job.2 in omega (arith, less, x, y, is, e)

    kept : (i b : ℕ) (r : Reply) → slice_get h.branches.numbers i ≡ Some b → slice_get rs i ≡ Some r → HasHeard s' b r
    kept i b r at there =
        let old = w.gathered.heard i b r at there in
        record { mailbox = old.mailbox; is = old.is; packet = old.packet; at = moves.hands old.mailbox (apart i b r at there old.mailbox old.is) ∙ old.at; room = old.room; reply = old.reply }

    -- the reply is there
    module _ (got_now : HasGot s s' m) (above : h.number < suc m) where
      told_rest : HasTold s h.number (pairs ++ pair_up ws rs) (job.0 ∷ drop (suc n) ws)
      told_rest = subst (HasTold s h.number (pairs ++ pair_up ws rs)) rest_is w.gathered.told

      abbrev r : Reply
      r = (answers s mail seats hands h.number m mine moves (pairs ++ pair_up ws rs) job.0 job.2 (drop (suc n) ws) told_rest above alone got_now).plain_reply

      heard_now : HasHeard s' (suc m) r
      heard_now = record { mailbox = m; is = refl; packet = got_now.packet; at = got_now.at; room = got_now.replies.room; reply = got_now.replies.answers.reply_is }

      told_now : HasTold s' h.number (pairs ++ pair_up ws (rs ++ r ∷ [])) (drop (length (rs ++ r ∷ [])) ws)
      told_now =
          let new = told_back s mail seats hands h.number m mine moves (pairs ++ pair_up ws rs) job.0 job.2 (drop (suc n) ws) told_rest above alone got_now in
          let named : (pairs ++ pair_up ws rs) ++ record { branch = job.0.branch; job = job.0.job; reply = r } ∷ [] ≡ pairs ++ pair_up ws (rs ++ r ∷ []) =
          append_assoc pairs (pair_up ws rs) (record { branch = job.0.branch; job = job.0.job; reply = r } ∷ [])
          ∙ ap (λ l. pairs ++ l) (sym (pairs_more ws rs job.0 r (ap (λ i. slice_get ws i) (sym next) ∙ job.1))) in
          let long : suc n ≡ length (rs ++ r ∷ []) = let c = length_then rs r in omega (arith, c, next) in
          subst (λ i. HasTold s' h.number (pairs ++ pair_up ws (rs ++ r ∷ [])) (drop i ws)) long (subst (λ l. HasTold s' h.number l (drop (suc n) ws)) named new)

      heard_all : (i b : ℕ) (q : Reply) → slice_get h.branches.numbers i ≡ Some b → slice_get (rs ++ r ∷ []) i ≡ Some q → HasHeard s' b q
      heard_all i b q at there =
          ⊎_elim
          (λ p. let branch : suc m ≡ b = some_once (suc m) b (sym number ∙ ap (λ z. slice_get h.branches.numbers z) (next ∙ sym p.0) ∙ at) in
          subst (λ z. HasHeard s' z q) branch (subst (HasHeard s' (suc m)) (sym p.1) heard_now))
          (λ old. kept i b q at old)
          (get_then rs r i q there)

      pub waits_got : (w' : IsGathering s' h pairs) × (length w'.replies ≡ n + 1)
      waits_got = (
        record {
          forked = w.forked;
          replies = rs ++ r ∷ [];
          gathered = record {
            within = let lt = slice_get_within h.branches.numbers n (suc m) number in let c = length_then rs r in omega (arith, lt, c, next);
            heard = heard_all;
            told = told_now;
          };
        },
        (let c = length_then rs r in omega (arith, c, next)),
      )

    -- it isn't
    module _ (missed : HasLooked s s' m) where
      told_same : HasTold s' h.number (pairs ++ pair_up ws rs) (drop (length rs) ws)
      told_same =
          told_still s mail seats hands h.number m mine moves (pairs ++ pair_up ws rs) (drop (length rs) ws) w.gathered.told (subst (IsOut (suc m)) (sym rest_is) (inl job.2)) missed

      pub waits_on : IsGathering s' h pairs
      waits_on = record { forked = w.forked; replies = rs; gathered = record { within = w.gathered.within; heard = kept; told = told_same } }

same_moves : (s : SchedulerState) (m : ℕ) → ChangesPacket m s s
same_moves s m = record {
  code = refl;
  places = refl;
  seats = refl;
  alike = alike_same s.mail;
  parents = λ j n. refl;
  looked = extends_same _ _ refl;
  children = λ j. refl;
  hands = λ j n. refl;
  hand_count = refl;
}

-- ---- one branch after the other

-- the replies of the first k branches are in hand
pub record HasSome (s : SchedulerState) (h : Thread) (pairs : List Answered) (k : ℕ) : Type 0 where
  pub gathering : IsGathering s h pairs
  pub reached : k ≤ length gathering.replies

pub record HasGotFirst (a b : SchedulerState) (h : Thread) (k : ℕ) : Type 0 where
  pub within : k ≤ length h.branches.numbers
  pub moves : ChangesBranches h.number a b
  pub some : (pairs : List Answered) → IsGathering a h pairs → HasSome b h pairs k

pub got_none : (a : SchedulerState) (h : Thread) → HasGotFirst a a h 0
got_none a h = record { within = omega arith; moves = branches_same h.number a; some = λ pairs w. record { gathering = w; reached = omega arith } }

module _ (a b : SchedulerState) (h : Thread) (k number : ℕ) (seated : IsSeated a) (moves_b : ChangesBranches h.number a b) (at : slice_get h.branches.numbers k ≡ Some number) (pairs : List Answered) (have : HasSome b h pairs k) where
  abbrev w : IsGathering b h pairs
  w = have.gathering

  abbrev pub m : ℕ
  m = number - 1

  its_job : (v : Written) × (slice_get (jobs_at (code_in b) h) k ≡ Some v) × (v.branch ≡ number)
  its_job = at_map (λ v. v.branch) (jobs_at (code_in b) h) k number (ap (λ l. slice_get l k) (sym w.forked.numbers) ∙ at)

  for_it : IsFor (code_in b) h.number number
  for_it = subst (IsFor (code_in b) h.number) its_job.2 (w.forked.each k its_job.0 its_job.1)

  m_is : m ≡ for_it.mailbox
  m_is = let e = for_it.branch in omega (arith, e)

  pub some_number : 1 ≤ number
  some_number = let e = for_it.branch in omega (arith, e)

  is_suc : number ≡ suc m
  is_suc = let e = some_number in omega (arith, e)

  mine_b : IsBranchOf (code_in b).shape h.number m
  mine_b = subst (IsBranchOf (code_in b).shape h.number) (sym m_is) for_it.mine

  above_m : h.number < suc m
  above_m = let e = m_is in let f = for_it.above in omega (arith, e, f)

  pub seated_b : IsSeated b
  seated_b = branches_seated h.number a b moves_b seated

  pub inside_m : m < length b.mail.ends
  inside_m = let e = m_is in let f = for_it.inside in let n = seated_b.mailboxes in omega (arith, e, f, n)

  at_m : slice_get h.branches.numbers k ≡ Some (suc m)
  at_m = at ∙ ap Some is_suc

  -- its reply is there, or its job is out
  here_or_next : ((p : Packet) × (slice_get b.hands m ≡ Some (Some p)) × (k < length w.replies)) ⊎ (k ≡ length w.replies)
  here_or_next =
      ⊎_elim
      (λ lt. let r = reply_at w.replies lt in
      let heard = w.gathered.heard k number r.0 at r.1 in
      let same : heard.mailbox ≡ m = let e = heard.is in omega (arith, e) in
      inl (heard.packet, subst (λ i. slice_get b.hands i ≡ Some (Some heard.packet)) same heard.at, lt))
      (λ ge. inr (omega (arith, ge, have.reached)))
      (cases_lt k (length w.replies))
    where
      reply_at : (l : List Reply) → k < length l → (r : Reply) × (slice_get l k ≡ Some r)
      reply_at l lt = get_at l k lt
        where
          get_at : (l : List Reply) (i : ℕ) → i < length l → (r : Reply) × (slice_get l i ≡ Some r)
          get_at [] i lt = absurd (omega arith)
          get_at (x ∷ l) zero lt = (x, refl)
          get_at (x ∷ l) (suc i) lt = get_at l i (omega (arith, lt))

  pub lacks_m : slice_get b.hands m ≡ Some None → LacksPacket b m
  lacks_m empty =
      ⊎_elim (λ p. absurd (full p.0 (sym p.1 ∙ empty))) (λ next. it_lacks b b.mail b.seats b.hands h m mine_b (same_moves b m) pairs w k at_m next) here_or_next
    where
      full : (p : Packet) → Some (Some p) ≡ Some None → ⊥
      full p e = cc

  module _ (s1 : SchedulerState) (moves : ChangesPacket m b s1) where
    path : changed b s1.mail s1.seats s1.hands ≡ s1
    path = changed_is b s1 moves.code moves.places

    moves' : ChangesPacket m b (changed b s1.mail s1.seats s1.hands)
    moves' = subst (ChangesPacket m b) (sym path) moves

    moved : (Extends (sent b.mail m) (sent s1.mail m)) × (Extends (got b.mail m) (got s1.mail m)) → ChangesBranches h.number a s1
    moved grown = branches_then h.number a b s1 moves_b (branch_moves h.number m b s1 mine_b moves grown)

    module _ (before : (p : Packet) → slice_get b.hands m ≡ Some (Some p) → s1 ≡ b) (there : slice_get b.hands m ≡ Some None → HasGot b s1 m) where
      got_next : k ≡ length w.replies → HasGot b s1 m
      got_next next = there (it_lacks b b.mail b.seats b.hands h m mine_b (same_moves b m) pairs w k at_m next).empty

      pub more_moves : ChangesBranches h.number a s1
      more_moves =
          ⊎_elim (λ p. subst (ChangesBranches h.number a) (sym (before p.0 p.1)) moves_b)
          (λ next. let g = got_next next in moved (extends_same (sent b.mail m) (sent s1.mail m) g.sent, extends_one (got b.mail m) (got s1.mail m) (plain_packet g.packet) g.got)) here_or_next

      pub more_some : HasSome s1 h pairs (k + 1)
      more_some =
          ⊎_elim (λ p. subst (λ s. HasSome s h pairs (k + 1)) (sym (before p.0 p.1)) (record { gathering = w; reached = let x = p.2 in omega (arith, x) }))
          (λ next. let now = subst (λ x. (v : IsGathering x h pairs) × (length v.replies ≡ k + 1)) path
          (waits_got b s1.mail s1.seats s1.hands h m mine_b moves' pairs w k at_m next (subst (λ x. HasGot b x m) (sym path) (got_next next)) above_m) in
          let more = now.1 in record { gathering = now.0; reached = omega (arith, more) }) here_or_next

    module _ (empty : (p : Packet) → slice_get b.hands m ≡ Some (Some p) → ⊥) (missed : HasLooked b s1 m) where
      is_next : k ≡ length w.replies
      is_next = ⊎_elim (λ p. absurd (empty p.0 p.1)) (λ next. next) here_or_next

      pub missed_moves : ChangesBranches h.number a s1
      missed_moves = moved (extends_same (sent b.mail m) (sent s1.mail m) missed.sent, extends_same (got b.mail m) (got s1.mail m) missed.got)

      pub missed_waits : IsGathering s1 h pairs
      missed_waits = subst (λ x. IsGathering x h pairs) path (waits_on b s1.mail s1.seats s1.hands h m mine_b moves' pairs w k at_m is_next (subst (λ x. HasLooked b x m) (sym path) missed))

      pub missed_awaits : (j : ℕ) → h.number ≡ suc j → Awaits (code_in a).shape a.mail s1.mail j
      missed_awaits j number_is =
          let old = moves_b.grown.looked_by_parent m in
          record {
            branch = m;
            is = subst (λ n. IsBranchOf (code_in a).shape n m) number_is (subst (λ x. IsBranchOf (plain_code x).shape h.number m) moves_b.code mine_b);
            looked = record { words = old.more; is = missed.looked ∙ ap (λ l. l ++ 1 ∷ []) old.is };
          }

-- ---- one branch more

-- beside some pairs it was at the fork to begin with
pub got_more : (a b s1 : SchedulerState) (h : Thread) (k number : ℕ) → IsSeated a → HasGotFirst a b h k → slice_get h.branches.numbers k ≡ Some number → (pairs : List Answered) × IsGathering a h pairs → ChangesPacket (number - 1) b s1 →
    ((p : Packet) → slice_get b.hands (number - 1) ≡ Some (Some p) → s1 ≡ b) → (slice_get b.hands (number - 1) ≡ Some None → HasGot b s1 (number - 1)) → HasGotFirst a s1 h (k + 1)
got_more a b s1 h k number seated done at it moves before there = record {
  within = let lt = slice_get_within h.branches.numbers k number at in omega (arith, lt);
  moves = more_moves a b h k number seated done.moves at it.0 (done.some it.0 it.1) s1 moves before there;
  some = λ pairs w. more_some a b h k number seated done.moves at pairs (done.some pairs w) s1 moves before there;
}

-- ---- all replies are in hand

pub has_all : (a b : SchedulerState) (h : Thread) (k : ℕ) → HasGotFirst a b h k → length h.branches.numbers ≤ k → (pairs : List Answered) → IsGathering a h pairs → HasReplies b h pairs
has_all a b h k done past pairs w =
    let s = done.some pairs w in record { gathering = s.gathering; all = let x = s.gathering.gathered.within in let r = s.reached in omega (arith, x, r, past) }

pub all_heard : (s : SchedulerState) (h : Thread) (pairs : List Answered) (r : HasReplies s h pairs) → HaveHeard s h.branches.numbers r.gathering.replies
all_heard s h pairs r = record { count = r.all; each = r.gathering.gathered.heard }

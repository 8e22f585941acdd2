-- What stays of a thread that rests or waits, where a change leaves its seat, its mailbox and its branches alone.
use Rattle.std.proofs.Common.{◌≡◌, ◌≢◌, ℕ, suc, ◌+◌, true, Option, Some, List, [], ◌∷◌, ◌++◌, length, refl, sym, ap, ◌∙◌, subst, arith}
use Rattle.std.specs.Prelude.{slice_get}
use Rattle.forec_kernel.specs.Packets.{PlainPacket}
use Rattle.forec_kernel.specs.Packed.{AreJobs}
use Rattle.forec_kernel.specs.Engine.{Answered, Reply, jobs_to}
use Rattle.combine_tree.specs.declared.packet.Packet.{Packet}
use Rattle.core_machine.specs.declared.thread.Thread.{Thread}
use Rattle.core_machine.specs.Forks.{jobs_at}
use Rattle.copy_slots.specs.declared.view.Taker.{Taker}
use Rattle.copy_slots.specs.Ports.{parent_at, child_at, sent_by, got_by, taken_by, answered_by, IsChild}
use Rattle.core_seats.specs.declared.seat.Seat.{Seat}
use Rattle.core_seats.specs.Posts.{Mail, AreReplies}
use Rattle.tick_jobs.specs.Branches.{IsBranchOf, replies_to}
use Rattle.core_seats.specs.Keeping.{SchedulerState, code_in, KeepsPort, HasPacket, HasHeard}
use Rattle.core_seats.specs.Waiting.{jobs_out, HasTold, IsForked, IsGathering, IsAtWork, IsWaiting, IsAtRest, WaitsAt, RestsOrWaits, rests, waits}
use Rattle.core_seats.specs.Serving.{ChangesBranches, Touches}
use Rattle.core_seats.proofs.KeepingLemmas.{same_child, idle_keeps, packet_keeps}
use Rattle.tick_jobs.proofs.Branching.{parent_once}
use Rattle.tick_jobs.proofs.Lists.{at_map}
use Rattle.core_seats.proofs.OneMoreExchange.{changed, changed_is, lacks_keeps}

module _ (a : SchedulerState) (mail : Mail) (seats : List Seat) (hands : List (Option Packet)) (blanks : mail.blanks ≡ a.mail.blanks) (count : length mail.ends ≡ length a.mail.ends) where
  abbrev b : SchedulerState
  b = changed a mail seats hands

  pub has_keeps : (k : ℕ) → parent_at mail.ends k ≡ parent_at a.mail.ends k → slice_get hands k ≡ slice_get a.hands k → HasPacket a k → HasPacket b k
  has_keeps k parent hand h = packet_keeps k a b refl (record { parent = parent; hand = hand; blanks = blanks }) h

  abbrev pub work_keeps : (h : Thread) (w : IsAtWork a h) → child_at mail.ends w.mailbox ≡ child_at a.mail.ends w.mailbox → IsAtWork b h
  work_keeps h w child = record {
    mailbox = w.mailbox;
    number = w.number;
    loaded = w.loaded;
    child = subst (λ (o : Option (Taker PlainPacket)). IsChild o true) (sym child) w.child;
    jobs = w.jobs;
    job = w.job;
    are = subst (λ l. AreJobs l (w.jobs ++ w.job ∷ [])) (sym (ap taken_by child)) w.are;
    even = ap (λ l. length l + 1) (ap answered_by child) ∙ w.even ∙ ap length (sym (ap taken_by child));
    log = w.log;
    stands = w.stands;
  }

  module _ (t : ℕ) (parents : (j : ℕ) → IsBranchOf (code_in a).shape t j → parent_at mail.ends j ≡ parent_at a.mail.ends j) (hand : (j : ℕ) → IsBranchOf (code_in a).shape t j → slice_get hands j ≡ slice_get a.hands j) where
    pub told_keeps : (pairs : List Answered) (out : _) → HasTold a t pairs out → HasTold b t pairs out
    told_keeps pairs out h = record {
      above = h.above;
      allowed = h.allowed;
      sent = λ k is. subst (λ l. AreJobs l (jobs_to (suc k) pairs ++ jobs_out (suc k) out)) (sym (ap sent_by (parents k is))) (h.sent k is);
      got = λ k is. subst (λ l. AreReplies l (replies_to (suc k) pairs)) (sym (ap got_by (parents k is))) (h.got k is);
      lacks = λ k is o. lacks_keeps k a b (parents k is) (hand k is) (h.lacks k is o);
      has = λ k lt is n. has_keeps k (parents k is) (hand k is) (h.has k (omega (arith, lt, count)) is n);
    }

    pub rest_keeps : (k : ℕ) → t ≡ suc k → slice_get seats (suc k) ≡ slice_get a.seats (suc k) → child_at mail.ends k ≡ child_at a.mail.ends k → IsAtRest a k → IsAtRest b k
    rest_keeps k same seat child r =
        let own = λ (j : ℕ) (is : IsBranchOf (code_in a).shape (suc k) j). subst (λ n. IsBranchOf (code_in a).shape n j) (sym same) is in
        record {
          idle = idle_keeps k a b (record { code = refl; seat = seat; child = same_child k a.mail mail child; branches = λ j is. parents j (own j is) }) r.idle;
          has = λ j lt is. has_keeps j (parents j (own j is)) (hand j (own j is)) (r.has j (omega (arith, lt, count)) is);
        }

  module _ (h : Thread) (parents : (j : ℕ) → IsBranchOf (code_in a).shape h.number j → parent_at mail.ends j ≡ parent_at a.mail.ends j) (hand : (j : ℕ) → IsBranchOf (code_in a).shape h.number j → slice_get hands j ≡ slice_get a.hands j) where
    pub heard_keeps : (f : IsForked (code_in a) h) (i n : ℕ) (r : Reply) → slice_get h.branches.numbers i ≡ Some n → HasHeard a n r → HasHeard b n r
    heard_keeps f i n r at old =
        let w = at_map (λ w. w.branch) (jobs_at (code_in a) h) i n (ap (λ l. slice_get l i) (sym f.numbers) ∙ at) in
        let it = f.each i w.0 w.1 in
        let same : it.mailbox ≡ old.mailbox = let x = it.branch in let y = old.is in let z = w.2 in omega (arith, x, y, z) in
        record {
          mailbox = old.mailbox;
          is = old.is;
          packet = old.packet;
          at = hand old.mailbox (subst (IsBranchOf (code_in a).shape h.number) same it.mine) ∙ old.at;
          room = old.room;
          reply = old.reply;
        }

    pub gathering_keeps : (pairs : List Answered) → IsGathering a h pairs → IsGathering b h pairs
    gathering_keeps pairs w = record {
      forked = w.forked;
      replies = w.replies;
      gathered = record {
        within = w.gathered.within;
        heard = λ i n r at there. heard_keeps w.forked i n r at (w.gathered.heard i n r at there);
        told = told_keeps h.number parents hand _ _ w.gathered.told;
      };
    }

    pub waiting_keeps : (w : IsWaiting a h) → child_at mail.ends w.work.mailbox ≡ child_at a.mail.ends w.work.mailbox → IsWaiting b h
    waiting_keeps w child = record { work = work_keeps h w.work child; gathering = gathering_keeps _ w.gathering }

-- ---- the seat, the mailbox and the branches of thread j + 1 stay

module _ (a b : SchedulerState) (code : b.code ≡ a.code) (places : b.places ≡ a.places) (alike : KeepsPort a.mail b.mail) (j : ℕ) (seat : slice_get b.seats (suc j) ≡ slice_get a.seats (suc j)) (child : child_at b.mail.ends j ≡ child_at a.mail.ends j)
    (parents : (i : ℕ) → IsBranchOf (code_in a).shape (suc j) i → parent_at b.mail.ends i ≡ parent_at a.mail.ends i) (hands : (i : ℕ) → IsBranchOf (code_in a).shape (suc j) i → slice_get b.hands i ≡ slice_get a.hands i) where
  path : changed a b.mail b.seats b.hands ≡ b
  path = changed_is a b code places

  rests_still : IsAtRest a j → IsAtRest b j
  rests_still r = subst (λ s. IsAtRest s j) path (rest_keeps a b.mail b.seats b.hands alike.blanks alike.count (suc j) parents hands j refl seat child r)

  waits_still : WaitsAt a j → WaitsAt b j
  waits_still w =
      let number = w.sits.number in
      let at : w.waiting.work.mailbox ≡ j = let x = w.waiting.work.number in omega (arith, x, number) in
      let own = λ (i : ℕ) (is : IsBranchOf (code_in a).shape w.thread.number i). subst (λ n. IsBranchOf (code_in a).shape n i) number is in
      subst (λ s. WaitsAt s j) path (record {
        thread = w.thread;
        sits = record { seat = w.sits.seat; at = seat ∙ w.sits.at; is = w.sits.is; loaded = w.sits.loaded; number = number };
        packet = w.packet;
        holds = w.holds;
        room = w.room;
        waiting = waiting_keeps a b.mail b.seats b.hands alike.blanks alike.count w.thread (λ i mine. parents i (own i mine)) (λ i mine. hands i (own i mine)) w.waiting
            (subst (λ i. child_at b.mail.ends i ≡ child_at a.mail.ends i) (sym at) child);
      })

  pub between_keeps : RestsOrWaits a j → RestsOrWaits b j
  between_keeps (rests r) = rests (rests_still r)
  between_keeps (waits w) = waits (waits_still w)

-- another mailbox was served
pub between_still : (a b : SchedulerState) (k : ℕ) → Touches k a b → (j : ℕ) → j ≢ k → RestsOrWaits a j → RestsOrWaits b j
between_still a b k touches j other =
    between_keeps a b touches.code touches.places touches.alike j (touches.seats (suc j) (λ e. other (omega (arith, e)))) (touches.children j other) (λ i mine. touches.parents i (apart i mine)) (λ i mine. touches.hands i (apart i mine))
  where
    apart : (i : ℕ) → IsBranchOf (code_in a).shape (suc j) i → IsBranchOf (code_in a).shape (suc k) i → ⊥
    apart i mine is = let same = parent_once (code_in a) (suc j) (suc k) i mine is in other (omega (arith, same))

-- the branches of thread t were looked at, or told jobs
pub between_moves : (a b : SchedulerState) (t : ℕ) → ChangesBranches t a b → (j : ℕ) → suc j ≢ t → RestsOrWaits a j → RestsOrWaits b j
between_moves a b t moves j other =
    between_keeps a b moves.code moves.places moves.alike j (ap (λ l. slice_get l (suc j)) moves.seats) (moves.children j) (λ i mine. moves.parents i (apart i mine)) (λ i mine. moves.hands i (apart i mine))
  where
    apart : (i : ℕ) → IsBranchOf (code_in a).shape (suc j) i → IsBranchOf (code_in a).shape t i → ⊥
    apart i mine is = other (parent_once (code_in a) (suc j) t i mine is)

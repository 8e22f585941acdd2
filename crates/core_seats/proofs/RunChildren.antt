-- One branch after the other does its job.
use Rattle.std.proofs.Common.{◌≡◌, ◌≢◌, ℕ, suc, ◌<◌, ◌≤◌, ◌==◌, Bool, true, false, cond, Some, List, [], ◌∷◌, ◌++◌, length, map, refl, sym, ap, ◌∙◌, subst, append_assoc, append-nil, ⊎_elim, arith}
use Rattle.std.specs.Prelude.{slice_get, ℤ}
use Rattle.std.proofs.lemmas.Bool.{cases_lt}
use Rattle.std.proofs.lemmas.Bool.Decides.{nat_tests}
use Rattle.forec_kernel.specs.declared.shape.VarCopy.{VarCopy}
use Rattle.forec_kernel.specs.Packets.{PlainPacket}
use Rattle.forec_kernel.specs.Packed.{HasRoom, IsJob, AreJobs, IsReply, PacketAnswers}
use Rattle.forec_kernel.specs.Solo.{unmarked_copies}
use Rattle.forec_kernel.specs.Engine.{Job, Start, Wake, Reply, Written, Answered, pair_up, jobs_to, Allowed, Answers}
use Rattle.thread_code.specs.Plain.{PlainCode, plain_code}
use Rattle.thread_code.specs.Valid.{of_shape}
use Rattle.thread_code.specs.Alone.{CodeAlone}
use Rattle.combine_tree.specs.Plain.{plain_packet}
use Rattle.copy_slots.specs.Ports.{parent_at, sent_by, got_by, sent, got}
use Rattle.tick_jobs.proofs.Pairs.{jobs_then, replies_then, same_test, other_test, allowed_more}
use Rattle.core_seats.specs.Posts.{Mail, AreReplies}
use Rattle.tick_jobs.specs.Branches.{IsBranchOf, replies_to, AreAbove}
use Rattle.core_seats.specs.Done.{Posts}
use Rattle.core_seats.specs.Keeping.{SchedulerState, code_in, KeepsBelow, IsFitted, Quiet, QuietAbove, HasHeard}
use Rattle.core_seats.specs.Moving.{ChangesPacket, HasSent, HasGot}
use Rattle.core_seats.proofs.Mails.{extends_one, extends_same}
use Rattle.core_seats.proofs.KeepingLemmas.{moved_quiet, moved_grown, moved_leaves, leaves_then, leaves_less, quiet_below, fitted_keeps}
use Rattle.tick_jobs.proofs.Branching.{parent_once}

-- ---- packets say which jobs and replies they are

values_back : (xs : List ℤ) → map (λ (c : VarCopy). c.value) (unmarked_copies xs) ≡ xs
values_back [] = refl
values_back (x ∷ xs) = ap (λ l. x ∷ l) (values_back xs)

unmarked_once : (xs ys : List ℤ) → unmarked_copies xs ≡ unmarked_copies ys → xs ≡ ys
unmarked_once xs ys e = sym (values_back xs) ∙ ap (map (λ (c : VarCopy). c.value)) e ∙ values_back ys

pub job_once : (q : PlainPacket) (i j : Job) → IsJob q i → IsJob q j → i ≡ j
job_once q (Start args values a) (Start args' values' a') h g =
    ap (λ x. Start x values a) (sym h.1 ∙ g.1) ∙ ap (λ x. Start args' x a) (unmarked_once values values' (sym h.2 ∙ g.2)) ∙ ap (λ x. Start args' values' x) (sym h.3 ∙ g.3)
job_once q (Start args values a) (Wake values' a') h g = let e = sym h.0 ∙ g.0 in cc
job_once q (Wake values a) (Start args' values' a') h g = let e = sym h.0 ∙ g.0 in cc
job_once q (Wake values a) (Wake values' a') h g = ap (λ x. Wake x a) (unmarked_once values values' (sym h.1 ∙ g.1)) ∙ ap (λ x. Wake values' x) (sym h.2 ∙ g.2)

pub jobs_once : (ps : List PlainPacket) (is js : List Job) → AreJobs ps is → AreJobs ps js → is ≡ js
jobs_once [] [] [] h g = refl
jobs_once [] [] (j ∷ js) h g = absurd g
jobs_once [] (i ∷ is) js h g = absurd h
jobs_once (p ∷ ps) [] js h g = absurd h
jobs_once (p ∷ ps) (i ∷ is) [] h g = absurd g
jobs_once (p ∷ ps) (i ∷ is) (j ∷ js) h g = ap (λ x. x ∷ is) (job_once p i j h.0 g.0) ∙ ap (λ l. j ∷ l) (jobs_once ps is js h.1 g.1)

pub jobs_more : (ps : List PlainPacket) (js : List Job) (q : PlainPacket) (j : Job) → AreJobs ps js → IsJob q j → AreJobs (ps ++ q ∷ []) (js ++ j ∷ [])
jobs_more [] [] q j h g = (g, tt)
jobs_more [] (i ∷ js) q j h g = absurd h
jobs_more (p ∷ ps) [] q j h g = absurd h
jobs_more (p ∷ ps) (i ∷ js) q j h g = (h.0, jobs_more ps js q j h.1 g)

pub replies_more : (ps : List PlainPacket) (rs : List Reply) (q : PlainPacket) (r : Reply) → AreReplies ps rs → IsReply q r → AreReplies (ps ++ q ∷ []) (rs ++ r ∷ [])
replies_more [] [] q r h g = (g, tt)
replies_more [] (i ∷ rs) q r h g = absurd h
replies_more (p ∷ ps) [] q r h g = absurd h
replies_more (p ∷ ps) (i ∷ rs) q r h g = (h.0, replies_more ps rs q r h.1 g)

-- ---- one more pair

-- a job was sent through one mailbox, and its reply got
module _ (c : PlainCode) (t : ℕ) (m m' : Mail) (k : ℕ) (mine : IsBranchOf c.shape t k) (q p : PlainPacket) (job : Job) (r : Reply) (pairs : List Answered) (posts : Posts c t m pairs)
    (sent_is : sent m' k ≡ sent m k ++ q ∷ []) (got_is : got m' k ≡ got m k ++ p ∷ []) (is_job : IsJob q job) (is_reply : IsReply p r)
    (else : (j : ℕ) → j ≢ k → IsBranchOf c.shape t j → parent_at m'.ends j ≡ parent_at m.ends j) (lt : t < suc k) where
  abbrev x : Answered
  x = record { branch = suc k; job = job; reply = r }

  here_jobs : jobs_to (suc k) (pairs ++ x ∷ []) ≡ jobs_to (suc k) pairs ++ job ∷ []
  here_jobs = jobs_then (suc k) pairs (x ∷ []) ∙ ap (λ b. jobs_to (suc k) pairs ++ cond b (job ∷ []) []) (same_test (suc k) (suc k) refl)

  here_replies : replies_to (suc k) (pairs ++ x ∷ []) ≡ replies_to (suc k) pairs ++ r ∷ []
  here_replies = replies_then (suc k) pairs (x ∷ []) ∙ ap (λ b. replies_to (suc k) pairs ++ cond b (r ∷ []) []) (same_test (suc k) (suc k) refl)

  else_jobs : (j : ℕ) → j ≢ k → jobs_to (suc j) (pairs ++ x ∷ []) ≡ jobs_to (suc j) pairs
  else_jobs j n = jobs_then (suc j) pairs (x ∷ []) ∙ ap (λ b. jobs_to (suc j) pairs ++ cond b (job ∷ []) []) (other_test (suc k) (suc j) (λ e. n (omega (arith, e)))) ∙ append-nil (jobs_to (suc j) pairs)

  else_replies : (j : ℕ) → j ≢ k → replies_to (suc j) (pairs ++ x ∷ []) ≡ replies_to (suc j) pairs
  else_replies j n = replies_then (suc j) pairs (x ∷ []) ∙ ap (λ b. replies_to (suc j) pairs ++ cond b (r ∷ []) []) (other_test (suc k) (suc j) (λ e. n (omega (arith, e)))) ∙ append-nil (replies_to (suc j) pairs)

  now_sent : AreJobs (sent m' k) (jobs_to (suc k) (pairs ++ x ∷ []))
  now_sent = subst (AreJobs (sent m' k)) (sym here_jobs) (subst (λ l. AreJobs l (jobs_to (suc k) pairs ++ job ∷ [])) (sym sent_is) (jobs_more (sent m k) (jobs_to (suc k) pairs) q job (posts.sent k mine) is_job))

  by_case : {A : Type 0} (j : ℕ) → (j ≢ k → A) → (j ≡ k → A) → A
  by_case j f g = ⊎_elim (λ lt. f (λ e. omega (arith, e, lt))) (λ le. ⊎_elim (λ lt. f (λ e. omega (arith, e, lt))) (λ le'. g (omega (arith, le, le'))) (cases_lt k j)) (cases_lt j k)

  above_more : (xs : List Answered) → AreAbove t xs → AreAbove t (xs ++ x ∷ [])
  above_more [] h = (lt, tt)
  above_more (y ∷ xs) h = (h.0, above_more xs h.1)

  pub posts_more : ((pj : List Job) → AreJobs (sent m' k) pj → Answers (CodeAlone c) (length c.threads) (suc k) pj r) → Posts c t m' (pairs ++ x ∷ [])
  posts_more answers = record {
    above = above_more pairs posts.above;
    allowed = allowed_more (Answers (CodeAlone c) (length c.threads)) [] pairs x posts.allowed (answers (jobs_to (suc k) (pairs ++ x ∷ [])) now_sent);
    sent = λ j is.
        by_case j (λ n. subst (AreJobs (sent m' j)) (sym (else_jobs j n)) (subst (λ l. AreJobs l (jobs_to (suc j) pairs)) (sym (ap sent_by (else j n is))) (posts.sent j is)))
        (λ e. subst (λ i. AreJobs (sent m' i) (jobs_to (suc i) (pairs ++ x ∷ []))) (sym e) now_sent);
    got = λ j is.
        by_case j (λ n. subst (AreReplies (got m' j)) (sym (else_replies j n)) (subst (λ l. AreReplies l (replies_to (suc j) pairs)) (sym (ap got_by (else j n is))) (posts.got j is)))
        (λ e. subst (λ i. AreReplies (got m' i) (replies_to (suc i) (pairs ++ x ∷ []))) (sym e)
        (subst (AreReplies (got m' k)) (sym here_replies) (subst (λ l. AreReplies l (replies_to (suc k) pairs ++ r ∷ [])) (sym got_is) (replies_more (got m k) (replies_to (suc k) pairs) p r (posts.got k mine) is_reply))));
  }

-- ---- one branch: its job is sent, done, and its reply got

module _ (s0 s1 s2 s3 : SchedulerState) (t m : ℕ) (fitted : IsFitted s0) (inside : m < length s0.mail.ends) (mine : IsBranchOf (code_in s0).shape t m) (le : t ≤ m) (job : Job)
    (above : QuietAbove s0 t) (sending : ChangesPacket m s0 s1) (sent_now : HasSent s0 s1 m job) (working : KeepsBelow (suc m) m s1 s2) (above_now : QuietAbove s2 (suc m))
    (getting : ChangesPacket m s2 s3) (quiet_now : Quiet s3 m) (got_now : HasGot s2 s3 m) where
  mine1 : IsBranchOf (code_in s1).shape t m
  mine1 = subst (λ x. IsBranchOf (plain_code x).shape t m) (sym sending.code) mine

  mine2 : IsBranchOf (code_in s2).shape t m
  mine2 = subst (λ x. IsBranchOf (plain_code x).shape t m) (sym working.code) mine1

  pub first_leaves : KeepsBelow t t s0 s1
  first_leaves = moved_leaves s0 s1 m sending t t t mine (omega arith)
      (moved_grown s0 s1 m sending (extends_one (sent s0.mail m) (sent s1.mail m) sent_now.packet sent_now.sent) (extends_same (got s0.mail m) (got s1.mail m) sent_now.got))

  middle_leaves : KeepsBelow t t s1 s2
  middle_leaves = leaves_less (suc m) m t t s1 s2 (omega (arith, le)) le working

  last_leaves : KeepsBelow t t s2 s3
  last_leaves = moved_leaves s2 s3 m getting t t t mine2 (omega arith)
      (moved_grown s2 s3 m getting (extends_same (sent s2.mail m) (sent s3.mail m) got_now.sent) (extends_one (got s2.mail m) (got s3.mail m) (plain_packet got_now.packet) got_now.got))

  pub all_leaves : KeepsBelow t t s0 s3
  all_leaves = leaves_then t t s0 s1 s3 first_leaves (leaves_then t t s1 s2 s3 middle_leaves last_leaves)

  fitted1 : IsFitted s1
  fitted1 = fitted_keeps t t s0 s1 first_leaves fitted

  -- the thread of a mailbox from t on isn't this one's parent
  other : (s : SchedulerState) → IsBranchOf (code_in s).shape t m → (j : ℕ) → t ≤ j → IsBranchOf (code_in s).shape (suc j) m → ⊥
  other s is j from own = let same = parent_once (code_in s) (suc j) t m own is in absurd (omega (arith, same, from))

  by_order : {A : Type 0} (j : ℕ) → (j < m → A) → (j ≡ m → A) → (m < j → A) → A
  by_order j f g h = ⊎_elim f (λ ge. ⊎_elim h (λ ge'. g (omega (arith, ge, ge'))) (cases_lt m j)) (cases_lt j m)

  pub quiet_all : QuietAbove s3 t
  quiet_all j from lt =
      by_order j
      (λ less.
      let count = first_leaves.alike.count in
      let count2 = middle_leaves.alike.count in
      let count3 = last_leaves.alike.count in
      let q0 = above j from (omega (arith, lt, count, count2, count3)) in
      let q1 = moved_quiet s0 s1 m sending j (λ e. omega (arith, e, less)) (other s0 mine j from) q0 in
      let threads = fitted1.seated.mailboxes in
      let q2 = quiet_below s1 s2 m j fitted1.seated working less (omega (arith, less, inside, count, threads)) q1 in
      moved_quiet s2 s3 m getting j (λ e. omega (arith, e, less)) (other s2 mine2 j from) q2)
      (λ e. subst (Quiet s3) (sym e) quiet_now)
      (λ more.
      let count3 = last_leaves.alike.count in
      moved_quiet s2 s3 m getting j (λ e. omega (arith, e, more)) (other s2 mine2 j from) (above_now j (omega (arith, more)) (omega (arith, lt, count3))))

  -- another branch of the thread
  pub parent_else : (j : ℕ) → j ≢ m → IsBranchOf (code_in s0).shape t j → parent_at s3.mail.ends j ≡ parent_at s0.mail.ends j
  parent_else j n is =
      getting.parents j n ∙ working.parents j t (subst (λ x. IsBranchOf (plain_code x).shape t j) (sym sending.code) is) (omega (arith, le)) ∙ sending.parents j n

  pub hand_else : (j : ℕ) → j ≢ m → IsBranchOf (code_in s0).shape t j → slice_get s3.hands j ≡ slice_get s0.hands j
  hand_else j n is =
      getting.hands j n ∙ working.hands j t (subst (λ x. IsBranchOf (plain_code x).shape t j) (sym sending.code) is) (omega (arith, le)) ∙ sending.hands j n

  same_parent : parent_at s2.mail.ends m ≡ parent_at s1.mail.ends m
  same_parent = working.parents m t mine1 (omega (arith, le))

  sent_all : sent s3.mail m ≡ sent s0.mail m ++ sent_now.packet ∷ []
  sent_all = got_now.sent ∙ ap sent_by same_parent ∙ sent_now.sent

  got_all : got s3.mail m ≡ got s0.mail m ++ plain_packet got_now.packet ∷ []
  got_all = got_now.got ∙ ap (λ l. l ++ plain_packet got_now.packet ∷ []) (ap got_by same_parent ∙ sent_now.got)

  pub code2 : s2.code ≡ s0.code
  code2 = working.code ∙ sending.code

  abbrev pub replied : PacketAnswers (CodeAlone (code_in s0)) (length (code_in s0).threads) (suc m) (sent s2.mail m) (plain_packet got_now.packet)
  replied = subst (λ x. PacketAnswers (CodeAlone (plain_code x)) (length (plain_code x).threads) (suc m) (sent s2.mail m) (plain_packet got_now.packet)) code2 got_now.replies.answers

  abbrev pub its_reply : Reply
  its_reply = replied.plain_reply

  pub heard_now : HasHeard s3 (suc m) its_reply
  heard_now = record {
    mailbox = m;
    is = refl;
    packet = got_now.packet;
    at = got_now.at;
    room = subst (λ x. HasRoom (of_shape (plain_code x).shape) (suc m) (plain_packet got_now.packet)) (sym getting.code) got_now.replies.room;
    reply = replied.reply_is;
  }

  pub posts_now : (pairs : List Answered) → Posts (code_in s0) t s0.mail pairs → Posts (code_in s0) t s3.mail (pairs ++ record { branch = suc m; job = job; reply = its_reply } ∷ [])
  posts_now pairs posts =
      posts_more (code_in s0) t s0.mail s3.mail m mine sent_now.packet (plain_packet got_now.packet) job its_reply pairs posts sent_all got_all sent_now.is replied.reply_is parent_else (omega (arith, le))
      (λ pj are. subst (λ js. Answers (CodeAlone (code_in s0)) (length (code_in s0).threads) (suc m) js its_reply)
      (jobs_once (sent s2.mail m) replied.plain_jobs pj replied.jobs_are (subst (λ l. AreJobs l pj) got_now.sent are)) replied.answers)

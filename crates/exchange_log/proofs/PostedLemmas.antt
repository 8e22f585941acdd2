-- What was posted is a log.
use Rattle.std.proofs.Common.{ℕ, zero, suc, ◌<◌, ◌≡◌, ◌==◌, Bool, true, false, cond, Option, None, Some, List, [], ◌∷◌, ◌++◌, length, refl, sym, ap, subst, ◌∙◌, arith}
use Rattle.forec_kernel.specs.Packets.{PlainPacket}
use Rattle.forec_kernel.specs.Packed.{IsJob, IsReply, AreJobs}
use Rattle.forec_kernel.specs.Engine.{Job, Start, Wake, Reply, WasPaused, WasEnded, WasTrapped, WasOver, Answered, pair_all, jobs_to, Allowed, Answers}
use Rattle.forec_kernel.specs.Ticks.{Fresh}
use Rattle.forec_kernel.specs.Composed.{tick_jobs}
use Rattle.forec_kernel.specs.Solo.{values_in, unmarked_copies}
use Rattle.thread_code.specs.declared.instruction.CodeParts.{CodeParts}
use Rattle.thread_code.specs.Plain.{PlainCode, plain_code}
use Rattle.thread_code.specs.Valid.{IsValidCode}
use Rattle.thread_code.specs.Alone.{CodeAlone}
use Rattle.combine_tree.specs.declared.packet.Packet.{Packet}
use Rattle.copy_slots.specs.declared.view.PacketAt.{PacketAt}
use Rattle.copy_slots.specs.declared.view.PacketAt.TheVariants as at
use Rattle.copy_slots.specs.declared.view.Sender.{Sender}
use Rattle.copy_slots.specs.Ports.{sent, got, taken, parent_at, IsParent}
use Rattle.tick_jobs.specs.Branches.{replies_to}
use Rattle.core_seats.specs.Posts.{Mail, AreReplies, HasPosted, HasPostedTaken}
use Rattle.core_seats.specs.Keeping.{SchedulerState, IsPacketOfParent, blank, reply}
use Rattle.core_host.specs.Hosted.{Hosted, code_of, state_in, IsWhole}
use Rattle.core_host.specs.Owned.{HasOwnPort}
use Rattle.exchange_meaning.specs.Logged.{Logged, jobs_in, logged, told_to, HasBranch}
use Rattle.exchange_meaning.specs.LogOf.{IsLogged, LogOf}
use Rattle.exchange_meaning.proofs.TellingLemmas.{jobs_told}
use Rattle.exchange_meaning.proofs.Shaped.{below_of, parents_of}
use Rattle.exchange_meaning.proofs.OwnBranches.{all_mine}
use Rattle.exchange_meaning.proofs.Replayed.{logs_agree}
use Rattle.exchange_log.specs.Kept.{HasParent}
use Rattle.exchange_log.specs.Posted.{job_by, reply_by, both, log_in, HasPostedAll, HasLog, PostedIsLogged, TicksAreLogged}

-- ---- a packet stands for one job, and for one reply

values_back : (values : List _) → values_in (unmarked_copies values) ≡ values
values_back [] = refl
values_back (v ∷ values) = ap (λ l. v ∷ l) (values_back values)

job_read : (p : PlainPacket) (j : Job) → IsJob p j → job_by p.kind p ≡ j
job_read p (Start args values a) h =
    ap (λ k. job_by k p) h.0 ∙ ap (λ l. Start l (values_in p.copies) p.allowance) h.1 ∙ ap (λ l. Start args (values_in l) p.allowance) h.2 ∙ ap (λ l. Start args l p.allowance) (values_back values)
    ∙ ap (λ n. Start args values n) h.3
job_read p (Wake values a) h =
    ap (λ k. job_by k p) h.0 ∙ ap (λ l. Wake (values_in l) p.allowance) h.1 ∙ ap (λ l. Wake l p.allowance) (values_back values) ∙ ap (λ n. Wake values n) h.2

reply_read : (p : PlainPacket) (r : Reply) → IsReply p r → reply_by p.kind p ≡ r
reply_read p (WasPaused copies u) h = ap (λ k. reply_by k p) h.0 ∙ ap (λ l. WasPaused l p.units) h.1 ∙ ap (λ n. WasPaused copies n) h.2
reply_read p (WasEnded copies u) h = ap (λ k. reply_by k p) h.0 ∙ ap (λ l. WasEnded l p.units) h.1 ∙ ap (λ n. WasEnded copies n) h.2
reply_read p (WasTrapped place trap u) h = ap (λ k. reply_by k p) h.0 ∙ ap (λ n. WasTrapped place trap n) h.1
reply_read p WasOver h = ap (λ k. reply_by k p) h

-- ---- lists of them

abbrev zip : List Job → List Reply → List Logged
zip [] rs = []
zip (j ∷ js) [] = []
zip (j ∷ js) (r ∷ rs) = record { job = j; reply = r } ∷ zip js rs

both_is : (ps qs : List PlainPacket) (js : List Job) (rs : List Reply) → AreJobs ps js → AreReplies qs rs → both ps qs ≡ zip js rs
both_is [] qs [] rs h g = refl
both_is [] qs (j ∷ js) rs h g = absurd h
both_is (p ∷ ps) qs [] rs h g = absurd h
both_is (p ∷ ps) [] (j ∷ js) [] h g = refl
both_is (p ∷ ps) [] (j ∷ js) (r ∷ rs) h g = absurd g
both_is (p ∷ ps) (q ∷ qs) (j ∷ js) [] h g = absurd g
both_is (p ∷ ps) (q ∷ qs) (j ∷ js) (r ∷ rs) h g =
    ap (λ x. record { job = x; reply = reply_by q.kind q } ∷ both ps qs) (job_read p j h.0)
    ∙ ap (λ x. record { job = j; reply = x } ∷ both ps qs) (reply_read q r g.0)
    ∙ ap (λ l. record { job = j; reply = r } ∷ l) (both_is ps qs js rs h.1 g.1)

one_list : (ps : List PlainPacket) (js ks : List Job) → AreJobs ps js → AreJobs ps ks → js ≡ ks
one_list [] [] [] h g = refl
one_list [] [] (k ∷ ks) h g = absurd g
one_list [] (j ∷ js) ks h g = absurd h
one_list (p ∷ ps) [] ks h g = absurd h
one_list (p ∷ ps) (j ∷ js) [] h g = absurd g
one_list (p ∷ ps) (j ∷ js) (k ∷ ks) h g = ap (λ x. x ∷ js) (sym (job_read p j h.0) ∙ job_read p k g.0) ∙ ap (λ l. k ∷ l) (one_list ps js ks h.1 g.1)

zip_told : (b : ℕ) (xs : List Answered) → zip (jobs_to b xs) (replies_to b xs) ≡ told_to b xs
zip_told b [] = refl
zip_told b (x ∷ xs) = by_test (x.branch == b) (zip_told b xs)
  where
    by_test : (test : Bool) → zip (jobs_to b xs) (replies_to b xs) ≡ told_to b xs →
        zip (cond test (x.job ∷ jobs_to b xs) (jobs_to b xs)) (cond test (x.reply ∷ replies_to b xs) (replies_to b xs)) ≡ cond test (logged x ∷ told_to b xs) (told_to b xs)
    by_test true h = ap (λ l. logged x ∷ l) h
    by_test false h = h

no_more : (ls : List Logged) → ls ≡ ls ++ []
no_more [] = refl
no_more (l ∷ ls) = ap (λ x. l ∷ x) (no_more ls)

-- as many replies as jobs
lengths : (b : ℕ) (ps qs : List PlainPacket) (xs : List Answered) → AreJobs ps (jobs_to b xs) → AreReplies qs (replies_to b xs) → length qs ≡ length ps
lengths b ps qs xs h g = sym (replies_length qs (replies_to b xs) g) ∙ same xs ∙ jobs_length ps (jobs_to b xs) h
  where
    jobs_length : (ps : List PlainPacket) (js : List Job) → AreJobs ps js → length js ≡ length ps
    jobs_length [] [] h = refl
    jobs_length [] (j ∷ js) h = absurd h
    jobs_length (p ∷ ps) [] h = absurd h
    jobs_length (p ∷ ps) (j ∷ js) h = ap suc (jobs_length ps js h.1)

    replies_length : (ps : List PlainPacket) (js : List Reply) → AreReplies ps js → length js ≡ length ps
    replies_length [] [] h = refl
    replies_length [] (j ∷ js) h = absurd h
    replies_length (p ∷ ps) [] h = absurd h
    replies_length (p ∷ ps) (j ∷ js) h = ap suc (replies_length ps js h.1)

    one_more : (t : Bool) (x : Answered) (rs : List Reply) (js : List Job) → length rs ≡ length js → length (cond t (x.reply ∷ rs) rs) ≡ length (cond t (x.job ∷ js) js)
    one_more true x rs js e = ap suc e
    one_more false x rs js e = e

    same : (xs : List Answered) → length (replies_to b xs) ≡ length (jobs_to b xs)
    same [] = refl
    same (x ∷ xs) = one_more (x.branch == b) x (replies_to b xs) (jobs_to b xs) (same xs)

module _ (c : PlainCode) (valid : IsValidCode c) (mail : Mail) where
  told_is : (t b : ℕ) (jobs : List Job) (h : HasPosted c t mail jobs) → HasBranch c.shape t b → log_in mail b ≡ told_to b (pair_all h.exchanges h.outputs)
  told_is t zero jobs h is = let none = (below_of c.shape valid.shape t zero is).0 in absurd (omega (arith, none))
  told_is t (suc k) jobs h is =
      both_is (sent mail k) (got mail k) (jobs_to (suc k) (pair_all h.exchanges h.outputs)) (replies_to (suc k) (pair_all h.exchanges h.outputs)) (h.sent k is) (h.got k is)
      ∙ zip_told (suc k) (pair_all h.exchanges h.outputs)

  logged_of : (t : ℕ) (jobs : List Job) → t < length c.threads → HasPosted c t mail jobs → IsLogged (CodeAlone c) c.shape (log_in mail) t jobs
  logged_of t jobs lt h =
      record {
        tells = record {
          exchanges = h.exchanges;
          outputs = h.outputs;
          runs = h.runs;
          complete = h.complete;
          mine = all_mine c t valid lt h.exchanges h.outputs h.runs;
          told = λ b is. record { rest = []; is = told_is t b jobs h is ∙ no_more (told_to b (pair_all h.exchanges h.outputs)) };
        };
        jobs = h.jobs_are;
        all = λ b is. sym (told_is t b jobs h is);
        answered = subst (λ n. Allowed (Answers (CodeAlone c) n) [] (pair_all h.exchanges h.outputs)) valid.threads h.allowed;
      }

  -- the jobs that were sent to a thread are those of the log
  jobs_are : (t k : ℕ) (jobs own : List Job) → HasPosted c t mail jobs → HasBranch c.shape t (suc k) → AreJobs (sent mail k) own → own ≡ jobs_in (log_in mail (suc k))
  jobs_are t k jobs own h is are =
      one_list (sent mail k) own (jobs_to (suc k) (pair_all h.exchanges h.outputs)) are (h.sent k is) ∙ sym (jobs_told (suc k) (pair_all h.exchanges h.outputs)) ∙ sym (ap jobs_in (told_is t (suc k) jobs h is))

  module _ (jobs : List Job) (root : HasPosted c 0 mail jobs) (some : 0 < length c.threads) (each : (k : ℕ) → suc k < length c.threads → HasPostedTaken c mail k)
      (all : (k : ℕ) → suc k < length c.threads → taken mail k ≡ sent mail k) where
    inside : (t : ℕ) → t < length c.shape.threads → t < length c.threads
    inside t lt = subst (λ n. t < n) (sym valid.threads) lt

    own_jobs : (k : ℕ) (lt : suc k < length c.threads) → AreJobs (sent mail k) (each k lt).jobs
    own_jobs k lt = subst (λ ps. AreJobs ps (each k lt).jobs) (all k lt) (each k lt).are

    by_parent : (p k : ℕ) → HasBranch c.shape p (suc k) → suc k < length c.shape.threads → IsLogged (CodeAlone c) c.shape (log_in mail) (suc k) (jobs_in (log_in mail (suc k)))
    by_parent zero k is lt =
        let here = inside (suc k) lt in
        subst (λ js. IsLogged (CodeAlone c) c.shape (log_in mail) (suc k) js) (jobs_are 0 k jobs (each k here).jobs root is (own_jobs k here)) (logged_of (suc k) (each k here).jobs here (each k here).posted)
    by_parent (suc p) k is lt =
        let here = inside (suc k) lt in
        let up = (below_of c.shape valid.shape (suc p) (suc k) is).0 in
        let parent = each p (inside (suc p) (omega (arith, up, lt))) in
        subst (λ js. IsLogged (CodeAlone c) c.shape (log_in mail) (suc k) js) (jobs_are (suc p) k parent.jobs (each k here).jobs parent.posted is (own_jobs k here)) (logged_of (suc k) (each k here).jobs here (each k here).posted)

    one : (t : ℕ) → 0 < t → t < length c.shape.threads → IsLogged (CodeAlone c) c.shape (log_in mail) t (jobs_in (log_in mail t))
    one zero first lt = absurd (omega (arith, first))
    one (suc k) first lt = let p = parents_of c.shape valid.shape (suc k) (omega arith) lt in by_parent p.0 k p.1 lt

    all_logged : LogOf (CodeAlone c) c.shape jobs (log_in mail)
    all_logged = record { root = logged_of 0 jobs some root; each = one }

    answered_by : (p k : ℕ) → HasBranch c.shape p (suc k) → suc k < length c.shape.threads → length (got mail k) ≡ length (sent mail k)
    answered_by zero k is lt = lengths (suc k) (sent mail k) (got mail k) (pair_all root.exchanges root.outputs) (root.sent k is) (root.got k is)
    answered_by (suc p) k is lt =
        let up = (below_of c.shape valid.shape (suc p) (suc k) is).0 in
        let parent = (each p (inside (suc p) (omega (arith, up, lt)))).posted in
        lengths (suc k) (sent mail k) (got mail k) (pair_all parent.exchanges parent.outputs) (parent.sent k is) (parent.got k is)

    all_answered : (k : ℕ) → suc k < length c.threads → length (got mail k) ≡ length (sent mail k)
    all_answered k lt =
        let here = subst (λ n. suc k < n) valid.threads lt in
        let p = parents_of c.shape valid.shape (suc k) (omega arith) here in answered_by p.0 k p.1 here

is_parent : (p : PacketAt) (o : Option (Sender PlainPacket)) → IsParent o p → (x : Sender PlainPacket) × (o ≡ Some x)
is_parent p None h = absurd h
is_parent p (Some x) h = (x, refl)

ready_parent : (s : SchedulerState) (k : ℕ) (hand : Option Packet) → IsPacketOfParent s k hand → HasParent s.mail k
ready_parent s k None (blank is q there room) = is_parent at.Fresh (parent_at s.mail.ends k) is
ready_parent s k (Some p) (reply is q room) = is_parent at.Held (parent_at s.mail.ends k) is

module _ (h : Hosted) (own : HasOwnPort h) (whole : IsWhole h) (jobs : List Job) (posted : HasPostedAll h jobs) where
  within : (k : ℕ) → suc k < length (code_of h).threads → k < length h.mail.ends
  within k lt = omega (arith, lt, own.mailboxes)

  within_code : (k : ℕ) → k < length h.mail.ends → suc k < length (code_of h).threads
  within_code k lt = omega (arith, lt, own.mailboxes)

  each_posted : (k : ℕ) → suc k < length (code_of h).threads → HasPostedTaken (code_of h) h.mail k
  each_posted k lt = posted.1 k (within k lt) (whole.quiet k (within k lt)).idle.child

  all_taken : (k : ℕ) → suc k < length (code_of h).threads → taken h.mail k ≡ sent h.mail k
  all_taken k lt = (whole.quiet k (within k lt)).all

  whole_log : HasLog h jobs
  whole_log =
      record {
        log_of = all_logged (code_of h) own.valid h.mail jobs posted.0 (omega (arith, own.mailboxes)) each_posted all_taken;
        answered = record {
          mailboxes = own.mailboxes ∙ own.valid.threads ∙ ap (λ (p : CodeParts). length (plain_code p).shape.threads) (sym own.work);
          parents = λ k lt. let packet = (whole.quiet k lt).packet in ready_parent (state_in h) k packet.hand packet.ready;
          replied = λ k lt. all_answered (code_of h) own.valid h.mail jobs posted.0 (omega (arith, own.mailboxes)) each_posted all_taken k (within_code k lt);
        };
      }

pub posted_is_logged : PostedIsLogged
posted_is_logged h own whole jobs posted = whole_log h own whole jobs posted

pub ticks_are_logged : TicksAreLogged
ticks_are_logged h own whole k fine stands turns pause posted =
    let log = (whole_log h own whole (tick_jobs k Fresh turns) posted).log_of in
    record { ticks = pause; log_of = (logs_agree (code_of h) k own.valid fine stands (tick_jobs k Fresh turns) (log_in h.mail)).0 log }

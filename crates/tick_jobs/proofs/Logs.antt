-- How a job begins, goes on at a fork, and ends, for the jobs and replies of a thread.
use Rattle.std.proofs.Common.{◌≡◌, ℕ, ◌-◌, ◌<◌, ◌==◌, true, Some, None, List, [], ◌∷◌, ◌++◌, map, length, refl, sym, ap, ◌∙◌, subst, append-nil, arith}
use Rattle.std.proofs.lemmas.Bool.Decides.{nat_tests}
use Rattle.forec_kernel.specs.Packets.{PlainPacket}
use Rattle.forec_kernel.specs.Packed.{IsReply}
use Rattle.forec_kernel.specs.Engine.{Job, Start, Wake, allowance_of, Reply, Seed, Written, written, View, Going, AtFork, Pausing, Ending, Trapping, Exceeding, Engine, Reaches, Rest, Asleep, Nothing, Exchange, Output, ends_at, first_jobs, AtEvent, RunsOn, over, event, IfElse, Serves, Begins, Alone, Answered, pair_forks, pair_all, Allowed, last_reply, Answers}
use Rattle.forec_kernel.specs.Reached.{Reached, Inside, AloneTo}
use Rattle.forec_kernel.proofs.Same.{IsSteady, one_stop, not_both, serves_one}
use Rattle.forec_kernel.proofs.ReachedLemmas.{alone_of}
use Rattle.forec_kernel.proofs.Agree.{answers_join}
use Rattle.thread_code.specs.Plain.{PlainCode}
use Rattle.thread_code.specs.Valid.{IsValidCode}
use Rattle.thread_code.specs.Machine.{Machine}
use Rattle.thread_code.specs.Alone.{code_engine, CodeAlone}
use Rattle.thread_code.proofs.Steady.{code_steady}
use Rattle.core_machine.specs.declared.thread.Thread.{Thread}
use Rattle.core_machine.specs.declared.thread.Phase.TheVariants as phase
use Rattle.core_machine.specs.Held.{machine_of, machine_in}
use Rattle.core_machine.specs.Threads.{StandsFor, never, since, settling, joining, RepliesToLast, HasSettled, StandsInPhase, StandsAtMachine}
use Rattle.tick_jobs.specs.Writing.{Wrote, heard, told}
use Rattle.tick_jobs.specs.Branches.{AreAbove}
use Rattle.tick_jobs.specs.Told.{AreAnswered, DidJobs, AtJob}
use Rattle.tick_jobs.proofs.Replying.{alone_one}
use Rattle.tick_jobs.proofs.FollowingLemmas.{follows, all_then, reply_then, alone_count}

-- ---- lists that end with one more

pub front_once : {A : Type 0} (xs ys : List A) (x y : A) → xs ++ x ∷ [] ≡ ys ++ y ∷ [] → (xs ≡ ys) × (x ≡ y)
front_once [] [] x y e = (refl, (let h : x ≡ y = cc in h))
front_once [] (b ∷ []) x y e = cc
front_once [] (b ∷ b' ∷ ys) x y e = cc
front_once (a ∷ []) [] x y e = cc
front_once (a ∷ a' ∷ xs) [] x y e = cc
front_once (a ∷ xs) (b ∷ ys) x y e =
    let h : a ≡ b = head a b _ _ e in
    let r = front_once xs ys x y (tail a b _ _ e) in
    (ap (λ z. z ∷ xs) h ∙ ap (λ l. b ∷ l) r.0, r.1)
  where
    head : {A : Type 0} (a b : A) (l m : List A) → a ∷ l ≡ b ∷ m → a ≡ b
    head a b l m e = cc

    tail : {A : Type 0} (a b : A) (l m : List A) → a ∷ l ≡ b ∷ m → l ≡ m
    tail a b l m e = cc

not_nil : {A : Type 0} (xs : List A) (x : A) → xs ++ x ∷ [] ≡ [] → ⊥
not_nil [] x e = cc
not_nil (a ∷ xs) x e = cc

-- ---- where a thread is that stands for its exchanges

module _ (c : PlainCode) (h : Thread) (xs : List Exchange) (job : Job) (before : List (List Reply)) where
  abbrev last : Exchange
  last = record { job = job; replies = before }

  -- the machine of a job in progress, where no branch is being settled or joined
  pub record IsInside : Type 0 where
    pub machine : Machine
    pub allowance : h.allowance ≡ allowance_of job
    pub reached : Reached (code_engine c h.number) xs (Inside job before machine)
    pub stands : StandsAtMachine c h machine

  named : (ys : List Exchange) (j : Job) (b : List (List Reply)) (m : Machine) → ys ++ record { job = j; replies = b } ∷ [] ≡ xs ++ last ∷ [] → h.allowance ≡ allowance_of j →
      Reached (code_engine c h.number) ys (Inside j b m) → StandsAtMachine c h m → IsInside
  named ys j b m e a r st =
      let parts = front_once ys xs (record { job = j; replies = b }) last e in
      let jobs = ap (λ (x : Exchange). x.job) parts.1 in
      let replies = ap (λ (x : Exchange). x.replies) parts.1 in
      record {
        machine = m;
        allowance = a ∙ ap allowance_of jobs;
        reached = subst (λ l. Reached (code_engine c h.number) l (Inside job before m)) parts.0
            (subst (λ z. Reached (code_engine c h.number) ys (Inside z before m)) jobs (subst (λ z. Reached (code_engine c h.number) ys (Inside j z m)) replies r));
        stands = st;
      }

  -- at the beginning of a job
  pub begun_in : (l : List Exchange) → StandsFor c h l → l ≡ xs ++ last ∷ [] → before ≡ [] → IsInside
  begun_in l (never p) e none = absurd (not_nil xs last (sym e))
  begun_in l (since ys j b m a r st) e none = named ys j b m e a r st
  begun_in l (settling ys j b rs a r w n s) e none =
      absurd (not_nil b rs (ap (λ (x : Exchange). x.replies) (front_once ys xs _ last e).1 ∙ none))
  begun_in l (joining ys j b rs m a r p q st) e none =
      absurd (not_nil b rs (ap (λ (x : Exchange). x.replies) (front_once ys xs _ last e).1 ∙ none))

  empty_map : {A B : Type 0} (f : A → B) (l : List A) (m : List B) → m ≡ map f l → length m ≡ 0 → l ≡ []
  empty_map f [] m e z = refl
  empty_map f (x ∷ l) m e z = let n = ap length e in absurd (omega (arith, n, z))

  joins_not : (before : ℕ) → h.phase ≡ phase.Forked before → h.phase ≡ phase.Joining → ⊥
  joins_not before p q = let e = sym p ∙ q in cc

  -- at a fork
  pub fork_in : (l : List Exchange) → StandsFor c h l → l ≡ xs ++ last ∷ [] → HasSettled h 0 → IsInside
  fork_in l (never p) e settled = absurd (not_nil xs last (sym e))
  fork_in l (since ys j b m a r st) e settled = named ys j b m e a r st
  fork_in l (settling ys j b rs a r w n s) e settled = absurd (n (empty_map _ rs h.branches.ended s.ended settled.count))
  fork_in l (joining ys j b rs m a r p q st) e settled = absurd (joins_not settled.before settled.phase p)

  pub allowance_in : (l : List Exchange) → StandsFor c h l → l ≡ xs ++ last ∷ [] → h.allowance ≡ allowance_of job
  allowance_in l (never p) e = absurd (not_nil xs last (sym e))
  allowance_in l (since ys j b m a r st) e = a ∙ ap (λ (x : Exchange). allowance_of x.job) (front_once ys xs _ last e).1
  allowance_in l (settling ys j b rs a r w n s) e = a ∙ ap (λ (x : Exchange). allowance_of x.job) (front_once ys xs _ last e).1
  allowance_in l (joining ys j b rs m a r p q st) e = a ∙ ap (λ (x : Exchange). allowance_of x.job) (front_once ys xs _ last e).1

-- where its machine is at a fork
pub fork_machine : (c : PlainCode) (h : Thread) (m : Machine) → StandsAtMachine c h m → HasSettled h 0 → m ≡ machine_of c h
fork_machine c h m st settled =
    let at = subst (λ p. StandsInPhase c h p m) settled.phase st in at.0 ∙ ap (λ p. machine_in c h p) (sym settled.phase)

-- ---- what is determined

module _ (S : Type 0) (e : Engine S) (steady : IsSteady e) where
  pub begins_once : (job : Job) (r : Rest S) (s s' : S) → Begins e job r s → Begins e job r s' → s ≡ s'
  begins_once (Start args values a) r s s' h g = h ∙ sym g
  begins_once (Wake values a) (Asleep m) s s' h g = h ∙ sym g
  begins_once (Wake values a) Nothing s s' h g = absurd h

  pub alone_to_once : (xs : List Exchange) (r r1 r2 : Rest S) (os ps : List Output) → AloneTo e xs r os r1 → AloneTo e xs r ps r2 → (os ≡ ps) × (r1 ≡ r2)
  alone_to_once [] r r1 r2 [] [] h g = (refl, sym h ∙ g)
  alone_to_once [] r r1 r2 (o ∷ os) ps h g = absurd h
  alone_to_once [] r r1 r2 [] (p ∷ ps) h g = absurd g
  alone_to_once (x ∷ xs) r r1 r2 [] ps h g = absurd h
  alone_to_once (x ∷ xs) r r1 r2 (o ∷ os) [] h g = absurd g
  alone_to_once (x ∷ xs) r r1 r2 (o ∷ os) (p ∷ ps) h g =
      let s = begins_once x.job r g.0 h.0 g.2 h.2 in
      let same = serves_one S e steady (allowance_of x.job) x.replies h.0 o p h.1 g.1 h.3 (subst (λ m. Serves e (allowance_of x.job) x.replies m p g.1) s g.3) in
      let rest = alone_to_once xs h.1 r1 r2 os ps h.4 (subst (λ q. AloneTo e xs q ps r2) (sym same.1) g.4) in
      (ap (λ q. q ∷ os) same.0 ∙ ap (λ l. p ∷ l) rest.0, rest.1)

  pub record Lasts (xs : List Exchange) (x : Exchange) (r : Rest S) (os : List Output) : Type 0 where
    pub front : List Output
    pub output : Output
    pub are : os ≡ front ++ output ∷ []
    pub rest : Rest S
    pub alone : AloneTo e xs r front rest
    pub begin : S
    pub begins : Begins e x.job rest begin
    pub final : Rest S
    pub serves : Serves e (allowance_of x.job) x.replies begin output final

  pub alone_last : (xs : List Exchange) (x : Exchange) (r : Rest S) (os : List Output) → Alone e (xs ++ x ∷ []) r os → Lasts xs x r os
  alone_last [] x r [] h = absurd h
  alone_last [] x r (o ∷ []) h = record { front = []; output = o; are = refl; rest = r; alone = refl; begin = h.0; begins = h.2; final = h.1; serves = h.3 }
  alone_last [] x r (o ∷ p ∷ os) h = absurd h.4
  alone_last (y ∷ xs) x r [] h = absurd h
  alone_last (y ∷ xs) x r (o ∷ os) h =
      let t = alone_last xs x h.1 os h.4 in
      record {
        front = o ∷ t.front;
        output = t.output;
        are = ap (λ l. o ∷ l) t.are;
        rest = t.rest;
        alone = (h.0, h.1, h.2, h.3, t.alone);
        begin = t.begin;
        begins = t.begins;
        final = t.final;
        serves = t.serves;
      }

  no_reply : (y : Reply) → None ≡ Some y → ⊥
  no_reply y e = cc

  ends_none : (ws : List Written) (o : Output) (r : Reply) → o ≡ ends_at ws → o.reply ≡ Some r → ⊥
  ends_none ws o r e h = no_reply r (sym (ap (λ (x : Output). x.reply) e) ∙ h)

  no_forks : (n : ℕ) (s : S) (o : Output) (r : Rest S) (f : S → List Seed → Output → Rest S → Type 0) → ((s' : S) (seeds : List Seed) → f s' seeds o r → o.jobs ≡ []) → RunsOn e n s f o r → o.jobs ≡ []
  no_forks n s o r f fork (over p eo er) = ap (λ (x : Output). x.jobs) eo
  no_forks n s o r f fork (event s' reaches at) = by_view (e.view s') at
    where
      by_view : (v : View) → AtEvent e s' v (f s') o r → o.jobs ≡ []
      by_view Going h = absurd h
      by_view (AtFork seeds) h = fork s' seeds h
      by_view (Pausing copies) h = ap (λ (x : Output). x.jobs) h.0
      by_view (Ending copies) h = ap (λ (x : Output). x.jobs) h.0
      by_view (Trapping place trap) h = ap (λ (x : Output). x.jobs) h.0
      by_view Exceeding h = ap (λ (x : Output). x.jobs) h.0

  same_count : (a b : ℕ) → a ≡ b → (a == b) ≡ true
  same_count a b h = grind (arith, nat_tests)

  goes_fork : (n : ℕ) (s : S) (o : Output) (r : Rest S) (f : S → List Seed → Output → Rest S → Type 0) (s1 : S) (seeds : List Seed) → Reaches e n s s1 → e.view s1 ≡ AtFork seeds → RunsOn e n s f o r → f s1 seeds o r
  goes_fork n s o r f s1 seeds reach view (over p eo er) = absurd (not_both S e steady n s s1 reach p)
  goes_fork n s o r f s1 seeds reach view (event s' reaches at) =
      let here = subst (λ x. AtEvent e x (e.view x) (f x) o r) (one_stop S e steady n s s' s1 reaches reach) at in
      subst (λ v. AtEvent e s1 v (f s1) o r) view here

  -- the jobs of a job that was replied to are those of its forks
  pub serves_wrote : (n : ℕ) (before : List (List Reply)) (s : S) (o : Output) (r : Rest S) (reply : Reply) (forks : List (List Written)) → Serves e n before s o r → o.reply ≡ Some reply → Wrote e n s before forks → o.jobs ≡ forks
  serves_wrote n [] s o r reply forks h has w = no_forks n s o r _ (λ s' seeds f. absurd (ends_none _ o reply f.0 has)) h ∙ sym w
  serves_wrote n (rs ∷ more) s o r reply forks h has w =
      let f = goes_fork n s o r _ w.0 w.1 w.3 w.4 h in
      let ws = map (written (n - e.units w.0)) w.1 in
      let g = subst (λ b. IfElse b ((o' : Output) × Serves e n more (e.join rs w.0) o' r × (o ≡ first_jobs ws o')) ((o ≡ ends_at ws) × (r ≡ Nothing))) (same_count (length rs) (length w.1) w.5) f in
      let ih = serves_wrote n more (e.join rs w.0) g.0 r reply w.2 g.1 (sym (ap (λ (x : Output). x.reply) g.2) ∙ has) w.7 in
      ap (λ (x : Output). x.jobs) g.2 ∙ ap (λ l. ws ∷ l) ih ∙ sym w.6

last_of : (os : List Output) (o : Output) → last_reply (os ++ o ∷ []) ≡ o.reply
last_of [] o = refl
last_of (a ∷ []) o = refl
last_of (a ∷ b ∷ os) o = last_of (b ∷ os) o

-- ---- a job begins

pub job_begins : (c : PlainCode) → IsValidCode c → (h h' : Thread) (Posted : ℕ → List Answered → Type 0) (jobs : List Job) (job : Job) → h'.number ≡ h.number → h'.number < length c.threads → (done : DidJobs c h Posted jobs) →
    StandsFor c h' (done.exchanges ++ record { job = job; replies = [] } ∷ []) → (i : AtJob c h' Posted jobs job) × (i.log.before ≡ [])
job_begins c valid h h' Posted jobs job number lt done stands =
    let inside = begun_in c h' done.exchanges job [] (done.exchanges ++ record { job = job; replies = [] } ∷ []) stands refl refl in
    let w = follows c valid h'.number lt done.exchanges (Inside job [] inside.machine) inside.reached in
    let runs = subst (λ t. CodeAlone c t done.exchanges done.outputs) (sym number) done.runs in
    let same = outputs_are c h'.number done.exchanges done.outputs w.outputs w.rest runs w.alone in (
      record {
        log = record {
          exchanges = done.exchanges;
          outputs = done.outputs;
          before = [];
          forks = [];
          jobs_are = done.jobs_are;
          complete = done.complete;
          rest = w.rest;
          alone = subst (λ os. AloneTo (code_engine c h'.number) done.exchanges Nothing os w.rest) (sym same) w.alone;
          begin = w.begin;
          begins = w.begins;
          wrote = refl;
        };
        stands = stands;
        posts = subst (Posted h'.number) (sym (append-nil (pair_all done.exchanges done.outputs))) (subst (λ t. Posted t (pair_all done.exchanges done.outputs)) (sym number) done.posts);
      },
      refl,
    )
  where
    outputs_are : (c : PlainCode) (t : ℕ) (xs : List Exchange) (os ps : List Output) (r : Rest Machine) → CodeAlone c t xs os → AloneTo (code_engine c t) xs Nothing ps r → os ≡ ps
    outputs_are c t xs os ps r runs alone = alone_one Machine (code_engine c t) (code_steady c t) xs Nothing os ps runs (alone_of Machine (code_engine c t) xs Nothing r ps alone)

-- ---- a job ends

allowed_above : (t : ℕ) (Sub : ℕ → List Job → Reply → Type 0) (past xs : List Answered) → AreAbove t xs → Allowed Sub past xs → Allowed (λ b js r. (t < b) × Sub b js r) past xs
allowed_above t Sub past [] a h = tt
allowed_above t Sub past (x ∷ xs) a h = ((a.0, h.0), allowed_above t Sub (past ++ x ∷ []) xs a.1 h.1)

-- it has done one job more, and this is its reply to it
pub record Does (c : PlainCode) (h : Thread) (Posted : ℕ → List Answered → Type 0) (jobs : List Job) (p : PlainPacket) : Type 0 where
  pub done : DidJobs c h Posted jobs
  pub reply : Reply
  pub is : IsReply p reply
  pub last : last_reply done.outputs ≡ Some reply

pub job_does : (c : PlainCode) (h : Thread) (Posted : ℕ → List Answered → Type 0) (jobs : List Job) (job : Job) (p : PlainPacket) →
    AtJob c h Posted jobs job → ((xs : List Exchange) → StandsFor c h xs → RepliesToLast c h.number xs p) → Does c h Posted (jobs ++ job ∷ []) p
job_does c h Posted jobs job p i gives =
    let l = i.log in
    let x : Exchange = record { job = job; replies = l.before } in
    let g = gives (heard c h.number jobs job l) i.stands in
    let t = alone_last Machine (code_engine c h.number) (code_steady c h.number) l.exchanges x Nothing g.outputs g.runs in
    let same = alone_to_once Machine (code_engine c h.number) (code_steady c h.number) l.exchanges Nothing l.rest t.rest l.outputs t.front l.alone t.alone in
    let begin = begins_once Machine (code_engine c h.number) (code_steady c h.number) job l.rest l.begin t.begin l.begins (subst (λ r. Begins (code_engine c h.number) job r t.begin) (sym same.1) t.begins) in
    let serves = subst (λ s. Serves (code_engine c h.number) (allowance_of job) l.before s t.output t.final) (sym begin) t.serves in
    let last = sym (last_of t.front t.output) ∙ ap last_reply (sym t.are) ∙ g.last in
    let jobs_same = serves_wrote Machine (code_engine c h.number) (code_steady c h.number) (allowance_of job) l.before l.begin t.output t.final g.reply l.forks serves last l.wrote in
    let outputs = t.are ∙ ap (λ os. os ++ t.output ∷ []) (sym same.0) in
    let pairs : pair_all (l.exchanges ++ x ∷ []) (l.outputs ++ t.output ∷ []) ≡ told c h.number jobs job l =
    all_then l.exchanges l.outputs x t.output (alone_count (code_engine c h.number) l.exchanges Nothing l.rest l.outputs l.alone) ∙ ap (λ js. pair_all l.exchanges l.outputs ++ pair_forks js l.before) jobs_same in
    record {
      done = record {
        exchanges = l.exchanges ++ x ∷ [];
        outputs = l.outputs ++ t.output ∷ [];
        stands = i.stands;
        jobs_are = map_then l.exchanges x ∙ ap (λ js. js ++ job ∷ []) l.jobs_are;
        runs = subst (CodeAlone c h.number (l.exchanges ++ x ∷ [])) outputs g.runs;
        complete = reply_then l.outputs t.output g.reply l.complete last;
        posts = subst (Posted h.number) (sym pairs) i.posts;
      };
      reply = g.reply;
      is = g.is;
      last = last_of l.outputs t.output ∙ last;
    }
  where
    map_then : (xs : List Exchange) (x : Exchange) → map (λ (y : Exchange). y.job) (xs ++ x ∷ []) ≡ map (λ (y : Exchange). y.job) xs ++ x.job ∷ []
    map_then [] x = refl
    map_then (y ∷ xs) x = ap (λ l. y.job ∷ l) (map_then xs x)

pub record Ends (c : PlainCode) (h : Thread) (Posted : ℕ → List Answered → Type 0) (jobs : List Job) (p : PlainPacket) : Type 0 where
  pub done : DidJobs c h Posted jobs
  pub reply : Reply
  pub is : IsReply p reply
  pub answers : Answers (CodeAlone c) (length c.threads) h.number jobs reply

-- where its branches' replies answer what they were told, so does its own
pub job_ends : (c : PlainCode) (h : Thread) (Posted : ℕ → List Answered → Type 0) → ((t : ℕ) (pairs : List Answered) → Posted t pairs → AreAnswered c t pairs) → (jobs : List Job) (job : Job) (p : PlainPacket) →
    h.number < length c.threads → AtJob c h Posted jobs job → ((xs : List Exchange) → StandsFor c h xs → RepliesToLast c h.number xs p) → Ends c h Posted (jobs ++ job ∷ []) p
job_ends c h Posted answered jobs job p lt i gives =
    let d = job_does c h Posted jobs job p i gives in
    let all = answered h.number _ d.done.posts in
    record {
      done = d.done;
      reply = d.reply;
      is = d.is;
      answers = answers_join (CodeAlone c) (length c.threads) h.number (jobs ++ job ∷ []) d.reply lt (record {
        exchanges = d.done.exchanges;
        outputs = d.done.outputs;
        runs = d.done.runs;
        jobs_are = d.done.jobs_are;
        complete = d.done.complete;
        allowed = allowed_above h.number (Answers (CodeAlone c) (length c.threads)) [] _ all.above all.allowed;
        gives = d.last;
      });
    }

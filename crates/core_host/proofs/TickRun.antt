-- A host runs a tick.
use Rattle.std.proofs.Common.{◌≡◌, ℕ, suc, ◌<◌, ℤ, Bool, true, false, List, [], ◌∷◌, ◌++◌, length, sym, ap, ◌∙◌, subst, inl, inr, ⊎_elim, arith}
use Rattle.forec_kernel.specs.declared.shape.Outcome.{Outcome}
use Rattle.forec_kernel.specs.Texts.{uses_in}
use Rattle.forec_kernel.specs.Ticks.{goes_on, values_of}
use Rattle.forec_kernel.specs.Packed.{HasRoom, IsJob}
use Rattle.forec_kernel.specs.Engine.{Job, Answers}
use Rattle.thread_code.specs.Plain.{PlainCode, plain_code}
use Rattle.thread_code.specs.Valid.{of_shape}
use Rattle.thread_code.specs.Alone.{CodeAlone}
use Rattle.thread_code.specs.Laws.{EachFits}
use Rattle.combine_tree.specs.declared.packet.Packet.{Packet}
use Rattle.combine_tree.specs.declared.packet.PacketKind.{PacketKind}
use Rattle.combine_tree.specs.declared.packet.PacketKind.TheVariants as kind
use Rattle.combine_tree.specs.Plain.{plain_packet}
use Rattle.core_machine.specs.declared.thread.Thread.{Thread}
use Rattle.core_machine.specs.Threads.{CanBegin}
use Rattle.core_machine.specs.Replies.{RepliesByKind}
use Rattle.std.specs.Prelude.{Option}
use Rattle.core_bells.specs.Ropes.{RopeState}
use Rattle.core_seats.specs.Hung.{KeepsRope}
use Rattle.core_seats.specs.Posts.{HasPosted, HasPostedTaken}
use Rattle.tick_jobs.proofs.Readiness.{between_of, begins_by, replied_of}
use Rattle.tick_jobs.specs.Branches.{IsBranchOf}
use Rattle.core_seats.specs.Done.{HasDone}
use Rattle.tick_jobs.specs.Jobs.{IsBetweenTicks, next_job_kind, job_of}
use Rattle.tick_jobs.specs.Outcomes.{IsReplied, outcome_in, HasOutputs, LacksOutputs}
use Rattle.tick_jobs.specs.Ticks.{RunsTick}
use Rattle.core_seats.specs.Loads.{is_on}
use Rattle.core_seats.specs.Keeping.{SchedulerState, code_in, IsSeated, Sits, Idle, HasPacket, QuietAbove}
use Rattle.core_seats.specs.Waiting.{HasChild, RestsOrWaits as IsServed, IsVacant, CanDescend, rests}
use Rattle.core_seats.specs.Ending.{HasReplied}
use Rattle.core_host.specs.Hosted.{Hosted, hosted, state_in, code_of, is_here, IsWhole}
use Rattle.core_seats.specs.Resting.{RootRests}
use Rattle.core_host.specs.Rests.{IsHosted}
use Rattle.tick_jobs.specs.Ready.{IsReady}
use Rattle.core_host.specs.Runs.{HasJobs, ticking}
use Rattle.core_host.proofs.HostedLemmas.{hung_keeps}
use Rattle.tick_jobs.proofs.TickOutcome.{goes_on_paused, job_fits, fits_then}
use Rattle.tick_jobs.proofs.RunTick.{RepliesTo, runs_tick}

-- ---- before

pub whole_here : (h : Hosted) → IsHosted h → IsWhole h → is_here h 0 ≡ true
whole_here h inv whole = whole.all 0 (omega (arith, inv.valid.shape.some, inv.valid.threads))

module _ (h : Hosted) (inv : IsHosted h) (here : is_here h 0 ≡ true) (live : h.live ≡ true) where
  the_root : RootRests (state_in h)
  the_root = inv.root here

  pub is_between : IsBetweenTicks h.root.kind
  is_between = let r = the_root in between_of r.thread h.root.kind (inv.ready live r.thread r.sits)

  pub can_begin : (t : Thread) → Sits (state_in h) 0 t → CanBegin t (next_job_kind h.root.kind)
  can_begin t sits = begins_by t h.root.kind (inv.ready live t sits)

-- ---- after

-- what is kept of the other threads, and of the packets of thread 0's branches
pub record HasRested (s : SchedulerState) (cores : List ℕ) : Type 0 where
  pub here : (k : ℕ) → k < length s.mail.ends → is_on s.places cores (suc k) ≡ true → HasChild s.mail k
  pub between : (k : ℕ) → k < length s.mail.ends → HasChild s.mail k → IsServed s k
  pub all : CanDescend s 0
  pub keeper : is_on s.places cores 0 ≡ true → s.mail.root ≡ true
  pub packets : (k : ℕ) → k < length s.mail.ends → IsBranchOf (code_in s).shape 0 k → HasPacket s k

pub quiet_rested : (s0 s1 : SchedulerState) (cores : List ℕ) (p : Packet) (live : Bool) (rope : Option RopeState) → IsHosted (hosted s0 cores p live rope) → s1.places ≡ s0.places → s1.mail.root ≡ s0.mail.root → QuietAbove s1 0 → HasRested s1 cores
quiet_rested s0 s1 cores p live rope inv places root quiet = record {
  here = λ k lt on. (false, (quiet k (omega arith) lt).idle.child);
  between = λ k lt there. at_rest k lt;
  all = λ k le lt. inr (at_rest k lt);
  keeper = λ on. root ∙ inv.keeper (ap (λ l. is_on l cores 0) (sym places) ∙ on);
  packets = λ k lt mine. (quiet k (omega arith) lt).packet;
}
  where
    at_rest : (k : ℕ) → k < length s1.mail.ends → IsServed s1 k
    at_rest k lt = rests (record { idle = (quiet k (omega arith) lt).idle; has = λ j less mine. (quiet j (omega arith) less).packet })

pub beside_rested : (s0 s1 : SchedulerState) (cores : List ℕ) (p : Packet) (live : Bool) (rope : Option RopeState) → IsHosted (hosted s0 cores p live rope) → IsSeated s1 → s1.code ≡ s0.code → s1.places ≡ s0.places → s1.mail.root ≡ s0.mail.root → ((k : ℕ) → HasChild s0.mail k → HasChild s1.mail k) →
    ((k : ℕ) → HasChild s1.mail k → HasChild s0.mail k) → ((k : ℕ) → IsServed s0 k → IsServed s1 k) → ((k : ℕ) → IsVacant s0 (suc k) → IsVacant s1 (suc k)) → ((k : ℕ) → k < length s1.mail.ends → IsBranchOf (code_in s0).shape 0 k → HasPacket s1 k) → HasRested s1 cores
beside_rested s0 s1 cores p live rope inv seated code places root here was_here between vacant packets = record {
  here = λ k lt on. here k (inv.here k (within k lt) (ap (λ l. is_on l cores (suc k)) (sym places) ∙ on));
  between = λ k lt there. between k (inv.between k (within k lt) (was_here k there));
  all = λ k le lt. ⊎_elim (λ v. inl (vacant k v)) (λ w. inr (between k w)) (inv.all k le (within k lt));
  keeper = λ on. root ∙ inv.keeper (ap (λ l. is_on l cores 0) (sym places) ∙ on);
  packets = λ k lt mine. packets k lt (subst (λ x. IsBranchOf (plain_code x).shape 0 k) code mine);
}
  where
    within : (k : ℕ) → k < length s1.mail.ends → k < length s0.mail.ends
    within k lt =
        let one = seated.mailboxes in
        let zero = inv.mailboxes in
        let same = ap (λ x. length (plain_code x).threads) code in omega (arith, lt, one, zero, same)

module _ (s0 s1 : SchedulerState) (cores : List ℕ) (p0 p1 pj : Packet) (live0 live1 : Bool) (rope0 rope1 : Option RopeState) (inv : IsHosted (hosted s0 cores p0 live0 rope0)) (live : live0 ≡ true) (row : List ℤ) (budget : ℕ)
    (isjob : IsJob (plain_packet pj) (job_of (code_in s0).shape p0 row budget)) (seated1 : IsSeated s1) (code1 : s1.code ≡ s0.code) (places1 : s1.places ≡ s0.places) (same_rope : KeepsRope rope0 rope1) (rested1 : HasRested s1 cores) (root1 : RootRests s1)
    (room1 : HasRoom (of_shape (code_in s0).shape) 0 (plain_packet p1)) (kind1 : (t : Thread) → Sits s1 0 t → RepliesByKind t p1.kind)
    (replied1 : (t u : Thread) (jobs : List Job) (job : Job) → Sits s0 0 t → Sits s1 0 u → HasDone (code_in s0) t s0.mail jobs → IsJob (plain_packet pj) job → HasReplied s1 u (jobs ++ job ∷ []) (plain_packet p1))
    (outcome : Outcome) (outcome_is : outcome ≡ outcome_in p1.kind) (live_is : live1 ≡ goes_on outcome) where
  abbrev c : PlainCode
  c = code_in s0

  abbrev job : Job
  job = job_of c.shape p0 row budget

  abbrev h0 : Hosted
  h0 = hosted s0 cores p0 live0 rope0

  abbrev h1 : Hosted
  h1 = hosted s1 cores p1 live1 rope1

  pub it_replied : IsReplied p1.kind
  it_replied = replied_of root1.thread p1.kind (kind1 root1.thread root1.sits)

  paused_of : live1 ≡ true → p1.kind ≡ kind.Paused
  paused_of e = goes_on_paused p1.kind (ap goes_on (sym outcome_is) ∙ sym live_is ∙ e)

  pub now_hosted : IsHosted h1
  now_hosted = record {
    valid = seated1.valid;
    work = seated1.work;
    mailboxes = seated1.mailboxes;
    seats = seated1.seats;
    hands = seated1.hands;
    places = seated1.places;
    room = subst (λ x. HasRoom (of_shape (plain_code x).shape) 0 (plain_packet p1)) (sym code1) room1;
    root = λ here. root1;
    ready = λ e t sits. subst (IsReady t) (sym (paused_of e)) (subst (RepliesByKind t) (paused_of e) (kind1 t sits));
    here = rested1.here;
    between = rested1.between;
    all = rested1.all;
    keeper = rested1.keeper;
    packets = λ on. rested1.packets;
    hung = hung_keeps s0.code s1.code s0.places s1.places cores rope0 rope1 code1 places1 same_rope inv.hung;
  }

  replies_for : (jobs : List Job) (old : HasJobs h0 jobs) → HasReplied s1 root1.thread (jobs ++ job ∷ []) (plain_packet p1)
  replies_for jobs old = replied1 old.thread root1.thread jobs job old.sits root1.sits old.done isjob

  now_jobs : (jobs : List Job) → HasJobs h0 jobs → HasJobs h1 (jobs ++ job ∷ [])
  now_jobs jobs old = record {
    thread = root1.thread;
    sits = root1.sits;
    fit = subst (λ x. EachFits (plain_code x).shape 0 (jobs ++ job ∷ [])) (sym code1) (fits_then c.shape jobs job old.fit (job_fits c.shape inv.valid.shape p0 inv.room row budget));
    done = (replies_for jobs old).done;
  }

  replied_to : (jobs : List Job) → HasJobs h0 jobs → RepliesTo (ticking h0) (ticking h1) jobs job
  replied_to jobs old = let r = replies_for jobs old in record {
    now = now_jobs jobs old;
    reply = r.reply;
    is = r.is;
    answers = subst (λ x. Answers (CodeAlone (plain_code x)) (length (plain_code x).threads) 0 (jobs ++ job ∷ []) r.reply) code1 r.answers;
  }

  pub ran : (before after : List ℤ) → (HasOutputs outcome → after ≡ values_of (uses_in c.shape.threads 0) p1.copies.items c.shape.outputs) → (LacksOutputs outcome → after ≡ before) → RunsTick (ticking h0) (ticking h1) row budget outcome before after
  ran before after are stay = runs_tick (ticking h0) (ticking h1) (ap plain_code code1) inv.valid inv.room live row budget outcome before after outcome_is live_is are stay (λ jobs j. j.fit) replied_to

-- ---- what was posted

pub root_posted : (h : Hosted) (jobs : List Job) → HasJobs h jobs → HasPosted (code_of h) 0 h.mail jobs
root_posted h jobs j =
    subst (λ t. HasPosted (code_of h) t h.mail jobs) j.sits.number (record {
      exchanges = j.done.exchanges;
      outputs = j.done.outputs;
      jobs_are = j.done.jobs_are;
      runs = j.done.runs;
      complete = j.done.complete;
      allowed = j.done.posts.allowed;
      sent = j.done.posts.sent;
      got = j.done.posts.got;
    })

pub idle_posted : (s : SchedulerState) (k : ℕ) → Idle s k → HasPostedTaken (code_in s) s.mail k
idle_posted s k i = record {
  jobs = i.jobs;
  are = i.are;
  posted = subst (λ t. HasPosted (code_in s) t s.mail i.jobs) i.sits.number (record {
    exchanges = i.done.exchanges;
    outputs = i.done.outputs;
    jobs_are = i.done.jobs_are;
    runs = i.done.runs;
    complete = i.done.complete;
    allowed = i.done.posts.allowed;
    sent = i.done.posts.sent;
    got = i.done.posts.got;
  });
}

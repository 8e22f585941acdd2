-- A tick on one core.
use Rattle.std.proofs.Common.{◌≡◌, ℕ, ℤ, Bool, true, List, [], ◌∷◌, ◌++◌, length, sym, ap, ◌∙◌, subst, arith}
use Rattle.forec_kernel.specs.declared.shape.Outcome.{Outcome}
use Rattle.forec_kernel.specs.Texts.{uses_in}
use Rattle.forec_kernel.specs.Ticks.{goes_on, values_of}
use Rattle.forec_kernel.specs.Packed.{HasRoom, IsJob}
use Rattle.forec_kernel.specs.Engine.{Job, Answers}
use Rattle.thread_code.specs.Plain.{PlainCode, plain_code}
use Rattle.thread_code.specs.Valid.{of_shape}
use Rattle.thread_code.specs.Alone.{CodeAlone}
use Rattle.thread_code.specs.Laws.{EachFits}
use Rattle.combine_tree.specs.declared.packet.Packet.{Packet}
use Rattle.combine_tree.specs.declared.packet.PacketKind.TheVariants as kind
use Rattle.combine_tree.specs.Plain.{plain_packet}
use Rattle.core_machine.specs.declared.thread.Thread.{Thread}
use Rattle.core_machine.specs.Threads.{CanBegin}
use Rattle.core_machine.specs.Replies.{RepliesByKind}
use Rattle.tick_jobs.specs.Jobs.{IsBetweenTicks, next_job_kind, job_of}
use Rattle.tick_jobs.specs.Outcomes.{IsReplied, outcome_in, HasOutputs, LacksOutputs}
use Rattle.tick_jobs.specs.Ready.{IsReady}
use Rattle.tick_jobs.specs.Told.{Book}
use Rattle.tick_jobs.specs.Ticks.{RunsTick}
use Rattle.tick_jobs.proofs.TickOutcome.{goes_on_paused}
use Rattle.tick_jobs.proofs.RunTick.{RepliesTo, fits_more, runs_tick}
use Rattle.tick_jobs.proofs.Readiness.{between_of, begins_by, replied_of}
use Rattle.one_core.specs.Seats.{Seated, seated_code, HoldsThread, HasAllSeats}
use Rattle.one_core.specs.Resting.{AllRestAfter, RootHasRepliedTo}
use Rattle.one_core.specs.Told.{HasDoneByBook, HasTalked, HaveTalked}
use Rattle.one_core.specs.Single.{Single, single, seated_in, single_code, IsSingle, HasRootJobs, single_ticking}

-- ---- before

module _ (o : Single) (inv : IsSingle o) (live : o.live ≡ true) where
  pub is_between : IsBetweenTicks o.root.kind
  is_between = let w = inv.worked.1 in between_of w.thread o.root.kind (inv.ready live w.thread w.sits)

  pub can_begin : (t : Thread) → HoldsThread (seated_in o) 0 t → CanBegin t (next_job_kind o.root.kind)
  can_begin t sits = begins_by t o.root.kind (inv.ready live t sits)

pub it_replied : (o : Single) → IsSingle o → (v1 : Seated) (pj p1 : Packet) (job : Job) → IsJob (plain_packet pj) job → RootHasRepliedTo (seated_in o) v1 (plain_packet pj) (plain_packet p1) → ((t : Thread) → HoldsThread v1 0 t → RepliesByKind t p1.kind) → IsReplied p1.kind
it_replied o inv v1 pj p1 job is replied by = let w = (replied inv.worked.0 job inv.worked.1 is).worked in replied_of w.thread p1.kind (by w.thread w.sits)

-- ---- after

module _ (v0 v1 : Seated) (p0 p1 pj : Packet) (live0 live1 : Bool) (inv : IsSingle (single v0 p0 live0)) (live : live0 ≡ true) (row : List ℤ) (budget : ℕ)
    (isjob : IsJob (plain_packet pj) (job_of (seated_code v0).shape p0 row budget)) (code1 : v1.code ≡ v0.code) (fitted1 : HasAllSeats v1) (room1 : HasRoom (of_shape (seated_code v0).shape) 0 (plain_packet p1))
    (kind1 : (t : Thread) → HoldsThread v1 0 t → RepliesByKind t p1.kind) (replied1 : RootHasRepliedTo v0 v1 (plain_packet pj) (plain_packet p1))
    (outcome : Outcome) (outcome_is : outcome ≡ outcome_in p1.kind) (live_is : live1 ≡ goes_on outcome) where
  abbrev c : PlainCode
  c = seated_code v0

  abbrev job : Job
  job = job_of c.shape p0 row budget

  abbrev o0 : Single
  o0 = single v0 p0 live0

  abbrev o1 : Single
  o1 = single v1 p1 live1

  now_worked : (jobs : List Job) × AllRestAfter v1 jobs
  now_worked = let w = inv.worked in (w.0 ++ job ∷ [], (replied1 w.0 job w.1 isjob).worked)

  paused_of : live1 ≡ true → p1.kind ≡ kind.Paused
  paused_of e = goes_on_paused p1.kind (ap goes_on (sym outcome_is) ∙ sym live_is ∙ e)

  pub now_single : IsSingle o1
  now_single = record {
    fitted = fitted1;
    worked = now_worked;
    room = subst (λ x. HasRoom (of_shape (plain_code x).shape) 0 (plain_packet p1)) (sym code1) room1;
    ready = λ e t sits. subst (IsReady t) (sym (paused_of e)) (subst (RepliesByKind t) (paused_of e) (kind1 t sits));
  }

  now_jobs : (jobs : List Job) → HasRootJobs o0 jobs → HasRootJobs o1 (jobs ++ job ∷ [])
  now_jobs jobs old = record {
    fit = subst (λ x. EachFits (plain_code x).shape 0 (jobs ++ job ∷ [])) (sym code1) (fits_more (single_ticking o0) inv.fitted.valid inv.room row budget jobs old.fit);
    worked = (replied1 jobs job old.worked isjob).worked;
  }

  replies : (jobs : List Job) → HasRootJobs o0 jobs → RepliesTo (single_ticking o0) (single_ticking o1) jobs job
  replies jobs old =
      let q = replied1 jobs job old.worked isjob in
      record {
        now = now_jobs jobs old;
        reply = q.reply;
        is = q.is;
        answers = subst (λ x. Answers (CodeAlone (plain_code x)) (length (plain_code x).threads) 0 (jobs ++ job ∷ []) q.reply) code1 q.answers;
      }

  pub ran : (before after : List ℤ) → (HasOutputs outcome → after ≡ values_of (uses_in c.shape.threads 0) p1.copies.items c.shape.outputs) → (LacksOutputs outcome → after ≡ before) → RunsTick (single_ticking o0) (single_ticking o1) row budget outcome before after
  ran before after are stay =
      runs_tick (single_ticking o0) (single_ticking o1) (ap plain_code code1) inv.fitted.valid inv.room live row budget outcome before after outcome_is live_is are stay (λ jobs had. had.fit) replies

-- ---- what threads told and replied

-- a thread that has done its jobs has talked for them
talked : (c : PlainCode) (t : ℕ) (h : Thread) (book : Book) (jobs : List Job) → h.number ≡ t → HasDoneByBook c h book jobs → HasTalked c t book jobs
talked c t h book jobs number d =
    subst (λ n. HasTalked c n book jobs) number (record { exchanges = d.exchanges; outputs = d.outputs; jobs_are = d.jobs_are; runs = d.runs; complete = d.complete; told = d.posts })

pub all_talked : (o : Single) → IsSingle o → (jobs : List Job) → HasRootJobs o jobs → HaveTalked (single_code o) jobs
all_talked o inv jobs had =
    let w = had.worked in
    record {
      book = w.book;
      root = talked (single_code o) 0 w.thread w.book jobs w.sits.number w.done;
      each = λ t lt less. let count = inv.fitted.seats in let r = w.above t lt (omega (arith, less, count)) in talked (single_code o) t r.thread w.book (w.book t) r.sits.number r.done;
    }

-- A tick was run, by the reply of thread 0.
use Rattle.std.proofs.Common.{◌≡◌, ℕ, ℤ, true, List, [], ◌∷◌, ◌++◌, length, sym, ap, ◌∙◌, subst}
use Rattle.forec_kernel.specs.declared.shape.Outcome.{Outcome}
use Rattle.forec_kernel.specs.Shapes.{PlainKernel}
use Rattle.forec_kernel.specs.WellFormed.{WellFormed}
use Rattle.forec_kernel.specs.Texts.{uses_in}
use Rattle.forec_kernel.specs.Ticks.{Fresh, goes_on, values_of}
use Rattle.forec_kernel.specs.Packed.{HasRoom, IsReply}
use Rattle.forec_kernel.specs.Engine.{Job, Reply, Answers}
use Rattle.forec_kernel.specs.Composed.{TickInput, tick_jobs}
use Rattle.thread_code.specs.Plain.{PlainCode}
use Rattle.thread_code.specs.Valid.{IsValidCode, of_shape}
use Rattle.thread_code.specs.Alone.{Stands, CodeAlone}
use Rattle.thread_code.specs.Laws.{EachFits}
use Rattle.combine_tree.specs.declared.packet.PacketKind.TheVariants as kind
use Rattle.combine_tree.specs.Plain.{plain_packet}
use Rattle.tick_jobs.specs.Jobs.{job_of}
use Rattle.tick_jobs.specs.Outcomes.{HasOutputs, LacksOutputs, outcome_in}
use Rattle.tick_jobs.specs.Ticks.{Ticking, HasTicked, HasRun, RunsTick}
use Rattle.tick_jobs.proofs.TickOutcome.{Told, told, keeps_now, jobs_are, goes_on_paused, comes_to, job_fits, fits_then}

-- it has replied to one job more
pub record RepliesTo (a b : Ticking) (jobs : List Job) (job : Job) : Type 0 where
  pub now : b.HasJobs (jobs ++ job ∷ [])
  pub reply : Reply
  pub is : IsReply (plain_packet b.root) reply
  pub answers : Answers (CodeAlone a.code) (length a.code.threads) 0 (jobs ++ job ∷ []) reply

-- jobs that fit thread 0, and the next one
pub fits_more : (m : Ticking) (valid : IsValidCode m.code) (room : HasRoom (of_shape m.code.shape) 0 (plain_packet m.root)) (row : List ℤ) (budget : ℕ) (jobs : List Job) → EachFits m.code.shape 0 jobs →
    EachFits m.code.shape 0 (jobs ++ job_of m.code.shape m.root row budget ∷ [])
fits_more m valid room row budget jobs fit = fits_then m.code.shape jobs (job_of m.code.shape m.root row budget) fit (job_fits m.code.shape valid.shape m.root room row budget)

module _ (a b : Ticking) (code : b.code ≡ a.code) (valid : IsValidCode a.code) (room : HasRoom (of_shape a.code.shape) 0 (plain_packet a.root)) (live : a.live ≡ true) (row : List ℤ) (budget : ℕ) (o : Outcome) (before after : List ℤ)
    (o_is : o ≡ outcome_in b.root.kind) (live_is : b.live ≡ goes_on o) (outputs_are : HasOutputs o → after ≡ values_of (uses_in a.code.shape.threads 0) b.root.copies.items a.code.shape.outputs) (stay : LacksOutputs o → after ≡ before)
    (fit : (jobs : List Job) → a.HasJobs jobs → EachFits a.code.shape 0 jobs) (replies : (jobs : List Job) → a.HasJobs jobs → RepliesTo a b jobs (job_of a.code.shape a.root row budget)) where
  abbrev c : PlainCode
  c = a.code

  abbrev turn : TickInput
  turn = record { row = row; budget = budget }

  paused_of : b.live ≡ true → b.root.kind ≡ kind.Paused
  paused_of e = goes_on_paused b.root.kind (ap goes_on (sym o_is) ∙ sym live_is ∙ e)

  module _ (k : PlainKernel) (turns : List TickInput) (fine : WellFormed k) (stands : Stands c k) (ticked : HasTicked a k turns) where
    abbrev r : RepliesTo a b (tick_jobs k Fresh turns) (job_of c.shape a.root row budget)
    r = replies (tick_jobs k Fresh turns) ticked.jobs

    told_now : Told c k turns turn b.root
    told_now = told c valid k turns fine stands a.root b.root room row budget (fit (tick_jobs k Fresh turns) ticked.jobs) (ticked.keeps live) r.reply r.is r.answers

    ticked_now : HasTicked b k (turns ++ turn ∷ [])
    ticked_now = record {
      jobs = subst b.HasJobs (jobs_are c valid k turns fine stands a.root b.root room row budget (fit (tick_jobs k Fresh turns) ticked.jobs) (ticked.keeps live) r.reply r.is r.answers) r.now;
      keeps = λ e. keeps_now c valid k turns fine stands a.root b.root room row budget (fit (tick_jobs k Fresh turns) ticked.jobs) (ticked.keeps live) r.reply r.is r.answers (paused_of e);
    }

  pub runs_tick : RunsTick a b row budget o before after
  unfolding HasRun
  runs_tick = record {
    code = code;
    live = live_is;
    turns = λ turns run k fine stands. let here = subst (λ x. Stands x k) code stands in ticked_now k turns fine here (run k fine here);
    outcome = λ k turns fine stands run. o_is ∙ (told_now k turns fine stands (run k fine stands)).outcome;
    outputs = λ k turns fine stands run has. outputs_are has ∙ (told_now k turns fine stands (run k fine stands)).outputs (subst HasOutputs o_is has);
    stay = stay;
    jobs = λ jobs had. (replies jobs had).now;
    reply = λ jobs had. let r = replies jobs had in record { reply = r.reply; is = r.is; answers = r.answers; comes = comes_to c.shape b.root r.reply r.is o o_is after outputs_are };
  }

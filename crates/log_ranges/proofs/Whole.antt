-- The log of a kernel's ticks fits the kernel's shape.
use Rattle.std.proofs.Common.{ℕ, ◌<◌, List, [], ◌∷◌, length, sym, subst}
use Rattle.std.specs.List.{AllByRecursion}
use Rattle.forec_kernel.specs.Shapes.{PlainKernel}
use Rattle.forec_kernel.specs.Ticks.{TickState, Fresh}
use Rattle.forec_kernel.specs.Solo.{KernelAlone}
use Rattle.forec_kernel.specs.Composed.{TickInput, tick_jobs, next_state}
use Rattle.forec_kernel.specs.WellFormed.{WellFormed}
use Rattle.thread_code.specs.Plain.{PlainCode}
use Rattle.thread_code.specs.Valid.{FineShape}
use Rattle.thread_code.specs.Alone.{CodeAlone}
use Rattle.thread_code.specs.Laws.{FitsThread}
use Rattle.value_ranges.specs.Words.{KernelWords}
use Rattle.exchange_meaning.specs.Logged.{Logged}
use Rattle.exchange_meaning.specs.OfShape.{HasJobNumbers, AreOfThread, IsOfShape}
use Rattle.exchange_meaning.proofs.Replayed.{logs_agree}
use Rattle.value_ranges.proofs.Ticks.{StateFits, tick_fits}
use Rattle.log_ranges.specs.Laws.{TurnFits, LogsFit}
use Rattle.log_ranges.proofs.Told.{AreLogged, log_good}
use Rattle.log_ranges.proofs.Solos.{JobFits, ReplyFits, numbers_told}
use Rattle.log_ranges.proofs.Starts.{job_numbers}
use Rattle.log_ranges.proofs.Sizes.{JobSized, ReplySized, sizes_told}
use Rattle.log_ranges.proofs.Lengths.{StateLong, tick_long, job_long}

-- ---- the jobs of ticks

module _ (k : PlainKernel) (numbers : KernelWords k) where
  jobs_numbers : (old : TickState) (turns : List TickInput) → StateFits old → AllByRecursion TurnFits turns → AllByRecursion HasJobNumbers (tick_jobs k old turns)
  jobs_numbers old [] h f = tt
  jobs_numbers old (turn ∷ turns) h f =
      (job_numbers k numbers old turn h f.0, jobs_numbers (next_state k old turn) turns (tick_fits k numbers turn.budget old turn.row h f.0.row).state f.1)

module _ (k : PlainKernel) (fine : WellFormed k) where
  jobs_long : (old : TickState) (turns : List TickInput) → StateLong k old → AllByRecursion (FitsThread k.shape 0) (tick_jobs k old turns)
  jobs_long old [] h = tt
  jobs_long old (turn ∷ turns) h = (job_long k fine old turn h, jobs_long (next_state k old turn) turns (tick_long k turn.budget old turn.row h))

-- ---- a thread's list

both : (c : PlainCode) (t : ℕ) (ls : List Logged) → AreLogged (JobSized c) (ReplySized c) t ls → AreLogged JobFits ReplyFits t ls → AreOfThread c.shape t ls
both c t [] h g = tt
both c t (l ∷ ls) h g = (record { job = h.0.0; reply = h.0.1; job_numbers = g.0.0; reply_numbers = g.0.1 }, both c t ls h.1 g.1)

pub logs_fit : LogsFit
logs_fit c k valid fine stands numbers places turns log is turns_fit =
    let jobs = tick_jobs k Fresh turns in
    let fine_shape : FineShape k.shape = subst FineShape stands.shape valid.shape in
    let of_code = (logs_agree c k valid fine stands jobs log).1 is.log_of in
    let sized = subst (λ s. AllByRecursion (FitsThread s 0) jobs) (sym stands.shape) (jobs_long k fine Fresh turns tt) in
    subst (λ s. IsOfShape s log) stands.shape
    (λ t some lt. both c t (log t) (log_good (JobSized c) (ReplySized c) (CodeAlone c) (sizes_told c) c.shape valid.shape log jobs of_code sized t some lt)
    (log_good JobFits ReplyFits (KernelAlone k) (numbers_told k numbers places) k.shape fine_shape log jobs is.log_of (jobs_numbers k numbers Fresh turns tt turns_fit) t some
    (subst (λ s. t < length s.threads) stands.shape lt)))

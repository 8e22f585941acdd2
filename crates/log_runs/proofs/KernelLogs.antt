-- A kernel's run has one log.
use Rattle.std.proofs.Common.{ℕ, zero, suc, ◌+◌, ◌*◌, ◌-◌, ◌<◌, ◌≤◌, ◌≡◌, arith, Some, List, [], ◌∷◌, ◌++◌, length, get_or, refl, sym, ap, subst, ◌∙◌}
use Rattle.std.specs.Prelude.{IsNone}
use Rattle.forec_kernel.specs.Composed.{tick_jobs}
use Rattle.forec_kernel.specs.Engine.{Job}
use Rattle.forec_kernel.specs.Shapes.{PlainShape, PlainKernel, PlainThread}
use Rattle.forec_kernel.specs.Solo.{Solo, kernel_engine, KernelAlone}
use Rattle.forec_kernel.specs.Ticks.{Fresh}
use Rattle.forec_kernel.specs.WellFormed.{WellFormed, blank_thread}
use Rattle.forec_kernel.proofs.SoloTotal.{solo_steady}
use Rattle.exchange_meaning.specs.Logged.{Logged, ExchangeLog, HasBranch}
use Rattle.exchange_meaning.specs.LogLines.{log_text, log_lines_from, thread_log_lines}
use Rattle.exchange_meaning.specs.LogOf.{LogOf}
use Rattle.exchange_meaning.proofs.Complete.{log_one}
use Rattle.exchange_meaning.proofs.Shaped.{inside, some_number}
use Rattle.log_runs.specs.Laws.{RunHasOneLog}
use Rattle.log_runs.specs.RunLogs.{IsLogReport, Of_kept, Of_full, IsRunLog, logged_report, log_full, run_status}
use Rattle.exchange_log.specs.Posted.{log_words_from, pair_words, log_words}
use Rattle.log_runs.specs.declared.logging.TheConstants.{LOG_WORDS}
use Rattle.trace_ticks.specs.Report.{Report, trace_turns}
use Rattle.trace_ticks.specs.declared.status.Status.{Status}

-- ---- the branches of a kernel's threads

module _ (k : PlainKernel) (fine : WellFormed k) where
  pub below : (t b : ℕ) → HasBranch k.shape t b → (t < b) × (b < length k.shape.threads)
  below t zero m = let h = subst IsNone m fine.root.parent in cc
  below t (suc b) m =
      let lt = inside k.shape.threads (suc b) t m in
      let within : suc b < length k.threads = omega (arith, lt, fine.bodies) in
      let child = fine.each_child (suc b) (omega arith) within in
      let same = some_number child.parent t (sym child.is ∙ m) in (subst (λ p. p < suc b) same child.below, lt)

  pub parents : (b : ℕ) → 0 < b → b < length k.shape.threads → (t : ℕ) × HasBranch k.shape t b
  parents b some lt =
      let within : b < length k.threads = omega (arith, lt, fine.bodies) in
      let child = fine.each_child b some within in (child.parent, child.is)

  -- there is one log of the jobs of thread 0
  pub one_log : (jobs : List Job) (log log' : ExchangeLog) → LogOf (KernelAlone k) k.shape jobs log → LogOf (KernelAlone k) k.shape jobs log' →
      (t : ℕ) → 0 < t → t < length k.shape.threads → log t ≡ log' t
  one_log jobs log log' a b t some lt = log_one Solo (kernel_engine k) (solo_steady k) k.shape below parents log log' jobs a b t some lt

-- ---- the same text, and the same words

abbrev AgreeFrom : ExchangeLog → ExchangeLog → ℕ → ℕ → Type 0
AgreeFrom log log' t n = (j : ℕ) → t ≤ j → j < t + n → log j ≡ log' j

same_lines : (log log' : ExchangeLog) (t n : ℕ) → AgreeFrom log log' t n → log_lines_from t n log ≡ log_lines_from t n log'
same_lines log log' t zero h = refl
same_lines log log' t (suc n) h =
    ap (λ ls. thread_log_lines t ls ++ log_lines_from (suc t) n log) (h t (omega arith) (omega arith))
    ∙ ap (λ ls. thread_log_lines t (log' t) ++ ls) (same_lines log log' (suc t) n (λ j le lt. h j (omega (arith, le)) (omega (arith, lt))))

same_words : (s : PlainShape) (log log' : ExchangeLog) (t n : ℕ) → AgreeFrom log log' t n → log_words_from s log t n ≡ log_words_from s log' t n
same_words s log log' t zero h = refl
same_words s log log' t (suc n) h =
    ap (λ (ls : List Logged). length ls * pair_words s t + log_words_from s log (suc t) n) (h t (omega arith) (omega arith))
    ∙ ap (λ w. length (log' t) * pair_words s t + w) (same_words s log log' (suc t) n (λ j le lt. h j (omega (arith, le)) (omega (arith, lt))))

one_told : (s : PlainShape) (log log' : ExchangeLog) (end : Status) (r q : Report) → log_text (length s.threads) log ≡ log_text (length s.threads) log' → log_words s log ≡ log_words s log' →
    IsLogReport s log end r → IsLogReport s log' end q → r ≡ q
one_told s log log' end r q lines words (Of_kept few e) (Of_kept also f) = e ∙ ap (λ (bytes : List ℕ). record { bytes = bytes; status = end }) lines ∙ sym f
one_told s log log' end r q lines words (Of_kept few e) (Of_full many f) = absurd (omega (arith, words, few, many))
one_told s log log' end r q lines words (Of_full many e) (Of_kept few f) = absurd (omega (arith, words, few, many))
one_told s log log' end r q lines words (Of_full many e) (Of_full also f) = e ∙ sym f

pub one_run_log : RunHasOneLog
one_run_log limit k fine budget bytes r q x y =
    let threads = length k.shape.threads in
    let jobs = tick_jobs k Fresh (trace_turns limit k budget bytes) in
    let same : AgreeFrom x.log y.log 1 (threads - 1) = λ j le lt. one_log k fine jobs x.log y.log x.is.log_of y.is.log_of j (omega (arith, le)) (omega (arith, lt, le)) in
    one_told k.shape x.log y.log (run_status limit k budget bytes) r q (same_lines x.log y.log 1 (threads - 1) same) (same_words k.shape x.log y.log 1 (threads - 1) same) x.tells y.tells

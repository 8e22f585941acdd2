-- What is told of a text before thread 0 is replayed.
use Rattle.std.proofs.Common.{◌≡◌, ◌<◌, ℕ, suc, Bool, List, [], Option, inl, length, refl, sym, ap, subst}
use Rattle.forec_kernel.specs.Engine.{Exchange, Output}
use Rattle.forec_kernel.specs.Shapes.{PlainShape, PlainKernel}
use Rattle.forec_kernel.specs.Solo.{KernelAlone}
use Rattle.forec_kernel.specs.WellFormed.{WellFormed}
use Rattle.thread_code.specs.Alone.{CodeAlone, Stands}
use Rattle.thread_code.specs.Plain.{PlainCode}
use Rattle.exchange_meaning.specs.Logged.{ExchangeLog}
use Rattle.exchange_meaning.specs.Replays.{AgreesUpTo, AgreesWholly, FailsAt}
use Rattle.exchange_meaning.proofs.Shaped.{same_as, tells_as}
use Rattle.log_text.specs.Fronts.{IsFirstBad, IsLogOf}
use Rattle.log_text.specs.ReadLogs.{IsReadFrom}
use Rattle.log_text.specs.declared.log.Log.{Log}
use Rattle.log_runs.specs.ReplayRuns.{FailsLast, FailsLastIn, IsReplay, Of_no_log, Of_thread, ReplaysRows, differing, no_log}
use Rattle.trace_ticks.specs.Prints.{PrintsReport}
use Rattle.trace_ticks.specs.Report.{Report}
use Rattle.trace_ticks.specs.declared.status.Status.{Status}
use Rattle.trace_ticks.specs.declared.status.Status.TheVariants as status
use Rattle.trace_ticks.proofs.Printing.{prints_as, prints_nothing}
use Rattle.log_runs.proofs.RootTicks.{to_code, to_kernel}

-- ---- from a code to its kernel

up_to_as : (run run' : ℕ → List Exchange → List Output → Type 0) (s : PlainShape) (log : ExchangeLog) (t m : ℕ) → ((xs : List Exchange) (os : List Output) → run t xs os → run' t xs os) →
    AgreesUpTo run s log t m → AgreesUpTo run' s log t m
up_to_as run run' s log t m go h = record { tells = tells_as run run' s log t go h.tells; jobs = h.jobs; replies = h.replies }

module _ (c : PlainCode) (k : PlainKernel) (fine : WellFormed k) (stands : Stands c k) where
  fails_here : (log : ExchangeLog) (t m : ℕ) → t < length c.shape.threads → FailsAt (CodeAlone c) c.shape log t m → FailsAt (KernelAlone k) c.shape log t m
  fails_here log t m lt f = record {
    within = f.within;
    before = up_to_as (CodeAlone c) (KernelAlone k) c.shape log t m (to_kernel c k fine stands t lt) f.before;
    job = λ less u. f.job less (up_to_as (KernelAlone k) (CodeAlone c) c.shape log t (suc m) (to_code c k fine stands t lt) u);
    left = λ w. f.left (same_as (KernelAlone k) (CodeAlone c) c.shape log t (to_code c k fine stands t lt) w);
  }

  -- the last thread that fails is the kernel's
  pub fails_last : (log : ExchangeLog) (t number : ℕ) → FailsLastIn c log t number → (m : ℕ) × (number ≡ suc m) × FailsLast k log t m
  fails_last log t number f =
      let within = subst (λ (s : PlainShape). t < length s.threads) stands.shape f.within in (
        f.fails.before,
        f.fails.number,
        record {
          some = f.some;
          within = within;
          later = λ u after lt.
              let here = subst (λ (s : PlainShape). u < length s.threads) (sym stands.shape) lt in
              subst (λ (s : PlainShape). AgreesWholly (KernelAlone k) s log u) stands.shape (same_as (CodeAlone c) (KernelAlone k) c.shape log u (to_kernel c k fine stands u here) (f.later u after here));
          fails = subst (λ (s : PlainShape). FailsAt (KernelAlone k) s log t f.fails.before) stands.shape (fails_here log t f.fails.before f.within f.fails.fails);
        },
      )

-- ---- the trace isn't read

module _ {S K : Type 0} (left : S → Option (List ℕ)) (faults : S → ℕ) (down : S → Bool) (held : K → Option (List ℕ)) (lost : K → ℕ) (is_down : K → Bool) (limit : ℕ) (k : PlainKernel) (budget : ℕ) (text : List ℕ)
    (old : S) (out out' : K) where
  abbrev Rows : Status → Type 0
  Rows end = ReplaysRows left faults down held lost is_down limit k budget text old old out out' end

  pub replay_unrun : held out' ≡ held out → Rows status.NoMemory
  replay_unrun kept = record { prints = prints_nothing held lost is_down _ _ _ _ _ out out' kept; trace = inl refl }

  -- a line is told whatever the trace has
  pub replay_said : (r : Report) (Misused : Type 0) (result : Status) → ((bytes : List ℕ) → IsReplay limit k budget text bytes r) → (Misused → ⊥) → PrintsReport held lost is_down r Misused out out' result → Rows result
  replay_said r Misused result is other p = record {
    prints = prints_as held lost is_down _ _ _ _ _ out out' _ _ _ _ _ result (λ t. tt) (λ t q e. (t.0, t.1, subst (IsReplay limit k budget text t.0) (sym e) (is t.0))) other (λ n. absurd n) (λ n. absurd n) p;
    trace = inl refl;
  }

  pub no_log_said : (s : PlainShape) (n : ℕ) (result : Status) → s ≡ k.shape → IsFirstBad s text n → PrintsReport held lost is_down (no_log n) (status.Refused ≡ status.Usage) out out' result → Rows result
  no_log_said s n result same bad p =
      replay_said (no_log n) (status.Refused ≡ status.Usage) result (λ bytes. Of_no_log n (subst (λ (x : PlainShape). IsFirstBad x text n) same bad) refl) (λ m. cc) p

  pub thread_said : (c : PlainCode) (t number : ℕ) (l : Log) (result : Status) → WellFormed k → Stands c k → (from : IsReadFrom c.shape text l) → FailsLastIn c from.log t number →
      PrintsReport held lost is_down (differing [] t number) (status.Refused ≡ status.Usage) out out' result → Rows result
  thread_said c t number l result fine stands from f p =
      let w = fails_last c k fine stands from.log t number f in
      let is = subst (λ (s : PlainShape). IsLogOf s from.log text) stands.shape (subst (IsLogOf c.shape from.log) from.same from.pairs.is) in
      replay_said (differing [] t number) (status.Refused ≡ status.Usage) result (λ bytes. Of_thread from.log t w.0 is w.2 (ap (λ n. differing [] t n) w.1)) (λ m. cc) p

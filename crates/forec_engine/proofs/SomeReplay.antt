-- Of a text and a run something is told: it can't be that nothing is.
use Rattle.std.proofs.Common.{ℕ, zero, suc, ◌-◌, ◌<◌, ◌≤◌, ◌≡◌, arith, List, [], ◌∷◌, ◌++◌, take, length, refl, sym, subst, ◌∙◌, ⊎_elim, append_assoc, append-nil}
use Rattle.std.proofs.lemmas.Bool.{cases_lt}
use Rattle.forec_kernel.specs.Composed.{TickInput}
use Rattle.forec_kernel.specs.Shapes.{PlainShape, PlainKernel}
use Rattle.forec_kernel.specs.Solo.{KernelAlone}
use Rattle.exchange_meaning.specs.Logged.{ExchangeLog}
use Rattle.exchange_meaning.specs.Replays.{AgreesUpTo, AgreesWholly, AllAgree, FailsAt, RunsTicks}
use Rattle.exchange_meaning.specs.Telling.{TellsBranches}
use Rattle.log_text.specs.Fronts.{BeginsLog, IsFirstBad, IsLogOf, lines_in}
use Rattle.log_text.specs.Stages.{AtHead}
use Rattle.log_text.proofs.FrontLemmas.{begins}
use Rattle.log_runs.specs.ReplayRuns.{AgreesText, FailsLast, IsReplay, Of_no_log, Of_thread, Of_tick, Of_left, Of_same}
use Rattle.trace_ticks.specs.Report.{Report, trace_turns}

-- ---- a text is a log, or has a first bad line

module _ (s : PlainShape) (bytes : List ℕ) (none : (log : ExchangeLog) → IsLogOf s log bytes → ⊥) (good : (n : ℕ) → IsFirstBad s bytes n → ⊥) where
  abbrev Begins : ℕ → Type 0
  Begins n = BeginsLog s (take n (lines_in bytes))

  -- the lines before number n + 1 are so many
  before_next : (n : ℕ) → Begins n → Begins (suc n - 1)
  before_next n h = subst Begins (let e : n ≡ suc n - 1 = omega arith in e) h

  begins_so_far : (n : ℕ) → n ≤ length (lines_in bytes) → (Begins n → ⊥) → ⊥
  begins_so_far zero le never = never (begins s [] (AtHead 1) refl)
  begins_so_far (suc n) le never =
      begins_so_far n (omega (arith, le)) (λ before. good (suc n) (record { some = omega arith; within = omega (arith, le); before = before_next _ before; bad = λ _ b. never b; none = none }))

  some_text : ⊥
  some_text =
      let n = length (lines_in bytes) in
      begins_so_far n (omega arith) (λ before. good (suc n) (record { some = omega arith; within = omega arith; before = before_next _ before; bad = λ le. absurd (omega (arith, le)); none = none }))

-- ---- a thread agrees with a log, or a job of it is the first that fails

module _ (k : PlainKernel) (log : ExchangeLog) where
  abbrev told_nothing : (t : ℕ) → TellsBranches (KernelAlone k) k.shape log t
  told_nothing t = record { exchanges = []; outputs = []; runs = tt; complete = tt; mine = tt; told = λ b is. record { rest = log b; is = refl } }

  module _ (t : ℕ) (never : AgreesWholly (KernelAlone k) k.shape log t → ⊥) (none : (m : ℕ) → FailsAt (KernelAlone k) k.shape log t m → ⊥) where
    agrees_so_far : (m : ℕ) → m ≤ length (log t) → (AgreesUpTo (KernelAlone k) k.shape log t m → ⊥) → ⊥
    agrees_so_far zero le lacks = lacks (record { tells = told_nothing t; jobs = refl; replies = tt })
    agrees_so_far (suc m) le lacks =
        agrees_so_far m (omega (arith, le)) (λ before. none m (record { within = omega (arith, le); before = before; job = λ _ h. lacks h; left = never }))

    some_thread : ⊥
    some_thread =
        let m = length (log t) in
        agrees_so_far m (omega arith) (λ before. none m (record { within = omega arith; before = before; job = λ lt. absurd (omega (arith, lt)); left = never }))

  module _ (never : AllAgree (KernelAlone k) k.shape log → ⊥) (none : (t m : ℕ) → FailsLast k log t m → ⊥) where
    later_agree : (n : ℕ) → n ≤ length k.shape.threads → ((u : ℕ) → n ≤ u → u < length k.shape.threads → AgreesWholly (KernelAlone k) k.shape log u) → ⊥
    later_agree zero le later = never (λ t some lt. later t (omega arith) lt)
    later_agree (suc zero) le later = never (λ t some lt. later t (omega (arith, some)) lt)
    later_agree (suc (suc n)) le later =
        some_thread (suc n) (λ agrees. later_agree (suc n) (omega (arith, le)) (λ u low lt. at u low lt agrees))
        (λ m fails. none (suc n) m (record { some = omega arith; within = omega (arith, le); later = λ u low lt. later u (omega (arith, low)) lt; fails = fails }))
      where
        at : (u : ℕ) → suc n ≤ u → u < length k.shape.threads → AgreesWholly (KernelAlone k) k.shape log (suc n) → AgreesWholly (KernelAlone k) k.shape log u
        at u low lt agrees =
            ⊎_elim (λ past. later u (omega (arith, past)) lt) (λ most. subst (AgreesWholly (KernelAlone k) k.shape log) (let e : suc n ≡ u = omega (arith, low, most) in e) agrees) (cases_lt (suc n) u)

    some_threads : ⊥
    some_threads = later_agree (length k.shape.threads) (omega arith) (λ u low lt. absurd (omega (arith, low, lt)))

-- ---- thread 0 runs the ticks, or one is the first that differs

module _ (limit : ℕ) (k : PlainKernel) (budget : ℕ) (text bytes : List ℕ) (never : (r : Report) → IsReplay limit k budget text bytes r → ⊥) where
  module _ (a : AgreesText k text) where
    abbrev Runs : List TickInput → Type 0
    Runs = RunsTicks (KernelAlone k) k.shape a.log

    ticks_whole : Runs (trace_turns limit k budget bytes) → ⊥
    ticks_whole root =
        never _ (Of_left a root (λ all. never _ (Of_same a.log a.is (record { each = a.each; root = root; used = all }) refl)) refl)

    ticks_from : (before later : List TickInput) → trace_turns limit k budget bytes ≡ before ++ later → Runs before → ⊥
    ticks_from before [] split runs = ticks_whole (subst Runs (sym (append-nil before) ∙ sym split) runs)
    ticks_from before (turn ∷ later) split runs =
        never _ (Of_tick a before later turn split runs (λ more. ticks_from (before ++ turn ∷ []) later (split ∙ sym (append_assoc before (turn ∷ []) later)) more) refl)

    some_ticks : ⊥
    some_ticks = ticks_from [] (trace_turns limit k budget bytes) refl (record { tells = told_nothing k a.log 0; ticks = tt })

  pub some_replay : ⊥
  some_replay =
      some_text k.shape text
      (λ log is. some_threads k log (λ each. some_ticks (record { log = log; is = is; each = each })) (λ t m fails. never _ (Of_thread log t m is fails refl)))
      (λ n bad. never _ (Of_no_log n bad refl))

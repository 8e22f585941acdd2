-- The ticks that thread 0 of a code replays are those of the kernel.
use Rattle.std.proofs.Common.{◌≡◌, ◌<◌, ℕ, ℤ, Some, List, [], ◌∷◌, ◌++◌, length, refl, sym, ap, subst, ◌∙◌}
use Rattle.forec_kernel.specs.Composed.{TickInput, MeansReply}
use Rattle.forec_kernel.specs.Engine.{Exchange, Output, Reply, WasPaused, WasEnded, WasTrapped, WasOver}
use Rattle.forec_kernel.specs.Shapes.{PlainShape, PlainKernel}
use Rattle.forec_kernel.specs.Solo.{KernelAlone}
use Rattle.forec_kernel.specs.Texts.{uses_in}
use Rattle.forec_kernel.specs.Ticks.{Tick, values_of}
use Rattle.forec_kernel.specs.WellFormed.{WellFormed}
use Rattle.forec_kernel.specs.declared.shape.Outcome.{Outcome}
use Rattle.thread_code.specs.Alone.{CodeAlone, Stands}
use Rattle.thread_code.specs.Plain.{PlainCode}
use Rattle.exchange_meaning.specs.Logged.{ExchangeLog}
use Rattle.exchange_meaning.specs.Replays.{AgreesWholly, AllAgree, RunsTicks}
use Rattle.exchange_meaning.proofs.Replayed.{replays_tell}
use Rattle.exchange_meaning.proofs.Shaped.{same_as, tells_as}
use Rattle.exchange_replay.specs.Rooted.{HasReplayed, HasTickedAs}
use Rattle.exchange_replay.specs.declared.replayer.Replayer.{Replayer}
use Rattle.log_text.specs.declared.log.Log.{Log}
use Rattle.tick_jobs.specs.Outcomes.{HasOutputs, ComesTo}
use Rattle.trace_ticks.specs.Ticking.{tick_after}
use Rattle.trace_ticks.proofs.Running.{OnceMore}
use Rattle.log_runs.specs.RootWalks.{IsHeldTo}

went_so : (k : PlainKernel) (s : PlainShape) → s ≡ k.shape → (t : Tick) (r : Reply) (o : Outcome) (values : List ℤ) → MeansReply k t r → ComesTo s r o values →
    (o ≡ t.outcome) × (HasOutputs o → values ≡ t.outputs)
went_so k s same t (WasPaused copies u) o values h c =
    (c.0 ∙ sym h.0, λ has. c.1 ∙ ap (λ (x : PlainShape). values_of (uses_in x.threads 0) copies x.outputs) same ∙ sym h.1)
went_so k s same t (WasEnded copies u) o values h c =
    (c.0 ∙ sym h.0, λ has. c.1 ∙ ap (λ (x : PlainShape). values_of (uses_in x.threads 0) copies x.outputs) same ∙ sym h.1)
went_so k s same t (WasTrapped place trap u) o values h c = (c ∙ sym h, λ has. absurd (subst HasOutputs c has))
went_so k s same t WasOver o values h c = (c ∙ sym h, λ has. absurd (subst HasOutputs c has))

-- a tick that was replayed went as the kernel's
pub ticked_so : (c : PlainCode) (l : Log) (k : PlainKernel) (log : ExchangeLog) → IsHeldTo c l k log → (after : Replayer) (turns : List TickInput) (turn : TickInput) (o : Outcome) (values : List ℤ) →
    HasTickedAs c l log after turns turn o values → (o ≡ (tick_after k turns turn).outcome) × (HasOutputs o → values ≡ (tick_after k turns turn).outputs)
ticked_so c l k log holds after turns turn o values t =
    went_so k c.shape holds.stands.shape (tick_after k turns turn) t.reply o values (replays_tell c k holds.valid holds.formed holds.stands log holds.each turns turn t.replayed.run t.reply t.last) t.comes

-- whatever the ticks before it were
pub once_replayed : (c : PlainCode) (l : Log) (k : PlainKernel) (log : ExchangeLog) → IsHeldTo c l k log → (before after : Replayer) (turn : TickInput) (o : Outcome) (values outputs : List ℤ) → outputs ≡ values →
    ((turns : List TickInput) → HasReplayed c l log before turns → HasTickedAs c l log after turns turn o values) → OnceMore k (HasReplayed c l log before) (HasReplayed c l log after) turn o outputs
once_replayed c l k log holds before after turn o values outputs same ticks =
    let so = λ (turns : List TickInput) (f : HasReplayed c l log before turns). ticked_so c l k log holds after turns turn o values (ticks turns f) in
    record { outcome = λ turns f. (so turns f).0; outputs = λ turns f has. same ∙ (so turns f).1 has; follows = λ turns f. (ticks turns f).replayed }

-- ---- from a code to its kernel, and back

module _ (c : PlainCode) (k : PlainKernel) (formed : WellFormed k) (stands : Stands c k) where
  count_is : length c.shape.threads ≡ length k.threads
  count_is = ap (λ (s : PlainShape). length s.threads) stands.shape ∙ sym formed.bodies

  pub to_kernel : (t : ℕ) → t < length c.shape.threads → (xs : List Exchange) (os : List Output) → CodeAlone c t xs os → KernelAlone k t xs os
  to_kernel t lt xs os h = (stands.each t (subst (λ n. t < n) count_is lt) xs os).1 h

  pub to_code : (t : ℕ) → t < length c.shape.threads → (xs : List Exchange) (os : List Output) → KernelAlone k t xs os → CodeAlone c t xs os
  to_code t lt xs os h = (stands.each t (subst (λ n. t < n) count_is lt) xs os).0 h

module _ (c : PlainCode) (l : Log) (k : PlainKernel) (log : ExchangeLog) (holds : IsHeldTo c l k log) where
  abbrev pub kernel_runs : (turns : List TickInput) → RunsTicks (CodeAlone c) c.shape log turns → RunsTicks (KernelAlone k) c.shape log turns
  kernel_runs turns h = record { tells = tells_as (CodeAlone c) (KernelAlone k) c.shape log 0 (to_kernel c k holds.formed holds.stands 0 holds.valid.shape.some) h.tells; ticks = h.ticks }

  pub runs_kernel : (turns : List TickInput) → RunsTicks (CodeAlone c) c.shape log turns → RunsTicks (KernelAlone k) k.shape log turns
  runs_kernel turns h = subst (λ (s : PlainShape). RunsTicks (KernelAlone k) s log turns) holds.stands.shape (kernel_runs turns h)

  pub runs_code : (turns : List TickInput) → RunsTicks (KernelAlone k) k.shape log turns → RunsTicks (CodeAlone c) c.shape log turns
  runs_code turns h =
      let g = subst (λ (s : PlainShape). RunsTicks (KernelAlone k) s log turns) (sym holds.stands.shape) h in
      record { tells = tells_as (KernelAlone k) (CodeAlone c) c.shape log 0 (to_code c k holds.formed holds.stands 0 holds.valid.shape.some) g.tells; ticks = g.ticks }

  pub each_kernel : AllAgree (KernelAlone k) k.shape log
  each_kernel = subst (λ (s : PlainShape). AllAgree (KernelAlone k) s log) holds.stands.shape (λ t some lt. same_as (CodeAlone c) (KernelAlone k) c.shape log t (to_kernel c k holds.formed holds.stands t lt) (holds.each t some lt))

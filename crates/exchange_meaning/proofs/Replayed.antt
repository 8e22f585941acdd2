-- The laws of logs.
use Rattle.std.proofs.Common.{ℕ, zero, suc, ◌+◌, ◌-◌, ◌<◌, ◌≤◌, ◌≡◌, arith, None, Some, List, [], ◌∷◌, ◌++◌, map, length, refl, sym, ap, subst, ◌∙◌}
use Rattle.forec_kernel.specs.Engine.{Job, Reply, Nothing, Exchange, Output, pair_all, Allowed, last_reply, Answers}
use Rattle.forec_kernel.specs.Shapes.{PlainShape, PlainKernel}
use Rattle.forec_kernel.specs.WellFormed.{WellFormed}
use Rattle.forec_kernel.specs.Ticks.{Fresh, tick}
use Rattle.forec_kernel.specs.Solo.{Solo, kernel_engine, KernelAlone}
use Rattle.forec_kernel.specs.Composed.{TickInput, tick_jobs, state_after}
use Rattle.forec_kernel.specs.Composed as composed
use Rattle.forec_kernel.proofs.SoloTotal.{solo_steady}
use Rattle.forec_kernel.proofs.Distinct.{branches_apart}
use Rattle.thread_code.specs.Plain.{PlainCode}
use Rattle.thread_code.specs.Valid.{IsValidCode}
use Rattle.thread_code.specs.Machine.{Machine}
use Rattle.thread_code.specs.Alone.{code_engine, CodeAlone, Stands}
use Rattle.thread_code.proofs.Steady.{code_steady}
use Rattle.exchange_meaning.specs.Logged.{ExchangeLog, HasBranch}
use Rattle.exchange_meaning.specs.Telling.{TellsBranches}
use Rattle.exchange_meaning.specs.LogOf.{LogOf, AllButLastPause, LogOfTicks}
use Rattle.exchange_meaning.specs.Replays.{RunsTicks, AllAgree, IsReplayed}
use Rattle.exchange_meaning.specs.LogLines.{log_lines_from, thread_log_lines}
use Rattle.exchange_meaning.specs.Laws.{ReplayedIsLogged, ReplaysTell, LogsAgree, LogIsOne, LogTextIsOne, AnswerIsOne}
use Rattle.exchange_meaning.proofs.Once.{answers_one}
use Rattle.exchange_meaning.proofs.Shaped.{below_of, parents_of, tells_as, same_as}
use Rattle.exchange_meaning.proofs.Sound.{tells_answered, log_of_same}
use Rattle.exchange_meaning.proofs.Complete.{alone_length, same_of_log, log_one}
use Rattle.exchange_meaning.proofs.TickLemmas.{first, tick_told, forward, back}

append_none : {A : Type 0} → (xs : List A) → xs ≡ xs ++ []
append_none [] = refl
append_none (x ∷ xs) = ap (λ l. x ∷ l) (append_none xs)

-- ---- from a code to its kernel, and back

abbrev Goes : (ℕ → List Exchange → List Output → Type 0) → (ℕ → List Exchange → List Output → Type 0) → PlainShape → Type 0
Goes run run' s = (t : ℕ) → t < length s.threads → (xs : List Exchange) (os : List Output) → run t xs os → run' t xs os

abbrev each_as : (run run' : ℕ → List Exchange → List Output → Type 0) (s : PlainShape) (log : ExchangeLog) → Goes run run' s → AllAgree run s log → AllAgree run' s log
each_as run run' s log go h t some lt = same_as run run' s log t (go t lt) (h t some lt)

abbrev root_as : (run run' : ℕ → List Exchange → List Output → Type 0) (s : PlainShape) (log : ExchangeLog) → 0 < length s.threads → Goes run run' s → (turns : List TickInput) → RunsTicks run s log turns → RunsTicks run' s log turns
root_as run run' s log some go turns h = record { tells = tells_as run run' s log 0 (go 0 some) h.tells; ticks = h.ticks }

abbrev replay_as : (run run' : ℕ → List Exchange → List Output → Type 0) (s : PlainShape) (log : ExchangeLog) → 0 < length s.threads → Goes run run' s → (turns : List TickInput) → IsReplayed run s turns log → IsReplayed run' s turns log
replay_as run run' s log some go turns h = record { each = each_as run run' s log go h.each; root = root_as run run' s log some go turns h.root; used = h.used }

-- ---- the kernel

module _ (k : PlainKernel) (fine : WellFormed k) (below : (t b : ℕ) → HasBranch k.shape t b → (t < b) × (b < length k.shape.threads)) where
  abbrev answered_root : (log : ExchangeLog) (each : AllAgree (KernelAlone k) k.shape log) (tells : TellsBranches (KernelAlone k) k.shape log 0) → Allowed (Answers (KernelAlone k) (length k.shape.threads)) [] (pair_all tells.exchanges tells.outputs)
  answered_root log each tells = tells_answered Solo (kernel_engine k) k.shape log below each 0 tells

  by_ticks : (log : ExchangeLog) (each : AllAgree (KernelAlone k) k.shape log) (turns : List TickInput) (root : RunsTicks (KernelAlone k) k.shape log turns) →
      (map (λ x. x.job) root.tells.exchanges ≡ tick_jobs k Fresh turns) × AllButLastPause k Fresh turns
  by_ticks log each turns root =
      forward k (branches_apart k fine) log root.tells below fine.bodies fine.some (answered_root log each root.tells) [] turns [] root.tells.exchanges [] root.tells.outputs None
      (record { exchanges = refl; outputs = refl; count = refl }) refl (first refl refl) root.ticks

  pub logged_of : (log : ExchangeLog) (turns : List TickInput) → IsReplayed (KernelAlone k) k.shape turns log → LogOfTicks k turns log
  logged_of log turns h =
      let f = by_ticks log h.each turns h.root in
      record { ticks = f.1; log_of = log_of_same Solo (kernel_engine k) k.shape log below h.each (tick_jobs k Fresh turns) h.root.tells f.0 h.used }

  pub replayed_of : (parents : (b : ℕ) → 0 < b → b < length k.shape.threads → (t : ℕ) × HasBranch k.shape t b) (log : ExchangeLog) (turns : List TickInput) → LogOfTicks k turns log → IsReplayed (KernelAlone k) k.shape turns log
  replayed_of parents log turns h =
      let R = h.log_of.root in
      let count = alone_length (kernel_engine k 0) R.tells.exchanges Nothing R.tells.outputs R.tells.runs in
      record {
        each = same_of_log Solo (kernel_engine k) (solo_steady k) k.shape below parents log (tick_jobs k Fresh turns) h.log_of;
        root = record {
          tells = R.tells;
          ticks =
              back k (branches_apart k fine) log R.tells below fine.bodies fine.some R.answered [] turns [] R.tells.exchanges [] R.tells.outputs None
              (record { exchanges = refl; outputs = refl; count = refl }) refl count (first refl refl) (R.jobs, h.ticks);
        };
        used = R.all;
      }

  told_by_root : (log : ExchangeLog) (before : List TickInput) (last : TickInput) (reply : Reply) (each : AllAgree (KernelAlone k) k.shape log) (root : RunsTicks (KernelAlone k) k.shape log (before ++ last ∷ [])) →
      last_reply root.tells.outputs ≡ Some reply → composed.MeansReply k (tick k last.budget (state_after k Fresh before) last.row) reply
  told_by_root log before last reply each root replied =
      let f = by_ticks log each (before ++ last ∷ []) root in
      let T = root.tells in
      (tick_told k (branches_apart k fine) log T below fine.bodies fine.some (answered_root log each T) before last T.exchanges [] T.outputs []
      (record { exchanges = append_none T.exchanges; outputs = append_none T.outputs; count = alone_length (kernel_engine k 0) T.exchanges Nothing T.outputs T.runs }) reply replied f.0).0

-- ---- the laws

module _ (c : PlainCode) (k : PlainKernel) (valid : IsValidCode c) (fine : WellFormed k) (stands : Stands c k) where
  count_is : length c.shape.threads ≡ length k.threads
  count_is = ap (λ (s : PlainShape). length s.threads) stands.shape ∙ sym fine.bodies

  some_is : 0 < length c.shape.threads
  some_is = valid.shape.some

  to_kernel : Goes (CodeAlone c) (KernelAlone k) c.shape
  to_kernel t lt xs os h = (stands.each t (subst (λ n. t < n) count_is lt) xs os).1 h

  to_code : Goes (KernelAlone k) (CodeAlone c) c.shape
  to_code t lt xs os h = (stands.each t (subst (λ n. t < n) count_is lt) xs os).0 h

  below_c : (t b : ℕ) → HasBranch c.shape t b → (t < b) × (b < length c.shape.threads)
  below_c = below_of c.shape valid.shape

  parents_c : (b : ℕ) → 0 < b → b < length c.shape.threads → (t : ℕ) × HasBranch c.shape t b
  parents_c = parents_of c.shape valid.shape

  below_k : (t b : ℕ) → HasBranch k.shape t b → (t < b) × (b < length k.shape.threads)
  below_k = subst (λ s. (t b : ℕ) → HasBranch s t b → (t < b) × (b < length s.threads)) stands.shape below_c

  parents_k : (b : ℕ) → 0 < b → b < length k.shape.threads → (t : ℕ) × HasBranch k.shape t b
  parents_k = subst (λ s. (b : ℕ) → 0 < b → b < length s.threads → (t : ℕ) × HasBranch s t b) stands.shape parents_c

  replayed_logged : (turns : List TickInput) (log : ExchangeLog) → IsReplayed (CodeAlone c) c.shape turns log → LogOfTicks k turns log
  replayed_logged turns log h =
      logged_of k fine below_k log turns (subst (λ s. IsReplayed (KernelAlone k) s turns log) stands.shape (replay_as (CodeAlone c) (KernelAlone k) c.shape log some_is to_kernel turns h))

  logged_replayed : (turns : List TickInput) (log : ExchangeLog) → LogOfTicks k turns log → IsReplayed (CodeAlone c) c.shape turns log
  logged_replayed turns log h =
      replay_as (KernelAlone k) (CodeAlone c) c.shape log some_is to_code turns
      (subst (λ s. IsReplayed (KernelAlone k) s turns log) (sym stands.shape) (replayed_of k fine below_k parents_k log turns h))

  root_tells : (log : ExchangeLog) (before : List TickInput) (last : TickInput) (reply : Reply) (each : AllAgree (CodeAlone c) c.shape log) (root : RunsTicks (CodeAlone c) c.shape log (before ++ last ∷ [])) →
      last_reply root.tells.outputs ≡ Some reply → composed.MeansReply k (tick k last.budget (state_after k Fresh before) last.row) reply
  root_tells log before last reply each root replied =
      subst (λ s. (each : AllAgree (KernelAlone k) s log) (root : RunsTicks (KernelAlone k) s log (before ++ last ∷ [])) → last_reply root.tells.outputs ≡ Some reply →
      composed.MeansReply k (tick k last.budget (state_after k Fresh before) last.row) reply) (sym stands.shape) (told_by_root k fine below_k log before last reply)
      (each_as (CodeAlone c) (KernelAlone k) c.shape log to_kernel each) (root_as (CodeAlone c) (KernelAlone k) c.shape log some_is to_kernel (before ++ last ∷ []) root) replied

  log_of_kernel : (jobs : List Job) (log : ExchangeLog) → LogOf (CodeAlone c) c.shape jobs log → LogOf (KernelAlone k) k.shape jobs log
  log_of_kernel jobs log L =
      subst (λ s. LogOf (KernelAlone k) s jobs log) stands.shape
      (log_of_same Solo (kernel_engine k) c.shape log below_c
      (each_as (CodeAlone c) (KernelAlone k) c.shape log to_kernel (same_of_log Machine (code_engine c) (code_steady c) c.shape below_c parents_c log jobs L)) jobs
      (tells_as (CodeAlone c) (KernelAlone k) c.shape log 0 (to_kernel 0 some_is) L.root.tells) L.root.jobs L.root.all)

  log_of_code : (jobs : List Job) (log : ExchangeLog) → LogOf (KernelAlone k) k.shape jobs log → LogOf (CodeAlone c) c.shape jobs log
  log_of_code jobs log h =
      let L = subst (λ s. LogOf (KernelAlone k) s jobs log) (sym stands.shape) h in
      log_of_same Machine (code_engine c) c.shape log below_c
      (each_as (KernelAlone k) (CodeAlone c) c.shape log to_code (same_of_log Solo (kernel_engine k) (solo_steady k) c.shape below_c parents_c log jobs L)) jobs
      (tells_as (KernelAlone k) (CodeAlone c) c.shape log 0 (to_code 0 some_is) L.root.tells) L.root.jobs L.root.all

pub replayed_is_logged : ReplayedIsLogged
replayed_is_logged c k valid fine stands turns log = (replayed_logged c k valid fine stands turns log, logged_replayed c k valid fine stands turns log)

pub replays_tell : ReplaysTell
replays_tell c k valid fine stands log each before last root reply replied = root_tells c k valid fine stands log before last reply each root replied

pub logs_agree : LogsAgree
logs_agree c k valid fine stands jobs log = (log_of_kernel c k valid fine stands jobs log, log_of_code c k valid fine stands jobs log)

pub one_log : LogIsOne
one_log c valid jobs log log' a b t some lt =
    log_one Machine (code_engine c) (code_steady c) c.shape (below_of c.shape valid.shape) (parents_of c.shape valid.shape) log log' jobs a b t some lt

same_lines : (log log' : ExchangeLog) (t n : ℕ) → ((j : ℕ) → t ≤ j → j < t + n → log j ≡ log' j) → log_lines_from t n log ≡ log_lines_from t n log'
same_lines log log' t zero h = refl
same_lines log log' t (suc n) h =
    ap (λ ls. thread_log_lines t ls ++ log_lines_from (suc t) n log) (h t (omega arith) (omega arith))
    ∙ ap (λ ls. thread_log_lines t (log' t) ++ ls) (same_lines log log' (suc t) n (λ j le lt. h j (omega (arith, le)) (omega (arith, lt))))

pub one_text : LogTextIsOne
one_text c k valid fine stands turns bytes bytes' a b =
    let L = log_of_code c k valid fine stands (tick_jobs k Fresh turns) a.log a.is.log_of in
    let M = log_of_code c k valid fine stands (tick_jobs k Fresh turns) b.log b.is.log_of in
    let n = ap (λ (s : PlainShape). length s.threads) stands.shape in
    a.text
    ∙ same_lines a.log b.log 1 (length k.shape.threads - 1) (λ j le lt. one_log c valid (tick_jobs k Fresh turns) a.log b.log L M j (omega (arith, le)) (omega (arith, lt, n, le)))
    ∙ sym b.text

pub one_answer : AnswerIsOne
one_answer c valid t jobs r r' h g = answers_one Machine (code_engine c) (code_steady c) (length c.threads - t) (length c.threads - t) t jobs r r' h g

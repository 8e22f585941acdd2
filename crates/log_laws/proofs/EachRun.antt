-- Each run of a well-formed kernel has a log.
use Rattle.std.proofs.Common.{ℕ, ◌<◌, ◌≤◌, ◌≡◌, ◌⊎◌, inl, inr, Some, List, [], ◌∷◌, ◌++◌, map, length, refl, sym, ap, subst, ◌∙◌, append_assoc, append-nil, arith}
use Rattle.forec_kernel.specs.declared.shape.VarCopy.{VarCopy}
use Rattle.forec_kernel.specs.declared.shape.Outcome.TheVariants as outcome
use Rattle.forec_kernel.specs.Composed.{TickInput, state_after, tick_jobs, tick_job}
use Rattle.forec_kernel.specs.Engine.{Job, Start, Wake, Reply, WasPaused, Exchange, Output, Nothing, last_reply, AllReply}
use Rattle.forec_kernel.specs.Shapes.{PlainKernel}
use Rattle.forec_kernel.specs.Solo.{Solo, kernel_engine, KernelAlone}
use Rattle.forec_kernel.specs.Ticks.{Fresh, tick}
use Rattle.forec_kernel.specs.WellFormed.{WellFormed}
use Rattle.forec_kernel.proofs.SoloTotal.{solo_total}
use Rattle.forec_kernel.proofs.Distinct.{branches_apart}
use Rattle.thread_code.specs.Plain.{PlainCode}
use Rattle.thread_code.specs.Valid.{IsValidCode}
use Rattle.thread_code.specs.Alone.{Stands}
use Rattle.code_gen.specs.Blocks.{kernel_code}
use Rattle.code_gen.proofs.Valid.{kernel_code_valid}
use Rattle.code_gen.proofs.Stands.{kernel_code_stands}
use Rattle.exchange_meaning.specs.Logged.{Logged, ExchangeLog, jobs_in, RepliesAre, HasBranch}
use Rattle.exchange_meaning.specs.Telling.{TellsBranches}
use Rattle.exchange_meaning.specs.Replays.{AllAgree}
use Rattle.exchange_meaning.specs.LogOf.{AllButLastPause, LogOfTicks}
use Rattle.exchange_meaning.proofs.Complete.{alone_length}
use Rattle.forec_kernel.proofs.KeptCopies.{jobs_then}
use Rattle.exchange_meaning.proofs.OneMore.{last_there, pause_at, paused_reply}
use Rattle.exchange_meaning.proofs.OwnBranches.{all_mine}
use Rattle.exchange_meaning.proofs.Shaped.{below_of}
use Rattle.exchange_meaning.proofs.Sound.{tells_answered, log_of_same}
use Rattle.exchange_meaning.proofs.TickLemmas.{Cut, tick_told}
use Rattle.log_laws.specs.Laws.{EachRunHasALog}
use Rattle.log_laws.proofs.EveryFork.{most_forks, each_fork_known}
use Rattle.log_laws.proofs.LogLists.{LoggedPaused, MayBegin, in_snoc}
use Rattle.log_laws.proofs.SomeLog.{OwnAlone, ApartAlone, KnownAlone, Rested, gives_below}

may_any : (ls : List Logged) (j : Job) → LoggedPaused ls → MayBegin ls j
may_any ls (Start args values a) h = tt
may_any ls (Wake values a) h = h

paused_last : (os : List Output) (ls : List Logged) (copies : List VarCopy) (u : ℕ) → RepliesAre os ls → last_reply os ≡ Some (WasPaused copies u) → LoggedPaused ls
paused_last [] [] copies u h e = cc
paused_last [] (l ∷ ls) copies u h e = absurd h
paused_last (o ∷ os) [] copies u h e = absurd h
paused_last (o ∷ []) (l ∷ []) copies u h e =
    let same : Some l.reply ≡ Some (WasPaused copies u) = sym h.0 ∙ e in
    let is : l.reply ≡ WasPaused copies u = cc in
    record { front = []; last = l; copies = copies; units = u; is = refl; paused = is }
paused_last (o ∷ []) (l ∷ m ∷ ls) copies u h e = absurd h.1
paused_last (o ∷ p ∷ os) (l ∷ ls) copies u h e =
    let r = paused_last (p ∷ os) ls copies u h.1 e in
    record { front = l ∷ r.front; last = r.last; copies = r.copies; units = r.units; is = ap (λ x. l ∷ x) r.is; paused = r.paused }

some_snoc : {A : Type 0} → (js : List Job) (j : Job) → [] ≡ js ++ j ∷ [] → A
some_snoc [] j e = cc
some_snoc (i ∷ js) j e = cc

snoc_of : (turns : List TickInput) → (turns ≡ []) ⊎ ((old : List TickInput) × (t : TickInput) × (turns ≡ old ++ t ∷ []))
snoc_of [] = inl refl
snoc_of (t ∷ turns) = by (snoc_of turns)
  where
    by : (turns ≡ []) ⊎ ((old : List TickInput) × (u : TickInput) × (turns ≡ old ++ u ∷ [])) → (t ∷ turns ≡ []) ⊎ ((old : List TickInput) × (u : TickInput) × (t ∷ turns ≡ old ++ u ∷ []))
    by (inl e) = inr ([], t, ap (λ l. t ∷ l) e)
    by (inr h) = inr (t ∷ h.0, h.1, ap (λ l. t ∷ l) h.2)

module _ (k : PlainKernel) (fine : WellFormed k) where
  abbrev code : PlainCode
  code = kernel_code k

  valid : IsValidCode code
  valid = kernel_code_valid k fine

  stands : Stands code k
  stands = kernel_code_stands k fine

  below : (t b : ℕ) → HasBranch k.shape t b → (t < b) × (b < length k.shape.threads)
  below = below_of k.shape valid.shape

  in_code : (t : ℕ) → t < length k.shape.threads → t < length code.threads
  in_code t lt = omega (arith, lt, valid.threads)

  in_kernel : (t : ℕ) → t < length k.shape.threads → t < length k.threads
  in_kernel t lt = omega (arith, lt, fine.bodies)

  own : OwnAlone Solo (kernel_engine k) k.shape below (solo_total k)
  own t lt xs os al = all_mine code t valid (in_code t lt) xs os ((stands.each t (in_kernel t lt) xs os).0 al)

  apart : ApartAlone Solo (kernel_engine k) k.shape below (solo_total k)
  apart t lt xs os al = branches_apart k fine t xs os al

  known : KnownAlone Solo (kernel_engine k) k.shape below (solo_total k) (most_forks code)
  known t lt xs os x o n al js ws is count = each_fork_known code valid t (in_code t lt) xs os x o n ((stands.each t (in_kernel t lt) _ _).0 al) js ws is count

  abbrev RestedSo : ExchangeLog → ℕ → Type 0
  RestedSo L t = Rested Solo (kernel_engine k) k.shape below (solo_total k) L t

  some : 0 < length k.shape.threads
  some = omega (arith, fine.some, fine.bodies)

  -- the ticks so far have this log
  record Ran (turns : List TickInput) : Type 0 where
    pub log : ExchangeLog
    pub rested : (t : ℕ) → 0 ≤ t → t < length k.shape.threads → RestedSo log t
    pub jobs : jobs_in (log 0) ≡ tick_jobs k Fresh turns

  ran_none : Ran []
  ran_none = record {
    log = λ t. [];
    rested = λ t le lt. record { exchanges = []; outputs = []; runs = tt; complete = tt; jobs = refl; replies = tt; used = λ b m. refl };
    jobs = refl;
  }

  module _ (turns : List TickInput) (r : Ran turns) where
    abbrev run_log : ExchangeLog
    run_log = r.log

    abbrev tells_at : (t : ℕ) → t < length k.shape.threads → RestedSo run_log t → TellsBranches (KernelAlone k) k.shape run_log t
    tells_at t lt h = record {
      exchanges = h.exchanges;
      outputs = h.outputs;
      runs = h.runs;
      complete = h.complete;
      mine = own t lt h.exchanges h.outputs h.runs;
      told = λ b m. record { rest = []; is = sym (h.used b m) ∙ sym (append-nil _) };
    }

    each : AllAgree (KernelAlone k) k.shape run_log
    each t more lt =
        let h = r.rested t (omega arith) lt in
        record { tells = tells_at t lt h; jobs = h.jobs; replies = h.replies; all = h.used }

    abbrev root : RestedSo run_log 0
    root = r.rested 0 (omega arith) some

    abbrev T : TellsBranches (KernelAlone k) k.shape run_log 0
    T = tells_at 0 some root

    logged : AllButLastPause k Fresh turns → LogOfTicks k turns run_log
    logged pauses = record { ticks = pauses; log_of = log_of_same Solo (kernel_engine k) k.shape run_log below each (tick_jobs k Fresh turns) T (root.jobs ∙ r.jobs) root.used }

    whole_cut : Cut k (branches_apart k fine) run_log T below fine.bodies fine.some (tells_answered Solo (kernel_engine k) k.shape run_log below each 0 T) T.exchanges [] T.outputs []
    whole_cut = record { exchanges = sym (append-nil T.exchanges); outputs = sym (append-nil T.outputs); count = alone_length (kernel_engine k 0) T.exchanges Nothing T.outputs T.runs }

    some_last : (old : List TickInput) (t : TickInput) → turns ≡ old ++ t ∷ [] → (q : Reply) × (last_reply T.outputs ≡ Some q)
    some_last old t e = by T.outputs T.exchanges T.complete (alone_length (kernel_engine k 0) T.exchanges Nothing T.outputs T.runs)
        (root.jobs ∙ r.jobs ∙ ap (tick_jobs k Fresh) e ∙ jobs_then k old t Fresh)
      where
        by : (os : List Output) (xs : List Exchange) → AllReply os → length os ≡ length xs → map (λ x. x.job) xs ≡ tick_jobs k Fresh old ++ tick_job k (state_after k Fresh old) t ∷ [] → (q : Reply) × (last_reply os ≡ Some q)
        by [] [] c n j = some_snoc _ _ j
        by [] (x ∷ xs) c n j = cc
        by (o ∷ os) xs c n j = last_there os o c

    paused_before : (old : List TickInput) (t : TickInput) → turns ≡ old ++ t ∷ [] → (tick k t.budget (state_after k Fresh old) t.row).outcome ≡ outcome.Paused → LoggedPaused (run_log 0)
    paused_before old t e paused =
        let q = some_last old t e in
        let told = (tick_told k (branches_apart k fine) run_log T below fine.bodies fine.some (tells_answered Solo (kernel_engine k) k.shape run_log below each 0 T) old t T.exchanges [] T.outputs [] whole_cut q.0 q.1 (root.jobs ∙ r.jobs ∙ ap (tick_jobs k Fresh) e)).0 in
        let p = paused_reply k (tick k t.budget (state_after k Fresh old) t.row) q.0 told paused in
        paused_last root.outputs (run_log 0) p.0 p.1 root.replies (q.1 ∙ ap Some p.2)

    may : (turn : TickInput) (more : List TickInput) → AllButLastPause k Fresh (turns ++ turn ∷ more) → MayBegin (run_log 0) (tick_job k (state_after k Fresh turns) turn)
    may turn more pauses = by (snoc_of turns)
      where
        by : (turns ≡ []) ⊎ ((old : List TickInput) × (t : TickInput) × (turns ≡ old ++ t ∷ [])) → MayBegin (run_log 0) (tick_job k (state_after k Fresh turns) turn)
        by (inl e) = subst (λ ts. MayBegin (run_log 0) (tick_job k (state_after k Fresh ts) turn)) (sym e) tt
        by (inr h) =
            may_any (run_log 0) _ (paused_before h.0 h.1 h.2 (pause_at k Fresh h.0 h.1 turn more (subst (λ ts. AllButLastPause k Fresh (ts ++ turn ∷ more)) h.2 pauses)))

    -- one tick more
    ran_more : (turn : TickInput) (more : List TickInput) → AllButLastPause k Fresh (turns ++ turn ∷ more) → Ran (turns ++ turn ∷ [])
    ran_more turn more pauses =
        let job = tick_job k (state_after k Fresh turns) turn in
        let g = gives_below Solo (kernel_engine k) k.shape below (solo_total k) own apart (most_forks code) known (length k.shape.threads) 0 (omega arith) some run_log r.rested job (may turn more pauses) in
        record { log = g.log; rested = g.rested; jobs = ap jobs_in g.at ∙ in_snoc (run_log 0) _ ∙ ap (λ l. l ++ job ∷ []) r.jobs ∙ sym (jobs_then k turns turn Fresh) }

  ran_all : (later before : List TickInput) → AllButLastPause k Fresh (before ++ later) → Ran before → Ran (before ++ later)
  ran_all [] before pauses r = subst Ran (sym (append-nil before)) r
  ran_all (turn ∷ later) before pauses r =
      let e = append_assoc before (turn ∷ []) later in
      subst Ran e (ran_all later (before ++ turn ∷ []) (subst (AllButLastPause k Fresh) (sym e) pauses) (ran_more before r turn later pauses))

  pub run_logged : (turns : List TickInput) → AllButLastPause k Fresh turns → (log : ExchangeLog) × LogOfTicks k turns log
  run_logged turns pauses = let r = ran_all turns [] pauses ran_none in (r.log, logged turns r pauses)

pub each_run_logged : EachRunHasALog
each_run_logged k fine turns pauses = run_logged k fine turns pauses

-- Whether thread 0 of a kernel replays a tick more can be found.
use Rattle.std.proofs.Common.{ℕ, zero, suc, ◌<◌, ◌≡◌, ◌⊎◌, inl, inr, Bool, true, false, cond, ℤ, Option, None, Some, List, [], ◌∷◌, ◌++◌, map, length, refl, sym, ap, subst, ◌∙◌, append_assoc, append-nil, arith}
use Rattle.forec_kernel.specs.declared.shape.VarCopy.{VarCopy}
use Rattle.forec_kernel.specs.declared.shape.Outcome.{Outcome}
use Rattle.forec_kernel.specs.declared.shape.Outcome.TheVariants as outcome
use Rattle.forec_kernel.specs.Composed.{TickInput, MeansReply, next_state, state_after, tick_jobs}
use Rattle.forec_kernel.specs.Engine.{Job, Start, Wake, Reply, WasPaused, WasEnded, WasTrapped, WasOver, Seed, View, AtFork, Exchange, Output, Nothing, Alone, Rest, Asleep, Begins, pair_all, last_reply, AllReply}
use Rattle.forec_kernel.specs.Shapes.{PlainShape, PlainKernel}
use Rattle.forec_kernel.specs.Solo.{Solo, At, TooLong, fork_of, seeds_for, view_at, solo_view, kernel_engine, KernelAlone, values_in}
use Rattle.forec_kernel.specs.Texts.{Status, Running, Paused, Ended, Gone, Trapped, RunningText, Done, Run, Then, Turning, Resting, Fork, Held, Watch, Last, Threads, no_threads, child, some_running, uses_in}
use Rattle.forec_kernel.specs.Ticks.{TickState, Fresh, Tick, tick, with_row, start_copies, unmarked}
use Rattle.forec_kernel.specs.WellFormed.{WellFormed}
use Rattle.forec_kernel.proofs.SoloTotal.{solo_steady, solo_total}
use Rattle.exchange_meaning.specs.Logged.{ExchangeLog, HasBranch, AreTold}
use Rattle.exchange_meaning.specs.Telling.{TellsBranches}
use Rattle.exchange_meaning.specs.Replays.{IsTick, AreTicks, RunsTicks}
use Rattle.exchange_meaning.specs.LogOf.{AllButLastPause}
use Rattle.exchange_meaning.specs.Replays.{AllAgree}
use Rattle.exchange_meaning.proofs.Complete.{alone_length}
use Rattle.forec_kernel.proofs.KeptCopies.{jobs_then}
use Rattle.exchange_meaning.proofs.OneMore.{last_there, left_by, paused_reply}
use Rattle.exchange_meaning.proofs.Sound.{tells_answered}
use Rattle.exchange_meaning.proofs.TickLemmas.{Cut, Follows, first, later, forward, job_is, tick_told}
use Rattle.forec_kernel.proofs.Distinct.{branches_apart}
use Rattle.log_runs.proofs.NextTick.{OneMore, NoMore, next_job}

-- ---- a fork has a branch that runs

none_there : (k : PlainKernel) (woke : Bool) (cs : Threads) → some_running cs ≡ true → seeds_for k woke cs ≡ [] → ⊥
none_there k woke no_threads h e = cc
none_there k woke (child t R w c Running rest) h e = cc
none_there k woke (child t R w c Paused rest) h e = none_there k woke rest h e
none_there k woke (child t R w c Ended rest) h e = none_there k woke rest h e
none_there k woke (child t R w c Gone rest) h e = none_there k woke rest h e
none_there k woke (child t R w c (Trapped place trap) rest) h e = none_there k woke rest h e

fork_runs : (R : RunningText) (cs : Threads) → fork_of R ≡ Some cs → some_running cs ≡ true
fork_runs Done cs e = cc
fork_runs (Run s) cs e = cc
fork_runs (Then R a) cs e = fork_runs R cs e
fork_runs (Turning loop) cs e = cc
fork_runs Resting cs e = cc
fork_runs (Fork ds) cs e = by (some_running ds) refl e
  where
    by : (b : Bool) → some_running ds ≡ b → cond b (Some ds) None ≡ Some cs → some_running cs ≡ true
    by true h f = let same : ds ≡ cs = cc in ap some_running (sym same) ∙ h
    by false h f = cc
fork_runs (Held ds) cs e = cc
fork_runs (Watch weak test R) cs e = fork_runs R cs e
fork_runs (Last R) cs e = fork_runs R cs e

abbrev NoEmpty : PlainKernel → Bool → View → Type 0
NoEmpty k woke v = v ≡ AtFork [] → ⊥

view_some : (k : PlainKernel) (woke : Bool) (copies : List VarCopy) (st : Status) (f : Option Threads) → ((cs : Threads) → f ≡ Some cs → some_running cs ≡ true) → view_at k woke copies st f ≡ AtFork [] → ⊥
view_some k woke copies Running None h e = cc
view_some k woke copies Running (Some cs) h e = none_there k woke cs (h cs refl) (seeds e)
  where
    seeds : AtFork (seeds_for k woke cs) ≡ AtFork [] → seeds_for k woke cs ≡ []
    seeds f = cc
view_some k woke copies Paused f h e = cc
view_some k woke copies Ended f h e = cc
view_some k woke copies Gone f h e = cc
view_some k woke copies (Trapped place trap) f h e = cc

never_empty : (k : PlainKernel) (s : Solo) → solo_view k s ≡ AtFork [] → ⊥
never_empty k (At th u w) e = view_some k w th.copies th.status (fork_of th.text) (fork_runs th.text) e
never_empty k (TooLong u) e = cc

-- ---- a tick more

abbrev last_or : Option Reply → List Output → Option Reply
last_or last [] = last
last_or last (o ∷ os) = last_or o.reply os

last_same : (o : Output) (os : List Output) → last_reply (o ∷ os) ≡ last_or o.reply os
last_same o [] = refl
last_same o (p ∷ os) = last_same p os

-- ticks and one more
ticks_snoc : (s : PlainShape) (turns : List TickInput) (turn : TickInput) (last : Option Reply) (xs : List Exchange) (os : List Output) (x : Exchange) (o : Output) → AreTicks s last turns xs os → IsTick s (last_or last os) turn x.job →
    AreTicks s last (turns ++ turn ∷ []) (xs ++ x ∷ []) (os ++ o ∷ [])
ticks_snoc s [] turn last [] [] x o h is = (is, tt)
ticks_snoc s [] turn last [] (p ∷ os) x o h is = absurd h
ticks_snoc s [] turn last (y ∷ xs) os x o h is = absurd h
ticks_snoc s (u ∷ turns) turn last [] os x o h is = absurd h
ticks_snoc s (u ∷ turns) turn last (y ∷ xs) [] x o h is = absurd h
ticks_snoc s (u ∷ turns) turn last (y ∷ xs) (p ∷ os) x o h is = (h.0, ticks_snoc s turns turn p.reply xs os x o h.1 is)

is_tick_one : (s : PlainShape) (last : Option Reply) (turn : TickInput) (i j : Job) → IsTick s last turn i → IsTick s last turn j → i ≡ j
is_tick_one s None turn i j h g = h ∙ sym g
is_tick_one s (Some (WasPaused copies u)) turn i j h g = h ∙ sym g
is_tick_one s (Some (WasEnded copies u)) turn i j h g = absurd h
is_tick_one s (Some (WasTrapped place trap u)) turn i j h g = absurd h
is_tick_one s (Some WasOver) turn i j h g = absurd h

snoc_of : (turns : List TickInput) → (turns ≡ []) ⊎ ((old : List TickInput) × (turn : TickInput) × (turns ≡ old ++ turn ∷ []))
snoc_of [] = inl refl
snoc_of (t ∷ turns) = inr (by (snoc_of turns))
  where
    by : (turns ≡ []) ⊎ ((old : List TickInput) × (turn : TickInput) × (turns ≡ old ++ turn ∷ [])) → (old : List TickInput) × (turn : TickInput) × (t ∷ turns ≡ old ++ turn ∷ [])
    by (inl e) = ([], t, ap (λ ts. t ∷ ts) e)
    by (inr h) = (t ∷ h.0, h.1, ap (λ ts. t ∷ ts) h.2)

none_done : (s : PlainShape) (last : Option Reply) (xs : List Exchange) (os : List Output) → AreTicks s last [] xs os → (xs ≡ []) × (os ≡ [])
none_done s last [] [] h = (refl, refl)
none_done s last [] (o ∷ os) h = absurd h
none_done s last (x ∷ xs) os h = absurd h

module _ (k : PlainKernel) (fine : WellFormed k) (below : (t b : ℕ) → HasBranch k.shape t b → (t < b) × (b < length k.shape.threads)) (log : ExchangeLog) (each : AllAgree (KernelAlone k) k.shape log) (own : (xs : List Exchange) (os : List Output) → KernelAlone k 0 xs os → AreTold k.shape 0 (pair_all xs os)) where
  abbrev Root : List TickInput → Type 0
  Root turns = RunsTicks (KernelAlone k) k.shape log turns

  -- the jobs of thread 0 are those of the ticks
  by_ticks : (turns : List TickInput) (root : Root turns) → map (λ x. x.job) root.tells.exchanges ≡ tick_jobs k Fresh turns
  by_ticks turns root =
      (forward k (branches_apart k fine) log root.tells below fine.bodies fine.some (tells_answered Solo (kernel_engine k) k.shape log below each 0 root.tells)
      [] turns [] root.tells.exchanges [] root.tells.outputs None (record { exchanges = refl; outputs = refl; count = refl }) refl (first refl refl) root.ticks).0

  module _ (turns : List TickInput) (turn : TickInput) (root : Root turns) where
    abbrev T : TellsBranches (KernelAlone k) k.shape log 0
    T = root.tells

    abbrev rest_now : Rest Solo
    rest_now = (left_by (kernel_engine k 0) T.exchanges Nothing T.outputs T.runs).rest

    whole_cut : Cut k (branches_apart k fine) log T below fine.bodies fine.some (tells_answered Solo (kernel_engine k) k.shape log below each 0 T) T.exchanges [] T.outputs []
    whole_cut = record { exchanges = sym (append-nil T.exchanges); outputs = sym (append-nil T.outputs); count = alone_length (kernel_engine k 0) T.exchanges Nothing T.outputs T.runs }

    abbrev Said : Option Reply → Type 0
    Said last = Follows k (branches_apart k fine) log T below fine.bodies fine.some (tells_answered Solo (kernel_engine k) k.shape log below each 0 T) turns T.outputs last

    -- the job of the tick, and the thread as it begins it
    record Begun : Type 0 where
      job : Job
      st : Solo
      begins : Begins (kernel_engine k 0) job rest_now st
      ticks : IsTick k.shape (last_or None T.outputs) turn job
      jobs : map (λ x. x.job) T.exchanges ++ job ∷ [] ≡ tick_jobs k Fresh (turns ++ turn ∷ [])

    jobs_so : (last : Option Reply) → Said last → (job : Job) → IsTick k.shape last turn job → map (λ x. x.job) T.exchanges ++ job ∷ [] ≡ tick_jobs k Fresh (turns ++ turn ∷ [])
    jobs_so last said job is =
        let jobs = by_ticks turns root in
        let one = (job_is k (branches_apart k fine) log T below fine.bodies fine.some (tells_answered Solo (kernel_engine k) k.shape log below each 0 T) turns turn T.exchanges [] T.outputs [] whole_cut last jobs said job).0 is in
        ap (λ js. js ++ job ∷ []) jobs ∙ ap (λ j. tick_jobs k Fresh turns ++ j ∷ []) one ∙ sym (jobs_then k turns turn Fresh)

    begun_first : turns ≡ [] → Begun
    begun_first e =
        let none = none_done k.shape None T.exchanges T.outputs (subst (λ ts. AreTicks k.shape None ts T.exchanges T.outputs) e root.ticks) in
        let values = values_in (with_row (uses_in k.shape.threads 0) k.shape.inputs turn.row (start_copies k.shape.variables)) in
        let start : Job = Start [] values turn.budget in
        let last : last_or None T.outputs ≡ None = ap (last_or None) none.1 in
        record {
          job = start;
          st = (kernel_engine k 0).start [] values;
          begins = refl;
          ticks = subst (λ q. IsTick k.shape q turn start) (sym last) refl;
          jobs = jobs_so None (first e refl) start refl;
        }

    begun_later : (old : List TickInput) (t : TickInput) → turns ≡ old ++ t ∷ [] → (tick k t.budget (state_after k Fresh old) t.row).outcome ≡ outcome.Paused → Begun
    begun_later old t e paused = by T.outputs refl
      where
        by : (os : List Output) → T.outputs ≡ os → Begun
        by [] none = absurd (empty old t T.exchanges (subst (λ ps. AreTicks k.shape None (old ++ t ∷ []) T.exchanges ps) none (subst (λ ts. AreTicks k.shape None ts T.exchanges T.outputs) e root.ticks)))
          where
            empty : (us : List TickInput) (u : TickInput) (xs : List Exchange) → AreTicks k.shape None (us ++ u ∷ []) xs [] → ⊥
            empty [] u [] h = absurd h
            empty [] u (x ∷ xs) h = absurd h
            empty (v ∷ us) u [] h = absurd h
            empty (v ∷ us) u (x ∷ xs) h = absurd h
        by (o ∷ os) are =
            let here = last_there os o (subst AllReply are T.complete) in
            let last : last_reply T.outputs ≡ Some here.0 = ap last_reply are ∙ here.1 in
            let jobs = by_ticks turns root ∙ ap (tick_jobs k Fresh) e in
            let told = (tick_told k (branches_apart k fine) log T below fine.bodies fine.some (tells_answered Solo (kernel_engine k) k.shape log below each 0 T) old t T.exchanges [] T.outputs [] whole_cut here.0 last jobs).0 in
            let p = paused_reply k (tick k t.budget (state_after k Fresh old) t.row) here.0 told paused in
            let is : last_reply T.outputs ≡ Some (WasPaused p.0 p.1) = last ∙ ap Some p.2 in
            let slept = (left_by (kernel_engine k 0) T.exchanges Nothing T.outputs T.runs).slept p.0 p.1 is in
            let values = values_in (with_row (uses_in k.shape.threads 0) k.shape.inputs turn.row (unmarked p.0)) in
            let wake : Job = Wake values turn.budget in
            let so : last_or None T.outputs ≡ Some (WasPaused p.0 p.1) = ap (last_or None) are ∙ sym (last_same o os) ∙ sym (ap last_reply are) ∙ is in
            record {
              job = wake;
              st = (kernel_engine k 0).wake values slept.0;
              begins = subst (λ q. Begins (kernel_engine k 0) wake q ((kernel_engine k 0).wake values slept.0)) (sym slept.1) refl;
              ticks = subst (λ q. IsTick k.shape q turn wake) (sym so) refl;
              jobs = jobs_so (Some (WasPaused p.0 p.1)) (later old t p.0 p.1 e is refl) wake refl;
            }

    -- a tick more is replayed, or none is
    pub next_tick : ((old : List TickInput) (t : TickInput) → turns ≡ old ++ t ∷ [] → (tick k t.budget (state_after k Fresh old) t.row).outcome ≡ outcome.Paused) → Root (turns ++ turn ∷ []) ⊎ (Root (turns ++ turn ∷ []) → ⊥)
    next_tick pauses = by_begun (by_turns (snoc_of turns))
      where
        by_turns : (turns ≡ []) ⊎ ((old : List TickInput) × (t : TickInput) × (turns ≡ old ++ t ∷ [])) → Begun
        by_turns (inl e) = begun_first e
        by_turns (inr h) = begun_later h.0 h.1 h.2 (pauses h.0 h.1 h.2)

        by_begun : Begun → Root (turns ++ turn ∷ []) ⊎ (Root (turns ++ turn ∷ []) → ⊥)
        by_begun b = by (next_job Solo (kernel_engine k) k.shape log below 0 (solo_steady k 0) (solo_total k 0) (never_empty k) own T b.job b.st b.begins)
          where
            by : OneMore Solo (kernel_engine k) k.shape log below 0 (solo_steady k 0) (solo_total k 0) (never_empty k) own T b.job ⊎ NoMore Solo (kernel_engine k) k.shape log below 0 (solo_steady k 0) (solo_total k 0) (never_empty k) own T b.job →
                Root (turns ++ turn ∷ []) ⊎ (Root (turns ++ turn ∷ []) → ⊥)
            by (inl m) = inl (record {
              tells = m.tells;
              ticks = subst (λ xs. AreTicks k.shape None (turns ++ turn ∷ []) xs m.tells.outputs) (sym m.exchanges)
                  (subst (λ os. AreTicks k.shape None (turns ++ turn ∷ []) (T.exchanges ++ m.x ∷ []) os) (sym m.outputs)
                  (ticks_snoc k.shape turns turn None T.exchanges T.outputs m.x m.o root.ticks (subst (IsTick k.shape (last_or None T.outputs) turn) (sym m.job_is) b.ticks)));
            })
            by (inr nay) = inr (λ more. nay more.tells (by_ticks (turns ++ turn ∷ []) more ∙ sym b.jobs))

-- Of a text and a run one thing is told.
use Rattle.std.proofs.Common.{ℕ, zero, suc, ◌<◌, ◌≤◌, ◌-◌, ◌^◌, ◌≡◌, ◌⊎◌, inl, inr, arith, List, [], ◌∷◌, ◌++◌, take, length, refl, sym, ap, subst, ◌∙◌, ⊎_elim, append_assoc, map, None}
use Rattle.std.proofs.lemmas.Bool.{cases_lt}
use Rattle.forec_kernel.specs.Composed.{TickInput, tick_jobs}
use Rattle.forec_kernel.specs.Engine.{Exchange, Output, Answered, pair_all}
use Rattle.forec_kernel.specs.Shapes.{PlainShape, PlainKernel}
use Rattle.forec_kernel.specs.Solo.{Solo, kernel_engine, KernelAlone}
use Rattle.forec_kernel.specs.Ticks.{Fresh}
use Rattle.forec_kernel.specs.WellFormed.{WellFormed}
use Rattle.forec_kernel.proofs.Distinct.{branches_apart}
use Rattle.forec_kernel.proofs.SoloTotal.{solo_steady}
use Rattle.exchange_meaning.specs.Logged.{Logged, ExchangeLog, HasBranch, RepliesAre, StartsWith, jobs_in, told_to}
use Rattle.exchange_meaning.specs.Replays.{AgreesUpTo, AgreesWholly, AllAgree, FailsAt, IsReplayed, RunsTicks}
use Rattle.exchange_meaning.specs.Telling.{TellsBranches, IsAll}
use Rattle.exchange_meaning.proofs.Differing.{tells_same}
use Rattle.exchange_meaning.proofs.Failing.{fails_once, ticks_first}
use Rattle.exchange_meaning.proofs.Sound.{tells_answered}
use Rattle.exchange_meaning.proofs.TickLemmas.{first, forward}
use Rattle.log_text.specs.Fronts.{AreLogLines, BeginsLog, IsFirstBad, IsLogOf, lines_in}
use Rattle.log_text.specs.Laws.{TextHasOneLog}
use Rattle.log_runs.specs.Laws.{RunHasOneReplay}
use Rattle.log_runs.specs.ReplayRuns.{FailsLast, IsReplay, Of_no_log, Of_thread, Of_tick, Of_left, Of_same, differing, no_log, ticks_told}
use Rattle.log_runs.proofs.KernelLogs.{below}
use Rattle.trace_ticks.specs.Report.{Report, trace_turns}

-- ---- the first bad line

abbrev Front : {A : Type 0} → (n m : ℕ) (ls : List A) → Type 0
Front {A} n m ls = (rest : List A) × (take m ls ≡ take n ls ++ rest)

take_front : {A : Type 0} → (n m : ℕ) (ls : List A) → n ≤ m → Front n m ls
take_front zero m ls le = (take m ls, refl)
take_front (suc n) zero ls le = absurd (omega (arith, le))
take_front (suc n) (suc m) [] le = ([], refl)
take_front (suc n) (suc m) (l ∷ ls) le = let ih = take_front n m ls (omega (arith, le)) in (ih.0, ap (λ x. l ∷ x) ih.1)

begins_before : (s : PlainShape) (n m : ℕ) (ls : List (List ℕ)) → n ≤ m → BeginsLog s (take m ls) → BeginsLog s (take n ls)
begins_before s n m ls le b =
    let f = take_front n m ls le in
    record {
      log = b.log;
      fits = b.fits;
      more = f.0 ++ b.more;
      are = subst (AreLogLines b.log 1 (length s.threads - 1)) (ap (λ x. x ++ b.more) f.1 ∙ append_assoc (take n ls) f.0 b.more) b.are;
    }

not_earlier : (s : PlainShape) (bytes : List ℕ) (n m : ℕ) → IsFirstBad s bytes n → IsFirstBad s bytes m → n < m → ⊥
not_earlier s bytes n m a b lt = let w = b.within in a.bad (omega (arith, lt, w)) (begins_before s n (m - 1) (lines_in bytes) (omega (arith, lt)) b.before)

bad_once : (s : PlainShape) (bytes : List ℕ) (n m : ℕ) → IsFirstBad s bytes n → IsFirstBad s bytes m → n ≡ m
bad_once s bytes n m a b =
    ⊎_elim (λ lt. absurd (not_earlier s bytes n m a b lt)) (λ le. ⊎_elim (λ lt. absurd (not_earlier s bytes m n b a lt)) (λ ge. omega (arith, le, ge)) (cases_lt m n)) (cases_lt n m)

-- ---- where two lists are taken apart

abbrev Beyond : {A : Type 0} → List A → A → List A → Type 0
Beyond {A} front x longer = (rest : List A) × (longer ≡ (front ++ x ∷ []) ++ rest)

abbrev Apart : {A : Type 0} → List A → A → List A → A → Type 0
Apart front x other y = (front ≡ other) ⊎ (Beyond front x other ⊎ Beyond other y front)

first_is : {A : Type 0} → (x y : A) (xs ys : List A) → x ∷ xs ≡ y ∷ ys → x ≡ y
first_is x y xs ys e = cc

rest_is : {A : Type 0} → (x y : A) (xs ys : List A) → x ∷ xs ≡ y ∷ ys → xs ≡ ys
rest_is x y xs ys e = cc

under : {A : Type 0} → (a b : A) (front other : List A) (x y : A) → a ≡ b → Apart front x other y → Apart (a ∷ front) x (b ∷ other) y
under a b front other x y e (inl h) = inl (ap (λ l. a ∷ l) h ∙ ap (λ v. v ∷ other) e)
under a b front other x y e (inr (inl h)) = inr (inl (h.0, ap (λ l. b ∷ l) h.1 ∙ ap (λ v. v ∷ ((front ++ x ∷ []) ++ h.0)) (sym e)))
under a b front other x y e (inr (inr h)) = inr (inr (h.0, ap (λ l. a ∷ l) h.1 ∙ ap (λ v. v ∷ ((other ++ y ∷ []) ++ h.0)) e))

apart : {A : Type 0} → (front other : List A) (x y : A) (later more : List A) → front ++ x ∷ later ≡ other ++ y ∷ more → Apart front x other y
apart [] [] x y later more e = inl refl
apart [] (b ∷ other) x y later more e = inr (inl (other, ap (λ v. v ∷ other) (sym (first_is x b later (other ++ y ∷ more) e))))
apart (a ∷ front) [] x y later more e = inr (inr (front, ap (λ v. v ∷ front) (first_is a y (front ++ x ∷ later) more e)))
apart (a ∷ front) (b ∷ other) x y later more e =
    under a b front other x y (first_is a b (front ++ x ∷ later) (other ++ y ∷ more) e) (apart front other x y later more (rest_is a b (front ++ x ∷ later) (other ++ y ∷ more) e))

-- ---- two logs that are the same for each thread but thread 0

module _ (k : PlainKernel) (fine : WellFormed k) where
  abbrev Same : ExchangeLog → ExchangeLog → Type 0
  Same log other = (t : ℕ) → 0 < t → t < length k.shape.threads → log t ≡ other t

  back : (log other : ExchangeLog) → Same log other → Same other log
  back log other h t some lt = sym (h t some lt)

  branch_same : (log other : ExchangeLog) → Same log other → (t b : ℕ) → HasBranch k.shape t b → log b ≡ other b
  branch_same log other h t b m = let w = below k fine t b m in let lt = w.0 in h b (omega (arith, lt)) w.1

  abbrev move_tells : (log other : ExchangeLog) → Same log other → (t : ℕ) → TellsBranches (KernelAlone k) k.shape log t → TellsBranches (KernelAlone k) k.shape other t
  move_tells log other h t T = record {
    exchanges = T.exchanges;
    outputs = T.outputs;
    runs = T.runs;
    complete = T.complete;
    mine = T.mine;
    told = λ b m. subst (λ (ls : List Logged). StartsWith ls (told_to b (pair_all T.exchanges T.outputs))) (branch_same log other h t b m) (T.told b m);
  }

  abbrev move_ticks : (log other : ExchangeLog) → Same log other → (turns : List TickInput) → RunsTicks (KernelAlone k) k.shape log turns → RunsTicks (KernelAlone k) k.shape other turns
  move_ticks log other h turns r = record { tells = move_tells log other h 0 r.tells; ticks = r.ticks }

  move_all : (log other : ExchangeLog) → Same log other → (t : ℕ) (pairs : List Answered) → IsAll k.shape log t pairs → IsAll k.shape other t pairs
  move_all log other h t pairs a b m = a b m ∙ branch_same log other h t b m

  module _ (log other : ExchangeLog) (h : Same log other) (t : ℕ) (some : 0 < t) (lt : t < length k.shape.threads) where
    move_wholly : AgreesWholly (KernelAlone k) k.shape log t → AgreesWholly (KernelAlone k) k.shape other t
    move_wholly a = record {
      tells = move_tells log other h t a.tells;
      jobs = a.jobs ∙ ap jobs_in (h t some lt);
      replies = subst (RepliesAre a.tells.outputs) (h t some lt) a.replies;
      all = move_all log other h t (pair_all a.tells.exchanges a.tells.outputs) a.all;
    }

    move_up_to : (m : ℕ) → AgreesUpTo (KernelAlone k) k.shape log t m → AgreesUpTo (KernelAlone k) k.shape other t m
    move_up_to m a = record {
      tells = move_tells log other h t a.tells;
      jobs = a.jobs ∙ ap (λ (ls : List Logged). jobs_in (take m ls)) (h t some lt);
      replies = subst (λ (ls : List Logged). RepliesAre a.tells.outputs (take m ls)) (h t some lt) a.replies;
    }

  move_fails : (log other : ExchangeLog) → Same log other → (t m : ℕ) → 0 < t → t < length k.shape.threads → FailsAt (KernelAlone k) k.shape log t m → FailsAt (KernelAlone k) k.shape other t m
  move_fails log other h t m some lt f = record {
    within = subst (λ (ls : List Logged). m ≤ length ls) (h t some lt) f.within;
    before = move_up_to log other h t some lt m f.before;
    job = λ less u. f.job (subst (λ (ls : List Logged). m < length ls) (sym (h t some lt)) less) (move_up_to other log (back log other h) t some lt (suc m) u);
    left = λ w. f.left (move_wholly other log (back log other h) t some lt w);
  }

  -- ---- what can't be both

  fails_not : (log other : ExchangeLog) → Same log other → (t m : ℕ) → FailsLast k log t m → AllAgree (KernelAlone k) k.shape other → ⊥
  fails_not log other h t m f each = f.fails.left (move_wholly other log (back log other h) t f.some f.within (each t f.some f.within))

  not_later : (log other : ExchangeLog) → Same log other → (t m u n : ℕ) → FailsLast k log t m → FailsLast k other u n → t < u → ⊥
  not_later log other h t m u n a b lt = b.fails.left (move_wholly log other h u b.some b.within (a.later u lt b.within))

  last_once : (log other : ExchangeLog) → Same log other → (t m u n : ℕ) → FailsLast k log t m → FailsLast k other u n → t ≡ u
  last_once log other h t m u n a b =
      ⊎_elim (λ lt. absurd (not_later log other h t m u n a b lt))
      (λ le. ⊎_elim (λ lt. absurd (not_later other log (back log other h) u n t m b a lt)) (λ ge. omega (arith, le, ge)) (cases_lt u t)) (cases_lt t u)

  job_once : (log other : ExchangeLog) → Same log other → (t m u n : ℕ) → FailsLast k log t m → FailsLast k other u n → t ≡ u → m ≡ n
  job_once log other h t m u n a b e =
      fails_once Solo (kernel_engine k) k.shape log t m n a.fails
      (subst (λ v. FailsAt (KernelAlone k) k.shape log v n) (sym e) (move_fails other log (back log other h) u n b.some b.within b.fails))

  tick_not : (log other : ExchangeLog) → Same log other → (before : List TickInput) (turn : TickInput) (whole : List TickInput) → (RunsTicks (KernelAlone k) k.shape log (before ++ turn ∷ []) → ⊥) →
      Beyond before turn whole → RunsTicks (KernelAlone k) k.shape other whole → ⊥
  tick_not log other h before turn whole differs more runs =
      differs (ticks_first Solo (kernel_engine k) k.shape log (before ++ turn ∷ []) more.0
      (subst (RunsTicks (KernelAlone k) k.shape log) more.1 (move_ticks other log (back log other h) whole runs)))

  -- the jobs of thread 0 are those of the ticks
  by_ticks : (log : ExchangeLog) → AllAgree (KernelAlone k) k.shape log → (turns : List TickInput) (root : RunsTicks (KernelAlone k) k.shape log turns) →
      map (λ x. x.job) root.tells.exchanges ≡ tick_jobs k Fresh turns
  by_ticks log each turns root =
      (forward k (branches_apart k fine) log root.tells (below k fine) fine.bodies fine.some (tells_answered Solo (kernel_engine k) k.shape log (below k fine) each 0 root.tells)
      [] turns [] root.tells.exchanges [] root.tells.outputs None (record { exchanges = refl; outputs = refl; count = refl }) refl (first refl refl) root.ticks).0

  -- of the same ticks the same jobs of branches are left
  left_not : (log other : ExchangeLog) → Same log other → (turns : List TickInput) → AllAgree (KernelAlone k) k.shape log → (root : RunsTicks (KernelAlone k) k.shape log turns) →
      (IsAll k.shape log 0 (pair_all root.tells.exchanges root.tells.outputs) → ⊥) → IsReplayed (KernelAlone k) k.shape turns other → ⊥
  left_not log other h turns each root unused x =
      let U = move_ticks other log (back log other h) turns x.root in
      let jobs = by_ticks log each turns root ∙ sym (by_ticks log each turns U) in
      let pairs = (tells_same Solo (kernel_engine k) k.shape log (below k fine) 0 (solo_steady k 0) root.tells U.tells jobs).pairs in
      unused (λ c m. ap (told_to c) pairs ∙ move_all other log (back log other h) 0 (pair_all U.tells.exchanges U.tells.outputs) x.used c m)

  -- ---- two reports

  module _ (limit budget : ℕ) (text bytes : List ℕ) (short : length text < 2 ^ 64) (unique : TextHasOneLog) where
    abbrev Is : Report → Type 0
    Is = IsReplay limit k budget text bytes

    one_log : (log other : ExchangeLog) → IsLogOf k.shape log text → IsLogOf k.shape other text → Same log other
    one_log log other a b = unique k.shape log other text short a b

    beyond_turns : (before later : List TickInput) (turn : TickInput) → trace_turns limit k budget bytes ≡ before ++ turn ∷ later → Beyond before turn (trace_turns limit k budget bytes)
    beyond_turns before later turn split = (later, split ∙ sym (append_assoc before (turn ∷ []) later))

    two_ticks : (log other : ExchangeLog) → Same log other → (before more : List TickInput) (turn next : TickInput) → Apart before turn more next →
        RunsTicks (KernelAlone k) k.shape log before → RunsTicks (KernelAlone k) k.shape other more → (RunsTicks (KernelAlone k) k.shape log (before ++ turn ∷ []) → ⊥) →
        (RunsTicks (KernelAlone k) k.shape other (more ++ next ∷ []) → ⊥) → before ≡ more
    two_ticks log other h before more turn next (inl e) runs ran differs fails = e
    two_ticks log other h before more turn next (inr (inl beyond)) runs ran differs fails = absurd (tick_not log other h before turn more differs beyond ran)
    two_ticks log other h before more turn next (inr (inr beyond)) runs ran differs fails = absurd (tick_not other log (back log other h) more next before fails beyond runs)

    pub one_told : (r q : Report) → Is r → Is q → r ≡ q
    one_told r q (Of_no_log n bad e) (Of_no_log m worse f) = e ∙ ap no_log (bad_once k.shape text n m bad worse) ∙ sym f
    one_told r q (Of_no_log n bad e) (Of_thread log t m is fails f) = absurd (bad.none log is)
    one_told r q (Of_no_log n bad e) (Of_tick a before later turn split runs differs f) = absurd (bad.none a.log a.is)
    one_told r q (Of_no_log n bad e) (Of_left a root unused f) = absurd (bad.none a.log a.is)
    one_told r q (Of_no_log n bad e) (Of_same log is replayed f) = absurd (bad.none log is)
    one_told r q (Of_thread log t m is fails e) (Of_no_log n bad f) = absurd (bad.none log is)
    one_told r q (Of_thread log t m is fails e) (Of_thread other u n has failing f) =
        let h = one_log log other is has in
        let threads = last_once log other h t m u n fails failing in
        e ∙ ap (λ v. differing [] v (suc m)) threads ∙ ap (λ v. differing [] u (suc v)) (job_once log other h t m u n fails failing threads) ∙ sym f
    one_told r q (Of_thread log t m is fails e) (Of_tick a before later turn split runs differs f) = absurd (fails_not log a.log (one_log log a.log is a.is) t m fails a.each)
    one_told r q (Of_thread log t m is fails e) (Of_left a root unused f) = absurd (fails_not log a.log (one_log log a.log is a.is) t m fails a.each)
    one_told r q (Of_thread log t m is fails e) (Of_same other has replayed f) = absurd (fails_not log other (one_log log other is has) t m fails replayed.each)
    one_told r q (Of_tick a before later turn split runs differs e) (Of_no_log n bad f) = absurd (bad.none a.log a.is)
    one_told r q (Of_tick a before later turn split runs differs e) (Of_thread log t m is fails f) = absurd (fails_not log a.log (one_log log a.log is a.is) t m fails a.each)
    one_told r q (Of_tick a before later turn split runs differs e) (Of_tick b more rest next cut ran fails f) =
        let same = two_ticks a.log b.log (one_log a.log b.log a.is b.is) before more turn next (apart before more turn next later rest (sym split ∙ cut)) runs ran differs fails in
        e ∙ ap (λ (ts : List TickInput). differing (ticks_told k budget ts) 0 (suc (length ts))) same ∙ sym f
    one_told r q (Of_tick a before later turn split runs differs e) (Of_left b root unused f) =
        absurd (tick_not a.log b.log (one_log a.log b.log a.is b.is) before turn (trace_turns limit k budget bytes) differs (beyond_turns before later turn split) root)
    one_told r q (Of_tick a before later turn split runs differs e) (Of_same log is replayed f) =
        absurd (tick_not a.log log (one_log a.log log a.is is) before turn (trace_turns limit k budget bytes) differs (beyond_turns before later turn split) replayed.root)
    one_told r q (Of_left a root unused e) (Of_no_log n bad f) = absurd (bad.none a.log a.is)
    one_told r q (Of_left a root unused e) (Of_thread log t m is fails f) = absurd (fails_not log a.log (one_log log a.log is a.is) t m fails a.each)
    one_told r q (Of_left a root unused e) (Of_tick b before later turn split runs differs f) =
        absurd (tick_not b.log a.log (one_log b.log a.log b.is a.is) before turn (trace_turns limit k budget bytes) differs (beyond_turns before later turn split) root)
    one_told r q (Of_left a root unused e) (Of_left b other some f) = e ∙ sym f
    one_told r q (Of_left a root unused e) (Of_same log is replayed f) = absurd (left_not a.log log (one_log a.log log a.is is) (trace_turns limit k budget bytes) a.each root unused replayed)
    one_told r q (Of_same log is replayed e) (Of_no_log n bad f) = absurd (bad.none log is)
    one_told r q (Of_same log is replayed e) (Of_thread other t m has fails f) = absurd (fails_not other log (one_log other log has is) t m fails replayed.each)
    one_told r q (Of_same log is replayed e) (Of_tick a before later turn split runs differs f) =
        absurd (tick_not a.log log (one_log a.log log a.is is) before turn (trace_turns limit k budget bytes) differs (beyond_turns before later turn split) replayed.root)
    one_told r q (Of_same log is replayed e) (Of_left a root unused f) = absurd (left_not a.log log (one_log a.log log a.is is) (trace_turns limit k budget bytes) a.each root unused replayed)
    one_told r q (Of_same log is replayed e) (Of_same other has again f) = e ∙ sym f

pub one_replay : TextHasOneLog → RunHasOneReplay
one_replay unique limit k fine budget text bytes short r q x y = one_told k fine limit budget text bytes short unique r q x y

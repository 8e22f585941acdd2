-- The jobs that thread 0 gets, where each goes by its own last reply, are those of the kernel's ticks.
use Rattle.std.proofs.Common.{ℕ, suc, ◌<◌, ◌≡◌, Option, None, Some, List, [], ◌∷◌, ◌++◌, map, length, refl, sym, ap, subst, ◌∙◌, append_assoc}
use Rattle.forec_kernel.specs.declared.shape.VarCopy.{VarCopy}
use Rattle.forec_kernel.specs.declared.shape.Outcome.TheVariants as outcome
use Rattle.forec_kernel.specs.Engine.{Job, Wake, Reply, WasPaused, WasEnded, WasTrapped, WasOver, Engine, Rest, Nothing, Exchange, Output, Alone, Answered, pair_forks, pair_all, Allowed, AllReply, last_reply, Answers}
use Rattle.forec_kernel.specs.Shapes.{PlainKernel}
use Rattle.forec_kernel.specs.Texts.{uses_in}
use Rattle.forec_kernel.specs.Ticks.{TickState, Fresh, After_tick, Tick, tick, with_row, unmarked}
use Rattle.forec_kernel.specs.Solo.{values_in, kernel_engine, KernelAlone}
use Rattle.forec_kernel.specs.Composed.{TickInput, tick_job, tick_jobs, next_state, state_after}
use Rattle.forec_kernel.specs.Composed as composed
use Rattle.forec_kernel.proofs.Apart.{BranchesApart}
use Rattle.forec_kernel.proofs.Serving.{allowed_first}
use Rattle.forec_kernel.proofs.Agree.{answers_join}
use Rattle.forec_kernel.proofs.TickByTick.{each_tick}
use Rattle.exchange_meaning.specs.Logged.{ExchangeLog, HasBranch, AreTold}
use Rattle.exchange_meaning.specs.Telling.{TellsBranches}
use Rattle.exchange_meaning.specs.LogOf.{AllButLastPause}
use Rattle.exchange_meaning.specs.Replays.{IsTick, AreTicks}
use Rattle.forec_kernel.proofs.KeptCopies.{HasCopies, KeptBy, copies_kept, jobs_then, state_then}

-- ---- the first exchanges

alone_first : {S : Type 0} → (e : Engine S) (xs ys : List Exchange) (os ps : List Output) (r : Rest S) → length os ≡ length xs → Alone e (xs ++ ys) r (os ++ ps) → Alone e xs r os
alone_first e [] ys [] ps r c h = tt
alone_first e [] ys (o ∷ os) ps r c h = cc
alone_first e (x ∷ xs) ys [] ps r c h = cc
alone_first e (x ∷ xs) ys (o ∷ os) ps r c h = let c' : length os ≡ length xs = cc in (h.0, h.1, h.2, h.3, alone_first e xs ys os ps h.1 c' h.4)

pairs_first : (xs ys : List Exchange) (os ps : List Output) → length os ≡ length xs → pair_all (xs ++ ys) (os ++ ps) ≡ pair_all xs os ++ pair_all ys ps
pairs_first [] ys [] ps c = refl
pairs_first [] ys (o ∷ os) ps c = cc
pairs_first (x ∷ xs) ys [] ps c = cc
pairs_first (x ∷ xs) ys (o ∷ os) ps c =
    let c' : length os ≡ length xs = cc in
    ap (λ l. pair_forks o.jobs x.replies ++ l) (pairs_first xs ys os ps c') ∙ sym (append_assoc (pair_forks o.jobs x.replies) (pair_all xs os) (pair_all ys ps))

replies_first : (os ps : List Output) → AllReply (os ++ ps) → AllReply os
replies_first [] ps h = tt
replies_first (o ∷ os) ps h = (h.0, replies_first os ps h.1)

reply_here : (os ps : List Output) (o : Output) → AllReply (os ++ o ∷ ps) → (r : Reply) × (o.reply ≡ Some r)
reply_here [] ps o h = h.0
reply_here (q ∷ os) ps o h = reply_here os ps o h.1

last_snoc : (os : List Output) (o : Output) → last_reply (os ++ o ∷ []) ≡ o.reply
last_snoc [] o = refl
last_snoc (p ∷ []) o = refl
last_snoc (p ∷ q ∷ os) o = last_snoc (q ∷ os) o

jobs_snoc : (xs : List Exchange) (x : Exchange) → map (λ y. y.job) (xs ++ x ∷ []) ≡ map (λ y. y.job) xs ++ x.job ∷ []
jobs_snoc [] x = refl
jobs_snoc (y ∷ xs) x = ap (λ l. y.job ∷ l) (jobs_snoc xs x)

count_snoc : (os : List Output) (xs : List Exchange) (o : Output) (x : Exchange) → length os ≡ length xs → length (os ++ o ∷ []) ≡ length (xs ++ x ∷ [])
count_snoc [] [] o x c = refl
count_snoc [] (y ∷ xs) o x c = cc
count_snoc (p ∷ os) [] o x c = cc
count_snoc (p ∷ os) (y ∷ xs) o x c = let c' : length os ≡ length xs = cc in ap suc (count_snoc os xs o x c')

told_first : (k : PlainKernel) (t : ℕ) (xs ys : List Answered) → AreTold k.shape t (xs ++ ys) → AreTold k.shape t xs
told_first k t [] ys h = tt
told_first k t (x ∷ xs) ys h = (h.0, told_first k t xs ys h.1)

module _ (k : PlainKernel) (apart : BranchesApart k) (log : ExchangeLog) (tells : TellsBranches (KernelAlone k) k.shape log 0) (below : (t b : ℕ) → HasBranch k.shape t b → (t < b) × (b < length k.shape.threads))
    (threads : length k.threads ≡ length k.shape.threads) (some : 0 < length k.threads) (answered : Allowed (Answers (KernelAlone k) (length k.shape.threads)) [] (pair_all tells.exchanges tells.outputs)) where
  -- the exchanges up to a tick, and those from there on
  pub record Cut (xs ys : List Exchange) (os ps : List Output) : Type 0 where
    pub exchanges : tells.exchanges ≡ xs ++ ys
    pub outputs : tells.outputs ≡ os ++ ps
    pub count : length os ≡ length xs

  cut_next : (xs ys : List Exchange) (os ps : List Output) (x : Exchange) (o : Output) → Cut xs (x ∷ ys) os (o ∷ ps) → Cut (xs ++ x ∷ []) ys (os ++ o ∷ []) ps
  cut_next xs ys os ps x o c =
      record {
        exchanges = c.exchanges ∙ sym (append_assoc xs (x ∷ []) ys);
        outputs = c.outputs ∙ sym (append_assoc os (o ∷ []) ps);
        count = count_snoc os xs o x c.count;
      }

  abbrev Sub : ℕ → List Job → Reply → Type 0
  Sub = Answers (KernelAlone k) (length k.shape.threads)

  above : (past xs : List Answered) → AreTold k.shape 0 xs → Allowed Sub past xs → Allowed (λ b js r. (0 < b) × Sub b js r) past xs
  above past [] m h = tt
  above past (x ∷ xs) m h = (((below 0 x.branch m.0).0, h.0), above (past ++ x ∷ []) xs m.1 h.1)

  -- the reply to a tick is an answer
  pub answer_at : (xs ys : List Exchange) (os ps : List Output) → Cut xs ys os ps → (r : Reply) → last_reply os ≡ Some r → Answers (KernelAlone k) (length k.threads) 0 (map (λ x. x.job) xs) r
  answer_at xs ys os ps c r last =
      let pairs : pair_all tells.exchanges tells.outputs ≡ pair_all xs os ++ pair_all ys ps = ap (λ l. pair_all l tells.outputs) c.exchanges ∙ ap (pair_all (xs ++ ys)) c.outputs ∙ pairs_first xs ys os ps c.count in
      let runs = subst (λ l. Alone (kernel_engine k 0) l Nothing (os ++ ps)) c.exchanges (subst (Alone (kernel_engine k 0) tells.exchanges Nothing) c.outputs tells.runs) in
      let allowed = allowed_first Sub [] (pair_all xs os) (pair_all ys ps) (subst (Allowed Sub []) pairs answered) in
      let mine = told_first k 0 (pair_all xs os) (pair_all ys ps) (subst (AreTold k.shape 0) pairs tells.mine) in
      subst (λ n. Answers (KernelAlone k) n 0 (map (λ x. x.job) xs) r) (sym threads)
      (answers_join (KernelAlone k) (length k.shape.threads) 0 (map (λ x. x.job) xs) r (subst (λ n. 0 < n) threads some)
      (record {
        exchanges = xs;
        outputs = os;
        runs = alone_first (kernel_engine k 0) xs ys os ps Nothing c.count runs;
        jobs_are = refl;
        complete = replies_first os ps (subst AllReply c.outputs tells.complete);
        allowed = above [] (pair_all xs os) mine allowed;
        gives = last;
      }))

  -- the last reply before a further tick
  pub data Follows (before : List TickInput) (os : List Output) (last : Option Reply) : Type 0 where
    first : before ≡ [] → last ≡ None → Follows before os last
    later : (old : List TickInput) (turn : TickInput) (copies : List VarCopy) (u : ℕ) → before ≡ old ++ turn ∷ [] → last_reply os ≡ Some (WasPaused copies u) → last ≡ Some (WasPaused copies u) →
        Follows before os last

  -- the reply to the last tick so far
  pub tick_told : (old : List TickInput) (turn : TickInput) (xs ys : List Exchange) (os ps : List Output) → Cut xs ys os ps → (r : Reply) → last_reply os ≡ Some r →
      map (λ x. x.job) xs ≡ tick_jobs k Fresh (old ++ turn ∷ []) → composed.MeansReply k (tick k turn.budget (state_after k Fresh old) turn.row) r × KeptBy (next_state k (state_after k Fresh old) turn) r
  tick_told old turn xs ys os ps c r last jobs =
      let a = subst (λ js. Answers (KernelAlone k) (length k.threads) 0 js r) jobs (answer_at xs ys os ps c r last) in (each_tick k apart old turn r a, copies_kept k apart old turn r a)

  -- the job of a tick, either way
  wake_is : (state : TickState) (turn : TickInput) (copies : List VarCopy) → HasCopies state copies →
      tick_job k state turn ≡ Wake (values_in (with_row (uses_in k.shape.threads 0) k.shape.inputs turn.row (unmarked copies))) turn.budget
  wake_is Fresh turn copies h = absurd h
  wake_is (After_tick T) turn copies h = ap (λ cs. Wake (values_in (with_row (uses_in k.shape.threads 0) k.shape.inputs turn.row (unmarked cs))) turn.budget) h

  abbrev Wanted : List TickInput → TickInput → Option Reply → Job → Type 0
  Wanted before turn last job = (IsTick k.shape last turn job → job ≡ tick_job k (state_after k Fresh before) turn) × (job ≡ tick_job k (state_after k Fresh before) turn → IsTick k.shape last turn job)

  pub job_is : (before : List TickInput) (turn : TickInput) (xs ys : List Exchange) (os ps : List Output) → Cut xs ys os ps → (last : Option Reply) → map (λ x. x.job) xs ≡ tick_jobs k Fresh before →
      Follows before os last → (job : Job) → Wanted before turn last job
  job_is before turn xs ys os ps c last jobs (first e f) job = subst (λ b. Wanted b turn last job) (sym e) (subst (λ l. Wanted [] turn l job) (sym f) (λ h. h, λ h. h))
  job_is before turn xs ys os ps c last jobs (later old t copies u e g f) job =
      let told = tick_told old t xs ys os ps c (WasPaused copies u) g (jobs ∙ ap (tick_jobs k Fresh) e) in
      let state : state_after k Fresh before ≡ next_state k (state_after k Fresh old) t = ap (state_after k Fresh) e ∙ state_then k old t Fresh in
      let is : tick_job k (state_after k Fresh before) turn ≡ Wake (values_in (with_row (uses_in k.shape.threads 0) k.shape.inputs turn.row (unmarked copies))) turn.budget =
      ap (λ st. tick_job k st turn) state ∙ wake_is (next_state k (state_after k Fresh old) t) turn copies told.1 in
      subst (λ l. Wanted before turn l job) (sym f) (λ h. h ∙ sym is, λ h. h ∙ is)

  -- ---- ticks by thread 0's own replies

  abbrev Forward : List TickInput → List TickInput → List Exchange → Type 0
  Forward before turns xs = (map (λ x. x.job) xs ≡ tick_jobs k (state_after k Fresh before) turns) × AllButLastPause k (state_after k Fresh before) turns

  next_jobs : (before : List TickInput) (turn : TickInput) (xs : List Exchange) (x : Exchange) → map (λ x. x.job) xs ≡ tick_jobs k Fresh before → x.job ≡ tick_job k (state_after k Fresh before) turn →
      map (λ x. x.job) (xs ++ x ∷ []) ≡ tick_jobs k Fresh (before ++ turn ∷ [])
  next_jobs before turn xs x jobs job =
      jobs_snoc xs x ∙ ap (λ js. js ++ x.job ∷ []) jobs ∙ ap (λ j. tick_jobs k Fresh before ++ j ∷ []) job ∙ sym (jobs_then k before turn Fresh)

  -- a reply after which a further tick comes
  pub record PausedNext (o : Output) (os : List Output) : Type 0 where
    pub copies : List VarCopy
    pub u : ℕ
    pub is : o.reply ≡ Some (WasPaused copies u)

  paused_next : (o : Output) (os : List Output) (r : Reply) (turn : TickInput) (job : Job) → o.reply ≡ Some r → IsTick k.shape o.reply turn job → PausedNext o os
  paused_next o os (WasPaused copies u) turn job e h = record { copies = copies; u = u; is = e }
  paused_next o os (WasEnded copies u) turn job e h = absurd (subst (λ q. IsTick k.shape q turn job) e h)
  paused_next o os (WasTrapped place trap u) turn job e h = absurd (subst (λ q. IsTick k.shape q turn job) e h)
  paused_next o os WasOver turn job e h = absurd (subst (λ q. IsTick k.shape q turn job) e h)

  pub forward : (before turns : List TickInput) (xs ys : List Exchange) (os ps : List Output) (last : Option Reply) → Cut xs ys os ps → map (λ x. x.job) xs ≡ tick_jobs k Fresh before →
      Follows before os last → AreTicks k.shape last turns ys ps → Forward before turns ys
  forward before [] xs [] os [] last c jobs f h = (refl, tt)
  forward before [] xs (y ∷ ys) os ps last c jobs f h = absurd h
  forward before [] xs [] os (p ∷ ps) last c jobs f h = absurd h
  forward before (turn ∷ turns) xs [] os ps last c jobs f h = absurd h
  forward before (turn ∷ turns) xs (y ∷ ys) os [] last c jobs f h = absurd h
  forward before (turn ∷ []) xs (y ∷ []) os (p ∷ []) last c jobs f h = (ap (λ j. j ∷ []) ((job_is before turn xs (y ∷ []) os (p ∷ []) c last jobs f y.job).0 h.0), tt)
  forward before (turn ∷ []) xs (y ∷ z ∷ ys) os (p ∷ ps) last c jobs f h = absurd h.1
  forward before (turn ∷ []) xs (y ∷ []) os (p ∷ q ∷ ps) last c jobs f h = absurd h.1
  forward before (turn ∷ next ∷ turns) xs (y ∷ []) os (p ∷ ps) last c jobs f h = absurd h.1
  forward before (turn ∷ next ∷ turns) xs (y ∷ z ∷ ys) os (p ∷ []) last c jobs f h = absurd h.1
  forward before (turn ∷ next ∷ turns) xs (y ∷ z ∷ ys) os (p ∷ q ∷ ps) last c jobs f h =
      let job = (job_is before turn xs (y ∷ z ∷ ys) os (p ∷ q ∷ ps) c last jobs f y.job).0 h.0 in
      let r = reply_here os (q ∷ ps) p (subst AllReply c.outputs tells.complete) in
      let stop = paused_next p (q ∷ ps) r.0 next z.job r.1 h.1.0 in
      let cut = cut_next xs (z ∷ ys) os (q ∷ ps) y p c in
      let end = last_snoc os p ∙ stop.is in
      let all = next_jobs before turn xs y jobs job in
      let told = tick_told before turn (xs ++ y ∷ []) (z ∷ ys) (os ++ p ∷ []) (q ∷ ps) cut (WasPaused stop.copies stop.u) end all in
      let rest = forward (before ++ turn ∷ []) (next ∷ turns) (xs ++ y ∷ []) (z ∷ ys) (os ++ p ∷ []) (q ∷ ps) p.reply cut all (later before turn stop.copies stop.u refl end stop.is) h.1 in
      let state = state_then k before turn Fresh in (
        ap (λ j. j ∷ map (λ x. x.job) (z ∷ ys)) job ∙ ap (λ js. tick_job k (state_after k Fresh before) turn ∷ js) (rest.0 ∙ ap (λ st. tick_jobs k st (next ∷ turns)) state),
        (told.0.0, subst (λ st. AllButLastPause k st (next ∷ turns)) state rest.1),
      )

  -- ---- and the other way round

  paused_reply : (t : Tick) (o : Output) (os : List Output) (r : Reply) → o.reply ≡ Some r → composed.MeansReply k t r → t.outcome ≡ outcome.Paused → PausedNext o os
  paused_reply t o os (WasPaused copies u) e h p = record { copies = copies; u = u; is = e }
  paused_reply t o os (WasEnded copies u) e h p = let f = sym p ∙ h.0 in cc
  paused_reply t o os (WasTrapped place trap u) e h p = let f = sym p ∙ h in cc
  paused_reply t o os WasOver e h p = let f = sym p ∙ h in cc

  pub back : (before turns : List TickInput) (xs ys : List Exchange) (os ps : List Output) (last : Option Reply) → Cut xs ys os ps → map (λ x. x.job) xs ≡ tick_jobs k Fresh before → length ps ≡ length ys →
      Follows before os last → Forward before turns ys → AreTicks k.shape last turns ys ps
  back before [] xs [] os [] last c jobs n f h = tt
  back before [] xs (y ∷ ys) os ps last c jobs n f h = let e = h.0 in cc
  back before [] xs [] os (p ∷ ps) last c jobs n f h = cc
  back before (turn ∷ turns) xs [] os ps last c jobs n f h = let e = h.0 in cc
  back before (turn ∷ turns) xs (y ∷ ys) os [] last c jobs n f h = cc
  back before (turn ∷ []) xs (y ∷ []) os (p ∷ []) last c jobs n f h = let e = h.0 in let job : y.job ≡ tick_job k (state_after k Fresh before) turn = cc in ((job_is before turn xs (y ∷ []) os (p ∷ []) c last jobs f y.job).1 job, tt)
  back before (turn ∷ []) xs (y ∷ z ∷ ys) os (p ∷ ps) last c jobs n f h = let e = h.0 in cc
  back before (turn ∷ []) xs (y ∷ []) os (p ∷ q ∷ ps) last c jobs n f h = cc
  back before (turn ∷ next ∷ turns) xs (y ∷ []) os (p ∷ ps) last c jobs n f h = let e = h.0 in cc
  back before (turn ∷ next ∷ turns) xs (y ∷ z ∷ ys) os (p ∷ []) last c jobs n f h = cc
  back before (turn ∷ next ∷ turns) xs (y ∷ z ∷ ys) os (p ∷ q ∷ ps) last c jobs n f h =
      let e = h.0 in
      let job : y.job ≡ tick_job k (state_after k Fresh before) turn = cc in
      let more : map (λ x. x.job) (z ∷ ys) ≡ tick_jobs k (next_state k (state_after k Fresh before) turn) (next ∷ turns) = cc in
      let n' : length (q ∷ ps) ≡ length (z ∷ ys) = cc in
      let r = reply_here os (q ∷ ps) p (subst AllReply c.outputs tells.complete) in
      let cut = cut_next xs (z ∷ ys) os (q ∷ ps) y p c in
      let all = next_jobs before turn xs y jobs job in
      let told = tick_told before turn (xs ++ y ∷ []) (z ∷ ys) (os ++ p ∷ []) (q ∷ ps) cut r.0 (last_snoc os p ∙ r.1) all in
      let stop = paused_reply (tick k turn.budget (state_after k Fresh before) turn.row) p (q ∷ ps) r.0 r.1 told.0 h.1.0 in
      let end = last_snoc os p ∙ stop.is in
      let state = state_then k before turn Fresh in (
        (job_is before turn xs (y ∷ z ∷ ys) os (p ∷ q ∷ ps) c last jobs f y.job).1 job,
        back (before ++ turn ∷ []) (next ∷ turns) (xs ++ y ∷ []) (z ∷ ys) (os ++ p ∷ []) (q ∷ ps) p.reply cut all n' (later before turn stop.copies stop.u refl end stop.is)
            (more ∙ ap (λ st. tick_jobs k st (next ∷ turns)) (sym state), subst (λ st. AllButLastPause k st (next ∷ turns)) (sym state) h.1.1),
      )

-- Thread 0, tick by tick.
use Rattle.std.proofs.Common.{◌≡◌, ℕ, suc, ◌<◌, ◌≤◌, true, List, [], ◌∷◌, ◌++◌, map, take, length, refl, sym, ap, ◌∙◌, subst, arith}
use Rattle.std.specs.Prelude.{Option, Some, None, ℤ}
use Rattle.forec_kernel.specs.Composed.{TickInput}
use Rattle.forec_kernel.specs.declared.shape.Outcome.{Outcome}
use Rattle.forec_kernel.specs.Packets as packet
use Rattle.forec_kernel.specs.Packets.{PlainPacket}
use Rattle.forec_kernel.specs.Packed.{HasRoom, IsReply}
use Rattle.forec_kernel.specs.Solo.{values_in}
use Rattle.forec_kernel.specs.Texts.{uses_in}
use Rattle.forec_kernel.specs.Ticks.{with_row, start_copies, unmarked, values_of}
use Rattle.forec_kernel.specs.Shapes.{PlainShape}
use Rattle.forec_kernel.specs.Engine.{Job, Start, Wake, Reply, WasPaused, WasEnded, WasTrapped, WasOver, Exchange, Output, Nothing, Alone, pair_all, last_reply}
use Rattle.thread_code.specs.Plain.{PlainCode}
use Rattle.thread_code.specs.Valid.{IsValidCode, of_shape}
use Rattle.thread_code.specs.Machine.{Machine}
use Rattle.thread_code.specs.Alone.{code_engine, CodeAlone}
use Rattle.thread_code.proofs.Steady.{code_steady}
use Rattle.combine_tree.specs.declared.packet.Packet.{Packet}
use Rattle.combine_tree.specs.declared.packet.PacketKind.{PacketKind}
use Rattle.combine_tree.specs.declared.packet.PacketKind.TheVariants as kind
use Rattle.combine_tree.specs.Plain.{plain_packet, plain_kind, blank_packet}
use Rattle.core_machine.specs.Threads.{Loaded, StandsFor, IsResting, RepliesToLast}
use Rattle.core_machine.specs.Replies.{RepliesByKind}
use Rattle.tick_jobs.specs.Jobs.{job_of, job_with, copies_before}
use Rattle.tick_jobs.specs.Outcomes.{HasOutputs, outcome_in}
use Rattle.tick_jobs.specs.Ready.{IsReady}
use Rattle.tick_jobs.specs.Told.{DidJobs}
use Rattle.tick_jobs.proofs.Logs.{job_begins, job_does}
use Rattle.tick_jobs.proofs.Rooms.{blank_room}
use Rattle.tick_jobs.proofs.TickOutcome.{comes_to}
use Rattle.exchange_meaning.specs.Logged.{ExchangeLog}
use Rattle.exchange_meaning.specs.Telling.{TellsBranches}
use Rattle.exchange_meaning.specs.Replays.{IsTick, AreTicks}
use Rattle.exchange_meaning.proofs.Shaped.{below_of}
use Rattle.exchange_meaning.proofs.TellingLemmas.{jobs_take}
use Rattle.exchange_meaning.proofs.Failing.{tells_first}
use Rattle.exchange_meaning.proofs.Differing.{tells_same}
use Rattle.log_text.specs.declared.log.Log.{Log}
use Rattle.exchange_replay.specs.declared.walk.Walk.{Walk}
use Rattle.exchange_replay.specs.declared.replayer.Replayer.{Replayer}
use Rattle.exchange_replay.specs.Tracks.{HavePassed}
use Rattle.exchange_replay.specs.Walks.{PassedBy, WalkedJobs, WalksJob, HasBegunWalk, CannotTell}
use Rattle.exchange_replay.specs.Rooted.{IsReadyRoot, fresh, paused, HasReplayed, HasTickedAs, CannotTick}
use Rattle.exchange_replay.proofs.PairLemmas.{tells_of}

-- ---- before the first tick

pub none_replayed : (c : PlainCode) → IsValidCode c → (l : Log) (log : ExchangeLog) (r : Replayer) → Loaded c r.walk.thread → r.walk.thread.number ≡ 0 → IsResting r.walk.thread → StandsFor c r.walk.thread [] → HavePassed c.shape l log 0 r.walk.branches.items [] →
    (n : ℕ) → n ≡ length c.shape.variables → plain_packet r.root ≡ blank_packet 0 n → r.root.kind ≡ kind.Blank → HasReplayed c l log r []
none_replayed c valid l log r loaded number resting stands passed n count is blank = record {
  run = record { tells = record { exchanges = []; outputs = []; runs = tt; complete = tt; mine = tt; told = λ b m. record { rest = log b; is = refl } }; ticks = tt };
  loaded = loaded;
  root = number;
  resting = resting;
  stands = stands;
  passed = passed;
  room = blank_room c.shape valid.shape n (plain_packet r.root) count is;
  ready = λ e. fresh refl blank;
  paused = λ e p. let f = sym blank ∙ p in cc;
}

-- ---- between ticks

module _ (c : PlainCode) (valid : IsValidCode c) (l : Log) (log : ExchangeLog) (r : Replayer) (turns : List TickInput) (h : HasReplayed c l log r turns) where
  pub its_jobs : List Job
  its_jobs = map (λ x. x.job) h.run.tells.exchanges

  pub did : WalkedJobs c l log r.walk its_jobs
  unfolding its_jobs
  did = record {
    exchanges = h.run.tells.exchanges;
    outputs = h.run.tells.outputs;
    stands = h.stands;
    jobs_are = refl;
    runs = subst (λ n. CodeAlone c n h.run.tells.exchanges h.run.tells.outputs) (sym h.root) h.run.tells.runs;
    complete = h.run.tells.complete;
    posts = subst (λ n. HavePassed c.shape l log n r.walk.branches.items (pair_all h.run.tells.exchanges h.run.tells.outputs)) (sym h.root) h.passed;
  }

  pub is_ready : r.live ≡ true → IsReady r.walk.thread r.root.kind
  is_ready live = by_ready (h.ready live)
    where
      by_ready : IsReadyRoot turns (λ copies u. last_reply h.run.tells.outputs ≡ Some (WasPaused copies u)) r.root → IsReady r.walk.thread r.root.kind
      by_ready (fresh e b) = subst (IsReady r.walk.thread) (sym b) tt
      by_ready (paused u p e) = subst (IsReady r.walk.thread) (sym p) (h.paused live p)

  -- the job of a tick begins
  module _ (job : Job) (w1 : Walk) (tracks : w1.branches ≡ r.walk.branches) (number : w1.thread.number ≡ r.walk.thread.number) (stands : (xs : List Exchange) → StandsFor c r.walk.thread xs → StandsFor c w1.thread (xs ++ record { job = job; replies = [] } ∷ [])) where
    begun_tick : (i : WalksJob c l log w1 its_jobs job) × (i.log.before ≡ [])
    begun_tick =
        let d = did in
        let posts = subst (λ v. HavePassed c.shape l log r.walk.thread.number v.items (pair_all d.exchanges d.outputs)) (sym tracks) d.posts in
        let d1 : DidJobs c r.walk.thread (PassedBy c l log w1) its_jobs = record { exchanges = d.exchanges; outputs = d.outputs; stands = d.stands; jobs_are = d.jobs_are; runs = d.runs; complete = d.complete; posts = posts } in
        job_begins c valid r.walk.thread w1.thread (PassedBy c l log w1) its_jobs job number (subst (λ n. n < length c.threads) (sym number) h.loaded.thread) d1 (stands d.exchanges d.stands)

    pub walks_tick : WalksJob c l log w1 its_jobs job
    walks_tick = begun_tick.0

    pub tick_begun : HasBegunWalk c l w1
    tick_begun = record { log = log; jobs = its_jobs; job = job; at = begun_tick.0; first = begun_tick.1 }

-- ---- ticks and jobs

abbrev last_or : Option Reply → List Output → Option Reply
last_or last [] = last
last_or last (o ∷ os) = last_or o.reply os

last_same : (last : Option Reply) (os : List Output) (x : Reply) → last_reply os ≡ Some x → last_or last os ≡ Some x
last_same last [] x e = cc
last_same last (o ∷ []) x e = e
last_same last (o ∷ p ∷ os) x e = last_same o.reply (p ∷ os) x e

none_ran : (s : PlainShape) (turns : List TickInput) (xs : List Exchange) (os : List Output) → turns ≡ [] → AreTicks s None turns xs os → last_or None os ≡ None
none_ran s [] [] [] e h = refl
none_ran s [] [] (o ∷ os) e h = absurd h
none_ran s [] (x ∷ xs) os e h = absurd h
none_ran s (turn ∷ turns) xs os e h = cc

tick_once : (s : PlainShape) (last : Option Reply) (turn : TickInput) (i j : Job) → IsTick s last turn i → IsTick s last turn j → i ≡ j
tick_once s None turn i j h g = h ∙ sym g
tick_once s (Some (WasPaused copies u)) turn i j h g = h ∙ sym g
tick_once s (Some (WasEnded copies u)) turn i j h g = absurd h
tick_once s (Some (WasTrapped place trap u)) turn i j h g = absurd h
tick_once s (Some WasOver) turn i j h g = absurd h

head_output : (o p : Output) (os ps : List Output) → o ∷ os ≡ p ∷ ps → o ≡ p
head_output o p os ps e = cc

tail_outputs : (o p : Output) (os ps : List Output) → o ∷ os ≡ p ∷ ps → os ≡ ps
tail_outputs o p os ps e = cc

-- one tick more
ticks_more : (s : PlainShape) (turns : List TickInput) (turn : TickInput) (j : Job) (last : Option Reply) (xs : List Exchange) (os : List Output) (ys : List Exchange) (ps : List Output) → AreTicks s last turns xs os →
    map (λ (x : Exchange). x.job) ys ≡ map (λ (x : Exchange). x.job) xs ++ j ∷ [] → take (length xs) ps ≡ os → length ps ≡ length ys → IsTick s (last_or last os) turn j → AreTicks s last (turns ++ turn ∷ []) ys ps
ticks_more s [] turn j last [] [] [] ps h jobs first count is = cc
ticks_more s [] turn j last [] [] (y ∷ []) [] h jobs first count is = cc
ticks_more s [] turn j last [] [] (y ∷ []) (p ∷ []) h jobs first count is = let e : y.job ≡ j = cc in (subst (IsTick s last turn) (sym e) is, tt)
ticks_more s [] turn j last [] [] (y ∷ []) (p ∷ q ∷ ps) h jobs first count is = cc
ticks_more s [] turn j last [] [] (y ∷ z ∷ ys) ps h jobs first count is = cc
ticks_more s [] turn j last [] (o ∷ os) ys ps h jobs first count is = absurd h
ticks_more s [] turn j last (x ∷ xs) os ys ps h jobs first count is = absurd h
ticks_more s (t ∷ turns) turn j last [] os ys ps h jobs first count is = absurd h
ticks_more s (t ∷ turns) turn j last (x ∷ xs) [] ys ps h jobs first count is = absurd h
ticks_more s (t ∷ turns) turn j last (x ∷ xs) (o ∷ os) [] ps h jobs first count is = cc
ticks_more s (t ∷ turns) turn j last (x ∷ xs) (o ∷ os) (y ∷ ys) [] h jobs first count is = cc
ticks_more s (t ∷ turns) turn j last (x ∷ xs) (o ∷ os) (y ∷ ys) (p ∷ ps) h jobs first count is =
    let e : y.job ≡ x.job = head_job y.job x.job (map (λ (x : Exchange). x.job) ys) (map (λ (x : Exchange). x.job) xs ++ j ∷ []) jobs in
    let rest : map (λ (x : Exchange). x.job) ys ≡ map (λ (x : Exchange). x.job) xs ++ j ∷ [] = tail_jobs y.job x.job (map (λ (x : Exchange). x.job) ys) (map (λ (x : Exchange). x.job) xs ++ j ∷ []) jobs in
    let same : p ≡ o = head_output p o (take (length xs) ps) os first in
    let more : take (length xs) ps ≡ os = tail_outputs p o (take (length xs) ps) os first in
    let n : length ps ≡ length ys = cc in (
      subst (IsTick s last t) (sym e) h.0,
      ticks_more s turns turn j p.reply xs os ys ps (subst (λ (z : Output). AreTicks s z.reply turns xs os) (sym same) h.1) rest more n (subst (λ (z : Output). IsTick s (last_or z.reply os) turn j) (sym same) is),
    )
  where
    head_job : (i j : Job) (l m : List Job) → i ∷ l ≡ j ∷ m → i ≡ j
    head_job i j l m e = cc

    tail_jobs : (i j : Job) (l m : List Job) → i ∷ l ≡ j ∷ m → l ≡ m
    tail_jobs i j l m e = cc

-- the jobs of ticks are determined
ticks_jobs : (s : PlainShape) (turns : List TickInput) (turn : TickInput) (j : Job) (last : Option Reply) (xs : List Exchange) (os : List Output) (ys : List Exchange) (ps : List Output) → AreTicks s last turns xs os → AreTicks s last (turns ++ turn ∷ []) ys ps →
    ((m : ℕ) → take m (map (λ (x : Exchange). x.job) xs) ≡ take m (map (λ (x : Exchange). x.job) ys) → m ≤ length xs → take m os ≡ take m ps) → IsTick s (last_or last os) turn j → map (λ (x : Exchange). x.job) ys ≡ map (λ (x : Exchange). x.job) xs ++ j ∷ []
ticks_jobs s [] turn j last [] [] [] ps h g same is = absurd g
ticks_jobs s [] turn j last [] [] (y ∷ ys) [] h g same is = absurd g
ticks_jobs s [] turn j last [] [] (y ∷ []) (p ∷ ps) h g same is = ap (λ i. i ∷ []) (tick_once s last turn y.job j g.0 is)
ticks_jobs s [] turn j last [] [] (y ∷ z ∷ ys) (p ∷ ps) h g same is = absurd g.1
ticks_jobs s [] turn j last [] (o ∷ os) ys ps h g same is = absurd h
ticks_jobs s [] turn j last (x ∷ xs) os ys ps h g same is = absurd h
ticks_jobs s (t ∷ turns) turn j last [] os ys ps h g same is = absurd h
ticks_jobs s (t ∷ turns) turn j last (x ∷ xs) [] ys ps h g same is = absurd h
ticks_jobs s (t ∷ turns) turn j last (x ∷ xs) (o ∷ os) [] ps h g same is = absurd g
ticks_jobs s (t ∷ turns) turn j last (x ∷ xs) (o ∷ os) (y ∷ ys) [] h g same is = absurd g
ticks_jobs s (t ∷ turns) turn j last (x ∷ xs) (o ∷ os) (y ∷ ys) (p ∷ ps) h g same is =
    let e : x.job ≡ y.job = tick_once s last t x.job y.job h.0 g.0 in
    let one : o ≡ p = head_output o p [] [] (same 1 (ap (λ i. i ∷ []) e) (omega arith)) in
    let rest = ticks_jobs s turns turn j o.reply xs os ys ps h.1 (subst (λ (z : Output). AreTicks s z.reply (turns ++ turn ∷ []) ys ps) (sym one) g.1)
    (λ m jobs le. tail_outputs o p (take m os) (take m ps) (same (suc m) (ap (λ i. i ∷ take m (map (λ (x : Exchange). x.job) xs)) e ∙ ap (λ l. y.job ∷ l) jobs) (omega (arith, le)))) is in
    ap (λ i. i ∷ map (λ (x : Exchange). x.job) ys) (sym e) ∙ ap (λ l. x.job ∷ l) rest

-- ---- the job of a tick

job_fresh : (s : PlainShape) (p : Packet) (row : List ℤ) (budget : ℕ) → p.kind ≡ kind.Blank → job_of s p row budget ≡ Start [] (values_in (with_row (uses_in s.threads 0) s.inputs row (start_copies s.variables))) budget
job_fresh s p row budget e = ap (λ k. job_with k (values_in (with_row (uses_in s.threads 0) s.inputs row (copies_before s k p.copies.items))) budget) e

job_later : (s : PlainShape) (p : Packet) (row : List ℤ) (budget : ℕ) → p.kind ≡ kind.Paused → job_of s p row budget ≡ Wake (values_in (with_row (uses_in s.threads 0) s.inputs row (unmarked p.copies.items))) budget
job_later s p row budget e = ap (λ k. job_with k (values_in (with_row (uses_in s.threads 0) s.inputs row (copies_before s k p.copies.items))) budget) e

paused_is : (p : PlainPacket) (r : Reply) → IsReply p r → p.kind ≡ packet.IsPaused → (u : ℕ) × (r ≡ WasPaused p.copies u)
paused_is p (WasPaused copies u) h e = (u, ap (λ l. WasPaused l u) (sym h.1))
paused_is p (WasEnded copies u) h e = let f = sym h.0 ∙ e in cc
paused_is p (WasTrapped place trap u) h e = let f = sym h.0 ∙ e in cc
paused_is p WasOver h e = let f = sym h ∙ e in cc

length_map : {A B : Type 0} (f : A → B) (xs : List A) → length (map f xs) ≡ length xs
length_map f [] = refl
length_map f (x ∷ xs) = ap suc (length_map f xs)

length_snoc : {A : Type 0} (xs : List A) (x : A) → length (xs ++ x ∷ []) ≡ suc (length xs)
length_snoc [] x = refl
length_snoc (y ∷ xs) x = ap suc (length_snoc xs x)

take_front : (xs : List Exchange) (j : Job) → take (length xs) (map (λ (x : Exchange). x.job) xs ++ j ∷ []) ≡ map (λ (x : Exchange). x.job) xs
take_front [] j = refl
take_front (x ∷ xs) j = ap (λ l. x.job ∷ l) (take_front xs j)

outputs_count : (c : PlainCode) (t : ℕ) (xs : List Exchange) (r : _) (os : List Output) → Alone (code_engine c t) xs r os → length os ≡ length xs
outputs_count c t [] r [] h = refl
outputs_count c t [] r (o ∷ os) h = absurd h
outputs_count c t (x ∷ xs) r [] h = absurd h
outputs_count c t (x ∷ xs) r (o ∷ os) h = ap suc (outputs_count c t xs h.1 os h.4)

module _ (c : PlainCode) (valid : IsValidCode c) (log : ExchangeLog) where
  abbrev Own : Type 0
  Own = TellsBranches (CodeAlone c) c.shape log 0

  same_first : (m : ℕ) (T U : Own) → take m (map (λ x. x.job) T.exchanges) ≡ take m (map (λ x. x.job) U.exchanges) → take m T.outputs ≡ take m U.outputs
  same_first m T U jobs =
      let A = tells_first Machine (code_engine c) c.shape log 0 m T in
      let B = tells_first Machine (code_engine c) c.shape log 0 m U in
      (tells_same Machine (code_engine c) c.shape log (below_of c.shape valid.shape) 0 (code_steady c 0) A B (jobs_take m T.exchanges ∙ jobs ∙ sym (jobs_take m U.exchanges))).outputs

  first_by : (T U : Own) (j : Job) → map (λ x. x.job) U.exchanges ≡ map (λ x. x.job) T.exchanges ++ j ∷ [] → take (length T.exchanges) U.outputs ≡ T.outputs
  first_by T U j new =
      let F = tells_first Machine (code_engine c) c.shape log 0 (length T.exchanges) U in
      (tells_same Machine (code_engine c) c.shape log (below_of c.shape valid.shape) 0 (code_steady c 0) F T (jobs_take (length T.exchanges) U.exchanges ∙ ap (take (length T.exchanges)) new ∙ take_front T.exchanges j)).outputs

module _ (c : PlainCode) (valid : IsValidCode c) (l : Log) (log : ExchangeLog) (r : Replayer) (turns : List TickInput) (h : HasReplayed c l log r turns) (live : r.live ≡ true) (row : List ℤ) (budget : ℕ) where
  abbrev pub job : Job
  job = job_of c.shape r.root row budget

  abbrev turn : TickInput
  turn = record { row = row; budget = budget }

  is_tick : IsTick c.shape (last_or None h.run.tells.outputs) turn job
  is_tick = by_ready (h.ready live)
    where
      by_ready : IsReadyRoot turns (λ copies u. last_reply h.run.tells.outputs ≡ Some (WasPaused copies u)) r.root → IsTick c.shape (last_or None h.run.tells.outputs) turn job
      by_ready (fresh e b) = subst (λ last. IsTick c.shape last turn job) (sym (none_ran c.shape turns h.run.tells.exchanges h.run.tells.outputs e h.run.ticks)) (job_fresh c.shape r.root row budget b)
      by_ready (paused u p e) = subst (λ last. IsTick c.shape last turn job) (sym (last_same None h.run.tells.outputs (WasPaused r.root.copies.items u) e)) (job_later c.shape r.root row budget p)

  -- it differs
  pub cannot_tick : CannotTell c log 0 (its_jobs c valid l log r turns h ++ job ∷ []) → CannotTick c log turns turn
  unfolding its_jobs
  cannot_tick never R =
      never R.tells (ticks_jobs c.shape turns turn job None h.run.tells.exchanges h.run.tells.outputs R.tells.exchanges R.tells.outputs h.run.ticks R.ticks (λ m jobs le. same_first c valid log m h.run.tells R.tells jobs) is_tick)

  -- it is done
  module _ (r2 : Replayer) (number : r2.walk.thread.number ≡ 0) (loaded : Loaded c r2.walk.thread) (resting : IsResting r2.walk.thread) (i : WalksJob c l log r2.walk (its_jobs c valid l log r turns h) job)
      (gives : (xs : List Exchange) → StandsFor c r2.walk.thread xs → RepliesToLast c r2.walk.thread.number xs (plain_packet r2.root)) (by : RepliesByKind r2.walk.thread r2.root.kind) (room : HasRoom (of_shape c.shape) 0 (plain_packet r2.root))
      (goes : r2.live ≡ true → r2.root.kind ≡ kind.Paused) (o : Outcome) (told : o ≡ outcome_in r2.root.kind) (outputs : List ℤ) (values : HasOutputs o → outputs ≡ values_of (uses_in c.shape.threads 0) r2.root.copies.items c.shape.outputs) where
    pub has_ticked : HasTickedAs c l log r2 turns turn o outputs
    unfolding its_jobs
    has_ticked =
        let d = job_does c r2.walk.thread (PassedBy c l log r2.walk) (its_jobs c valid l log r turns h) job (plain_packet r2.root) i gives in
        let lt = subst (λ n. n < length c.threads) number loaded.thread in
        let U = tells_of c valid l log 0 lt r2.walk (its_jobs c valid l log r turns h ++ job ∷ []) number d.done in
        let first = first_by c valid log h.run.tells U.0 job U.1 in
        let last = ap last_reply U.2 ∙ d.last in
        record {
          replayed = record {
            run = record { tells = U.0; ticks = ticks_more c.shape turns turn job None h.run.tells.exchanges h.run.tells.outputs U.0.exchanges U.0.outputs h.run.ticks U.1 first (outputs_count c 0 U.0.exchanges Nothing U.0.outputs U.0.runs) is_tick };
            loaded = loaded;
            root = number;
            resting = resting;
            stands = subst (StandsFor c r2.walk.thread) (sym U.3) d.done.stands;
            passed = subst (λ ps. HavePassed c.shape l log 0 r2.walk.branches.items ps) (ap (pair_all d.done.exchanges) (sym U.2) ∙ ap (λ xs. pair_all xs U.0.outputs) (sym U.3))
                (subst (λ n. HavePassed c.shape l log n r2.walk.branches.items (pair_all d.done.exchanges d.done.outputs)) number d.done.posts);
            room = room;
            ready = λ e.
                let k = goes e in
                let x = paused_is (plain_packet r2.root) d.reply d.is (ap plain_kind k) in
                paused x.0 k (last ∙ ap Some x.1);
            paused = λ e k. subst (RepliesByKind r2.walk.thread) k by;
          };
          reply = d.reply;
          last = last;
          comes = comes_to c.shape r2.root d.reply d.is o told outputs values;
        }

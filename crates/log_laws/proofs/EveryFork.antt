-- Where a thread of a valid code by itself comes to a fork, a branch that it wakes has paused, and there were not too many forks.
use Rattle.std.proofs.Common.{◌≡◌, ℕ, zero, suc, ◌+◌, ◌-◌, ◌*◌, ◌<◌, ◌≤◌, ◌==◌, Bool, true, false, Some, None, List, [], ◌∷◌, ◌++◌, map, length, refl, sym, ap, ◌∙◌, subst, append_assoc, append-nil, arith}
use Rattle.std.proofs.lemmas.Option.{slice_get_within}
use Rattle.forec_kernel.specs.Engine.{Job, Start, Wake, allowance_of, Reply, WasPaused, Seed, Starts, Wakes, Written, written, AtFork, Engine, run_for, Rest, Asleep, Nothing, Exchange, Output, AtEvent, RunsOn, over, event, IfElse, Begins, Serves, Alone, Answered, pair_up, pair_forks, pair_all, answers_with, ends_at, first_jobs}
use Rattle.forec_kernel.specs.Reached.{AtRest, Inside, Reached, none, begun, stepped, joined, answered}
use Rattle.thread_code.specs.Plain.{PlainCode}
use Rattle.thread_code.specs.Valid.{IsValidCode}
use Rattle.thread_code.specs.Machine.{Machine, On, Waits, Merges, Failing, Paused, Ended, Trapped, Exceeded, Stuck, step, join}
use Rattle.thread_code.specs.Alone.{block_of, view_of, machine_units, code_engine, CodeAlone}
use Rattle.thread_code.proofs.Unstuck.{Good, reached_good}
use Rattle.exchange_meaning.proofs.TellingLemmas.{equal_number}
use Rattle.tick_jobs.proofs.AfterFork.{place_most}
use Rattle.tick_jobs.proofs.AtEachFork.{EndsPaused, WakesPaused, Fine, step_fine, join_fine}
use Rattle.tick_jobs.proofs.FollowingLemmas.{Rested, begins_fine}
use Rattle.tick_jobs.proofs.Forks.{times_grow}
use Rattle.tick_jobs.specs.Branches.{replies_to}

-- a branch that is woken has paused
abbrev pub WokenPaused : List Answered → ℕ → Job → Type 0
WokenPaused past b (Start args values a) = Unit {0}
WokenPaused past b (Wake values a) = EndsPaused (replies_to b past)

abbrev pub AllWokenPaused : List Answered → List Written → Type 0
AllWokenPaused past [] = Unit {0}
AllWokenPaused past (w ∷ ws) = WokenPaused past w.branch w.job × AllWokenPaused past ws

-- what is known of a job's fork number q, from 0, at which these jobs are written
pub record ForkKnown (most q : ℕ) (past : List Answered) (ws : List Written) : Type 0 where
  pub few : suc q ≤ most
  pub woken : AllWokenPaused past ws

-- within an allowance a thread comes to fewer forks
abbrev pub most_forks : PlainCode → ℕ → ℕ → ℕ
most_forks c t a = (length (block_of c t).steps + 2) * a + (length (block_of c t).steps + 1)

abbrev pub EachForkKnown : Type 0
EachForkKnown =
    (c : PlainCode) → IsValidCode c → (t : ℕ) → t < length c.threads → (xs : List Exchange) (os : List Output) (x : Exchange) (o : Output) → length os ≡ length xs →
    CodeAlone c t (xs ++ x ∷ []) (os ++ o ∷ []) → (js : List (List Written)) (ws : List Written) → o ≡ record { jobs = js ++ ws ∷ []; reply = None } → length js ≡ length x.replies →
    ForkKnown (most_forks c t (allowance_of x.job)) (length x.replies) (pair_all xs os ++ pair_forks js x.replies) ws

woken_all : (past : List Answered) (a : ℕ) (seeds : List Seed) → WakesPaused past seeds → AllWokenPaused past (map (written a) seeds)
woken_all past a [] h = tt
woken_all past a (Starts b args values ∷ seeds) h = (tt, woken_all past a seeds h)
woken_all past a (Wakes b values ∷ seeds) h = (h.0, woken_all past a seeds h.1)

last_one : (js : List (List Written)) (ws ws0 : List Written) → length js ≡ 0 → ws0 ∷ [] ≡ js ++ ws ∷ [] → ws0 ≡ ws
last_one [] ws ws0 n e = cc
last_one (j ∷ js) ws ws0 n e = cc

none_longer : {A : Type 0} → (js : List (List Written)) (ws ws0 : List Written) (n : ℕ) → length js ≡ suc n → ws0 ∷ [] ≡ js ++ ws ∷ [] → A
none_longer [] ws ws0 n c e = cc
none_longer (j ∷ []) ws ws0 n c e = cc
none_longer (j ∷ i ∷ js) ws ws0 n c e = cc

module _ (c : PlainCode) (valid : IsValidCode c) (t : ℕ) (lt : t < length c.threads) where
  abbrev e : Engine Machine
  e = code_engine c t

  -- a machine that is reached in a job, after n forks of it
  record At (a n : ℕ) (past : List Answered) (m : Machine) : Type 0 where
    pub exchanges : List Exchange
    pub job : Job
    pub before : List (List Reply)
    pub reached : Reached e exchanges (Inside job before m)
    pub allowance : allowance_of job ≡ a
    pub fine : Fine c valid t n past m

  record Rests (past : List Answered) (r : Rest Machine) : Type 0 where
    pub exchanges : List Exchange
    pub reached : Reached e exchanges (AtRest r)
    pub rested : Rested c valid t lt past r

  nothing_rests : (past : List Answered) → Rests past Nothing
  nothing_rests past = record { exchanges = []; reached = none; rested = tt }

  run_at : (a n i : ℕ) (past : List Answered) (m : Machine) → At a n past m → At a n past (run_for e.step i m)
  run_at a n zero past m h = h
  run_at a n (suc i) past m h =
      run_at a n i past (step c t m)
      (record {
        exchanges = h.exchanges;
        job = h.job;
        before = h.before;
        reached = stepped h.exchanges h.job h.before m (step c t m) h.reached refl;
        allowance = h.allowance;
        fine = step_fine c valid t n past m (reached_good c valid t lt h.exchanges (Inside h.job h.before m) h.reached) h.fine;
      })

  abbrev most : ℕ → ℕ
  most a = most_forks c t a

  seeds_once : (x y : List Seed) → AtFork x ≡ AtFork y → x ≡ y
  seeds_once x y e = cc

  -- what is known at a fork
  at_fork : (a n : ℕ) (past : List Answered) (m : Machine) (seeds : List Seed) → view_of m ≡ AtFork seeds → machine_units m ≤ a → Good c t m → Fine c valid t n past m →
      ForkKnown (most a) n past (map (written (a - machine_units m)) seeds)
  at_fork a n past (On p fs o u) seeds v le g f = cc
  at_fork a n past (Merges m o u) seeds v le g f = cc
  at_fork a n past (Failing place trap u) seeds v le g f = cc
  at_fork a n past (Paused wake o u) seeds v le g f = cc
  at_fork a n past (Ended o u) seeds v le g f = cc
  at_fork a n past (Trapped place trap u) seeds v le g f = cc
  at_fork a n past (Exceeded u) seeds v le g f = cc
  at_fork a n past (Stuck u) seeds v le g f = cc
  at_fork a n past (Waits w o u) seeds v le g f =
      let same = seeds_once w.seeds seeds v in
      let less = slice_get_within g.0.depths w.done.at (length w.done.stack) g.0.here in
      let long = ap length g.0.same in
      let own = ap length f.0 in
      let near = place_most c valid t lt w.done.at (omega (arith, less, long, own, g.0.valid.long)) in
      let grows = times_grow (length (block_of c t).steps + 2) u a le in
      record { few = omega (arith, f.1, near, grows); woken = woken_all past (a - u) seeds (subst (WakesPaused past) same f.5.wakes) }

  abbrev Fork : ℕ → List (List Written) → List Written → Output → Type 0
  Fork q js ws o = (o ≡ record { jobs = js ++ ws ∷ []; reply = None }) × (length js ≡ q)

  record Served (a n : ℕ) (past : List Answered) (rss : List (List Reply)) (o : Output) (r : Rest Machine) : Type 0 where
    pub known : (js : List (List Written)) (ws : List Written) → Fork (length rss) js ws o → ForkKnown (most a) (n + length rss) (past ++ pair_forks js rss) ws
    pub rests : Rests (past ++ pair_forks o.jobs rss) r

  served_as : (a n : ℕ) (past : List Answered) (rss : List (List Reply)) (o o' : Output) (r r' : Rest Machine) → o ≡ o' → r ≡ r' → Served a n past rss o' r' → Served a n past rss o r
  served_as a n past rss o o' r r' p q h = subst (λ x. Served a n past rss x r) (sym p) (subst (Served a n past rss o') (sym q) h)

  replies_at : (a n : ℕ) (past : List Answered) (rss : List (List Reply)) (q : Reply) (r : Rest Machine) → Rests past r → Served a n past rss (answers_with q) r
  replies_at a n past rss q r h = record {
    known = λ js ws f. let bad : Some q ≡ None = ap (λ (x : Output). x.reply) f.0 in cc;
    rests = subst (λ ps. Rests ps r) (sym (append-nil past)) h;
  }

  event_at : (a n : ℕ) (past : List Answered) (rss : List (List Reply)) (m : Machine) → At a n past m → e.units m ≤ a → (fork : List Seed → Output → Rest Machine → Type 0) →
      ((seeds : List Seed) → e.view m ≡ AtFork seeds → (o : Output) (r : Rest Machine) → fork seeds o r → Served a n past rss o r) →
      (o : Output) (r : Rest Machine) → AtEvent e m (e.view m) fork o r → Served a n past rss o r
  event_at a n past rss (On p fs own u) h le fork f o r at = absurd at
  event_at a n past rss (Waits w own u) h le fork f o r at = f w.seeds refl o r at
  event_at a n past rss (Merges m own u) h le fork f o r at = absurd at
  event_at a n past rss (Failing place trap u) h le fork f o r at = absurd at
  event_at a n past rss (Paused wake own u) h le fork f o r at =
      served_as a n past rss o _ r _ at.0 at.1
      (replies_at a n past rss _ _ (record {
        exchanges = h.exchanges ++ record { job = h.job; replies = h.before } ∷ [];
        reached = answered h.exchanges h.job h.before (Paused wake own u) (WasPaused own.copies u) (Asleep (Paused wake own u)) h.reached (omega (arith, le, h.allowance)) (refl, refl);
        rested = h.fine;
      }))
  event_at a n past rss (Ended own u) h le fork f o r at = served_as a n past rss o _ r _ at.0 at.1 (replies_at a n past rss _ _ (nothing_rests past))
  event_at a n past rss (Trapped place trap u) h le fork f o r at = served_as a n past rss o _ r _ at.0 at.1 (replies_at a n past rss _ _ (nothing_rests past))
  event_at a n past rss (Exceeded u) h le fork f o r at = served_as a n past rss o _ r _ at.0 at.1 (replies_at a n past rss _ _ (nothing_rests past))
  event_at a n past rss (Stuck u) h le fork f o r at = absurd at

  goes_at : (a n : ℕ) (past : List Answered) (rss : List (List Reply)) (m : Machine) → At a n past m → (fork : Machine → List Seed → Output → Rest Machine → Type 0) →
      ((m' : Machine) → At a n past m' → e.units m' ≤ a → (seeds : List Seed) → e.view m' ≡ AtFork seeds → (o : Output) (r : Rest Machine) → fork m' seeds o r → Served a n past rss o r) →
      (o : Output) (r : Rest Machine) → RunsOn e a m fork o r → Served a n past rss o r
  goes_at a n past rss m h fork f o r (over p eo er) = served_as a n past rss o _ r _ eo er (replies_at a n past rss _ _ (nothing_rests past))
  goes_at a n past rss m h fork f o r (event m' reaches at) =
      let h' = subst (At a n past) reaches.lands (run_at a n reaches.count past m h) in
      event_at a n past rss m' h' reaches.within (fork m') (f m' h' reaches.within) o r at

  known_here : (a n : ℕ) (past : List Answered) (m : Machine) → At a n past m → machine_units m ≤ a → (seeds : List Seed) → view_of m ≡ AtFork seeds → ForkKnown (most a) n past (map (written (a - machine_units m)) seeds)
  known_here a n past m h le seeds v = at_fork a n past m seeds v le (reached_good c valid t lt h.exchanges (Inside h.job h.before m) h.reached) h.fine

  serves_at : (a n : ℕ) (past : List Answered) (rss : List (List Reply)) (m : Machine) → At a n past m → (o : Output) (r : Rest Machine) → Serves e a rss m o r → Served a n past rss o r
  serves_at a n past [] m h o r s =
      goes_at a n past [] m h _ (λ m' h' le seeds v o r x. served_as a n past [] o _ r _ x.0 x.1 (record {
        known = λ js ws f. by m' h' le seeds v js ws f;
        rests = nothing_rests _;
      })) o r s
    where
      by : (m' : Machine) → At a n past m' → machine_units m' ≤ a → (seeds : List Seed) → view_of m' ≡ AtFork seeds → (js : List (List Written)) (ws : List Written) →
          Fork 0 js ws (ends_at (map (written (a - machine_units m')) seeds)) → ForkKnown (most a) (n + 0) (past ++ pair_forks js []) ws
      by m' h' le seeds v [] ws f =
          let same : map (written (a - machine_units m')) seeds ≡ ws = last_one [] ws _ refl (ap (λ (x : Output). x.jobs) f.0) in
          let q : n ≡ n + 0 = omega arith in
          subst (λ ps. ForkKnown (most a) (n + 0) ps ws) (sym (append-nil past)) (subst (λ i. ForkKnown (most a) i past ws) q (subst (ForkKnown (most a) n past) same (known_here a n past m' h' le seeds v)))
      by m' h' le seeds v (j ∷ js) ws f = let bad = f.1 in cc
  serves_at a n past (rs ∷ more) m h o r s =
      goes_at a n past (rs ∷ more) m h _ (λ m' h' le seeds v o r x. by_count m' seeds (length rs == length seeds) refl o r
      (λ count o' y. serves_at a (n + 1) (past ++ pair_up (map (written (a - machine_units m')) seeds) rs) more (join c t rs m') (joined_at m' h' le seeds v count) o' r y) x) o r s
    where
      joined_at : (m' : Machine) → At a n past m' → e.units m' ≤ a → (seeds : List Seed) → e.view m' ≡ AtFork seeds → length rs ≡ length seeds →
          At a (n + 1) (past ++ pair_up (map (written (a - machine_units m')) seeds) rs) (join c t rs m')
      joined_at m' h' le seeds v count =
          record {
            exchanges = h'.exchanges;
            job = h'.job;
            before = h'.before ++ rs ∷ [];
            reached = joined h'.exchanges h'.job h'.before rs seeds m' h'.reached v (omega (arith, le, h'.allowance)) count;
            allowance = h'.allowance;
            fine = join_fine c valid t n past (a - machine_units m') rs m' seeds v count h'.fine;
          }

      by_count : (m' : Machine) (seeds : List Seed) (test : Bool) → (length rs == length seeds) ≡ test → (o : Output) (r : Rest Machine) →
          (length rs ≡ length seeds → (o' : Output) → Serves e a more (join c t rs m') o' r → Served a (n + 1) (past ++ pair_up (map (written (a - machine_units m')) seeds) rs) more o' r) →
          IfElse test ((o' : Output) × Serves e a more (join c t rs m') o' r × (o ≡ first_jobs (map (written (a - e.units m')) seeds) o'))
          ((o ≡ ends_at (map (written (a - e.units m')) seeds)) × (r ≡ Nothing)) → Served a n past (rs ∷ more) o r
      by_count m' seeds true q o r go x =
          let ws0 = map (written (a - machine_units m')) seeds in
          let rest = go (equal_number (length rs) (length seeds) q) x.0 x.1 in
          subst (λ y. Served a n past (rs ∷ more) y r) (sym x.2) (record {
            known = λ js ws f. deeper ws0 x.0 js ws f rest.known;
            rests = subst (λ ps. Rests ps r) (append_assoc past (pair_up ws0 rs) (pair_forks x.0.jobs more)) rest.rests;
          })
        where
          deeper : (ws0 : List Written) (o' : Output) (js : List (List Written)) (ws : List Written) → Fork (suc (length more)) js ws (first_jobs ws0 o') →
              ((js : List (List Written)) (ws : List Written) → Fork (length more) js ws o' → ForkKnown (most a) ((n + 1) + length more) ((past ++ pair_up ws0 rs) ++ pair_forks js more) ws) →
              ForkKnown (most a) (n + suc (length more)) (past ++ pair_forks js (rs ∷ more)) ws
          deeper ws0 o' [] ws f known = let bad = f.1 in cc
          deeper ws0 o' (j ∷ js) ws f known =
              let all : ws0 ∷ o'.jobs ≡ j ∷ (js ++ ws ∷ []) = ap (λ (x : Output). x.jobs) f.0 in
              let none : o'.reply ≡ None = ap (λ (x : Output). x.reply) f.0 in
              let head : ws0 ≡ j = cc in
              let tail : o'.jobs ≡ js ++ ws ∷ [] = cc in
              let count : length js ≡ length more = let c0 = f.1 in omega (arith, c0) in
              let is : o' ≡ record { jobs = js ++ ws ∷ []; reply = None } = ap (λ l. record { jobs = l; reply = o'.reply }) tail ∙ ap (λ p. record { jobs = js ++ ws ∷ []; reply = p }) none in
              let deep = known js ws (is, count) in
              let number : (n + 1) + length more ≡ n + suc (length more) = omega arith in
              subst (λ i. ForkKnown (most a) i (past ++ (pair_up j rs ++ pair_forks js more)) ws) number
              (subst (λ ps. ForkKnown (most a) ((n + 1) + length more) ps ws) (append_assoc past (pair_up j rs) (pair_forks js more))
              (subst (λ l. ForkKnown (most a) ((n + 1) + length more) ((past ++ pair_up l rs) ++ pair_forks js more) ws) head deep))
      by_count m' seeds false q o r go x = served_as a n past (rs ∷ more) o _ r _ x.0 x.1 (record {
        known = λ js ws f. none_longer js ws _ (length more) f.1 (ap (λ (y : Output). y.jobs) f.0);
        rests = nothing_rests _;
      })

  begins_at : (x : Exchange) (past : List Answered) (r : Rest Machine) (m : Machine) → Rests past r → Begins e x.job r m → At (allowance_of x.job) 0 past m
  begins_at x past r m h b = record {
    exchanges = h.exchanges;
    job = x.job;
    before = [];
    reached = begun h.exchanges x.job r m h.reached b;
    allowance = refl;
    fine = begins_fine c valid t lt past x.job r m h.rested b;
  }

  alone_known : (xs : List Exchange) (os : List Output) (x : Exchange) (o : Output) (past : List Answered) (r : Rest Machine) → Rests past r → length os ≡ length xs → Alone e (xs ++ x ∷ []) r (os ++ o ∷ []) →
      (js : List (List Written)) (ws : List Written) → Fork (length x.replies) js ws o → ForkKnown (most (allowance_of x.job)) (length x.replies) (past ++ (pair_all xs os ++ pair_forks js x.replies)) ws
  alone_known [] [] x o past r h n al js ws f =
      let q : 0 + length x.replies ≡ length x.replies = omega arith in
      subst (λ i. ForkKnown (most (allowance_of x.job)) i (past ++ pair_forks js x.replies) ws) q
      ((serves_at (allowance_of x.job) 0 past x.replies al.0 (begins_at x past r al.0 h al.2) o al.1 al.3).known js ws f)
  alone_known [] (p ∷ os) x o past r h n al js ws f = cc
  alone_known (y ∷ xs) [] x o past r h n al js ws f = cc
  alone_known (y ∷ xs) (p ∷ os) x o past r h n al js ws f =
      let s = serves_at (allowance_of y.job) 0 past y.replies al.0 (begins_at y past r al.0 h al.2) p al.1 al.3 in
      let here = pair_forks p.jobs y.replies in
      let count : length os ≡ length xs = cc in
      let deep = alone_known xs os x o (past ++ here) al.1 s.rests count al.4 js ws f in
      subst (λ ps. ForkKnown (most (allowance_of x.job)) (length x.replies) ps ws)
      (append_assoc past here (pair_all xs os ++ pair_forks js x.replies) ∙ ap (λ l. past ++ l) (sym (append_assoc here (pair_all xs os) (pair_forks js x.replies)))) deep

pub each_fork_known : EachForkKnown
each_fork_known c valid t lt xs os x o n al js ws is count = alone_known c valid t lt xs os x o [] Nothing (nothing_rests c valid t lt []) n al js ws (is, count)

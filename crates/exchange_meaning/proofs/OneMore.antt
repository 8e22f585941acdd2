-- One exchange more of a thread, and what served it.
use Rattle.std.proofs.Common.{ℕ, suc, ◌-◌, ◌≡◌, ◌==◌, Bool, true, false, None, Some, List, [], ◌∷◌, ◌++◌, map, length, refl, sym, ap, subst, ◌∙◌, append_assoc, append-nil, arith}
use Rattle.std.proofs.lemmas.Bool.Decides.{nat_tests}
use Rattle.forec_kernel.specs.declared.shape.Outcome.TheVariants as outcome
use Rattle.forec_kernel.specs.declared.shape.VarCopy.{VarCopy}
use Rattle.forec_kernel.specs.Composed.{TickInput, MeansReply, next_state, state_after}
use Rattle.forec_kernel.specs.Engine.{Reply, WasPaused, WasEnded, WasTrapped, WasOver, Seed, Written, written, View, Going, AtFork, Pausing, Ending, Trapping, Exceeding, Engine, Rest, Asleep, Nothing, Exchange, Output, Alone, AllReply, Answered, allowance_of, last_reply, pair_all, pair_forks, AtEvent, Reaches, RunsOn, over, event, first_jobs, ends_at, IfElse, Serves, Begins}
use Rattle.forec_kernel.specs.Shapes.{PlainKernel, PlainShape}
use Rattle.forec_kernel.specs.Ticks.{TickState, Tick, tick}
use Rattle.exchange_meaning.specs.LogOf.{AllButLastPause}
use Rattle.exchange_meaning.specs.Logged.{AreTold}

pub same_self : (n : ℕ) → (n == n) ≡ true
same_self n = grind (arith, nat_tests)

pub told_front : (s : PlainShape) (t : ℕ) (xs ys : List Answered) → AreTold s t (xs ++ ys) → AreTold s t xs
told_front s t [] ys h = tt
told_front s t (x ∷ xs) ys h = (h.0, told_front s t xs ys h.1)

pub told_back : (s : PlainShape) (t : ℕ) (xs ys : List Answered) → AreTold s t (xs ++ ys) → AreTold s t ys
told_back s t [] ys h = h
told_back s t (x ∷ xs) ys h = told_back s t xs ys h.1

pub pairs_snoc : (xs : List Exchange) (os : List Output) (x : Exchange) (o : Output) → length os ≡ length xs → pair_all (xs ++ x ∷ []) (os ++ o ∷ []) ≡ pair_all xs os ++ pair_forks o.jobs x.replies
pairs_snoc [] [] x o c = append-nil (pair_forks o.jobs x.replies)
pairs_snoc [] (p ∷ os) x o c = cc
pairs_snoc (y ∷ xs) [] x o c = cc
pairs_snoc (y ∷ xs) (p ∷ os) x o c =
    let c' : length os ≡ length xs = cc in ap (λ l. pair_forks p.jobs y.replies ++ l) (pairs_snoc xs os x o c') ∙ sym (append_assoc (pair_forks p.jobs y.replies) (pair_all xs os) (pair_forks o.jobs x.replies))

pub all_reply : (os : List Output) (o : Output) (r : Reply) → AllReply os → o.reply ≡ Some r → AllReply (os ++ o ∷ [])
all_reply [] o r h e = ((r, e), tt)
all_reply (p ∷ os) o r h e = (h.0, all_reply os o r h.1 e)

pub jobs_snoc : (xs : List Exchange) (x : Exchange) → map (λ y. y.job) (xs ++ x ∷ []) ≡ map (λ y. y.job) xs ++ x.job ∷ []
jobs_snoc [] x = refl
jobs_snoc (y ∷ xs) x = ap (λ l. y.job ∷ l) (jobs_snoc xs x)

abbrev pub overs : List Written → List Reply
overs [] = []
overs (w ∷ ws) = WasOver ∷ overs ws

pub overs_count : (ws : List Written) → length (overs ws) ≡ length ws
overs_count [] = refl
overs_count (w ∷ ws) = ap suc (overs_count ws)

-- ---- ticks

pub pause_at : (k : PlainKernel) (s : TickState) (old : List TickInput) (t turn : TickInput) (more : List TickInput) → AllButLastPause k s ((old ++ t ∷ []) ++ turn ∷ more) → (tick k t.budget (state_after k s old) t.row).outcome ≡ outcome.Paused
pause_at k s [] t turn more h = h.0
pause_at k s (x ∷ []) t turn more h = pause_at k (next_state k s x) [] t turn more h.1
pause_at k s (x ∷ y ∷ old) t turn more h = pause_at k (next_state k s x) (y ∷ old) t turn more h.1

pub paused_reply : (k : PlainKernel) (T : Tick) (r : Reply) → MeansReply k T r → T.outcome ≡ outcome.Paused → (copies : List VarCopy) × (u : ℕ) × (r ≡ WasPaused copies u)
paused_reply k T (WasPaused copies u) h p = (copies, u, refl)
paused_reply k T (WasEnded copies u) h p = let f = sym p ∙ h.0 in cc
paused_reply k T (WasTrapped place trap u) h p = let f = sym p ∙ h in cc
paused_reply k T WasOver h p = let f = sym p ∙ h in cc

pub last_there : (os : List Output) (o : Output) → AllReply (o ∷ os) → (r : Reply) × (last_reply (o ∷ os) ≡ Some r)
last_there [] o h = (h.0.0, h.0.1)
last_there (p ∷ os) o h = last_there os p h.1

-- ---- one fork more

module _ {S : Type 0} (e : Engine S) (a : ℕ) where
  -- what a fork has of jobs
  abbrev pub ws_at : S → List Seed → List Written
  ws_at st seeds = map (written (a - e.units st)) seeds

  abbrev pub LastFork : S → List Seed → Output → Rest S → Type 0
  LastFork s' seeds o r = (o ≡ ends_at (ws_at s' seeds)) × (r ≡ Nothing)

  abbrev NextFork : List Reply → List (List Reply) → S → List Seed → Output → Rest S → Type 0
  NextFork rs more s' seeds o r = IfElse (length rs == length seeds) ((p : Output) × Serves e a more (e.join rs s') p r × (o ≡ first_jobs (ws_at s' seeds) p)) ((o ≡ ends_at (ws_at s' seeds)) × (r ≡ Nothing))

  -- the thread is served on after a fork
  pub served_on : (st s' : S) (seeds : List Seed) (rs : List Reply) (more : List (List Reply)) (o : Output) (r : Rest S) → Reaches e a st s' → e.view s' ≡ AtFork seeds → length rs ≡ length seeds → Serves e a more (e.join rs s') o r →
      Serves e a (rs ∷ more) st (first_jobs (ws_at s' seeds) o) r
  served_on st s' seeds rs more o r reach is count serves =
      event s' reach (subst (λ v. AtEvent e s' v (NextFork rs more s') (first_jobs (ws_at s' seeds) o) r) (sym is) (by_test (length rs == length seeds) (ap (λ n. length rs == n) (sym count) ∙ same_self (length rs))))
    where
      by_test : (test : Bool) → test ≡ true → IfElse test ((p : Output) × Serves e a more (e.join rs s') p r × (first_jobs (ws_at s' seeds) o ≡ first_jobs (ws_at s' seeds) p)) ((first_jobs (ws_at s' seeds) o ≡ ends_at (ws_at s' seeds)) × (r ≡ Nothing))
      by_test true h = (o, serves, refl)
      by_test false h = cc

-- ---- what the jobs that a thread has done have left

module _ {S : Type 0} (e : Engine S) where
  abbrev Slept : Rest S → Type 0
  Slept r = (s' : S) × (r ≡ Asleep s')

  event_slept : (st : S) (v : View) (fork : List Seed → Output → Rest S → Type 0) (o : Output) (r : Rest S) (c : List VarCopy) (u : ℕ) → o.reply ≡ Some (WasPaused c u) → ((seeds : List Seed) → fork seeds o r → Slept r) →
      AtEvent e st v fork o r → Slept r
  event_slept st Going fork o r c u g f h = absurd h
  event_slept st (AtFork seeds) fork o r c u g f h = f seeds h
  event_slept st (Pausing d) fork o r c u g f h = (st, h.1)
  event_slept st (Ending d) fork o r c u g f h = let bad : Some (WasEnded d (e.units st)) ≡ Some (WasPaused c u) = sym (ap (λ (x : Output). x.reply) h.0) ∙ g in cc
  event_slept st (Trapping place trap) fork o r c u g f h = let bad : Some (WasTrapped place trap (e.units st)) ≡ Some (WasPaused c u) = sym (ap (λ (x : Output). x.reply) h.0) ∙ g in cc
  event_slept st Exceeding fork o r c u g f h = let bad : Some WasOver ≡ Some (WasPaused c u) = sym (ap (λ (x : Output). x.reply) h.0) ∙ g in cc

  runs_slept : (a : ℕ) (st : S) (fork : S → List Seed → Output → Rest S → Type 0) (o : Output) (r : Rest S) (c : List VarCopy) (u : ℕ) → o.reply ≡ Some (WasPaused c u) →
      ((s' : S) (seeds : List Seed) → fork s' seeds o r → Slept r) → RunsOn e a st fork o r → Slept r
  runs_slept a st fork o r c u g f (over x xo xr) = let bad : Some WasOver ≡ Some (WasPaused c u) = sym (ap (λ (q : Output). q.reply) xo) ∙ g in cc
  runs_slept a st fork o r c u g f (event s' x at) = event_slept s' (e.view s') (fork s') o r c u g (f s') at

  none_paused : (o : Output) (ws : List Written) (c : List VarCopy) (u : ℕ) → o ≡ ends_at ws → o.reply ≡ Some (WasPaused c u) → ⊥
  none_paused o ws c u is g = let bad : None ≡ Some (WasPaused c u) = sym (ap (λ (x : Output). x.reply) is) ∙ g in cc

  serves_slept : (a : ℕ) (rss : List (List Reply)) (st : S) (o : Output) (r : Rest S) (c : List VarCopy) (u : ℕ) → o.reply ≡ Some (WasPaused c u) → Serves e a rss st o r → Slept r
  serves_slept a [] st o r c u g h = runs_slept a st _ o r c u g (λ s' seeds x. absurd (none_paused o (map (written (a - e.units s')) seeds) c u x.0 g)) h
  serves_slept a (rs ∷ more) st o r c u g h =
      runs_slept a st _ o r c u g (λ s' seeds x. by_test s' seeds (length rs == length seeds) (λ o1 y z. serves_slept a more (e.join rs s') o1 r c u z y) x) h
    where
      by_test : (s' : S) (seeds : List Seed) (test : Bool) → ((o1 : Output) → Serves e a more (e.join rs s') o1 r → o1.reply ≡ Some (WasPaused c u) → Slept r) →
          IfElse test ((o1 : Output) × Serves e a more (e.join rs s') o1 r × (o ≡ first_jobs (map (written (a - e.units s')) seeds) o1)) ((o ≡ ends_at (map (written (a - e.units s')) seeds)) × (r ≡ Nothing)) → Slept r
      by_test s' seeds true ih x = ih x.0 x.1 (sym (ap (λ (z : Output). z.reply) x.2) ∙ g)
      by_test s' seeds false ih x = absurd (none_paused o (map (written (a - e.units s')) seeds) c u x.0 g)

  -- what the last of these jobs has left
  pub record Left (xs : List Exchange) (first : Rest S) (os : List Output) : Type 0 where
    pub rest : Rest S
    pub then : (x : Exchange) (o : Output) (st : S) (r : Rest S) → Begins e x.job rest st → Serves e (allowance_of x.job) x.replies st o r → Alone e (xs ++ x ∷ []) first (os ++ o ∷ [])
    pub slept : (c : List VarCopy) (u : ℕ) → last_reply os ≡ Some (WasPaused c u) → Slept rest
    pub nothing : length os ≡ 0 → rest ≡ first

  pub left_by : (xs : List Exchange) (first : Rest S) (os : List Output) → Alone e xs first os → Left xs first os
  left_by [] first [] h = record { rest = first; then = λ x o st r b g. (st, r, b, g, tt); slept = λ c u g. cc; nothing = λ n. refl }
  left_by [] first (o ∷ os) h = absurd h
  left_by (x ∷ xs) first [] h = absurd h
  left_by (x ∷ xs) first (o ∷ []) h =
      let l = left_by xs h.1 [] h.4 in
      record {
        rest = l.rest;
        then = λ y p st r b g. (h.0, h.1, h.2, h.3, l.then y p st r b g);
        slept = λ c u g. let w = serves_slept (allowance_of x.job) x.replies h.0 o h.1 c u g h.3 in (w.0, l.nothing refl ∙ w.1);
        nothing = λ n. cc;
      }
  left_by (x ∷ xs) first (o ∷ p ∷ os) h =
      let l = left_by xs h.1 (p ∷ os) h.4 in
      record { rest = l.rest; then = λ y q st r b g. (h.0, h.1, h.2, h.3, l.then y q st r b g); slept = λ c u g. l.slept c u g; nothing = λ n. cc }

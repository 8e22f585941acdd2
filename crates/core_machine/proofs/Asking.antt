-- The jobs that a thread asks of its branches.
use Rattle.std.proofs.Common.{◌≡◌, ◌≢◌, ℕ, ◌-◌, ◌≤◌, ◌==◌, List, [], ◌∷◌, ◌++◌, length, map, None, true, refl, sym, ap, ◌∙◌, subst, arith}
use Rattle.std.proofs.lemmas.Bool.Decides.{nat_tests}
use Rattle.forec_kernel.specs.Engine.{Job, allowance_of, Reply, Seed, Starts, Wakes, Written, written, AtFork, Engine, IsStopped, Rest, Nothing, Exchange, Output, first_jobs, ends_at, AtEvent, event as at_event, IfElse, Serves}
use Rattle.forec_kernel.specs.Reached.{Reached, Inside}
use Rattle.forec_kernel.proofs.ReachedLemmas.{Went, tells, alone_of, alone_snoc}
use Rattle.thread_code.specs.Plain.{PlainCode}
use Rattle.thread_code.specs.Machine.{Machine}
use Rattle.thread_code.specs.Alone.{view_of, machine_units, code_engine}
use Rattle.core_machine.specs.declared.thread.Thread.{Thread}
use Rattle.core_machine.specs.declared.thread.Phase.TheVariants as phase
use Rattle.core_machine.specs.Branches.{HoldsReplies}
use Rattle.core_machine.specs.Held.{machine_in, machine_of, branch_of, WaitsAtFork, HoldsInPhase}
use Rattle.core_machine.specs.Threads.{Loaded, StandsInPhase, StandsFor, never, since, settling, joining, HasSettled}
use Rattle.core_machine.specs.Forks.{seeds_in, jobs_at, WritesJobs}

same_count : (a b : ℕ) → a ≡ b → (a == b) ≡ true
same_count a b h = grind (arith, nat_tests)

module _ (S : Type 0) (e : Engine S) where
  abbrev pub ends_with : List (List Written) → List Written → Output
  ends_with js ws = record { jobs = js ++ ws ∷ []; reply = None }

  count_is : (rs : List Reply) (seeds : List Seed) (A B : Type 0) → length rs ≡ length seeds → A → IfElse (length rs == length seeds) A B
  count_is rs seeds A B c x = subst (λ b. IfElse b A B) (sym (same_count (length rs) (length seeds) c)) x

  pub went_fork : (n : ℕ) (before : List (List Reply)) (s0 : S) (js : List (List Written)) (s : S) (seeds : List Seed) → Went S e n s0 before js s → e.units s ≤ n → e.view s ≡ AtFork seeds →
      Serves e n before s0 (ends_with js (map (written (n - e.units s)) seeds)) Nothing
  went_fork n [] s0 js s seeds h le v =
      let fork : S → List Seed → Output → Rest S → Type 0 = λ s seeds o r. (o ≡ ends_at (map (written (n - e.units s)) seeds)) × (r ≡ Nothing) in
      subst (λ l. Serves e n [] s0 (ends_with l (map (written (n - e.units s)) seeds)) Nothing) (sym h.1)
      (at_event s (record { count = h.0.count; lands = h.0.lands; stops = subst IsStopped (sym v) tt; within = le })
      (subst (λ w. AtEvent e s w (fork s) (ends_with [] (map (written (n - e.units s)) seeds)) Nothing) (sym v) (refl, refl)))
  went_fork n (rs ∷ more) s0 js s seeds h le v =
      let rest = went_fork n more (e.join rs h.0) h.2 s seeds h.7 le v in
      let ws = map (written (n - e.units s)) seeds in
      at_event h.0 h.3
      (subst (λ w. AtEvent e h.0 w (λ seeds o r. IfElse (length rs == length seeds) ((o' : Output) × Serves e n more (e.join rs h.0) o' r × (o ≡ first_jobs (map (written (n - e.units h.0)) seeds) o')) ((o ≡ ends_at (map (written (n - e.units h.0)) seeds)) × (r ≡ Nothing))) (ends_with js ws) Nothing) (sym h.4)
      (count_is rs h.1 _ _ h.5 (ends_with h.2 ws, rest, ap (λ l. ends_with l ws) h.6)))

-- ---- at a fork

module _ (c : PlainCode) (h : Thread) (l : Loaded c h) {k : ℕ} (at : HasSettled h k) where
  pub waits : WaitsAtFork c l.needs h at.before
  waits = subst (HoldsInPhase c l.needs h) at.phase l.placed

  pub machine_is : machine_of c h ≡ machine_in c h (phase.Forked at.before)
  machine_is = ap (machine_in c h) at.phase

  pub view_is : view_of (machine_of c h) ≡ AtFork waits.seeds
  view_is = ap view_of machine_is ∙ waits.view

  pub jobs_are : jobs_at c h ≡ map (written (h.allowance - h.units)) waits.seeds
  jobs_are = ap (λ v. map (written (h.allowance - h.units)) (seeds_in v)) view_is

  pub units_is : machine_units (machine_of c h) ≡ h.units
  units_is = ap machine_units machine_is ∙ waits.units

module _ (c : PlainCode) (h : Thread) (l : Loaded c h) (at : HasSettled h 0) where
  none_settled : (rs : List Reply) → HoldsReplies h.branches rs → rs ≢ [] → ⊥
  none_settled [] s some = some refl
  none_settled (r ∷ rs) s some = let n = ap length s.ended in omega (arith, n, at.count)

  asks_in : (ys : List Exchange) (job : Job) (before : List (List Reply)) → h.allowance ≡ allowance_of job → Reached (code_engine c h.number) ys (Inside job before (machine_of c h)) → WritesJobs c h.number (ys ++ record { job = job; replies = before } ∷ []) (jobs_at c h)
  asks_in ys job before al reached =
      let e = code_engine c h.number in
      let t = tells Machine e ys (Inside job before (machine_of c h)) reached in
      let ws = map (written (allowance_of job - machine_units (machine_of c h))) (waits c h l at).seeds in
      let same : ws ≡ jobs_at c h = ap (λ a. map (written (a - machine_units (machine_of c h))) (waits c h l at).seeds) (sym al) ∙ ap (λ u. map (written (h.allowance - u)) (waits c h l at).seeds) (units_is c h l at) ∙ sym (jobs_are c h l at) in
      let serves = went_fork Machine e (allowance_of job) before t.2 t.3 (machine_of c h) (waits c h l at).seeds t.6 (omega (arith, al, (units_is c h l at), at.within)) (view_is c h l at) in
      let out = ends_with Machine e t.3 ws in
      subst (WritesJobs c h.number (ys ++ record { job = job; replies = before } ∷ [])) same
      (record {
        outputs = t.0;
        forks = t.3;
        runs = alone_of Machine e (ys ++ record { job = job; replies = before } ∷ []) Nothing Nothing (t.0 ++ out ∷ [])
            (alone_snoc Machine e ys (record { job = job; replies = before }) Nothing t.1 Nothing t.0 t.2 out t.4 t.5 serves);
      })

  pub asks : (xs : List Exchange) → StandsFor c h xs → WritesJobs c h.number xs (jobs_at c h)
  asks xs (never fresh) = let e = sym fresh ∙ at.phase in cc
  asks xs (since ys job before m al reached st) =
      let s = subst (λ p. StandsInPhase c h p m) at.phase st in
      asks_in ys job before al (subst (λ m. Reached (code_engine c h.number) ys (Inside job before m)) (s.0 ∙ sym (machine_is c h l at)) reached)
  asks xs (settling ys job before rs al reached w some says) = absurd (none_settled rs says some)
  asks xs (joining ys job before rs m al reached e n st) = let f = sym e ∙ at.phase in cc

  branches_written : (a : ℕ) (seeds : List Seed) → map (λ (w : Written). w.branch) (map (written a) seeds) ≡ map branch_of seeds
  branches_written a [] = refl
  branches_written a (Starts b args values ∷ seeds) = ap (λ l. b ∷ l) (branches_written a seeds)
  branches_written a (Wakes b values ∷ seeds) = ap (λ l. b ∷ l) (branches_written a seeds)

  pub branches_are : h.branches.numbers ≡ map (λ (w : Written). w.branch) (jobs_at c h)
  branches_are = (waits c h l at).numbers ∙ sym (branches_written (h.allowance - h.units) (waits c h l at).seeds) ∙ sym (ap (map (λ (w : Written). w.branch)) (jobs_are c h l at))

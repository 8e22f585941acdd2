-- Where a thread of a valid code is, by what it has heard.
use Rattle.std.proofs.Common.{◌≡◌, ℕ, zero, suc, ◌+◌, ◌-◌, ◌<◌, ◌≤◌, true, false, Some, List, [], ◌∷◌, ◌++◌, map, length, get_or, refl, sym, ap, ◌∙◌, subst, append_assoc, append-nil, arith}
use Rattle.std.specs.Prelude.{replicate}
use Rattle.forec_kernel.specs.Engine.{Job, Start, Wake, allowance_of, Reply, WasOver, Seed, Written, written, AtFork, Engine, run_for, IsStopped, Rest, Asleep, Nothing, Exchange, Output, Begins, Serves, Answered, pair_up, pair_forks, pair_all, AllReply}
use Rattle.forec_kernel.specs.Reached.{Position, AtRest, Inside, Reached, none, begun, stepped, joined, answered, exceeded, Closes, AloneTo}
use Rattle.forec_kernel.proofs.Same.{IsSteady, one_stop}
use Rattle.forec_kernel.proofs.ReachedLemmas.{Went, alone_snoc, went_answer, went_over}
use Rattle.thread_code.specs.Plain.{PlainCode}
use Rattle.thread_code.specs.Valid.{IsValidCode}
use Rattle.thread_code.specs.Machine.{Machine, On, Waits, Merges, Failing, Paused, Ended, Trapped, Exceeded, Stuck}
use Rattle.thread_code.specs.Alone.{block_of, view_of, machine_units, code_engine}
use Rattle.thread_code.proofs.Unstuck.{reached_good}
use Rattle.tick_jobs.specs.Writing.{Wrote}
use Rattle.tick_jobs.proofs.AtEachFork.{Lively, Fine, step_fine, join_fine}

-- ---- runs and jobs

module _ (S : Type 0) (e : Engine S) where
  run_add : (n k : ℕ) (s : S) → run_for e.step (n + k) s ≡ run_for e.step k (run_for e.step n s)
  run_add zero k s = let h : zero + k ≡ k = omega arith in ap (λ n. run_for e.step n s) h
  run_add (suc n) k s = let h : suc n + k ≡ suc (n + k) = omega arith in ap (λ j. run_for e.step j s) h ∙ run_add n k (e.step s)

  went_step : (n : ℕ) (before : List (List Reply)) (s0 : S) (js : List (List Written)) (s s' : S) → Went S e n s0 before js s → e.step s ≡ s' → Went S e n s0 before js s'
  went_step n [] s0 js s s' h g = (record { count = h.0.count + 1; lands = run_add h.0.count 1 s0 ∙ ap e.step h.0.lands ∙ g }, h.1)
  went_step n (rs ∷ more) s0 js s s' h g = (h.0, h.1, h.2, h.3, h.4, h.5, h.6, went_step n more (e.join rs h.0) h.2 s s' h.7 g)

  pub went_join : (n : ℕ) (before : List (List Reply)) (rs : List Reply) (seeds : List Seed) (s0 : S) (js : List (List Written)) (s : S) → Went S e n s0 before js s → e.view s ≡ AtFork seeds → e.units s ≤ n → length rs ≡ length seeds →
      Went S e n s0 (before ++ rs ∷ []) (js ++ map (written (n - e.units s)) seeds ∷ []) (e.join rs s)
  went_join n [] rs seeds s0 js s h v le c =
      (s, seeds, [], record { count = h.0.count; lands = h.0.lands; stops = subst IsStopped (sym v) tt; within = le }, v, c, ap (λ l. l ++ map (written (n - e.units s)) seeds ∷ []) h.1, (record { count = 0; lands = refl }, refl))
  went_join n (qs ∷ more) rs seeds s0 js s h v le c =
      (h.0, h.1, h.2 ++ map (written (n - e.units s)) seeds ∷ [], h.3, h.4, h.5, ap (λ l. l ++ map (written (n - e.units s)) seeds ∷ []) h.6, went_join n more rs seeds (e.join qs h.0) h.2 s h.7 v le c)

  pub wrote_of : (n : ℕ) (before : List (List Reply)) (s0 : S) (js : List (List Written)) (s : S) → Went S e n s0 before js s → Wrote e n s0 before js
  wrote_of n [] s0 js s h = h.1
  wrote_of n (rs ∷ more) s0 js s h = (h.0, h.1, h.2, h.3, h.4, h.5, h.6, wrote_of n more (e.join rs h.0) h.2 s h.7)

  pub wrote_count : (n : ℕ) (before : List (List Reply)) (s0 : S) (js : List (List Written)) → Wrote e n s0 before js → length js ≡ length before
  wrote_count n [] s0 js h = ap length h
  wrote_count n (rs ∷ more) s0 js h = ap length h.6 ∙ ap suc (wrote_count n more (e.join rs h.0) h.2 h.7)

  seeds_once : (x y : List Seed) → AtFork x ≡ AtFork y → x ≡ y
  seeds_once x y h = cc

  module _ (steady : IsSteady e) where
    pub wrote_once : (n : ℕ) (before : List (List Reply)) (s0 : S) (js ks : List (List Written)) → Wrote e n s0 before js → Wrote e n s0 before ks → js ≡ ks
    wrote_once n [] s0 js ks h g = h ∙ sym g
    wrote_once n (rs ∷ more) s0 js ks h g =
        let same = one_stop S e steady n s0 h.0 g.0 h.3 g.3 in
        let seeds = seeds_once h.1 g.1 (sym h.4 ∙ ap e.view same ∙ g.4) in
        let rest = wrote_once n more (e.join rs h.0) h.2 g.2 h.7 (subst (λ s. Wrote e n (e.join rs s) more g.2) (sym same) g.7) in
        h.6 ∙ ap (λ l. map (written (n - e.units h.0)) h.1 ∷ l) rest ∙ ap (λ l. map (written (n - e.units h.0)) l ∷ g.2) seeds ∙ ap (λ s. map (written (n - e.units s)) g.1 ∷ g.2) same ∙ sym g.6

-- ---- pairs

pub forks_then : (js : List (List Written)) (before : List (List Reply)) (ws : List Written) (rs : List Reply) → length js ≡ length before →
    pair_forks (js ++ ws ∷ []) (before ++ rs ∷ []) ≡ pair_forks js before ++ pair_up ws rs
forks_then [] [] ws rs h = append-nil (pair_up ws rs)
forks_then [] (b ∷ bs) ws rs h = absurd (omega arith)
forks_then (j ∷ js) [] ws rs h = absurd (omega arith)
forks_then (j ∷ js) (b ∷ bs) ws rs h = ap (λ l. pair_up j b ++ l) (forks_then js bs ws rs (omega (arith, h))) ∙ sym (append_assoc (pair_up j b) (pair_forks js bs) (pair_up ws rs))

pub all_then : (xs : List Exchange) (os : List Output) (x : Exchange) (o : Output) → length xs ≡ length os → pair_all (xs ++ x ∷ []) (os ++ o ∷ []) ≡ pair_all xs os ++ pair_forks o.jobs x.replies
all_then [] [] x o h = append-nil (pair_forks o.jobs x.replies)
all_then [] (p ∷ os) x o h = absurd (omega arith)
all_then (y ∷ xs) [] x o h = absurd (omega arith)
all_then (y ∷ xs) (p ∷ os) x o h = ap (λ l. pair_forks p.jobs y.replies ++ l) (all_then xs os x o (omega (arith, h))) ∙ sym (append_assoc (pair_forks p.jobs y.replies) (pair_all xs os) (pair_forks o.jobs x.replies))

pub reply_then : (os : List Output) (o : Output) (r : Reply) → AllReply os → o.reply ≡ Some r → AllReply (os ++ o ∷ [])
reply_then [] o r h e = ((r, e), tt)
reply_then (p ∷ os) o r h e = (h.0, reply_then os o r h.1 e)

pub alone_count : {S : Type 0} → (e : Engine S) (xs : List Exchange) (r r' : Rest S) (os : List Output) → AloneTo e xs r os r' → length xs ≡ length os
alone_count e [] r r' [] h = refl
alone_count e [] r r' (o ∷ os) h = absurd h
alone_count e (x ∷ xs) r r' [] h = absurd h
alone_count e (x ∷ xs) r r' (o ∷ os) h = ap suc (alone_count e xs h.1 r' os h.4)

-- ---- positions

module _ (c : PlainCode) (valid : IsValidCode c) (t : ℕ) (lt : t < length c.threads) where
  abbrev e : Engine Machine
  e = code_engine c t

  -- what a Wake finds
  abbrev pub Rested : List Answered → Rest Machine → Type 0
  Rested past (Asleep (Paused wake o u)) = (wake.steps ≡ (block_of c t).steps) × Lively past o.live
  Rested past (Asleep _) = ⊥
  Rested past Nothing = Unit {0}

  closes_rested : (n : ℕ) (past : List Answered) (s : Machine) (o : Reply) (r : Rest Machine) → Closes e s (view_of s) o r → Fine c valid t n past s → Rested past r
  closes_rested n past (On p fs w u) o r h f = absurd h
  closes_rested n past (Waits a w u) o r h f = absurd h
  closes_rested n past (Merges m w u) o r h f = absurd h
  closes_rested n past (Failing place trap u) o r h f = absurd h
  closes_rested n past (Paused wake w u) o r h f = subst (Rested past) (sym h.1) f
  closes_rested n past (Ended w u) o r h f = subst (Rested past) (sym h.1) tt
  closes_rested n past (Trapped place trap u) o r h f = subst (Rested past) (sym h.1) tt
  closes_rested n past (Exceeded u) o r h f = subst (Rested past) (sym h.1) tt
  closes_rested n past (Stuck u) o r h f = absurd h

  none_live : (n b : ℕ) → get_or (replicate n false) b false ≡ true → ⊥
  none_live zero zero h = cc
  none_live zero (suc b) h = cc
  none_live (suc n) zero h = cc
  none_live (suc n) (suc b) h = none_live n b h

  pub begins_fine : (past : List Answered) (job : Job) (r : Rest Machine) (s : Machine) → Rested past r → Begins e job r s → Fine c valid t 0 past s
  begins_fine past (Start args values a) r s h b =
      subst (Fine c valid t 0 past) (sym b) ((refl, omega arith), λ b alive. absurd (none_live (length c.shape.threads) b alive))
  begins_fine past (Wake values a) (Asleep (Paused wake o u)) s h b = subst (Fine c valid t 0 past) (sym b) ((h.0, omega arith), h.1)
  begins_fine past (Wake values a) (Asleep (On p fs o u)) s h b = absurd h
  begins_fine past (Wake values a) (Asleep (Waits w o u)) s h b = absurd h
  begins_fine past (Wake values a) (Asleep (Merges m o u)) s h b = absurd h
  begins_fine past (Wake values a) (Asleep (Failing place trap u)) s h b = absurd h
  begins_fine past (Wake values a) (Asleep (Ended o u)) s h b = absurd h
  begins_fine past (Wake values a) (Asleep (Trapped place trap u)) s h b = absurd h
  begins_fine past (Wake values a) (Asleep (Exceeded u)) s h b = absurd h
  begins_fine past (Wake values a) (Asleep (Stuck u)) s h b = absurd h
  begins_fine past (Wake values a) Nothing s h b = absurd b

  pub record Resting (xs : List Exchange) (r : Rest Machine) : Type 0 where
    pub outputs : List Output
    pub alone : AloneTo e xs Nothing outputs r
    pub complete : AllReply outputs
    pub rested : Rested (pair_all xs outputs) r

  pub record Working (xs : List Exchange) (job : Job) (before : List (List Reply)) (s : Machine) : Type 0 where
    pub outputs : List Output
    pub rest : Rest Machine
    pub begin : Machine
    pub forks : List (List Written)
    pub alone : AloneTo e xs Nothing outputs rest
    pub begins : Begins e job rest begin
    pub went : Went Machine e (allowance_of job) begin before forks s
    pub complete : AllReply outputs
    pub fine : Fine c valid t (length before) (pair_all xs outputs ++ pair_forks forks before) s

  abbrev pub Follows : List Exchange → Position Machine → Type 0
  Follows xs (AtRest r) = Resting xs r
  Follows xs (Inside job before s) = Working xs job before s

  closed : (ys : List Exchange) (job : Job) (before : List (List Reply)) (s : Machine) (w : Working ys job before s) (o : Reply) (r : Rest Machine) →
      Serves e (allowance_of job) before w.begin (record { jobs = w.forks; reply = Some o }) r → Rested (pair_all ys w.outputs ++ pair_forks w.forks before) r →
      Resting (ys ++ record { job = job; replies = before } ∷ []) r
  closed ys job before s w o r served rested =
      let x : Exchange = record { job = job; replies = before } in
      let out : Output = record { jobs = w.forks; reply = Some o } in
      record {
        outputs = w.outputs ++ out ∷ [];
        alone = alone_snoc Machine e ys x Nothing w.rest r w.outputs w.begin out w.alone w.begins served;
        complete = reply_then w.outputs out o w.complete refl;
        rested = subst (λ l. Rested l r) (sym (all_then ys w.outputs x out (alone_count e ys Nothing w.rest w.outputs w.alone))) rested;
      }

  length_then : {A : Type 0} → (l : List A) (x : A) → length l + 1 ≡ length (l ++ x ∷ [])
  length_then [] x = refl
  length_then (y ∷ l) x = let ih = length_then l x in omega (arith, ih)

  pub follows : (xs : List Exchange) (p : Position Machine) → Reached e xs p → Follows xs p
  follows xs p none = record { outputs = []; alone = refl; complete = tt; rested = tt }
  follows xs p (begun ys job r s h b) =
      let w = follows ys (AtRest r) h in
      record {
        outputs = w.outputs;
        rest = r;
        begin = s;
        forks = [];
        alone = w.alone;
        begins = b;
        went = (record { count = 0; lands = refl }, refl);
        complete = w.complete;
        fine = subst (λ l. Fine c valid t 0 l s) (sym (append-nil (pair_all ys w.outputs))) (begins_fine (pair_all ys w.outputs) job r s w.rested b);
      }
  follows xs p (stepped ys job before s s' h g) =
      let w = follows ys (Inside job before s) h in
      record {
        outputs = w.outputs;
        rest = w.rest;
        begin = w.begin;
        forks = w.forks;
        alone = w.alone;
        begins = w.begins;
        went = went_step Machine e (allowance_of job) before w.begin w.forks s s' w.went g;
        complete = w.complete;
        fine = subst (Fine c valid t (length before) (pair_all ys w.outputs ++ pair_forks w.forks before)) g
            (step_fine c valid t (length before) (pair_all ys w.outputs ++ pair_forks w.forks before) s (reached_good c valid t lt ys (Inside job before s) h) w.fine);
      }
  follows xs p (joined ys job before rs seeds s h v le count) =
      let w = follows ys (Inside job before s) h in
      let n = allowance_of job in
      let ws = map (written (n - machine_units s)) seeds in
      let pairs =
      append_assoc (pair_all ys w.outputs) (pair_forks w.forks before) (pair_up ws rs)
      ∙ ap (λ l. pair_all ys w.outputs ++ l) (sym (forks_then w.forks before ws rs (wrote_count Machine e n before w.begin w.forks (wrote_of Machine e n before w.begin w.forks s w.went)))) in
      record {
        outputs = w.outputs;
        rest = w.rest;
        begin = w.begin;
        forks = w.forks ++ ws ∷ [];
        alone = w.alone;
        begins = w.begins;
        went = went_join Machine e n before rs seeds w.begin w.forks s w.went v le count;
        complete = w.complete;
        fine = subst (λ k. Fine c valid t k (pair_all ys w.outputs ++ pair_forks (w.forks ++ ws ∷ []) (before ++ rs ∷ [])) (e.join rs s)) (length_then before rs)
            (subst (λ l. Fine c valid t (length before + 1) l (e.join rs s)) pairs
            (join_fine c valid t (length before) (pair_all ys w.outputs ++ pair_forks w.forks before) (n - machine_units s) rs s seeds v count w.fine));
      }
  follows xs p (answered ys job before s o r h le a) =
      let w = follows ys (Inside job before s) h in
      closed ys job before s w o r (went_answer Machine e (allowance_of job) before w.begin w.forks s o r w.went le a) (closes_rested (length before) (pair_all ys w.outputs ++ pair_forks w.forks before) s o r a w.fine)
  follows xs p (exceeded ys job before s h less) =
      let w = follows ys (Inside job before s) h in
      closed ys job before s w WasOver Nothing (went_over Machine e (allowance_of job) before w.begin w.forks s w.went less) tt

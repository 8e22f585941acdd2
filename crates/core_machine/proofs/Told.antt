-- What a thread has told before it comes to a place: each earlier job has its reply.
use Rattle.std.proofs.Common.{◌≡◌, ℕ, zero, suc, ◌+◌, ◌-◌, ◌≤◌, List, [], ◌∷◌, ◌++◌, Some, map, length, refl, sym, ap, ◌∙◌, subst, arith}
use Rattle.forec_kernel.specs.Engine.{allowance_of, Reply, WasOver, Seed, Written, written, AtFork, Engine, run_for, IsStopped, Rest, Nothing, Output, Exchange, Begins, AllReply}
use Rattle.forec_kernel.specs.Reached.{AloneTo, Position, AtRest, Inside, Reached, none, begun, stepped, joined, answered, exceeded}
use Rattle.forec_kernel.proofs.ReachedLemmas.{Went, alone_snoc, went_answer, went_over}
use Rattle.forec_kernel.proofs.Agree.{answers_join}
use Rattle.thread_code.specs.Alone.{CodeAlone}
use Rattle.core_machine.specs.Replies.{RepliesAnswer}

run_more : {S : Type 0} → (f : S → S) (n : ℕ) (s : S) → run_for f (n + 1) s ≡ f (run_for f n s)
run_more f zero s = refl
run_more f (suc n) s = let h : suc n + 1 ≡ suc (n + 1) = omega arith in ap (λ k. run_for f k s) h ∙ run_more f n (f s)

pub all_then : (os : List Output) (o : Output) (r : Reply) → AllReply os → o.reply ≡ Some r → AllReply (os ++ o ∷ [])
all_then [] o r h e = ((r, e), tt)
all_then (p ∷ os) o r h e = (h.0, all_then os o r h.1 e)

module _ (S : Type 0) (e : Engine S) where
  went_step : (n : ℕ) (before : List (List Reply)) (s0 : S) (js : List (List Written)) (s s' : S) → Went S e n s0 before js s → e.step s ≡ s' → Went S e n s0 before js s'
  went_step n [] s0 js s s' h g = (record { count = h.0.count + 1; lands = run_more e.step h.0.count s0 ∙ ap e.step h.0.lands ∙ g }, h.1)
  went_step n (rs ∷ more) s0 js s s' h g = (h.0, h.1, h.2, h.3, h.4, h.5, h.6, went_step n more (e.join rs h.0) h.2 s s' h.7 g)

  went_join : (n : ℕ) (before : List (List Reply)) (rs : List Reply) (seeds : List Seed) (s0 : S) (js : List (List Written)) (s : S) → Went S e n s0 before js s → e.view s ≡ AtFork seeds → e.units s ≤ n → length rs ≡ length seeds →
      Went S e n s0 (before ++ rs ∷ []) (js ++ map (written (n - e.units s)) seeds ∷ []) (e.join rs s)
  went_join n [] rs seeds s0 js s h v le c =
      (s, seeds, [], record { count = h.0.count; lands = h.0.lands; stops = subst IsStopped (sym v) tt; within = le }, v, c, ap (λ l. l ++ map (written (n - e.units s)) seeds ∷ []) h.1, (record { count = 0; lands = refl }, refl))
  went_join n (qs ∷ more) rs seeds s0 js s h v le c =
      (h.0, h.1, h.2 ++ map (written (n - e.units s)) seeds ∷ [], h.3, h.4, h.5, ap (λ l. l ++ map (written (n - e.units s)) seeds ∷ []) h.6, went_join n more rs seeds (e.join qs h.0) h.2 s h.7 v le c)

  abbrev pub Told : List Exchange → Position S → Type 0
  Told xs (AtRest r) = (os : List Output) × AloneTo e xs Nothing os r × AllReply os
  Told xs (Inside job before s) =
      (os : List Output) × (r : Rest S) × (s0 : S) × (js : List (List Written)) × AloneTo e xs Nothing os r × Begins e job r s0 × Went S e (allowance_of job) s0 before js s × AllReply os

  pub told : (xs : List Exchange) (p : Position S) → Reached e xs p → Told xs p
  told xs p none = ([], refl, tt)
  told xs p (begun ys job r s h b) = let t = told ys (AtRest r) h in (t.0, r, s, [], t.1, b, (record { count = 0; lands = refl }, refl), t.2)
  told xs p (stepped ys job before s s' h g) =
      let t = told ys (Inside job before s) h in
      (t.0, t.1, t.2, t.3, t.4, t.5, went_step (allowance_of job) before t.2 t.3 s s' t.6 g, t.7)
  told xs p (joined ys job before rs seeds s h v le c) =
      let t = told ys (Inside job before s) h in
      (t.0, t.1, t.2, _, t.4, t.5, went_join (allowance_of job) before rs seeds t.2 t.3 s t.6 v le c, t.7)
  told xs p (answered ys job before s o r h le a) =
      let t = told ys (Inside job before s) h in
      let out : Output = record { jobs = t.3; reply = Some o } in
      (t.0 ++ out ∷ [], alone_snoc S e ys (record { job = job; replies = before }) Nothing t.1 r t.0 t.2 out t.4 t.5 (went_answer S e (allowance_of job) before t.2 t.3 s o r t.6 le a), all_then t.0 out o t.7 refl)
  told xs p (exceeded ys job before s h lt) =
      let t = told ys (Inside job before s) h in
      let out : Output = record { jobs = t.3; reply = Some WasOver } in
      (t.0 ++ out ∷ [], alone_snoc S e ys (record { job = job; replies = before }) Nothing t.1 Nothing t.0 t.2 out t.4 t.5 (went_over S e (allowance_of job) before t.2 t.3 s t.6 lt), all_then t.0 out WasOver t.7 refl)

pub replies_answer : RepliesAnswer
replies_answer c t xs p jobs lt g are branches = record {
  plain_jobs = map (λ (x : Exchange). x.job) xs;
  plain_reply = g.reply;
  jobs_are = are;
  reply_is = g.is;
  answers = answers_join (CodeAlone c) (length c.threads) t (map (λ (x : Exchange). x.job) xs) g.reply lt (record {
    exchanges = xs;
    outputs = g.outputs;
    runs = g.runs;
    jobs_are = refl;
    complete = g.complete;
    allowed = branches g.outputs g.runs;
    gives = g.last;
  });
}

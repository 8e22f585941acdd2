-- The branches of a fork are called one by one.
use Rattle.std.proofs.Common.{◌≡◌, ℕ, zero, suc, ◌+◌, ◌<◌, ◌≤◌, Some, List, [], ◌∷◌, ◌++◌, length, refl, sym, ap, ◌∙◌, subst, append_assoc, append-nil, ⊎_elim, inl, inr, arith}
use Rattle.std.specs.Prelude.{slice_get, ◌⊎◌}
use Rattle.std.proofs.lemmas.Option.{slice_get_within}
use Rattle.forec_kernel.specs.Engine.{Job, Start, Wake, Reply, Written, Answered, pair_up, Answers}
use Rattle.thread_code.specs.Plain.{PlainCode, plain_code}
use Rattle.thread_code.specs.Alone.{CodeAlone}
use Rattle.core_machine.specs.declared.thread.Thread.{Thread}
use Rattle.core_machine.specs.Threads.{Loaded, StandsFor}
use Rattle.core_machine.specs.Forks.{jobs_at, with_replies}
use Rattle.tick_jobs.specs.Branches.{IsBranchOf}
use Rattle.tick_jobs.proofs.Lists.{some_once, at_map}
use Rattle.tick_jobs.proofs.Pairs.{pairs_more, no_pairs}
use Rattle.one_core.specs.Seats.{Seated, seated_code, KeepsSeatsBelow}
use Rattle.tick_jobs.specs.Told.{Book, IsAsleep, MayTell, MayTellJob}
use Rattle.one_core.specs.Told.{HasToldBranches}
use Rattle.one_core.specs.Resting.{RestAbove}
use Rattle.one_core.specs.Called.{IsLoadedFork, CanTell, CanCall, BranchHasReply, WasCalled, BranchHasReplied, SettlesReply, BranchesHaveReplies, HaveCalled, HasSettledReplies}
use Rattle.one_core.proofs.TellLemmas.{keeps_same, keeps_then, leaves_same, leaves_then, told_more}

pub consulted_none : (a : Seated) (h : Thread) → HasSettledReplies a a h h 0
consulted_none a h = record {
  within = omega arith;
  leaves = leaves_same h.number a;
  replies = [];
  count = refl;
  heard = λ i number r at there. none_there i r there;
  called = λ book can. record {
    after = book;
    above = can.above;
    keeps = keeps_same (seated_code a) h.number book;
    told = λ pairs told. subst (HasToldBranches (seated_code a) h.number book) (sym (append-nil pairs) ∙ ap (λ l. pairs ++ l) (sym (no_pairs (jobs_at (seated_code a) h)))) told;
    rest = λ i w le at. can.each i w at;
  };
  settled = λ xs before. before;
}
  where
    none_there : {A : Type 0} (i : ℕ) (r : Reply) → slice_get [] i ≡ Some r → A
    none_there zero r e = cc
    none_there (suc i) r e = cc

job_keeps : (c : PlainCode) (a b : Book) (t : ℕ) (j : Job) → b t ≡ a t → MayTell c a t j → MayTell c b t j
job_keeps c a b t (Start args values n) e h = tt
job_keeps c a b t (Wake values n) e h = subst (IsAsleep c t) (sym e) h

-- the next branch
module _ (a b : Seated) (h h1 : Thread) (k number : ℕ) (fork : IsLoadedFork (seated_code a) h) (done : HasSettledReplies a b h h1 k) (number1 : h1.number ≡ h.number) (jobs1 : jobs_at (seated_code a) h1 ≡ jobs_at (seated_code a) h)
    (at : slice_get h.branches.numbers k ≡ Some number) where
  abbrev c : PlainCode
  c = seated_code a

  job : (w : Written) × (slice_get (jobs_at c h) k ≡ Some w) × (w.branch ≡ number)
  job = at_map (λ w. w.branch) (jobs_at c h) k number (ap (λ l. slice_get l k) (sym fork.numbers) ∙ at)

  -- it can be called
  pub can_call : (book : Book) (can : CanTell a h book) → CanCall b h1 k number (done.called book can).after
  can_call book can =
      let w = done.called book can in
      record {
        above = subst (RestAbove b w.after) (sym number1) w.above;
        job = job.0;
        at = subst (λ x. slice_get (jobs_at (plain_code x) h1) k ≡ Some job.0) (sym done.leaves.code) (ap (λ l. slice_get l k) jobs1 ∙ job.1);
        number = job.2;
        is = subst (λ x. MayTellJob (plain_code x) w.after h1.number job.0) (sym done.leaves.code) (subst (λ t. MayTellJob c w.after t job.0) (sym number1) (w.rest k job.0 (omega arith) job.1));
      }

  pub some_call : (book : Book) × CanTell a h book → (book : Book) × CanCall b h1 k number book
  some_call some = ((done.called some.0 some.1).after, can_call some.0 some.1)

  module _ (some : (book : Book) × CanTell a h book) (d : Seated) (leaves : KeepsSeatsBelow number b d) (calls : BranchHasReplied b d h1 k number) where
    low : h.number < number
    unfolding job can_call
    low = let x = (can_call some.0 some.1).is.above in let y = job.2 in subst (λ t. t < number) number1 (subst (λ n. h1.number < n) job.2 x)

    -- an earlier branch has a smaller number
    earlier : (i n : ℕ) → i < k → slice_get h.branches.numbers i ≡ Some n → n < number
    earlier i n lt at' =
        let w = at_map (λ w. w.branch) (jobs_at c h) i n (ap (λ l. slice_get l i) (sym fork.numbers) ∙ at') in
        let o = fork.order i k w.0 job.0 lt w.1 job.1 in
        let x = w.2 in
        let y = job.2 in omega (arith, o, x, y)

    still_heard : (n : ℕ) (q : Reply) → n < number → BranchHasReply b n q → BranchHasReply d n q
    still_heard n q lt old = record {
      thread = old.thread;
      sits = record {
        at = leaves.seats n lt ∙ old.sits.at;
        loaded = subst (λ x. Loaded (plain_code x) old.thread) (sym leaves.code) old.sits.loaded;
        number = old.sits.number;
      };
      replied = old.replied;
      reply = old.reply;
    }

    last_or : (l : List Reply) (r : Reply) (i : ℕ) (q : Reply) → slice_get (l ++ r ∷ []) i ≡ Some q → ((i ≡ length l) × (q ≡ r)) ⊎ (slice_get l i ≡ Some q)
    last_or [] r zero q e = inl (refl, sym (some_once r q e))
    last_or [] r (suc zero) q e = cc
    last_or [] r (suc (suc i)) q e = cc
    last_or (x ∷ l) r zero q e = inr e
    last_or (x ∷ l) r (suc i) q e = ⊎_elim (λ p. inl (ap suc p.0, p.1)) (λ p. inr p) (last_or l r i q e)

    count_then : (l : List Reply) (r : Reply) → length (l ++ r ∷ []) ≡ length l + 1
    count_then [] r = refl
    count_then (x ∷ l) r = let ih = count_then l r in omega (arith, ih)

    more_heard : (i n : ℕ) (q : Reply) → slice_get h.branches.numbers i ≡ Some n → slice_get (done.replies ++ calls.reply ∷ []) i ≡ Some q → BranchHasReply d n q
    more_heard i n q at' there =
        ⊎_elim
        (λ p. let same : i ≡ k = p.0 ∙ done.count in
        let branch : number ≡ n = some_once number n (sym at ∙ ap (λ z. slice_get h.branches.numbers z) (sym same) ∙ at') in
        subst (λ z. BranchHasReply d z q) branch (subst (BranchHasReply d number) (sym p.1) calls.heard))
        (λ old. let lt = slice_get_within done.replies i q old in
        still_heard n q (earlier i n (omega (arith, lt, done.count)) at') (done.heard i n q at' old))
        (last_or done.replies calls.reply i q there)

    module _ (book : Book) (can : CanTell a h book) where
      abbrev w : HaveCalled a b h k book done.replies
      w = done.called book can

      abbrev now : WasCalled b d h1 w.after job.0 calls.reply
      unfolding job can_call
      now = calls.called w.after (can_call book can)

      its : MayTellJob c w.after h.number job.0
      its = w.rest k job.0 (omega arith) job.1

      in_b : (p j : ℕ) → IsBranchOf c.shape p j → IsBranchOf (seated_code b).shape p j
      in_b p j own = subst (λ x. IsBranchOf (plain_code x).shape p j) (sym done.leaves.code) own

      others : (j : ℕ) → IsBranchOf c.shape h.number j → (suc j ≡ suc its.place → ⊥) → now.after (suc j) ≡ w.after (suc j)
      others j own n = now.others j (subst (λ t. IsBranchOf (seated_code b).shape t j) (sym number1) (in_b h.number j own)) (λ e. n (e ∙ its.branch))

      told : (pairs : List Answered) → HasToldBranches c h.number book pairs → HasToldBranches c h.number now.after (pairs ++ pair_up (jobs_at c h) (done.replies ++ calls.reply ∷ []))
      told pairs before =
          let all = pairs ++ pair_up (jobs_at c h) done.replies in
          let at_suc = subst (λ t. now.after t ≡ w.after t ++ job.0.job ∷ []) its.branch now.told in
          let answers = subst (λ t. Answers (CodeAlone c) (length c.threads) t (now.after t) calls.reply) its.branch
          (subst (λ x. Answers (CodeAlone (plain_code x)) (length (plain_code x).threads) job.0.branch (now.after job.0.branch) calls.reply) done.leaves.code now.answers) in
          let lt = its.above in
          let is = its.branch in
          let new = told_more c h.number w.after now.after its.place (omega (arith, lt, is)) job.0.job calls.reply at_suc others all its.mine answers (w.told pairs before) in
          let named : all ++ record { branch = suc its.place; job = job.0.job; reply = calls.reply } ∷ [] ≡ pairs ++ pair_up (jobs_at c h) (done.replies ++ calls.reply ∷ []) =
          ap (λ n. all ++ record { branch = n; job = job.0.job; reply = calls.reply } ∷ []) (sym its.branch)
          ∙ append_assoc pairs (pair_up (jobs_at c h) done.replies) (record { branch = job.0.branch; job = job.0.job; reply = calls.reply } ∷ [])
          ∙ ap (λ l. pairs ++ l) (sym (pairs_more (jobs_at c h) done.replies job.0 calls.reply (ap (λ i. slice_get (jobs_at c h) i) done.count ∙ job.1))) in
          subst (HasToldBranches c h.number now.after) named new

      later : (i : ℕ) (v : Written) → k + 1 ≤ i → slice_get (jobs_at c h) i ≡ Some v → MayTellJob c now.after h.number v
      later i v le at' =
          let it = w.rest i v (omega (arith, le)) at' in
          let o = fork.order k i job.0 v (omega (arith, le)) job.1 at' in
          let b1 = it.branch in
          let b2 = its.branch in
          let same : now.after v.branch ≡ w.after v.branch =
          subst (λ t. now.after t ≡ w.after t) (sym it.branch) (others it.place it.mine (λ e. omega (arith, e, o, b1, b2))) in
          record {
            place = it.place;
            branch = it.branch;
            mine = it.mine;
            inside = it.inside;
            above = it.above;
            may = job_keeps c w.after now.after v.branch v.job same it.may;
          }

      called_more : HaveCalled a d h (k + 1) book (done.replies ++ calls.reply ∷ [])
      called_more = record {
        after = now.after;
        above = subst (RestAbove d now.after) number1 now.above;
        keeps = keeps_then c h.number book w.after now.after w.keeps (λ p j own lt. now.keeps p j (in_b p j own) (omega (arith, lt, number1)));
        told = told;
        rest = later;
      }

    pub consulted_more : (h2 : Thread) → SettlesReply b d number h1 k h2 → HasSettledReplies a d h h2 (k + 1)
    consulted_more h2 settles = record {
      within = let lt = slice_get_within h.branches.numbers k number at in omega (arith, lt);
      leaves = leaves_then h.number number a b d (let l = low in omega (arith, l)) done.leaves leaves;
      replies = done.replies ++ calls.reply ∷ [];
      count = count_then done.replies calls.reply ∙ ap (λ n. n + 1) done.count;
      heard = more_heard;
      called = called_more;
      settled = λ xs before.
          let old = subst (λ x. StandsFor (plain_code x) h1 (with_replies xs done.replies)) (sym done.leaves.code) (done.settled xs before) in
          subst (λ x. StandsFor (plain_code x) h2 (with_replies xs (done.replies ++ calls.reply ∷ []))) done.leaves.code (settles xs done.replies calls.reply done.count calls.heard old);
    }

pub have_heard : (a b : Seated) (h h1 : Thread) (k : ℕ) (done : HasSettledReplies a b h h1 k) → length h.branches.numbers ≤ k → BranchesHaveReplies b h.branches.numbers done.replies
have_heard a b h h1 k done le = record { count = omega (arith, done.count, done.within, le); each = done.heard }

-- The branches of a fork, one by one.
use Rattle.std.proofs.Common.{◌≡◌, ◌≢◌, ℕ, zero, suc, ◌+◌, ◌<◌, ◌≤◌, Bool, true, false, cond, List, [], ◌∷◌, ◌++◌, take, drop, length, refl, sym, ap, ◌∙◌, subst, ⊎_elim, append_assoc, append-nil, arith}
use Rattle.std.specs.Prelude.{Option, Some, None, slice_get, slice_set, slice_index_or}
use Rattle.std.proofs.lemmas.List.{length-set}
use Rattle.std.proofs.lemmas.Option.{slice_get_within, get_or_from_slice_get}
use Rattle.forec_kernel.specs.Engine.{Job, Reply, Written, Answered, pair_up}
use Rattle.forec_kernel.specs.Packed.{HasRoom}
use Rattle.forec_kernel.specs.Shapes.{PlainShape}
use Rattle.thread_code.specs.Plain.{PlainCode}
use Rattle.thread_code.specs.Valid.{of_shape}
use Rattle.combine_tree.specs.Plain.{plain_packet}
use Rattle.core_machine.specs.declared.thread.Thread.{Thread}
use Rattle.core_machine.specs.Forks.{branch_at, jobs_at}
use Rattle.tick_jobs.proofs.Lists.{some_once, get_set, get_set_else, at_map, by_equal, get_then, length_then}
use Rattle.tick_jobs.proofs.Pairs.{pairs_more, no_pairs, same_test, other_test}
use Rattle.exchange_meaning.specs.Logged.{Logged, ExchangeLog, jobs_in, logged, told_to, HasBranch, StartsWith}
use Rattle.exchange_meaning.proofs.TellingLemmas.{told_then, jobs_append}
use Rattle.log_text.specs.declared.log.Log.{Log}
use Rattle.log_text.specs.ReadLogs.{AtPairs}
use Rattle.exchange_replay.specs.declared.track.Track.{Track}
use Rattle.exchange_replay.specs.declared.walk.Walk.{Walk}
use Rattle.exchange_replay.specs.Tracks.{IsBeforePairs, PassesJob, HasPassed, TrackPassed, HavePassed}
use Rattle.exchange_replay.specs.Walks.{IsAtOwnFork, HasLoggedReply, HaveLoggedReplies, SomePassed, PassesBranch, HasOtherJob, PassesFork}

-- ---- one branch

module _ (c : PlainCode) (h : Thread) (fork : IsAtOwnFork c h) (k b : ℕ) (at : slice_get h.branches.numbers k ≡ Some b) where
  pub its_job : (w : Written) × (slice_get (jobs_at c h) k ≡ Some w) × (w.branch ≡ b)
  its_job = at_map (λ (w : Written). w.branch) (jobs_at c h) k b (ap (λ l. slice_get l k) (sym fork.numbers) ∙ at)

  pub is_own : HasBranch c.shape h.number b
  is_own = subst (HasBranch c.shape h.number) its_job.2 (fork.mine k its_job.0 its_job.1).0

  pub number_at : branch_at h k ≡ b
  number_at = get_or_from_slice_get h.branches.numbers k b 0 at

-- the track of a branch is there
module _ (s : PlainShape) (l : Log) (log : ExchangeLog) (t : ℕ) (tracks : List (Option Track)) (told : List Answered) (p : HavePassed s l log t tracks told) (b : ℕ) (is : HasBranch s t b) where
  pub track_within : b < length tracks
  track_within = slice_get_within tracks b (Some (p.each b is).track) (p.each b is).at

  module _ (x : Option Track) (read : x ≡ slice_index_or tracks b x) where
    track_read : x ≡ Some (p.each b is).track
    track_read = read ∙ get_or_from_slice_get tracks b (Some (p.each b is).track) x (p.each b is).at

    pub track_there : x ≡ None → ⊥
    track_there e = let f = sym track_read ∙ e in cc

    pub track_has : (y : Track) → x ≡ Some y → HasPassed s l log b y (told_to b told)
    track_has y e = subst (λ z. HasPassed s l log b z (told_to b told)) (some_once (p.each b is).track y (sym track_read ∙ e)) (p.each b is).has

    pub track_before : (y : Track) → x ≡ Some y → IsBeforePairs s b l y (p.each b is).has.left
    track_before y e = subst (λ z. IsBeforePairs s b l z (p.each b is).has.left) (some_once (p.each b is).track y (sym track_read ∙ e)) (p.each b is).has.before

pub with_written : (s : PlainShape) (b : ℕ) (l : Log) (x y : Track) (left : List Logged) → IsBeforePairs s b l x left → y.cursor ≡ x.cursor → y.logged ≡ x.logged → HasRoom (of_shape s) b (plain_packet y.written) → IsBeforePairs s b l y left
with_written s b l x y left h cursor same room = record {
  fits = record { logged = subst (λ p. HasRoom (of_shape s) b (plain_packet p)) (sym same) h.fits.logged; written = room };
  at = subst (λ z. AtPairs s b l z left) (sym cursor) h.at;
}

-- ---- one pair more

module _ (s : PlainShape) (l : Log) (log : ExchangeLog) (t : ℕ) (tracks : List (Option Track)) (told : List Answered) (p : HavePassed s l log t tracks told) (b : ℕ) (is : HasBranch s t b) (job : Job) where
  -- its track stands behind what it was told, and the next pair is this one
  pub pair_more : (reply : Reply) (rest : List Logged) → (p.each b is).has.left ≡ record { job = job; reply = reply } ∷ rest → (y : Track) → IsBeforePairs s b l y rest → (z : Option Track) → z ≡ Some y →
      HavePassed s l log t (slice_set tracks b z) (told ++ record { branch = b; job = job; reply = reply } ∷ [])
  pair_more reply rest left y before z sits = record {
    are = record {
      count = length-set tracks b z ∙ p.are.count;
      only = λ n x at. by_equal n b (λ other. p.are.only n x (sym (get_set_else tracks b n z other) ∙ at)) (λ e. subst (HasBranch s t) (sym e) is);
    };
    each = λ n own. by_equal n b (else n own) (λ e. subst (λ m. TrackPassed s l log (slice_set tracks b z) m (told_to m now)) (sym e) here);
  }
    where
      one : Answered
      one = record { branch = b; job = job; reply = reply }

      now : List Answered
      now = told ++ one ∷ []

      told_here : told_to b now ≡ told_to b told ++ logged one ∷ []
      told_here = told_then b told (one ∷ []) ∙ ap (λ q. told_to b told ++ cond q (logged one ∷ []) []) (same_test b b refl)

      told_else : (n : ℕ) → n ≢ b → told_to n now ≡ told_to n told
      told_else n other = told_then n told (one ∷ []) ∙ ap (λ q. told_to n told ++ cond q (logged one ∷ []) []) (other_test b n (λ e. other (sym e))) ∙ append-nil (told_to n told)

      here : TrackPassed s l log (slice_set tracks b z) b (told_to b now)
      here = record {
        track = y;
        at = get_set tracks b z (track_within s l log t tracks told p b is) ∙ ap Some sits;
        has = record {
          left = rest;
          before = before;
          is = (p.each b is).has.is ∙ ap (λ ls. told_to b told ++ ls) left ∙ sym (append_assoc (told_to b told) (logged one ∷ []) rest) ∙ ap (λ ls. ls ++ rest) (sym told_here);
        };
      }

      else : (n : ℕ) → HasBranch s t n → n ≢ b → TrackPassed s l log (slice_set tracks b z) n (told_to n now)
      else n own other =
          let old = p.each n own in
          subst (λ ls. TrackPassed s l log (slice_set tracks b z) n ls) (sym (told_else n other))
          (record { track = old.track; at = get_set_else tracks b n z other ∙ old.at; has = old.has })

  -- or the next pair is another one, or there is none
  pub other_more : ((rest : List Logged) (reply : Reply) → (p.each b is).has.left ≡ record { job = job; reply = reply } ∷ rest → ⊥) → StartsWith (jobs_in (log b)) (jobs_in (told_to b told) ++ job ∷ []) → ⊥
  other_more differs start =
      by_left (p.each b is).has.left refl
    where
      cancel : (A : List Job) (B C : List Job) → A ++ B ≡ A ++ C → B ≡ C
      cancel [] B C e = e
      cancel (a ∷ A) B C e = cancel A B C (tail a (A ++ B) (A ++ C) e)
        where
          tail : (a : Job) (l m : List Job) → a ∷ l ≡ a ∷ m → l ≡ m
          tail a l m e = cc

      after : jobs_in (p.each b is).has.left ≡ job ∷ start.rest
      after = cancel (jobs_in (told_to b told)) (jobs_in (p.each b is).has.left) (job ∷ start.rest)
          (sym (jobs_append (told_to b told) (p.each b is).has.left) ∙ ap jobs_in (sym (p.each b is).has.is) ∙ start.is ∙ append_assoc (jobs_in (told_to b told)) (job ∷ []) start.rest)

      by_left : (left : List Logged) → (p.each b is).has.left ≡ left → ⊥
      by_left [] e = let f : [] ≡ job ∷ start.rest = sym (ap jobs_in e) ∙ after in cc
      by_left (one ∷ left) e =
          let f : one.job ∷ jobs_in left ≡ job ∷ start.rest = sym (ap jobs_in e) ∙ after in
          let g : one.job ≡ job = first one.job job (jobs_in left) start.rest f in
          differs left one.reply (e ∙ ap (λ j. record { job = j; reply = one.reply } ∷ left) g)
        where
          first : (i j : Job) (l m : List Job) → i ∷ l ≡ j ∷ m → i ≡ j
          first i j l m e = cc

pub branch_passed : (c : PlainCode) (l : Log) (log : ExchangeLog) (h : Thread) (tracks : List (Option Track)) (told : List Answered) (p : HavePassed c.shape l log h.number tracks told) (w : Written) (is : HasBranch c.shape h.number w.branch) (y : Track) (result : Bool) →
    PassesJob c.shape w.branch l y result w.job (p.each w.branch is).has.left → (new : Walk) → new.thread ≡ h → new.branches.items ≡ slice_set tracks w.branch (Some y) → PassesBranch c l log new result w told
branch_passed c l log h tracks told p w is y true passes new same items =
    let now = told ++ record { branch = w.branch; job = w.job; reply = passes.0 } ∷ [] in (
      passes.0,
      subst (λ ls. HavePassed c.shape l log new.thread.number ls now) (sym items)
          (subst (λ (t : Thread). HavePassed c.shape l log t.number (slice_set tracks w.branch (Some y)) now) (sym same)
          (pair_more c.shape l log h.number tracks told p w.branch is w.job passes.0 passes.1 passes.2 y passes.3 (Some y) refl)),
      record {
        track = y;
        at = ap (λ ls. slice_get ls w.branch) items ∙ get_set tracks w.branch (Some y) (track_within c.shape l log h.number tracks told p w.branch is);
        fits = passes.3.fits;
        is = passes.4;
      },
    )
branch_passed c l log h tracks told p w is y false passes new same items = λ start. other_more c.shape l log h.number tracks told p w.branch is w.job passes start

-- ---- all branches

-- the first k branches were passed: they have these replies
pub record PassedFirst (c : PlainCode) (l : Log) (log : ExchangeLog) (h : Thread) (w : Walk) (k : ℕ) (told : List Answered) : Type 0 where
  pub replies : List Reply
  pub count : length replies ≡ k
  pub passed : HavePassed c.shape l log h.number w.branches.items (told ++ pair_up (jobs_at c h) replies)
  pub each : (i b : ℕ) (r : Reply) → slice_get h.branches.numbers i ≡ Some b → slice_get replies i ≡ Some r → HasLoggedReply c w b r

pub first_none : (c : PlainCode) (l : Log) (log : ExchangeLog) (h : Thread) (w : Walk) (told : List Answered) → HavePassed c.shape l log h.number w.branches.items told → PassedFirst c l log h w 0 told
first_none c l log h w told p = record {
  replies = [];
  count = refl;
  passed = subst (HavePassed c.shape l log h.number w.branches.items) (sym (append-nil told) ∙ ap (λ x. told ++ x) (sym (no_pairs (jobs_at c h)))) p;
  each = λ i b r at there. none_there i r there;
}
  where
    none_there : {A : Type 0} (i : ℕ) (r : Reply) → slice_get [] i ≡ Some r → A
    none_there zero r e = cc
    none_there (suc i) r e = cc

module _ (c : PlainCode) (l : Log) (log : ExchangeLog) (h : Thread) (fork : IsAtOwnFork c h) (w : Walk) (k b : ℕ) (at : slice_get h.branches.numbers k ≡ Some b) (told : List Answered) (first : PassedFirst c l log h w k told) where
  job_k : Written
  job_k = (its_job c h fork k b at).0

  pub first_more : (w' : Walk) → ((n : ℕ) → n ≢ b → slice_get w'.branches.items n ≡ slice_get w.branches.items n) → w'.thread.number ≡ h.number → PassesBranch c l log w' true (its_job c h fork k b at).0 (told ++ pair_up (jobs_at c h) first.replies) → PassedFirst c l log h w' (k + 1) told
  first_more w' others number now =
      let job = its_job c h fork k b at in
      record {
        replies = first.replies ++ now.0 ∷ [];
        count = length_then first.replies now.0 ∙ ap (λ n. n + 1) first.count;
        passed = subst (λ n. HavePassed c.shape l log n w'.branches.items (told ++ pair_up (jobs_at c h) (first.replies ++ now.0 ∷ []))) number
            (subst (HavePassed c.shape l log w'.thread.number w'.branches.items)
            (append_assoc told (pair_up (jobs_at c h) first.replies) (record { branch = job.0.branch; job = job.0.job; reply = now.0 } ∷ [])
            ∙ ap (λ x. told ++ x) (sym (pairs_more (jobs_at c h) first.replies job.0 now.0 (ap (λ i. slice_get (jobs_at c h) i) first.count ∙ job.1)))) now.1);
        each = λ i n r at' there.
            ⊎_elim
            (λ p.
            let same : i ≡ k = p.0 ∙ first.count in
            let branch : b ≡ n = some_once b n (sym at ∙ ap (λ z. slice_get h.branches.numbers z) (sym same) ∙ at') in
            subst (λ z. HasLoggedReply c w' z r) (job.2 ∙ branch) (subst (HasLoggedReply c w' job.0.branch) (sym p.1) now.2))
            (λ old.
            let it = first.each i n r at' old in
            let lt = slice_get_within first.replies i r old in
            let less : i < k = subst (λ z. i < z) first.count lt in
            record { track = it.track; at = others n (not_same i n less at') ∙ it.at; fits = it.fits; is = it.is })
            (get_then first.replies now.0 i r there);
      }
    where
      not_same : (i n : ℕ) → i < k → slice_get h.branches.numbers i ≡ Some n → n ≢ b
      not_same i n lt at' e =
          let one = its_job c h fork i n at' in
          let two = its_job c h fork k b at in
          let o = fork.order i k one.0 two.0 lt one.1 two.1 in
          let x = one.2 in
          let y = two.2 in omega (arith, o, x, y, e)

  pub first_other : (StartsWith (jobs_in (log (its_job c h fork k b at).0.branch)) (jobs_in (told_to (its_job c h fork k b at).0.branch (told ++ pair_up (jobs_at c h) first.replies)) ++ (its_job c h fork k b at).0.job ∷ []) → ⊥) → HasOtherJob c log h told
  first_other differs =
      let job = its_job c h fork k b at in
      let lt = slice_get_within (jobs_at c h) k job.0 job.1 in
      record {
        before = take k (jobs_at c h);
        one = job.0;
        after = drop (suc k) (jobs_at c h);
        jobs = split_at (jobs_at c h) k job.0 job.1;
        replies = first.replies;
        count = first.count ∙ sym (taken (jobs_at c h) k (omega (arith, lt)));
        differs = λ start. differs (subst (λ ps. StartsWith (jobs_in (log job.0.branch)) (jobs_in (told_to job.0.branch (told ++ ps)) ++ job.0.job ∷ [])) (pairs_taken (jobs_at c h) first.replies k first.count) start);
      }
    where
      split_at : (ws : List Written) (k : ℕ) (w : Written) → slice_get ws k ≡ Some w → ws ≡ take k ws ++ w ∷ drop (suc k) ws
      split_at [] zero w e = cc
      split_at [] (suc k) w e = cc
      split_at (x ∷ ws) zero w e = ap (λ z. z ∷ ws) (some_once x w e)
      split_at (x ∷ ws) (suc k) w e = ap (λ z. x ∷ z) (split_at ws k w e)

      taken : (ws : List Written) (k : ℕ) → k ≤ length ws → length (take k ws) ≡ k
      taken ws zero le = refl
      taken [] (suc k) le = absurd (omega (arith, le))
      taken (x ∷ ws) (suc k) le = ap suc (taken ws k (omega (arith, le)))

      pairs_taken : (ws : List Written) (rs : List Reply) (k : ℕ) → length rs ≡ k → pair_up (take k ws) rs ≡ pair_up ws rs
      pairs_taken ws [] zero e = sym (no_pairs ws)
      pairs_taken ws [] (suc k) e = cc
      pairs_taken ws (r ∷ rs) zero e = cc
      pairs_taken [] (r ∷ rs) (suc k) e = refl
      pairs_taken (x ∷ ws) (r ∷ rs) (suc k) e = let f : length rs ≡ k = cc in ap (λ z. record { branch = x.branch; job = x.job; reply = r } ∷ z) (pairs_taken ws rs k f)

pub first_all : (c : PlainCode) (l : Log) (log : ExchangeLog) (w w' : Walk) (k : ℕ) (told : List Answered) → w'.thread ≡ w.thread → length w.thread.branches.numbers ≤ k → k ≤ length w.thread.branches.numbers → PassedFirst c l log w.thread w' k told → PassesFork c l log w' true told
first_all c l log w w' k told same le ge f = (
  f.replies,
  subst (λ (h : Thread). HavePassed c.shape l log h.number w'.branches.items (told ++ pair_up (jobs_at c h) f.replies)) (sym same) f.passed,
  subst (λ (h : Thread). HaveLoggedReplies c w' h.branches.numbers f.replies) (sym same) (record { count = let n = f.count in omega (arith, n, le, ge); each = f.each }),
)

pub some_passed : (c : PlainCode) (l : Log) (log : ExchangeLog) (h : Thread) (w : Walk) (k : ℕ) (told : List Answered) → w.thread ≡ h → PassedFirst c l log h w k told → SomePassed c l w
some_passed c l log h w k told same f = record {
  log = log;
  told = told ++ pair_up (jobs_at c h) f.replies;
  passed = subst (λ (t : Thread). HavePassed c.shape l log t.number w.branches.items (told ++ pair_up (jobs_at c h) f.replies)) (sym same) f.passed;
}

-- The branches of a fork, one by one.
use Rattle.std.proofs.Common.{◌≡◌, ◌≢◌, ℕ, zero, suc, ◌+◌, ◌-◌, ◌<◌, ◌≤◌, Some, List, [], ◌∷◌, ◌++◌, length, refl, sym, ap, ◌∙◌, subst, append_assoc, append-nil, ⊎_elim, inl, inr, arith}
use Rattle.std.specs.Prelude.{slice_get, ◌⊎◌}
use Rattle.std.proofs.lemmas.Bool.{cases_lt}
use Rattle.std.proofs.lemmas.Option.{slice_get_within}
use Rattle.forec_kernel.specs.Packed.{HasRoom}
use Rattle.thread_code.specs.Valid.{of_shape}
use Rattle.combine_tree.specs.Plain.{plain_packet}
use Rattle.forec_kernel.specs.Engine.{Reply, Written, pair_up}
use Rattle.thread_code.specs.Plain.{plain_code}
use Rattle.core_machine.specs.declared.thread.Thread.{Thread}
use Rattle.core_machine.specs.Forks.{jobs_at}
use Rattle.copy_slots.specs.Ports.{parent_at, sent_by}
use Rattle.tick_jobs.specs.Branches.{IsBranchOf}
use Rattle.core_seats.specs.Done.{Posts}
use Rattle.core_seats.specs.Keeping.{SchedulerState, code_in, KeepsBelow, IsSeated, IsFitted, HasPacket, LacksPacket, Quiet, QuietAbove, IsCalled, IsBack, AtFork, CanSend, HasHeard, HaveHeard}
use Rattle.core_seats.specs.Moving.{ChangesPacket, HasSent, HasGot}
use Rattle.core_seats.specs.ChildrenRun.{Consulted}
use Rattle.tick_jobs.proofs.Lists.{some_once, at_map}
use Rattle.core_seats.proofs.KeepingLemmas.{leaves_same, leaves_then, seated_keeps, moved_seated, fitted_keeps, moved_quiet}
use Rattle.tick_jobs.proofs.Branching.{parent_once}
use Rattle.core_seats.proofs.NextJob.{job_keeps}
use Rattle.core_seats.proofs.NextJob as next
use Rattle.core_seats.proofs.Send.{called_now, quiet_now}
use Rattle.core_seats.proofs.RunChildren.{all_leaves, quiet_all, parent_else, hand_else, its_reply, heard_now, posts_now}
use Rattle.tick_jobs.proofs.Pairs.{pairs_more, no_pairs}

pub consulted_none : (a : SchedulerState) (h : Thread) → AtFork a h → QuietAbove a h.number → Consulted a a h 0
consulted_none a h fork above = record {
  within = omega arith;
  leaves = leaves_same h.number h.number a;
  above = above;
  replies = [];
  count = refl;
  heard = λ i number r at there. none_there i r there;
  posts = λ pairs posts. subst (Posts (code_in a) h.number a.mail) (sym (append-nil pairs) ∙ ap (λ l. pairs ++ l) (sym (no_pairs (jobs_at (code_in a) h)))) posts;
  rest = λ i w le at. fork.each i w at;
}
  where
    none_there : {A : Type 0} (i : ℕ) (r : Reply) → slice_get [] i ≡ Some r → A
    none_there zero r e = cc
    none_there (suc i) r e = cc

-- the next branch
module _ (a b : SchedulerState) (h : Thread) (k number : ℕ) (fitted : IsFitted a) (fork : AtFork a h) (done : Consulted a b h k) (at : slice_get h.branches.numbers k ≡ Some number) where
  pub fitted_b : IsFitted b
  fitted_b = fitted_keeps h.number h.number a b done.leaves fitted

  job : (w : Written) × (slice_get (jobs_at (code_in a) h) k ≡ Some w) × (w.branch ≡ number)
  job = next.job a b done.leaves.code fitted_b.seated h k number fork done.rest at

  abbrev pub m : ℕ
  m = number - 1

  pub some_number : 1 ≤ number
  some_number = next.some_number a b done.leaves.code fitted_b.seated h k number fork done.rest at

  is_suc : number ≡ suc m
  is_suc = next.is_suc a b done.leaves.code fitted_b.seated h k number fork done.rest at

  mine_b : IsBranchOf (code_in b).shape h.number m
  mine_b = next.mine_b a b done.leaves.code fitted_b.seated h k number fork done.rest at

  pub above_m : h.number ≤ m
  above_m = next.low a b done.leaves.code fitted_b.seated h k number fork done.rest at

  pub inside_m : m < length b.mail.ends
  inside_m = next.inside_m a b done.leaves.code fitted_b.seated h k number fork done.rest at

  pub can_send : CanSend b h k m
  can_send = next.can_send a b done.leaves.code fitted_b.seated h k number fork done.rest at

  pub quiet_m : Quiet b m
  quiet_m = done.above m above_m inside_m

  pub some_packet : HasPacket b m
  some_packet = quiet_m.packet

  module _ (s1 : SchedulerState) (sending : ChangesPacket m b s1) where
    pub is_called : LacksPacket s1 m → ((w : Written) → slice_get (jobs_at (code_in b) h) k ≡ Some w → HasSent b s1 m w.job) → IsCalled s1 m
    is_called lacks sent = called_now b s1 m fitted_b.seated inside_m quiet_m sending lacks can_send.job.job (sent can_send.job can_send.at)

    pub sent_above : QuietAbove s1 (suc m)
    sent_above j from lt =
        let count = sending.alike.count in
        moved_quiet b s1 m sending j (λ e. omega (arith, e, from))
        (λ own. let same = parent_once (code_in b) (suc j) h.number m own mine_b in absurd (omega (arith, same, from, above_m)))
        (done.above j (omega (arith, from, above_m)) (omega (arith, lt, count)))

    module _ (s2 s3 : SchedulerState) (sent_now : (w : Written) → slice_get (jobs_at (code_in b) h) k ≡ Some w → HasSent b s1 m w.job) (working : KeepsBelow (suc m) m s1 s2) (above_now : QuietAbove s2 (suc m))
        (back : IsBack s2 m) (getting : ChangesPacket m s2 s3) (got_now : HasGot s2 s3 m) where
      sent1 : HasSent b s1 m job.0.job
      sent1 = sent_now job.0 (subst (λ x. slice_get (jobs_at (plain_code x) h) k ≡ Some job.0) (sym done.leaves.code) job.1)

      seated2 : IsSeated s2
      seated2 = seated_keeps (suc m) m s1 s2 working (moved_seated b s1 m sending fitted_b.seated)

      its_quiet : Quiet s3 m
      its_quiet = quiet_now s2 s3 m seated2 (let x = inside_m in let y = sending.alike.count in let z = working.alike.count in omega (arith, x, y, z)) back getting got_now

      abbrev r : Reply
      r = its_reply b s1 s2 s3 h.number m fitted_b inside_m mine_b above_m job.0.job done.above sending sent1 working above_now getting its_quiet got_now

      leaves_b : KeepsBelow h.number h.number b s3
      leaves_b = all_leaves b s1 s2 s3 h.number m fitted_b inside_m mine_b above_m job.0.job done.above sending sent1 working above_now getting its_quiet got_now

      leaves_a : KeepsBelow h.number h.number a s3
      leaves_a = leaves_then h.number h.number a b s3 done.leaves leaves_b

      -- a branch with another number
      apart : (i j : ℕ) (w : Written) → i ≢ k → slice_get (jobs_at (code_in a) h) i ≡ Some w → w.branch ≡ suc j → j ≢ m
      apart i j w n at' is e =
          let s = is_suc in
          let b1 = job.2 in
          ⊎_elim (λ lt. let o = fork.order i k w job.0 lt at' job.1 in omega (arith, o, is, e, s, b1))
          (λ ge. ⊎_elim (λ lt. let o = fork.order k i job.0 w lt job.1 at' in omega (arith, o, is, e, s, b1)) (λ ge'. n (omega (arith, ge, ge'))) (cases_lt k i)) (cases_lt i k)

      in_b : (j : ℕ) → IsBranchOf (code_in a).shape h.number j → IsBranchOf (code_in b).shape h.number j
      in_b j is = subst (λ x. IsBranchOf (plain_code x).shape h.number j) (sym done.leaves.code) is

      else_parent : (j : ℕ) → j ≢ m → IsBranchOf (code_in a).shape h.number j → parent_at s3.mail.ends j ≡ parent_at b.mail.ends j
      else_parent j n is = parent_else b s1 s2 s3 h.number m fitted_b inside_m mine_b above_m job.0.job done.above sending sent1 working above_now getting its_quiet got_now j n (in_b j is)

      else_hand : (j : ℕ) → j ≢ m → IsBranchOf (code_in a).shape h.number j → slice_get s3.hands j ≡ slice_get b.hands j
      else_hand j n is = hand_else b s1 s2 s3 h.number m fitted_b inside_m mine_b above_m job.0.job done.above sending sent1 working above_now getting its_quiet got_now j n (in_b j is)

      kept_heard : (i j : ℕ) (w : Written) (q : Reply) → i ≢ k → slice_get (jobs_at (code_in a) h) i ≡ Some w → HasHeard b w.branch q → HasHeard s3 w.branch q
      kept_heard i j w q n at' old =
          let it = fork.each i w at' in
          let box : it.mailbox ≡ old.mailbox = let x = it.branch in let y = old.is in omega (arith, x, y) in
          let is = subst (IsBranchOf (code_in a).shape h.number) box it.mine in
          record {
            mailbox = old.mailbox;
            is = old.is;
            packet = old.packet;
            at = else_hand old.mailbox (apart i old.mailbox w n at' old.is) is ∙ old.at;
            room = subst (λ x. HasRoom (of_shape (plain_code x).shape) w.branch (plain_packet old.packet)) (sym leaves_b.code) old.room;
            reply = old.reply;
          }

      last_or : (l : List Reply) (i : ℕ) (q : Reply) → slice_get (l ++ r ∷ []) i ≡ Some q → ((i ≡ length l) × (q ≡ r)) ⊎ (slice_get l i ≡ Some q)
      last_or [] zero q e = inl (refl, sym (some_once r q e))
      last_or [] (suc zero) q e = cc
      last_or [] (suc (suc i)) q e = cc
      last_or (x ∷ l) zero q e = inr e
      last_or (x ∷ l) (suc i) q e = ⊎_elim (λ p. inl (ap suc p.0, p.1)) (λ p. inr p) (last_or l i q e)

      more_heard : (i n : ℕ) (q : Reply) → slice_get h.branches.numbers i ≡ Some n → slice_get (done.replies ++ r ∷ []) i ≡ Some q → HasHeard s3 n q
      more_heard i n q at' there =
          ⊎_elim
          (λ p. let same : i ≡ k = p.0 ∙ done.count in
          let branch : suc m ≡ n = sym is_suc ∙ some_once number n (sym at ∙ ap (λ z. slice_get h.branches.numbers z) (sym same) ∙ at') in
          subst (λ z. HasHeard s3 z q) branch (subst (HasHeard s3 (suc m)) (sym p.1)
          (heard_now b s1 s2 s3 h.number m fitted_b inside_m mine_b above_m job.0.job done.above sending sent1 working above_now getting its_quiet got_now)))
          (λ old. let lt = slice_get_within done.replies i q old in
          let w = at_map (λ w. w.branch) (jobs_at (code_in a) h) i n (ap (λ l. slice_get l i) (sym fork.numbers) ∙ at') in
          subst (λ z. HasHeard s3 z q) w.2 (kept_heard i 0 w.0 q (λ e. omega (arith, e, lt, done.count)) w.1 (subst (λ z. HasHeard b z q) (sym w.2) (done.heard i n q at' old))))
          (last_or done.replies i q there)

      count_then : (l : List Reply) → length (l ++ r ∷ []) ≡ length l + 1
      count_then [] = refl
      count_then (x ∷ l) = let ih = count_then l in omega (arith, ih)

      pub consulted_more : Consulted a s3 h (k + 1)
      consulted_more = record {
        within = let lt = slice_get_within h.branches.numbers k number at in omega (arith, lt);
        leaves = leaves_a;
        above = quiet_all b s1 s2 s3 h.number m fitted_b inside_m mine_b above_m job.0.job done.above sending sent1 working above_now getting its_quiet got_now;
        replies = done.replies ++ r ∷ [];
        count = count_then done.replies ∙ ap (λ n. n + 1) done.count;
        heard = more_heard;
        posts = λ pairs posts.
            let old = done.posts pairs posts in
            let all = pairs ++ pair_up (jobs_at (code_in a) h) done.replies in
            let new = posts_now b s1 s2 s3 h.number m fitted_b inside_m mine_b above_m job.0.job done.above sending sent1 working above_now getting its_quiet got_now all
            (subst (λ x. Posts (plain_code x) h.number b.mail all) (sym done.leaves.code) old) in
            let here = subst (λ x. Posts (plain_code x) h.number s3.mail (all ++ record { branch = suc m; job = job.0.job; reply = r } ∷ [])) done.leaves.code new in
            let named : all ++ record { branch = suc m; job = job.0.job; reply = r } ∷ [] ≡ pairs ++ pair_up (jobs_at (code_in a) h) (done.replies ++ r ∷ []) =
            ap (λ n. all ++ record { branch = n; job = job.0.job; reply = r } ∷ []) (sym is_suc ∙ sym job.2)
            ∙ append_assoc pairs (pair_up (jobs_at (code_in a) h) done.replies) (record { branch = job.0.branch; job = job.0.job; reply = r } ∷ [])
            ∙ ap (λ l. pairs ++ l) (sym (pairs_more (jobs_at (code_in a) h) done.replies job.0 r (ap (λ i. slice_get (jobs_at (code_in a) h) i) done.count ∙ job.1))) in
            subst (Posts (code_in a) h.number s3.mail) named here;
        rest = λ i w le at'.
            let it = done.rest i w (omega (arith, le)) at' in
            job_keeps (code_in a) b.mail s3.mail h.number w it (ap sent_by (else_parent it.mailbox (apart i it.mailbox w (λ e. omega (arith, e, le)) at' it.branch) it.mine));
      }

pub have_heard : (a b : SchedulerState) (h : Thread) (k : ℕ) (done : Consulted a b h k) → length h.branches.numbers ≤ k → HaveHeard b h.branches.numbers done.replies
have_heard a b h k done le = record { count = omega (arith, done.count, done.within, le); each = done.heard }

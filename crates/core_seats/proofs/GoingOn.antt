-- A thread at work comes to a fork, its branches are served, and it goes on.
use Rattle.std.proofs.Common.{◌≡◌, ℕ, suc, ◌<◌, Bool, true, false, List, [], length, map, refl, sym, ◌∙◌, subst, arith}
use Rattle.forec_kernel.specs.Engine.{Reply, Exchange, Answered}
use Rattle.thread_code.specs.declared.instruction.CodeParts.{CodeParts}
use Rattle.thread_code.specs.Plain.{plain_code}
use Rattle.core_machine.specs.declared.thread.Thread.{Thread}
use Rattle.core_machine.specs.Threads.{Loaded, StandsFor, HasSettled}
use Rattle.core_machine.specs.Forks.{jobs_at, with_replies}
use Rattle.core_seats.specs.Calling.{HasServedFork}
use Rattle.core_seats.specs.Changes.{HasProgressed, sent_more}
use Rattle.tick_jobs.specs.Writing.{told}
use Rattle.core_seats.specs.Descending.{Descends}
use Rattle.core_seats.specs.Keeping.{SchedulerState, code_in, IsSeated, AtFork, HaveHeard}
use Rattle.tick_jobs.specs.Branches.{IsBranchOf}
use Rattle.core_seats.specs.Serving.{ChangesBranches}
use Rattle.core_seats.specs.Waiting.{HasTold, IsForked, IsGathering, HasReplies, IsAtWork, IsWorking, IsWaiting}
use Rattle.core_seats.proofs.OneMoreExchange.{changed, changed_is}
use Rattle.core_seats.proofs.WaitingLemmas.{work_keeps}
use Rattle.core_seats.proofs.Advancing.{has_run, its_fork, it_forks}
use Rattle.core_seats.proofs.Resuming.{HasAll, goes_on}
use Rattle.core_seats.proofs.KeepingLemmas.{grown_then}
use Rattle.core_seats.proofs.DescendingLemmas.{leaves_gathering}
use Rattle.core_seats.proofs.CallingLemmas.{stays_then, branches_stay, down_stays, stays_descends, stays_seated, extends_long}

-- ---- a fork is served

-- those that had to wait were served once more, and the replies looked for
module _ (a b c d : SchedulerState) (h : Thread) (going : Bool) (first : HasServedFork a b h going) (serves : Descends h.number h.number b c) (moves : ChangesBranches h.number c d) (replied : Bool)
    (still : replied ≡ false → (pairs : List Answered) → IsGathering c h pairs → IsGathering d h pairs) (all : replied ≡ true → (pairs : List Answered) → IsGathering c h pairs → HasReplies d h pairs) where
  gathering_c : (pairs : List Answered) → HasTold a h.number pairs [] → IsGathering c h pairs
  gathering_c pairs told = leaves_gathering h.number h.number b c serves.leaves h refl pairs (first.gathering pairs told)

  gathering_d : (r : Bool) → replied ≡ r → (pairs : List Answered) → HasTold a h.number pairs [] → IsGathering d h pairs
  gathering_d true e pairs told = (all e pairs (gathering_c pairs told)).gathering
  gathering_d false e pairs told = still e pairs (gathering_c pairs told)

  pub served_again : HasServedFork a d h replied
  served_again = record {
    stays = stays_then h.number a b d first.stays (stays_then h.number b c d (down_stays h.number h.number b c (omega arith) serves) (branches_stay h.number c d moves));
    gathering = gathering_d replied refl;
    replies = λ e pairs told. all e pairs (gathering_c pairs told);
    sent =
        let s = first.sent in
        let more = s.more in
        let later = extends_long _ _ ((grown_then b.mail c.mail d.mail serves.leaves.grown moves.grown).sent s.mailbox) in
        record { mailbox = s.mailbox; mine = s.mine; more = omega (arith, more, later) };
  }

pub gathers_there : (a b : SchedulerState) (h : Thread) (going : Bool) → HasServedFork a b h going → (pairs : List Answered) × HasTold a h.number pairs [] → (pairs : List Answered) × IsGathering b h pairs
gathers_there a b h going s some = (some.0, s.gathering some.0 some.1)

pub gathers_still : (b c : SchedulerState) (h : Thread) → Descends h.number h.number b c → (pairs : List Answered) × IsGathering b h pairs → (pairs : List Answered) × IsGathering c h pairs
gathers_still b c h serves some = (some.0, leaves_gathering h.number h.number b c serves.leaves h refl some.0 some.1)

-- ---- from fork to fork

module _ (s : SchedulerState) (m : ℕ) (seated : IsSeated s) (h h1 : Thread) (number : h.number ≡ suc m) (w : IsWorking s h) (c1 : CodeParts) (code : c1 ≡ s.code) (loaded1 : Loaded (plain_code c1) h1) (number1 : h1.number ≡ h.number)
    (stands1 : (xs : List Exchange) → StandsFor (plain_code c1) h xs → StandsFor (plain_code c1) h1 xs) where
  inside : m < length s.mail.ends
  inside =
      let below = w.work.loaded.thread in
      let boxes = seated.mailboxes in omega (arith, below, number, boxes)

  pub runs : IsWorking s h1
  runs =
      has_run s h h1 w (subst (λ (z : CodeParts). Loaded (plain_code z) h1) code loaded1) number1
      (λ xs st. subst (λ (z : CodeParts). StandsFor (plain_code z) h1 xs) code (stands1 xs (subst (λ (z : CodeParts). StandsFor (plain_code z) h xs) (sym code) st)))

  at_m : h1.number ≡ suc m
  at_m = number1 ∙ number

  module _ (settled : HasSettled h1 0) (numbers1 : h1.branches.numbers ≡ map (λ w. w.branch) (jobs_at (plain_code c1) h1)) where
    numbers : h1.branches.numbers ≡ map (λ w. w.branch) (jobs_at (code_in s) h1)
    numbers = subst (λ (z : CodeParts). h1.branches.numbers ≡ map (λ w. w.branch) (jobs_at (plain_code z) h1)) code numbers1

    abbrev pub pairs : List Answered
    pairs = told (code_in s) h1.number runs.work.jobs runs.work.job runs.work.log

    pub the_fork : AtFork s h1
    the_fork = its_fork s m inside seated h1 at_m runs settled numbers

    pub forked_here : IsForked (code_in s) h1
    forked_here = it_forks s m inside seated h1 at_m runs settled numbers

    pub told_so_far : (pairs : List Answered) × HasTold s h1.number pairs []
    told_so_far = (pairs, runs.told)

    -- its branches were served
    module _ (s1 : SchedulerState) (replied : Bool) (served : HasServedFork s s1 h1 replied) where
      abbrev s1' : SchedulerState
      s1' = changed s s1.mail s1.seats s1.hands

      path1 : s1' ≡ s1
      path1 = changed_is s s1 served.stays.leaves.code served.stays.leaves.places

      abbrev its_work : IsAtWork s1' h1
      its_work =
          let n = runs.work.number in
          work_keeps s s1.mail s1.seats s1.hands served.stays.leaves.alike.blanks served.stays.leaves.alike.count h1 runs.work (served.stays.leaves.children runs.work.mailbox (omega (arith, n)))

      pub s1_descends : Descends m (suc m) s s1
      s1_descends = stays_descends m h1.number s s1 at_m served.stays

      pub s1_seated : IsSeated s1
      s1_seated = stays_seated h1.number s s1 served.stays seated

      pub waits_there : IsWaiting s1 h1
      waits_there = subst (λ x. IsGathering x h1 pairs → IsWaiting x h1) path1 (λ g. record { work = its_work; gathering = g }) (served.gathering pairs runs.told)

      pub has_sent : HasProgressed (code_in s).shape s.mail s1.mail m
      has_sent = sent_more served.sent.mailbox (subst (λ t. IsBranchOf (code_in s).shape t served.sent.mailbox) at_m served.sent.mine) served.sent.more

      module _ (e : replied ≡ true) where
        pub has_all : HasAll s1 h1
        has_all = subst (λ x. HasReplies x h1 pairs → HasAll x h1) path1 (λ r. record { waiting = record { work = its_work; gathering = r.gathering }; all = r.all }) (served.replies e pairs runs.told)

        pub has_heard : HaveHeard s1 h1.branches.numbers has_all.waiting.gathering.replies
        has_heard = record { count = has_all.all; each = has_all.waiting.gathering.gathered.heard }

        pub works_on : (h2 h3 : Thread) → Loaded (code_in s1) h3 → h2.number ≡ h1.number → h3.number ≡ h2.number → h2.branches.numbers ≡ h1.branches.numbers →
            ((rs : List Reply) (xs : List Exchange) → HaveHeard s1 h1.branches.numbers rs → StandsFor (code_in s1) h1 (with_replies xs []) → StandsFor (code_in s1) h2 (with_replies xs rs)) →
            ((rs : List Reply) (xs : List Exchange) → HaveHeard s1 h2.branches.numbers rs → StandsFor (code_in s1) h2 (with_replies xs rs) → StandsFor (code_in s1) h3 (with_replies xs rs)) → IsWorking s1 h3
        works_on h2 h3 loaded3 number2 number3 branches2 settles joins = goes_on s1 s1_seated h1 has_all h2 h3 loaded3 number2 number3 branches2 settles joins

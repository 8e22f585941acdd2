-- The jobs of a fork are sent, branch by branch.
use Rattle.std.proofs.Common.{◌≡◌, ℕ, suc, ◌+◌, ◌-◌, ◌≤◌, Some, List, [], ◌∷◌, ◌++◌, length, take, refl, sym, ap, ◌∙◌, subst, arith}
use Rattle.std.specs.Prelude.{slice_get}
use Rattle.std.proofs.lemmas.List.{length-map}
use Rattle.std.proofs.lemmas.Option.{slice_get_within}
use Rattle.forec_kernel.specs.Engine.{Answered, Written}
use Rattle.thread_code.specs.Plain.{plain_code}
use Rattle.core_machine.specs.declared.thread.Thread.{Thread}
use Rattle.core_machine.specs.Forks.{jobs_at}
use Rattle.copy_slots.specs.Ports.{sent_by, sent, got}
use Rattle.tick_jobs.specs.Branches.{IsBranchOf}
use Rattle.core_seats.specs.Changes.{Extends}
use Rattle.core_seats.specs.Keeping.{SchedulerState, code_in, IsSeated, HasPacket, LacksPacket, IsJobFor, AtFork, CanSend}
use Rattle.core_seats.specs.Moving.{ChangesPacket, HasSent}
use Rattle.core_seats.specs.Waiting.{HasTold}
use Rattle.core_seats.specs.Serving.{ChangesBranches}
use Rattle.core_seats.proofs.Mails.{alike_same, alike_then, extends_one, extends_same}
use Rattle.core_seats.proofs.KeepingLemmas.{grown_same, grown_then, moved_grown, seated_by}
use Rattle.tick_jobs.proofs.Lists.{take_all}
use Rattle.core_seats.proofs.LoadLemmas.{take_next}
use Rattle.core_seats.proofs.NextJob.{job, is_suc, mine_b, inside_m, not_yet, apart, job_keeps}
use Rattle.core_seats.proofs.NextJob as next
use Rattle.core_seats.proofs.OneMoreExchange.{changed_is, told_one}

-- ---- changes of a thread's branches

pub branches_same : (t : ℕ) (a : SchedulerState) → ChangesBranches t a a
branches_same t a = record {
  code = refl;
  places = refl;
  alike = alike_same a.mail;
  grown = grown_same a.mail;
  seats = refl;
  children = λ j. refl;
  parents = λ j n. refl;
  hands = λ j n. refl;
  hand_count = refl;
}

pub branches_then : (t : ℕ) (a b c : SchedulerState) → ChangesBranches t a b → ChangesBranches t b c → ChangesBranches t a c
branches_then t a b c h g =
    let there = λ (j : ℕ) (n : IsBranchOf (code_in a).shape t j → ⊥) (is : IsBranchOf (code_in b).shape t j). n (subst (λ x. IsBranchOf (plain_code x).shape t j) h.code is) in
    record {
      code = g.code ∙ h.code;
      places = g.places ∙ h.places;
      alike = alike_then a.mail b.mail c.mail h.alike g.alike;
      grown = grown_then a.mail b.mail c.mail h.grown g.grown;
      seats = g.seats ∙ h.seats;
      children = λ j. g.children j ∙ h.children j;
      parents = λ j n. g.parents j (there j n) ∙ h.parents j n;
      hands = λ j n. g.hands j (there j n) ∙ h.hands j n;
      hand_count = g.hand_count ∙ h.hand_count;
    }

pub branches_seated : (t : ℕ) (a b : SchedulerState) → ChangesBranches t a b → IsSeated a → IsSeated b
branches_seated t a b h seated = seated_by a b h.code h.places h.alike (ap length h.seats) h.hand_count seated

-- one of them
pub branch_moves : (t m : ℕ) (a b : SchedulerState) → IsBranchOf (code_in a).shape t m → (moves : ChangesPacket m a b) → Extends (sent a.mail m) (sent b.mail m) × Extends (got a.mail m) (got b.mail m) → ChangesBranches t a b
branch_moves t m a b mine moves grown =
    let other = λ (j : ℕ) (n : IsBranchOf (code_in a).shape t j → ⊥) (e : j ≡ m). n (subst (IsBranchOf (code_in a).shape t) (sym e) mine) in
    record {
      code = moves.code;
      places = moves.places;
      alike = moves.alike;
      grown = moved_grown a b m moves grown.0 grown.1;
      seats = moves.seats;
      children = moves.children;
      parents = λ j n. moves.parents j (other j n);
      hands = λ j n. moves.hands j (other j n);
      hand_count = moves.hand_count;
    }

-- ---- one job after the other

-- the first k jobs of the fork were sent
pub record HasSentFirst (a b : SchedulerState) (h : Thread) (k : ℕ) : Type 0 where
  pub within : k ≤ length h.branches.numbers
  pub moves : ChangesBranches h.number a b
  pub told : (pairs : List Answered) → HasTold a h.number pairs [] → HasTold b h.number pairs (take k (jobs_at (code_in a) h))
  pub rest : (i : ℕ) (w : Written) → k ≤ i → slice_get (jobs_at (code_in a) h) i ≡ Some w → IsJobFor (code_in a) b.mail h.number w

take_none : {A : Type 0} (l : List A) → take 0 l ≡ []
take_none [] = refl
take_none (x ∷ l) = refl

pub sent_none : (a : SchedulerState) (h : Thread) → AtFork a h → HasSentFirst a a h 0
sent_none a h fork = record {
  within = omega arith;
  moves = branches_same h.number a;
  told = λ pairs told. subst (HasTold a h.number pairs) (sym (take_none (jobs_at (code_in a) h))) told;
  rest = λ i w le at. fork.each i w at;
}

module _ (a b : SchedulerState) (h : Thread) (k number : ℕ) (seated : IsSeated a) (fork : AtFork a h) (some : (pairs : List Answered) × HasTold a h.number pairs []) (done : HasSentFirst a b h k) (at : slice_get h.branches.numbers k ≡ Some number) where
  abbrev ws : List Written
  ws = jobs_at (code_in a) h

  abbrev pub m : ℕ
  m = number - 1

  pub seated_b : IsSeated b
  seated_b = branches_seated h.number a b done.moves seated

  the_job : (w : Written) × (slice_get (jobs_at (code_in a) h) k ≡ Some w) × (w.branch ≡ number)
  the_job = job a b done.moves.code seated_b h k number fork done.rest at

  mine : IsBranchOf (code_in b).shape h.number m
  mine = mine_b a b done.moves.code seated_b h k number fork done.rest at

  number_is : number ≡ suc m
  number_is = is_suc a b done.moves.code seated_b h k number fork done.rest at

  pub some_number : 1 ≤ number
  some_number = next.some_number a b done.moves.code seated_b h k number fork done.rest at

  pub can_send : CanSend b h k m
  can_send = next.can_send a b done.moves.code seated_b h k number fork done.rest at

  pub its_packet : HasPacket b m
  its_packet =
      (done.told some.0 some.1).has m (inside_m a b done.moves.code seated_b h k number fork done.rest at) mine (not_yet a b done.moves.code seated_b h k number fork done.rest at)

  module _ (s1 : SchedulerState) (moves : ChangesPacket m b s1) (lacks : LacksPacket s1 m) (sent_now : (w : Written) → slice_get (jobs_at (code_in b) h) k ≡ Some w → HasSent b s1 m w.job) where
    sent1 : HasSent b s1 m the_job.0.job
    sent1 = sent_now the_job.0 (subst (λ x. slice_get (jobs_at (plain_code x) h) k ≡ Some the_job.0) (sym done.moves.code) the_job.1)

    told1 : (pairs : List Answered) → HasTold a h.number pairs [] → HasTold s1 h.number pairs (take (k + 1) ws)
    told1 pairs before =
        let path = changed_is b s1 moves.code moves.places in
        let old = done.told pairs before in
        let new = told_one b s1.mail s1.seats s1.hands h.number m mine (subst (ChangesPacket m b) (sym path) moves) pairs (take k ws) old the_job.0.job (subst (λ x. HasSent b x m the_job.0.job) (sym path) sent1)
        (subst (λ x. LacksPacket x m) (sym path) lacks) in
        let named : take k ws ++ record { branch = suc m; job = the_job.0.job } ∷ [] ≡ take (k + 1) ws =
        ap (λ n. take k ws ++ record { branch = n; job = the_job.0.job } ∷ []) (sym number_is ∙ sym the_job.2) ∙ take_next ws k the_job.0 the_job.1 in
        subst (HasTold s1 h.number pairs) named (subst (λ x. HasTold x h.number pairs (take k ws ++ record { branch = suc m; job = the_job.0.job } ∷ [])) path new)

    pub sent_more : HasSentFirst a s1 h (k + 1)
    sent_more = record {
      within = let lt = slice_get_within h.branches.numbers k number at in omega (arith, lt);
      moves = branches_then h.number a b s1 done.moves
          (branch_moves h.number m b s1 mine moves (extends_one (sent b.mail m) (sent s1.mail m) sent1.packet sent1.sent, extends_same (got b.mail m) (got s1.mail m) sent1.got));
      told = told1;
      rest = λ i w le at'.
          let it = done.rest i w (omega (arith, le)) at' in
          job_keeps (code_in a) b.mail s1.mail h.number w it (ap sent_by (moves.parents it.mailbox (apart a b done.moves.code seated_b h k number fork done.rest at i it.mailbox w (omega (arith, le)) at' it.branch)));
    }

-- all were sent
pub all_sent : (a b : SchedulerState) (h : Thread) (k : ℕ) → AtFork a h → HasSentFirst a b h k → length h.branches.numbers ≤ k → (pairs : List Answered) → HasTold a h.number pairs [] → HasTold b h.number pairs (jobs_at (code_in a) h)
all_sent a b h k fork done past pairs told =
    let count = ap length fork.numbers ∙ length-map (jobs_at (code_in a) h) (λ w. w.branch) in
    subst (HasTold b h.number pairs) (take_all (jobs_at (code_in a) h) k (omega (arith, past, count))) (done.told pairs told)

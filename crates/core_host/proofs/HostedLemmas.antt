-- A host serves mailboxes.
use Rattle.std.proofs.Common.{◌≡◌, ℕ, zero, suc, ◌<◌, ◌≤◌, ◌==◌, Bool, true, false, cond, Some, List, [], ◌∷◌, length, map, refl, sym, ap, ◌∙◌, subst, arith}
use Rattle.std.specs.Prelude.{Option, None, slice_get, slice_set}
use Rattle.std.proofs.lemmas.Bool.Decides.{nat_tests}
use Rattle.std.proofs.lemmas.Option.{slice_get-get_or}
use Rattle.forec_kernel.specs.Combining.{contains}
use Rattle.forec_kernel.specs.Packed.{HasRoom}
use Rattle.forec_kernel.specs.Engine.{Job}
use Rattle.forec_kernel.specs.Composed.{TickInput}
use Rattle.thread_code.specs.declared.instruction.CodeParts.{CodeParts}
use Rattle.thread_code.specs.Plain.{plain_code}
use Rattle.thread_code.specs.Valid.{of_shape}
use Rattle.thread_code.specs.Alone.{Stands}
use Rattle.thread_code.specs.Laws.{EachFits}
use Rattle.combine_tree.specs.declared.packet.Packet.{Packet}
use Rattle.combine_tree.specs.Plain.{plain_packet}
use Rattle.core_machine.specs.declared.thread.Thread.{Thread}
use Rattle.core_machine.specs.Threads.{Loaded}
use Rattle.core_bells.specs.Ropes.{RopeState, IsSameRope, rooms_of}
use Rattle.copy_slots.specs.Ports.{child_at, ChildIs}
use Rattle.core_alloc.specs.Places.{Places}
use Rattle.tick_jobs.specs.Branches.{IsBranchOf}
use Rattle.core_seats.specs.Loads.{is_on, AreOwn}
use Rattle.core_seats.specs.Posts.{Mail}
use Rattle.core_seats.specs.Changes.{Grown}
use Rattle.core_seats.specs.Done.{HasDone}
use Rattle.core_seats.specs.Keeping.{SchedulerState, code_in, IsSeated, Sits, Idle, HasPacket}
use Rattle.core_seats.specs.Waiting.{RestsOrWaits, rests, waits}
use Rattle.core_seats.specs.Serving.{KeepsServing}
use Rattle.core_seats.specs.Hung.{IsHung, KeepsRope}
use Rattle.core_seats.specs.Rounds.{CanServe, IsSameRound}
use Rattle.core_seats.specs.declared.round.Round.{Round}
use Rattle.core_seats.proofs.RoundLemmas.{rope_same, rope_then}
use Rattle.core_host.specs.Hosted.{Hosted, hosted, is_here, standing, IsSameHost, IsWhole}
use Rattle.core_seats.specs.Resting.{RootRests}
use Rattle.core_host.specs.Rests.{IsHosted}
use Rattle.tick_jobs.specs.Ticks.{HasRun}
use Rattle.core_host.specs.Runs.{HasJobs, ticking}
use Rattle.core_seats.proofs.KeepingLemmas.{done_keeps, packet_keeps, grown_same, grown_then}
use Rattle.core_seats.proofs.ServingLemmas.{keeps_seated, both_held}
use Rattle.core_seats.proofs.Seats.{can_keep}

-- ---- lists

is_it : (a b : ℕ) → (a == b) ≡ true → a ≡ b
is_it a b e = grind (arith, nat_tests)

contains_where : (l : List ℕ) (k : ℕ) → contains k l ≡ true → (i : ℕ) × (slice_get l i ≡ Some k)
contains_where [] k e = cc
contains_where (x ∷ l) k e = pick (x == k) refl e (contains_where l k)
  where
    pick : (t : Bool) → (x == k) ≡ t → cond t true (contains k l) ≡ true → (contains k l ≡ true → (i : ℕ) × (slice_get l i ≡ Some k)) → (i : ℕ) × (slice_get (x ∷ l) i ≡ Some k)
    pick true q e ih = (0, ap Some (is_it x k q))
    pick false q e ih = let r = ih e in (suc r.0, r.1)

-- ---- the rope

pub hung_keeps : (code0 code1 : CodeParts) (places0 places1 cores : List ℕ) (a b : Option RopeState) → code1 ≡ code0 → places1 ≡ places0 → KeepsRope a b → IsHung code0 places0 cores a → IsHung code1 places1 cores b
hung_keeps code0 code1 places0 places1 cores None None code places same hung = tt
hung_keeps code0 code1 places0 places1 cores (Some r) (Some q) code places same hung = record {
  core = hung.core ∙ ap (λ k. k ∷ []) (sym same.core);
  places = ap (λ (p : Places). p.places) same.placement ∙ hung.places ∙ sym places;
  rooms = same.rooms ∙ hung.rooms ∙ ap (λ (x : CodeParts × Places). rooms_of x.0 x.1) (λ i. (sym code i, sym same.placement i));
}
hung_keeps code0 code1 places0 places1 cores None (Some q) code places same hung = absurd same
hung_keeps code0 code1 places0 places1 cores (Some r) None code places same hung = absurd same

-- ---- the same host

pub same_host : (h : Hosted) → IsSameHost h h
same_host h = record { code = refl; places = refl; cores = refl; grown = grown_same h.mail; rope = rope_same h.rope }

pub host_then : (a b c : Hosted) → IsSameHost a b → IsSameHost b c → IsSameHost a c
host_then a b c h g = record {
  code = g.code ∙ h.code;
  places = g.places ∙ h.places;
  cores = g.cores ∙ h.cores;
  grown = grown_then a.mail b.mail c.mail h.grown g.grown;
  rope = rope_then a.rope b.rope c.rope h.rope g.rope;
}

-- but for its mail
pub host_mailed : (a b : Hosted) (mail : Mail) → b ≡ record a { mail = mail } → Grown a.mail b.mail → IsSameHost a b
host_mailed a b mail is grown = record {
  code = ap (λ (h : Hosted). h.code) is;
  places = ap (λ (h : Hosted). h.places) is;
  cores = ap (λ (h : Hosted). h.cores) is;
  grown = grown;
  rope = subst (KeepsRope a.rope) (sym (ap (λ (h : Hosted). h.rope) is)) (rope_same a.rope);
}

pub same_here : (a b : Hosted) (t : ℕ) → IsSameHost a b → is_here b t ≡ is_here a t
same_here a b t same = ap (λ l. is_on l b.cores t) same.places ∙ ap (λ l. is_on a.places l t) same.cores

pub same_standing : (a b : Hosted) → IsSameHost a b → standing b ≡ standing a
same_standing a b same = ap (λ c. record { code = c; places = b.places; cores = b.cores }) same.code ∙ ap (λ l. record { code = a.code; places = l; cores = b.cores }) same.places ∙ ap (λ l. record { code = a.code; places = a.places; cores = l }) same.cores

-- one of some hosts is the same, later
pub standing_set : (l : List Hosted) (i : ℕ) (x : Hosted) → ((y : Hosted) → slice_get l i ≡ Some y → standing x ≡ standing y) → map standing (slice_set l i x) ≡ map standing l
standing_set [] i x same = refl
standing_set (y ∷ l) zero x same = ap (λ s. s ∷ map standing l) (same y refl)
standing_set (y ∷ l) (suc i) x same = ap (λ t. standing y ∷ t) (standing_set l i x same)

-- ---- what a host keeps

pub hosted_seated : (s : SchedulerState) (cores : List ℕ) (root : Packet) (live : Bool) (rope : Option RopeState) → IsHosted (hosted s cores root live rope) → IsSeated s
hosted_seated s cores root live rope inv = record { valid = inv.valid; work = inv.work; mailboxes = inv.mailboxes; seats = inv.seats; hands = inv.hands; places = inv.places }

module _ (s0 s1 : SchedulerState) (cores : List ℕ) (root : Packet) (live : Bool) (rope0 rope1 : Option RopeState) (keeps : KeepsServing s0 s1) where
  abbrev h0 : Hosted
  h0 = hosted s0 cores root live rope0

  abbrev h1 : Hosted
  h1 = hosted s1 cores root live rope1

  back : (t : ℕ) → is_here h1 t ≡ true → is_here h0 t ≡ true
  back t on = ap (λ l. is_on l cores t) (sym keeps.places) ∙ on

  within : (k : ℕ) → k < length s1.mail.ends → k < length s0.mail.ends
  within k lt = let count = keeps.alike.count in omega (arith, lt, count)

  pub whole_keeps : IsWhole h0 → IsWhole h1
  whole_keeps w = record {
    tells = keeps.alike.tells ∙ w.tells;
    all = λ t lt. ap (λ l. is_on l cores t) keeps.places ∙ w.all t (subst (λ x. t < length (plain_code x).threads) keeps.code lt);
    quiet = λ k lt. keeps.quiet w.tells w.quiet k (within k lt);
  }

  sits_back : (t : Thread) → Sits s1 0 t → Sits s0 0 t
  sits_back t sits = record {
    seat = sits.seat;
    at = sym keeps.seat ∙ sits.at;
    is = sits.is;
    loaded = subst (λ x. Loaded (plain_code x) t) keeps.code sits.loaded;
    number = sits.number;
  }

  sits_still : (t : Thread) → Sits s0 0 t → Sits s1 0 t
  sits_still t sits = record {
    seat = sits.seat;
    at = keeps.seat ∙ sits.at;
    is = sits.is;
    loaded = subst (λ x. Loaded (plain_code x) t) (sym keeps.code) sits.loaded;
    number = sits.number;
  }

  done_still : (t : Thread) (jobs : List Job) → t.number ≡ 0 → HasDone (code_in s0) t s0.mail jobs → HasDone (code_in s1) t s1.mail jobs
  done_still t jobs number done =
      subst (λ x. HasDone (plain_code x) t s1.mail jobs) (sym keeps.code)
      (done_keeps (code_in s0) t s0.mail s1.mail jobs (λ j mine. keeps.root j (subst (λ n. IsBranchOf (code_in s0).shape n j) number mine)) done)

  pub jobs_keep : (jobs : List Job) → HasJobs h0 jobs → HasJobs h1 jobs
  jobs_keep jobs j = record {
    thread = j.thread;
    sits = sits_still j.thread j.sits;
    fit = subst (λ x. EachFits (plain_code x).shape 0 jobs) (sym keeps.code) j.fit;
    done = done_still j.thread jobs j.sits.number j.done;
  }

  pub run_keeps : (turns : List TickInput) → HasRun (ticking h0) turns → HasRun (ticking h1) turns
  unfolding HasRun
  run_keeps turns run k fine stands =
      let t = run k fine (subst (λ x. Stands (plain_code x) k) keeps.code stands) in record { jobs = jobs_keep _ t.jobs; keeps = t.keeps }

  module _ (inv : IsHosted h0) where
    packet_still : (k : ℕ) → IsBranchOf (code_in s1).shape 0 k → HasPacket s0 k → HasPacket s1 k
    packet_still k mine p =
        let own = subst (λ x. IsBranchOf (plain_code x).shape 0 k) keeps.code mine in
        packet_keeps k s0 s1 keeps.code (record { parent = keeps.root k own; hand = keeps.hands k own; blanks = keeps.alike.blanks }) p

    root_still : RootRests s0 → RootRests s1
    root_still r = record { thread = r.thread; sits = sits_still r.thread r.sits; resting = r.resting; jobs = r.jobs; done = done_still r.thread r.jobs r.sits.number r.done }

    pub served_hosted : KeepsRope rope0 rope1 → IsHosted h1
    served_hosted same =
        let seated = keeps_seated s0 s1 keeps (hosted_seated s0 cores root live rope0 inv) in
        record {
          valid = seated.valid;
          work = seated.work;
          mailboxes = seated.mailboxes;
          seats = seated.seats;
          hands = seated.hands;
          places = seated.places;
          room = subst (λ x. HasRoom (of_shape (plain_code x).shape) 0 (plain_packet root)) (sym keeps.code) inv.room;
          root = λ on. root_still (inv.root (back 0 on));
          ready = λ e t sits. inv.ready e t (sits_back t sits);
          here = λ k lt on. keeps.here k (inv.here k (within k lt) (back (suc k) on));
          between = λ k lt there. keeps.between k (inv.between k (within k lt) (keeps.was_here k there));
          all = can_keep s0 s1 0 keeps.alike.count (λ j le w. keeps.between j w) (λ j le v. keeps.vacant j v) inv.all;
          keeper = λ on. keeps.alike.root ∙ inv.keeper (back 0 on);
          packets = λ on k lt mine. packet_still k mine (inv.packets (back 0 on) k (within k lt) (subst (λ x. IsBranchOf (plain_code x).shape 0 k) keeps.code mine));
          hung = hung_keeps s0.code s1.code s0.places s1.places cores rope0 rope1 keeps.code keeps.places same inv.hung;
        }

-- ---- its mailboxes

module _ (s : SchedulerState) (cores : List ℕ) (root : Packet) (live : Bool) (rope : Option RopeState) (inv : IsHosted (hosted s cores root live rope)) (own : List ℕ) (are : AreOwn s.places cores own) where
  pub its_own : (i k : ℕ) → slice_get own i ≡ Some k → (k < length s.mail.ends) × (is_here (hosted s cores root live rope) (suc k) ≡ true)
  its_own i k at =
      let o = are.here i k at in
      let lt = o.0 in (omega (arith, lt, inv.places, inv.mailboxes), o.1)

  pub each_between : (i k : ℕ) → slice_get own i ≡ Some k → (k < length s.mail.ends) × RestsOrWaits s k
  each_between i k at = let o = its_own i k at in (o.0, inv.between k o.0 (inv.here k o.0 o.1))

  pub where_own : (k : ℕ) → k < length s.mail.ends → is_here (hosted s cores root live rope) (suc k) ≡ true → (i : ℕ) × (slice_get own i ≡ Some k)
  where_own k lt on = contains_where own k (are.all k (omega (arith, lt, inv.places, inv.mailboxes)) on)

-- ---- a thread that rests

pub idle_between : (s : SchedulerState) (k : ℕ) → RestsOrWaits s k → ChildIs s.mail k false → Idle s k
idle_between s k (rests r) rest = r.idle
idle_between s k (waits w) rest =
    let n = w.waiting.work.number in
    let t = w.sits.number in
    let at : w.waiting.work.mailbox ≡ k = omega (arith, n, t) in absurd (both_held (child_at s.mail.ends k) rest (subst (λ i. ChildIs s.mail i true) at w.waiting.work.child))

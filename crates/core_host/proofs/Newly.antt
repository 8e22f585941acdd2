-- A host that was just made.
use Rattle.std.proofs.Common.{◌≡◌, ℕ, zero, suc, ◌-◌, ◌<◌, ◌≤◌, Bool, true, false, Option, Some, None, List, [], ◌∷◌, length, get_or, refl, sym, ap, ◌∙◌, subst, inl, inr, ⊎_elim, arith}
use Rattle.std.specs.Prelude.{slice_get, ◌⊎◌}
use Rattle.std.proofs.lemmas.Bool.{cases_lt}
use Rattle.std.proofs.lemmas.Option.{slice_get-get_or}
use Rattle.forec_kernel.specs.Packets.{PlainPacket}
use Rattle.forec_kernel.specs.Packed.{HasRoom, AreJobs}
use Rattle.thread_code.specs.declared.instruction.CodeParts.{CodeParts}
use Rattle.thread_code.specs.Plain.{plain_code}
use Rattle.thread_code.specs.Valid.{of_shape, IsValidCode}
use Rattle.combine_tree.specs.declared.packet.Packet.{Packet}
use Rattle.combine_tree.specs.declared.packet.PacketKind.TheVariants as kind
use Rattle.combine_tree.specs.Plain.{plain_packet}
use Rattle.core_machine.specs.declared.thread.Thread.{Thread}
use Rattle.core_machine.specs.Threads.{IsResting, StandsFor}
use Rattle.copy_slots.specs.declared.view.PacketAt.TheVariants.{Fresh}
use Rattle.copy_slots.specs.declared.view.Sender.{Sender}
use Rattle.copy_slots.specs.declared.view.Taker.{Taker}
use Rattle.copy_slots.specs.Ports.{MailboxEnds, parent_at, child_at, sent_by, got_by, taken_by, answered_by, IsParent, IsChild, sent, got}
use Rattle.core_alloc.specs.Places.{Places}
use Rattle.core_seats.specs.declared.seat.Seat.{Seat}
use Rattle.core_seats.specs.Posts.{Mail, AreReplies}
use Rattle.tick_jobs.specs.Branches.{IsBranchOf}
use Rattle.core_seats.specs.Loads.{is_on, IsNewParent, IsNewChild, ArePlaced, CanLoad, AreAll, IsNewSeat, contains_core}
use Rattle.core_seats.specs.Done.{HasDone}
use Rattle.core_seats.specs.Keeping.{SchedulerState, Sits, Idle, none, blank, HasPacket, Quiet}
use Rattle.core_seats.specs.Waiting.{HasChild, RestsOrWaits, IsVacant, rests}
use Rattle.core_host.specs.Hosted.{Hosted, hosted, is_here, IsWhole}
use Rattle.core_host.specs.Rests.{IsHosted}
use Rattle.tick_jobs.specs.Ready.{IsReady}
use Rattle.tick_jobs.specs.Ticks.{RanNone, HasRun}
use Rattle.core_host.specs.Runs.{HasJobs, ticking, IsNewHost}
use Rattle.tick_jobs.proofs.Branching.{branch_above, has_parent}

parent_past : {Q : Type 0} (es : List (MailboxEnds Q)) (k : ℕ) → length es ≤ k → parent_at es k ≡ None
parent_past [] k le = refl
parent_past (e ∷ es) zero le = absurd (omega arith)
parent_past (e ∷ es) (suc k) le = parent_past es k (omega (arith, le))

-- an end at which nothing was done
parent_new : (b : Bool) (o : Option (Sender PlainPacket)) → IsNewParent b o → b ≡ true → IsParent o Fresh × (sent_by o ≡ []) × (got_by o ≡ [])
parent_new true (Some x) h e = h
parent_new true None h e = absurd h
parent_new false o h e = cc

child_new : (b : Bool) (o : Option (Taker PlainPacket)) → IsNewChild b o → b ≡ true → IsChild o false × (taken_by o ≡ []) × (answered_by o ≡ [])
child_new true (Some y) h e = h
child_new true None h e = absurd h
child_new false o h e = cc

child_there : (b : Bool) (o : Option (Taker PlainPacket)) (x : Bool) → IsNewChild b o → IsChild o x → b ≡ true
child_there true o x h c = refl
child_there false None x h c = absurd c
child_there false (Some y) x h c = absurd h

-- nothing was sent or got at the ends of a thread's branches
no_sent : (b : Bool) (o : Option (Sender PlainPacket)) → IsNewParent b o → (sent_by o ≡ []) × (got_by o ≡ [])
no_sent true (Some x) h = (h.1, h.2)
no_sent true None h = absurd h
no_sent false None h = (refl, refl)
no_sent false (Some x) h = absurd h

module _ (code : CodeParts) (valid : IsValidCode (plain_code code)) (placement : Places) (cores : List ℕ) (mail : Mail) (can : CanLoad code placement cores mail) (placed : ArePlaced placement) (seats : List Seat)
    (count : length seats ≡ length placement.places)
    (each : (t core : ℕ) (s : Seat) → slice_get placement.places t ≡ Some core → slice_get seats t ≡ Some s → IsNewSeat (plain_code code) t (contains_core core cores) s)
    (hands : List (Option Packet)) (hand_count : length hands ≡ length (plain_code code).threads - 1) (empty : (k : ℕ) (h : Option Packet) → slice_get hands k ≡ Some h → h ≡ None)
    (root : Packet) (room : HasRoom (of_shape (plain_code code).shape) 0 (plain_packet root)) (is_blank : root.kind ≡ kind.Blank) where
  abbrev st : SchedulerState
  st = record { code = code; places = placement.places; mail = mail; seats = seats; hands = hands }

  -- with the places and cores that it was made with, as they are read
  abbrev pub host_with : List ℕ → List ℕ → Hosted
  host_with places own = hosted (record st { places = places }) own root true None

  abbrev new_host : Hosted
  new_host = host_with placement.places cores

  abbrev on : ℕ → Bool
  on t = is_on placement.places cores t

  some_threads : 0 < length (plain_code code).threads
  some_threads = omega (arith, valid.shape.some, valid.threads)

  seat_at : (t : ℕ) → t < length (plain_code code).threads → (s : Seat) × (slice_get seats t ≡ Some s) × IsNewSeat (plain_code code) t (on t) s
  seat_at t lt =
      let s = get_or seats t (record { thread = None; job = None }) in
      let at : slice_get seats t ≡ Some s = slice_get-get_or seats t (record { thread = None; job = None }) (omega (arith, lt, count, can.placed)) in
      (s, at, each t (get_or placement.places t 0) s (slice_get-get_or placement.places t 0 (omega (arith, lt, can.placed))) at)

  pub record NewThread (t : ℕ) : Type 0 where
    pub thread : Thread
    pub sits : Sits st t thread
    pub free : sits.seat.job ≡ None
    pub resting : IsResting thread
    pub stands : StandsFor (plain_code code) thread []

  thread_at : (t : ℕ) → t < length (plain_code code).threads → on t ≡ true → NewThread t
  thread_at t lt here =
      let s = seat_at t lt in
      let l = s.2.here here in
      record {
        thread = l.thread;
        sits = record { seat = s.0; at = s.1; is = l.is; loaded = l.loaded; number = l.number };
        free = s.2.job;
        resting = l.resting;
        stands = l.stands;
      }

  no_posts : (t k : ℕ) → IsBranchOf (plain_code code).shape t k → (sent mail k ≡ []) × (got mail k ≡ [])
  no_posts t k mine =
      ⊎_elim (λ lt. no_sent (on t) (parent_at mail.ends k) (can.parents placed k t lt mine))
      (λ ge. let e = parent_past mail.ends k (omega (arith, ge)) in (ap sent_by e, ap got_by e)) (cases_lt k (length mail.ends))

  new_done : (t : ℕ) (n : NewThread t) → HasDone (plain_code code) n.thread mail []
  new_done t n = record {
    exchanges = [];
    outputs = [];
    stands = n.stands;
    jobs_are = refl;
    runs = tt;
    complete = tt;
    posts = record {
      above = tt;
      allowed = tt;
      sent = λ k mine. subst (λ l. AreJobs l []) (sym (no_posts n.thread.number k mine).0) tt;
      got = λ k mine. subst (λ l. AreReplies l []) (sym (no_posts n.thread.number k mine).1) tt;
    };
  }

  in_threads : (k : ℕ) → k < length mail.ends → suc k < length (plain_code code).threads
  in_threads k lt = omega (arith, lt, can.mailboxes)

  new_idle : (k : ℕ) → k < length mail.ends → on (suc k) ≡ true → Idle st k
  new_idle k lt here =
      let n = thread_at (suc k) (in_threads k lt) here in
      let c = child_new (on (suc k)) (child_at mail.ends k) (can.children placed k lt) here in
      record {
        thread = n.thread;
        sits = n.sits;
        free = n.free;
        resting = n.resting;
        child = c.0;
        jobs = [];
        are = subst (λ l. AreJobs l []) (sym c.1) tt;
        done = new_done (suc k) n;
        last = none c.1;
        even = ap length c.2 ∙ ap length (sym c.1);
      }

  new_packet : (t k : ℕ) → k < length mail.ends → IsBranchOf (plain_code code).shape t k → on t ≡ true → HasPacket st k
  new_packet t k lt mine here =
      let p = parent_new (on t) (parent_at mail.ends k) (can.parents placed k t lt mine) here in
      let b = can.blanks k lt in
      let h = get_or hands k None in
      let at : slice_get hands k ≡ Some h = slice_get-get_or hands k None (omega (arith, lt, can.mailboxes, hand_count)) in
      let nothing : h ≡ None = empty k h at in
      record { hand = None; at = at ∙ ap Some nothing; ready = blank p.0 b.blank b.is b.room }

  new_quiet : ((t : ℕ) → t < length (plain_code code).threads → on t ≡ true) → (k : ℕ) → k < length mail.ends → Quiet st k
  new_quiet all k lt =
      let here = all (suc k) (in_threads k lt) in
      let up = has_parent (plain_code code) valid k (in_threads k lt) in
      let c = child_new (on (suc k)) (child_at mail.ends k) (can.children placed k lt) here in
      let up_lt : up.0 < length (plain_code code).threads = let less = branch_above (plain_code code) valid up.0 k (in_threads k lt) up.1 in let n = in_threads k lt in omega (arith, less, n) in
      let p = parent_new (on up.0) (parent_at mail.ends k) (can.parents placed k up.0 lt up.1) (all up.0 up_lt) in
      record { idle = new_idle k lt here; all = c.1 ∙ sym p.1; packet = new_packet up.0 k lt up.1 (all up.0 up_lt) }

  new_between : (k : ℕ) → k < length mail.ends → HasChild mail k → RestsOrWaits st k
  new_between k lt there =
      let here = child_there (on (suc k)) (child_at mail.ends k) there.0 (can.children placed k lt) there.1 in
      rests (record { idle = new_idle k lt here; has = λ j less mine. new_packet (suc k) j less mine here })

  new_descends : (k : ℕ) → k < length mail.ends → (b : Bool) → on (suc k) ≡ b → IsVacant st (suc k) ⊎ RestsOrWaits st k
  new_descends k lt true here = inr (new_between k lt (false, (child_new (on (suc k)) (child_at mail.ends k) (can.children placed k lt) here).0))
  new_descends k lt false else = let s = seat_at (suc k) (in_threads k lt) in inl (record { seat = s.0; at = s.1; none = s.2.else else })

  new_hosted : IsHosted new_host
  new_hosted = record {
    valid = valid;
    work = can.work;
    mailboxes = can.mailboxes;
    seats = count ∙ can.placed;
    hands = omega (arith, hand_count, some_threads);
    places = can.placed;
    room = room;
    root = λ here. let n = thread_at 0 some_threads here in record { thread = n.thread; sits = n.sits; resting = n.resting; jobs = []; done = new_done 0 n };
    ready = λ e t sits. subst (IsReady t) (sym is_blank) tt;
    here = λ k lt here. (false, (child_new (on (suc k)) (child_at mail.ends k) (can.children placed k lt) here).0);
    between = new_between;
    all = λ k le lt. new_descends k lt (on (suc k)) refl;
    keeper = can.root;
    packets = λ here k lt mine. new_packet 0 k lt mine here;
    hung = tt;
  }

  new_jobs : is_here new_host 0 ≡ true → HasJobs new_host []
  new_jobs here = let n = thread_at 0 some_threads here in record { thread = n.thread; sits = n.sits; fit = tt; done = new_done 0 n }

  new_whole : mail.tells ≡ true → AreAll placement.cores cores → IsWhole new_host
  new_whole tells all =
      let each = λ (t : ℕ) (lt : t < length (plain_code code).threads). all (get_or placement.places t 0) (placed t 0 (omega (arith, lt, can.placed))) in record { tells = tells; all = each; quiet = new_quiet each }

  whole_here : IsWhole new_host → is_here new_host 0 ≡ true
  whole_here whole = whole.all 0 some_threads

  new_none : is_here new_host 0 ≡ true → RanNone (ticking new_host)
  unfolding HasRun
  new_none here = record { live = refl; blank = is_blank; turns = λ k fine stands. record { jobs = new_jobs here; keeps = λ e. is_blank }; jobs = new_jobs here }

  new_is : IsNewHost code placement cores mail new_host
  new_is = record {
    code_is = refl;
    places = refl;
    cores_are = refl;
    mail_is = refl;
    live = refl;
    rope = refl;
    none = new_none;
    fresh = λ whole. new_none (whole_here whole);
    whole = new_whole;
  }

  pub is_new : (places own : List ℕ) → placement.places ≡ places → cores ≡ own → IsHosted (host_with places own) × IsNewHost code placement cores mail (host_with places own)
  is_new places own p c =
      subst (λ l. IsHosted (host_with places l) × IsNewHost code placement cores mail (host_with places l)) c
      (subst (λ l. IsHosted (host_with l cores) × IsNewHost code placement cores mail (host_with l cores)) p (new_hosted, new_is))

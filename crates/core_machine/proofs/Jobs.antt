-- How a job begins, and what it leaves.
use Rattle.std.proofs.Common.{◌≡◌, ◌≢◌, ℕ, zero, suc, ◌+◌, ◌<◌, ◌≤◌, ◌^◌, List, [], ◌∷◌, ◌++◌, length, map, Some, None, Bool, true, false, refl, sym, ap, ◌∙◌, subst, ⊎_elim, inl, inr, arith}
use Rattle.std.specs.Prelude.{ℤ, get_or, replicate, ◌↔◌}
use Rattle.std.proofs.lemmas.Bool.{cases_lt}
use Rattle.std.proofs.lemmas.List.{length-replicate}
use Rattle.std.proofs.lemmas.Option.{slice_get-get_or}
use Rattle.forec_base.specs.declared.Place.{Place}
use Rattle.forec_base.specs.declared.Trap.{Trap}
use Rattle.forec_kernel.specs.declared.shape.VarCopy.{VarCopy}
use Rattle.forec_kernel.specs.declared.shape.ThreadShape.{ThreadShape}
use Rattle.forec_kernel.specs.Shapes.{plain_thread}
use Rattle.forec_kernel.specs.Values.{fresh_words}
use Rattle.forec_kernel.specs.Texts.{params_in, words_in, uses_in}
use Rattle.forec_kernel.specs.Packets.{PlainPacket}
use Rattle.forec_kernel.specs.Packets as plain
use Rattle.forec_kernel.specs.Packed.{HasRoom, IsJob, IsReply}
use Rattle.forec_kernel.specs.Engine.{Job, Start, Wake, allowance_of, Reply, WasPaused, WasEnded, WasTrapped, WasOver, Written, View, Going, AtFork, Pausing, Ending, Trapping, Exceeding, Engine, run_for, IsStopped, Rest, Asleep, Nothing, Exchange, Output, Serves as Serves_by, last_reply}
use Rattle.forec_kernel.specs.Reached.{Reached, AtRest, Inside, none, begun, stepped, answered, exceeded, Closes}
use Rattle.forec_kernel.proofs.ReachedLemmas.{Went, alone_of, alone_snoc, went_answer, went_over}
use Rattle.forec_kernel.proofs.Same.{one_stop, not_both}
use Rattle.thread_code.specs.Plain.{PlainBlock, PlainCode}
use Rattle.thread_code.specs.Valid.{IsBlock, IsValidCode, of_shape, thread_scope}
use Rattle.thread_code.specs.Machine.{Own, Machine, On, Trapped, Stuck, step}
use Rattle.thread_code.specs.Alone.{block_of, started_machine, woken_machine, view_of, machine_units, code_engine}
use Rattle.thread_code.proofs.Steady.{code_steady}
use Rattle.thread_code.proofs.Unstuck.{never_stuck}
use Rattle.combine_tree.specs.declared.packet.PacketKind.{PacketKind}
use Rattle.combine_tree.specs.declared.packet.PacketKind.TheVariants as kind
use Rattle.thread_state.specs.Frames.{Frames, started_frames as started_frames}
use Rattle.core_machine.specs.Branches.{HoldsReplies}
use Rattle.thread_state.specs.Kept.{PlainOwn, begun_own as begun_kept, with_copies, SuitsThread}
use Rattle.thread_steps.specs.BlockRun.{block_for, work, point_of}
use Rattle.core_machine.specs.declared.thread.Thread.{Thread}
use Rattle.core_machine.specs.declared.thread.Phase.{Phase}
use Rattle.core_machine.specs.declared.thread.Phase.TheVariants as phase
use Rattle.core_machine.specs.declared.thread.Event.{Event}
use Rattle.core_machine.specs.declared.thread.Event.TheVariants as event
use Rattle.core_machine.specs.Held.{work_of, callers, machine_in, machine_of, Works, HoldsInPhase}
use Rattle.core_machine.specs.Threads.{Loaded, Exceeds, StandsInPhase, StandsAtMachine, WaitsForReplies, StandsFor, never, since, settling, joining, event_of, HasEvent, passes, reaches, IsResting, RestsInPhase, HasReply, HasPaused, RunsInPhase, CanRun, LeftByEvent, CanBegin, RepliesToLast}
use Rattle.core_machine.specs.Direct.{RepliesIn, RepliesBy, GivesFor}
use Rattle.core_machine.specs.RunParts.{HasMachine, CanStop, started_by, woken_by, Begun, Moved, Shown, over, comes, ComesToEvent}
use Rattle.core_machine.proofs.CallRuns.{length_fresh}
use Rattle.core_machine.proofs.Outer.{empty_of}
use Rattle.core_machine.proofs.Told.{all_then, told}
use Rattle.core_machine.proofs.Reloading.{loaded_as, works_first, works_as}

-- ---- a Start

module _ (c : PlainCode) (valid : IsValidCode c) (h : Thread) (l : Loaded c h) (p : PlainPacket) (room : HasRoom (of_shape c.shape) h.number p) where
  abbrev b : PlainBlock
  b = block_of c h.number

  pub is_block : IsBlock (thread_scope c h.number) (params_in c.shape.threads h.number) (words_in c.shape.threads h.number) b
  is_block = valid.each_thread h.number b (slice_get-get_or c.threads h.number _ l.thread)

  pub start_args : length p.args ≤ b.words
  start_args = omega (arith, room.args, is_block.enough, (valid.shape.each_thread h.number (omega (arith, l.thread, valid.threads))).params)

  pub start_room : b.words + b.counters ≤ h.stack.room
  start_room = omega (arith, l.own.own, l.room)

  pub start_copies : length p.copies ≡ length h.own.copies
  start_copies = room.copies ∙ sym l.serves.copies

  abbrev frames : Frames
  frames = started_frames p.args b.words b.counters h.stack.room h.stack.most

  abbrev kept : PlainOwn
  kept = begun_kept p.copies h.own

  abbrev started_thread : Thread
  started_thread = record { number = h.number; phase = phase.Running false; function = None; at = 0; stack = frames; own = kept; units = 0; allowance = p.allowance; branches = h.branches; joining = h.joining }

  serves : SuitsThread c h.number kept
  serves = record {
    copies = room.copies;
    places = l.serves.places;
    flags = length-replicate (length h.own.flags) false ∙ l.serves.flags;
    live = length-replicate (length h.own.live) false ∙ l.serves.live;
    pars = l.serves.pars;
  }

  start_works : Works false c h.number l.needs None (work 0 frames kept 0)
  start_works = works_first false c h.number l.needs None frames kept 0 l.need 0 is_block.sound l.own serves refl (length_fresh p.args b.words start_args) (length-replicate {A = ℕ} b.counters 0) (omega arith) (omega (arith, l.room)) refl (λ e. cc) refl

  abbrev make : ℕ → ℕ → Machine
  make n k =
      On
      (record { steps = b.steps; at = 0; stack = []; words = fresh_words p.args b.words; counters = replicate b.counters 0 })
      []
      (record { copies = p.copies; flags = replicate n false; live = replicate k false })
      0

  pub start_begun : p.allowance ≤ 2 ^ 62 → Begun c h started_thread (started_by c h p) p.allowance
  start_begun small = record {
    loaded = loaded_as c h l started_thread refl refl refl refl refl small serves (omega arith) start_works;
    running = refl;
    number = refl;
    allowance = refl;
    machine = ap (λ n. make n (length h.own.live)) l.serves.flags ∙ ap (make b.flags) l.serves.live;
  }

-- ---- a Wake

module _ (c : PlainCode) (h : Thread) (l : Loaded c h) (asleep : HasPaused h) (p : PlainPacket) (room : HasRoom (of_shape c.shape) h.number p) where
  abbrev woken_thread : Thread
  woken_thread = record { number = h.number; phase = phase.Running false; function = h.function; at = h.at; stack = h.stack; own = with_copies p.copies h.own; units = 0; allowance = p.allowance; branches = h.branches; joining = h.joining }

  placed_here : HoldsInPhase c l.needs h phase.Paused
  placed_here = subst (HoldsInPhase c l.needs h) asleep.phase l.placed

  woken_serves : SuitsThread c h.number (with_copies p.copies h.own)
  woken_serves = record { copies = room.copies; places = l.serves.places; flags = l.serves.flags; live = l.serves.live; pars = l.serves.pars }

  woken_works : Works false c h.number l.needs None (work h.at h.stack (with_copies p.copies h.own) 0)
  woken_works = let w = placed_here.0 in works_as false c h.number l.needs None (work_of h) w h.at w.at.here (with_copies p.copies h.own) woken_serves 0

  pub wake_begun : p.allowance ≤ 2 ^ 62 → Begun c h woken_thread (woken_by c h p) p.allowance
  wake_begun small =
      let own = placed_here.1 in
      let nothing = empty_of h.stack.below woken_works.chained in
      let o : Own = record { copies = p.copies; flags = h.own.flags; live = h.own.live } in
      record {
        loaded = loaded_as c h l woken_thread refl refl refl refl refl small woken_serves (omega arith) (subst (λ g. Works false c h.number l.needs g (work h.at h.stack (with_copies p.copies h.own) 0)) (sym own) woken_works);
        running = refl;
        number = refl;
        allowance = refl;
        machine = ap (λ g. On (point_of (block_for c h.number g) h.at h.stack) (callers c h.number h.stack.below) o 0) own
            ∙ ap (λ ws. On (point_of (block_of c h.number) h.at h.stack) (callers c h.number ws) o 0) nothing;
      }

-- ---- where a thread stands

units_in : (c : PlainCode) (h : Thread) (l : Loaded c h) (p : Phase) → HasMachine p → HoldsInPhase c l.needs h p → machine_units (machine_in c h p) ≡ h.units
units_in c h l phase.Fresh k e = sym e
units_in c h l (phase.Running folding) k e = refl
units_in c h l (phase.Forked before) k e = e.units
units_in c h l phase.Joining k e = absurd k
units_in c h l phase.Paused k e = refl
units_in c h l phase.Ended k e = refl
units_in c h l (phase.Trapped place trap) k e = refl
units_in c h l phase.Over k e = absurd k

pub units_are : (c : PlainCode) (h : Thread) → Loaded c h → HasMachine h.phase → machine_units (machine_of c h) ≡ h.units
units_are c h l k = units_in c h l h.phase k l.placed

not_fresh : (c : PlainCode) → IsValidCode c → (h : Thread) → Loaded c h → (xs : List Exchange) (job : Job) (before : List (List Reply)) (m : Machine) → Reached (code_engine c h.number) xs (Inside job before m) → StandsAtMachine c h m → h.phase ≢ phase.Fresh
not_fresh c valid h l xs job before m reached st fresh =
    let e : m ≡ Stuck 0 = subst (λ p. StandsInPhase c h p m) fresh st in
    never_stuck c valid h.number l.thread xs job before (Stuck 0) (subst (λ m. Reached (code_engine c h.number) xs (Inside job before m)) e reached)

-- ---- the end of a job

abbrev pub reply_in : Thread → Phase → Reply
reply_in h phase.Ended = WasEnded h.own.copies h.units
reply_in h (phase.Trapped place trap) = WasTrapped place trap h.units
reply_in h phase.Over = WasOver
reply_in h _ = WasPaused h.own.copies h.units

abbrev rest_in : PlainCode → Thread → Phase → Rest Machine
rest_in c h phase.Paused = Asleep (machine_in c h phase.Paused)
rest_in c h _ = Nothing

-- how a job ends with this reply: its units pass the allowance, or it comes to an event
data Concludes (c : PlainCode) (h : Thread) (m : Machine) (o : Reply) (r : Rest Machine) : Type 0 where
  by_event : machine_units m ≤ h.allowance → Closes (code_engine c h.number) m (view_of m) o r → Concludes c h m o r
  by_units : h.allowance < machine_units m → o ≡ WasOver → r ≡ Nothing → Concludes c h m o r

exceeding : (c : PlainCode) (h : Thread) (m : Machine) → Exceeds h.allowance m → Concludes c h m WasOver Nothing
exceeding c h m (inl past) = by_units past refl refl
exceeding c h m (inr e) =
    ⊎_elim (λ past. by_units past refl refl) (λ le. by_event le (subst (λ v. Closes (code_engine c h.number) m v WasOver Nothing) (sym e) (refl, refl)))
    (cases_lt h.allowance (machine_units m))

module _ (c : PlainCode) (h : Thread) (l : Loaded c h) (m : Machine) where
  -- within the allowance
  concludes_in : (p : Phase) → p ≢ phase.Fresh → HoldsInPhase c l.needs h p → RestsInPhase h p → StandsInPhase c h p m → h.units ≤ h.allowance → Concludes c h m (reply_in h p) (rest_in c h p)
  concludes_in phase.Fresh fresh pl rests st le = absurd (fresh refl)
  concludes_in (phase.Running folding) fresh pl rests st le = absurd (omega (arith, rests.0, le))
  concludes_in (phase.Forked before) fresh pl rests st le = absurd (omega (arith, rests, le))
  concludes_in phase.Joining fresh pl rests st le = absurd rests
  concludes_in phase.Paused fresh pl rests st le = subst (λ m. Concludes c h m (reply_in h phase.Paused) (rest_in c h phase.Paused)) (sym st) (by_event le (refl, refl))
  concludes_in phase.Ended fresh pl rests st le = subst (λ m. Concludes c h m (reply_in h phase.Ended) (rest_in c h phase.Ended)) (sym st) (by_event le (refl, refl))
  concludes_in (phase.Trapped place trap) fresh pl rests st le = subst (λ m. Concludes c h m (reply_in h (phase.Trapped place trap)) (rest_in c h (phase.Trapped place trap))) (sym st) (by_event le (refl, refl))
  concludes_in phase.Over fresh pl rests st le = exceeding c h m st

  -- past the allowance
  past_in : (p : Phase) → p ≢ phase.Fresh → HoldsInPhase c l.needs h p → RestsInPhase h p → StandsInPhase c h p m → h.allowance < h.units → Concludes c h m WasOver Nothing
  past_in phase.Fresh fresh pl rests st past = absurd (fresh refl)
  past_in (phase.Running folding) fresh pl rests st past = by_units (subst (λ m. h.allowance < machine_units m) (sym st) past) refl refl
  past_in (phase.Forked before) fresh pl rests st past = by_units (subst (λ m. h.allowance < machine_units m) (sym st.0) (let u = pl.units in omega (arith, past, u))) refl refl
  past_in phase.Joining fresh pl rests st past = absurd rests
  past_in phase.Paused fresh pl rests st past = by_units (subst (λ m. h.allowance < machine_units m) (sym st) past) refl refl
  past_in phase.Ended fresh pl rests st past = by_units (subst (λ m. h.allowance < machine_units m) (sym st) past) refl refl
  past_in (phase.Trapped place trap) fresh pl rests st past = by_units (subst (λ m. h.allowance < machine_units m) (sym st) past) refl refl
  past_in phase.Over fresh pl rests st past = exceeding c h m st

-- a thread that rests has no fork open
no_settling : (h : Thread) → IsResting h → WaitsForReplies h → ⊥
no_settling h rests w = let r : h.allowance < h.units = subst (RestsInPhase h) w.phase rests in omega (arith, r, w.within)

no_joining : (h : Thread) → IsResting h → h.phase ≡ phase.Joining → ⊥
no_joining h rests e = subst (RestsInPhase h) e rests

last_of : (os : List Output) (o : Output) → last_reply (os ++ o ∷ []) ≡ o.reply
last_of [] o = refl
last_of (a ∷ []) o = refl
last_of (a ∷ b ∷ os) o = last_of (b ∷ os) o

-- ---- what a job finds

record Finds (c : PlainCode) (h : Thread) (xs : List Exchange) : Type 0 where
  rest : Rest Machine
  reached : Reached (code_engine c h.number) xs (AtRest rest)
  asleep : HasPaused h → rest ≡ Asleep (machine_of c h)

module _ (c : PlainCode) (valid : IsValidCode c) (h : Thread) (l : Loaded c h) where
  ends_at_rest : (xs : List Exchange) (job : Job) (before : List (List Reply)) (m : Machine) (o : Reply) (r : Rest Machine) → h.allowance ≡ allowance_of job → Reached (code_engine c h.number) xs (Inside job before m) → Concludes c h m o r →
      Reached (code_engine c h.number) (xs ++ record { job = job; replies = before } ∷ []) (AtRest r)
  ends_at_rest xs job before m o r al reached (by_event le closes) = answered xs job before m o r reached (omega (arith, le, al)) closes
  ends_at_rest xs job before m o r al reached (by_units past eo er) =
      subst (λ r. Reached (code_engine c h.number) (xs ++ record { job = job; replies = before } ∷ []) (AtRest r)) (sym er) (exceeded xs job before m reached (omega (arith, past, al)))

  finds : IsResting h → (xs : List Exchange) → StandsFor c h xs → Finds c h xs
  finds rests xs (never fresh) = record { rest = Nothing; reached = none; asleep = λ a. let e = sym fresh ∙ a.phase in cc }
  finds rests xs (since ys job before m al reached st) =
      ⊎_elim
      (λ past. record {
        rest = Nothing;
        reached = ends_at_rest ys job before m WasOver Nothing al reached (past_in c h l m h.phase (not_fresh c valid h l ys job before m reached st) l.placed rests st past);
        asleep = λ a. absurd (omega (arith, past, a.within));
      })
      (λ le. record {
        rest = rest_in c h h.phase;
        reached = ends_at_rest ys job before m (reply_in h h.phase) (rest_in c h h.phase) al reached (concludes_in c h l m h.phase (not_fresh c valid h l ys job before m reached st) l.placed rests st le);
        asleep = λ a. ap (rest_in c h) a.phase ∙ ap Asleep (sym (ap (machine_in c h) a.phase));
      })
      (cases_lt h.allowance h.units)
  finds rests xs (settling ys job before rs al reached w some says) = absurd (no_settling h rests w)
  finds rests xs (joining ys job before rs m al reached e n st) = absurd (no_joining h rests e)

-- what is told of the reply
module _ (c : PlainCode) (h : Thread) (l : Loaded c h) where
  gives_for : (xs : List Exchange) (job : Job) (before : List (List Reply)) (m : Machine) (o : Reply) (r : Rest Machine) → h.allowance ≡ allowance_of job → Reached (code_engine c h.number) xs (Inside job before m) → Concludes c h m o r →
      (is : Reply → Type 0) → is o → GivesFor c h.number (xs ++ record { job = job; replies = before } ∷ []) is
  gives_for ys job before m o r al reached k P is =
      let e = code_engine c h.number in
      let t = told Machine e ys (Inside job before m) reached in
      let serves = serves_by k in
      let out : Output = record { jobs = t.3; reply = Some o } in
      record {
        outputs = t.0 ++ out ∷ [];
        runs = alone_of Machine e (ys ++ record { job = job; replies = before } ∷ []) Nothing r (t.0 ++ out ∷ [])
            (alone_snoc Machine e ys (record { job = job; replies = before }) Nothing t.1 r t.0 t.2 out t.4 t.5 (serves t.2 t.3 t.6));
        complete = all_then t.0 out o t.7 refl;
        reply = o;
        last = last_of t.0 out;
        is = is;
      }
    where
      serves_by : Concludes c h m o r → (s0 : Machine) (js : List (List Written)) → Went Machine (code_engine c h.number) (allowance_of job) s0 before js m → Serves_by (code_engine c h.number) (allowance_of job) before s0 (record { jobs = js; reply = Some o }) r
      serves_by (by_event le closes) s0 js went = went_answer Machine (code_engine c h.number) (allowance_of job) before s0 js m o r went (omega (arith, le, al)) closes
      serves_by (by_units past eo er) s0 js went =
          subst (λ o. Serves_by (code_engine c h.number) (allowance_of job) before s0 (record { jobs = js; reply = Some o }) r) (sym eo)
          (subst (λ r. Serves_by (code_engine c h.number) (allowance_of job) before s0 (record { jobs = js; reply = Some WasOver }) r) (sym er)
          (went_over Machine (code_engine c h.number) (allowance_of job) before s0 js m went (omega (arith, past, al))))

  module _ (done : HasReply h) (P : Reply → Type 0) where
    reply_for : (h.units ≤ h.allowance) → P (reply_in h h.phase) → (xs : List Exchange) → StandsFor c h xs → GivesFor c h.number xs P
    reply_for le is xs (never fresh) = absurd (done.started fresh)
    reply_for le is xs (since ys job before m al reached st) =
        gives_for ys job before m (reply_in h h.phase) (rest_in c h h.phase) al reached (concludes_in c h l m h.phase done.started l.placed done.resting st le) P is
    reply_for le is xs (settling ys job before rs al reached w some says) = absurd (no_settling h done.resting w)
    reply_for le is xs (joining ys job before rs m al reached e n st) = absurd (no_joining h done.resting e)

    over_for : (h.allowance < h.units) → P WasOver → (xs : List Exchange) → StandsFor c h xs → GivesFor c h.number xs P
    over_for past is xs (never fresh) = absurd (done.started fresh)
    over_for past is xs (since ys job before m al reached st) =
        gives_for ys job before m WasOver Nothing al reached (past_in c h l m h.phase done.started l.placed done.resting st past) P is
    over_for past is xs (settling ys job before rs al reached w some says) = absurd (no_settling h done.resting w)
    over_for past is xs (joining ys job before rs m al reached e n st) = absurd (no_joining h done.resting e)

  by_packet : (xs : List Exchange) (p : PlainPacket) → GivesFor c h.number xs (IsReply p) → RepliesToLast c h.number xs p
  by_packet xs p g = record { outputs = g.outputs; runs = g.runs; complete = g.complete; reply = g.reply; last = g.last; is = g.is }

  -- the packet that a reply fills
  module _ (done : HasReply h) (p : PlainPacket) where
    pub gives_reply : (h.units ≤ h.allowance) → IsReply p (reply_in h h.phase) → (xs : List Exchange) → StandsFor c h xs → RepliesToLast c h.number xs p
    gives_reply le is xs stands = by_packet xs p (reply_for done (IsReply p) le is xs stands)

    pub gives_over : (h.allowance < h.units) → IsReply p WasOver → (xs : List Exchange) → StandsFor c h xs → RepliesToLast c h.number xs p
    gives_over past is xs stands = by_packet xs p (over_for done (IsReply p) past is xs stands)

  -- ---- the reply of the thread itself

  replies_in : (p : Phase) → p ≢ phase.Fresh → RestsInPhase h p → h.units ≤ h.allowance → RepliesIn h p (reply_in h p)
  replies_in phase.Fresh some rests le = absurd (some refl)
  replies_in (phase.Running folding) some rests le = absurd (omega (arith, rests.0, le))
  replies_in (phase.Forked before) some rests le = absurd (omega (arith, rests, le))
  replies_in phase.Joining some rests le = absurd rests
  replies_in phase.Paused some rests le = refl
  replies_in phase.Ended some rests le = refl
  replies_in (phase.Trapped place trap) some rests le = refl
  replies_in phase.Over some rests le = refl

  -- the thread gives the reply that it holds
  pub gives_own : HasReply h → (xs : List Exchange) → StandsFor c h xs → GivesFor c h.number xs (RepliesBy h)
  gives_own done xs stands =
      ⊎_elim
      (λ past. over_for done (RepliesBy h) past (inl (past, refl)) xs stands)
      (λ le. reply_for done (RepliesBy h) le (inr (le, replies_in h.phase done.started done.resting le)) xs stands)
      (cases_lt h.allowance h.units)

-- ---- a job begins

pub can_wake : (h : Thread) (k : PacketKind) → (k ≡ kind.Start → ⊥) → CanBegin h k → HasPaused h
can_wake h kind.Blank n b = absurd b
can_wake h kind.Start n b = absurd (n refl)
can_wake h kind.Wake n b = b
can_wake h kind.Paused n b = absurd b
can_wake h kind.Ended n b = absurd b
can_wake h (kind.Trapped place trap) n b = absurd b
can_wake h kind.Over n b = absurd b

pub is_wake : (h : Thread) (k : PacketKind) → (k ≡ kind.Start → ⊥) → CanBegin h k → k ≡ kind.Wake
is_wake h kind.Blank n b = absurd b
is_wake h kind.Start n b = absurd (n refl)
is_wake h kind.Wake n b = refl
is_wake h kind.Paused n b = absurd b
is_wake h kind.Ended n b = absurd b
is_wake h (kind.Trapped place trap) n b = absurd b
is_wake h kind.Over n b = absurd b

pub at_running : (c : PlainCode) (h : Thread) (folding : Bool) → h.phase ≡ phase.Running folding → StandsAtMachine c h (machine_of c h)
at_running c h folding e = subst (λ p. StandsInPhase c h p (machine_in c h p)) (sym e) refl

stands_in_phase : (c : PlainCode) (h : Thread) (p : Phase) → HasMachine p → ((before : ℕ) → p ≡ phase.Forked before → HoldsReplies h.branches []) → StandsInPhase c h p (machine_in c h p)
stands_in_phase c h phase.Fresh k quiet = refl
stands_in_phase c h (phase.Running folding) k quiet = refl
stands_in_phase c h (phase.Forked before) k quiet = (refl, quiet before refl)
stands_in_phase c h phase.Joining k quiet = absurd k
stands_in_phase c h phase.Paused k quiet = refl
stands_in_phase c h phase.Ended k quiet = refl
stands_in_phase c h (phase.Trapped place trap) k quiet = refl
stands_in_phase c h phase.Over k quiet = absurd k

at_event : (c : PlainCode) (h : Thread) → HasMachine h.phase → ((before : ℕ) → h.phase ≡ phase.Forked before → HoldsReplies h.branches []) → StandsAtMachine c h (machine_of c h)
at_event c h k quiet = stands_in_phase c h h.phase k quiet

stands_running : (c : PlainCode) (h : Thread) (m : Machine) → h.phase ≡ phase.Running false → StandsAtMachine c h m → m ≡ machine_of c h
stands_running c h m e st = let k : m ≡ machine_in c h (phase.Running false) = subst (λ p. StandsInPhase c h p m) e st in k ∙ sym (ap (machine_in c h) e)

pub stands_after : (c : PlainCode) (t : ℕ) (h : Thread) → h.number ≡ t → (xs : List Exchange) (job : Job) (before : List (List Reply)) (m : Machine) → h.allowance ≡ allowance_of job → StandsAtMachine c h m →
    Reached (code_engine c t) xs (Inside job before m) → StandsFor c h (xs ++ record { job = job; replies = before } ∷ [])
stands_after c t h e xs job before m al st r = since xs job before m al (subst (λ t. Reached (code_engine c t) xs (Inside job before m)) (sym e) r) st

module _ (c : PlainCode) (valid : IsValidCode c) (h : Thread) (l : Loaded c h) (rests : IsResting h) (p : PlainPacket) (h' : Thread) where
  pub start_stands : Begun c h h' (started_by c h p) p.allowance → p.kind ≡ plain.Start → (xs : List Exchange) (job : Job) → IsJob p job → StandsFor c h xs → StandsFor c h' (xs ++ record { job = job; replies = [] } ∷ [])
  start_stands b k xs (Start args values a) is stands =
      let f = finds c valid h l rests xs stands in
      let make : List ℤ → List VarCopy → Machine = λ ns cs.
      On (record { steps = (block_of c h.number).steps; at = 0; stack = []; words = fresh_words ns (block_of c h.number).words; counters = replicate (block_of c h.number).counters 0 })
      [] (record { copies = cs; flags = replicate (block_of c h.number).flags false; live = replicate (length c.shape.threads) false }) 0 in
      let m : machine_of c h' ≡ started_machine c (block_of c h.number) args values = b.machine ∙ ap (λ ns. make ns p.copies) is.1 ∙ ap (make args) is.2 in
      stands_after c h.number h' b.number xs (Start args values a) [] (machine_of c h') (b.allowance ∙ is.3) (at_running c h' false b.running) (begun xs (Start args values a) f.rest (machine_of c h') f.reached m)
  start_stands b k xs (Wake values a) is stands = let e = sym is.0 ∙ k in cc

  pub wake_stands : Begun c h h' (woken_by c h p) p.allowance → HasPaused h → p.kind ≡ plain.Wake → (xs : List Exchange) (job : Job) → IsJob p job → StandsFor c h xs → StandsFor c h' (xs ++ record { job = job; replies = [] } ∷ [])
  wake_stands b asleep k xs (Start args values a) is stands = let e = sym is.0 ∙ k in cc
  wake_stands b asleep k xs (Wake values a) is stands =
      let f = finds c valid h l rests xs stands in
      let make : List VarCopy → Machine = λ cs. On (point_of (block_of c h.number) h.at h.stack) [] (record { copies = cs; flags = h.own.flags; live = h.own.live }) 0 in
      let m : machine_of c h' ≡ woken_machine values (machine_of c h) = b.machine ∙ ap make is.1 ∙ sym (ap (λ q. woken_machine values (machine_in c h q)) asleep.phase) in
      let rest = f.asleep asleep in
      stands_after c h.number h' b.number xs (Wake values a) [] (machine_of c h') (b.allowance ∙ is.2) (at_running c h' false b.running)
      (begun xs (Wake values a) (Asleep (machine_of c h)) (machine_of c h') (subst (λ r. Reached (code_engine c h.number) xs (AtRest r)) rest f.reached) m)

-- ---- a run

module _ (c : PlainCode) (t : ℕ) where
  abbrev e : Engine Machine
  e = code_engine c t

  pub steps_on : (xs : List Exchange) (job : Job) (before : List (List Reply)) (n : ℕ) (m : Machine) → Reached e xs (Inside job before m) → Reached e xs (Inside job before (run_for (step c t) n m))
  steps_on xs job before zero m r = r
  steps_on xs job before (suc n) m r = steps_on xs job before n (step c t m) (stepped xs job before m (step c t m) r refl)

  stops_at : (v : View) (r : Event) → event_of v ≡ Some r → IsStopped v
  stops_at Going r h = cc
  stops_at (AtFork jobs) r h = tt
  stops_at (Pausing copies) r h = tt
  stops_at (Ending copies) r h = tt
  stops_at (Trapping place trap) r h = tt
  stops_at Exceeding r h = tt

  one_event : (a : ℕ) (m : Machine) (r r' : Event) → HasEvent e a m r → HasEvent e a m r' → r ≡ r'
  one_event a m r r' (passes p) (passes q) = refl
  one_event a m r r' (passes p) (reaches s k h v) = absurd (not_both Machine e (code_steady c t) a m s h p)
  one_event a m r r' (reaches s k h v) (passes q) = absurd (not_both Machine e (code_steady c t) a m s h q)
  one_event a m r r' (reaches s k h v) (reaches s' k' h' v') =
      let same = one_stop Machine e (code_steady c t) a m s s' h h' in
      let k = sym v ∙ ap (λ x. event_of (view_of x)) same ∙ v' in cc

tells_by : (c : PlainCode) (h h' : Thread) → Moved c h h' → (r : Event) → Shown c h' r → HasEvent (code_engine c h.number) h.allowance (machine_of c h) r
tells_by c h h' m r (over past) =
    passes (record { count = m.count; past = let u = ap machine_units m.lands in omega (arith, past, m.allowance, u, units_are c h' m.loaded m.machine) })
tells_by c h h' m r (comes s le shown) =
    reaches (machine_of c h') s
    (record { count = m.count; lands = m.lands; stops = stops_at c h.number (view_of (machine_of c h')) s shown; within = omega (arith, le, m.allowance, units_are c h' m.loaded m.machine) })
    shown

module _ (c : PlainCode) (h h' : Thread) (r : Event) (k : ComesToEvent c h h' r) (running : h.phase ≡ phase.Running false) where
  pub tells_run : HasEvent (code_engine c h.number) h.allowance (machine_of c h) r
  tells_run = tells_by c h h' k.moved r k.shown

  pub tells_exactly : (m : Machine) (s : Event) → StandsAtMachine c h m → HasEvent (code_engine c h.number) h.allowance m s ↔ (s ≡ r)
  tells_exactly m s st =
      let is : m ≡ machine_of c h = stands_running c h m running st in
      subst (λ m. HasEvent (code_engine c h.number) h.allowance m s ↔ (s ≡ r)) (sym is)
      (λ other. one_event c h.number h.allowance (machine_of c h) s r other tells_run, λ same. subst (HasEvent (code_engine c h.number) h.allowance (machine_of c h)) (sym same) tells_run)

  pub run_stands : (xs : List Exchange) → StandsFor c h xs → StandsFor c h' xs
  run_stands xs (never fresh) = let e = sym fresh ∙ running in cc
  run_stands xs (since ys job before m al reached st) =
      let is : m ≡ machine_of c h = stands_running c h m running st in
      stands_after c h.number h' k.moved.number ys job before (machine_of c h') (k.moved.allowance ∙ al) (at_event c h' k.moved.machine k.none)
      (subst (λ m. Reached (code_engine c h.number) ys (Inside job before m)) k.moved.lands (steps_on c h.number ys job before k.moved.count (machine_of c h) (subst (λ m. Reached (code_engine c h.number) ys (Inside job before m)) is reached)))
  run_stands xs (settling ys job before rs al reached w some says) = let e = sym w.phase ∙ running in cc
  run_stands xs (joining ys job before rs m al reached e n st) = let f = sym e ∙ running in cc

-- ---- how an event leaves the thread

rests_over : (h : Thread) (p : Phase) → h.allowance < h.units → CanStop p → RestsInPhase h p
rests_over h phase.Fresh past k = tt
rests_over h (phase.Running folding) past k = (past, k)
rests_over h (phase.Forked before) past k = past
rests_over h phase.Joining past k = absurd k
rests_over h phase.Paused past k = tt
rests_over h phase.Ended past k = tt
rests_over h (phase.Trapped place trap) past k = tt
rests_over h phase.Over past k = tt

left_in : (c : PlainCode) (h : Thread) (l : Loaded c h) (p : Phase) → h.phase ≡ p → HoldsInPhase c l.needs h p → (r : Event) → h.units ≤ h.allowance → ((before : ℕ) → h.phase ≡ phase.Forked before → HoldsReplies h.branches []) → event_of (view_of (machine_in c h p)) ≡ Some r → LeftByEvent h r
left_in c h l phase.Fresh e pl r le g v = cc
left_in c h l (phase.Running folding) e pl r le g v = cc
left_in c h l (phase.Forked before) e pl r le g v =
    let k : r ≡ event.Fork = let w = sym v ∙ ap event_of pl.view in cc in
    subst (LeftByEvent h) (sym k) (record { before = before; phase = e; within = le; count = ap length (g before e).ended })
left_in c h l phase.Joining e pl r le g v = cc
left_in c h l phase.Paused e pl r le g v =
    let k : r ≡ event.Paused = cc in
    subst (LeftByEvent h) (sym k) (record { resting = subst (RestsInPhase h) (sym e) tt; started = λ f. let w = sym e ∙ f in cc }, record { phase = e; within = le })
left_in c h l phase.Ended e pl r le g v =
    let k : r ≡ event.Ended = cc in
    subst (LeftByEvent h) (sym k) (record { resting = subst (RestsInPhase h) (sym e) tt; started = λ f. let w = sym e ∙ f in cc })
left_in c h l (phase.Trapped place trap) e pl r le g v =
    let k : r ≡ event.Trapped place trap = cc in
    subst (LeftByEvent h) (sym k) (record { resting = subst (RestsInPhase h) (sym e) tt; started = λ f. let w = sym e ∙ f in cc })
left_in c h l phase.Over e pl r le g v = cc

left_shown : (c : PlainCode) (h : Thread) (l : Loaded c h) → h.phase ≢ phase.Fresh → (r : Event) → CanStop h.phase → ((before : ℕ) → h.phase ≡ phase.Forked before → HoldsReplies h.branches []) → Shown c h r → LeftByEvent h r
left_shown c h l started r stops quiet (over past) = record { resting = rests_over h h.phase past stops; started = started }
left_shown c h l started r stops quiet (comes s le v) = left_in c h l h.phase refl l.placed r le quiet v

-- a run begins within a job, so the thread was started
not_fresh_after : (c : PlainCode) (h : Thread) → Loaded c h → (r : Event) → Shown c h r → h.phase ≢ phase.Fresh
not_fresh_after c h l r (over past) fresh = let u = subst (HoldsInPhase c l.needs h) fresh l.placed in absurd (omega (arith, past, u))
not_fresh_after c h l r (comes s le v) fresh = let w = sym v ∙ ap (λ q. event_of (view_of (machine_in c h q))) fresh in cc

pub run_left : (c : PlainCode) (h h' : Thread) (r : Event) → ComesToEvent c h h' r → LeftByEvent h' r
run_left c h h' r k = left_shown c h' k.moved.loaded (not_fresh_after c h' k.moved.loaded r k.shown) r k.stops k.none k.shown

-- ---- a thread that was never started

pub read_uses : (xs : List ThreadShape) (t : ℕ) (x : ThreadShape) → t < length xs → x ≡ get_or xs t x → uses_in (map plain_thread xs) t ≡ x.uses.items
read_uses [] t x lt e = absurd (omega arith)
read_uses (y ∷ ys) zero x lt e = ap (λ (s : ThreadShape). s.uses.items) (sym e)
read_uses (y ∷ ys) (suc t) x lt e = read_uses ys t x (omega arith) e

-- ---- a thread that does not run on by itself

pub can_run : (h : Thread) (p : Phase) → RunsInPhase h p → ((place : Place) (trap : Trap) → p ≡ phase.Trapped place trap → ⊥) → (p ≡ phase.Over → ⊥) → p ≡ phase.Running false
can_run h phase.Fresh k a b = absurd k
can_run h (phase.Running true) k a b = cc
can_run h (phase.Running false) k a b = refl
can_run h (phase.Forked before) k a b = absurd k
can_run h phase.Joining k a b = absurd k
can_run h phase.Paused k a b = absurd k
can_run h phase.Ended k a b = absurd k
can_run h (phase.Trapped place trap) k a b = absurd (a place trap refl)
can_run h phase.Over k a b = absurd (b refl)

module _ (c : PlainCode) (h : Thread) (m : Machine) (st : StandsAtMachine c h m) where
  over_tells : h.phase ≡ phase.Over → HasEvent (code_engine c h.number) h.allowance m event.Over
  over_tells e = by (subst (λ p. StandsInPhase c h p m) e st)
    where
      by : Exceeds h.allowance m → HasEvent (code_engine c h.number) h.allowance m event.Over
      by (inl past) = passes (record { count = 0; past = past })
      by (inr v) =
          ⊎_elim (λ past. passes (record { count = 0; past = past }))
          (λ le. reaches m event.Over (record { count = 0; lands = refl; stops = subst IsStopped (sym v) tt; within = le }) (ap event_of v))
          (cases_lt h.allowance (machine_units m))

  pub over_exactly : h.phase ≡ phase.Over → (s : Event) → HasEvent (code_engine c h.number) h.allowance m s ↔ (s ≡ event.Over)
  over_exactly e s = (λ other. one_event c h.number h.allowance m s event.Over other (over_tells e), λ same. subst (HasEvent (code_engine c h.number) h.allowance m) (sym same) (over_tells e))

  trap_tells : (place : Place) (trap : Trap) → h.phase ≡ phase.Trapped place trap → CanRun h → HasEvent (code_engine c h.number) h.allowance m (event.Trapped place trap)
  trap_tells place trap e can =
      let is : m ≡ Trapped place trap h.units = subst (λ p. StandsInPhase c h p m) e st in
      let le : h.units ≤ h.allowance = subst (RunsInPhase h) e can in
      subst (λ m. HasEvent (code_engine c h.number) h.allowance m (event.Trapped place trap)) (sym is)
      (reaches (Trapped place trap h.units) (event.Trapped place trap) (record { count = 0; lands = refl; stops = tt; within = le }) refl)

  pub trap_exactly : (place : Place) (trap : Trap) → h.phase ≡ phase.Trapped place trap → CanRun h → (s : Event) → HasEvent (code_engine c h.number) h.allowance m s ↔ (s ≡ event.Trapped place trap)
  trap_exactly place trap e can s = (λ other. one_event c h.number h.allowance m s (event.Trapped place trap) other (trap_tells place trap e can), λ same. subst (HasEvent (code_engine c h.number) h.allowance m) (sym same) (trap_tells place trap e can))

pub trap_replies : (h : Thread) (place : Place) (trap : Trap) → h.phase ≡ phase.Trapped place trap → HasReply h
trap_replies h place trap e = record { resting = subst (RestsInPhase h) (sym e) tt; started = λ f. let w = sym e ∙ f in cc }

pub over_replies : (h : Thread) → h.phase ≡ phase.Over → HasReply h
over_replies h e = record { resting = subst (RestsInPhase h) (sym e) tt; started = λ f. let w = sym e ∙ f in cc }

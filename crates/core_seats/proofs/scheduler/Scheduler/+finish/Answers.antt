use Rattle.std.proofs.Common.{rules, ℕ, suc, true, ◌≡◌, ◌≤◌, ◌^◌, ◌<◌, ◌+◌, ◌-◌, ◌*◌, Some, None, List, length, refl, sym, ap, ◌∙◌, subst, arith}
use Rattle.std.specs.Prelude.{slice_set}
use Rattle.std.proofs.lemmas.Option.{slice_get_within}
use Rattle.std.proofs.Math.Facts.{Fits-of_lt}
use Rattle.thread_code.specs.declared.instruction.CodeParts.{CodeParts}
use Rattle.thread_code.specs.Plain.{plain_code}
use Rattle.thread_code.specs.Alone.{block_of}
use Rattle.core_machine.specs.Threads.{Loaded, CanBegin}
use Rattle.forec_kernel.specs.Engine.{Job}
use Rattle.forec_kernel.specs.Packed.{HasRoom, IsJob}
use Rattle.thread_code.specs.Valid.{of_shape}
use Rattle.combine_tree.specs.declared.packet.Packet.{Packet}
use Rattle.combine_tree.specs.Plain.{plain_packet}
use Rattle.copy_slots.specs.Ports.{ChildIs, taken}
use Rattle.core_seats.specs.Asking.{Replies}
use Rattle.core_seats.specs.Keeping.{SchedulerState, code_in, QuietAbove, KeepsBelow, HaveHeard, LacksPacket, IsBack}
use Rattle.core_seats.proofs.Mails.{state}
use Rattle.core_seats.proofs.KeepingLemmas.{leaves_same, leaves_then, fitted_keeps}
use Rattle.tick_jobs.proofs.Lists.{past_end}
use Rattle.core_seats.proofs.ChildrenRunLemmas.{consulted_none, some_number, fitted_b, above_m, inside_m, can_send, some_packet, is_called, sent_above, consulted_more, have_heard}
use Rattle.core_seats.proofs.Finishing.{Counted, job_runs, allowance_is, at_fork, some_at, bound, next}
use Rattle.tick_jobs.proofs.Forks.{came_to_fork, fits_forks, replied_by, stands_by}
use Rattle.core_seats.proofs.SchedulerCalls.{loaded_now, resting_now, begins_now, room_now, small_now, has_begun, reply_room, has_answer, has_ended}
use Rattle.core_seats.proofs.scheduler.Scheduler.+finish.Goals.{run_child-After-reply, run_child-After-answer}
use Rattle.core_seats.proofs.scheduler.Scheduler.+finish.Goals as goal

-- ---- run_children

pub run_children-loop-branch-init : goal.run_children-loop-branch-init
run_children-loop-branch-init g t c =
    consulted_none c.args.self.now c.args.thread.now c.requires.fork c.requires.above

pub run_children-overflow_sub-mailbox : goal.run_children-overflow_sub-mailbox
run_children-overflow_sub-mailbox g t c =
    some_number c.args.self.now c.loop-branch.self c.args.thread.now c.loop-branch.k c.in-Some.branch c.requires.fitted c.requires.fork c.loop-branch.invariant (sym c.active.ensures ∙ c.in-Some.is)

pub run_children-send-requires-clause-job : goal.run_children-send-requires-clause-job
run_children-send-requires-clause-job g t c =
    can_send c.args.self.now c.loop-branch.self c.args.thread.now c.loop-branch.k c.in-Some.branch c.requires.fitted c.requires.fork c.loop-branch.invariant (sym c.active.ensures ∙ c.in-Some.is)

pub run_children-send-requires-clause-has : goal.run_children-send-requires-clause-has
run_children-send-requires-clause-has g t c =
    some_packet c.args.self.now c.loop-branch.self c.args.thread.now c.loop-branch.k c.in-Some.branch c.requires.fitted c.requires.fork c.loop-branch.invariant (sym c.active.ensures ∙ c.in-Some.is)

pub run_children-loop-branch-smaller : goal.run_children-loop-branch-smaller
run_children-loop-branch-smaller g t c =
    let lt = slice_get_within c.args.thread.now.branches.numbers c.loop-branch.k c.in-Some.branch (sym c.active.ensures ∙ c.in-Some.is) in omega (arith, lt)

pub run_children-loop-branch-preserved : goal.run_children-loop-branch-preserved
run_children-loop-branch-preserved g t c =
    consulted_more c.args.self.now c.loop-branch.self c.args.thread.now c.loop-branch.k c.in-Some.branch c.requires.fitted c.requires.fork c.loop-branch.invariant (sym c.active.ensures ∙ c.in-Some.is)
    c.send.new.self c.send.ensures.moves c.run_child.new.self c.collect.new.self c.send.ensures.sent c.run_child.ensures.leaves c.run_child.ensures.above c.run_child.ensures.back c.collect.ensures.moves (c.collect.ensures.there c.if-not-collect.false)

pub run_children-returns-clause-heard : goal.run_children-returns-clause-heard
run_children-returns-clause-heard g t c =
    let past = past_end c.args.thread.now.branches.numbers c.loop-branch.k (sym c.active.ensures ∙ c.in_default.is) in
    (c.loop-branch.invariant.replies, have_heard c.args.self.now c.loop-branch.self c.args.thread.now c.loop-branch.k c.loop-branch.invariant past, c.loop-branch.invariant.posts)

-- ---- run_child

pub run_child-begin-requires-clause-loaded : goal.run_child-begin-requires-clause-loaded
run_child-begin-requires-clause-loaded g t c =
    loaded_now c.requires.fitted.seated c.requires.inside c.requires.called.idle c.self.view_is c.in-Some.packet c.in-Some.ensures.state c.in-Some.ensures.job c.index_mut.ensures.value c.take-2.ensures.value
    (c.in-Some-take.is ∙ ap Some (sym c.deref_mut-thread.ensures.value))

pub run_child-begin-requires-clause-resting : goal.run_child-begin-requires-clause-resting
run_child-begin-requires-clause-resting g t c =
    resting_now c.requires.fitted.seated c.requires.inside c.requires.called.idle c.self.view_is c.in-Some.packet c.in-Some.ensures.state c.in-Some.ensures.job c.index_mut.ensures.value c.take-2.ensures.value
    (c.in-Some-take.is ∙ ap Some (sym c.deref_mut-thread.ensures.value))

pub run_child-begin-requires-clause-job : goal.run_child-begin-requires-clause-job
run_child-begin-requires-clause-job g t c =
    subst (λ (p : Packet). CanBegin c.deref_mut-thread.result.now p.kind) (sym c.deref.ensures)
    (begins_now c.requires.fitted.seated c.requires.inside c.requires.called.idle c.self.view_is c.in-Some.packet c.in-Some.ensures.state c.in-Some.ensures.job c.index_mut.ensures.value c.take-2.ensures.value
    (c.in-Some-take.is ∙ ap Some (sym c.deref_mut-thread.ensures.value)))

pub run_child-begin-requires-clause-room : goal.run_child-begin-requires-clause-room
run_child-begin-requires-clause-room g t c =
    subst (λ (p : Packet). HasRoom (of_shape (plain_code c.self.inside.code.now).shape) c.deref_mut-thread.result.now.number (plain_packet p)) (sym c.deref.ensures)
    (room_now c.requires.fitted.seated c.requires.inside c.requires.called.idle c.self.view_is c.in-Some.packet c.in-Some.ensures.state c.in-Some.ensures.job c.index_mut.ensures.value c.take-2.ensures.value
    (c.in-Some-take.is ∙ ap Some (sym c.deref_mut-thread.ensures.value)))

pub run_child-begin-requires-clause-small : goal.run_child-begin-requires-clause-small
run_child-begin-requires-clause-small g t c =
    subst (λ (p : Packet). p.allowance ≤ 2 ^ 62) (sym c.deref.ensures)
    (small_now c.requires.fitted.seated c.requires.inside c.requires.called.idle c.self.view_is c.in-Some.packet c.in-Some.ensures.state c.in-Some.ensures.job c.index_mut.ensures.value c.take-2.ensures.value
    (c.in-Some-take.is ∙ ap Some (sym c.deref_mut-thread.ensures.value)))

pub run_child-reply-requires-clause-room : goal.run_child-reply-requires-clause-room
run_child-reply-requires-clause-room g t c =
    subst (λ (p : Packet). HasRoom (of_shape (plain_code c.self-2.inside.code.now).shape) c.finish.new.thread.number (plain_packet p)) (sym c.deref_mut.ensures.value)
    (reply_room c.requires.fitted.seated c.requires.inside c.requires.called.idle c.self.view_is c.in-Some.packet c.in-Some.ensures.state c.in-Some.ensures.job c.index_mut.ensures.value c.take-2.ensures.value
    (c.in-Some-take.is ∙ ap Some (sym c.deref_mut-thread.ensures.value))
    (record { thread = c.take-2.new.self; job = c.index_mut.result.now.job }) c.begin.ensures.number (λ xs job is. c.begin.ensures.stands xs job (subst (λ (p : Packet). IsJob (plain_packet p) job) (sym c.deref.ensures) is))
    c.requires.fitted.tells c.in-Some.ensures.turn c.finish.ensures.number c.finish.ensures.loaded c.finish.ensures.reply c.finish.ensures.above c.finish.ensures.leaves c.finish.ensures.done c.self-2.view_is)

-- its answer
module _ (g : _) (t : _) (c : run_child-After-reply g t) where
  answers : ChildIs (g.P.Port.state c.self-2.inside.port) c.args.mailbox true
      × Replies (plain_code (g.P.Port.state c.self-2.inside.port).work.code.value) c.args.mailbox (taken (g.P.Port.state c.self-2.inside.port) c.args.mailbox) (plain_packet c.reply.new.packet)
  answers =
      has_answer c.requires.fitted.seated c.requires.inside c.requires.called.idle c.self.view_is c.in-Some.packet c.in-Some.ensures.state c.in-Some.ensures.job c.index_mut.ensures.value c.take-2.ensures.value
      (c.in-Some-take.is ∙ ap Some (sym c.deref_mut-thread.ensures.value))
      (record { thread = c.take-2.new.self; job = c.index_mut.result.now.job }) c.begin.ensures.number (λ xs job is. c.begin.ensures.stands xs job (subst (λ (p : Packet). IsJob (plain_packet p) job) (sym c.deref.ensures) is))
      c.requires.fitted.tells c.in-Some.ensures.turn c.finish.ensures.number c.finish.ensures.loaded c.finish.ensures.reply c.finish.ensures.above c.finish.ensures.leaves c.finish.ensures.done c.self-2.view_is
      c.reply.new.packet c.reply.ensures.room c.reply.ensures.kind c.reply.ensures.gives

pub run_child-answer-requires-clause-held : goal.run_child-answer-requires-clause-held
run_child-answer-requires-clause-held g t c = (answers g t (goal.at.run_child-answer-requires-clause-held g t c).After-reply).0

pub run_child-answer-requires-clause-answers : goal.run_child-answer-requires-clause-answers
run_child-answer-requires-clause-answers g t c = (answers g t (goal.at.run_child-answer-requires-clause-answers g t c).After-reply).1

-- the thread has answered
module _ (g : _) (t : _) (c : run_child-After-answer g t) where
  abbrev answered : SchedulerState
  answered = state c.self-2.inside.code.now c.self-2.inside.places.items (g.P.Port.state c.answer.new.self) (slice_set c.self-2.inside.seats.items (c.args.mailbox + 1) (record { thread = Some c.finish.new.thread; job = None })) c.self-2.inside.hands.items

  ends : (LacksPacket c.args.self.now c.args.mailbox → IsBack answered c.args.mailbox) × QuietAbove answered (suc c.args.mailbox) × KeepsBelow (suc c.args.mailbox) c.args.mailbox c.args.self.now answered
  ends =
      has_ended c.requires.fitted.seated c.requires.inside c.requires.called.idle c.self.view_is c.in-Some.packet c.in-Some.ensures.state c.in-Some.ensures.job c.index_mut.ensures.value c.take-2.ensures.value
      (c.in-Some-take.is ∙ ap Some (sym c.deref_mut-thread.ensures.value))
      (record { thread = c.take-2.new.self; job = c.index_mut.result.now.job }) c.begin.ensures.number (λ xs job is. c.begin.ensures.stands xs job (subst (λ (p : Packet). IsJob (plain_packet p) job) (sym c.deref.ensures) is))
      c.requires.fitted.tells c.in-Some.ensures.turn c.finish.ensures.number c.finish.ensures.loaded c.finish.ensures.reply c.finish.ensures.above c.finish.ensures.leaves c.finish.ensures.done c.self-2.view_is
      c.reply.new.packet c.reply.ensures.room c.reply.ensures.kind c.reply.ensures.gives (record { thread = Some c.finish.new.thread; job = None }) refl refl c.answer.ensures

pub run_child-returns-clause-back : goal.run_child-returns-clause-back
run_child-returns-clause-back g t c = (ends g t (goal.at.run_child-returns-clause-back g t c).After-answer).0 c.requires.called.lacks

pub run_child-returns-clause-above : goal.run_child-returns-clause-above
run_child-returns-clause-above g t c = (ends g t (goal.at.run_child-returns-clause-above g t c).After-answer).1

pub run_child-returns-clause-leaves : goal.run_child-returns-clause-leaves
run_child-returns-clause-leaves g t c = (ends g t (goal.at.run_child-returns-clause-leaves g t c).After-answer).2

-- ---- finish

pub finish-loop-self-init : goal.finish-loop-self-init
finish-loop-self-init g t c =
    record {
      loaded = c.requires.loaded;
      number = refl;
      running = c.requires.running;
      above = c.requires.above;
      leaves = leaves_same c.args.thread.now.number c.args.thread.now.number c.args.self.now;
      jobs = c.requires.begun.jobs;
      job = c.requires.begun.job;
      in_job = c.requires.begun.in_job;
      count = ap length c.requires.begun.first;
      allowance = sym (allowance_is (code_in c.args.self.now) c.args.thread.now c.args.self.now.mail c.requires.begun.jobs c.requires.begun.job c.requires.begun.in_job);
      done = λ jobs job i. i;
    }

pub finish-run_children-requires : goal.finish-run_children-requires
finish-run_children-requires g t c κs within =
    let i = c.loop-self.invariant in
    let code : c.self.inside.code.now ≡ c.loop-self.self.code = ap (λ (s : SchedulerState). s.code) c.self.view_is in
    let ran = came_to_fork code c.loop-self.thread c.run.new.self c.run.result c.in-Fork.is c.run.ensures.loaded c.run.ensures.number c.run.ensures.stands c.run.ensures.left c.run.ensures.branches in
    let fork = at_fork c.args.self.now c.loop-self.self c.requires.fitted c.args.thread.now c.loop-self.thread c.run.new.self i.number i.leaves ran i.jobs i.job c.loop-self.forks (i.in_job, i.count) in
    let above = subst (QuietAbove c.loop-self.self) (sym (c.run.ensures.number ∙ i.number)) i.above in
    let fitted = fitted_keeps c.args.thread.now.number c.args.thread.now.number c.args.self.now c.loop-self.self i.leaves c.requires.fitted in
    let number = c.run.ensures.number ∙ i.number in
    let smaller : 3 * (257 - c.run.new.self.number) + 1 < 3 * (257 - c.args.thread.now.number) + 2 = omega (arith, number) in
    (search rules, (within.0, (within.1, (fitted, (fork, above)))))

pub finish-settle-requires-clause-few : goal.finish-settle-requires-clause-few
finish-settle-requires-clause-few g t c =
    let i = c.loop-self.invariant in
    let code : c.self.inside.code.now ≡ c.loop-self.self.code = ap (λ (s : SchedulerState). s.code) c.self.view_is in
    let ran = came_to_fork code c.loop-self.thread c.run.new.self c.run.result c.in-Fork.is c.run.ensures.loaded c.run.ensures.number c.run.ensures.stands c.run.ensures.left c.run.ensures.branches in
    (at_fork c.args.self.now c.loop-self.self c.requires.fitted c.args.thread.now c.loop-self.thread c.run.new.self i.number i.leaves ran i.jobs i.job c.loop-self.forks (i.in_job, i.count)).few

pub finish-join-requires-clause-some : goal.finish-join-requires-clause-some
finish-join-requires-clause-some g t c =
    let i = c.loop-self.invariant in
    let code : c.self.inside.code.now ≡ c.loop-self.self.code = ap (λ (s : SchedulerState). s.code) c.self.view_is in
    let ran = came_to_fork code c.loop-self.thread c.run.new.self c.run.result c.in-Fork.is c.run.ensures.loaded c.run.ensures.number c.run.ensures.stands c.run.ensures.left c.run.ensures.branches in
    subst (λ l. 0 < length l) (sym c.settle.ensures.branches)
    (some_at c.args.self.now c.loop-self.self c.requires.fitted c.args.thread.now c.loop-self.thread c.run.new.self i.number i.leaves ran i.jobs i.job c.loop-self.forks (i.in_job, i.count))

pub finish-join-requires-clause-few : goal.finish-join-requires-clause-few
finish-join-requires-clause-few g t c =
    let i = c.loop-self.invariant in
    let code : c.self.inside.code.now ≡ c.loop-self.self.code = ap (λ (s : SchedulerState). s.code) c.self.view_is in
    let ran = came_to_fork code c.loop-self.thread c.run.new.self c.run.result c.in-Fork.is c.run.ensures.loaded c.run.ensures.number c.run.ensures.stands c.run.ensures.left c.run.ensures.branches in
    subst (λ l. length l ≤ 256) (sym c.settle.ensures.branches)
    (at_fork c.args.self.now c.loop-self.self c.requires.fitted c.args.thread.now c.loop-self.thread c.run.new.self i.number i.leaves ran i.jobs i.job c.loop-self.forks (i.in_job, i.count)).few

pub finish-overflow_add-forks : goal.finish-overflow_add-forks
finish-overflow_add-forks g t c =
    let i = c.loop-self.invariant in
    let code : c.self.inside.code.now ≡ c.loop-self.self.code = ap (λ (s : SchedulerState). s.code) c.self.view_is in
    let ran = came_to_fork code c.loop-self.thread c.run.new.self c.run.result c.in-Fork.is c.run.ensures.loaded c.run.ensures.number c.run.ensures.stands c.run.ensures.left c.run.ensures.branches in
    let b = bound c.args.self.now c.loop-self.self c.requires.fitted c.args.thread.now c.loop-self.thread c.run.new.self i.number i.leaves ran i.jobs i.job c.loop-self.forks (i.in_job, i.count) i.allowance in
    let short = c.requires.loaded.short None in
    Fits-of_lt (fits_forks c.loop-self.forks (length (block_of (code_in c.args.self.now) c.args.thread.now.number).steps) c.args.thread.now.allowance b short c.requires.loaded.small)

pub finish-loop-self-smaller : goal.finish-loop-self-smaller
finish-loop-self-smaller g t c =
    let i = c.loop-self.invariant in
    let code : c.self.inside.code.now ≡ c.loop-self.self.code = ap (λ (s : SchedulerState). s.code) c.self.view_is in
    let ran = came_to_fork code c.loop-self.thread c.run.new.self c.run.result c.in-Fork.is c.run.ensures.loaded c.run.ensures.number c.run.ensures.stands c.run.ensures.left c.run.ensures.branches in
    let b = bound c.args.self.now c.loop-self.self c.requires.fitted c.args.thread.now c.loop-self.thread c.run.new.self i.number i.leaves ran i.jobs i.job c.loop-self.forks (i.in_job, i.count) i.allowance in
    omega (arith, b)

pub finish-loop-self-preserved : goal.finish-loop-self-preserved
finish-loop-self-preserved g t c =
    let i = c.loop-self.invariant in
    let code : c.self.inside.code.now ≡ c.loop-self.self.code = ap (λ (s : SchedulerState). s.code) c.self.view_is in
    let ran = came_to_fork code c.loop-self.thread c.run.new.self c.run.result c.in-Fork.is c.run.ensures.loaded c.run.ensures.number c.run.ensures.stands c.run.ensures.left c.run.ensures.branches in
    let number = c.join.ensures.number ∙ c.settle.ensures.number ∙ c.run.ensures.number ∙ i.number in
    let leaves = subst (λ n. KeepsBelow n n c.loop-self.self c.run_children.new.self) (c.run.ensures.number ∙ i.number) c.run_children.ensures.leaves in
    let heard = c.run_children.ensures.heard in
    let goes : (jobs : List Job) (job : Job) (n : ℕ) → Counted (code_in c.args.self.now) c.loop-self.thread c.loop-self.self.mail jobs job n → Counted (code_in c.args.self.now) c.join.new.thread c.run_children.new.self.mail jobs job (n + 1) =
    λ jobs job n w. next c.args.self.now c.loop-self.self c.requires.fitted c.args.thread.now c.loop-self.thread c.run.new.self i.number i.leaves ran jobs job n w
    c.run_children.new.self c.run_children.ensures.leaves heard.0 heard.1 heard.2 c.settle.new.thread c.join.new.thread c.settle.ensures.number c.join.ensures.number (λ xs st. c.settle.ensures.stands heard.0 xs heard.1 st)
    (λ xs st. c.join.ensures.stands heard.0 xs (subst (λ l. HaveHeard c.run_children.new.self l heard.0) (sym c.settle.ensures.branches) heard.1) st) in
    let now = goes i.jobs i.job c.loop-self.forks (i.in_job, i.count) in
    record {
      loaded = c.join.ensures.loaded;
      number = number;
      running = c.join.ensures.running;
      above = subst (QuietAbove c.run_children.new.self) (c.run.ensures.number ∙ i.number) c.run_children.ensures.above;
      leaves = leaves_then c.args.thread.now.number c.args.thread.now.number c.args.self.now c.loop-self.self c.run_children.new.self i.leaves leaves;
      jobs = i.jobs;
      job = i.job;
      in_job = now.0;
      count = now.1;
      allowance = i.allowance;
      done = λ jobs job old. let j = i.done jobs job old in (goes jobs job (length j.log.before) (j, refl)).0;
    }

pub finish-returns : goal.finish-returns
finish-returns g t c =
    let code : c.self.inside.code.now ≡ c.loop-self.self.code = ap (λ (s : SchedulerState). s.code) c.self.view_is in
    let here = c.loop-self.invariant.leaves.code in
    record {
      loaded = subst (λ (x : CodeParts). Loaded (plain_code x) c.run.new.self) (code ∙ here) c.run.ensures.loaded;
      number = c.run.ensures.number ∙ c.loop-self.invariant.number;
      reply = replied_by c.run.new.self c.run.result c.run.ensures.left c.in_default.not-Fork;
      above = c.loop-self.invariant.above;
      leaves = c.loop-self.invariant.leaves;
      done = λ jobs job i.
          let j = c.loop-self.invariant.done jobs job i in
          (job_runs (code_in c.args.self.now) c.loop-self.thread c.run.new.self c.loop-self.self.mail jobs job (length j.log.before) c.run.ensures.number
          (stands_by (code ∙ here) c.loop-self.thread c.run.new.self c.run.ensures.stands) (j, refl)).0;
    }

-- ---- each call does less

pub run_children-run_child-requires : goal.run_children-run_child-requires
run_children-run_child-requires g t c κs within =
    let le = above_m c.args.self.now c.loop-branch.self c.args.thread.now c.loop-branch.k c.in-Some.branch c.requires.fitted c.requires.fork c.loop-branch.invariant (sym c.active.ensures ∙ c.in-Some.is) in
    let lt = inside_m c.args.self.now c.loop-branch.self c.args.thread.now c.loop-branch.k c.in-Some.branch c.requires.fitted c.requires.fork c.loop-branch.invariant (sym c.active.ensures ∙ c.in-Some.is) in
    let fitted = fitted_b c.args.self.now c.loop-branch.self c.args.thread.now c.loop-branch.k c.in-Some.branch c.requires.fitted c.requires.fork c.loop-branch.invariant (sym c.active.ensures ∙ c.in-Some.is) in
    let few = fitted.seated.valid.shape.few_threads in
    let same = fitted.seated.valid.threads in
    let boxes = fitted.seated.mailboxes in
    let smaller : 3 * (256 - (c.in-Some.branch - 1)) + 3 < 3 * (257 - c.args.thread.now.number) + 1 = omega (arith, le, lt, few, same, boxes) in
    let above = sent_above c.args.self.now c.loop-branch.self c.args.thread.now c.loop-branch.k c.in-Some.branch c.requires.fitted c.requires.fork c.loop-branch.invariant (sym c.active.ensures ∙ c.in-Some.is) c.send.new.self c.send.ensures.moves in
    let count = c.send.ensures.moves.alike.count in
    let inside : c.in-Some.branch - 1 < length c.send.new.self.mail.ends = omega (arith, lt, count) in
    let called = is_called c.args.self.now c.loop-branch.self c.args.thread.now c.loop-branch.k c.in-Some.branch c.requires.fitted c.requires.fork c.loop-branch.invariant (sym c.active.ensures ∙ c.in-Some.is) c.send.new.self c.send.ensures.moves c.send.ensures.lacks c.send.ensures.sent in
    (search rules, (within.0, (within.1, (inside, (search rules, (called, above))))))

pub run_child-finish-requires : goal.run_child-finish-requires
run_child-finish-requires g t c κs within =
    let begun = has_begun c.requires.fitted.seated c.requires.inside c.requires.called.idle c.self.view_is c.in-Some.packet c.in-Some.ensures.state c.in-Some.ensures.job c.index_mut.ensures.value c.take-2.ensures.value
    (c.in-Some-take.is ∙ ap Some (sym c.deref_mut-thread.ensures.value))
    (record { thread = c.take-2.new.self; job = c.index_mut.result.now.job }) c.begin.ensures.number (λ xs job is. c.begin.ensures.stands xs job (subst (λ (p : Packet). IsJob (plain_packet p) job) (sym c.deref.ensures) is)) in
    let number = begun.0 in
    let smaller : 3 * (257 - c.begin.new.self.number) + 2 < 3 * (256 - c.args.mailbox) + 3 = omega (arith, number) in
    (search rules, (within.0, (within.1, (begun.1 c.requires.fitted.tells, (c.begin.ensures.loaded, (c.begin.ensures.running, (begun.2, begun.3 c.requires.above)))))))

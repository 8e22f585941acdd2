use Rattle.std.proofs.Common.{rules, ◌<◌, ◌≤◌, ◌+◌, ◌-◌, ◌*◌, suc, false, length, refl, sym, ap, ◌∙◌, subst, arith}
use Rattle.std.specs.Prelude.{slice_index_or}
use Rattle.std.proofs.lemmas.Option.{slice_get_within}
use Rattle.thread_code.specs.declared.instruction.CodeParts.{CodeParts}
use Rattle.thread_code.specs.Plain.{plain_code}
use Rattle.core_machine.specs.Threads.{CanRun, LeftByEvent}
use Rattle.core_seats.specs.Posts.{Mail}
use Rattle.core_seats.specs.Changes.{HasProgressed}
use Rattle.core_seats.specs.Descending.{KeepsRound}
use Rattle.core_seats.specs.Keeping.{SchedulerState, code_in, HaveHeard}
use Rattle.core_seats.specs.Waiting.{IsForked, CanDescend}
use Rattle.tick_jobs.proofs.Forks.{replied_by}
use Rattle.core_seats.proofs.Seats.{can_above, it_sits}
use Rattle.tick_jobs.proofs.Lists.{past_end}
use Rattle.core_seats.proofs.CallingLemmas.{told_at, served_at, called_none, some_number, seated_b, can_call, its_packet, calls_at, calls_by, called_more, sent_first, served_all, stays_seated, stays_can}
use Rattle.core_seats.proofs.DescendingLemmas.{never, descends_same, descends_then, descends_less, descends_seated, descends_can, branch_at, kept_same, kept_then, sent_since, starts, starts_at, finishes, held_on, back_descends, gains_more, taken_up, taken_can, served_whole, served_worked, not_taken}
use Rattle.core_seats.proofs.GoingOn.{runs, the_fork, forked_here, told_so_far, s1_descends, waits_there, has_sent, has_all, has_heard, works_on, served_again, gathers_there, gathers_still}
use Rattle.core_seats.proofs.scheduler.Scheduler.+serve_down.Goals.{call_branches-then-replied, call_branches-else-replied}
use Rattle.core_seats.proofs.scheduler.Scheduler.+serve_down.Goals as goal

-- ---- serve_branches

pub serve_branches-loop-branch-init : goal.serve_branches-loop-branch-init
serve_branches-loop-branch-init g t c =
    record { descends = descends_same c.args.thread.now.number c.args.thread.now.number c.args.self.now; round = kept_same c.args.round.now }

pub serve_branches-overflow_sub-branch : goal.serve_branches-overflow_sub-branch
serve_branches-overflow_sub-branch g t c =
    let is = (branch_at (code_in c.args.self.now) c.args.thread.now c.loop-branch.k c.in-Some.branch c.requires.forked (sym c.active.ensures ∙ c.in-Some.is)).branch in omega (arith, is)

pub serve_branches-serve_here-requires : goal.serve_branches-serve_here-requires
serve_branches-serve_here-requires g t c κs within =
    let it = branch_at (code_in c.args.self.now) c.args.thread.now c.loop-branch.k c.in-Some.branch c.requires.forked (sym c.active.ensures ∙ c.in-Some.is) in
    let is = it.branch in
    let up = it.above in
    let lt = it.inside in
    let few = c.requires.seated.valid.shape.few_threads in
    let same = c.requires.seated.valid.threads in
    let boxes = c.requires.seated.mailboxes in
    let d = c.loop-branch.invariant.descends in
    let count = d.leaves.alike.count in
    let smaller : 8 * (256 - (c.in-Some.branch - 1)) + 5 < 8 * (257 - c.args.thread.now.number) = omega (arith, is, up, lt, few, same, boxes) in
    let inside : c.in-Some.branch - 1 < length c.loop-branch.self.mail.ends = omega (arith, is, lt, boxes, count) in
    let seated = descends_seated c.args.thread.now.number c.args.thread.now.number c.args.self.now c.loop-branch.self d c.requires.seated in
    let low : c.args.thread.now.number ≤ c.in-Some.branch - 1 = omega (arith, is, up) in
    let above = can_above c.loop-branch.self c.args.thread.now.number (c.in-Some.branch - 1) low (descends_can c.args.thread.now.number c.args.thread.now.number c.args.thread.now.number c.args.self.now c.loop-branch.self (omega arith) d c.requires.above) in
    (search rules, (within.0, (within.1.0, (within.1.1, (inside, (seated, above))))))

pub serve_branches-loop-branch-smaller : goal.serve_branches-loop-branch-smaller
serve_branches-loop-branch-smaller g t c =
    let lt = slice_get_within c.args.thread.now.branches.numbers c.loop-branch.k c.in-Some.branch (sym c.active.ensures ∙ c.in-Some.is) in omega (arith, lt)

pub serve_branches-loop-branch-preserved : goal.serve_branches-loop-branch-preserved
serve_branches-loop-branch-preserved g t c =
    let it = branch_at (code_in c.args.self.now) c.args.thread.now c.loop-branch.k c.in-Some.branch c.requires.forked (sym c.active.ensures ∙ c.in-Some.is) in
    let is = it.branch in
    let up = it.above in
    record {
      descends = descends_then c.args.thread.now.number c.args.thread.now.number c.args.self.now c.loop-branch.self c.serve_here.new.self c.loop-branch.invariant.descends
          (descends_less (c.in-Some.branch - 1) c.args.thread.now.number c.args.thread.now.number c.loop-branch.self c.serve_here.new.self (omega (arith, is, up)) c.serve_here.ensures.descends);
      round = kept_then c.args.round.now c.loop-branch.round c.serve_here.new.round c.loop-branch.invariant.round c.serve_here.ensures.round;
    }

-- ---- serve_here

pub serve_here-serve_down-requires : goal.serve_here-serve_down-requires
serve_here-serve_down-requires g t c κs within =
    let x = c.index.result.now in
    let smaller : 8 * (256 - c.args.mailbox) + 4 < 8 * (256 - c.args.mailbox) + 5 = omega arith in
    let between =
    it_sits c.args.self.now c.args.mailbox c.args.mailbox (c.args.mailbox + 1) x c.requires.above (omega arith) c.requires.inside (omega arith)
    (c.index.ensures ∙ ap (λ (s : SchedulerState). slice_index_or s.seats (c.args.mailbox + 1) x) c.self.view_is) (sym c.is_some.ensures ∙ c.if-is_some.true) in
    let above = can_above c.args.self.now c.args.mailbox (suc c.args.mailbox) (omega arith) c.requires.above in
    (search rules, (within.0, (within.1.0, (within.1.1, (c.requires.inside, (c.requires.seated, (between, above)))))))

pub serve_here-returns-else-is_some : goal.serve_here-returns-else-is_some
serve_here-returns-else-is_some g t c =
    record { descends = descends_same c.args.mailbox c.args.mailbox c.args.self.now; round = kept_same c.args.round.now }

-- ---- run_down

pub run_down-loop-init : goal.run_down-loop-init
run_down-loop-init g t c =
    record {
      number = refl;
      loaded = c.requires.working.work.loaded;
      running = c.requires.running;
      working = c.requires.working;
      descends = λ m n. descends_same m (suc m) c.args.self.now;
      round = kept_same c.args.round.now;
    }

pub run_down-returns-in_default : goal.run_down-returns-in_default
run_down-returns-in_default g t c =
    record {
      number = c.run.ensures.number ∙ c.loop.invariant.number;
      descends = c.loop.invariant.descends;
      working = λ _. runs c.loop.self c.requires.working.work.mailbox (descends_seated c.requires.working.work.mailbox (suc c.requires.working.work.mailbox) c.args.self.now c.loop.self (c.loop.invariant.descends c.requires.working.work.mailbox c.requires.working.work.number) c.requires.seated) c.loop.thread c.run.new.self (c.loop.invariant.number ∙ c.requires.working.work.number) c.loop.invariant.working c.self.inside.code.now (ap (λ (s : SchedulerState). s.code) c.self.view_is) c.run.ensures.loaded c.run.ensures.number c.run.ensures.stands;
      reply = λ _. replied_by c.run.new.self c.run.result c.run.ensures.left c.in_default.not-Fork;
      waiting = λ e. never e;
      sent = λ e m n. never e;
      round = c.loop.invariant.round;
    }

pub run_down-serve_fork-requires : goal.run_down-serve_fork-requires
run_down-serve_fork-requires g t c κs within =
    let number = c.run.ensures.number ∙ c.loop.invariant.number in
    let smaller : 8 * (257 - c.run.new.self.number) + 1 < 8 * (257 - c.args.thread.now.number) + 2 = omega (arith, number) in
    let d = c.loop.invariant.descends c.requires.working.work.mailbox c.requires.working.work.number in
    let seated = descends_seated c.requires.working.work.mailbox (suc c.requires.working.work.mailbox) c.args.self.now c.loop.self d c.requires.seated in
    let fork = the_fork c.loop.self c.requires.working.work.mailbox (descends_seated c.requires.working.work.mailbox (suc c.requires.working.work.mailbox) c.args.self.now c.loop.self (c.loop.invariant.descends c.requires.working.work.mailbox c.requires.working.work.number) c.requires.seated) c.loop.thread c.run.new.self (c.loop.invariant.number ∙ c.requires.working.work.number) c.loop.invariant.working c.self.inside.code.now (ap (λ (s : SchedulerState). s.code) c.self.view_is) c.run.ensures.loaded c.run.ensures.number c.run.ensures.stands
    (subst (LeftByEvent c.run.new.self) c.in-Fork.is c.run.ensures.left) (c.run.ensures.branches c.in-Fork.is) in
    let forked = forked_here c.loop.self c.requires.working.work.mailbox (descends_seated c.requires.working.work.mailbox (suc c.requires.working.work.mailbox) c.args.self.now c.loop.self (c.loop.invariant.descends c.requires.working.work.mailbox c.requires.working.work.number) c.requires.seated) c.loop.thread c.run.new.self (c.loop.invariant.number ∙ c.requires.working.work.number) c.loop.invariant.working c.self.inside.code.now (ap (λ (s : SchedulerState). s.code) c.self.view_is) c.run.ensures.loaded c.run.ensures.number c.run.ensures.stands
    (subst (LeftByEvent c.run.new.self) c.in-Fork.is c.run.ensures.left) (c.run.ensures.branches c.in-Fork.is) in
    let told = told_so_far c.loop.self c.requires.working.work.mailbox (descends_seated c.requires.working.work.mailbox (suc c.requires.working.work.mailbox) c.args.self.now c.loop.self (c.loop.invariant.descends c.requires.working.work.mailbox c.requires.working.work.number) c.requires.seated) c.loop.thread c.run.new.self (c.loop.invariant.number ∙ c.requires.working.work.number) c.loop.invariant.working c.self.inside.code.now (ap (λ (s : SchedulerState). s.code) c.self.view_is) c.run.ensures.loaded c.run.ensures.number c.run.ensures.stands
    (subst (LeftByEvent c.run.new.self) c.in-Fork.is c.run.ensures.left) (c.run.ensures.branches c.in-Fork.is) in
    let can = descends_can c.requires.working.work.mailbox (suc c.requires.working.work.mailbox) (suc c.requires.working.work.mailbox) c.args.self.now c.loop.self (omega arith) d (subst (CanDescend c.args.self.now) c.requires.working.work.number c.requires.above) in
    let above = subst (CanDescend c.loop.self) (sym (number ∙ c.requires.working.work.number)) can in
    (search rules, (within.0, (within.1.0, (within.1.1, (seated, (fork, (forked, (told, above))))))))

pub run_down-returns-then-not-serve_fork-clause-number : goal.run_down-returns-then-not-serve_fork-clause-number
run_down-returns-then-not-serve_fork-clause-number g t c =
    c.run.ensures.number ∙ c.loop.invariant.number

pub run_down-returns-then-not-serve_fork-clause-descends : goal.run_down-returns-then-not-serve_fork-clause-descends
run_down-returns-then-not-serve_fork-clause-descends g t c m n =
    descends_then m (suc m) c.args.self.now c.loop.self c.serve_fork.new.self (c.loop.invariant.descends m n)
    (s1_descends c.loop.self m (descends_seated m (suc m) c.args.self.now c.loop.self (c.loop.invariant.descends m n) c.requires.seated) c.loop.thread c.run.new.self (c.loop.invariant.number ∙ n) c.loop.invariant.working c.self.inside.code.now (ap (λ (s : SchedulerState). s.code) c.self.view_is) c.run.ensures.loaded c.run.ensures.number c.run.ensures.stands
    (subst (LeftByEvent c.run.new.self) c.in-Fork.is c.run.ensures.left) (c.run.ensures.branches c.in-Fork.is)
    c.serve_fork.new.self c.serve_fork.result c.serve_fork.ensures.served)

pub run_down-returns-then-not-serve_fork-clause-waiting : goal.run_down-returns-then-not-serve_fork-clause-waiting
run_down-returns-then-not-serve_fork-clause-waiting g t c _ =
    waits_there c.loop.self c.requires.working.work.mailbox (descends_seated c.requires.working.work.mailbox (suc c.requires.working.work.mailbox) c.args.self.now c.loop.self (c.loop.invariant.descends c.requires.working.work.mailbox c.requires.working.work.number) c.requires.seated) c.loop.thread c.run.new.self (c.loop.invariant.number ∙ c.requires.working.work.number) c.loop.invariant.working c.self.inside.code.now (ap (λ (s : SchedulerState). s.code) c.self.view_is) c.run.ensures.loaded c.run.ensures.number c.run.ensures.stands
    (subst (LeftByEvent c.run.new.self) c.in-Fork.is c.run.ensures.left) (c.run.ensures.branches c.in-Fork.is)
    c.serve_fork.new.self c.serve_fork.result c.serve_fork.ensures.served

pub run_down-returns-then-not-serve_fork-clause-sent : goal.run_down-returns-then-not-serve_fork-clause-sent
run_down-returns-then-not-serve_fork-clause-sent g t c _ m n =
    sent_since c.args.self.now c.loop.self c.serve_fork.new.self m m (suc m) (c.loop.invariant.descends m n)
    (has_sent c.loop.self m (descends_seated m (suc m) c.args.self.now c.loop.self (c.loop.invariant.descends m n) c.requires.seated) c.loop.thread c.run.new.self (c.loop.invariant.number ∙ n) c.loop.invariant.working c.self.inside.code.now (ap (λ (s : SchedulerState). s.code) c.self.view_is) c.run.ensures.loaded c.run.ensures.number c.run.ensures.stands
    (subst (LeftByEvent c.run.new.self) c.in-Fork.is c.run.ensures.left) (c.run.ensures.branches c.in-Fork.is)
    c.serve_fork.new.self c.serve_fork.result c.serve_fork.ensures.served)

pub run_down-returns-then-not-serve_fork-clause-round : goal.run_down-returns-then-not-serve_fork-clause-round
run_down-returns-then-not-serve_fork-clause-round g t c =
    kept_then c.args.round.now c.loop.round c.serve_fork.new.round c.loop.invariant.round c.serve_fork.ensures.round

pub run_down-settle-requires-clause-loaded : goal.run_down-settle-requires-clause-loaded
run_down-settle-requires-clause-loaded g t c =
    (has_all c.loop.self c.requires.working.work.mailbox (descends_seated c.requires.working.work.mailbox (suc c.requires.working.work.mailbox) c.args.self.now c.loop.self (c.loop.invariant.descends c.requires.working.work.mailbox c.requires.working.work.number) c.requires.seated) c.loop.thread c.run.new.self (c.loop.invariant.number ∙ c.requires.working.work.number) c.loop.invariant.working c.self.inside.code.now (ap (λ (s : SchedulerState). s.code) c.self.view_is) c.run.ensures.loaded c.run.ensures.number c.run.ensures.stands
    (subst (LeftByEvent c.run.new.self) c.in-Fork.is c.run.ensures.left) (c.run.ensures.branches c.in-Fork.is)
    c.serve_fork.new.self c.serve_fork.result c.serve_fork.ensures.served c.if-not-serve_fork.false).waiting.work.loaded

pub run_down-settle-requires-clause-fork : goal.run_down-settle-requires-clause-fork
run_down-settle-requires-clause-fork g t c =
    subst (LeftByEvent c.run.new.self) c.in-Fork.is c.run.ensures.left

pub run_down-settle-requires-clause-few : goal.run_down-settle-requires-clause-few
run_down-settle-requires-clause-few g t c =
    (has_all c.loop.self c.requires.working.work.mailbox (descends_seated c.requires.working.work.mailbox (suc c.requires.working.work.mailbox) c.args.self.now c.loop.self (c.loop.invariant.descends c.requires.working.work.mailbox c.requires.working.work.number) c.requires.seated) c.loop.thread c.run.new.self (c.loop.invariant.number ∙ c.requires.working.work.number) c.loop.invariant.working c.self.inside.code.now (ap (λ (s : SchedulerState). s.code) c.self.view_is) c.run.ensures.loaded c.run.ensures.number c.run.ensures.stands
    (subst (LeftByEvent c.run.new.self) c.in-Fork.is c.run.ensures.left) (c.run.ensures.branches c.in-Fork.is)
    c.serve_fork.new.self c.serve_fork.result c.serve_fork.ensures.served c.if-not-serve_fork.false).waiting.gathering.forked.few

pub run_down-settle-requires-clause-heard : goal.run_down-settle-requires-clause-heard
run_down-settle-requires-clause-heard g t c = (
  (has_all c.loop.self c.requires.working.work.mailbox (descends_seated c.requires.working.work.mailbox (suc c.requires.working.work.mailbox) c.args.self.now c.loop.self (c.loop.invariant.descends c.requires.working.work.mailbox c.requires.working.work.number) c.requires.seated) c.loop.thread c.run.new.self (c.loop.invariant.number ∙ c.requires.working.work.number) c.loop.invariant.working c.self.inside.code.now (ap (λ (s : SchedulerState). s.code) c.self.view_is) c.run.ensures.loaded c.run.ensures.number c.run.ensures.stands
      (subst (LeftByEvent c.run.new.self) c.in-Fork.is c.run.ensures.left) (c.run.ensures.branches c.in-Fork.is)
      c.serve_fork.new.self c.serve_fork.result c.serve_fork.ensures.served c.if-not-serve_fork.false).waiting.gathering.replies,
  has_heard c.loop.self c.requires.working.work.mailbox (descends_seated c.requires.working.work.mailbox (suc c.requires.working.work.mailbox) c.args.self.now c.loop.self (c.loop.invariant.descends c.requires.working.work.mailbox c.requires.working.work.number) c.requires.seated) c.loop.thread c.run.new.self (c.loop.invariant.number ∙ c.requires.working.work.number) c.loop.invariant.working c.self.inside.code.now (ap (λ (s : SchedulerState). s.code) c.self.view_is) c.run.ensures.loaded c.run.ensures.number c.run.ensures.stands
      (subst (LeftByEvent c.run.new.self) c.in-Fork.is c.run.ensures.left) (c.run.ensures.branches c.in-Fork.is)
      c.serve_fork.new.self c.serve_fork.result c.serve_fork.ensures.served c.if-not-serve_fork.false,
)

pub run_down-join-requires-clause-some : goal.run_down-join-requires-clause-some
run_down-join-requires-clause-some g t c =
    subst (λ l. 0 < length l) (sym c.settle.ensures.branches) (has_all c.loop.self c.requires.working.work.mailbox (descends_seated c.requires.working.work.mailbox (suc c.requires.working.work.mailbox) c.args.self.now c.loop.self (c.loop.invariant.descends c.requires.working.work.mailbox c.requires.working.work.number) c.requires.seated) c.loop.thread c.run.new.self (c.loop.invariant.number ∙ c.requires.working.work.number) c.loop.invariant.working c.self.inside.code.now (ap (λ (s : SchedulerState). s.code) c.self.view_is) c.run.ensures.loaded c.run.ensures.number c.run.ensures.stands
    (subst (LeftByEvent c.run.new.self) c.in-Fork.is c.run.ensures.left) (c.run.ensures.branches c.in-Fork.is)
    c.serve_fork.new.self c.serve_fork.result c.serve_fork.ensures.served c.if-not-serve_fork.false).waiting.gathering.forked.some

pub run_down-join-requires-clause-few : goal.run_down-join-requires-clause-few
run_down-join-requires-clause-few g t c =
    subst (λ l. length l ≤ 256) (sym c.settle.ensures.branches) (has_all c.loop.self c.requires.working.work.mailbox (descends_seated c.requires.working.work.mailbox (suc c.requires.working.work.mailbox) c.args.self.now c.loop.self (c.loop.invariant.descends c.requires.working.work.mailbox c.requires.working.work.number) c.requires.seated) c.loop.thread c.run.new.self (c.loop.invariant.number ∙ c.requires.working.work.number) c.loop.invariant.working c.self.inside.code.now (ap (λ (s : SchedulerState). s.code) c.self.view_is) c.run.ensures.loaded c.run.ensures.number c.run.ensures.stands
    (subst (LeftByEvent c.run.new.self) c.in-Fork.is c.run.ensures.left) (c.run.ensures.branches c.in-Fork.is)
    c.serve_fork.new.self c.serve_fork.result c.serve_fork.ensures.served c.if-not-serve_fork.false).waiting.gathering.forked.few

pub run_down-join-requires-clause-heard : goal.run_down-join-requires-clause-heard
run_down-join-requires-clause-heard g t c = (
  (has_all c.loop.self c.requires.working.work.mailbox (descends_seated c.requires.working.work.mailbox (suc c.requires.working.work.mailbox) c.args.self.now c.loop.self (c.loop.invariant.descends c.requires.working.work.mailbox c.requires.working.work.number) c.requires.seated) c.loop.thread c.run.new.self (c.loop.invariant.number ∙ c.requires.working.work.number) c.loop.invariant.working c.self.inside.code.now (ap (λ (s : SchedulerState). s.code) c.self.view_is) c.run.ensures.loaded c.run.ensures.number c.run.ensures.stands
      (subst (LeftByEvent c.run.new.self) c.in-Fork.is c.run.ensures.left) (c.run.ensures.branches c.in-Fork.is)
      c.serve_fork.new.self c.serve_fork.result c.serve_fork.ensures.served c.if-not-serve_fork.false).waiting.gathering.replies,
  subst (λ l. HaveHeard c.serve_fork.new.self l (has_all c.loop.self c.requires.working.work.mailbox (descends_seated c.requires.working.work.mailbox (suc c.requires.working.work.mailbox) c.args.self.now c.loop.self (c.loop.invariant.descends c.requires.working.work.mailbox c.requires.working.work.number) c.requires.seated) c.loop.thread c.run.new.self (c.loop.invariant.number ∙ c.requires.working.work.number) c.loop.invariant.working c.self.inside.code.now (ap (λ (s : SchedulerState). s.code) c.self.view_is) c.run.ensures.loaded c.run.ensures.number c.run.ensures.stands
      (subst (LeftByEvent c.run.new.self) c.in-Fork.is c.run.ensures.left) (c.run.ensures.branches c.in-Fork.is)
      c.serve_fork.new.self c.serve_fork.result c.serve_fork.ensures.served c.if-not-serve_fork.false).waiting.gathering.replies) (sym c.settle.ensures.branches) (has_heard c.loop.self c.requires.working.work.mailbox (descends_seated c.requires.working.work.mailbox (suc c.requires.working.work.mailbox) c.args.self.now c.loop.self (c.loop.invariant.descends c.requires.working.work.mailbox c.requires.working.work.number) c.requires.seated) c.loop.thread c.run.new.self (c.loop.invariant.number ∙ c.requires.working.work.number) c.loop.invariant.working c.self.inside.code.now (ap (λ (s : SchedulerState). s.code) c.self.view_is) c.run.ensures.loaded c.run.ensures.number c.run.ensures.stands
      (subst (LeftByEvent c.run.new.self) c.in-Fork.is c.run.ensures.left) (c.run.ensures.branches c.in-Fork.is)
      c.serve_fork.new.self c.serve_fork.result c.serve_fork.ensures.served c.if-not-serve_fork.false),
)

pub run_down-loop-preserved : goal.run_down-loop-preserved
run_down-loop-preserved g t c =
    record {
      number = c.join.ensures.number ∙ c.settle.ensures.number ∙ c.run.ensures.number ∙ c.loop.invariant.number;
      loaded = c.join.ensures.loaded;
      running = c.join.ensures.running;
      working = works_on c.loop.self c.requires.working.work.mailbox (descends_seated c.requires.working.work.mailbox (suc c.requires.working.work.mailbox) c.args.self.now c.loop.self (c.loop.invariant.descends c.requires.working.work.mailbox c.requires.working.work.number) c.requires.seated) c.loop.thread c.run.new.self (c.loop.invariant.number ∙ c.requires.working.work.number) c.loop.invariant.working c.self.inside.code.now (ap (λ (s : SchedulerState). s.code) c.self.view_is) c.run.ensures.loaded c.run.ensures.number c.run.ensures.stands
          (subst (LeftByEvent c.run.new.self) c.in-Fork.is c.run.ensures.left) (c.run.ensures.branches c.in-Fork.is)
          c.serve_fork.new.self c.serve_fork.result c.serve_fork.ensures.served c.if-not-serve_fork.false c.settle.new.thread c.join.new.thread c.join.ensures.loaded c.settle.ensures.number c.join.ensures.number c.settle.ensures.branches c.settle.ensures.stands c.join.ensures.stands;
      descends = λ m n. descends_then m (suc m) c.args.self.now c.loop.self c.serve_fork.new.self (c.loop.invariant.descends m n)
          (s1_descends c.loop.self m (descends_seated m (suc m) c.args.self.now c.loop.self (c.loop.invariant.descends m n) c.requires.seated) c.loop.thread c.run.new.self (c.loop.invariant.number ∙ n) c.loop.invariant.working c.self.inside.code.now (ap (λ (s : SchedulerState). s.code) c.self.view_is) c.run.ensures.loaded c.run.ensures.number c.run.ensures.stands
          (subst (LeftByEvent c.run.new.self) c.in-Fork.is c.run.ensures.left) (c.run.ensures.branches c.in-Fork.is)
          c.serve_fork.new.self c.serve_fork.result c.serve_fork.ensures.served);
      round = kept_then c.args.round.now c.loop.round c.serve_fork.new.round c.loop.invariant.round c.serve_fork.ensures.round;
    }

-- ---- call

pub call-serve_here-requires : goal.call-serve_here-requires
call-serve_here-requires g t c κs within =
    let smaller : 8 * (256 - c.args.mailbox) + 5 < 8 * (256 - c.args.mailbox) + 6 = omega arith in
    let at = told_at c.args.self.now c.send.new.self c.args.thread.now c.args.k c.args.mailbox c.requires.seated c.requires.job c.requires.mine c.requires.above c.send.ensures.moves c.send.ensures.sent in
    (search rules, (within.0, (within.1.0, (within.1.1, (at.inside, (at.seated, at.above))))))

pub call-collect-requires-clause-inside : goal.call-collect-requires-clause-inside
call-collect-requires-clause-inside g t c =
    (served_at c.args.self.now c.send.new.self c.args.thread.now c.args.k c.args.mailbox c.requires.seated c.requires.job c.requires.mine c.requires.above c.send.ensures.moves c.send.ensures.sent c.serve_here.new.self c.serve_here.ensures.descends c.send.ensures.lacks).inside

pub call-collect-requires-clause-seated : goal.call-collect-requires-clause-seated
call-collect-requires-clause-seated g t c =
    (served_at c.args.self.now c.send.new.self c.args.thread.now c.args.k c.args.mailbox c.requires.seated c.requires.job c.requires.mine c.requires.above c.send.ensures.moves c.send.ensures.sent c.serve_here.new.self c.serve_here.ensures.descends c.send.ensures.lacks).seated

pub call-collect-requires-clause-lacks : goal.call-collect-requires-clause-lacks
call-collect-requires-clause-lacks g t c =
    (served_at c.args.self.now c.send.new.self c.args.thread.now c.args.k c.args.mailbox c.requires.seated c.requires.job c.requires.mine c.requires.above c.send.ensures.moves c.send.ensures.sent c.serve_here.new.self c.serve_here.ensures.descends c.send.ensures.lacks).lacks

pub call-returns-clause-called : goal.call-returns-clause-called
call-returns-clause-called g t c =
    record {
      told = c.send.new.self;
      served = c.serve_here.new.self;
      sends = c.send.ensures.moves;
      lacks = c.send.ensures.lacks;
      job = c.send.ensures.sent;
      serves = c.serve_here.ensures.descends;
      looks = c.collect.ensures.moves;
      got = c.collect.ensures.there;
      missed = c.collect.ensures.awaited;
    }

-- ---- call_branches

pub call_branches-loop-branch-init : goal.call_branches-loop-branch-init
call_branches-loop-branch-init g t c = record { calls = called_none c.args.self.now c.args.thread.now c.args.here c.requires.fork; round = kept_same c.args.round.now }

pub call_branches-overflow_sub-branch : goal.call_branches-overflow_sub-branch
call_branches-overflow_sub-branch g t c =
    some_number c.args.self.now c.loop-branch.self c.args.thread.now c.loop-branch.k c.in-Some.branch c.requires.seated c.requires.fork c.requires.forked c.requires.told c.loop-branch.replied c.loop-branch.invariant.calls (sym c.active.ensures ∙ c.in-Some.is)

pub call_branches-overflow_sub-branch-else-replied : goal.call_branches-overflow_sub-branch-else-replied
call_branches-overflow_sub-branch-else-replied g t c =
    some_number c.args.self.now c.loop-branch.self c.args.thread.now c.loop-branch.k c.in-Some.branch c.requires.seated c.requires.fork c.requires.forked c.requires.told c.loop-branch.replied c.loop-branch.invariant.calls (sym c.active.ensures ∙ c.in-Some.is)

pub call_branches-call-replied-requires : goal.call_branches-call-replied-requires
call_branches-call-replied-requires g t c κs within =
    let at = calls_at c.args.self.now c.loop-branch.self c.args.thread.now c.loop-branch.k c.in-Some.branch c.requires.seated c.requires.fork c.requires.forked c.requires.told c.loop-branch.replied c.loop-branch.invariant.calls (sym c.active.ensures ∙ c.in-Some.is) in
    let up = at.low in
    let lt = at.inside in
    let few = at.few in
    let smaller : 8 * (256 - (c.in-Some.branch - 1)) + 6 < 8 * (257 - c.args.thread.now.number) = omega (arith, up, lt, few) in
    (search rules, (within.0, (within.1.0, (within.1.1, (at.ready, (at.can, (at.packet, (at.mine, at.above c.requires.above))))))))

pub call_branches-send-requires-clause-job : goal.call_branches-send-requires-clause-job
call_branches-send-requires-clause-job g t c =
    can_call c.args.self.now c.loop-branch.self c.args.thread.now c.loop-branch.k c.in-Some.branch c.requires.seated c.requires.fork c.requires.forked c.requires.told c.loop-branch.replied c.loop-branch.invariant.calls (sym c.active.ensures ∙ c.in-Some.is)

pub call_branches-send-requires-clause-has : goal.call_branches-send-requires-clause-has
call_branches-send-requires-clause-has g t c =
    its_packet c.args.self.now c.loop-branch.self c.args.thread.now c.loop-branch.k c.in-Some.branch c.requires.seated c.requires.fork c.requires.forked c.requires.told c.loop-branch.replied c.loop-branch.invariant.calls (sym c.active.ensures ∙ c.in-Some.is)

pub call_branches-send-requires-clause-seated : goal.call_branches-send-requires-clause-seated
call_branches-send-requires-clause-seated g t c =
    seated_b c.args.self.now c.loop-branch.self c.args.thread.now c.loop-branch.k c.in-Some.branch c.requires.seated c.requires.fork c.requires.forked c.requires.told c.loop-branch.replied c.loop-branch.invariant.calls (sym c.active.ensures ∙ c.in-Some.is)

pub call_branches-loop-branch-smaller : goal.call_branches-loop-branch-smaller
call_branches-loop-branch-smaller g t c =
    let lt = slice_get_within c.args.thread.now.branches.numbers c.loop-branch.k c.in-Some.branch (sym c.active.ensures ∙ c.in-Some.is) in omega (arith, lt)

pub call_branches-loop-branch-preserved : goal.call_branches-loop-branch-preserved
call_branches-loop-branch-preserved g t c =
    elim c.if-replied.branch [
      | call_branches-then-replied w ↦ record {
        calls = calls_by c.args.self.now w.call-replied.new.self c.if-replied.self c.args.thread.now (c.loop-branch.k + 1) w.call-replied.result c.if-replied.replied w.self-is w.replied-is
            (called_more c.args.self.now c.loop-branch.self c.args.thread.now c.loop-branch.k c.in-Some.branch c.requires.seated c.requires.fork c.requires.forked c.requires.told c.loop-branch.replied c.loop-branch.invariant.calls (sym c.active.ensures ∙ c.in-Some.is) w.call-replied.new.self w.call-replied.result w.call-replied.ensures.called w.if-replied.true);
        round = subst (KeepsRound c.args.round.now) (sym w.round-is) (kept_then c.args.round.now c.loop-branch.round w.call-replied.new.round c.loop-branch.invariant.round w.call-replied.ensures.round);
      }
      | call_branches-else-replied w ↦ record {
        calls = calls_by c.args.self.now w.send.new.self c.if-replied.self c.args.thread.now (c.loop-branch.k + 1) false c.if-replied.replied w.self-is (w.replied-is ∙ w.if-replied.false)
            (sent_first c.args.self.now c.loop-branch.self c.args.thread.now c.loop-branch.k c.in-Some.branch c.requires.seated c.requires.fork c.requires.forked c.requires.told c.loop-branch.replied c.loop-branch.invariant.calls (sym c.active.ensures ∙ c.in-Some.is) w.send.new.self w.send.ensures.moves w.send.ensures.lacks w.send.ensures.sent);
        round = subst (KeepsRound c.args.round.now) (sym w.round-is) c.loop-branch.invariant.round;
      }
    ]

pub call_branches-returns-clause-served : goal.call_branches-returns-clause-served
call_branches-returns-clause-served g t c =
    served_all c.args.self.now c.loop-branch.self c.args.thread.now c.loop-branch.k c.loop-branch.replied c.requires.forked c.loop-branch.invariant.calls (past_end c.args.thread.now.branches.numbers c.loop-branch.k (sym c.active.ensures ∙ c.in_default.is))

-- ---- serve_fork

pub serve_fork-serve_branches-requires : goal.serve_fork-serve_branches-requires
serve_fork-serve_branches-requires g t c κs within =
    let smaller : 8 * (257 - c.args.thread.now.number) < 8 * (257 - c.args.thread.now.number) + 1 = omega arith in
    let stays = c.call_branches-replied.ensures.served.stays in
    let seated = stays_seated c.args.thread.now.number c.args.self.now c.call_branches-replied.new.self stays c.requires.seated in
    let forked = subst (λ (x : CodeParts). IsForked (plain_code x) c.args.thread.now) (sym stays.leaves.code) c.requires.forked in
    let above = stays_can c.args.thread.now.number c.args.self.now c.call_branches-replied.new.self stays c.requires.above in
    (search rules, (within.0, (within.1.0, (within.1.1, (seated, (forked, above))))))

pub serve_fork-gather_replies-requires-clause-seated : goal.serve_fork-gather_replies-requires-clause-seated
serve_fork-gather_replies-requires-clause-seated g t c =
    descends_seated c.args.thread.now.number c.args.thread.now.number c.call_branches-replied.new.self c.serve_branches.new.self c.serve_branches.ensures.descends
    (stays_seated c.args.thread.now.number c.args.self.now c.call_branches-replied.new.self c.call_branches-replied.ensures.served.stays c.requires.seated)

pub serve_fork-gather_replies-requires-clause-gathering : goal.serve_fork-gather_replies-requires-clause-gathering
serve_fork-gather_replies-requires-clause-gathering g t c =
    gathers_still c.call_branches-replied.new.self c.serve_branches.new.self c.args.thread.now c.serve_branches.ensures.descends
    (gathers_there c.args.self.now c.call_branches-replied.new.self c.args.thread.now c.call_branches-replied.result c.call_branches-replied.ensures.served c.requires.told)

pub serve_fork-returns-clause-served : goal.serve_fork-returns-clause-served
serve_fork-returns-clause-served g t c =
    served_again c.args.self.now c.call_branches-replied.new.self c.serve_branches.new.self c.gather_replies.new.self c.args.thread.now c.call_branches-replied.result c.call_branches-replied.ensures.served c.serve_branches.ensures.descends c.gather_replies.ensures.moves c.gather_replies.result c.gather_replies.ensures.gathering c.gather_replies.ensures.all

-- ---- advance_down

pub advance_down-run_down-requires : goal.advance_down-run_down-requires
advance_down-run_down-requires g t c κs within =
    let at = starts_at c.args.self.now c.args.active c.requires.running c.deref_mut-thread.result.now c.deref_mut-thread.ensures.value in
    let smaller : 8 * (257 - c.deref_mut-thread.result.now.number) + 2 < 8 * (256 - c.args.active.mailbox) + 3 = omega (arith, at) in
    let working = starts c.args.self.now c.args.active c.requires.running c.deref_mut-thread.result.now c.deref_mut-thread.ensures.value in
    let running = subst CanRun (sym c.deref_mut-thread.ensures.value) c.requires.running.running in
    let above = subst (CanDescend c.args.self.now) (sym at) c.requires.above in
    (search rules, (within.0, (within.1.0, (within.1.1, (c.requires.seated, (working, (running, above)))))))

pub advance_down-finish_job-requires-clause-seated : goal.advance_down-finish_job-requires-clause-seated
advance_down-finish_job-requires-clause-seated g t c =
    descends_seated c.args.active.mailbox (suc c.args.active.mailbox) c.args.self.now c.run_down.new.self (c.run_down.ensures.descends c.args.active.mailbox (starts_at c.args.self.now c.args.active c.requires.running c.deref_mut-thread.result.now c.deref_mut-thread.ensures.value)) c.requires.seated

pub advance_down-hold-requires-clause-seated : goal.advance_down-hold-requires-clause-seated
advance_down-hold-requires-clause-seated g t c =
    descends_seated c.args.active.mailbox (suc c.args.active.mailbox) c.args.self.now c.run_down.new.self (c.run_down.ensures.descends c.args.active.mailbox (starts_at c.args.self.now c.args.active c.requires.running c.deref_mut-thread.result.now c.deref_mut-thread.ensures.value)) c.requires.seated

pub advance_down-finish_job-requires-clause-finished : goal.advance_down-finish_job-requires-clause-finished
advance_down-finish_job-requires-clause-finished g t c =
    finishes c.args.self.now c.args.active c.requires.running c.deref_mut-thread.result.now c.deref_mut-thread.ensures.value c.run_down.new.thread c.run_down.ensures.number c.run_down.new.self (c.run_down.ensures.descends c.args.active.mailbox (starts_at c.args.self.now c.args.active c.requires.running c.deref_mut-thread.result.now c.deref_mut-thread.ensures.value)) (c.run_down.ensures.working c.if-run_down.true) (c.run_down.ensures.reply c.if-run_down.true)

pub advance_down-hold-requires-clause-held : goal.advance_down-hold-requires-clause-held
advance_down-hold-requires-clause-held g t c =
    held_on c.args.self.now c.args.active c.requires.running c.deref_mut-thread.result.now c.deref_mut-thread.ensures.value c.run_down.new.thread c.run_down.ensures.number c.run_down.new.self (c.run_down.ensures.descends c.args.active.mailbox (starts_at c.args.self.now c.args.active c.requires.running c.deref_mut-thread.result.now c.deref_mut-thread.ensures.value)) (c.run_down.ensures.waiting c.if-run_down.false)

pub advance_down-returns-then-run_down-clause-descends : goal.advance_down-returns-then-run_down-clause-descends
advance_down-returns-then-run_down-clause-descends g t c =
    back_descends c.args.self.now c.args.active c.requires.running c.deref_mut-thread.result.now c.deref_mut-thread.ensures.value c.run_down.new.thread c.run_down.ensures.number c.run_down.new.self (c.run_down.ensures.descends c.args.active.mailbox (starts_at c.args.self.now c.args.active c.requires.running c.deref_mut-thread.result.now c.deref_mut-thread.ensures.value)) c.finish_job.new.self c.finish_job.ensures.touches c.finish_job.ensures.between (c.run_down.ensures.working c.if-run_down.true).work

pub advance_down-returns-then-run_down-clause-worked : goal.advance_down-returns-then-run_down-clause-worked
advance_down-returns-then-run_down-clause-worked g t c =
    gains_more (code_in c.args.self.now) c.args.self.now.mail c.run_down.new.self.mail c.finish_job.new.self.mail c.args.active.mailbox (c.run_down.ensures.descends c.args.active.mailbox (starts_at c.args.self.now c.args.active c.requires.running c.deref_mut-thread.result.now c.deref_mut-thread.ensures.value)).leaves.grown c.finish_job.ensures.replied

pub advance_down-returns-else-run_down-clause-descends : goal.advance_down-returns-else-run_down-clause-descends
advance_down-returns-else-run_down-clause-descends g t c =
    back_descends c.args.self.now c.args.active c.requires.running c.deref_mut-thread.result.now c.deref_mut-thread.ensures.value c.run_down.new.thread c.run_down.ensures.number c.run_down.new.self (c.run_down.ensures.descends c.args.active.mailbox (starts_at c.args.self.now c.args.active c.requires.running c.deref_mut-thread.result.now c.deref_mut-thread.ensures.value)) c.hold.new.self c.hold.ensures.touches c.hold.ensures.between (c.run_down.ensures.waiting c.if-run_down.false).work

pub advance_down-returns-else-run_down-clause-worked : goal.advance_down-returns-else-run_down-clause-worked
advance_down-returns-else-run_down-clause-worked g t c =
    subst (λ (mail : Mail). HasProgressed (code_in c.args.self.now).shape c.args.self.now.mail mail c.args.active.mailbox) (sym c.hold.ensures.mail)
    (c.run_down.ensures.sent c.if-run_down.false c.args.active.mailbox (starts_at c.args.self.now c.args.active c.requires.running c.deref_mut-thread.result.now c.deref_mut-thread.ensures.value))

-- ---- serve_down

pub serve_down-advance_down-requires : goal.serve_down-advance_down-requires
serve_down-advance_down-requires g t c κs within =
    let same = c.in-Some.ensures.running.0 in
    let smaller : 8 * (256 - c.in-Some.active.mailbox) + 3 < 8 * (256 - c.args.mailbox) + 4 = omega (arith, same) in
    let seated = descends_seated c.args.mailbox (suc c.args.mailbox) c.args.self.now c.take_up.new.self (taken_up c.args.self.now c.args.mailbox c.requires.between c.take_up.new.self c.take_up.ensures.touches c.in-Some.active c.in-Some.ensures.running.0 c.in-Some.ensures.running.1) c.requires.seated in
    let above = taken_can c.args.self.now c.args.mailbox c.requires.between c.take_up.new.self c.take_up.ensures.touches c.in-Some.active c.in-Some.ensures.running.0 c.in-Some.ensures.running.1 c.requires.above in
    (search rules, (within.0, (within.1.0, (within.1.1, (seated, (c.in-Some.ensures.running.1, above))))))

pub serve_down-returns-in-Some-clause-descends : goal.serve_down-returns-in-Some-clause-descends
serve_down-returns-in-Some-clause-descends g t c =
    served_whole c.args.self.now c.args.mailbox c.requires.between c.take_up.new.self c.take_up.ensures.touches c.in-Some.active c.in-Some.ensures.running.0 c.in-Some.ensures.running.1 c.advance_down.new.self c.advance_down.ensures.descends c.advance_down.ensures.between

pub serve_down-returns-in-Some-clause-worked : goal.serve_down-returns-in-Some-clause-worked
serve_down-returns-in-Some-clause-worked g t c _ =
    served_worked c.args.self.now c.args.mailbox c.requires.between c.take_up.new.self c.take_up.ensures.touches c.in-Some.active c.in-Some.ensures.running.0 c.in-Some.ensures.running.1 c.advance_down.new.self c.advance_down.ensures.descends c.advance_down.ensures.worked

pub serve_down-returns-in-Some-clause-round : goal.serve_down-returns-in-Some-clause-round
serve_down-returns-in-Some-clause-round g t c = subst (λ r. KeepsRound r c.advance_down.new.round) c.set_out.ensures c.advance_down.ensures.round

pub serve_down-returns-in-None-clause-descends : goal.serve_down-returns-in-None-clause-descends
serve_down-returns-in-None-clause-descends g t c =
    not_taken c.args.self.now c.args.mailbox c.take_up.new.self c.requires.between c.take_up.ensures.touches (c.in-None.ensures.between refl)

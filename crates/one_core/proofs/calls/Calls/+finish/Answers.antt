use Rattle.std.proofs.Common.{rules, ◌≡◌, ◌≤◌, ◌<◌, ◌+◌, ◌-◌, ◌*◌, ◌++◌, ◌∷◌, [], Some, None, List, length, slice_get, map, refl, sym, ap, ◌∙◌, subst, arith}
use Rattle.std.specs.Prelude.{slice_set}
use Rattle.std.proofs.lemmas.Option.{slice_get_within}
use Rattle.std.proofs.Math.Facts.{Fits-of_lt}
use Rattle.thread_code.specs.declared.instruction.CodeParts.{CodeParts}
use Rattle.thread_code.specs.Plain.{plain_code}
use Rattle.thread_code.specs.Alone.{block_of}
use Rattle.forec_kernel.specs.Engine.{Job}
use Rattle.core_machine.specs.Threads.{Loaded, StandsFor, HasSettled, LeftByEvent}
use Rattle.core_machine.specs.Forks.{jobs_at, with_replies}
use Rattle.tick_jobs.proofs.Lists.{past_end}
use Rattle.tick_jobs.proofs.Forks.{fits_forks, replied_by, stands_by}
use Rattle.one_core.specs.Seats.{Seated, seated_code, HasAllSeats, KeepsSeatsBelow}
use Rattle.tick_jobs.specs.Told.{Book}
use Rattle.one_core.specs.Resting.{IsAtJob}
use Rattle.one_core.specs.Called.{CanCall, BranchHasReplied, HasSettledReplies, BranchesHaveReplies}
use Rattle.one_core.proofs.TellLemmas.{fitted_keeps, leaves_same, leaves_then}
use Rattle.one_core.proofs.CallLemmas.{seated, fitted_set, in_branches, not_empty, child_loaded, child_at, child_rests, child_takes, number_is, has_begun, has_left, has_called, gave}
use Rattle.one_core.proofs.ConsultLemmas.{consulted_none, some_call, consulted_more, have_heard}
use Rattle.one_core.proofs.FinishLemmas.{Going, begun_works, begun_allowance, going_none, begun_on, stays_here, stays_after, going_on, stays, its_fork, can_tell, some_branch, its_bound, goes_on}
use Rattle.one_core.proofs.calls.Calls.+finish.Goals.{serve_forks-After-run}
use Rattle.one_core.proofs.calls.Calls.+finish.Goals as goal

-- ---- call_branches

pub call_branches-loop-branch-init : goal.call_branches-loop-branch-init
call_branches-loop-branch-init g t c =
    record {
      called = consulted_none c.args.self.now c.args.thread.now;
      loaded = c.requires.fork.loaded;
      number = refl;
      branches = refl;
      order = c.requires.fork.settled;
      jobs = refl;
    }

pub call_branches-loop-branch-smaller : goal.call_branches-loop-branch-smaller
call_branches-loop-branch-smaller g t c =
    let at = ap (λ l. slice_get l c.loop-branch.k) (sym c.loop-branch.invariant.branches) ∙ sym c.active.ensures ∙ c.in-Some.is in
    let lt = slice_get_within c.args.thread.now.branches.numbers c.loop-branch.k c.in-Some.branch at in
    omega (arith, lt)

pub call_branches-loop-branch-preserved : goal.call_branches-loop-branch-preserved
call_branches-loop-branch-preserved g t c =
    let i = c.loop-branch.invariant in
    let code = i.called.leaves.code in
    let at = ap (λ l. slice_get l c.loop-branch.k) (sym i.branches) ∙ sym c.active.ensures ∙ c.in-Some.is in
    record {
      called = consulted_more c.args.self.now c.loop-branch.self c.args.thread.now c.loop-branch.thread c.loop-branch.k c.in-Some.branch c.requires.fork i.called i.number i.jobs at
          c.requires.jobs c.call_branch.new.self c.call_branch.ensures.leaves c.call_branch.ensures.called c.call_branch.new.thread c.call_branch.ensures.stands;
      loaded = subst (λ (x : CodeParts). Loaded (plain_code x) c.call_branch.new.thread) code c.call_branch.ensures.loaded;
      number = c.call_branch.ensures.number ∙ i.number;
      branches = c.call_branch.ensures.branches ∙ i.branches;
      order = c.call_branch.ensures.order;
      jobs = subst (λ (x : CodeParts). jobs_at (plain_code x) c.call_branch.new.thread ≡ jobs_at (plain_code x) c.loop-branch.thread) code c.call_branch.ensures.jobs ∙ i.jobs;
    }

pub call_branches-returns : goal.call_branches-returns
call_branches-returns g t c =
    let i = c.loop-branch.invariant in
    let past = past_end c.loop-branch.thread.branches.numbers c.loop-branch.k (sym c.active.ensures ∙ c.in_default.is) in
    let count = ap length i.branches in
    let same : c.loop-branch.k ≡ length c.args.thread.now.branches.numbers = omega (arith, past, count, i.called.within) in
    record {
      called = subst (HasSettledReplies c.args.self.now c.loop-branch.self c.args.thread.now c.loop-branch.thread) same i.called;
      loaded = subst (λ (x : CodeParts). Loaded (plain_code x) c.loop-branch.thread) (sym i.called.leaves.code) i.loaded;
      number = i.number;
      branches = i.branches;
      order = subst (HasSettled c.loop-branch.thread) (same ∙ sym count) i.order;
    }

-- ---- serve_forks

pub serve_forks-loop-init : goal.serve_forks-loop-init
serve_forks-loop-init g t c =
    record {
      loaded = c.requires.loaded;
      fork = c.requires.fork;
      branches = c.requires.branches;
      number = refl;
      leaves = leaves_same c.args.thread.now.number c.args.self.now;
      at = going_none c.args.self.now c.args.thread.now;
    }

pub serve_forks-call_branches-requires : goal.serve_forks-call_branches-requires
serve_forks-call_branches-requires g t c κs within =
    let i = c.loop.invariant in
    let w = begun_works c.args.self.now c.args.thread.now c.requires.begun in
    let going = i.at c.requires.begun.book c.requires.begun.jobs c.requires.begun.job w in
    let fork = its_fork c.args.self.now c.loop.self c.args.thread.now c.loop.thread i.number c.loop.forks c.requires.begun.book c.requires.begun.jobs c.requires.begun.job w going
    c.requires.fitted i.leaves i.loaded i.fork i.branches in
    let tell = can_tell c.args.self.now c.loop.self c.args.thread.now c.loop.thread i.number c.loop.forks c.requires.begun.book c.requires.begun.jobs c.requires.begun.job w going
    c.requires.fitted i.leaves i.loaded i.fork i.branches in
    let fitted = fitted_keeps c.args.thread.now.number c.args.self.now c.loop.self i.leaves c.requires.fitted in
    let number = i.number in
    let smaller : 4 * (257 - c.loop.thread.number) + 1 < 4 * (257 - c.args.thread.now.number) + 2 = omega (arith, number) in
    (search rules, (within, (fitted, (fork, (going.after, tell)))))

pub serve_forks-join-requires-clause-some : goal.serve_forks-join-requires-clause-some
serve_forks-join-requires-clause-some g t c =
    let i = c.loop.invariant in
    let w = begun_works c.args.self.now c.args.thread.now c.requires.begun in
    let going = i.at c.requires.begun.book c.requires.begun.jobs c.requires.begun.job w in
    subst (λ l. 0 < length l) (sym c.call_branches.ensures.branches)
    (some_branch c.args.self.now c.loop.self c.args.thread.now c.loop.thread i.number c.loop.forks c.requires.begun.book c.requires.begun.jobs c.requires.begun.job w going
    c.requires.fitted i.leaves i.loaded i.fork i.branches)

pub serve_forks-overflow_add-forks : goal.serve_forks-overflow_add-forks
serve_forks-overflow_add-forks g t c =
    let i = c.loop.invariant in
    let w = begun_works c.args.self.now c.args.thread.now c.requires.begun in
    let going = i.at c.requires.begun.book c.requires.begun.jobs c.requires.begun.job w in
    let b = its_bound c.args.self.now c.loop.self c.args.thread.now c.loop.thread i.number c.loop.forks c.requires.begun.book c.requires.begun.jobs c.requires.begun.job w going
    c.requires.fitted i.leaves i.loaded i.fork i.branches (begun_allowance c.args.self.now c.args.thread.now c.requires.begun) c.requires.begun.first in
    let short = c.requires.loaded.short None in
    Fits-of_lt (fits_forks c.loop.forks (length (block_of (seated_code c.args.self.now) c.args.thread.now.number).steps) c.args.thread.now.allowance b short c.requires.loaded.small)

pub serve_forks-loop-smaller : goal.serve_forks-loop-smaller
serve_forks-loop-smaller g t c =
    let i = c.loop.invariant in
    let w = begun_works c.args.self.now c.args.thread.now c.requires.begun in
    let going = i.at c.requires.begun.book c.requires.begun.jobs c.requires.begun.job w in
    let b = its_bound c.args.self.now c.loop.self c.args.thread.now c.loop.thread i.number c.loop.forks c.requires.begun.book c.requires.begun.jobs c.requires.begun.job w going
    c.requires.fitted i.leaves i.loaded i.fork i.branches (begun_allowance c.args.self.now c.args.thread.now c.requires.begun) c.requires.begun.first in
    omega (arith, b)

-- the thread after a fork that was served
module _ (g : _) (t : _) (c : serve_forks-After-run g t) where
  done : HasSettledReplies c.loop.self c.call_branches.new.self c.loop.thread c.call_branches.new.thread (length c.loop.thread.branches.numbers)
  done = c.call_branches.ensures.called

  same_code : c.call_branches.new.self.code ≡ c.args.self.now.code
  same_code = done.leaves.code ∙ c.loop.invariant.leaves.code

  code : c.self.inside.code.now ≡ c.args.self.now.code
  code = ap (λ (s : Seated). s.code) c.self.view_is ∙ same_code

  number : c.run.new.self.number ≡ c.args.thread.now.number
  number = c.run.ensures.number ∙ c.join.ensures.number ∙ c.call_branches.ensures.number ∙ c.loop.invariant.number

  loaded : Loaded (seated_code c.args.self.now) c.run.new.self
  loaded = subst (λ (x : CodeParts). Loaded (plain_code x) c.run.new.self) code c.run.ensures.loaded

  leaves : KeepsSeatsBelow c.args.thread.now.number c.args.self.now c.call_branches.new.self
  leaves =
      let there = c.loop.invariant.number in
      leaves_then c.args.thread.now.number c.loop.thread.number c.args.self.now c.loop.self c.call_branches.new.self (omega (arith, there)) c.loop.invariant.leaves done.leaves

  at_work : (book : Book) (jobs : List Job) (job : Job) (w : IsAtJob c.args.self.now c.args.thread.now book jobs job) → Going c.args.self.now c.args.thread.now c.call_branches.new.self c.run.new.self (c.loop.forks + 1) book jobs job w
  at_work book jobs job w =
      let i = c.loop.invariant in
      let stands = stands_by code c.join.new.thread c.run.new.self c.run.ensures.stands in
      let le : length c.loop.thread.branches.numbers ≤ length c.loop.thread.branches.numbers = omega arith in
      let all = have_heard c.loop.self c.call_branches.new.self c.loop.thread c.call_branches.new.thread (length c.loop.thread.branches.numbers) done le in
      going_on c.args.self.now c.join.new.thread c.run.new.self c.run.ensures.number stands c.args.thread.now c.call_branches.new.self (c.loop.forks + 1) book jobs job w
      (goes_on c.args.self.now c.loop.self c.args.thread.now c.loop.thread i.number c.loop.forks book jobs job w (i.at book jobs job w)
      c.requires.fitted i.leaves i.loaded i.fork i.branches c.call_branches.new.self c.call_branches.new.thread c.join.new.thread done c.call_branches.ensures.number c.join.ensures.number
      (λ xs st. c.join.ensures.stands done.replies xs (subst (λ l. BranchesHaveReplies c.call_branches.new.self l done.replies) (sym c.call_branches.ensures.branches) all) st))

pub serve_forks-loop-preserved : goal.serve_forks-loop-preserved
serve_forks-loop-preserved g t c =
    let r = (goal.at.serve_forks-loop-preserved g t c).After-run in
    record {
      loaded = loaded g t r;
      fork = subst (λ e. LeftByEvent c.run.new.self e) c.in-Fork.is c.run.ensures.left;
      branches = subst (λ (x : CodeParts). c.run.new.self.branches.numbers ≡ map (λ w. w.branch) (jobs_at (plain_code x) c.run.new.self)) (code g t r) (c.run.ensures.branches c.in-Fork.is);
      number = number g t r;
      leaves = leaves g t r;
      at = at_work g t r;
    }

pub serve_forks-returns-in_default : goal.serve_forks-returns-in_default
serve_forks-returns-in_default g t c =
    let r = (goal.at.serve_forks-returns-in_default g t c).After-run in
    record {
      loaded = loaded g t r;
      number = number g t r;
      reply = replied_by c.run.new.self c.run.result c.run.ensures.left c.in_default.not-Fork;
      leaves = leaves g t r;
      done = λ book jobs job w.
          stays c.args.self.now c.call_branches.new.self c.args.thread.now c.run.new.self (number g t r) (c.loop.forks + 1) book jobs job w (at_work g t r book jobs job w) (same_code g t r);
    }

-- ---- finish

pub finish-serve_forks-requires : goal.finish-serve_forks-requires
finish-serve_forks-requires g t c κs within =
    let code : c.self.inside.code.now ≡ c.args.self.now.code = ap (λ (s : Seated). s.code) c.self.view_is in
    let stands = stands_by code c.args.thread.now c.run.new.self c.run.ensures.stands in
    let loaded = subst (λ (x : CodeParts). Loaded (plain_code x) c.run.new.self) code c.run.ensures.loaded in
    let fork = subst (λ e. LeftByEvent c.run.new.self e) c.in-Fork.is c.run.ensures.left in
    let branches = subst (λ (x : CodeParts). c.run.new.self.branches.numbers ≡ map (λ w. w.branch) (jobs_at (plain_code x) c.run.new.self)) code (c.run.ensures.branches c.in-Fork.is) in
    let begun = begun_on c.args.self.now c.args.thread.now c.run.new.self c.run.ensures.number stands c.requires.begun in
    let number = c.run.ensures.number in
    let smaller : 4 * (257 - c.run.new.self.number) + 2 < 4 * (257 - c.args.thread.now.number) + 3 = omega (arith, number) in
    (search rules, (within, (c.requires.fitted, (loaded, (fork, (branches, begun))))))

pub finish-returns-in-Fork-clause-done : goal.finish-returns-in-Fork-clause-done
finish-returns-in-Fork-clause-done g t c =
    let code : c.self.inside.code.now ≡ c.args.self.now.code = ap (λ (s : Seated). s.code) c.self.view_is in
    let stands = stands_by code c.args.thread.now c.run.new.self c.run.ensures.stands in
    stays_after c.args.self.now c.args.thread.now c.run.new.self c.run.ensures.number stands c.serve_forks.new.self c.serve_forks.new.thread c.serve_forks.ensures.done

pub finish-returns-in_default : goal.finish-returns-in_default
finish-returns-in_default g t c =
    let code : c.self.inside.code.now ≡ c.args.self.now.code = ap (λ (s : Seated). s.code) c.self.view_is in
    let stands = stands_by code c.args.thread.now c.run.new.self c.run.ensures.stands in
    record {
      loaded = subst (λ (x : CodeParts). Loaded (plain_code x) c.run.new.self) code c.run.ensures.loaded;
      number = c.run.ensures.number;
      reply = replied_by c.run.new.self c.run.result c.run.ensures.left c.in_default.not-Fork;
      leaves = leaves_same c.args.thread.now.number c.args.self.now;
      done = stays_here c.args.self.now c.args.thread.now c.run.new.self c.run.ensures.number stands;
    }

-- ---- call_branch

pub call_branch-unreachable-requires : goal.call_branch-unreachable-requires
call_branch-unreachable-requires g t c =
    let some : (book : Book) × CanCall (seated c.self.inside.code.now c.self.inside.seats.items) c.args.thread.now c.args.k c.args.branch book = subst (λ s. (book : Book) × CanCall s c.args.thread.now c.args.k c.args.branch book) (sym c.self.view_is) c.requires.job in
    not_empty c.self.inside.code.now c.self.inside.seats.items (subst HasAllSeats (sym c.self.view_is) c.requires.fitted) c.args.thread.now c.args.k c.args.branch c.requires.branch some.0 some.1 c.index_mut.result.now c.index_mut.ensures.value (sym c.take.ensures.value ∙ c.in_default.is)

pub call_branch-call_branch-requires-clause-index : goal.call_branch-call_branch-requires-clause-index
call_branch-call_branch-requires-clause-index g t c =
    in_branches c.self.inside.code.now c.self.inside.seats.items (subst HasAllSeats (sym c.self.view_is) c.requires.fitted) c.args.thread.now c.args.k c.args.branch c.requires.branch

pub call_branch-call_branch-requires-clause-branch : goal.call_branch-call_branch-requires-clause-branch
call_branch-call_branch-requires-clause-branch g t c =
    let some : (book : Book) × CanCall (seated c.self.inside.code.now c.self.inside.seats.items) c.args.thread.now c.args.k c.args.branch book = subst (λ s. (book : Book) × CanCall s c.args.thread.now c.args.k c.args.branch book) (sym c.self.view_is) c.requires.job in
    child_loaded c.self.inside.code.now c.self.inside.seats.items (subst HasAllSeats (sym c.self.view_is) c.requires.fitted) c.args.thread.now c.args.k c.args.branch c.requires.branch some.0 some.1 c.index_mut.result.now c.index_mut.ensures.value
    c.deref_mut-called.result.now (sym c.take.ensures.value ∙ c.in-Some.is ∙ ap Some (sym c.deref_mut-called.ensures.value))

pub call_branch-call_branch-requires-clause-number : goal.call_branch-call_branch-requires-clause-number
call_branch-call_branch-requires-clause-number g t c =
    let some : (book : Book) × CanCall (seated c.self.inside.code.now c.self.inside.seats.items) c.args.thread.now c.args.k c.args.branch book = subst (λ s. (book : Book) × CanCall s c.args.thread.now c.args.k c.args.branch book) (sym c.self.view_is) c.requires.job in
    child_at c.self.inside.code.now c.self.inside.seats.items (subst HasAllSeats (sym c.self.view_is) c.requires.fitted) c.args.thread.now c.args.k c.args.branch c.requires.branch some.0 some.1 c.index_mut.result.now c.index_mut.ensures.value
    c.deref_mut-called.result.now (sym c.take.ensures.value ∙ c.in-Some.is ∙ ap Some (sym c.deref_mut-called.ensures.value))

pub call_branch-call_branch-requires-clause-resting : goal.call_branch-call_branch-requires-clause-resting
call_branch-call_branch-requires-clause-resting g t c =
    let some : (book : Book) × CanCall (seated c.self.inside.code.now c.self.inside.seats.items) c.args.thread.now c.args.k c.args.branch book = subst (λ s. (book : Book) × CanCall s c.args.thread.now c.args.k c.args.branch book) (sym c.self.view_is) c.requires.job in
    child_rests c.self.inside.code.now c.self.inside.seats.items (subst HasAllSeats (sym c.self.view_is) c.requires.fitted) c.args.thread.now c.args.k c.args.branch c.requires.branch some.0 some.1 c.index_mut.result.now c.index_mut.ensures.value
    c.deref_mut-called.result.now (sym c.take.ensures.value ∙ c.in-Some.is ∙ ap Some (sym c.deref_mut-called.ensures.value))

pub call_branch-call_branch-requires-clause-job : goal.call_branch-call_branch-requires-clause-job
call_branch-call_branch-requires-clause-job g t c =
    let some : (book : Book) × CanCall (seated c.self.inside.code.now c.self.inside.seats.items) c.args.thread.now c.args.k c.args.branch book = subst (λ s. (book : Book) × CanCall s c.args.thread.now c.args.k c.args.branch book) (sym c.self.view_is) c.requires.job in
    child_takes c.self.inside.code.now c.self.inside.seats.items (subst HasAllSeats (sym c.self.view_is) c.requires.fitted) c.args.thread.now c.args.k c.args.branch c.requires.branch some.0 some.1 c.index_mut.result.now c.index_mut.ensures.value
    c.deref_mut-called.result.now (sym c.take.ensures.value ∙ c.in-Some.is ∙ ap Some (sym c.deref_mut-called.ensures.value))

pub call_branch-returns-clause-leaves : goal.call_branch-returns-clause-leaves
call_branch-returns-clause-leaves g t c =
    let some : (book : Book) × CanCall (seated c.self.inside.code.now c.self.inside.seats.items) c.args.thread.now c.args.k c.args.branch book = subst (λ s. (book : Book) × CanCall s c.args.thread.now c.args.k c.args.branch book) (sym c.self.view_is) c.requires.job in
    subst (λ s. KeepsSeatsBelow c.args.branch s (seated c.self-2.inside.code.now (slice_set c.self-2.inside.seats.items c.args.branch (Some c.finish.new.thread)))) c.self.view_is
    (has_left c.self.inside.code.now c.self.inside.seats.items (subst HasAllSeats (sym c.self.view_is) c.requires.fitted) c.args.thread.now c.args.k c.args.branch c.requires.branch some c.index_mut.result.now c.index_mut.ensures.value c.deref_mut-called.result.now (sym c.take.ensures.value ∙ c.in-Some.is ∙ ap Some (sym c.deref_mut-called.ensures.value))
    c.take.new.self c.call_branch.new.branch c.call_branch.ensures.number c.call_branch.ensures.stands
    c.finish.new.self c.finish.ensures.leaves c.finish.new.thread c.finish.ensures.number c.finish.ensures.loaded c.finish.ensures.reply c.finish.ensures.done c.self-2.inside.code.now c.self-2.inside.seats.items c.self-2.view_is (Some c.finish.new.thread) refl)

pub call_branch-returns-clause-called : goal.call_branch-returns-clause-called
call_branch-returns-clause-called g t c =
    let some : (book : Book) × CanCall (seated c.self.inside.code.now c.self.inside.seats.items) c.args.thread.now c.args.k c.args.branch book = subst (λ s. (book : Book) × CanCall s c.args.thread.now c.args.k c.args.branch book) (sym c.self.view_is) c.requires.job in
    subst (λ s. BranchHasReplied s (seated c.self-2.inside.code.now (slice_set c.self-2.inside.seats.items c.args.branch (Some c.finish.new.thread))) c.args.thread.now c.args.k c.args.branch) c.self.view_is
    (has_called c.self.inside.code.now c.self.inside.seats.items (subst HasAllSeats (sym c.self.view_is) c.requires.fitted) c.args.thread.now c.args.k c.args.branch c.requires.branch some c.index_mut.result.now c.index_mut.ensures.value c.deref_mut-called.result.now (sym c.take.ensures.value ∙ c.in-Some.is ∙ ap Some (sym c.deref_mut-called.ensures.value))
    c.take.new.self c.call_branch.new.branch c.call_branch.ensures.number c.call_branch.ensures.stands
    c.finish.new.self c.finish.ensures.leaves c.finish.new.thread c.finish.ensures.number c.finish.ensures.loaded c.finish.ensures.reply c.finish.ensures.done c.self-2.inside.code.now c.self-2.inside.seats.items c.self-2.view_is (Some c.finish.new.thread) refl)

pub call_branch-finish-requires : goal.call_branch-finish-requires
call_branch-finish-requires g t c κs within =
    let some : (book : Book) × CanCall (seated c.self.inside.code.now c.self.inside.seats.items) c.args.thread.now c.args.k c.args.branch book = subst (λ s. (book : Book) × CanCall s c.args.thread.now c.args.k c.args.branch book) (sym c.self.view_is) c.requires.job in
    let number = number_is c.self.inside.code.now c.self.inside.seats.items (subst HasAllSeats (sym c.self.view_is) c.requires.fitted) c.args.thread.now c.args.k c.args.branch c.requires.branch some.0 some.1 c.index_mut.result.now c.index_mut.ensures.value
    c.deref_mut-called.result.now (sym c.take.ensures.value ∙ c.in-Some.is ∙ ap Some (sym c.deref_mut-called.ensures.value)) c.take.new.self c.call_branch.new.branch c.call_branch.ensures.number c.call_branch.ensures.stands in
    let begun = has_begun c.self.inside.code.now c.self.inside.seats.items (subst HasAllSeats (sym c.self.view_is) c.requires.fitted) c.args.thread.now c.args.k c.args.branch c.requires.branch some.0 some.1 c.index_mut.result.now c.index_mut.ensures.value
    c.deref_mut-called.result.now (sym c.take.ensures.value ∙ c.in-Some.is ∙ ap Some (sym c.deref_mut-called.ensures.value)) c.take.new.self c.call_branch.new.branch c.call_branch.ensures.number c.call_branch.ensures.stands in
    let fitted = fitted_set c.self.inside.code.now c.self.inside.seats.items (subst HasAllSeats (sym c.self.view_is) c.requires.fitted) c.args.branch c.take.new.self in
    let smaller : 4 * (257 - c.call_branch.new.branch.number) + 3 < 4 * (257 - c.args.branch) + 4 = omega (arith, number) in
    (search rules, (within, (fitted, (c.call_branch.ensures.loaded, (c.call_branch.ensures.running, begun)))))

-- ---- call_branch settles

pub call_branch-settle_call-requires-clause-loaded : goal.call_branch-settle_call-requires-clause-loaded
call_branch-settle_call-requires-clause-loaded g t c =
    let code : c.self-2.inside.code.now ≡ c.args.self.now.code = ap (λ (s : Seated). s.code) c.self-2.view_is ∙ c.finish.ensures.leaves.code ∙ ap (λ (s : Seated). s.code) c.self.view_is in
    subst (λ (x : CodeParts). Loaded (plain_code x) c.args.thread.now) (sym code) c.requires.loaded

pub call_branch-settle_call-requires-clause-branch : goal.call_branch-settle_call-requires-clause-branch
call_branch-settle_call-requires-clause-branch g t c = slice_get_within c.args.thread.now.branches.numbers c.args.k c.args.branch c.requires.branch

pub call_branch-returns-clause-loaded : goal.call_branch-returns-clause-loaded
call_branch-returns-clause-loaded g t c =
    let code : c.self-2.inside.code.now ≡ c.args.self.now.code = ap (λ (s : Seated). s.code) c.self-2.view_is ∙ c.finish.ensures.leaves.code ∙ ap (λ (s : Seated). s.code) c.self.view_is in
    subst (λ (x : CodeParts). Loaded (plain_code x) c.settle_call.new.self) code c.settle_call.ensures.loaded

pub call_branch-returns-clause-jobs : goal.call_branch-returns-clause-jobs
call_branch-returns-clause-jobs g t c =
    let code : c.self-2.inside.code.now ≡ c.args.self.now.code = ap (λ (s : Seated). s.code) c.self-2.view_is ∙ c.finish.ensures.leaves.code ∙ ap (λ (s : Seated). s.code) c.self.view_is in
    subst (λ (x : CodeParts). jobs_at (plain_code x) c.settle_call.new.self ≡ jobs_at (plain_code x) c.args.thread.now) code c.settle_call.ensures.jobs

pub call_branch-returns-clause-stands : goal.call_branch-returns-clause-stands
call_branch-returns-clause-stands g t c xs rs r count heard before =
    let code : c.self-2.inside.code.now ≡ c.args.self.now.code = ap (λ (s : Seated). s.code) c.self-2.view_is ∙ c.finish.ensures.leaves.code ∙ ap (λ (s : Seated). s.code) c.self.view_is in
    let by = gave c.self-2.inside.code.now c.self-2.inside.seats.items c.args.branch c.finish.new.thread r heard in
    let old = subst (λ (x : CodeParts). StandsFor (plain_code x) c.args.thread.now (with_replies xs rs)) (sym code) before in
    subst (λ (x : CodeParts). StandsFor (plain_code x) c.settle_call.new.self (with_replies xs (rs ++ r ∷ []))) code (c.settle_call.ensures.stands xs rs r count by old)

-- ---- call_branches calls

pub call_branches-call_branch-requires : goal.call_branches-call_branch-requires
call_branches-call_branch-requires g t c κs within =
    let i = c.loop-branch.invariant in
    let here = sym c.active.ensures ∙ c.in-Some.is in
    let at = ap (λ l. slice_get l c.loop-branch.k) (sym i.branches) ∙ here in
    let some = some_call c.args.self.now c.loop-branch.self c.args.thread.now c.loop-branch.thread c.loop-branch.k c.in-Some.branch c.requires.fork i.called i.number i.jobs at c.requires.jobs in
    let fitted = fitted_keeps c.args.thread.now.number c.args.self.now c.loop-branch.self i.called.leaves c.requires.fitted in
    let loaded = subst (λ (x : CodeParts). Loaded (plain_code x) c.loop-branch.thread) (sym i.called.leaves.code) i.loaded in
    let few = fitted.valid.shape.few_threads in
    let same = fitted.valid.threads in
    let lt = subst (λ n. n < length (seated_code c.loop-branch.self).threads) some.1.number some.1.is.inside in
    let above = subst (λ n. c.loop-branch.thread.number < n) some.1.number some.1.is.above in
    let number = i.number in
    let smaller : 4 * (257 - c.in-Some.branch) + 4 < 4 * (257 - c.args.thread.now.number) + 1 = omega (arith, few, same, lt, above, number) in
    (search rules, (within, (fitted, (loaded, (i.order, (here, some))))))

use Rattle.std.proofs.Common.{◌≡◌, ℕ, suc, ◌+◌, ◌-◌, ◌*◌, length}
use Rattle.core_machine.specs.Threads.{Loaded, CanRun}
use Rattle.core_seats.specs.Descending.{Descends, KeepsRound}
use Rattle.core_seats.specs.Keeping.{code_in}
use Rattle.core_seats.specs.Waiting.{IsWorking}
use Rattle.core_seats.proofs.CallingLemmas.{CallsFirst}
use Rattle.core_seats.proofs.scheduler.Scheduler.+serve_down.Given as goal

abbrev pub decreases-serve_branches : goal.decreases-serve_branches
decreases-serve_branches g l = 8 * (257 - l.thread.now.number)

abbrev pub decreases-call_branches : goal.decreases-call_branches
decreases-call_branches g l = 8 * (257 - l.thread.now.number)

abbrev pub decreases-serve_fork : goal.decreases-serve_fork
decreases-serve_fork g l = 8 * (257 - l.thread.now.number) + 1

abbrev pub decreases-run_down : goal.decreases-run_down
decreases-run_down g l = 8 * (257 - l.thread.now.number) + 2

abbrev pub decreases-advance_down : goal.decreases-advance_down
decreases-advance_down g l = 8 * (256 - l.active.mailbox) + 3

abbrev pub decreases-serve_down : goal.decreases-serve_down
decreases-serve_down g l = 8 * (256 - l.mailbox) + 4

abbrev pub decreases-serve_here : goal.decreases-serve_here
decreases-serve_here g l = 8 * (256 - l.mailbox) + 5

abbrev pub decreases-call : goal.decreases-call
decreases-call g l = 8 * (256 - l.mailbox) + 6

abbrev pub invariant-run_down-loop : goal.invariant-run_down-loop
invariant-run_down-loop g l = record {
  number : l.thread.number ≡ l.fn.thread.number;
  loaded : Loaded (code_in l.self) l.thread;
  running : CanRun l.thread;
  working : IsWorking l.self l.thread;
  descends : (m : ℕ) → l.fn.thread.number ≡ suc m → Descends m (suc m) l.fn.self l.self;
  round : KeepsRound l.fn.round l.round;
}

abbrev pub invariant-serve_branches-loop-branch : goal.invariant-serve_branches-loop-branch
invariant-serve_branches-loop-branch g l = record { descends : Descends l.fn.thread.number l.fn.thread.number l.fn.self l.self; round : KeepsRound l.fn.round l.round }

abbrev pub decreases-serve_branches-loop-branch : goal.decreases-serve_branches-loop-branch
decreases-serve_branches-loop-branch g l = length l.fn.thread.branches.numbers - l.k

abbrev pub invariant-call_branches-loop-branch : goal.invariant-call_branches-loop-branch
invariant-call_branches-loop-branch g l = record { calls : CallsFirst l.fn.self l.self l.fn.thread l.k l.replied; round : KeepsRound l.fn.round l.round }

abbrev pub decreases-call_branches-loop-branch : goal.decreases-call_branches-loop-branch
decreases-call_branches-loop-branch g l = length l.fn.thread.branches.numbers - l.k

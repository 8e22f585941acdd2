use Rattle.std.proofs.Common.{◌≡◌, ◌+◌, ◌≤◌, drop}
use Rattle.kernel_drafts.specs.Reach.{has, users_by}
use Rattle.kernel_drafts.proofs.reach.users.Given as goal

abbrev pub invariant-loop-thread : goal.invariant-loop-thread
invariant-loop-thread l =
    record {
      few : l.count ≤ l.thread-index;
      told : l.count + users_by (has l.rows) (drop l.thread-index l.threads) l.variable ≡ users_by (has l.rows) l.fn.threads l.variable;
    }

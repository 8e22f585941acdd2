use Rattle.std.proofs.Common.{◌≡◌, ◌++◌, length, map, drop}
use Rattle.thread_state.specs.Parts.{parts, RiseTo}
use Rattle.thread_state.proofs.uses.Uses.new.Given as goal

abbrev pub invariant-loop-thread : goal.invariant-loop-thread
invariant-loop-thread l = record {
  rise : RiseTo (length l.variables.items) l.starts.items;
  parts : parts l.starts.items l.variables.items ++ map (λ t. t.uses.items) (drop l.thread-index l.threads) ≡ map (λ t. t.uses.items) l.threads;
}

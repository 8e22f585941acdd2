use Rattle.std.proofs.Common.{◌≡◌, ◌≤◌, length, take}
use Rattle.program_walk.proofs.scopes.declarations.Declarations.truncate.Given as goal

abbrev pub invariant-loop-self : goal.invariant-loop-self
invariant-loop-self l =
    (l.self.list.items ≡ take (length l.self.list.items) l.initial.self.list.items) × (l.n ≤ length l.self.list.items)

abbrev pub decreases-loop-self : goal.decreases-loop-self
decreases-loop-self l = length l.self.list.items

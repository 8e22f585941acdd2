use Rattle.std.proofs.Common.{◌≡◌, length, map}
use Rattle.core_host.specs.Hosted.{standing}
use Rattle.core_host.proofs.worker.serve_each.Given as goal

abbrev pub invariant-loop-at : goal.invariant-loop-at
invariant-loop-at g l = (map standing l.hosts ≡ map standing l.fn.hosts) × (length l.hosts ≡ length l.fn.hosts)

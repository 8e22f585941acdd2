use Rattle.std.proofs.Common.{◌≡◌, ◌∷◌, map}
use Rattle.forec_kernel.specs.Plain.{stmt}
use Rattle.kernel_drafts.specs.Drafts.{thread_body}
use Rattle.kernel_drafts.proofs.drafts.texts_of.Given as goal

abbrev pub invariant-loop-thread : goal.invariant-loop-thread
invariant-loop-thread l = map stmt l.list.items ≡ stmt l.fn.bodies.main ∷ map thread_body l.yielded

-- What holds of all placements.
use Rattle.std.specs.Prelude.{◌≡◌, None, length}
use Rattle.forec_kernel.specs.Shapes.{PlainKernel}
use Rattle.core_alloc.specs.Places.{Places}
use Rattle.command_words.specs.Requests.{PlainPlacing}
use Rattle.thread_places.specs.Placed.{IsPlacement, refusal_of}

-- a kernel's threads have one placement at most
abbrev pub OnePlacement : Type 0
OnePlacement = (k : PlainKernel) (p : PlainPlacing) (a b : Places) → IsPlacement k p a → IsPlacement k p b → a ≡ b

-- where no list of places is refused they have one
abbrev pub SomePlacement : Type 0
SomePlacement = (k : PlainKernel) (p : PlainPlacing) → refusal_of (length k.threads) p ≡ None → (a : Places) × IsPlacement k p a

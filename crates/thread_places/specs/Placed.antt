-- The placement of a kernel's threads.
use Rattle.std.specs.Prelude.{ℕ, ◌≡◌, ◌⊎◌, Option, None, Some, option_and_then, List, map, length}
use Rattle.forec_kernel.specs.Shapes.{PlainKernel}
use Rattle.forec_kernel.specs.Weight.{stmt_weight}
use Rattle.core_alloc.specs.Places.{Places, piece_numbers, refusal}
use Rattle.core_alloc.specs.Balance.{IsBalanced}
use Rattle.core_alloc.specs.declared.fault.PlaceFault.{PlaceFault}
use Rattle.core_alloc.specs.declared.fault.PlaceFault.TheVariants as fault
use Rattle.command_words.specs.Requests.{PlainPlacing}

-- the weight of each thread
abbrev pub weights_of : PlainKernel → List ℕ
weights_of k = map stmt_weight k.threads

-- why a list of places is refused for so many threads; none where it isn't, or where none is given
abbrev pub refusal_of : ℕ → PlainPlacing → Option PlaceFault
refusal_of threads p = option_and_then (λ text. refusal text threads p.cores) p.list

-- the list is refused for a kernel, for this; or memory is wanting
abbrev pub RefusedFor : PlainKernel → PlainPlacing → PlaceFault → Type 0
RefusedFor k p e = (e ≡ fault.OutOfMemory) ⊎ (refusal_of (length k.threads) p ≡ Some e)

-- the list's where one is given, else the balanced one
pub record IsPlacement (k : PlainKernel) (p : PlainPlacing) (placement : Places) : Type 0 where
  pub cores : placement.cores ≡ p.cores
  pub threads : length placement.places ≡ length k.threads
  pub listed : (text : List ℕ) → p.list ≡ Some text → map (λ core. Some core) placement.places ≡ piece_numbers text
  pub balanced : p.list ≡ None → IsBalanced (weights_of k) p.cores placement.places

-- The copies of a branch that count when they are combined.
use Rattle.std.specs.Prelude.{ℕ, ◌≡◌, ◌<◌, ◌≤◌, false, List, get_or}
use Rattle.forec_base.specs.declared.Policy.TheVariants as policy
use Rattle.forec_kernel.specs.declared.shape.VarCopy.{VarCopy}
use Rattle.forec_kernel.specs.Shapes.{PlainKernel}
use Rattle.forec_kernel.specs.Combining.{variable_of}
use Rattle.thread_state.specs.Kept.{no_copy}

-- from one place up to another none of these variables' copies is marked, and of each of them only marked copies are combined
abbrev pub ArePassed : PlainKernel → List ℕ → List VarCopy → (from to : ℕ) → Type 0
ArePassed kernel vs copies from to =
    (i : ℕ) → from ≤ i → i < to → ((get_or copies i no_copy).modified ≡ false) × ((variable_of kernel (get_or vs i 0)).policy ≡ policy.Mod)

-- When a program has no kernel.
use Rattle.std.specs.Prelude.{ℕ, ◌≡◌, ◌<◌, ◌≤◌, List}
use Rattle.forec_tree.specs.Terms.{Text}
use Rattle.forec_tree.specs.Faults.{Member}
use Rattle.text_kernel.specs.declared.limits.Quantity.{Quantity}
use Rattle.text_kernel.specs.declared.limits.Quantity.TheVariants.{Threads, Words, Globals, Tables, Terms, Depth}
use Rattle.kernel_lower.specs.declared.lower_fault.LowerFault.{LowerFault}
use Rattle.kernel_lower.specs.declared.lower_fault.LowerFault.TheVariants as fault
use Rattle.kernel_lower.specs.declared.judge.Amounts.{Amounts}
use Rattle.text_kernel.specs.Limits.{limit_of, earlier, IsLimit}

-- a refusal reports the first limit that is passed; out of memory is free
abbrev pub HasLowerCause : LowerFault → Text → List (List ℕ) → Type 0
HasLowerCause (fault.Limit what count) text names = IsLimit text names what count
HasLowerCause fault.OutOfMemory text names = Unit {0}

-- ---- by amounts

abbrev pub amount_in : Amounts → Quantity → ℕ
amount_in a Threads = a.threads
amount_in a Words = a.words
amount_in a Globals = a.globals
amount_in a Tables = a.tables
amount_in a Terms = a.terms
amount_in a Depth = a.depth

-- a quantity passes its limit
abbrev pub PassesLimit : Quantity → ℕ → LowerFault → Type 0
PassesLimit q amount e = (e ≡ fault.Limit q (limit_of q)) × (limit_of q < amount)

-- the first limit that is passed
pub record IsFirstLimit (amounts : Quantity → ℕ) (what : Quantity) (count : ℕ) : Type 0 where
  pub passes : limit_of what < amounts what
  pub first : (q : Quantity) → Member q (earlier what) → amounts q ≤ limit_of q
  pub is : count ≡ limit_of what

abbrev pub First : (Quantity → ℕ) → LowerFault → Type 0
First amounts (fault.Limit what count) = IsFirstLimit amounts what count
First amounts fault.OutOfMemory = Unit {0}

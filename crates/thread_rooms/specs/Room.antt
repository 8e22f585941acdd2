-- How many numbers the frames of a thread can hold together.
use Rattle.std.specs.Prelude.{ℕ, ◌+◌, ◌≡◌, ◌<◌, ◌≤◌, ◌^◌, IsTrue, Some, List, length, get_or, slice_get}
use Rattle.forec_kernel.specs.Combining.{contains, variable_of}
use Rattle.thread_code.specs.declared.instruction.Instruction.TheVariants as instruction
use Rattle.thread_code.specs.Plain.{PlainBlock, PlainCode}
use Rattle.thread_code.specs.Valid.{of_shape}
use Rattle.thread_state.specs.Pars.{HavePars}
use Rattle.thread_steps.specs.BlockRun.{no_block, IsDeep}
use Rattle.thread_rooms.specs.declared.room.Needs.{Needs}

abbrev pub block_of_function : PlainCode → ℕ → PlainBlock
block_of_function c f = get_or c.functions f no_block

-- so many numbers are enough for a frame of the block by itself
pub record IsFrame (c : PlainCode) (b : PlainBlock) (n : ℕ) : Type 0 where
  pub deep : ℕ
  pub bound : IsDeep c b deep
  pub is : n ≡ b.words + b.counters + deep

-- so many numbers are enough for a frame of the block and all that it calls, where each function has what it needs
pub record Enough (c : PlainCode) (b : PlainBlock) (needs : List ℕ) (n : ℕ) : Type 0 where
  pub deep : ℕ
  pub bound : IsDeep c b deep
  pub own : b.words + b.counters + deep ≤ n
  pub calls : (p f : ℕ) → slice_get b.steps p ≡ Some (instruction.Call f) → b.words + b.counters + deep + get_or needs f 0 ≤ n

-- and for a frame of the block that calls the combine function of any of these variables
pub record EnoughToCombine (c : PlainCode) (b : PlainBlock) (uses needs : List ℕ) (n : ℕ) : Type 0 where
  pub deep : ℕ
  pub bound : IsDeep c b deep
  pub each : (v f : ℕ) → IsTrue (contains v uses) → (variable_of (of_shape c.shape) v).combine ≡ Some f → b.words + b.counters + deep + get_or needs f 0 ≤ n

-- so many numbers are enough for all runs of a thread that has this block and uses these variables
pub record EnoughFor (c : PlainCode) (b : PlainBlock) (uses needs : List ℕ) (n : ℕ) : Type 0 where
  pub need : ℕ
  pub own : Enough c b needs need
  pub room : need ≤ n
  pub combines : EnoughToCombine c b uses needs n

-- each function has what it needs
abbrev pub AreEnough : PlainCode → List ℕ → Type 0
AreEnough c needs = (f : ℕ) → f < length c.functions → Enough c (block_of_function c f) needs (get_or needs f 0)

-- each address of a function fits 32 bits
abbrev pub AreShort : PlainCode → Type 0
AreShort c = (f : ℕ) → f < length c.functions → length (block_of_function c f).steps < 2 ^ 32

-- these are the needs of the code's functions
pub record AreNeeds (c : PlainCode) (needs : Needs) : Type 0 where
  pub short : AreShort c
  pub each : AreEnough c needs.each.items
  pub pars : HavePars c.shape needs.pars

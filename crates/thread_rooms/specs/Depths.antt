-- The depth of a block's operand stack at each address, as it is found.
use Rattle.std.specs.Prelude.{ℕ, ◌+◌, ◌≡◌, ◌≢◌, ◌<◌, ◌≤◌, ◌⊎◌, ◌==◌, Bool, true, false, cond, Option, Some, None, List, [], ◌∷◌, length, get_or, slice_get}
use Rattle.thread_code.specs.declared.instruction.Instruction.{Instruction}
use Rattle.thread_code.specs.declared.instruction.Instruction.TheVariants as instruction
use Rattle.thread_code.specs.Plain.{PlainBlock, PlainCode}
use Rattle.thread_code.specs.Valid.{IsSound}
use Rattle.thread_steps.specs.BlockRun.{IsSuccessor, Comes, IsDeep}
use Rattle.thread_rooms.specs.declared.depths.TheConstants.{UNKNOWN}

-- ---- where an instruction leads

-- to the next address
abbrev pub falls_through : Instruction → Bool
falls_through (instruction.Push n) = true
falls_through (instruction.Quiet n) = true
falls_through (instruction.Load x) = true
falls_through (instruction.Store x) = true
falls_through (instruction.LoadAt x n place) = true
falls_through (instruction.StoreAt x n place) = true
falls_through (instruction.Clear x n) = true
falls_through (instruction.Table n place) = true
falls_through (instruction.Get v) = true
falls_through (instruction.Put v) = true
falls_through (instruction.GetAt v n place) = true
falls_through (instruction.PutAt v n place) = true
falls_through (instruction.Unary op) = true
falls_through (instruction.Binary op place) = true
falls_through instruction.Truth = true
falls_through (instruction.Zero to) = true
falls_through (instruction.NonZero to) = true
falls_through (instruction.Jump to) = false
falls_through (instruction.Unit n) = true
falls_through (instruction.Fill x n) = true
falls_through (instruction.Turn x place) = true
falls_through (instruction.Flag f n) = true
falls_through (instruction.Keep f) = true
falls_through (instruction.Flagged f to) = true
falls_through (instruction.Fork j to) = true
falls_through (instruction.Again j to) = true
falls_through (instruction.Pause to) = false
falls_through instruction.End = false
falls_through (instruction.Call f) = true
falls_through instruction.Return = false

-- to the address that it names
abbrev pub jump_target : Instruction → Option ℕ
jump_target (instruction.Push n) = None
jump_target (instruction.Quiet n) = None
jump_target (instruction.Load x) = None
jump_target (instruction.Store x) = None
jump_target (instruction.LoadAt x n place) = None
jump_target (instruction.StoreAt x n place) = None
jump_target (instruction.Clear x n) = None
jump_target (instruction.Table n place) = None
jump_target (instruction.Get v) = None
jump_target (instruction.Put v) = None
jump_target (instruction.GetAt v n place) = None
jump_target (instruction.PutAt v n place) = None
jump_target (instruction.Unary op) = None
jump_target (instruction.Binary op place) = None
jump_target instruction.Truth = None
jump_target (instruction.Zero to) = Some to
jump_target (instruction.NonZero to) = Some to
jump_target (instruction.Jump to) = Some to
jump_target (instruction.Unit n) = None
jump_target (instruction.Fill x n) = None
jump_target (instruction.Turn x place) = None
jump_target (instruction.Flag f n) = None
jump_target (instruction.Keep f) = None
jump_target (instruction.Flagged f to) = Some to
jump_target (instruction.Fork j to) = Some to
jump_target (instruction.Again j to) = Some to
jump_target (instruction.Pause to) = Some to
jump_target instruction.End = None
jump_target (instruction.Call f) = None
jump_target instruction.Return = None

-- ---- what is known so far

-- the block is sound, whosever it is
abbrev pub IsSoundIn : PlainCode → PlainBlock → Type 0
IsSoundIn c b = (owner : Option ℕ) × IsSound (record { code = c; thread = owner }) b

-- each depth that is known is one with which a run comes to that address; that of the first address is known
pub record HoldsDepths (c : PlainCode) (b : PlainBlock) (depths : List ℕ) : Type 0 where
  pub long : length depths ≡ length b.steps
  pub some : 0 < length depths
  pub start : get_or depths 0 0 ≡ 0
  pub each : (p : ℕ) → p < length depths → get_or depths p 0 ≢ UNKNOWN → Comes c b p (get_or depths p 0)

-- where the depth at an address is known, it is where a run goes on from there
abbrev pub IsFollowed : PlainBlock → List ℕ → ℕ → Type 0
IsFollowed b depths p =
    (i : Instruction) (q : ℕ) → get_or depths p 0 ≢ UNKNOWN → slice_get b.steps p ≡ Some i → IsSuccessor p i q → get_or depths q 0 ≢ UNKNOWN

abbrev pub AreFollowed : PlainBlock → List ℕ → ℕ → Type 0
AreFollowed b depths n = (p : ℕ) → p < n → IsFollowed b depths p

-- at how many addresses it isn't known
abbrev pub unknown_in : List ℕ → ℕ
unknown_in [] = 0
unknown_in (d ∷ ds) = cond (d == UNKNOWN) (unknown_in ds + 1) (unknown_in ds)

-- some depths were found, or else all stay as they were
abbrev pub FindsDepths : Bool → List ℕ → List ℕ → Type 0
FindsDepths true depths depths' = unknown_in depths' < unknown_in depths
FindsDepths false depths depths' = depths' ≡ depths

-- this depth was noted at those of these addresses at which none was known
pub record IsSpread (At : ℕ → Type 0) (depth : ℕ) (depths depths' : List ℕ) (found : Bool) : Type 0 where
  pub long : length depths' ≡ length depths
  pub finds : FindsDepths found depths depths'
  pub each : (p : ℕ) → (get_or depths' p 0 ≡ get_or depths p 0) ⊎ (At p × (get_or depths p 0 ≡ UNKNOWN) × (get_or depths' p 0 ≡ depth))
  pub none : found ≡ false → (p : ℕ) → At p → get_or depths p 0 ≢ UNKNOWN

-- ---- the greatest

-- the greatest of those known depths that stand at the first `count` addresses
pub record IsMost (depths : List ℕ) (count n : ℕ) : Type 0 where
  pub bound : (p : ℕ) → p < count → get_or depths p 0 ≢ UNKNOWN → get_or depths p 0 ≤ n
  pub at : ℕ
  pub within : at < length depths
  pub is : get_or depths at 0 ≡ n
  pub known : n ≢ UNKNOWN

-- a run comes to some place with so many numbers on the stack, and to none with more
pub record IsGreatest (c : PlainCode) (b : PlainBlock) (n : ℕ) : Type 0 where
  pub bound : IsDeep c b n
  pub reached : (p : ℕ) × Comes c b p n

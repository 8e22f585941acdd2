-- The branches of a thread's present fork, and what their replies say together.
use Rattle.std.specs.Prelude.{ℕ, ◌≡◌, ◌<◌, ◌+◌, ◌-◌, ◌^◌, ◌⊎◌, ◌++◌, min, Bool, false, cond, List, [], ◌∷◌, length, map, take}
use Rattle.forec_base.specs.declared.limits.TheConstants.{MAX_BUDGET}
use Rattle.forec_kernel.specs.Packed.{IsReply}
use Rattle.combine_tree.specs.declared.packet.Packet.{Packet}
use Rattle.combine_tree.specs.Plain.{plain_packet}
use Rattle.forec_kernel.specs.Engine.{Reply, WasTrapped}
use Rattle.forec_kernel.specs.Solo.{all_units, some_reply_over}
use Rattle.thread_code.specs.declared.instruction.Instruction.{Instruction}
use Rattle.thread_code.specs.declared.instruction.Instruction.TheVariants as instruction
use Rattle.thread_code.specs.Machine.{is_ended, living}
use Rattle.core_machine.specs.declared.branches.Verdict.{Verdict}
use Rattle.core_machine.specs.declared.branches.Verdict.TheVariants as verdict
use Rattle.core_machine.specs.declared.fork.ForkAt.{ForkAt}

-- the instruction at which the branches wait
abbrev pub instruction_of : ForkAt → Instruction
instruction_of f = cond f.again (instruction.Again f.par f.to) (instruction.Fork f.par f.to)

-- the fork; its branches that run in this tick, in the order of the par; of each that has replied, whether it has ended; how many have been joined;
-- the units of the replies, and what comes of them; and how many branches there is room for
pub record Gathered : Type 0 where
  pub fork : ForkAt
  pub numbers : List ℕ
  pub ended : List Bool
  pub joined : ℕ
  pub units : ℕ
  pub verdict : Verdict
  pub room : ℕ

-- the first `count` of the numbers, and the first `settled` of the notes, count
abbrev pub gathered_of : ForkAt → List ℕ → ℕ → List Bool → ℕ → ℕ → ℕ → Verdict → Gathered
gathered_of fork numbers count ended settled joined units verdict =
    record { fork = fork; numbers = take count numbers; ended = take settled ended; joined = joined; units = units; verdict = verdict; room = length numbers }

-- (any fork will do before the first)
abbrev pub no_fork : ForkAt
no_fork = record { par = 0; to = 0; again = false }

abbrev pub no_branches : ℕ → Gathered
no_branches room = record { fork = no_fork; numbers = []; ended = []; joined = 0; units = 0; verdict = verdict.Combine; room = room }

-- these branches of a fork, none of which has replied
abbrev pub with_branches : ForkAt → List ℕ → Gathered → Gathered
with_branches f bs g = record { fork = f; numbers = bs; ended = []; joined = 0; units = 0; verdict = verdict.Combine; room = g.room }

abbrev pub with_verdict : Verdict → Gathered → Gathered
with_verdict v g = record { fork = g.fork; numbers = g.numbers; ended = g.ended; joined = g.joined; units = g.units; verdict = v; room = g.room }

abbrev pub one_joined : Gathered → Gathered
one_joined g = record { fork = g.fork; numbers = g.numbers; ended = g.ended; joined = g.joined + 1; units = g.units; verdict = g.verdict; room = g.room }

-- these branches, or of those of a held fork the ones that live
abbrev pub chosen : Bool → List Bool → List ℕ → List ℕ
chosen again live bs = cond again (living live bs) bs

-- ---- how replies are counted

-- the first trap stays
abbrev pub first_verdict : Verdict → Verdict → Verdict
first_verdict verdict.Combine v = v
first_verdict (verdict.Trap place trap) v = verdict.Trap place trap
first_verdict verdict.Over v = verdict.Over

abbrev pub noted_ending : Bool → Gathered → Gathered
noted_ending e g = record { fork = g.fork; numbers = g.numbers; ended = g.ended ++ e ∷ []; joined = g.joined; units = g.units; verdict = g.verdict; room = g.room }

abbrev pub with_more_units : ℕ → Gathered → Gathered
with_more_units n g = record { fork = g.fork; numbers = g.numbers; ended = g.ended; joined = g.joined; units = min (g.units + n) (2 ^ 64 - 1); verdict = g.verdict; room = g.room }

-- ---- what the replies say

-- the leftmost trap, where there is one
abbrev pub leftmost_trap : List Reply → Verdict
leftmost_trap [] = verdict.Combine
leftmost_trap (WasTrapped place trap u ∷ rs) = verdict.Trap place trap
leftmost_trap (_ ∷ rs) = leftmost_trap rs

-- one that is over counts before any trap
abbrev pub verdict_of : List Reply → Verdict
verdict_of rs = cond (some_reply_over rs) verdict.Over (leftmost_trap rs)

-- a sum; or, where it is more than any allowance, another number that is
abbrev pub SaturatesTo : ℕ → ℕ → Type 0
SaturatesTo n sum = (n ≡ sum) ⊎ ((MAX_BUDGET < n) × (MAX_BUDGET < sum))

-- these are the replies so far
pub record HoldsReplies (g : Gathered) (rs : List Reply) : Type 0 where
  pub ended : g.ended ≡ map is_ended rs
  pub units : SaturatesTo g.units (all_units rs)
  pub verdict : g.verdict ≡ verdict_of rs

-- one more reply was settled, of which this is known
pub record AddsReply (g : Gathered) (is : Reply → Type 0) (g' : Gathered) : Type 0 where
  pub fork : g'.fork ≡ g.fork
  pub numbers : g'.numbers ≡ g.numbers
  pub joined : g'.joined ≡ g.joined
  pub room : g'.room ≡ g.room
  pub count : length g'.ended ≡ length g.ended + 1
  pub says : (rs : List Reply) (r : Reply) → is r → HoldsReplies g rs → HoldsReplies g' (rs ++ r ∷ [])

-- that of a packet
abbrev pub SettlesPacket : Gathered → Packet → Gathered → Type 0
SettlesPacket g p g' = AddsReply g (IsReply (plain_packet p)) g'

-- What has to come next in a log of a shape, line by line.
use Rattle.std.specs.Prelude.{ℕ, zero, suc, ◌*◌, ◌<◌, ◌≤◌, ◌≡◌, Some, List, [], ◌∷◌, ◌++◌, length, drop}
use Rattle.forec_kernel.specs.Engine.{Job, Reply}
use Rattle.forec_kernel.specs.Shapes.{PlainShape}
use Rattle.thread_code.specs.Laws.{FitsThread, FitsReply}
use Rattle.exchange_meaning.specs.LogLines.{job_line, reply_line}
use Rattle.exchange_meaning.specs.OfShape.{HasJobNumbers, HasReplyNumbers}
use Rattle.log_text.specs.Fronts.{lines_in, IsHeadLine}

pub record IsJobOf (s : PlainShape) (t : ℕ) (j : Job) : Type 0 where
  pub fits : FitsThread s t j
  pub numbers : HasJobNumbers j

pub record IsReplyOf (s : PlainShape) (t : ℕ) (r : Reply) : Type 0 where
  pub fits : FitsReply s t (Some r)
  pub numbers : HasReplyNumbers r

pub data LogStage : Type 0 where
  -- the head of thread t, or nothing where there is no such thread
  AtHead : (t : ℕ) → LogStage
  -- a job of thread t, and then its reply and so many further pairs
  AtJob : (t left : ℕ) → LogStage
  -- the reply of a job of thread t, and then so many further pairs
  AtReply : (t left : ℕ) → LogStage

-- before so many pairs of thread t
abbrev pub at_pairs : ℕ → ℕ → LogStage
at_pairs t zero = AtHead (suc t)
at_pairs t (suc left) = AtJob t left

-- this line may come next, and then that
abbrev pub IsNext : PlainShape → LogStage → List ℕ → LogStage → Type 0
IsNext s (AtHead t) line next = (t < length s.threads) × (jobs : ℕ) × IsHeadLine t jobs line × (next ≡ at_pairs t jobs)
IsNext s (AtJob t left) line next = (j : Job) × IsJobOf s t j × (line ≡ job_line j) × (next ≡ AtReply t left)
IsNext s (AtReply t left) line next = (r : Reply) × IsReplyOf s t r × (line ≡ reply_line r) × (next ≡ at_pairs t left)

-- these lines may come next, and then that
abbrev pub LinesLead : PlainShape → LogStage → List (List ℕ) → LogStage → Type 0
LinesLead s from [] to = from ≡ to
LinesLead s from (line ∷ lines) to = (next : LogStage) × IsNext s from line next × LinesLead s next lines to

-- a reader stands at this place, in this line: the lines before it lead to this stage
pub record HasCome (s : PlainShape) (bytes : List ℕ) (line at : ℕ) (stage : LogStage) : Type 0 where
  pub within : at ≤ length bytes
  pub passed : List (List ℕ)
  pub lines : lines_in bytes ≡ passed ++ lines_in (drop at bytes)
  pub number : line ≡ suc (length passed)
  pub few : 2 * length passed ≤ at
  pub leads : LinesLead s (AtHead 1) passed stage

-- nothing may come next
abbrev pub IsLast : PlainShape → LogStage → Type 0
IsLast s (AtHead t) = length s.threads ≤ t
IsLast s _ = ⊥

-- a reader stops in this line: what stands there may not come next
pub record Stops (s : PlainShape) (bytes : List ℕ) (line : ℕ) : Type 0 where
  pub at : ℕ
  pub stage : LogStage
  pub come : HasCome s bytes line at stage
  pub other : (next : LogStage) (piece rest : List ℕ) → IsNext s stage piece next → drop at bytes ≡ piece ++ rest → ⊥
  pub unfinished : IsLast s stage → at < length bytes

-- Which jobs may be sent through the mailboxes of a code, and which replies answer them.
use Rattle.std.specs.Prelude.{ℕ, suc, ◌≡◌, ◌≤◌, List, [], ◌∷◌, ◌++◌, length}
use Rattle.forec_base.specs.declared.limits.TheConstants.{MAX_BUDGET}
use Rattle.forec_kernel.specs.Packets.{Kind, Start, Wake, IsPaused, PlainPacket}
use Rattle.forec_kernel.specs.Packed.{HasRoom, IsJob, PacketAnswers}
use Rattle.forec_kernel.specs.Engine.{Job}
use Rattle.thread_code.specs.Plain.{PlainCode}
use Rattle.thread_code.specs.Valid.{of_shape}
use Rattle.thread_code.specs.Alone.{CodeAlone}

-- thread k + 1 of the code, with its branches below it, answers these jobs by this reply, which has its lengths
pub record Replies (c : PlainCode) (k : ℕ) (jobs : List PlainPacket) (reply : PlainPacket) : Type 0 where
  pub room : HasRoom (of_shape c.shape) (suc k) reply
  pub answers : PacketAnswers (CodeAlone c) (length c.threads) (suc k) jobs reply

-- the jobs are answered by Paused
pub record ArePaused (c : PlainCode) (k : ℕ) (jobs : List PlainPacket) : Type 0 where
  pub reply : PlainPacket
  pub paused : reply.kind ≡ IsPaused
  pub answers : PacketAnswers (CodeAlone c) (length c.threads) (suc k) jobs reply

-- after these jobs, a job of this kind may be sent
abbrev pub MayFollow : PlainCode → ℕ → List PlainPacket → Kind → Type 0
MayFollow c k before Start = Unit {0}
MayFollow c k before Wake = ArePaused c k before
MayFollow c k before _ = ⊥

-- The last of the jobs fits thread k + 1 and may be sent after those before it.
pub record Asks (c : PlainCode) (k : ℕ) (jobs : List PlainPacket) : Type 0 where
  pub before : List PlainPacket
  pub last : PlainPacket
  pub are : jobs ≡ before ++ last ∷ []
  pub job : Job
  pub is : IsJob last job
  pub room : HasRoom (of_shape c.shape) (suc k) last
  pub small : last.allowance ≤ MAX_BUDGET
  pub follows : MayFollow c k before last.kind

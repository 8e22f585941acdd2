-- How a tick ended, by the reply of its thread.
use Rattle.std.specs.Prelude.{◌≡◌, ℤ, List, length}
use Rattle.forec_kernel.specs.declared.shape.Outcome.{Outcome}
use Rattle.forec_kernel.specs.declared.shape.VarCopy.{VarCopy}
use Rattle.forec_kernel.specs.declared.shape.Outcome.TheVariants as outcome
use Rattle.forec_kernel.specs.Engine.{Job, Reply, WasPaused, WasEnded, WasTrapped, WasOver, Answers}
use Rattle.forec_kernel.specs.Packed.{IsReply}
use Rattle.forec_kernel.specs.Shapes.{PlainShape}
use Rattle.forec_kernel.specs.Texts.{uses_in}
use Rattle.forec_kernel.specs.Ticks.{values_of}
use Rattle.thread_code.specs.Plain.{PlainCode}
use Rattle.thread_code.specs.Alone.{CodeAlone}
use Rattle.combine_tree.specs.declared.packet.Packet.{Packet}
use Rattle.combine_tree.specs.declared.packet.PacketKind.{PacketKind}
use Rattle.combine_tree.specs.declared.packet.PacketKind.TheVariants as kind
use Rattle.combine_tree.specs.Plain.{plain_packet}

-- a tick with this outcome has outputs
abbrev pub HasOutputs : Outcome → Type 0
HasOutputs outcome.Paused = Unit {0}
HasOutputs outcome.Ended = Unit {0}
HasOutputs (outcome.Trapped place trap) = ⊥
HasOutputs outcome.Over = ⊥

-- and with this one it has none
abbrev pub LacksOutputs : Outcome → Type 0
LacksOutputs outcome.Paused = ⊥
LacksOutputs outcome.Ended = ⊥
LacksOutputs (outcome.Trapped place trap) = Unit {0}
LacksOutputs outcome.Over = Unit {0}

abbrev pub IsReplied : PacketKind → Type 0
IsReplied kind.Paused = Unit {0}
IsReplied kind.Ended = Unit {0}
IsReplied (kind.Trapped place trap) = Unit {0}
IsReplied kind.Over = Unit {0}
IsReplied _ = ⊥

abbrev pub outcome_in : PacketKind → Outcome
outcome_in kind.Paused = outcome.Paused
outcome_in kind.Ended = outcome.Ended
outcome_in (kind.Trapped place trap) = outcome.Trapped place trap
outcome_in _ = outcome.Over

-- the values of the outputs, by the copies of thread 0
abbrev pub outputs_in : PlainShape → List VarCopy → List ℤ
outputs_in s copies = values_of (uses_in s.threads 0) copies s.outputs

-- a reply of thread 0 tells this outcome, and these outputs where there are any
abbrev pub ComesTo : PlainShape → Reply → Outcome → List ℤ → Type 0
ComesTo s (WasPaused copies u) o outputs = (o ≡ outcome.Paused) × (outputs ≡ outputs_in s copies)
ComesTo s (WasEnded copies u) o outputs = (o ≡ outcome.Ended) × (outputs ≡ outputs_in s copies)
ComesTo s (WasTrapped place trap u) o outputs = o ≡ outcome.Trapped place trap
ComesTo s WasOver o outputs = o ≡ outcome.Over

-- so does a reply that thread 0 of the code, with its branches below it, gives to these jobs
pub record HasOutcome (c : PlainCode) (jobs : List Job) (o : Outcome) (outputs : List ℤ) : Type 0 where
  pub reply : Reply
  pub answers : Answers (CodeAlone c) (length c.threads) 0 jobs reply
  pub comes : ComesTo c.shape reply o outputs

-- and the packet is that reply
pub record IsOutcome (c : PlainCode) (jobs : List Job) (root : Packet) (o : Outcome) (outputs : List ℤ) : Type 0 where
  pub reply : Reply
  pub is : IsReply (plain_packet root) reply
  pub answers : Answers (CodeAlone c) (length c.threads) 0 jobs reply
  pub comes : ComesTo c.shape reply o outputs

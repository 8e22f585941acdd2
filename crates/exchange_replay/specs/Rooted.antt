-- Thread 0 in a replay.
use Rattle.std.specs.Prelude.{ℕ, ℤ, ◌≡◌, ◌≤◌, ◌↔◌, Bool, true, false, Some, List, [], ◌∷◌, ◌++◌, length}
use Rattle.forec_base.specs.declared.limits.TheConstants.{MAX_BUDGET}
use Rattle.forec_kernel.specs.declared.shape.Outcome.{Outcome}
use Rattle.forec_kernel.specs.declared.shape.VarCopy.{VarCopy}
use Rattle.forec_kernel.specs.Engine.{Reply, WasPaused, pair_all, last_reply}
use Rattle.forec_kernel.specs.Packed.{HasRoom}
use Rattle.forec_kernel.specs.Composed.{TickInput}
use Rattle.thread_code.specs.Plain.{PlainCode}
use Rattle.thread_code.specs.Valid.{of_shape}
use Rattle.thread_code.specs.Alone.{CodeAlone}
use Rattle.combine_tree.specs.declared.packet.Packet.{Packet}
use Rattle.combine_tree.specs.declared.packet.PacketKind.TheVariants as kind
use Rattle.combine_tree.specs.Plain.{plain_packet}
use Rattle.core_machine.specs.Threads.{Loaded, StandsFor, IsResting, HasPaused}
use Rattle.forec_kernel.specs.Ticks.{goes_on}
use Rattle.tick_jobs.specs.Outcomes.{ComesTo, LacksOutputs}
use Rattle.exchange_meaning.specs.Logged.{ExchangeLog}
use Rattle.exchange_meaning.specs.Telling.{IsAll}
use Rattle.exchange_meaning.specs.Replays.{RunsTicks}
use Rattle.log_text.specs.declared.log.Log.{Log}
use Rattle.exchange_replay.specs.declared.replayer.Replayer.{Replayer}
use Rattle.exchange_replay.specs.declared.replayer.Step.{Step}
use Rattle.exchange_replay.specs.declared.replayer.Step.TheVariants as step
use Rattle.exchange_replay.specs.Walks.{PassedBy}

-- what the packet of thread 0 has where a further tick can come: nothing before the first, later the copies with which the last one paused
pub data IsReadyRoot (turns : List TickInput) (Last : List VarCopy → ℕ → Type 0) (p : Packet) : Type 0 where
  fresh : turns ≡ [] → p.kind ≡ kind.Blank → IsReadyRoot turns Last p
  paused : (u : ℕ) → p.kind ≡ kind.Paused → Last p.copies.items u → IsReadyRoot turns Last p

-- Thread 0 by itself has run these ticks, with the logged replies of its branches, and told them what the log has.
pub record HasReplayed (c : PlainCode) (l : Log) (log : ExchangeLog) (r : Replayer) (turns : List TickInput) : Type 0 where
  pub run : RunsTicks (CodeAlone c) c.shape log turns
  pub loaded : Loaded c r.walk.thread
  pub root : r.walk.thread.number ≡ 0
  pub resting : IsResting r.walk.thread
  pub stands : StandsFor c r.walk.thread run.tells.exchanges
  pub passed : PassedBy c l log r.walk 0 (pair_all run.tells.exchanges run.tells.outputs)
  pub room : HasRoom (of_shape c.shape) 0 (plain_packet r.root)
  pub ready : r.live ≡ true → IsReadyRoot turns (λ copies u. last_reply run.tells.outputs ≡ Some (WasPaused copies u)) r.root
  pub paused : r.live ≡ true → r.root.kind ≡ kind.Paused → HasPaused r.walk.thread

-- it was made for this code and this log, and has run some ticks
pub record IsReplayerOf (c : PlainCode) (l : Log) (r : Replayer) : Type 0 where
  pub log : ExchangeLog
  pub turns : List TickInput
  pub has : HasReplayed c l log r turns

-- a tick can be replayed
pub record CanReplay (c : PlainCode) (l : Log) (r : Replayer) (row : List ℤ) (budget : ℕ) (outputs : List ℤ) : Type 0 where
  pub is : IsReplayerOf c l r
  pub live : r.live ≡ true
  pub inputs : length row ≡ length c.shape.inputs
  pub places : length outputs ≡ length c.shape.outputs
  pub small : budget ≤ MAX_BUDGET

-- The tick was replayed too, and this is its outcome, with these outputs where there are any.
pub record HasTickedAs (c : PlainCode) (l : Log) (log : ExchangeLog) (after : Replayer) (turns : List TickInput) (turn : TickInput) (o : Outcome) (outputs : List ℤ) : Type 0 where
  pub replayed : HasReplayed c l log after (turns ++ turn ∷ [])
  pub reply : Reply
  pub last : last_reply replayed.run.tells.outputs ≡ Some reply
  pub comes : ComesTo c.shape reply o outputs

-- no run of this tick after those before is as the log has it
abbrev pub CannotTick : PlainCode → ExchangeLog → List TickInput → TickInput → Type 0
CannotTick c log turns turn = RunsTicks (CodeAlone c) c.shape log (turns ++ turn ∷ []) → ⊥

-- no job of a branch of thread 0 is left
abbrev pub UsesAll : PlainCode → Log → ExchangeLog → Replayer → List TickInput → Bool → Type 0
UsesAll c l log r turns result = (h : HasReplayed c l log r turns) → (result ≡ true) ↔ IsAll c.shape log 0 (pair_all h.run.tells.exchanges h.run.tells.outputs)

abbrev pub tick_input : List ℤ → ℕ → TickInput
tick_input row budget = record { row = row; budget = budget }

-- a further tick can come
abbrev pub goes_on_after : Step → Bool
goes_on_after (step.Done o) = goes_on o
goes_on_after step.Differs = false

-- the outputs stay as they were
abbrev pub KeepsOutputs : Step → Type 0
KeepsOutputs (step.Done o) = LacksOutputs o
KeepsOutputs step.Differs = Unit {0}

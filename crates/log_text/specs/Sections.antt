-- The part of a log that one thread has.
use Rattle.std.specs.Prelude.{ℕ, suc, ◌≡◌, ◌<◌, ◌≤◌, ◌+◌, ◌*◌, ◌^◌, List, ◌++◌, length, drop}
use Rattle.forec_kernel.specs.Packed.{HasRoom}
use Rattle.forec_kernel.specs.Shapes.{PlainShape}
use Rattle.thread_code.specs.Valid.{of_shape}
use Rattle.combine_tree.specs.declared.packet.Packet.{Packet}
use Rattle.combine_tree.specs.Plain.{plain_packet}
use Rattle.exchange_meaning.specs.Logged.{Logged}
use Rattle.exchange_meaning.specs.LogLines.{job_line, reply_line, exchange_lines, thread_log_lines}
use Rattle.exchange_meaning.specs.OfShape.{IsOfThread, AreOfThread}
use Rattle.log_text.specs.declared.section.Section.{Section}
use Rattle.log_text.specs.declared.section.Spot.{Spot}
use Rattle.log_text.specs.Pieces.{StandsTo}
use Rattle.log_text.specs.Stages.{LogStage, AtHead, at_pairs, HasCome}

-- the lines of these pairs stand where the section begins
pub record IsSection (bytes : List ℕ) (section : Section) (pairs : List Logged) : Type 0 where
  pub count : section.jobs ≡ length pairs
  pub rest : List ℕ
  pub text : drop section.start bytes ≡ exchange_lines pairs ++ rest

-- a reader may go on there
pub record IsOn (bytes : List ℕ) (spot : Spot) : Type 0 where
  pub within : spot.at ≤ length bytes
  pub few : 2 * spot.line ≤ spot.at + 2

-- a reader with this packet, which has room for thread t, stands there and expects what the stage says
pub record Expects (s : PlainShape) (t : ℕ) (bytes : List ℕ) (spot : Spot) (packet : Packet) (stage : LogStage) : Type 0 where
  pub small : length s.threads < 2 ^ 64
  pub size : length bytes < 2 ^ 64
  pub room : HasRoom (of_shape s) t (plain_packet packet)
  pub come : HasCome s bytes spot.line spot.at stage

-- a pair of thread t was read, and then so many are left
pub record ReadsPair (s : PlainShape) (t : ℕ) (bytes : List ℕ) (from to : Spot) (packet : Packet) (left : ℕ) : Type 0 where
  pub pair : Logged
  pub fits : IsOfThread s t pair
  pub stands : StandsTo bytes from.at (job_line pair.job ++ reply_line pair.reply) to.at
  pub next : Expects s t bytes to packet (at_pairs t left)

-- the lines of thread t were read
pub record ReadsSection (s : PlainShape) (t : ℕ) (bytes : List ℕ) (from : Spot) (section : Section) (to : Spot) : Type 0 where
  pub pairs : List Logged
  pub fit : AreOfThread s t pairs
  pub is : IsSection bytes section pairs
  pub stands : StandsTo bytes from.at (thread_log_lines t pairs) to.at
  pub come : HasCome s bytes to.line to.at (AtHead (suc t))

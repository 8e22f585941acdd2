-- What a log that was read is, and where a cursor of it stands.
use Rattle.std.specs.Prelude.{ℕ, suc, ◌-◌, ◌<◌, ◌≤◌, ◌≡◌, Bool, true, false, List, [], ◌∷◌, ◌++◌, length, drop, slice_index_or}
use Rattle.forec_kernel.specs.Engine.{Reply}
use Rattle.forec_kernel.specs.Packets.{PlainPacket}
use Rattle.forec_kernel.specs.Packed.{HasRoom, IsJob, IsReply}
use Rattle.forec_kernel.specs.Shapes.{PlainShape}
use Rattle.thread_code.specs.Valid.{of_shape}
use Rattle.combine_tree.specs.declared.packet.Packet.{Packet}
use Rattle.combine_tree.specs.Plain.{plain_packet}
use Rattle.exchange_meaning.specs.Logged.{Logged, ExchangeLog}
use Rattle.exchange_meaning.specs.LogLines.{exchange_lines, reply_line}
use Rattle.exchange_meaning.specs.OfShape.{AreOfThread}
use Rattle.log_text.specs.declared.section.Section.{Section}
use Rattle.log_text.specs.declared.log.Log.{Log}
use Rattle.log_text.specs.declared.cursor.Cursor.{Cursor}
use Rattle.log_text.specs.Fronts.{IsLogOf}
use Rattle.log_text.specs.Sections.{IsSection}
use Rattle.log_text.specs.Stages.{IsReplyOf}

-- A log that was read has these pairs, of threads of the shape. There is one such log (see the law `a_text_has_one_log`).
pub record HasPairs (s : PlainShape) (l : Log) (log : ExchangeLog) : Type 0 where
  pub is : IsLogOf s log l.bytes.items
  pub count : length l.sections.items ≡ length s.threads - 1
  pub each : (t : ℕ) → suc t < length s.threads → (d : Section) → IsSection l.bytes.items (slice_index_or l.sections.items t d) (log (suc t))

-- it is one of the shape
pub record IsLogFor (s : PlainShape) (l : Log) : Type 0 where
  pub log : ExchangeLog
  pub pairs : HasPairs s l log

-- it was read from these bytes
pub record IsReadFrom (s : PlainShape) (bytes : List ℕ) (l : Log) : Type 0 where
  pub log : ExchangeLog
  pub pairs : HasPairs s l log
  pub same : l.bytes.items ≡ bytes

-- it has a list of pairs for thread t
pub record HasThread (l : Log) (t : ℕ) : Type 0 where
  pub some : 0 < t
  pub within : t ≤ length l.sections.items

-- The cursor stands before these pairs of thread t.
pub record AtPairs (s : PlainShape) (t : ℕ) (l : Log) (cursor : Cursor) (left : List Logged) : Type 0 where
  pub fit : AreOfThread s t left
  pub count : cursor.left ≡ length left
  pub rest : List ℕ
  pub text : drop cursor.at l.bytes.items ≡ exchange_lines left ++ rest

-- The cursor stands before this reply of thread t, and then these pairs.
pub record AtReplyOf (s : PlainShape) (t : ℕ) (l : Log) (cursor : Cursor) (reply : Reply) (left : List Logged) : Type 0 where
  pub fits : IsReplyOf s t reply
  pub fit : AreOfThread s t left
  pub count : cursor.left ≡ length left
  pub rest : List ℕ
  pub text : drop cursor.at l.bytes.items ≡ reply_line reply ++ (exchange_lines left ++ rest)

-- the next pair's job was read, where there is one
abbrev pub GivesJob : PlainShape → ℕ → Log → Cursor → PlainPacket → Bool → List Logged → Type 0
GivesJob s t l cursor p given [] = given ≡ false
GivesJob s t l cursor p given (pair ∷ left) = (given ≡ true) × IsJob p pair.job × AtReplyOf s t l cursor pair.reply left

-- the reply of the pair whose job was read is next, and the packet has room for it
pub record CanReadReply (l : Log) (cursor : Cursor) (packet : Packet) : Type 0 where
  pub shape : PlainShape
  pub thread : ℕ
  pub reply : Reply
  pub left : List Logged
  pub room : HasRoom (of_shape shape) thread (plain_packet packet)
  pub stands : AtReplyOf shape thread l cursor reply left

-- the reply was read, and these pairs are left
pub record GivesReply (s : PlainShape) (t : ℕ) (l : Log) (cursor : Cursor) (p : PlainPacket) (reply : Reply) (left : List Logged) : Type 0 where
  pub is : IsReply p reply
  pub stands : AtPairs s t l cursor left

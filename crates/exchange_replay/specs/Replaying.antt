-- What a replay of one thread says of a log.
use Rattle.std.specs.Prelude.{ℕ, suc, ◌≡◌, Bool, true, false, List, [], ◌∷◌, ◌++◌, length}
use Rattle.forec_kernel.specs.Packed.{IsJob, IsReply}
use Rattle.combine_tree.specs.Plain.{plain_packet}
use Rattle.combine_tree.specs.declared.packet.PacketKind.TheVariants as kind
use Rattle.thread_code.specs.Plain.{PlainCode}
use Rattle.thread_code.specs.Alone.{CodeAlone}
use Rattle.core_machine.specs.Threads.{Loaded, IsResting, HasPaused}
use Rattle.exchange_meaning.specs.Logged.{Logged, ExchangeLog, jobs_in, RepliesAre}
use Rattle.exchange_meaning.specs.Replays.{AgreesUpTo, AgreesWholly, FailsAt}
use Rattle.log_text.specs.declared.log.Log.{Log}
use Rattle.exchange_replay.specs.declared.track.Track.{Track}
use Rattle.exchange_replay.specs.declared.walk.Walk.{Walk}
use Rattle.exchange_replay.specs.Tracks.{HasPassed, IsBeforeReply}
use Rattle.exchange_replay.specs.Walks.{WalkedJobs}

-- by itself the thread does what the log has
abbrev pub ReplaysSame : PlainCode → ExchangeLog → ℕ → Type 0
ReplaysSame c log t = AgreesWholly (CodeAlone c) c.shape log t

-- job number `job`, from 1, is the first that fails; one past the last, no job fails and a job of a branch is left unused
pub record ReplaysUpTo (c : PlainCode) (log : ExchangeLog) (t job : ℕ) : Type 0 where
  pub before : ℕ
  pub number : job ≡ suc before
  pub fails : FailsAt (CodeAlone c) c.shape log t before

-- ---- between two jobs

-- Thread t has done the jobs of these pairs as the log has them, and so far it rests.
pub record RestsAfter (c : PlainCode) (log : ExchangeLog) (l : Log) (t : ℕ) (w : Walk) (own : Track) (passed : List Logged) : Type 0 where
  pub loaded : Loaded c w.thread
  pub number : w.thread.number ≡ t
  pub resting : IsResting w.thread
  pub walked : WalkedJobs c l log w (jobs_in passed)
  pub replies : RepliesAre walked.outputs passed
  pub paused : own.written.kind ≡ kind.Paused → HasPaused w.thread
  pub last : (before : List Logged) (one : Logged) → passed ≡ before ++ one ∷ [] → IsReply (plain_packet own.written) one.reply
  pub first : passed ≡ [] → own.written.kind ≡ kind.Blank

-- so it does, and stands before further pairs of its own
pub record IsBetweenJobs (c : PlainCode) (log : ExchangeLog) (l : Log) (t : ℕ) (w : Walk) (own : Track) (passed : List Logged) : Type 0 where
  pub rests : RestsAfter c log l t w own passed
  pub has : HasPassed c.shape l log t own passed

-- it does, and the job of the next pair was read
pub record IsAtPair (c : PlainCode) (log : ExchangeLog) (l : Log) (t : ℕ) (w : Walk) (own : Track) (passed : List Logged) (one : Logged) (left : List Logged) : Type 0 where
  pub rests : RestsAfter c log l t w own passed
  pub job : IsJob (plain_packet own.logged) one.job
  pub before : IsBeforeReply c.shape t l own one.reply left
  pub is : log t ≡ passed ++ one ∷ left

-- some pair's job was read
pub record SomePair (c : PlainCode) (l : Log) (t : ℕ) (w : Walk) (own : Track) : Type 0 where
  pub log : ExchangeLog
  pub passed : List Logged
  pub one : Logged
  pub left : List Logged
  pub at : IsAtPair c log l t w own passed one left

-- that job is done as the log has it; or it fails
abbrev pub DoesPair : PlainCode → ExchangeLog → Log → ℕ → Walk → Track → List Logged → Logged → Bool → Type 0
DoesPair c log l t w own passed one true = IsBetweenJobs c log l t w own (passed ++ one ∷ [])
DoesPair c log l t w own passed one false = AgreesUpTo (CodeAlone c) c.shape log t (suc (length passed)) → ⊥

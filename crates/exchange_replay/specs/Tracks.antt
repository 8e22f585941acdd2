-- Where the parts of a log stand that the branches of a thread have.
use Rattle.std.specs.Prelude.{ℕ, ◌≡◌, Bool, true, false, Option, Some, None, List, [], ◌∷◌, ◌++◌, ◌↔◌, length, slice_get}
use Rattle.forec_kernel.specs.Engine.{Job, Reply, Answered}
use Rattle.forec_kernel.specs.Packed.{HasRoom, IsJob, IsReply}
use Rattle.forec_kernel.specs.Shapes.{PlainShape}
use Rattle.thread_code.specs.Valid.{of_shape}
use Rattle.combine_tree.specs.Plain.{plain_packet}
use Rattle.exchange_meaning.specs.Logged.{Logged, ExchangeLog, told_to, HasBranch}
use Rattle.log_text.specs.declared.log.Log.{Log}
use Rattle.log_text.specs.ReadLogs.{AtPairs, AtReplyOf, HasPairs}
use Rattle.exchange_replay.specs.declared.track.Track.{Track}

-- its packets have an argument and a copy for each that thread t has
pub record FitsTrack (s : PlainShape) (t : ℕ) (x : Track) : Type 0 where
  pub logged : HasRoom (of_shape s) t (plain_packet x.logged)
  pub written : HasRoom (of_shape s) t (plain_packet x.written)

-- The track stands before these pairs of thread t.
pub record IsBeforePairs (s : PlainShape) (t : ℕ) (l : Log) (x : Track) (left : List Logged) : Type 0 where
  pub fits : FitsTrack s t x
  pub at : AtPairs s t l x.cursor left

-- It stands before this reply of thread t, and then these pairs.
pub record IsBeforeReply (s : PlainShape) (t : ℕ) (l : Log) (x : Track) (reply : Reply) (left : List Logged) : Type 0 where
  pub fits : FitsTrack s t x
  pub at : AtReplyOf s t l x.cursor reply left

-- The job of the next pair was read, where there is one; the packet for what is written stays.
abbrev pub ReadsNext : PlainShape → ℕ → Log → Track → Track → Bool → List Logged → Type 0
ReadsNext s t l old new given [] = given ≡ false
ReadsNext s t l old new given (pair ∷ left) =
    (given ≡ true) × IsJob (plain_packet new.logged) pair.job × IsBeforeReply s t l new pair.reply left × (new.written ≡ old.written)

-- The next pair has this job, and was passed, so that its reply is there; or there is no such pair.
abbrev pub PassesJob : PlainShape → ℕ → Log → Track → Bool → Job → List Logged → Type 0
PassesJob s t l new true job left =
    (reply : Reply) × (rest : List Logged) × (left ≡ record { job = job; reply = reply } ∷ rest) × IsBeforePairs s t l new rest × IsReply (plain_packet new.logged) reply
PassesJob s t l new false job left = (rest : List Logged) (reply : Reply) → left ≡ record { job = job; reply = reply } ∷ rest → ⊥

-- The reply was passed, and it tells whether it is the one that was written.
pub record PassesReply (s : PlainShape) (t : ℕ) (l : Log) (old new : Track) (same : Bool) (logged written : Reply) (left : List Logged) : Type 0 where
  pub before : IsBeforePairs s t l new left
  pub kept : new.written ≡ old.written
  pub yes : same ≡ true → written ≡ logged
  pub no : same ≡ false → written ≡ logged → ⊥

-- ---- the branches of a thread

-- the track of thread b stands behind these pairs of the log
pub record HasPassed (s : PlainShape) (l : Log) (log : ExchangeLog) (b : ℕ) (x : Track) (passed : List Logged) : Type 0 where
  pub left : List Logged
  pub before : IsBeforePairs s b l x left
  pub is : log b ≡ passed ++ left

pub record TrackPassed (s : PlainShape) (l : Log) (log : ExchangeLog) (tracks : List (Option Track)) (b : ℕ) (passed : List Logged) : Type 0 where
  pub track : Track
  pub at : slice_get tracks b ≡ Some (Some track)
  pub has : HasPassed s l log b track passed

-- each branch of thread t has a track, and no other thread
pub record AreBranchTracks (s : PlainShape) (t : ℕ) (tracks : List (Option Track)) : Type 0 where
  pub count : length tracks ≡ length s.threads
  pub only : (b : ℕ) (x : Track) → slice_get tracks b ≡ Some (Some x) → HasBranch s t b

-- the tracks of the branches of thread t stand behind what these pairs told them
pub record HavePassed (s : PlainShape) (l : Log) (log : ExchangeLog) (t : ℕ) (tracks : List (Option Track)) (told : List Answered) : Type 0 where
  pub are : AreBranchTracks s t tracks
  pub each : (b : ℕ) → HasBranch s t b → TrackPassed s l log tracks b (told_to b told)

-- the track of thread b, where it is a branch of thread t, before its first pair
abbrev pub BranchTrack : PlainShape → Log → ℕ → ℕ → Option Track → Type 0
BranchTrack s l t b None = HasBranch s t b → ⊥
BranchTrack s l t b (Some x) = HasBranch s t b × ((log : ExchangeLog) → HasPairs s l log → IsBeforePairs s b l x (log b))

-- whether it stands behind all of them
abbrev pub SaysUsed : Track → Bool → Type 0
SaysUsed x used = (s : PlainShape) (t : ℕ) (l : Log) (left : List Logged) → IsBeforePairs s t l x left → (used ≡ true) ↔ (left ≡ [])

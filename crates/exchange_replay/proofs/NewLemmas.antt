-- Tracks as they are made.
use Rattle.std.proofs.Common.{◌≡◌, ℕ, zero, suc, ◌<◌, List, [], ◌∷◌, ◌++◌, map, length, get_or, refl, sym, ap, ◌∙◌, subst, ⊎_elim, arith}
use Rattle.std.specs.Prelude.{Option, Some, None, slice_get, slice_index_or}
use Rattle.std.proofs.lemmas.List.{length-replicate, length-map}
use Rattle.std.proofs.lemmas.Option.{slice_get-get_or}
use Rattle.forec_kernel.specs.declared.shape.Shape.{Shape}
use Rattle.forec_kernel.specs.declared.shape.ThreadShape.{ThreadShape}
use Rattle.forec_kernel.specs.Shapes.{PlainShape, plain_thread, plain_shape}
use Rattle.forec_kernel.specs.Texts.{params_in, uses_in}
use Rattle.forec_kernel.specs.Packets.{PlainPacket}
use Rattle.forec_kernel.specs.Packed.{HasRoom}
use Rattle.thread_code.specs.Valid.{FineShape, of_shape}
use Rattle.combine_tree.specs.declared.packet.Packet.{Packet}
use Rattle.combine_tree.specs.Plain.{plain_packet, blank_packet}
use Rattle.exchange_meaning.specs.Logged.{ExchangeLog, HasBranch}
use Rattle.exchange_meaning.proofs.Shaped.{below_of}
use Rattle.tick_jobs.proofs.Lists.{get_then}
use Rattle.log_text.specs.declared.log.Log.{Log}
use Rattle.log_text.specs.ReadLogs.{HasThread, HasPairs, IsLogFor}
use Rattle.exchange_replay.specs.declared.track.Track.{Track}
use Rattle.exchange_replay.specs.Tracks.{BranchTrack, HavePassed, TrackPassed}

params_index : (l : List ThreadShape) (t : ℕ) (x : ThreadShape) → t < length l → x ≡ slice_index_or l t x → params_in (map plain_thread l) t ≡ x.params
params_index [] t x lt e = absurd (omega (arith, lt))
params_index (y ∷ l) zero x lt e = ap (λ (z : ThreadShape). z.params) (sym e)
params_index (y ∷ l) (suc t) x lt e = params_index l t x (omega (arith, lt)) e

uses_index : (l : List ThreadShape) (t : ℕ) (x : ThreadShape) → t < length l → x ≡ slice_index_or l t x → length (uses_in (map plain_thread l) t) ≡ length x.uses.items
uses_index [] t x lt e = absurd (omega (arith, lt))
uses_index (y ∷ l) zero x lt e = ap (λ (z : ThreadShape). length z.uses.items) (sym e)
uses_index (y ∷ l) (suc t) x lt e = uses_index l t x (omega (arith, lt)) e

-- a blank packet has room
pub blank_room : (s : Shape) (t : ℕ) (x : ThreadShape) (p : Packet) (args copies : ℕ) → t < length (plain_shape s).threads → x ≡ slice_index_or s.threads.items t x → plain_packet p ≡ blank_packet args copies →
    args ≡ x.params → copies ≡ length x.uses.items → HasRoom (of_shape (plain_shape s)) t (plain_packet p)
blank_room s t x p args copies lt e is a b =
    let n = length-map s.threads.items plain_thread in
    let within : t < length s.threads.items = omega (arith, lt, n) in
    record {
      args = ap (λ (q : PlainPacket). length q.args) is ∙ length-replicate _ _ ∙ a ∙ sym (params_index s.threads.items t x within e);
      copies = ap (λ (q : PlainPacket). length q.copies) is ∙ length-replicate _ _ ∙ b ∙ sym (uses_index s.threads.items t x within e);
    }

-- a branch has a part of the log
pub has_part : (s : PlainShape) (l : Log) (t b : ℕ) → FineShape s → IsLogFor s l → HasBranch s t b → HasThread l b
has_part s l t b fine log is =
    let at = below_of s fine t b is in
    let count = log.pairs.count in
    record { some = omega (arith, at.0); within = omega (arith, at.1, count) }

none_parent : (p : Option ℕ) (t : ℕ) → p ≡ Some t → p ≡ None → ⊥
none_parent p t h g = let f = sym h ∙ g in cc

-- ---- the tracks of all branches

abbrev pub AreMade : PlainShape → Log → ℕ → List (Option Track) → Type 0
AreMade s l t tracks = (b : ℕ) (x : Option Track) → slice_get tracks b ≡ Some x → BranchTrack s l t b x

pub none_made : (s : PlainShape) (l : Log) (t : ℕ) → AreMade s l t []
none_made s l t zero x e = cc
none_made s l t (suc b) x e = cc

pub more_made : (s : PlainShape) (l : Log) (t : ℕ) (tracks : List (Option Track)) (x : Option Track) → AreMade s l t tracks → BranchTrack s l t (length tracks) x → AreMade s l t (tracks ++ x ∷ [])
more_made s l t tracks x h one b y at =
    ⊎_elim (λ p. subst (λ n. BranchTrack s l t n y) (sym p.0) (subst (BranchTrack s l t (length tracks)) (sym p.1) one)) (λ p. h b y p) (get_then tracks x b y at)

module _ (s : PlainShape) (l : Log) (t : ℕ) (fine : FineShape s) (tracks : List (Option Track)) (count : length tracks ≡ length s.threads) (made : AreMade s l t tracks) where
  only : (b : ℕ) (x : Track) → slice_get tracks b ≡ Some (Some x) → HasBranch s t b
  only b x at = (made b (Some x) at).0

  each : (log : ExchangeLog) → HasPairs s l log → (b : ℕ) → HasBranch s t b → TrackPassed s l log tracks b []
  each log pairs b is = by_track (get_or tracks b None) (slice_get-get_or tracks b None (let at = below_of s fine t b is in omega (arith, at.1, count)))
    where
      by_track : (x : Option Track) → slice_get tracks b ≡ Some x → TrackPassed s l log tracks b []
      by_track None at = absurd (made b None at is)
      by_track (Some x) at = record { track = x; at = at; has = record { left = log b; before = (made b (Some x) at).1 log pairs; is = refl } }

  pub all_passed : (log : ExchangeLog) → HasPairs s l log → HavePassed s l log t tracks []
  all_passed log pairs = record { are = record { count = count; only = only }; each = each log pairs }

-- A track goes one step on.
use Rattle.std.proofs.Common.{◌≡◌, ◌↔◌, ℕ, Bool, true, false, List, [], ◌∷◌, refl, sym, ap, ◌∙◌, subst}
use mathlib.Core.Bool.{true≢false}
use Rattle.forec_kernel.specs.Engine.{Job, Reply}
use Rattle.forec_kernel.specs.Packed.{HasRoom, IsJob, IsReply}
use Rattle.forec_kernel.specs.Shapes.{PlainShape}
use Rattle.thread_code.specs.Valid.{of_shape}
use Rattle.combine_tree.specs.declared.packet.Packet.{Packet}
use Rattle.combine_tree.specs.Plain.{plain_packet}
use Rattle.exchange_meaning.specs.Logged.{Logged}
use Rattle.log_text.specs.declared.log.Log.{Log}
use Rattle.log_text.specs.Readings.{KeepsRoom}
use Rattle.log_text.specs.ReadLogs.{AtReplyOf, GivesJob, GivesReply, CanReadReply}
use Rattle.exchange_replay.specs.declared.track.Track.{Track}
use Rattle.exchange_replay.specs.Tracks.{FitsTrack, IsBeforeReply, ReadsNext, PassesJob, PassesReply}

pub room_kept : (s : PlainShape) (t : ℕ) (p q : Packet) → KeepsRoom p q → HasRoom (of_shape s) t (plain_packet p) → HasRoom (of_shape s) t (plain_packet q)
room_kept s t p q k h = record { args = k.args ∙ h.args; copies = k.copies ∙ h.copies }

pub reads_next : (s : PlainShape) (t : ℕ) (l : Log) (old new : Track) (given : Bool) (left : List Logged) → FitsTrack s t old → KeepsRoom old.logged new.logged → new.written ≡ old.written →
    GivesJob s t l new.cursor (plain_packet new.logged) given left → ReadsNext s t l old new given left
reads_next s t l old new given [] fits room same h = h
reads_next s t l old new given (pair ∷ left) fits room same h =
    (h.0, h.1, record { fits = record { logged = room_kept s t old.logged new.logged room fits.logged; written = subst (λ p. HasRoom (of_shape s) t (plain_packet p)) (sym same) fits.written }; at = h.2 }, same)

-- ---- a job

not_given : (given : Bool) → given ≡ true → given ≡ false → ⊥
not_given given h g = true≢false (sym h ∙ g)

-- there is no further pair
pub none_read : (s : PlainShape) (t : ℕ) (l : Log) (old new : Track) (given : Bool) (left : List Logged) (job : Job) → ReadsNext s t l old new given left → given ≡ false → (rest : List Logged) (reply : Reply) → left ≡ record { job = job; reply = reply } ∷ rest → ⊥
none_read s t l old new given left job h g rest reply e = not_given given (subst (λ ls. ReadsNext s t l old new given ls) e h).0 g

-- the next pair's job is another one
pub other_read : (s : PlainShape) (t : ℕ) (l : Log) (old new : Track) (given : Bool) (left : List Logged) (job : Job) → ReadsNext s t l old new given left → IsJob (plain_packet old.written) job → (same : Bool) → same ≡ false →
    ((i j : Job) → IsJob (plain_packet new.logged) i → IsJob (plain_packet new.written) j → (same ≡ true) ↔ (i ≡ j)) → (rest : List Logged) (reply : Reply) → left ≡ record { job = job; reply = reply } ∷ rest → ⊥
other_read s t l old new given left job h is same not_same test rest reply e =
    let r = subst (λ ls. ReadsNext s t l old new given ls) e h in
    not_given same ((test job job r.1 (subst (λ p. IsJob (plain_packet p) job) (sym r.3) is)).1 refl) not_same

pub can_read : (s : PlainShape) (t : ℕ) (l : Log) (old new : Track) (given : Bool) (left : List Logged) → ReadsNext s t l old new given left → given ≡ true → CanReadReply l new.cursor new.logged
can_read s t l old new given [] h g = absurd (not_given given g h)
can_read s t l old new given (pair ∷ left) h g = record { shape = s; thread = t; reply = pair.reply; left = left; room = h.2.fits.logged; stands = h.2.at }

pub job_passed : (s : PlainShape) (t : ℕ) (l : Log) (old mid new : Track) (given : Bool) (left : List Logged) (job : Job) → ReadsNext s t l old mid given left → given ≡ true → IsJob (plain_packet old.written) job → (same : Bool) → same ≡ true →
    ((i j : Job) → IsJob (plain_packet mid.logged) i → IsJob (plain_packet mid.written) j → (same ≡ true) ↔ (i ≡ j)) → new.written ≡ mid.written → KeepsRoom mid.logged new.logged →
    ((r : Reply) (rest : List Logged) → HasRoom (of_shape s) t (plain_packet mid.logged) → AtReplyOf s t l mid.cursor r rest → GivesReply s t l new.cursor (plain_packet new.logged) r rest) →
    PassesJob s t l new true job left
job_passed s t l old mid new given [] job h g is same is_same test kept room reads = absurd (not_given given g h)
job_passed s t l old mid new given (pair ∷ left) job h g is same is_same test kept room reads =
    let one = (test pair.job job h.1 (subst (λ p. IsJob (plain_packet p) job) (sym h.3) is)).0 is_same in
    let r = reads pair.reply left h.2.fits.logged h.2.at in (
      pair.reply,
      left,
      ap (λ j. record { job = j; reply = pair.reply } ∷ left) one,
      record {
        fits = record { logged = room_kept s t mid.logged new.logged room h.2.fits.logged; written = subst (λ p. HasRoom (of_shape s) t (plain_packet p)) (sym kept) h.2.fits.written };
        at = r.stands;
      },
      r.is,
    )

-- ---- a reply

pub reply_passed : (s : PlainShape) (t : ℕ) (l : Log) (old new : Track) (r q : Reply) (left : List Logged) → IsBeforeReply s t l old r left → IsReply (plain_packet old.written) q → (same : Bool) →
    ((i j : Reply) → IsReply (plain_packet new.logged) i → IsReply (plain_packet new.written) j → (same ≡ true) ↔ (i ≡ j)) → new.written ≡ old.written → KeepsRoom old.logged new.logged →
    GivesReply s t l new.cursor (plain_packet new.logged) r left → PassesReply s t l old new same r q left
reply_passed s t l old new r q left h is same test kept room g =
    let both = test r q g.is (subst (λ p. IsReply (plain_packet p) q) (sym kept) is) in
    record {
      before = record {
        fits = record { logged = room_kept s t old.logged new.logged room h.fits.logged; written = subst (λ p. HasRoom (of_shape s) t (plain_packet p)) (sym kept) h.fits.written };
        at = g.stands;
      };
      kept = kept;
      yes = λ e. sym (both.0 e);
      no = λ e f. not_given same (both.1 (sym f)) e;
    }

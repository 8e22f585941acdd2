-- The lines of a pair.
use Rattle.std.proofs.Common.{◌≡◌, ℕ, zero, suc, ◌+◌, ◌*◌, ◌<◌, ◌≤◌, ℤ, Some, List, [], ◌∷◌, ◌++◌, length, refl, sym, ap, ◌∙◌, arith}
use Rattle.std.specs.Prelude.{slice_get}
use Rattle.forec_kernel.specs.declared.shape.VarCopy.{VarCopy}
use Rattle.forec_kernel.specs.Shapes.{PlainThread}
use Rattle.forec_kernel.specs.Texts.{params_in, uses_in}
use Rattle.forec_kernel.specs.Packets.{PlainPacket, Kind, Blank, IsPaused, IsEnded, IsTrapped, IsOver}
use Rattle.forec_kernel.specs.Packets as packet
use Rattle.thread_code.specs.Plain.{PlainCode}
use Rattle.combine_tree.specs.declared.packet.PacketKind.{PacketKind}
use Rattle.combine_tree.specs.declared.packet.PacketKind.TheVariants as kind
use Rattle.combine_tree.specs.Plain.{plain_kind}
use Rattle.exchange_meaning.specs.LogLines.{job_line, reply_line}
use Rattle.exchange_log.specs.declared.book.Book.{Book}
use Rattle.exchange_log.specs.Registers.{note_of, packets_in, count_in}
use Rattle.exchange_log.specs.Kept.{job_note, reply_note, job_notes, reply_notes, HaveRoom}
use Rattle.exchange_log.specs.Posted.{job_by, reply_by, both}
use Rattle.exchange_log.specs.Lines.{told_job, told_reply, pair_lines, greatest_room}
use Rattle.exchange_log.proofs.RegisterLemmas.{counted}
use Rattle.exchange_log.proofs.KeptLemmas.{job_notes_length, reply_notes_length}

pub one_packet : (p q : PlainPacket) → Some p ≡ Some q → p ≡ q
one_packet p q e = cc

pub job_told : (k : PacketKind) (a : ℕ) (args : List ℤ) (copies : List VarCopy) → told_job k a args copies ≡ job_line (job_by (plain_kind k) (note_of k a args copies))
job_told kind.Start a args copies = refl
job_told kind.Wake a args copies = refl
job_told kind.Blank a args copies = refl
job_told kind.Paused a args copies = refl
job_told kind.Ended a args copies = refl
job_told (kind.Trapped place trap) a args copies = refl
job_told kind.Over a args copies = refl

pub reply_told : (k : PacketKind) (u : ℕ) (args : List ℤ) (copies : List VarCopy) → told_reply k u copies ≡ reply_line (reply_by (plain_kind k) (note_of k u args copies))
reply_told kind.Start a args copies = refl
reply_told kind.Wake a args copies = refl
reply_told kind.Blank a args copies = refl
reply_told kind.Paused a args copies = refl
reply_told kind.Ended a args copies = refl
reply_told (kind.Trapped place trap) a args copies = refl
reply_told kind.Over a args copies = refl

-- ---- notes stand for the same

job_noted_same : (k : Kind) (p : PlainPacket) → job_by k (job_note p) ≡ job_by k p
job_noted_same packet.Start p = refl
job_noted_same packet.Wake p = refl
job_noted_same Blank p = refl
job_noted_same IsPaused p = refl
job_noted_same IsEnded p = refl
job_noted_same (IsTrapped place trap) p = refl
job_noted_same IsOver p = refl

reply_noted_same : (k : Kind) (p : PlainPacket) → reply_by k (reply_note p) ≡ reply_by k p
reply_noted_same packet.Start p = refl
reply_noted_same packet.Wake p = refl
reply_noted_same Blank p = refl
reply_noted_same IsPaused p = refl
reply_noted_same IsEnded p = refl
reply_noted_same (IsTrapped place trap) p = refl
reply_noted_same IsOver p = refl

pub pair_at : (ps qs : List PlainPacket) (j : ℕ) (p q : PlainPacket) → slice_get (job_notes ps) j ≡ Some p → slice_get (reply_notes qs) j ≡ Some q →
    job_line (job_by p.kind p) ++ reply_line (reply_by q.kind q) ≡ pair_lines j (both ps qs)
pair_at [] qs zero p q h g = cc
pair_at [] qs (suc j) p q h g = cc
pair_at (x ∷ ps) [] zero p q h g = cc
pair_at (x ∷ ps) [] (suc j) p q h g = cc
pair_at (x ∷ ps) (y ∷ qs) zero p q h g =
    let a = one_packet (job_note x) p h in
    let b = one_packet (reply_note y) q g in
    ap (λ (z : PlainPacket). job_line (job_by z.kind z) ++ reply_line (reply_by q.kind q)) (sym a)
    ∙ ap (λ (z : PlainPacket). job_line (job_by x.kind (job_note x)) ++ reply_line (reply_by z.kind z)) (sym b)
    ∙ ap (λ l. job_line l ++ reply_line (reply_by y.kind (reply_note y))) (job_noted_same x.kind x)
    ∙ ap (λ l. job_line (job_by x.kind x) ++ reply_line l) (reply_noted_same y.kind y)
pair_at (x ∷ ps) (y ∷ qs) (suc j) p q h g = pair_at ps qs j p q h g

pub there_at : (ps : List PlainPacket) (j : ℕ) → j < length ps → (p : PlainPacket) × (slice_get ps j ≡ Some p)
there_at [] j lt = absurd (omega (arith, lt))
there_at (p ∷ ps) zero lt = (p, refl)
there_at (p ∷ ps) (suc j) lt = there_at ps j (omega (arith, lt))

-- ---- room

pub job_room_at : (c : PlainCode) (k : ℕ) (ps : List PlainPacket) (j : ℕ) (p : PlainPacket) → HaveRoom c k ps → slice_get (job_notes ps) j ≡ Some p →
    (length p.args ≡ params_in c.shape.threads (suc k)) × (length p.copies ≡ length (uses_in c.shape.threads (suc k)))
job_room_at c k [] zero p h e = cc
job_room_at c k [] (suc j) p h e = cc
job_room_at c k (x ∷ ps) zero p h e =
    let a = one_packet (job_note x) p e in
    (sym (ap (λ (z : PlainPacket). length z.args) a) ∙ h.0.args, sym (ap (λ (z : PlainPacket). length z.copies) a) ∙ h.0.copies)
job_room_at c k (x ∷ ps) (suc j) p h e = job_room_at c k ps j p h.1 e

pub reply_room_at : (c : PlainCode) (k : ℕ) (ps : List PlainPacket) (j : ℕ) (p : PlainPacket) → HaveRoom c k ps → slice_get (reply_notes ps) j ≡ Some p → length p.copies ≡ length (uses_in c.shape.threads (suc k))
reply_room_at c k [] zero p h e = cc
reply_room_at c k [] (suc j) p h e = cc
reply_room_at c k (x ∷ ps) zero p h e = let a = one_packet (reply_note x) p e in sym (ap (λ (z : PlainPacket). length z.copies) a) ∙ h.0.copies
reply_room_at c k (x ∷ ps) (suc j) p h e = reply_room_at c k ps j p h.1 e

pub room_least : (ts : List PlainThread) → 128 ≤ greatest_room ts
room_least [] = omega arith
room_least (t ∷ ts) = omega arith

pub room_within : (ts : List PlainThread) (t : ℕ) → 128 + 12 * params_in ts t + 25 * length (uses_in ts t) ≤ greatest_room ts
room_within [] t = omega arith
room_within (x ∷ ts) zero = omega arith
room_within (x ∷ ts) (suc t) = let ih = room_within ts t in omega (arith, ih)

-- ---- the pair that a book has

pub has_pair : (b : Book) (k j : ℕ) (ps qs : List PlainPacket) (a : packets_in b.jobs k ≡ job_notes ps) → packets_in b.replies k ≡ reply_notes qs → length qs ≡ length ps → j < length ps →
    (j < count_in k b.jobs.entries.items) × (j < count_in k b.replies.entries.items)
has_pair b k j ps qs sent got even lt =
    let c = counted b.jobs.args.items b.jobs.copies.items k b.jobs.entries.items in
    let d = counted b.replies.args.items b.replies.copies.items k b.replies.entries.items in
    let m = ap length sent ∙ job_notes_length ps in
    let n = ap length got ∙ reply_notes_length qs in
    (omega (arith, c, m, lt), omega (arith, d, n, lt, even))

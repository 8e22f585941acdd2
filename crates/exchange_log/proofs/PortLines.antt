-- The lines of a pair that went through a port.
use Rattle.std.proofs.Common.{◌≡◌, ℕ, suc, ◌<◌, ◌≤◌, Some, List, length, sym, ap, ◌∙◌, arith}
use Rattle.std.specs.Prelude.{slice_get}
use Rattle.forec_kernel.specs.Packets.{PlainPacket}
use Rattle.copy_slots.specs.declared.view.Sender.{Sender}
use Rattle.copy_slots.specs.Ports.{sent, got, sent_by, got_by}
use Rattle.core_seats.specs.Posts.{Mail}
use Rattle.exchange_log.specs.declared.book.Book.{Book}
use Rattle.exchange_log.specs.Registers.{packets_in}
use Rattle.exchange_log.specs.Kept.{code_in_mail, KeepsMail, mail_words, HasAll, HasParent, job_notes, reply_notes}
use Rattle.exchange_log.specs.Posted.{log_in}
use Rattle.exchange_log.specs.Lines.{pair_lines, lines_room}
use Rattle.exchange_log.specs.Told.{HasPair, HasPairRoom, IsPairWithin, TellsPair, packet_room}
use Rattle.exchange_log.proofs.PairLemmas.{has_pair, pair_at, there_at, job_room_at, reply_room_at, room_within}
use Rattle.exchange_log.proofs.KeptLemmas.{job_notes_length, reply_notes_length}

module _ (mail : Mail) (b : Book) (k j : ℕ) (kept : KeepsMail mail b) (parent : HasParent mail k) (room : mail_words mail.ends ≤ b.words) (there : j < length (sent mail k)) (even : length (got mail k) ≡ length (sent mail k)) where
  abbrev x : Sender PlainPacket
  x = parent.0

  all : HasAll mail.ends b
  all = kept.all (omega (arith, kept.needed, room))

  sent_is : packets_in b.jobs k ≡ job_notes (sent mail k)
  sent_is = all.sent k x parent.1 ∙ ap (λ o. job_notes (sent_by o)) (sym parent.1)

  got_is : packets_in b.replies k ≡ reply_notes (got mail k)
  got_is = all.got k x parent.1 ∙ ap (λ o. reply_notes (got_by o)) (sym parent.1)

  pub has : HasPair b k j
  has =
      let n = has_pair b k j (sent mail k) (got mail k) sent_is got_is even there in
      record { jobs = all.jobs; replies = all.replies; jobs_numbered = all.jobs_numbered; replies_numbered = all.replies_numbered; sent = n.0; got = n.1 }

  pair_room : (p q : PlainPacket) → slice_get (packets_in b.jobs k) j ≡ Some p → slice_get (packets_in b.replies k) j ≡ Some q → packet_room p q ≤ lines_room (code_in_mail mail).shape
  pair_room p q hp hq =
      let c = code_in_mail mail in
      let a = job_room_at c k x.sent j p (kept.jobs_fit k x parent.1) (ap (λ l. slice_get l j) (sym (all.sent k x parent.1)) ∙ hp) in
      let d = reply_room_at c k x.got j q (kept.replies_fit k x parent.1) (ap (λ l. slice_get l j) (sym (all.got k x parent.1)) ∙ hq) in
      let w = room_within c.shape.threads (suc k) in omega (arith, a.0, a.1, d, w)

  pub has_room : (n : ℕ) → lines_room (code_in_mail mail).shape ≤ n → HasPairRoom b k j n
  has_room n le p q hp hq = let r = pair_room p q hp hq in omega (arith, r, le)

  record Pair : Type 0 where
    pub job : PlainPacket
    pub reply : PlainPacket
    pub job_at : slice_get (packets_in b.jobs k) j ≡ Some job
    pub reply_at : slice_get (packets_in b.replies k) j ≡ Some reply

  pair : Pair
  pair =
      let m = ap length sent_is ∙ job_notes_length (sent mail k) in
      let n = ap length got_is ∙ reply_notes_length (got mail k) in
      let p = there_at (packets_in b.jobs k) j (omega (arith, m, there)) in
      let q = there_at (packets_in b.replies k) j (omega (arith, n, there, even)) in
      record { job = p.0; reply = q.0; job_at = p.1; reply_at = q.1 }

  pub lines_are : (bytes : List ℕ) → TellsPair b k j bytes → bytes ≡ pair_lines j (log_in mail (suc k))
  lines_are bytes tells =
      tells pair.job pair.reply pair.job_at pair.reply_at
      ∙ pair_at (sent mail k) (got mail k) j pair.job pair.reply (ap (λ l. slice_get l j) (sym sent_is) ∙ pair.job_at) (ap (λ l. slice_get l j) (sym got_is) ∙ pair.reply_at)

  pub is_within : (n : ℕ) → IsPairWithin b k j n → n ≤ lines_room (code_in_mail mail).shape
  is_within n h =
      let r = pair_room pair.job pair.reply pair.job_at pair.reply_at in
      let s = h pair.job pair.reply pair.job_at pair.reply_at in omega (arith, r, s)

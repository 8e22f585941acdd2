-- The lines of what a book has.
use Rattle.std.specs.Prelude.{ℕ, ◌≡◌, ◌<◌, ◌≤◌, ◌+◌, ◌*◌, Some, List, [], ◌++◌, length, slice_get}
use Rattle.forec_kernel.specs.Packets.{PlainPacket}
use Rattle.exchange_meaning.specs.LogLines.{job_line, reply_line}
use Rattle.exchange_log.specs.declared.book.Book.{Book}
use Rattle.exchange_log.specs.Registers.{AreInside, AreNumbered, packets_in, count_in}
use Rattle.exchange_log.specs.Posted.{job_by, reply_by}

-- the book has job number j of mailbox k, and its reply
pub record HasPair (b : Book) (k j : ℕ) : Type 0 where
  pub jobs : AreInside (length b.jobs.args.items) (length b.jobs.copies.items) b.jobs.entries.items
  pub replies : AreInside (length b.replies.args.items) (length b.replies.copies.items) b.replies.entries.items
  pub jobs_numbered : AreNumbered [] b.jobs.entries.items
  pub replies_numbered : AreNumbered [] b.replies.entries.items
  pub sent : j < count_in k b.jobs.entries.items
  pub got : j < count_in k b.replies.entries.items

-- what is so of both packets
abbrev pub OfPair : Book → ℕ → ℕ → (PlainPacket → PlainPacket → Type 0) → Type 0
OfPair b k j Q =
    (p q : PlainPacket) → slice_get (packets_in b.jobs k) j ≡ Some p → slice_get (packets_in b.replies k) j ≡ Some q → Q p q

-- room for their lines
abbrev pub packet_room : PlainPacket → PlainPacket → ℕ
packet_room p q = 128 + (12 * length p.args + 12 * length p.copies) + 13 * length q.copies

abbrev pub HasPairRoom : Book → ℕ → ℕ → ℕ → Type 0
HasPairRoom b k j n = OfPair b k j (λ p q. packet_room p q ≤ n)

abbrev pub IsPairWithin : Book → ℕ → ℕ → ℕ → Type 0
IsPairWithin b k j n = OfPair b k j (λ p q. n ≤ packet_room p q)

abbrev pub TellsPair : Book → ℕ → ℕ → List ℕ → Type 0
TellsPair b k j bytes = OfPair b k j (λ p q. bytes ≡ job_line (job_by p.kind p) ++ reply_line (reply_by q.kind q))

-- A port that keeps what goes through its parents' ends.
use Rattle.std.specs.Prelude.{ℕ, suc, ◌≡◌, ◌<◌, ◌≤◌, ◌+◌, min, Option, None, Some, List, [], ◌∷◌, length, slice_get}
use Rattle.forec_kernel.specs.Packets.{PlainPacket}
use Rattle.forec_kernel.specs.Packed.{HasRoom}
use Rattle.thread_code.specs.Plain.{PlainCode, plain_code}
use Rattle.thread_code.specs.Valid.{of_shape}
use Rattle.copy_slots.specs.declared.view.Sender.{Sender}
use Rattle.copy_slots.specs.Ports.{MailboxEnds, parent_at}
use Rattle.core_seats.specs.Posts.{Mail}
use Rattle.exchange_log.specs.declared.book.Book.{Book}
use Rattle.exchange_log.specs.Registers.{AreInside, AreNumbered, packets_in}
use Rattle.exchange_log.specs.Notes.{most_counted, IsSmall}

-- ---- words

-- a job needs 3 words and one for each argument and copy; a reply 6 and two for each copy
abbrev pub job_words : PlainPacket → ℕ
job_words p = 3 + length p.args + length p.copies

abbrev pub reply_words : PlainPacket → ℕ
reply_words p = 6 + length p.copies + length p.copies

abbrev pub words_of_jobs : List PlainPacket → ℕ
words_of_jobs [] = 0
words_of_jobs (p ∷ ps) = job_words p + words_of_jobs ps

abbrev pub words_of_replies : List PlainPacket → ℕ
words_of_replies [] = 0
words_of_replies (p ∷ ps) = reply_words p + words_of_replies ps

abbrev pub words_of_end : Option (Sender PlainPacket) → ℕ
words_of_end None = 0
words_of_end (Some x) = words_of_jobs x.sent + words_of_replies x.got

-- the words that all jobs and replies of the parents' ends need
abbrev pub mail_words : List (MailboxEnds PlainPacket) → ℕ
mail_words [] = 0
mail_words (e ∷ es) = words_of_end e.parent + mail_words es

-- ---- what is kept

-- of a job its allowance counts, of a reply its units; the arguments of a reply count for nothing
abbrev pub job_note : PlainPacket → PlainPacket
job_note p = record { kind = p.kind; args = p.args; copies = p.copies; allowance = p.allowance; units = p.allowance }

abbrev pub reply_note : PlainPacket → PlainPacket
reply_note p = record { kind = p.kind; args = []; copies = p.copies; allowance = p.units; units = p.units }

abbrev pub job_notes : List PlainPacket → List PlainPacket
job_notes [] = []
job_notes (p ∷ ps) = job_note p ∷ job_notes ps

abbrev pub reply_notes : List PlainPacket → List PlainPacket
reply_notes [] = []
reply_notes (p ∷ ps) = reply_note p ∷ reply_notes ps

-- the book has all of it
pub record HasAll (ends : List (MailboxEnds PlainPacket)) (b : Book) : Type 0 where
  pub small : IsSmall b
  pub jobs : AreInside (length b.jobs.args.items) (length b.jobs.copies.items) b.jobs.entries.items
  pub replies : AreInside (length b.replies.args.items) (length b.replies.copies.items) b.replies.entries.items
  pub jobs_numbered : AreNumbered [] b.jobs.entries.items
  pub replies_numbered : AreNumbered [] b.replies.entries.items
  pub sent : (k : ℕ) (x : Sender PlainPacket) → parent_at ends k ≡ Some x → packets_in b.jobs k ≡ job_notes x.sent
  pub got : (k : ℕ) (x : Sender PlainPacket) → parent_at ends k ≡ Some x → packets_in b.replies k ≡ reply_notes x.got

-- these packets have the lengths of thread k + 1
abbrev pub HaveRoom : PlainCode → ℕ → List PlainPacket → Type 0
HaveRoom c k [] = Unit {0}
HaveRoom c k (p ∷ ps) = HasRoom (of_shape c.shape) (suc k) p × HaveRoom c k ps

-- All is counted, and where it needs no more words than the book has room for, all is there.
pub record KeepsExchanges (c : PlainCode) (ends : List (MailboxEnds PlainPacket)) (b : Book) : Type 0 where
  pub needed : b.needed ≡ min (mail_words ends) most_counted
  pub job_counts : (k : ℕ) (x : Sender PlainPacket) → parent_at ends k ≡ Some x → slice_get b.jobs.counts.items k ≡ Some (min (length x.sent) most_counted)
  pub reply_counts : (k : ℕ) (x : Sender PlainPacket) → parent_at ends k ≡ Some x → slice_get b.replies.counts.items k ≡ Some (min (length x.got) most_counted)
  pub all : b.needed ≤ b.words → HasAll ends b
  pub jobs_fit : (k : ℕ) (x : Sender PlainPacket) → parent_at ends k ≡ Some x → HaveRoom c k x.sent
  pub replies_fit : (k : ℕ) (x : Sender PlainPacket) → parent_at ends k ≡ Some x → HaveRoom c k x.got

-- the code of a port
abbrev pub code_in_mail : Mail → PlainCode
code_in_mail mail = plain_code mail.work.code.value

abbrev pub KeepsMail : Mail → Book → Type 0
KeepsMail mail b = KeepsExchanges (code_in_mail mail) mail.ends b

-- ---- what callers see

-- what went through the port, and the words for which it has room
pub record Logging : Type 0 where
  pub mail : Mail
  pub words : ℕ

-- the parent's end of mailbox k is there
abbrev pub HasParent : Mail → ℕ → Type 0
HasParent mail k = (x : Sender PlainPacket) × (parent_at mail.ends k ≡ Some x)

-- nothing went through the parents' ends, and there are so many mailboxes at most
abbrev pub IsUnused : Mail → ℕ → Type 0
IsUnused mail n = (k : ℕ) (x : Sender PlainPacket) → parent_at mail.ends k ≡ Some x → (k < n) × (x.sent ≡ []) × (x.got ≡ [])

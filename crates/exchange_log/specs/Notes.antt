-- How a book grows.
use Rattle.std.specs.Prelude.{ℕ, ◌≡◌, ◌≤◌, ◌+◌, ◌-◌, ◌*◌, ◌^◌, min, List, [], length, slice_set, get_or}
use Rattle.combine_tree.specs.declared.packet.Packet.{Packet}
use Rattle.exchange_log.specs.declared.book.Book.{Book}
use Rattle.exchange_log.specs.declared.register.Register.{Register}
use Rattle.exchange_log.specs.Registers.{KeepsPacket}

-- the most that a u64 holds
abbrev pub most_counted : ℕ
most_counted = 2 ^ 64 - 1

-- what was written stays within what was counted
abbrev pub IsSmall : Book → Type 0
IsSmall b =
    3 * length b.jobs.entries.items + length b.jobs.args.items + length b.jobs.copies.items + 6 * length b.replies.entries.items + length b.replies.args.items + 2 * length b.replies.copies.items ≤ b.needed

-- one packet of mailbox k more is counted
abbrev pub counts_one : Register → ℕ → List ℕ
counts_one r k = slice_set r.counts.items k (min (get_or r.counts.items k 0 + 1) most_counted)

-- a job of mailbox k is counted, and kept where there is room
pub record NotesJob (a b : Book) (k : ℕ) (p : Packet) : Type 0 where
  pub words : b.words ≡ a.words
  pub needed : b.needed ≡ min (a.needed + (3 + length p.args.items + length p.copies.items)) most_counted
  pub counts : b.jobs.counts.items ≡ counts_one a.jobs k
  pub replies : b.replies ≡ a.replies
  pub kept : b.needed ≤ b.words → KeepsPacket a.jobs b.jobs k p.kind p.allowance p.args.items p.copies.items

-- so is a reply, without its arguments
pub record NotesReply (a b : Book) (k : ℕ) (p : Packet) : Type 0 where
  pub words : b.words ≡ a.words
  pub needed : b.needed ≡ min (a.needed + (6 + length p.copies.items + length p.copies.items)) most_counted
  pub counts : b.replies.counts.items ≡ counts_one a.replies k
  pub jobs : b.jobs ≡ a.jobs
  pub kept : b.needed ≤ b.words → KeepsPacket a.replies b.replies k p.kind p.units [] p.copies.items

-- What a register has, and how it grows.
use Rattle.std.specs.Prelude.{ℕ, suc, ◌≡◌, ◌≤◌, ◌+◌, ◌==◌, ◌&&◌, Bool, true, cond, ℤ, Some, List, [], ◌∷◌, ◌++◌, length, take, drop, get_or, slice_get, replicate, vec_capacity}
use Rattle.forec_kernel.specs.declared.shape.VarCopy.{VarCopy}
use Rattle.forec_kernel.specs.Packets.{PlainPacket}
use Rattle.combine_tree.specs.declared.packet.PacketKind.{PacketKind}
use Rattle.combine_tree.specs.Plain.{plain_kind}
use Rattle.exchange_log.specs.declared.entry.Entry.{Entry}
use Rattle.exchange_log.specs.declared.register.Register.{Register}

-- so many from a place on
abbrev pub cut : {A : Type 0} → List A → ℕ → ℕ → List A
cut xs from n = take n (drop from xs)

-- a packet with one amount for its allowance and its units
abbrev pub note_of : PacketKind → ℕ → List ℤ → List VarCopy → PlainPacket
note_of kind amount args copies = record { kind = plain_kind kind; args = args; copies = copies; allowance = amount; units = amount }

-- the one for which an entry stands
abbrev pub packet_of : List ℤ → List VarCopy → Entry → PlainPacket
packet_of args copies e = note_of e.kind e.amount (cut args e.args_from e.args) (cut copies e.copies_from e.copies)

-- those of mailbox k, in order
abbrev pub packets_of : List ℤ → List VarCopy → ℕ → List Entry → List PlainPacket
packets_of args copies k [] = []
packets_of args copies k (e ∷ es) = cond (e.mailbox == k) (packet_of args copies e ∷ packets_of args copies k es) (packets_of args copies k es)

abbrev pub packets_in : Register → ℕ → List PlainPacket
packets_in r k = packets_of r.args.items r.copies.items k r.entries.items

-- how many there are
abbrev pub count_in : ℕ → List Entry → ℕ
count_in k [] = 0
count_in k (e ∷ es) = cond (e.mailbox == k) (suc (count_in k es)) (count_in k es)

-- what they name is there
abbrev pub AreInside : ℕ → ℕ → List Entry → Type 0
AreInside args copies [] = Unit {0}
AreInside args copies (e ∷ es) = (e.args_from + e.args ≤ args) × (e.copies_from + e.copies ≤ copies) × AreInside args copies es

-- after these, each has as its number how many of its mailbox came before it
abbrev pub AreNumbered : List Entry → List Entry → Type 0
AreNumbered past [] = Unit {0}
AreNumbered past (e ∷ es) = (e.number ≡ count_in e.mailbox past) × AreNumbered (past ++ e ∷ []) es

abbrev pub is_entry : ℕ → ℕ → Entry → Bool
is_entry k number e = (e.mailbox == k) && (e.number == number)

-- at this place is packet number `number` of mailbox k
pub record IsEntryAt (es : List Entry) (k number at : ℕ) : Type 0 where
  pub entry : Entry
  pub here : slice_get es at ≡ Some entry
  pub is : is_entry k number entry ≡ true

-- nothing was kept or counted, and there are so many mailboxes
pub record IsEmpty (r : Register) (mailboxes : ℕ) : Type 0 where
  pub entries : r.entries.items ≡ []
  pub args : r.args.items ≡ []
  pub copies : r.copies.items ≡ []
  pub counts : r.counts.items ≡ replicate mailboxes 0

-- the entry of a packet that is kept next
abbrev pub entry_of : Register → ℕ → PacketKind → ℕ → List ℤ → List VarCopy → Entry
entry_of r k kind amount args copies =
    record {
      amount = amount;
      number = get_or r.counts.items k 0;
      kind = kind;
      mailbox = k;
      args_from = length r.args.items;
      args = length args;
      copies_from = length r.copies.items;
      copies = length copies;
    }

-- the packet is kept
pub record KeepsPacket (a b : Register) (k : ℕ) (kind : PacketKind) (amount : ℕ) (args : List ℤ) (copies : List VarCopy) : Type 0 where
  pub entries : b.entries.items ≡ a.entries.items ++ entry_of a k kind amount args copies ∷ []
  pub args_are : b.args.items ≡ a.args.items ++ args
  pub copies_are : b.copies.items ≡ a.copies.items ++ copies

-- no list has less room
pub record KeepsRooms (a b : Register) : Type 0 where
  pub entries : vec_capacity a.entries ≤ vec_capacity b.entries
  pub args : vec_capacity a.args ≤ vec_capacity b.args
  pub copies : vec_capacity a.copies ≤ vec_capacity b.copies

-- nothing else changes where a packet is counted
pub record CountsAlone (a b : Register) : Type 0 where
  pub entries : b.entries ≡ a.entries
  pub args : b.args ≡ a.args
  pub copies : b.copies ≡ a.copies

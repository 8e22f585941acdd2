-- Two ports of one board become one.
use Rattle.std.specs.Prelude.{◌≡◌, ℕ, List, [], ◌∷◌, ◌++◌, length, slice_get, Option, Some, None, true, false}
use Rattle.copy_slots.specs.Ports.{MailboxEnds, PortState}
use Rattle.slot_board.specs.declared.seats.EndSeats.{EndSeats}
use Rattle.slot_board.specs.Splits.{pick}

-- they share their mailboxes
abbrev pub IsOneBoard : {W Q : Type 0} → PortState W Q → PortState W Q → Type 0
IsOneBoard s t = (s.board ≡ t.board) × (s.work ≡ t.work) × (s.blanks ≡ t.blanks)

abbrev pub or_else : {A : Type 0} → Option A → Option A → Option A
or_else None o = o
or_else (Some a) o = Some a

abbrev pub joined_ends : {Q : Type 0} → List (MailboxEnds Q) → List (MailboxEnds Q) → List (MailboxEnds Q)
joined_ends [] fs = []
joined_ends (e ∷ es) [] = e ∷ es
joined_ends (e ∷ es) (f ∷ fs) = (record { parent = or_else e.parent f.parent; child = or_else e.child f.child }) ∷ joined_ends es fs

-- the ends of both, the root's mark where one has it, and what they stored and saw of the stop word
abbrev pub joined_state : {W Q : Type 0} → PortState W Q → PortState W Q → PortState W Q
joined_state s t = record { board = s.board; work = s.work; blanks = s.blanks; ends = joined_ends s.ends t.ends; tells = false; root = pick s.root true t.root; stored = pick s.root s.stored t.stored; stops = s.stops ++ t.stops }

module _ {W P Q : Type 0} where
  abbrev pub both_seats : EndSeats W P Q → EndSeats W P Q → EndSeats W P Q
  both_seats a b = record { parent = or_else a.parent b.parent; child = or_else a.child b.child }

  pub record AreJoined (mine theirs now : List (EndSeats W P Q)) : Type 0 where
    pub long : length now ≡ length mine
    pub at : (k : ℕ) (a b : EndSeats W P Q) → slice_get mine k ≡ Some a → slice_get theirs k ≡ Some b → slice_get now k ≡ Some (both_seats a b)

-- Two ports of one board become one.
use Rattle.std.proofs.Common.{◌≡◌, ◌⊎◌, ℕ, suc, ◌+◌, ◌<◌, ◌≤◌, List, [], ◌∷◌, ◌++◌, length, length-set, map, set, sym, refl, ap, ◌∙◌, subst, ⊎_elim, inl, inr, arith, Option, Some, None, true, false, slice_get}
use mathlib.Core.Logic.{dite}
use native.Mathlib.Decide.{ℕ_discrete}
use Rattle.std.proofs.lemmas.Option.{slice_get_within}
use Rattle.atomic_table.specs.Seated.{TableId}
use Rattle.atomic_table.specs.declared.shared.Seat.{Seat}
use Rattle.copy_slots.specs.declared.view.Role.{Role}
use Rattle.copy_slots.specs.declared.view.Role.TheVariants.{Idle, Keeper, Mailbox}
use Rattle.copy_slots.specs.declared.view.View.{View}
use Rattle.copy_slots.specs.SeatEnds.{IsBoard}
use Rattle.copy_slots.specs.Ports.{MailboxEnds, PortState, is_keeper, stored_of, stops_of}
use Rattle.copy_slots.proofs.PortLemmas.{set_at}
use Rattle.slot_board.specs.declared.seats.EndSeats.{EndSeats}
use Rattle.slot_board.specs.Slots.{PairSits, AllPairs, sender_of, taker_of, pair_ends, slot_state, is_watch}
use Rattle.slot_board.specs.Splits.{pick, role_joined}
use Rattle.slot_board.specs.Joined.{or_else, joined_ends, joined_state, both_seats, AreJoined}
use Rattle.slot_board.proofs.Pairing.{both_of}
use Rattle.slot_board.proofs.SplitLemmas.{not_watch}
use Rattle.slot_board.proofs.Cutting.{some_is, get_there, get_set_else}

pub one_table : (y z : TableId) → Some y ≡ Some z → y ≡ z
one_table y z e = some_is y z e

pub as_many : (y z : TableId) (m n : ℕ) → y ≡ z → IsBoard y m → IsBoard z n → m ≡ n
as_many y z m n e a b = sym a.1 ∙ (ap (λ (t : TableId). t.slots) e ∙ b.1)

-- ---- the seats that look at the stop word

module _ {Q : Type 0} where
  abbrev JoinSays : Role Q → Role Q → Type 0
  JoinSays a b = (is_keeper (role_joined a b) ≡ pick (is_keeper a) true (is_keeper b)) × (stored_of (role_joined a b) ≡ pick (is_keeper a) (stored_of a) (stored_of b)) × (stops_of (role_joined a b) ≡ stops_of a ++ stops_of b) × (is_watch (role_joined a b) ≡ true)

  pub join_says : (a b : Role Q) → is_watch a ≡ true → is_watch b ≡ true → JoinSays a b
  join_says (Idle ws) (Idle us) e f = (refl, refl, refl, refl)
  join_says (Idle ws) (Keeper n z us) e f = (refl, refl, refl, refl)
  join_says (Idle ws) (Mailbox k p c) e f = not_watch f
  join_says (Keeper m y ws) (Idle us) e f = (refl, refl, refl, refl)
  join_says (Keeper m y ws) (Keeper n z us) e f = (refl, refl, refl, refl)
  join_says (Keeper m y ws) (Mailbox k p c) e f = not_watch f
  join_says (Mailbox k p c) b e f = not_watch e

-- ---- the seats of the mailboxes

module _ {W P Q : Type 0} where
  module _ (mine theirs : List (EndSeats W P Q)) where
    pub record AsFar (k : ℕ) (now left : List (EndSeats W P Q)) : Type 0 where
      pub now_long : length now ≡ length mine
      pub left_long : length left ≡ length theirs
      pub at : (j : ℕ) (a b : EndSeats W P Q) → j < k → slice_get mine j ≡ Some a → slice_get theirs j ≡ Some b → slice_get now j ≡ Some (both_seats a b)
      pub still : (j : ℕ) → k ≤ j → (slice_get now j ≡ slice_get mine j) × (slice_get left j ≡ slice_get theirs j)

    pub far_start : AsFar 0 mine theirs
    far_start = record { now_long = refl; left_long = refl; at = λ j a b h _ _. absurd (omega arith); still = λ j h. (refl, refl) }

    pub far_more : (k : ℕ) (now left : List (EndSeats W P Q)) (a b r o : EndSeats W P Q) → AsFar k now left → k < length now → slice_get now k ≡ Some a → slice_get left k ≡ Some b → r ≡ both_seats a b → AsFar (k + 1) (set now k r) (set left k o)
    far_more k now left a b r o h near at_now at_left is = record {
      now_long = length-set now k r ∙ h.now_long;
      left_long = length-set left k o ∙ h.left_long;
      at = λ j c d below here there. dite (ℕ_discrete j k)
          (λ q. let s = h.still k (omega arith) in let same : a ≡ c = some_is a c (sym at_now ∙ (s.0 ∙ (ap (slice_get mine) (sym q) ∙ here))) in let same' : b ≡ d = some_is b d (sym at_left ∙ (s.1 ∙ (ap (slice_get theirs) (sym q) ∙ there))) in
          ap (slice_get (set now k r)) q ∙ (set_at now k r near ∙ ap Some (is ∙ (λ i. both_seats (same i) (same' i)))))
          (λ n. get_set_else now k j r n ∙ h.at j c d (omega arith) here there);
      still = λ j far. let s = h.still j (omega arith) in (get_set_else now k j r (λ q. omega arith) ∙ s.0, get_set_else left k j o (λ q. omega arith) ∙ s.1);
    }

    pub far_all : (k : ℕ) (now left : List (EndSeats W P Q)) → length mine ≤ k → AsFar k now left → AreJoined mine theirs now
    far_all k now left far h = record { long = h.now_long; at = λ j a b here there. let l = slice_get_within mine j a here in h.at j a b (omega arith) here there }

  from_either : (p q : Option (Seat (Option P) (View W Q))) (s : Seat (Option P) (View W Q)) → or_else p q ≡ Some s → (p ≡ Some s) ⊎ (q ≡ Some s)
  from_either None q s e = inr e
  from_either (Some x) q s e = inl e

  sender_either : (p q : Option (Seat (Option P) (View W Q))) → sender_of (or_else p q) ≡ or_else (sender_of p) (sender_of q)
  sender_either None q = refl
  sender_either (Some x) q = refl

  taker_either : (p q : Option (Seat (Option P) (View W Q))) → taker_of (or_else p q) ≡ or_else (taker_of p) (taker_of q)
  taker_either None q = refl
  taker_either (Some x) q = refl

  pub joined_sits : (z : TableId) (work : W) (blanks : List Q) (mine theirs now : List (EndSeats W P Q)) → length mine ≡ length theirs → AreJoined mine theirs now → AllPairs z work blanks mine → AllPairs z work blanks theirs → AllPairs z work blanks now
  joined_sits z work blanks mine theirs now same h left right k s e = let near = slice_get_within now k s e in let long = h.long in let a = get_there mine k (omega arith) in let b = get_there theirs k (omega arith) in
      let l = left k a.0 a.1 in let r = right k b.0 b.1 in
      subst (λ (q : EndSeats W P Q). PairSits z work blanks k q.parent q.child) (some_is (both_seats a.0 b.0) s (sym (h.at k a.0 b.0 a.1 b.1) ∙ e))
      record {
        of_parent = λ t f. ⊎_elim (λ p. l.of_parent t p) (λ p. r.of_parent t p) (from_either a.0.parent b.0.parent t f);
        of_child = λ t f. ⊎_elim (λ p. l.of_child t p) (λ p. r.of_child t p) (from_either a.0.child b.0.child t f);
      }

  abbrev ends_in : List (EndSeats W P Q) → List (MailboxEnds Q)
  ends_in l = map pair_ends (map both_of l)

  pub ends_joined : (mine theirs now : List (EndSeats W P Q)) → length mine ≡ length theirs → AreJoined mine theirs now → ends_in now ≡ joined_ends (ends_in mine) (ends_in theirs)
  ends_joined [] [] [] same h = refl
  ends_joined [] [] (c ∷ cs) same h = let n = h.long in absurd (omega arith)
  ends_joined [] (b ∷ ts) cs same h = absurd (omega arith)
  ends_joined (a ∷ ms) [] cs same h = absurd (omega arith)
  ends_joined (a ∷ ms) (b ∷ ts) [] same h = let n = h.long in absurd (omega arith)
  ends_joined (a ∷ ms) (b ∷ ts) (c ∷ cs) same h = let first : c ≡ both_seats a b = some_is c (both_seats a b) (h.at 0 a b refl refl) in let n = h.long in
      let rest = ends_joined ms ts cs (omega arith) (record { long = omega arith; at = λ k d e p q. h.at (suc k) d e p q }) in
      ap (λ (q : EndSeats W P Q). pair_ends (both_of q) ∷ ends_in cs) first
      ∙ (λ i. (let r : MailboxEnds Q = record { parent = sender_either a.parent b.parent i; child = taker_either a.child b.child i } in r) ∷ rest i)

  pub state_joined : (z y : TableId) (work v : W) (blanks bs more : List Q) (mine theirs now : List (EndSeats W P Q)) (a b r : Role Q) → is_watch a ≡ true → is_watch b ≡ true → length mine ≡ length theirs → AreJoined mine theirs now → bs ≡ blanks → r ≡ role_joined a b
      → slot_state z work bs (map both_of now) r ≡ joined_state (slot_state z work blanks (map both_of mine) a) (slot_state y v more (map both_of theirs) b)
  state_joined z y work v blanks bs more mine theirs now a b r wa wb same h is role = let says = join_says a b wa wb in let ends = ends_joined mine theirs now same h in
      let x = ap is_keeper role ∙ says.0 in let s = ap stored_of role ∙ says.1 in let t = ap stops_of role ∙ says.2 in
      λ i. let q : PortState W Q = record { board = Some z; work = work; blanks = is i; ends = ends i; tells = false; root = x i; stored = s i; stops = t i } in q

-- What every order of steps on a table of mailboxes keeps. A state meets the rule at the start, each step of a seat that has the ends that it
-- needs leads from a state that meets it to one that does, and a state that meets it has each of the rule's parts.
use Rattle.std.specs.Prelude.{◌≡◌, ◌≢◌, ℕ, ◌+◌, ◌<◌, List, [], ◌∷◌, ◌++◌, map, length, slice_index, Option, Some, Bool, true, false}
use mathlib.Core.Option.{none}
use Rattle.atomic_table.specs.Table.{State, Me, step, Allows, Splits, Joins, opening}
use Rattle.copy_slots.specs.declared.view.PacketAt.TheVariants.{Fresh, Held, Out}
use Rattle.copy_slots.specs.declared.view.Sender.{Sender}
use Rattle.copy_slots.specs.declared.view.Taker.{Taker}
use Rattle.copy_slots.specs.declared.view.Role.TheVariants.{Keeper, Mailbox}
use Rattle.copy_slots.specs.declared.view.View.{View}
use Rattle.copy_slots.specs.Mail.{MailInvariant, starting, spent, opened, collected, gave, took, gave_back, checked, stops, dealt_left, dealt_right}
use Rattle.copy_slots.specs.Rule.{Between}
use Rattle.slot_board.specs.Slots.{is_watch}
use Rattle.slot_board.specs.Splits.{parent_part, child_part, idle, joined_view}

module _ {W P Q : Type 0} (plain : P → Q) (asks : W → ℕ → List Q → Type 0) (answers : W → ℕ → List Q → Q → Type 0) (work : W) (blanks : List Q) where
  abbrev pub IsRuledState : State (Option P) (View W Q) → Type 0
  IsRuledState = MailInvariant plain asks answers work blanks

  -- `slots`: the number of slots. `id`, `me`: the seat, its view and the slots that it has out
  pub record EveryStep : Type 0 where
    -- the words are 0, each packet is in its slot, and one seat has all ends and the root's mark
    pub start : (packets : List P) (words : List ℕ) → blanks ≡ map plain packets → length words ≡ length packets + 1 → ((k : ℕ) → slice_index words k ≡ 0) → IsRuledState (opening words (map Some packets) (starting work blanks))
    -- the parent loads a turn word, and takes the packet where it is 0
    pub first : (slots id : ℕ) (me : Me (Option P) (View W Q)) (k : ℕ) (x : Sender Q) (c : Option (Taker Q)) → me.0.role ≡ Mailbox k (Some x) c → x.place ≡ Fresh
        → Allows IsRuledState slots id me k (λ n. n) (opened plain (step slots k 0 0 none) me)
    pub collect : (slots id : ℕ) (me : Me (Option P) (View W Q)) (k : ℕ) (x : Sender Q) (c : Option (Taker Q)) → me.0.role ≡ Mailbox k (Some x) c → x.place ≡ Out
        → Allows IsRuledState slots id me k (λ n. n) (collected plain answers (step slots k 0 0 none) me)
    -- the parent stores 1, and gives a job that may be sent
    pub offer : (slots id : ℕ) (me : Me (Option P) (View W Q)) (k : ℕ) (x : Sender Q) (c : Option (Taker Q)) (p : P) → me.0.role ≡ Mailbox k (Some x) c → x.place ≡ Held → (tail : List (ℕ × Option P)) → me.1 ≡ (k, Some p) ∷ tail
        → (w : W) → me.0.work ≡ Some w → asks w k (x.sent ++ plain p ∷ []) → Allows IsRuledState slots id me k (λ _. 1) (λ _. gave plain (step slots k 1 0 none) me 1)
    -- the child loads a turn word, and takes the packet where it is 1
    pub take : (slots id : ℕ) (me : Me (Option P) (View W Q)) (k : ℕ) (b : Option (Sender Q)) (y : Taker Q) → me.0.role ≡ Mailbox k b (Some y) → y.holds ≡ false
        → Allows IsRuledState slots id me k (λ n. n) (took plain asks (step slots k 0 0 none) me)
    -- the child stores 0, and gives a reply that answers the jobs
    pub answer : (slots id : ℕ) (me : Me (Option P) (View W Q)) (k : ℕ) (b : Option (Sender Q)) (y : Taker Q) (p : P) → me.0.role ≡ Mailbox k b (Some y) → y.holds ≡ true → (tail : List (ℕ × Option P)) → me.1 ≡ (k, Some p) ∷ tail
        → (w : W) → me.0.work ≡ Some w → answers w k y.taken (plain p) → Allows IsRuledState slots id me k (λ _. 0) (λ _. gave_back plain (step slots k 0 0 none) me 0)
    -- a load of the stop word
    pub check : (slots id : ℕ) (me : Me (Option P) (View W Q)) (word : ℕ) → me.0 ≢ spent → word ≡ slots → Allows IsRuledState slots id me word (λ n. n) (checked (step slots word 0 0 none) me)
    -- the root's core stores it
    pub stop : (slots id : ℕ) (me : Me (Option P) (View W Q)) (word from : ℕ) (st : Bool) (ws : List ℕ) → me.0.role ≡ Keeper from st ws → word ≡ slots → Allows IsRuledState slots id me word (λ _. 1) (λ _. stops (step slots word 1 0 none) me 1)
    -- a seat is split off: both ends of a mailbox of which nothing was done, the child's end, or a look at the stop word
    pub deal : (id : ℕ) (v : View W Q) (from : ℕ) (st : Bool) (ws : List ℕ) → v.role ≡ Keeper from st ws → from < length v.blanks → Splits IsRuledState id v (dealt_left v) (dealt_right v)
    pub part : (id : ℕ) (v : View W Q) (k : ℕ) (x : Sender Q) (y : Taker Q) → v.role ≡ Mailbox k (Some x) (Some y) → Splits IsRuledState id v (parent_part v) (child_part v)
    pub watch : (id : ℕ) (v : View W Q) → v ≢ spent → Splits IsRuledState id v v (idle v)
    -- two seats that look at the stop word are joined, and the second is spent
    pub join : (id : ℕ) (v : View W Q) (other : ℕ) (w : View W Q) → v ≢ spent → w ≢ spent → is_watch v.role ≡ true → is_watch w.role ≡ true → Joins IsRuledState id v other w (joined_view v w) spent
    -- between any two steps
    pub between : (s : State (Option P) (View W Q)) → IsRuledState s → Between plain asks answers work blanks s

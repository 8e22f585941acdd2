-- What a call of a port leaves as it was, and where the packet is after it.
use Rattle.std.proofs.Common.{◌≡◌, ◌+◌, ◌*◌, ◌/◌, ◌%◌, ℕ, List, [], ◌∷◌, ◌++◌, sym, ap, ◌∙◌, subst, arith, Option, Some, None, Bool}
use Rattle.std.specs.List.{sum}
use Rattle.std.proofs.lemmas.List.Sums.{sum_by_push}
use Rattle.std.proofs.Math.Nat.{div-add-mod, mul-add-mod_self_left}
use Rattle.copy_slots.specs.declared.view.PacketAt.{PacketAt}
use Rattle.copy_slots.specs.declared.view.Sender.{Sender}
use Rattle.copy_slots.specs.declared.view.Taker.{Taker}
use Rattle.copy_slots.specs.Ports.{MailboxEnds, PortState, child_at, on_parent, on_child, taken_by, on_taker, IsChild, ParentIs, ChildIs}
use Rattle.copy_slots.proofs.PortLemmas.{parent_moves, child_moves, child_here}
use Rattle.slot_board.specs.Joined.{IsOneBoard}

pub sum_more : (l : List ℕ) (x : ℕ) → sum (l ++ x ∷ []) ≡ sum l + x
sum_more l x = sum_by_push (λ n. n) l x

module _ {W Q : Type 0} where
  pub one_board_then : (s t u : PortState W Q) → IsOneBoard s t → IsOneBoard t u → IsOneBoard s u
  one_board_then s t u a b = (a.0 ∙ b.0, a.1 ∙ b.1, a.2 ∙ b.2)

  -- only the ends change
  pub same_board : (s t : PortState W Q) (es : List (MailboxEnds Q)) → t ≡ (record s { ends = es }) → IsOneBoard s t
  same_board s t es e = (sym (ap (λ (r : PortState W Q). r.board) e), sym (ap (λ (r : PortState W Q). r.work) e), sym (ap (λ (r : PortState W Q). r.blanks) e))

  pub root_kept : (s t : PortState W Q) (es : List (MailboxEnds Q)) → t ≡ (record s { ends = es }) → t.root ≡ s.root
  root_kept s t es e = ap (λ (r : PortState W Q). r.root) e

  -- the parent's end changes, or the child's
  pub parent_after : (s t : PortState W Q) (f : Sender Q → Sender Q) (p p' : PacketAt) → t ≡ (record s { ends = on_parent s.ends 0 f }) → ParentIs s 0 p → ((x : Sender Q) → x.place ≡ p → (f x).place ≡ p') → ParentIs t 0 p'
  parent_after s t f p p' e is moves = subst (λ (r : PortState W Q). ParentIs r 0 p') (sym e) (parent_moves s.ends 0 f p p' is moves)

  pub child_after : (s t : PortState W Q) (f : Taker Q → Taker Q) (b b' : Bool) → t ≡ (record s { ends = on_child s.ends 0 f }) → ChildIs s 0 b → ((y : Taker Q) → y.holds ≡ b → (f y).holds ≡ b') → ChildIs t 0 b'
  child_after s t f b b' e is moves = subst (λ (r : PortState W Q). ChildIs r 0 b') (sym e) (child_moves s.ends 0 f b b' is moves)

  pub taken_after : (s t : PortState W Q) (f : Taker Q → Taker Q) (g : List Q → List Q) → t ≡ (record s { ends = on_child s.ends 0 f }) → ((y : Taker Q) → (f y).taken ≡ g y.taken) → (b : Bool) → ChildIs s 0 b → taken_by (child_at t.ends 0) ≡ g (taken_by (child_at s.ends 0))
  taken_after s t f g e moves b is = ap (λ (r : PortState W Q). taken_by (child_at r.ends 0)) e ∙ (ap taken_by (child_here s.ends 0 f) ∙ go (child_at s.ends 0) is)
    where
      go : (o : Option (Taker Q)) → IsChild o b → taken_by (on_taker f o) ≡ g (taken_by o)
      go None h = absurd h
      go (Some y) h = moves y

pub adds : (s job m : ℕ) → (s % m + job) % m ≡ (s + job) % m
adds s job m = let p = div-add-mod s m in let x : ℕ = m * (s / m) in let y : ℕ = s % m in let q : x + y ≡ s = p in let split : s + job ≡ x + (y + job) = omega arith in
    sym (ap (λ k. k % m) split ∙ mul-add-mod_self_left m (s / m) (s % m + job))

pub total_after : (total job m : ℕ) (l k : List ℕ) → total ≡ sum l % m → k ≡ l ++ job ∷ [] → (total + job) % m ≡ sum k % m
total_after total job m l k is more = ap (λ t. (t + job) % m) is ∙ (adds (sum l) job m ∙ ap (λ n. n % m) (sym (ap sum more ∙ sum_more l job)))

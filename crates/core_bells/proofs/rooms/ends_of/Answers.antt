use Rattle.std.proofs.Common.{◌≡◌, ◌+◌, ◌<◌, ℕ, suc, Some, List, length, map, sym, ap, ◌∙◌, arith}
use Rattle.std.specs.Prelude.{get_or}
use Rattle.std.proofs.lemmas.List.{get_or-map, length-map}
use Rattle.forec_kernel.specs.declared.shape.ThreadShape.{ThreadShape}
use Rattle.forec_kernel.specs.declared.shape.Shape.{Shape}
use Rattle.forec_kernel.specs.Shapes.{PlainThread, plain_shape, plain_thread}
use Rattle.forec_kernel.specs.WellFormed.{FineChild, blank_thread}
use Rattle.thread_code.specs.Valid.{FineShape, of_shape}
use Rattle.core_bells.specs.Rooms.{core_of}
use Rattle.core_bells.proofs.rooms.ends_of.Goals as goal

some_is : (s t : ℕ) → Some s ≡ Some t → s ≡ t
some_is s t e = cc

parent_is : (l : List ThreadShape) (k : ℕ) (x : ThreadShape) → k + 1 < length l → x ≡ get_or l (k + 1) x → (get_or (map plain_thread l) (suc k) blank_thread).parent ≡ x.parent
parent_is l k x lt e = let one : suc k ≡ k + 1 = omega arith in
    ap (λ n. (get_or (map plain_thread l) n blank_thread).parent) one ∙ ap (λ (p : PlainThread). p.parent) (get_or-map plain_thread l (k + 1) x blank_thread lt ∙ ap plain_thread (sym e))

within : (s : Shape) (places : List ℕ) (k : ℕ) → length places ≡ length (plain_shape s).threads → k + 1 < length places → k + 1 < length s.threads.items
within s places k placed lt = let mapped = length-map s.threads.items plain_thread in omega (arith, placed, lt, mapped)

child : (s : Shape) (places : List ℕ) (k : ℕ) → FineShape (plain_shape s) → length places ≡ length (plain_shape s).threads → k + 1 < length places → FineChild (of_shape (plain_shape s)) (suc k)
child s places k fine placed lt = fine.each_child (suc k) (omega arith) (omega (arith, placed, lt))

pub unreachable-requires : goal.unreachable-requires
unreachable-requires c =
    let s = c.args.shape.now in let k = c.args.mailbox in let places = c.args.places.now in let r = c.requires in
    let is = parent_is s.threads.items k c.index.result.now (within s places k r.placed r.mailbox) c.index.ensures in
    let own = child s places k r.fine r.placed r.mailbox in c.in_default.not-Some own.parent (sym is ∙ own.is)

pub bounds-places-parent : goal.bounds-places-parent
bounds-places-parent c =
    let s = c.args.shape.now in let k = c.args.mailbox in let places = c.args.places.now in let r = c.requires in
    let is = parent_is s.threads.items k c.index.result.now (within s places k r.placed r.mailbox) c.index.ensures in
    let own = child s places k r.fine r.placed r.mailbox in
    let same = some_is c.in-Some.parent own.parent (sym c.in-Some.is ∙ (sym is ∙ own.is)) in
    let below = own.below in let lt = r.mailbox in omega (arith, same, below, lt)

pub returns : goal.returns
returns c =
    let s = c.args.shape.now in let k = c.args.mailbox in let places = c.args.places.now in let r = c.requires in
    let is = parent_is s.threads.items k c.index.result.now (within s places k r.placed r.mailbox) c.index.ensures in
    let one : k + 1 ≡ suc k = omega arith in
    λ i. (core_of places ((sym c.in-Some.is ∙ sym is) i), get_or places (one i) 0)

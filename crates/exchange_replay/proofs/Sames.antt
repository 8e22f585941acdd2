-- Packets that tell the same.
use Rattle.std.proofs.Common.{◌≡◌, Bool, true, false, List, [], ◌∷◌, refl, sym, ap, ◌∙◌, subst}
use Rattle.std.specs.Prelude.{ℤ}
use Rattle.std.specs.Bool.{Decides}
use Rattle.forec_base.specs.declared.Place.{Place}
use Rattle.forec_base.specs.declared.Trap.{Trap}
use Rattle.forec_kernel.specs.declared.shape.VarCopy.{VarCopy}
use Rattle.combine_tree.specs.declared.packet.PacketKind.{PacketKind}
use Rattle.combine_tree.specs.declared.packet.PacketKind.TheVariants as kind
use Rattle.combine_tree.specs.declared.packet.Packet.{Packet}
use Rattle.combine_tree.specs.Plain.{plain_kind, plain_packet}
use Rattle.std.specs.Prelude.{not}
use Rattle.std.specs.Ordering.{int_eq}
use Rattle.std.proofs.lemmas.Bool.Decides.{Decides-int_eq}
use Rattle.std.proofs.lemmas.Slice.Eq.{slice_eq-Decides}
use mathlib.Core.Bool.{◌&&◌, beq}
use lib.Pointwise.{pointwise}
use Rattle.forec_kernel.specs.contracts.shape.VarCopyPartialEq.TheImpl.{eq-value}
use Rattle.forec_kernel.specs.Packets.{PlainPacket}
use Rattle.forec_kernel.specs.Packets as packet
use Rattle.forec_kernel.specs.Packed.{IsJob, IsReply}
use Rattle.forec_kernel.specs.Solo.{unmarked_copies}
use Rattle.forec_kernel.specs.Engine.{Job, Start, Wake, Reply, WasPaused, WasEnded, WasTrapped, WasOver}

values_same : (v w : List ℤ) → unmarked_copies v ≡ unmarked_copies w → v ≡ w
values_same [] [] e = refl
values_same [] (y ∷ w) e = cc
values_same (x ∷ v) [] e = cc
values_same (x ∷ v) (y ∷ w) e =
    let h = ap (λ (c : VarCopy). c.value) (head _ _ (unmarked_copies v) (unmarked_copies w) e) in
    ap (λ z. z ∷ v) h ∙ ap (λ l. y ∷ l) (values_same v w (tail _ _ (unmarked_copies v) (unmarked_copies w) e))
  where
    head : (a b : VarCopy) (l m : List VarCopy) → a ∷ l ≡ b ∷ m → a ≡ b
    head a b l m e = cc

    tail : (a b : VarCopy) (l m : List VarCopy) → a ∷ l ≡ b ∷ m → l ≡ m
    tail a b l m e = cc

pub jobs_same : (p q : PlainPacket) (i j : Job) → IsJob p i → IsJob q j → p.kind ≡ q.kind → p.allowance ≡ q.allowance → p.copies ≡ q.copies → (p.kind ≡ packet.Start → p.args ≡ q.args) → i ≡ j
jobs_same p q (Start args v a) (Start args' v' a') h g k al co ar =
    let x = sym h.1 ∙ ar h.0 ∙ g.1 in
    let y = values_same v v' (sym h.2 ∙ co ∙ g.2) in
    let z = sym h.3 ∙ al ∙ g.3 in ap (λ l. Start l v a) x ∙ ap (λ l. Start args' l a) y ∙ ap (λ n. Start args' v' n) z
jobs_same p q (Start args v a) (Wake v' a') h g k al co ar = let e = sym h.0 ∙ k ∙ g.0 in cc
jobs_same p q (Wake v a) (Start args' v' a') h g k al co ar = let e = sym h.0 ∙ k ∙ g.0 in cc
jobs_same p q (Wake v a) (Wake v' a') h g k al co ar =
    let y = values_same v v' (sym h.1 ∙ co ∙ g.1) in
    let z = sym h.2 ∙ al ∙ g.2 in ap (λ l. Wake l a) y ∙ ap (λ n. Wake v' n) z

pub kinds_same : (p q : PlainPacket) (i j : Job) → IsJob p i → IsJob q j → i ≡ j → p.kind ≡ q.kind
kinds_same p q (Start args v a) (Start args' v' a') h g e = h.0 ∙ sym g.0
kinds_same p q (Start args v a) (Wake v' a') h g e = cc
kinds_same p q (Wake v a) (Start args' v' a') h g e = cc
kinds_same p q (Wake v a) (Wake v' a') h g e = h.0 ∙ sym g.0

pub allowances_same : (p q : PlainPacket) (i j : Job) → IsJob p i → IsJob q j → i ≡ j → p.allowance ≡ q.allowance
allowances_same p q (Start args v a) (Start args' v' a') h g e = let n : a ≡ a' = cc in h.3 ∙ n ∙ sym g.3
allowances_same p q (Start args v a) (Wake v' a') h g e = cc
allowances_same p q (Wake v a) (Start args' v' a') h g e = cc
allowances_same p q (Wake v a) (Wake v' a') h g e = let n : a ≡ a' = cc in h.2 ∙ n ∙ sym g.2

pub copies_same : (p q : PlainPacket) (i j : Job) → IsJob p i → IsJob q j → i ≡ j → p.copies ≡ q.copies
copies_same p q (Start args v a) (Start args' v' a') h g e = let n : v ≡ v' = cc in h.2 ∙ ap unmarked_copies n ∙ sym g.2
copies_same p q (Start args v a) (Wake v' a') h g e = cc
copies_same p q (Wake v a) (Start args' v' a') h g e = cc
copies_same p q (Wake v a) (Wake v' a') h g e = let n : v ≡ v' = cc in h.1 ∙ ap unmarked_copies n ∙ sym g.1

pub args_same : (p q : PlainPacket) (i j : Job) → IsJob p i → IsJob q j → i ≡ j → p.kind ≡ packet.Start → p.args ≡ q.args
args_same p q (Start args v a) (Start args' v' a') h g e k = let n : args ≡ args' = cc in h.1 ∙ n ∙ sym g.1
args_same p q (Start args v a) (Wake v' a') h g e k = cc
args_same p q (Wake v a) (Start args' v' a') h g e k = cc
args_same p q (Wake v a) (Wake v' a') h g e k = let f = sym k ∙ h.0 in cc

pub not_start : (p : PlainPacket) (i : Job) → IsJob p i → (p.kind ≡ packet.Start → ⊥) → p.kind ≡ packet.Wake
not_start p (Start args v a) h n = absurd (n h.0)
not_start p (Wake v a) h n = h.0

-- replies with copies

pub over_kind : (k : PacketKind) → plain_kind k ≡ packet.IsOver → k ≡ kind.Over
over_kind kind.Over e = refl
over_kind kind.Blank e = cc
over_kind kind.Start e = cc
over_kind kind.Wake e = cc
over_kind kind.Paused e = cc
over_kind kind.Ended e = cc
over_kind (kind.Trapped place trap) e = cc

pub trapped_kind : (k : PacketKind) (place : Place) (trap : Trap) → plain_kind k ≡ packet.IsTrapped place trap → k ≡ kind.Trapped place trap
trapped_kind (kind.Trapped p t) place trap e = let a : p ≡ place = cc in let b : t ≡ trap = cc in ap (λ x. kind.Trapped x t) a ∙ ap (λ x. kind.Trapped place x) b
trapped_kind kind.Over place trap e = cc
trapped_kind kind.Blank place trap e = cc
trapped_kind kind.Start place trap e = cc
trapped_kind kind.Wake place trap e = cc
trapped_kind kind.Paused place trap e = cc
trapped_kind kind.Ended place trap e = cc

abbrev pub HasCopies : PlainPacket → Type 0
HasCopies p = (p.kind ≡ packet.IsOver → ⊥) × ((place : Place) (trap : Trap) → p.kind ≡ packet.IsTrapped place trap → ⊥)

pub replies_same : (p q : PlainPacket) (i j : Reply) → IsReply p i → IsReply q j → HasCopies p → p.kind ≡ q.kind → p.units ≡ q.units → p.copies ≡ q.copies → i ≡ j
replies_same p q (WasPaused v a) (WasPaused v' a') h g n k un co = ap (λ l. WasPaused l a) (sym h.1 ∙ co ∙ g.1) ∙ ap (λ n. WasPaused v' n) (sym h.2 ∙ un ∙ g.2)
replies_same p q (WasEnded v a) (WasEnded v' a') h g n k un co = ap (λ l. WasEnded l a) (sym h.1 ∙ co ∙ g.1) ∙ ap (λ n. WasEnded v' n) (sym h.2 ∙ un ∙ g.2)
replies_same p q (WasTrapped place trap u) j h g n k un co = absurd (n.1 place trap h.0)
replies_same p q WasOver j h g n k un co = absurd (n.0 h)
replies_same p q (WasPaused v a) (WasEnded v' a') h g n k un co = let e = sym h.0 ∙ k ∙ g.0 in cc
replies_same p q (WasPaused v a) (WasTrapped place trap u) h g n k un co = let e = sym h.0 ∙ k ∙ g.0 in cc
replies_same p q (WasPaused v a) WasOver h g n k un co = let e = sym h.0 ∙ k ∙ g in cc
replies_same p q (WasEnded v a) (WasPaused v' a') h g n k un co = let e = sym h.0 ∙ k ∙ g.0 in cc
replies_same p q (WasEnded v a) (WasTrapped place trap u) h g n k un co = let e = sym h.0 ∙ k ∙ g.0 in cc
replies_same p q (WasEnded v a) WasOver h g n k un co = let e = sym h.0 ∙ k ∙ g in cc

pub reply_copies : (p q : PlainPacket) (i j : Reply) → IsReply p i → IsReply q j → HasCopies p → i ≡ j → p.copies ≡ q.copies
reply_copies p q (WasPaused v a) (WasPaused v' a') h g n e = let f : v ≡ v' = cc in h.1 ∙ f ∙ sym g.1
reply_copies p q (WasEnded v a) (WasEnded v' a') h g n e = let f : v ≡ v' = cc in h.1 ∙ f ∙ sym g.1
reply_copies p q (WasTrapped place trap u) j h g n e = absurd (n.1 place trap h.0)
reply_copies p q WasOver j h g n e = absurd (n.0 h)
reply_copies p q (WasPaused v a) (WasEnded v' a') h g n e = cc
reply_copies p q (WasPaused v a) (WasTrapped place trap u) h g n e = cc
reply_copies p q (WasPaused v a) WasOver h g n e = cc
reply_copies p q (WasEnded v a) (WasPaused v' a') h g n e = cc
reply_copies p q (WasEnded v a) (WasTrapped place trap u) h g n e = cc
reply_copies p q (WasEnded v a) WasOver h g n e = cc

pub start_kind : (k : PacketKind) → plain_kind k ≡ packet.Start → k ≡ kind.Start
start_kind kind.Start e = refl
start_kind kind.Blank e = cc
start_kind kind.Over e = cc
start_kind kind.Wake e = cc
start_kind kind.Paused e = cc
start_kind kind.Ended e = cc
start_kind (kind.Trapped place trap) e = cc

pub wake_kind : (k : PacketKind) → plain_kind k ≡ packet.Wake → k ≡ kind.Wake
wake_kind kind.Wake e = refl
wake_kind kind.Blank e = cc
wake_kind kind.Over e = cc
wake_kind kind.Start e = cc
wake_kind kind.Paused e = cc
wake_kind kind.Ended e = cc
wake_kind (kind.Trapped place trap) e = cc

pub paused_kind : (k : PacketKind) → plain_kind k ≡ packet.IsPaused → k ≡ kind.Paused
paused_kind kind.Paused e = refl
paused_kind kind.Blank e = cc
paused_kind kind.Over e = cc
paused_kind kind.Start e = cc
paused_kind kind.Wake e = cc
paused_kind kind.Ended e = cc
paused_kind (kind.Trapped place trap) e = cc

pub job_kinds : (a b : Packet) (i j : Job) → IsJob (plain_packet a) i → IsJob (plain_packet b) j → i ≡ j → a.kind ≡ b.kind
job_kinds a b (Start args v n) (Start args' v' n') h g e = start_kind a.kind h.0 ∙ sym (start_kind b.kind g.0)
job_kinds a b (Start args v n) (Wake v' n') h g e = cc
job_kinds a b (Wake v n) (Start args' v' n') h g e = cc
job_kinds a b (Wake v n) (Wake v' n') h g e = wake_kind a.kind h.0 ∙ sym (wake_kind b.kind g.0)

-- ---- copies

both : (x y : Bool) → (x && y) ≡ true → (x ≡ true) × (y ≡ true)
both true true e = (refl, refl)
both true false e = cc
both false y e = cc

beq_same : (x y : Bool) → beq x y ≡ true → x ≡ y
beq_same true true e = refl
beq_same true false e = cc
beq_same false true e = cc
beq_same false false e = refl

beq_self : (x : Bool) → beq x x ≡ true
beq_self true = refl
beq_self false = refl

pub copy_decides : (a b : VarCopy) → Decides (eq-value.it a b) (a ≡ b)
copy_decides a b = (same, self)
  where
    same : eq-value.it a b ≡ true → a ≡ b
    same e =
        let h = both (int_eq a.value b.value) (beq a.modified b.modified) e in
        ap (λ v. record { value = v; modified = a.modified }) ((Decides-int_eq a.value b.value).0 h.0) ∙ ap (λ m. record { value = b.value; modified = m }) (beq_same a.modified b.modified h.1)

    self : a ≡ b → eq-value.it a b ≡ true
    self e = subst (λ x. eq-value.it a x ≡ true) e (ap (λ x. x && beq a.modified a.modified) ((Decides-int_eq a.value a.value).1 refl) ∙ beq_self a.modified)

from_not : (b : Bool) → false ≡ not b → b ≡ true
from_not true e = refl
from_not false e = cc

to_not : (b : Bool) → true ≡ not b → b ≡ true → ⊥
to_not true e f = cc
to_not false e f = cc

pub copies_are : (xs ys : List VarCopy) → false ≡ not (pointwise eq-value.it xs ys) → xs ≡ ys
copies_are xs ys e = (slice_eq-Decides copy_decides xs ys (pointwise eq-value.it xs ys) refl).0 (from_not (pointwise eq-value.it xs ys) e)

pub copies_are_not : (xs ys : List VarCopy) → true ≡ not (pointwise eq-value.it xs ys) → xs ≡ ys → ⊥
copies_are_not xs ys e f = to_not (pointwise eq-value.it xs ys) e ((slice_eq-Decides copy_decides xs ys (pointwise eq-value.it xs ys) refl).1 f)

-- Lines that were read, word by word.
use Rattle.std.proofs.Common.{◌≡◌, false, ℕ, ◌<◌, ◌≤◌, ◌^◌, List, [], ◌∷◌, ◌++◌, ℤ, Option, Some, None, IfSome, SomeIff, unwrap_or, min, ◌-◌, inl, inr, length, get_or, drop, codes, refl, sym, ap, subst, ◌∙◌, arith, append_assoc}
use Rattle.std.specs.Option.{IsSomeAnd}
use Rattle.std.specs.Fmt.{decimal}
use Rattle.std.proofs.lemmas.Bool.{cases_lt}
use Rattle.log_text.specs.Fronts.{IsHeadLine}
use Rattle.std.proofs.lemmas.List.{append-nil, length-map}
use Rattle.forec_base.specs.declared.limits.TheConstants.{MAX_BUDGET}
use Rattle.forec_base.specs.declared.Place.{Place}
use Rattle.forec_base.specs.declared.Trap.{Trap}
use Rattle.forec_kernel.specs.declared.shape.VarCopy.{VarCopy}
use Rattle.forec_kernel.specs.Engine.{Job, Start, Wake, Reply, WasPaused, WasEnded, WasTrapped, WasOver}
use Rattle.forec_kernel.specs.Packed.{HasRoom, IsJob, IsReply}
use Rattle.forec_kernel.specs.Shapes.{PlainShape}
use Rattle.thread_code.specs.Valid.{of_shape}
use Rattle.combine_tree.specs.declared.packet.Packet.{Packet}
use Rattle.combine_tree.specs.declared.packet.PacketKind.TheVariants as kind
use Rattle.combine_tree.specs.Plain.{plain_packet, plain_kind}
use Rattle.exchange_meaning.specs.LogLines.{job_line, reply_line}
use Rattle.exchange_meaning.specs.OfShape.{AreInts, IsPlaceNumber}
use Rattle.log_text.specs.Pieces.{StandsTo, IsFurther}
use Rattle.log_text.specs.Stages.{IsJobOf, IsReplyOf}
use Rattle.log_text.specs.Readings.{behind_start, behind_wake, behind_copies, behind_trapped, IsStart, IsWake, IsTrapOf, KeepsRoom, ReadsStart, ReadsWake, ReadsRest, ReadsTrapped, ReadsJob, ReadsReply}
use Rattle.log_text.proofs.PieceLemmas.{stands_more, behind}

pub some_map : {P Q : ℕ → Type 0} (r : Option ℕ) → ((x : ℕ) → P x → Q x) → IsSomeAnd r P → IsSomeAnd r Q
some_map None f h = h
some_map (Some x) f h = f x h

-- a number, or the greatest one of 64 bits
pub value_is : (v : Option ℕ) (n : ℕ) → SomeIff v (n < 2 ^ 64) n → unwrap_or v (2 ^ 64 - 1) ≡ min n (2 ^ 64 - 1)
value_is None n h = elim (cases_lt n (2 ^ 64)) [ inl low ↦ absurd (h low) | inr high ↦ omega arith ]
value_is (Some v) n h = omega (arith, h.0, h.1)

pub head_read : (bytes : List ℕ) (at t jobs : ℕ) (line rest : List ℕ) (h : IsHeadLine t jobs line) → drop at bytes ≡ line ++ rest →
    drop at bytes ≡ codes "thread " ++ (decimal t ++ (codes " jobs " ++ (h.digits ++ (codes "\n" ++ rest))))
head_read bytes at t jobs line rest h e = e ∙ (ap (λ (l : List ℕ). l ++ rest) h.is ∙ simp append_assoc)

-- ---- texts

pub start_text : (a : ℕ) (args values : List ℤ) (rest : List ℕ) → job_line (Start args values a) ++ rest ≡ codes "start " ++ behind_start a args values rest
start_text a args values rest = simp append_assoc

pub wake_text : (a : ℕ) (values : List ℤ) (rest : List ℕ) → job_line (Wake values a) ++ rest ≡ codes "wake " ++ behind_wake a values rest
wake_text a values rest = simp append_assoc

pub paused_text : (u : ℕ) (copies : List VarCopy) (rest : List ℕ) → reply_line (WasPaused copies u) ++ rest ≡ codes "paused " ++ behind_copies u copies rest
paused_text u copies rest = simp append_assoc

pub ended_text : (u : ℕ) (copies : List VarCopy) (rest : List ℕ) → reply_line (WasEnded copies u) ++ rest ≡ codes "ended " ++ behind_copies u copies rest
ended_text u copies rest = simp append_assoc

pub trapped_text : (u : ℕ) (place : Place) (trap : Trap) (rest : List ℕ) → reply_line (WasTrapped place trap u) ++ rest ≡ codes "trapped " ++ behind_trapped u place trap rest
trapped_text u place trap rest = simp append_assoc

-- a line of two parts stands there
line_stands : (bytes : List ℕ) (at mid end : ℕ) (line word more : List ℕ) → line ++ [] ≡ word ++ more → StandsTo bytes at word mid → StandsTo bytes mid more end → StandsTo bytes at line end
line_stands bytes at mid end line word more e p q = subst (λ (l : List ℕ). StandsTo bytes at l end) (sym e ∙ append-nil line) (stands_more bytes at mid end word more p q)

-- ---- jobs

pub start_read : (s : PlainShape) (t : ℕ) (bytes : List ℕ) (at mid : ℕ) (old new : Packet) (r : Option ℕ) → HasRoom (of_shape s) t (plain_packet old) → KeepsRoom old new → StandsTo bytes at (codes "start ") mid →
    IfSome r (λ end. ReadsStart bytes mid new end) → IfSome r (λ end. ReadsJob s t bytes at (plain_packet new) end)
start_read s t bytes at mid old new None room keeps word h = tt
start_read s t bytes at mid old new (Some end) room keeps word h =
    let size : length h.values ≡ length new.copies.items = sym (length-map h.values (λ (n : ℤ). record { value = n; modified = false })) ∙ sym (ap (λ (l : List VarCopy). length l) h.is.copies) in
    record {
      job = Start new.args.items h.values new.allowance;
      fits = record {
        fits = (keeps.args ∙ room.args, size ∙ (keeps.copies ∙ room.copies));
        numbers = (h.args, h.ints, h.small);
      };
      is = (ap plain_kind h.is.kind, refl, h.is.copies, refl);
      stands = line_stands bytes at mid end (job_line (Start new.args.items h.values new.allowance)) (codes "start ") (behind_start new.allowance new.args.items h.values [])
          (start_text new.allowance new.args.items h.values []) word h.stands;
    }

pub wake_read : (s : PlainShape) (t : ℕ) (bytes : List ℕ) (at mid : ℕ) (old new : Packet) (r : Option ℕ) → HasRoom (of_shape s) t (plain_packet old) → KeepsRoom old new → StandsTo bytes at (codes "wake ") mid →
    IfSome r (λ end. ReadsWake bytes mid new end) → IfSome r (λ end. ReadsJob s t bytes at (plain_packet new) end)
wake_read s t bytes at mid old new None room keeps word h = tt
wake_read s t bytes at mid old new (Some end) room keeps word h =
    let size : length h.values ≡ length new.copies.items = sym (length-map h.values (λ (n : ℤ). record { value = n; modified = false })) ∙ sym (ap (λ (l : List VarCopy). length l) h.is.copies) in
    record {
      job = Wake h.values new.allowance;
      fits = record { fits = size ∙ (keeps.copies ∙ room.copies); numbers = (h.ints, h.small) };
      is = (ap plain_kind h.is.kind, h.is.copies, refl);
      stands = line_stands bytes at mid end (job_line (Wake h.values new.allowance)) (codes "wake ") (behind_wake new.allowance h.values [])
          (wake_text new.allowance h.values []) word h.stands;
    }

first_byte : (bytes xs : List ℕ) (at mid b c : ℕ) (piece : List ℕ) → StandsTo bytes at (b ∷ piece) mid → drop at bytes ≡ c ∷ xs → b ≡ c
first_byte bytes xs at mid b c piece p e = ap (λ (l : List ℕ). get_or l 0 0) (sym p.text ∙ e)

-- a job that begins with `start ` was read
pub start_only : (s : PlainShape) (t : ℕ) (bytes : List ℕ) (at mid : ℕ) (old new : Packet) (r : Option ℕ) (j : Job) (rest : List ℕ) → HasRoom (of_shape s) t (plain_packet old) → IsJobOf s t j → StandsTo bytes at (codes "start ") mid →
    drop at bytes ≡ job_line j ++ rest →
    ((a : ℕ) (args values : List ℤ) (rest : List ℕ) → a ≤ MAX_BUDGET → length args ≡ length old.args.items → AreInts args
    → length values ≡ length old.copies.items → AreInts values → drop mid bytes ≡ behind_start a args values rest → IsSomeAnd r (λ end. (drop end bytes ≡ rest) × IsStart new a args values)) →
    IsSomeAnd r (λ end. (drop end bytes ≡ rest) × IsJob (plain_packet new) j)
start_only s t bytes at mid old new r (Start args values a) rest room is word e only =
    some_map r (λ end h. (h.0, (ap plain_kind h.1.kind, h.1.args, h.1.copies, h.1.allowance)))
    (only a args values rest is.numbers.2 (is.fits.0 ∙ sym room.args) is.numbers.0 (is.fits.1 ∙ sym room.copies) is.numbers.1 (behind bytes at mid (codes "start ") (behind_start a args values rest) word (e ∙ start_text a args values rest)))
start_only s t bytes at mid old new r (Wake values a) rest room is word e only =
    absurd (let bad = first_byte bytes (drop 1 (codes "wake ") ++ behind_wake a values rest) at mid 115 119 (drop 1 (codes "start ")) word (e ∙ wake_text a values rest) in omega arith)

pub wake_only : (s : PlainShape) (t : ℕ) (bytes : List ℕ) (at mid : ℕ) (old new : Packet) (r : Option ℕ) (j : Job) (rest : List ℕ) → HasRoom (of_shape s) t (plain_packet old) → IsJobOf s t j → StandsTo bytes at (codes "wake ") mid →
    drop at bytes ≡ job_line j ++ rest →
    ((a : ℕ) (values : List ℤ) (rest : List ℕ) → a ≤ MAX_BUDGET
    → length values ≡ length old.copies.items → AreInts values → drop mid bytes ≡ behind_wake a values rest → IsSomeAnd r (λ end. (drop end bytes ≡ rest) × IsWake new a values)) →
    IsSomeAnd r (λ end. (drop end bytes ≡ rest) × IsJob (plain_packet new) j)
wake_only s t bytes at mid old new r (Start args values a) rest room is word e only =
    absurd (let bad = first_byte bytes (drop 1 (codes "start ") ++ behind_start a args values rest) at mid 119 115 (drop 1 (codes "wake ")) word (e ∙ start_text a args values rest) in omega arith)
wake_only s t bytes at mid old new r (Wake values a) rest room is word e only =
    some_map r (λ end h. (h.0, (ap plain_kind h.1.kind, h.1.copies, h.1.allowance)))
    (only a values rest is.numbers.1 (is.fits ∙ sym room.copies) is.numbers.0 (behind bytes at mid (codes "wake ") (behind_wake a values rest) word (e ∙ wake_text a values rest)))

-- a job begins with one of two words
pub job_begins : (j : Job) (rest : List ℕ) (bytes : List ℕ) (at : ℕ) → drop at bytes ≡ job_line j ++ rest → ((x : List ℕ) → drop at bytes ≡ codes "start " ++ x → ⊥) → ((x : List ℕ) → drop at bytes ≡ codes "wake " ++ x → ⊥) → ⊥
job_begins (Start args values a) rest bytes at e p q = p (behind_start a args values rest) (e ∙ start_text a args values rest)
job_begins (Wake values a) rest bytes at e p q = q (behind_wake a values rest) (e ∙ wake_text a values rest)

-- ---- replies

pub paused_read : (s : PlainShape) (t : ℕ) (bytes : List ℕ) (at mid : ℕ) (old new : Packet) (r : Option ℕ) → HasRoom (of_shape s) t (plain_packet old) → KeepsRoom old new → new.kind ≡ kind.Paused → StandsTo bytes at (codes "paused ") mid →
    IfSome r (λ end. ReadsRest bytes mid new end) → IfSome r (λ end. ReadsReply s t bytes at (plain_packet new) end)
paused_read s t bytes at mid old new None room keeps is word h = tt
paused_read s t bytes at mid old new (Some end) room keeps is word h = record {
  reply = WasPaused new.copies.items new.units;
  fits = record { fits = keeps.copies ∙ room.copies; numbers = (h.ints, h.small) };
  is = (ap plain_kind is, refl, refl);
  stands = line_stands bytes at mid end (reply_line (WasPaused new.copies.items new.units)) (codes "paused ") (behind_copies new.units new.copies.items [])
      (paused_text new.units new.copies.items []) word h.stands;
}

pub ended_read : (s : PlainShape) (t : ℕ) (bytes : List ℕ) (at mid : ℕ) (old new : Packet) (r : Option ℕ) → HasRoom (of_shape s) t (plain_packet old) → KeepsRoom old new → new.kind ≡ kind.Ended → StandsTo bytes at (codes "ended ") mid →
    IfSome r (λ end. ReadsRest bytes mid new end) → IfSome r (λ end. ReadsReply s t bytes at (plain_packet new) end)
ended_read s t bytes at mid old new None room keeps is word h = tt
ended_read s t bytes at mid old new (Some end) room keeps is word h = record {
  reply = WasEnded new.copies.items new.units;
  fits = record { fits = keeps.copies ∙ room.copies; numbers = (h.ints, h.small) };
  is = (ap plain_kind is, refl, refl);
  stands = line_stands bytes at mid end (reply_line (WasEnded new.copies.items new.units)) (codes "ended ") (behind_copies new.units new.copies.items [])
      (ended_text new.units new.copies.items []) word h.stands;
}

pub trapped_read : (s : PlainShape) (t : ℕ) (bytes : List ℕ) (at mid : ℕ) (new : Packet) (r : Option ℕ) → StandsTo bytes at (codes "trapped ") mid →
    IfSome r (λ end. ReadsTrapped bytes mid new end) → IfSome r (λ end. ReadsReply s t bytes at (plain_packet new) end)
trapped_read s t bytes at mid new None word h = tt
trapped_read s t bytes at mid new (Some end) word h = record {
  reply = WasTrapped h.place h.trap new.units;
  fits = record { fits = tt; numbers = (h.small, h.line, h.column) };
  is = (ap plain_kind h.is.kind, refl);
  stands = line_stands bytes at mid end (reply_line (WasTrapped h.place h.trap new.units)) (codes "trapped ") (behind_trapped new.units h.place h.trap [])
      (trapped_text new.units h.place h.trap []) word h.stands;
}

-- a reply begins with one of four words
pub trapped_only : (s : PlainShape) (t : ℕ) (bytes : List ℕ) (at mid : ℕ) (new : Packet) (o : Option ℕ) (r : Reply) (rest : List ℕ) → IsReplyOf s t r → StandsTo bytes at (codes "trapped ") mid →
    drop at bytes ≡ reply_line r ++ rest → ((x : List ℕ) → drop at bytes ≡ codes "paused " ++ x → ⊥) → ((x : List ℕ) → drop at bytes ≡ codes "ended " ++ x → ⊥) →
    ((u : ℕ) (place : Place) (trap : Trap) (rest : List ℕ) → u < 2 ^ 64 → IsPlaceNumber place.line → IsPlaceNumber place.column → drop mid bytes ≡ behind_trapped u place trap rest
    → IsSomeAnd o (λ end. (drop end bytes ≡ rest) × IsTrapOf new u place trap)) →
    IsSomeAnd o (λ end. (drop end bytes ≡ rest) × IsReply (plain_packet new) r)
trapped_only s t bytes at mid new o (WasPaused copies u) rest is word e p q only = absurd (p (behind_copies u copies rest) (e ∙ paused_text u copies rest))
trapped_only s t bytes at mid new o (WasEnded copies u) rest is word e p q only = absurd (q (behind_copies u copies rest) (e ∙ ended_text u copies rest))
trapped_only s t bytes at mid new o (WasTrapped place trap u) rest is word e p q only =
    some_map o (λ end h. (h.0, (ap plain_kind h.1.kind, h.1.units)))
    (only u place trap rest is.numbers.0 is.numbers.1 is.numbers.2 (behind bytes at mid (codes "trapped ") (behind_trapped u place trap rest) word (e ∙ trapped_text u place trap rest)))
trapped_only s t bytes at mid new o WasOver rest is word e p q only =
    absurd (let bad = first_byte bytes (drop 1 (codes "over\n") ++ rest) at mid 116 111 (drop 1 (codes "trapped ")) word e in omega arith)

pub over_is : (bytes : List ℕ) (at : ℕ) (r : Reply) (rest : List ℕ) → drop at bytes ≡ reply_line r ++ rest → ((x : List ℕ) → drop at bytes ≡ codes "paused " ++ x → ⊥) →
    ((x : List ℕ) → drop at bytes ≡ codes "ended " ++ x → ⊥) → ((x : List ℕ) → drop at bytes ≡ codes "trapped " ++ x → ⊥) → (r ≡ WasOver) × (drop at bytes ≡ codes "over\n" ++ rest)
over_is bytes at (WasPaused copies u) rest e p q w = absurd (p (behind_copies u copies rest) (e ∙ paused_text u copies rest))
over_is bytes at (WasEnded copies u) rest e p q w = absurd (q (behind_copies u copies rest) (e ∙ ended_text u copies rest))
over_is bytes at (WasTrapped place trap u) rest e p q w = absurd (w (behind_trapped u place trap rest) (e ∙ trapped_text u place trap rest))
over_is bytes at WasOver rest e p q w = (refl, e)

-- ---- how far a reader comes

pub if_map : {P Q : ℕ → Type 0} (r : Option ℕ) → ((x : ℕ) → P x → Q x) → IfSome r P → IfSome r Q
if_map None f h = h
if_map (Some x) f h = f x h

pub further : (bytes : List ℕ) (at mid end : ℕ) (piece more : List ℕ) → StandsTo bytes at piece mid → StandsTo bytes mid more end → 2 ≤ length piece → IsFurther bytes at end
further bytes at mid end piece more p q long = record { past = omega (arith, p.place, q.place); within = q.within }

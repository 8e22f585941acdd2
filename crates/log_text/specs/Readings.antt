-- What a reader of a line gives: what stands there, as a packet.
use Rattle.std.specs.Prelude.{ℕ, ℤ, ◌≡◌, ◌≤◌, ◌<◌, ◌-◌, ◌^◌, ◌++◌, List, [], length, min, codes, decimal}
use Rattle.forec_base.specs.declared.limits.TheConstants.{MAX_BUDGET}
use Rattle.forec_base.specs.declared.Place.{Place}
use Rattle.forec_base.specs.declared.Trap.{Trap}
use Rattle.forec_kernel.specs.declared.shape.VarCopy.{VarCopy}
use Rattle.forec_kernel.specs.Solo.{unmarked_copies}
use Rattle.combine_tree.specs.declared.packet.PacketKind.TheVariants as kind
use Rattle.forec_kernel.specs.Engine.{Job, Reply}
use Rattle.forec_kernel.specs.Packets.{PlainPacket}
use Rattle.forec_kernel.specs.Packed.{IsJob, IsReply}
use Rattle.forec_kernel.specs.Shapes.{PlainShape}
use Rattle.combine_tree.specs.declared.packet.Packet.{Packet}
use Rattle.exchange_meaning.specs.LogLines.{job_line, reply_line, spaced_numbers, marked_numbers, logged_trap}
use Rattle.exchange_meaning.specs.OfShape.{AreInts, HaveInts, IsPlaceNumber}
use Rattle.log_text.specs.Pieces.{StandsTo}
use Rattle.log_text.specs.Fronts.{IsHeadLine}
use Rattle.log_text.specs.Stages.{IsJobOf, IsReplyOf}

-- the packet has as many arguments and copies as before
pub record KeepsRoom (old new : Packet) : Type 0 where
  pub args : length new.args.items ≡ length old.args.items
  pub copies : length new.copies.items ≡ length old.copies.items

-- the head of thread t stands there
pub record ReadsHead (t : ℕ) (bytes : List ℕ) (at count end : ℕ) : Type 0 where
  pub jobs : ℕ
  pub line : List ℕ
  pub is : IsHeadLine t jobs line
  pub count_is : count ≡ min jobs (2 ^ 64 - 1)
  pub stands : StandsTo bytes at line end

-- ---- what stands behind the first word of a line

abbrev pub behind_start : ℕ → List ℤ → List ℤ → List ℕ → List ℕ
behind_start a args values rest = decimal a ++ (spaced_numbers args ++ (spaced_numbers values ++ (codes "\n" ++ rest)))

abbrev pub behind_wake : ℕ → List ℤ → List ℕ → List ℕ
behind_wake a values rest = decimal a ++ (spaced_numbers values ++ (codes "\n" ++ rest))

abbrev pub behind_copies : ℕ → List VarCopy → List ℕ → List ℕ
behind_copies u copies rest = decimal u ++ (marked_numbers copies ++ (codes "\n" ++ rest))

abbrev pub behind_trapped : ℕ → Place → Trap → List ℕ → List ℕ
behind_trapped u place trap rest =
    decimal u ++ (codes " " ++ (decimal place.line ++ (codes ":" ++ (decimal place.column ++ (codes " " ++ (logged_trap trap ++ (codes "\n" ++ rest)))))))

-- the packet is a `Start` with this allowance, these arguments and these values
pub record IsStart (p : Packet) (a : ℕ) (ns values : List ℤ) : Type 0 where
  pub kind : p.kind ≡ kind.Start
  pub allowance : p.allowance ≡ a
  pub args : p.args.items ≡ ns
  pub copies : p.copies.items ≡ unmarked_copies values

pub record ReadsStart (bytes : List ℕ) (at : ℕ) (p : Packet) (end : ℕ) : Type 0 where
  pub values : List ℤ
  pub is : IsStart p p.allowance p.args.items values
  pub small : p.allowance ≤ MAX_BUDGET
  pub args : AreInts p.args.items
  pub ints : AreInts values
  pub stands : StandsTo bytes at (behind_start p.allowance p.args.items values []) end

-- the packet is a `Wake` with this allowance and these values
pub record IsWake (p : Packet) (a : ℕ) (values : List ℤ) : Type 0 where
  pub kind : p.kind ≡ kind.Wake
  pub allowance : p.allowance ≡ a
  pub copies : p.copies.items ≡ unmarked_copies values

pub record ReadsWake (bytes : List ℕ) (at : ℕ) (p : Packet) (end : ℕ) : Type 0 where
  pub values : List ℤ
  pub is : IsWake p p.allowance values
  pub small : p.allowance ≤ MAX_BUDGET
  pub ints : AreInts values
  pub stands : StandsTo bytes at (behind_wake p.allowance values []) end

pub record ReadsRest (bytes : List ℕ) (at : ℕ) (p : Packet) (end : ℕ) : Type 0 where
  pub small : p.units < 2 ^ 64
  pub ints : HaveInts p.copies.items
  pub stands : StandsTo bytes at (behind_copies p.units p.copies.items []) end

-- the packet is the reply of a trap at this place
pub record IsTrapOf (p : Packet) (u : ℕ) (place : Place) (trap : Trap) : Type 0 where
  pub kind : p.kind ≡ kind.Trapped place trap
  pub units : p.units ≡ u

pub record ReadsTrapped (bytes : List ℕ) (at : ℕ) (p : Packet) (end : ℕ) : Type 0 where
  pub place : Place
  pub trap : Trap
  pub is : IsTrapOf p p.units place trap
  pub small : p.units < 2 ^ 64
  pub line : IsPlaceNumber place.line
  pub column : IsPlaceNumber place.column
  pub stands : StandsTo bytes at (behind_trapped p.units place trap []) end

-- the packet is a job of thread t, and its line stands there
pub record ReadsJob (s : PlainShape) (t : ℕ) (bytes : List ℕ) (at : ℕ) (p : PlainPacket) (end : ℕ) : Type 0 where
  pub job : Job
  pub fits : IsJobOf s t job
  pub is : IsJob p job
  pub stands : StandsTo bytes at (job_line job) end

-- the packet is a reply of thread t, and its line stands there
pub record ReadsReply (s : PlainShape) (t : ℕ) (bytes : List ℕ) (at : ℕ) (p : PlainPacket) (end : ℕ) : Type 0 where
  pub reply : Reply
  pub fits : IsReplyOf s t reply
  pub is : IsReply p reply
  pub stands : StandsTo bytes at (reply_line reply) end

-- The lines of a job and its reply, and room for them.
use Rattle.std.specs.Prelude.{ℕ, zero, suc, ◌+◌, ◌*◌, cond, false, max, ℤ, pos, List, [], ◌∷◌, ◌++◌, length, codes, decimal}
use Rattle.std.specs.Fmt.{signed_decimal}
use Rattle.forec_base.specs.declared.Place.{Place}
use Rattle.forec_base.specs.declared.Trap.{Trap}
use Rattle.forec_kernel.specs.declared.shape.VarCopy.{VarCopy}
use Rattle.forec_kernel.specs.Shapes.{PlainShape, PlainThread}
use Rattle.forec_kernel.specs.Solo.{values_in}
use Rattle.combine_tree.specs.declared.packet.PacketKind.{PacketKind}
use Rattle.combine_tree.specs.declared.packet.PacketKind.TheVariants as kind
use Rattle.exchange_meaning.specs.Logged.{Logged}
use Rattle.exchange_meaning.specs.LogLines.{spaced_numbers, marked_numbers, logged_trap, job_line, reply_line}

-- the lines of pair number j
abbrev pub pair_lines : ℕ → List Logged → List ℕ
pair_lines j [] = []
pair_lines zero (l ∷ ls) = job_line l.job ++ reply_line l.reply
pair_lines (suc j) (l ∷ ls) = pair_lines j ls

-- what stands for a copy that isn't there
abbrev pub unset : VarCopy
unset = record { value = pos 0; modified = false }

-- a space and a copy's value, with a star behind it where it is marked
abbrev pub marked_number : VarCopy → List ℕ
marked_number c = codes " " ++ signed_decimal c.value ++ cond c.modified (codes "*") []

-- the line of a packet that is a job, with this allowance
abbrev pub told_job : PacketKind → ℕ → List ℤ → List VarCopy → List ℕ
told_job kind.Start a args copies = codes "start " ++ decimal a ++ spaced_numbers args ++ spaced_numbers (values_in copies) ++ codes "\n"
told_job _ a args copies = codes "wake " ++ decimal a ++ spaced_numbers (values_in copies) ++ codes "\n"

-- the line of a trap
abbrev pub trapped_line : ℕ → Place → Trap → List ℕ
trapped_line u place trap =
    codes "trapped " ++ decimal u ++ codes " " ++ decimal place.line ++ codes ":" ++ decimal place.column ++ codes " " ++ logged_trap trap ++ codes "\n"

-- the line of a packet that is a reply, with these units
abbrev pub told_reply : PacketKind → ℕ → List VarCopy → List ℕ
told_reply kind.Paused u copies = codes "paused " ++ decimal u ++ marked_numbers copies ++ codes "\n"
told_reply kind.Ended u copies = codes "ended " ++ decimal u ++ marked_numbers copies ++ codes "\n"
told_reply (kind.Trapped place trap) u copies = trapped_line u place trap
told_reply _ u copies = codes "over\n"

-- a number takes 12 bytes at most, with the space before it, and 13 with a star; the rest of the two lines 128
abbrev pub thread_room : PlainThread → ℕ
thread_room t = 128 + 12 * t.params + 25 * length t.uses

abbrev pub greatest_room : List PlainThread → ℕ
greatest_room [] = 128
greatest_room (t ∷ ts) = max (thread_room t) (greatest_room ts)

abbrev pub lines_room : PlainShape → ℕ
lines_room s = greatest_room s.threads

-- The bytes of the last line of a report.
use Rattle.std.proofs.Common.{◌≡◌, ℕ, ◌+◌, ◌-◌, ◌<◌, ◌%◌, Bool, true, false, not, List, [], ◌∷◌, ◌++◌, length, codes, decimal, refl, arith, Option, Some, None}
use Rattle.std.specs.List.{AllByRecursion}
use Rattle.std.specs.Fmt.{digit_glyph}
use Rattle.std.proofs.lemmas.Bool.{agree_below_at}
use Rattle.forec_base.specs.declared.Place.{Place}
use Rattle.forec_base.specs.declared.Trap.{Trap}
use Rattle.forec_base.specs.declared.Trap.TheVariants as trap
use Rattle.forec_kernel.specs.declared.shape.Outcome.{Outcome}
use Rattle.forec_kernel.specs.declared.shape.Outcome.TheVariants as outcome
use Rattle.forec_kernel.specs.Shapes.{PlainKernel}
use Rattle.forec_kernel.specs.Ticks.{TickState, tick}
use Rattle.text_names.proofs.Bytes.{all_append, never, surely, decimal_passes}
use Rattle.trace_rows.specs.Report.{end_words, trap_word, trap_words, over_words, fault_word}
use Rattle.trace_rows.specs.Trace.{Row, TraceEnd}
use Rattle.trace_rows.specs.declared.fault.RowFault.{RowFault}
use Rattle.trace_rows.specs.declared.fault.RowFault.TheVariants as fault
use Rattle.trace_ticks.specs.OneRun.{words_after, trace_words, words_from}
use Rattle.wave_dump.specs.Wave.{is_ending_byte}

-- an ending that a dump may have: some bytes, from 32 to 126 without `$`
pub record IsLine (bytes : List ℕ) : Type 0 where
  pub some : 0 < length bytes
  pub each : AllByRecursion (λ b. is_ending_byte b ≡ true) bytes

abbrev pub AreLineBytes : List ℕ → Type 0
AreLineBytes = AllByRecursion (λ b. is_ending_byte b ≡ true)

joined : (xs ys : List ℕ) → AreLineBytes xs → AreLineBytes ys → AreLineBytes (xs ++ ys)
joined xs ys h g = all_append (λ b. is_ending_byte b ≡ true) xs ys h g

-- ---- a number in decimals

abbrev wrong_digit : ℕ → Bool
wrong_digit d = not (is_ending_byte (digit_glyph false d))

glyph_shows : (n : ℕ) → is_ending_byte (digit_glyph false (n % 10)) ≡ true
glyph_shows n =
    let small : n % 10 < 10 = omega arith in
    surely (is_ending_byte (digit_glyph false (n % 10))) (agree_below_at wrong_digit never 10 (n % 10) refl small)

decimal_shows : (n : ℕ) → AreLineBytes (decimal n)
decimal_shows n = decimal_passes is_ending_byte glyph_shows n

-- ---- the words of each last line

-- words that begin with a word
begun : (first : ℕ) (word rest : List ℕ) → AreLineBytes (first ∷ word) → AreLineBytes rest → IsLine ((first ∷ word) ++ rest)
begun first word rest h g = record { some = omega arith; each = joined (first ∷ word) rest h g }

pub end_line : (n : ℕ) → IsLine (end_words n)
end_line n = record { some = omega arith; each = joined (codes "end ") (decimal n) (refl, (refl, (refl, (refl, tt)))) (decimal_shows n) }

trap_shows : (t : Trap) → AreLineBytes (trap_word t)
trap_shows trap.Divide = (refl, (refl, (refl, (refl, (refl, (refl, (refl, tt)))))))
trap_shows trap.Index = (refl, (refl, (refl, (refl, (refl, (refl, tt))))))
trap_shows trap.Turns = (refl, (refl, (refl, (refl, (refl, (refl, tt))))))

pub trap_line : (n : ℕ) (place : Place) (t : Trap) → IsLine (trap_words n place t)
trap_line n place t =
    let tick = codes "trap " ++ decimal n in
    let blank = tick ++ codes " " in
    let line = blank ++ decimal place.line in
    let colon = line ++ codes ":" in
    let column = colon ++ decimal place.column in
    let to_blank : AreLineBytes blank = joined tick (codes " ") (joined (codes "trap ") (decimal n) (refl, (refl, (refl, (refl, (refl, tt))))) (decimal_shows n)) (refl, tt) in
    let to_colon : AreLineBytes colon = joined line (codes ":") (joined blank (decimal place.line) to_blank (decimal_shows place.line)) (refl, tt) in
    record { some = omega arith; each = joined column (trap_word t) (joined colon (decimal place.column) to_colon (decimal_shows place.column)) (trap_shows t) }

pub over_line : (n budget : ℕ) → IsLine (over_words n budget)
over_line n budget =
    let tick = codes "over " ++ decimal n in
    let word = tick ++ codes " budget " in
    let to_word : AreLineBytes word = joined tick (codes " budget ") (joined (codes "over ") (decimal n) (refl, (refl, (refl, (refl, (refl, tt))))) (decimal_shows n)) (refl, (refl, (refl, (refl, (refl, (refl, (refl, (refl, tt)))))))) in
    record { some = omega arith; each = joined word (decimal budget) to_word (decimal_shows budget) }

fault_shows : (f : RowFault) → AreLineBytes (fault_word f)
fault_shows fault.Bad = (refl, (refl, (refl, (refl, tt))))
fault_shows fault.Long = (refl, (refl, (refl, (refl, (refl, tt)))))
fault_shows fault.Many = (refl, (refl, (refl, (refl, (refl, tt)))))
fault_shows fault.ReadFault = tt
fault_shows fault.OutOfMemory = tt

pub trace_line : (cause : Option RowFault) (n : ℕ) → IsLine (trace_words cause n)
trace_line None n = record { some = omega arith; each = joined (codes "rows ") (decimal (n - 1)) (refl, (refl, (refl, (refl, (refl, tt))))) (decimal_shows (n - 1)) }
trace_line (Some f) n = record {
  some = omega arith;
  each = joined (codes "row ") _ (refl, (refl, (refl, (refl, tt)))) (joined (decimal n) (fault_word f) (decimal_shows n) (fault_shows f));
}

line_after : (o : Outcome) (budget n : ℕ) (later : List ℕ) → IsLine later → IsLine (words_after o budget n later)
line_after outcome.Paused budget n later h = h
line_after outcome.Ended budget n later h = end_line n
line_after (outcome.Trapped place t) budget n later h = trap_line n place t
line_after outcome.Over budget n later h = over_line n budget

pub line_from : (k : PlainKernel) (budget : ℕ) (s : TickState) (n : ℕ) (rows : List Row) (end : TraceEnd) → IsLine (words_from k budget s n rows end)
line_from k budget s n [] end = trace_line end.cause end.line
line_from k budget s n (row ∷ rows) end =
    let t = tick k budget s row in line_after t.outcome budget n (words_from k budget t.state (n + 1) rows end) (line_from k budget t.state (n + 1) rows end)

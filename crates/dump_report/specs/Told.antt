-- The report that a dump tells.
use Rattle.std.specs.Prelude.{ℕ, ◌+◌, ℤ, List, [], ◌∷◌, ◌++◌, length, Some, Result, Ok, Err, cond, nat_lt, codes, decimal}
use Rattle.forec_base.specs.declared.limits.TheConstants.{MAX_TEXT_BYTES}
use Rattle.trace_rows.specs.Report.{tick_line}
use Rattle.wave_dump.specs.Wave.{PlainDump}
use Rattle.wave_dump.specs.Machine.{first_stage, dump_in}
use Rattle.dump_report.specs.declared.status.DumpStatus.{DumpStatus}
use Rattle.dump_report.specs.declared.status.DumpStatus.TheVariants as status

pub record ToldReport : Type 0 where
  pub bytes : List ℕ
  pub status : DumpStatus

-- ---- a dump

-- the line of each of these ticks, of which the first is tick n: the line that a run prints
abbrev pub told_ticks : ℕ → List (List ℕ) → List (List ℤ) → List ℕ
told_ticks n names [] = []
told_ticks n names (values ∷ ticks) = tick_line n names values ++ told_ticks (n + 1) names ticks

-- the lines of all ticks, and the ending as a line
abbrev pub told_lines : PlainDump → List ℕ
told_lines d = told_ticks 1 d.names d.ticks ++ (d.ending ++ codes "\n")

abbrev pub told_report : PlainDump → ToldReport
told_report d = record { bytes = told_lines d; status = status.Done }

-- ---- a text that is none

-- the text is refused at this byte, counted from 1
abbrev pub byte_line : ℕ → List ℕ
byte_line byte = codes "refused byte " ++ (decimal byte ++ codes "\n")

-- some dump begins with so many bytes of the text, and with no more
abbrev pub refused_from : ℕ → ToldReport
refused_from front = record { bytes = byte_line (front + 1); status = status.Refused }

abbrev pub refused_long : ToldReport
refused_long = record { bytes = codes "refused long\n"; status = status.Refused }

-- ---- any text

-- the report of bytes that spell this dump, or of which so many are the longest front that some dump begins with
abbrev pub dump_told : Result PlainDump ℕ → ToldReport
dump_told (Ok d) = told_report d
dump_told (Err front) = refused_from front

-- the report of a text
unfoldable pub dump_report : List ℕ → ToldReport
dump_report text = cond (nat_lt MAX_TEXT_BYTES (length text)) refused_long (dump_told (dump_in 0 (Some first_stage) text))

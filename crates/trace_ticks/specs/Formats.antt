-- How what a run tells is written: as a report, or as a value change dump.
use Rattle.std.specs.Prelude.{◌≡◌, ◌≤◌, ℕ, List, [], ◌++◌, length, map, ℤ, Some, codes}
use Rattle.trace_rows.specs.Report.{tick_line, tick_room}
use Rattle.wave_dump.specs.Wave.{head_text, tick_text}
use Rattle.wave_dump.specs.Writing.{none_yet, tick_lines_room}
use Rattle.trace_ticks.specs.declared.format.Format.{Format}
use Rattle.trace_ticks.specs.declared.format.Format.TheVariants as format
use Rattle.trace_ticks.specs.declared.format.Telling.{Telling}
use Rattle.trace_ticks.specs.declared.format.Telling.TheVariants as telling

-- before tick 1, for outputs of these names
abbrev pub format_for : Telling → List (List ℕ) → Format
format_for telling.Report names = format.Report names
format_for telling.Wave names = format.Wave names (none_yet (length names))

-- the names of the outputs
abbrev pub names_in : Format → List (List ℕ)
names_in (format.Report names) = names
names_in (format.Wave names olds) = names

-- of how many outputs it keeps what they had before, or as many as there are
abbrev pub kept_in : Format → ℕ
kept_in (format.Report names) = length names
kept_in (format.Wave names olds) = length olds

-- a number of outputs that is limited
abbrev pub limited_in : Format → ℕ
limited_in (format.Report names) = 0
limited_in (format.Wave names olds) = length names

-- a dump has at most 64 outputs, each with what it had before
abbrev pub IsFit : Format → Type 0
IsFit how = (kept_in how ≡ length (names_in how)) × (limited_in how ≤ 64)

-- what stands before tick 1
abbrev pub opening : Format → List ℕ
opening (format.Report names) = []
opening (format.Wave names olds) = head_text names

-- the lines of tick n, where the outputs have these values
abbrev pub tick_written : Format → ℕ → List ℤ → List ℕ
tick_written (format.Report names) n values = tick_line n names values
tick_written (format.Wave names olds) n values = tick_text n olds values

-- how the next tick is written
abbrev pub format_after : Format → List ℤ → Format
format_after (format.Report names) values = format.Report names
format_after (format.Wave names olds) values = format.Wave names (map Some values)

-- room for the lines of a tick
abbrev pub room_in : Format → ℕ
room_in (format.Report names) = tick_room names
room_in (format.Wave names olds) = tick_lines_room (length names)

-- what stands before and behind the words of the last line
abbrev pub before_words : Format → List ℕ
before_words (format.Report names) = []
before_words (format.Wave names olds) = codes "$comment "

abbrev pub after_words : Format → List ℕ
after_words (format.Report names) = codes "\n"
after_words (format.Wave names olds) = codes " $end\n"

-- the last line, whose words these are
abbrev pub last_written : Format → List ℕ → List ℕ
last_written how words = before_words how ++ words ++ after_words how

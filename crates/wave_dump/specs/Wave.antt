-- The text of a value change dump.
use Rattle.std.specs.Prelude.{◌≡◌, ℕ, zero, suc, ◌+◌, ◌/◌, ◌%◌, ◌<◌, ◌≤◌, ◌^◌, Bool, true, false, List, [], ◌∷◌, ◌++◌, map, length, ℤ, Option, Some, None, codes, decimal, cond, not, nat_le, ◌==◌, ◌&&◌, FitsSigned}
use Rattle.std.specs.Int.{w32, cast_unsigned}
use Rattle.std.specs.List.{AllByRecursion}
use Rattle.std.specs.Ordering.{int_eq}

-- the names of the outputs, the values of each tick, and the last line of the report
pub record PlainDump : Type 0 where
  pub names : List (List ℕ)
  pub ticks : List (List ℤ)
  pub ending : List ℕ

-- ---- the outputs

-- what stands for output k
abbrev pub output_letter : ℕ → ℕ
output_letter k = 33 + k

-- `(` and `)` stand in the place of `[` and `]`
abbrev pub shown_byte : ℕ → ℕ
shown_byte b = cond (b == 91) 40 (cond (b == 93) 41 b)

abbrev pub shown_name : List ℕ → List ℕ
shown_name [] = []
shown_name (b ∷ name) = shown_byte b ∷ shown_name name

abbrev pub declaration : ℕ → List ℕ → List ℕ
declaration k name = codes "$var wire 32 " ++ output_letter k ∷ codes " " ++ shown_name name ++ codes " $end\n"

-- the lines of these outputs, of which the first is output k
abbrev pub declarations : ℕ → List (List ℕ) → List ℕ
declarations k [] = []
declarations k (name ∷ names) = declaration k name ++ declarations (suc k) names

abbrev pub scope_lines : List ℕ
scope_lines = codes "$timescale 1 ns $end\n$scope module forec $end\n"

abbrev pub head_text : List (List ℕ) → List ℕ
head_text names = (scope_lines ++ declarations 0 names) ++ codes "$upscope $end\n$enddefinitions $end\n"

-- ---- the ticks

-- the lowest k bits of a number, from the highest
abbrev pub low_bits : ℕ → ℕ → List ℕ
low_bits zero n = []
low_bits (suc k) n = low_bits k (n / 2) ++ (48 + n % 2) ∷ []

abbrev pub value_bits : ℤ → List ℕ
value_bits v = low_bits 32 (cast_unsigned w32 v)

-- output k has from now on the value that has these bits
abbrev pub bits_line : ℕ → List ℕ → List ℕ
bits_line k bits = codes "b" ++ bits ++ codes " " ++ output_letter k ∷ codes "\n"

-- output k has this value from now on
abbrev pub value_line : ℕ → ℤ → List ℕ
value_line k v = bits_line k (value_bits v)

-- the value is that of the tick before, if there was one
abbrev pub is_kept : Option ℤ → ℤ → Bool
is_kept None v = false
is_kept (Some u) v = int_eq u v

-- the line of output k, where its value isn't kept
abbrev pub change_line : ℕ → Option ℤ → ℤ → List ℕ
change_line k old v = cond (is_kept old v) [] (value_line k v)

-- the lines of outputs from k on, that had these values before and have those now
abbrev pub change_lines : ℕ → List (Option ℤ) → List ℤ → List ℕ
change_lines k olds [] = []
change_lines k [] (v ∷ vs) = []
change_lines k (old ∷ olds) (v ∷ vs) = change_line k old v ++ change_lines (suc k) olds vs

abbrev pub tick_text : ℕ → List (Option ℤ) → List ℤ → List ℕ
tick_text n olds vs = codes "#" ++ (decimal n ++ codes "\n") ++ change_lines 0 olds vs

-- the lines of these ticks, of which the first is tick n
abbrev pub ticks_text : ℕ → List (Option ℤ) → List (List ℤ) → List ℕ
ticks_text n olds [] = []
ticks_text n olds (vs ∷ ticks) = tick_text n olds vs ++ ticks_text (suc n) (map Some vs) ticks

-- before the first tick no output has a value
abbrev pub no_values : List (List ℕ) → List (Option ℤ)
no_values [] = []
no_values (name ∷ names) = None ∷ no_values names

-- ---- the whole

abbrev pub until_ending : List (List ℕ) → List (List ℤ) → List ℕ
until_ending names ticks = head_text names ++ ticks_text 1 (no_values names) ticks

abbrev pub wave_text : PlainDump → List ℕ
wave_text d = until_ending d.names d.ticks ++ codes "$comment " ++ d.ending ++ codes " $end\n"

-- the last line
abbrev pub tail_text : List ℕ → List ℕ
tail_text ending = codes "$comment " ++ ending ++ codes " $end\n"

-- from 33 to 126, without `$`, `(` and `)`
abbrev pub is_name_byte : ℕ → Bool
is_name_byte b = nat_le 33 b && (nat_le b 126 && (not (b == 36) && (not (b == 40) && not (b == 41))))

-- from 32 to 126, without `$`
abbrev pub is_ending_byte : ℕ → Bool
is_ending_byte b = nat_le 32 b && (nat_le b 126 && not (b == 36))

abbrev pub IsWaveName : List ℕ → Type 0
IsWaveName name = AllByRecursion (λ b. is_name_byte b ≡ true) name

-- a value of each output
pub record AreValues (n : ℕ) (vs : List ℤ) : Type 0 where
  pub count : length vs ≡ n
  pub each : AllByRecursion (FitsSigned w32) vs

pub record IsDump (d : PlainDump) : Type 0 where
  pub few : length d.names ≤ 64
  pub names : AllByRecursion IsWaveName d.names
  pub ticks : AllByRecursion (AreValues (length d.names)) d.ticks
  pub numbers : length d.ticks < 2 ^ 64
  pub some : 0 < length d.ending
  pub ending : AllByRecursion (λ b. is_ending_byte b ≡ true) d.ending

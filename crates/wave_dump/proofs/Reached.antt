-- What was read where a state is reached.
use Rattle.std.proofs.Common.{◌≡◌, ℕ, suc, ◌+◌, ◌^◌, ◌<◌, ◌≤◌, true, Option, IfSome, List, ◌∷◌, ◌++◌, length, ℤ, codes, decimal, FitsSigned, w32}
use Rattle.std.specs.List.{AllByRecursion}
use Rattle.wave_dump.specs.Wave.{IsDump, IsWaveName, AreValues, is_ending_byte, output_letter, shown_name, declarations, scope_lines, head_text, change_lines, until_ending, value_bits, wave_text}
use Rattle.wave_dump.specs.Machine.{TickSpot, DumpStage, Literal, Vars, Dollar, Name, Start, Body, Bits, Letter, Ending, Done, olds_of, can_take}
use Rattle.wave_dump.proofs.BitLemmas.{AreBits}

abbrev pub declared : List (List ℕ) → List ℕ
declared names = scope_lines ++ declarations 0 names

pub record IsNamed (p : List ℕ) (all : List ℕ) (names : List (List ℕ)) : Type 0 where
  pub text : p ≡ all
  pub few : length names ≤ 64
  pub good : AllByRecursion IsWaveName names

abbrev pub before_name : List (List ℕ) → List ℕ
before_name names = codes "$var wire 32 " ++ output_letter (length names) ∷ codes " "

pub record IsNaming (p : List ℕ) (names : List (List ℕ)) (name : List ℕ) : Type 0 where
  pub text : p ≡ declared names ++ (before_name names ++ shown_name name)
  pub few : length names < 64
  pub good : AllByRecursion IsWaveName names
  pub named : IsWaveName name

-- a value, where there is one, fits
abbrev pub OldFits : Option ℤ → Type 0
OldFits old = IfSome old (FitsSigned w32)

abbrev pub number_line : List (List ℤ) → List ℕ
number_line ticks = codes "#" ++ (decimal (suc (length ticks)) ++ codes "\n")

abbrev pub spot_text : TickSpot → List ℕ
spot_text w = until_ending w.names w.ticks ++ (number_line w.ticks ++ change_lines 0 (olds_of w.names w.ticks) w.now)

pub record IsSpot (w : TickSpot) : Type 0 where
  pub few : length w.names ≤ 64
  pub good : AllByRecursion IsWaveName w.names
  pub ticks : AllByRecursion (AreValues (length w.names)) w.ticks
  pub number : suc (length w.ticks) < 2 ^ 64
  pub now : AllByRecursion (FitsSigned w32) w.now
  pub before : List (Option ℤ)
  pub split : olds_of w.names w.ticks ≡ before ++ w.left
  pub even : length before ≡ length w.now
  pub count : length w.now + length w.left ≡ length w.names
  pub olds : AllByRecursion OldFits w.left

pub record IsBody (p : List ℕ) (w : TickSpot) : Type 0 where
  pub text : p ≡ spot_text w
  pub spot : IsSpot w

pub record IsBits (p : List ℕ) (w : TickSpot) (bs : List ℕ) : Type 0 where
  pub text : p ≡ spot_text w ++ (codes "b" ++ bs)
  pub spot : IsSpot w
  pub short : length bs < 32
  pub bits : AreBits bs
  pub some : 0 < length w.left

pub record IsWhich (p : List ℕ) (w : TickSpot) (v : ℤ) : Type 0 where
  pub text : p ≡ spot_text w ++ (codes "b" ++ (value_bits v ++ codes " "))
  pub spot : IsSpot w
  pub fits : FitsSigned w32 v
  pub can : can_take w.left v ≡ true

pub record IsEnding (p : List ℕ) (names : List (List ℕ)) (ticks : List (List ℤ)) (e : List ℕ) : Type 0 where
  pub text : p ≡ until_ending names ticks ++ (codes "$comment " ++ e)
  pub few : length names ≤ 64
  pub good : AllByRecursion IsWaveName names
  pub each : AllByRecursion (AreValues (length names)) ticks
  pub number : length ticks < 2 ^ 64
  pub bytes : AllByRecursion (λ b. is_ending_byte b ≡ true) e

abbrev pub Reached : List ℕ → DumpStage → Type 0
Reached p (Literal c w s) = Reached (p ++ c ∷ w) s
Reached p (Vars names) = IsNamed p (declared names) names
Reached p (Dollar names) = IsNamed p (declared names ++ codes "$") names
Reached p (Name names name) = IsNaming p names name
Reached p (Start names) = IsNamed p (head_text names) names
Reached p (Body w) = IsBody p w
Reached p (Bits w bs) = IsBits p w bs
Reached p (Letter w v) = IsWhich p w v
Reached p (Ending names ticks e) = IsEnding p names ticks e
Reached p (Done d) = (p ≡ wave_text d) × IsDump d

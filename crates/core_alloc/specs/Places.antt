-- Lists of places.
use Rattle.std.specs.Prelude.{ℕ, ◌≤◌, ◌<◌, ◌^◌, ◌==◌, nat_lt, Bool, false, not, ◌&&◌, cond, Option, None, Some, is_none, option_map, get_or, List, length, map, All, position}
use Rattle.std.specs.List.{slice_split, list_all}
use Rattle.std.specs.Option.{option_or}
use Rattle.std.specs.Char.{is_ascii_digit}
use Rattle.std.specs.Str.Parse.{digits_value}
use Rattle.core_alloc.specs.declared.fault.PlaceFault.{PlaceFault}
use Rattle.core_alloc.specs.declared.fault.PlaceFault.TheVariants.{Shape, Count, Core}

-- a number of cores, and the core of each thread
pub record Places : Type 0 where
  pub cores : ℕ
  pub places : List ℕ

-- there is a core, and each thread's is one
pub record IsPlaced (cores : ℕ) (places : List ℕ) : Type 0 where
  pub some : 1 ≤ cores
  pub below : All (λ core. core < cores) places
  pub few : length places < 2 ^ 32

-- each thread has the core of thread 0
abbrev pub is_on_one_core : List ℕ → Bool
is_on_one_core places = list_all (λ core. core == get_or places 0 0) places

-- a text is cut at its commas
abbrev pub pieces : List ℕ → List (List ℕ)
pieces text = slice_split (λ byte. byte == 44) text

-- one to three decimal digits
abbrev pub is_number_in : List ℕ → Bool
is_number_in piece = nat_lt 0 (length piece) && (nat_lt (length piece) 4 && list_all is_ascii_digit piece)

-- the number that they write
abbrev pub piece_number : List ℕ → Option ℕ
piece_number piece = cond (is_number_in piece) (Some (digits_value 10 piece)) None

abbrev pub piece_numbers : List ℕ → List (Option ℕ)
piece_numbers text = map piece_number (pieces text)

abbrev pub is_core : ℕ → Option ℕ → Bool
is_core cores None = false
is_core cores (Some core) = nat_lt core cores

-- why a text lists no place on so many cores for each of so many threads: first the shape of its pieces, then their count, then the cores
abbrev pub refusal : List ℕ → ℕ → ℕ → Option PlaceFault
refusal text threads cores =
    let numbers = piece_numbers text in
    option_or (option_map (λ at. Shape at) (position is_none numbers))
    (option_or (cond (length numbers == threads) None (Some (Count (length numbers))))
    (option_map (λ at. Core at) (position (λ number. not (is_core cores number)) numbers)))

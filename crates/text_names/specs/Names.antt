-- The names of variables.
use Rattle.std.specs.Prelude.{◌≡◌, ℕ, Bool, true, not, ◌&&◌, ◌||◌, ◌==◌, nat_le, List, [], ◌++◌, map, get_or, codes, decimal}
use Rattle.std.specs.List.{AllByRecursion}
use Rattle.forec_kernel.specs.Shapes.{PlainShape}
use Rattle.forec_tree.specs.Lexis.{continues_name, IsName}

-- a letter, `_`, a digit, `[` or `]`
abbrev pub is_plain_byte : ℕ → Bool
is_plain_byte b = continues_name b || (b == 91 || b == 93)

abbrev pub IsPlainName : List ℕ → Type 0
IsPlainName name = AllByRecursion (λ b. is_plain_byte b ≡ true) name

-- from 33 to 126, without `$`, `(` and `)`
abbrev pub is_safe_byte : ℕ → Bool
is_safe_byte b = nat_le 33 b && (nat_le b 126 && (not (b == 36) && (not (b == 40) && not (b == 41))))

abbrev pub IsSafeName : List ℕ → Type 0
IsSafeName name = AllByRecursion (λ b. is_safe_byte b ≡ true) name

-- a name as texts spell them, and for an element of an array its index after it, as in h[0]
pub data IsVariableName : List ℕ → Type 0 where
  whole_name : (name : List ℕ) → IsName name → IsVariableName name
  array_element : (array : List ℕ) (i : ℕ) → IsName array → IsVariableName (array ++ codes "[" ++ decimal i ++ codes "]")

-- the names of the variables of these numbers
abbrev pub names_by_number : List (List ℕ) → List ℕ → List (List ℕ)
names_by_number names = map (λ v. get_or names v [])

-- each variable has such a name, and so have the inputs and the outputs
pub record HasNames (s : PlainShape) : Type 0 where
  pub variables : AllByRecursion IsVariableName s.names
  pub inputs : AllByRecursion IsVariableName (names_by_number s.names s.inputs)
  pub outputs : AllByRecursion IsVariableName (names_by_number s.names s.outputs)

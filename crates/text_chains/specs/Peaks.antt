-- The most words of a thread, with those of the int functions that it can call.
use Rattle.std.specs.Prelude.{ℕ, Bool, ◌+◌, max, is_some, Some, None, List, [], ◌∷◌, length}
use Rattle.forec_kernel.specs.Shapes.{PlainKernel}
use Rattle.forec_kernel.specs.Texts.{words_of}
use Rattle.forec_kernel.specs.WellFormed.{count_up, greatest, thread_calls}
use Rattle.forec_tree.specs.Terms.{Text, PlainGlobal}
use Rattle.forec_tree.specs.Scopes.{stated_length}
use Rattle.text_chains.specs.Tallies.{branch_tally, tally_value}

-- with the words of each int function and all that it calls
abbrev pub called_words : (ℕ → ℕ) → PlainKernel → ℕ → ℕ
called_words value k t = words_of k t + greatest value (thread_calls k t)

abbrev pub most_words : (ℕ → ℕ) → PlainKernel → ℕ
most_words value k = greatest (called_words value k) (count_up 0 (length k.threads))

-- the same, counted on a text that starts with the function of a name, for the combine function of one variable or array
abbrev pub peak_by : (variable : ℕ) → (array : Bool) → (ℕ → ℕ) → (worth : ℕ) → Text → ℕ → ℕ
peak_by variable array value worth text first = (branch_tally 0 (tally_value variable array value worth text first)).peak

-- the same for the combine function of a global
abbrev pub peak_of : (ℕ → ℕ) → Text → ℕ → PlainGlobal → ℕ
peak_of value text first g = elim g.combine [ None ↦ 0 | Some c ↦ peak_by g.name.id (is_some (stated_length g)) value (value c.with.id) text first ]

-- the same for the combine functions of some globals; the elements of an array have one function, and the same threads name them
abbrev pub peak_over : (ℕ → ℕ) → Text → ℕ → List PlainGlobal → ℕ
peak_over value text first [] = 0
peak_over value text first (g ∷ rest) = max (peak_of value text first g) (peak_over value text first rest)

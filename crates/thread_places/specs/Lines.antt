-- The lines that list a kernel's threads, and the bound of its ticks.
use Rattle.std.specs.Prelude.{ℕ, zero, suc, Option, None, Some, List, [], ◌++◌, length, get_or, codes, decimal}
use Rattle.forec_kernel.specs.Shapes.{PlainKernel, PlainThread}
use Rattle.forec_kernel.specs.Texts.{body_of}
use Rattle.forec_kernel.specs.WellFormed.{thread_of}
use Rattle.forec_kernel.specs.Weight.{stmt_weight}
use Rattle.tick_bounds.specs.Bound.{worst_case}
use Rattle.tick_bounds.specs.Capped.{as_budget}

-- `main` has no parent
abbrev pub parent_word : Option ℕ → List ℕ
parent_word None = codes "-"
parent_word (Some thread) = decimal thread

-- a block has no name
abbrev pub name_word : Option (List ℕ) → List ℕ
name_word None = codes "{}"
name_word (Some name) = name

-- `thread T parent P name F core C weight W`
unfoldable pub thread_line : ℕ → Option ℕ → Option (List ℕ) → ℕ → ℕ → List ℕ
thread_line number parent name core weight =
    codes "thread " ++ decimal number ++ codes " parent " ++ parent_word parent ++ codes " name " ++ name_word name ++ codes " core " ++ decimal core ++ codes " weight " ++ decimal weight ++ codes "\n"

-- those of the first so many threads
abbrev pub lines_to : PlainKernel → List ℕ → ℕ → List ℕ
lines_to k places zero = []
lines_to k places (suc t) = lines_to k places t ++ thread_line t (thread_of k t).parent (thread_of k t).name (get_or places t 0) (stmt_weight (body_of k t))

-- `bound N` or `bound none`
unfoldable pub bound_line : Option ℕ → List ℕ
bound_line None = codes "bound none\n"
bound_line (Some units) = codes "bound " ++ decimal units ++ codes "\n"

abbrev pub thread_lines : PlainKernel → List ℕ → List ℕ
thread_lines k places = lines_to k places (length k.threads) ++ bound_line (as_budget (worst_case k))

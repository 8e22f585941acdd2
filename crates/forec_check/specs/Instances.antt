-- Thread instances, counted up to the greatest number of 64 bits.
use Rattle.std.specs.Prelude.{ℕ, ◌-◌, ◌^◌, min, Option, Some, None, List, length, slice_index_or}
use Rattle.forec_tree.specs.Terms.{Text}
use Rattle.forec_tree.specs.Pauses.{within}
use Rattle.forec_tree.specs.Threads.{below_step, instances}
use Rattle.forec_tree.specs.Faults.{start_name}

abbrev pub count_at : List ℕ → ℕ → ℕ
count_at table id = slice_index_or table id 0

abbrev pub capped_below : Text → (ℕ → ℕ) → ℕ → ℕ
capped_below text called id = min (below_step text called id) (2 ^ 64 - 1)

-- how many instances start in each function
unfoldable pub count_of : Text → ℕ → ℕ
count_of text = within 0 (capped_below text) (length text)

-- the number of the name `main`
abbrev pub main_number : List (List ℕ) → Text → ℕ
main_number names text = elim (start_name names text) [ None ↦ 0 | Some first ↦ first ]

-- the thread instances of a program, at most the greatest number of 64 bits
abbrev pub thread_count : Text → List (List ℕ) → ℕ
thread_count text names = min (instances text (main_number names text)) (2 ^ 64 - 1)

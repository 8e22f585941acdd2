-- How many terms functions have that are inlined, and the threads below them.
use Rattle.std.specs.Prelude.{ℕ, ◌+◌, ◌-◌, ◌^◌, ◌≡◌, min, Option, Some, None, List, [], ◌∷◌, length, slice_index_or}
use Rattle.forec_tree.specs.declared.tree.Stmt.{Stmt}
use Rattle.forec_tree.specs.Plain as plain
use Rattle.forec_tree.specs.Terms.{Text, PlainFunction}
use Rattle.forec_tree.specs.Pauses.{within, find_function}
use Rattle.text_sizes.specs.declared.extents.Extent.{Extent}
use Rattle.text_sizes.specs.TermCounts.{sequence_count, statement_count, own_all, under_all}

-- what is inlined where there is no function
abbrev pub no_extent : Extent
no_extent = record { own = 1; under = 0 }

abbrev pub extent_at : List Extent → ℕ → Extent
extent_at table id = slice_index_or table id no_extent

abbrev pub own_at : List Extent → ℕ → ℕ
own_at table id = (extent_at table id).own

abbrev pub under_at : List Extent → ℕ → ℕ
under_at table id = (extent_at table id).under

-- the terms of statements as one, up to the greatest number of 64 bits
abbrev pub IsBlockTerms : List Extent → List Stmt → ℕ → Type 0
IsBlockTerms table body n =
    n ≡ min (sequence_count (statement_count (plain.statements body)) (own_all (own_at table) (plain.statements body))) (2 ^ 64 - 1)

-- with how a count is kept
abbrev pub extent_by : (ℕ → ℕ) → (ℕ → Extent) → Option PlainFunction → Extent
extent_by kept called None = no_extent
extent_by kept called (Some f) =
    record {
      own = kept (sequence_count (statement_count f.body) (own_all (λ g. (called g).own) f.body));
      under = kept (under_all (λ g. (called g).own) (λ g. (called g).under) f.body);
    }

abbrev pub extent_step : (ℕ → ℕ) → Text → (ℕ → Extent) → ℕ → Extent
extent_step kept text called id = extent_by kept called (find_function id text)

abbrev pub exact : ℕ → ℕ
exact n = n

abbrev pub capped_size : ℕ → ℕ
capped_size n = min n (2 ^ 64 - 1)

-- each count is at most the greatest number of 64 bits
unfoldable pub extent_value : Text → ℕ → Extent
extent_value text = within no_extent (extent_step capped_size text) (length text)

-- the terms of int functions, in which nothing is inlined
abbrev pub int_function_terms : List PlainFunction → ℕ
int_function_terms [] = 0
int_function_terms (f ∷ rest) = sequence_count (statement_count f.body) (own_all (own_at []) f.body) + int_function_terms rest

-- How many words threads take, and at least how many statements nest, counted on the text.
use Rattle.std.specs.Prelude.{ℕ, zero, suc, ◌+◌, max, Option, Some, None, List, length, slice_index_or}
use Rattle.forec_tree.specs.Terms.{count_terms, Statement, Declare, Nothing, Group, Assign, Invoke, If, While, For, Pause, Par, Abort, Return, Statements, no_statements, more_statements, Perhaps, absent, present, Branches, no_branches, by_call, by_group, Text, PlainFunction}
use Rattle.forec_tree.specs.Pauses.{within, find_function}
use Rattle.text_sizes.specs.declared.span.Span.{Span}
use Rattle.text_sizes.specs.TermCounts.{slots_all, statement_count}
use Rattle.text_sizes.specs.Extents.{capped_size}

-- a sequence of so many statements
abbrev pub sequence_levels : ℕ → ℕ → ℕ
sequence_levels zero most = most
sequence_levels (suc zero) most = most
sequence_levels (suc (suc n)) most = 1 + most

-- nested statements, with those of each function that is inlined; expressions are left out
module _ (called : ℕ → ℕ) where
  abbrev mutual
    pub levels : Statement → ℕ
    levels (Nothing at) = 0
    levels (Group at body) = sequence_levels (statement_count body) (levels_all body)
    levels (Declare at locals) = 0
    levels (Assign at target op value) = 0
    levels (Invoke at name args) = sequence_levels (suc (count_terms args)) (called name.id)
    levels (If at test a b) = 1 + max (levels a) (levels_perhaps b)
    levels (While at test bound body) = 1 + levels body
    levels (For at start test step bound body) = max (levels_perhaps start) (1 + max (levels_perhaps step) (levels body))
    levels (Pause at) = 0
    levels (Par at bs) = 0
    levels (Abort at weak immediate test body) = 1 + sequence_levels (statement_count body) (levels_all body)
    levels (Return at value) = 0

    pub levels_all : Statements → ℕ
    levels_all no_statements = 0
    levels_all (more_statements a rest) = max (levels a) (levels_all rest)

    pub levels_perhaps : Perhaps → ℕ
    levels_perhaps absent = 0
    levels_perhaps (present a) = levels a

  abbrev pub block_levels : Statements → ℕ
  block_levels body = sequence_levels (statement_count body) (levels_all body)

-- the greatest measure of a thread below text, with that of a branch that calls a function with so many arguments, that of a block, and that below each function that is inlined
module _ (by_name : ℕ → ℕ → ℕ) (by_body : Statements → ℕ) (below : ℕ → ℕ) where
  abbrev mutual
    pub most : Statement → ℕ
    most (Nothing at) = 0
    most (Group at body) = most_all body
    most (Declare at locals) = 0
    most (Assign at target op value) = 0
    most (Invoke at name args) = below name.id
    most (If at test a b) = max (most a) (most_perhaps b)
    most (While at test bound body) = most body
    most (For at start test step bound body) = max (most_perhaps start) (max (most_perhaps step) (most body))
    most (Pause at) = 0
    most (Par at bs) = most_branches bs
    most (Abort at weak immediate test body) = most_all body
    most (Return at value) = 0

    pub most_all : Statements → ℕ
    most_all no_statements = 0
    most_all (more_statements a rest) = max (most a) (most_all rest)

    pub most_perhaps : Perhaps → ℕ
    most_perhaps absent = 0
    most_perhaps (present a) = most a

    pub most_branches : Branches → ℕ
    most_branches no_branches = 0
    most_branches (by_call name args rest) = max (max (by_name name.id (count_terms args)) (below name.id)) (most_branches rest)
    most_branches (by_group at body rest) = max (max (by_body body) (most_all body)) (most_branches rest)

-- the words of the widest thread, and the nested statements in the deepest
module _ (own : ℕ → ℕ) where
  abbrev pub words_by : ℕ → ℕ → ℕ
  words_by id args = args + own id

  abbrev pub levels_by : ℕ → ℕ → ℕ
  levels_by id args = own id

-- what is inlined where there is no function
abbrev pub no_span : Span
no_span = record { slots = 0; widest = 0; levels = 0; deepest = 0 }

abbrev pub span_at : List Span → ℕ → Span
span_at table id = slice_index_or table id no_span

abbrev pub slots_at : List Span → ℕ → ℕ
slots_at table id = (span_at table id).slots

abbrev pub widest_at : List Span → ℕ → ℕ
widest_at table id = (span_at table id).widest

abbrev pub levels_at : List Span → ℕ → ℕ
levels_at table id = (span_at table id).levels

abbrev pub deepest_at : List Span → ℕ → ℕ
deepest_at table id = (span_at table id).deepest

-- with how a number is kept
abbrev pub span_by : (ℕ → ℕ) → (ℕ → Span) → Option PlainFunction → Span
span_by kept called None = no_span
span_by kept called (Some f) =
    record {
      slots = kept (slots_all (λ g. (called g).slots) f.body);
      widest = kept (most_all (words_by (λ g. (called g).slots)) (slots_all (λ g. (called g).slots)) (λ g. (called g).widest) f.body);
      levels = kept (block_levels (λ g. (called g).levels) f.body);
      deepest = kept (most_all (levels_by (λ g. (called g).levels)) (block_levels (λ g. (called g).levels)) (λ g. (called g).deepest) f.body);
    }

abbrev pub span_step : (ℕ → ℕ) → Text → (ℕ → Span) → ℕ → Span
span_step kept text called id = span_by kept called (find_function id text)

-- each number is at most the greatest of 64 bits
unfoldable pub span_value : Text → ℕ → Span
span_value text = within no_span (span_step capped_size text) (length text)

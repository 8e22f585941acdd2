-- What bodies call, by tables of what threads use and what variables are combined by, and sums along chains of calls.
use Rattle.std.specs.Prelude.{ℕ, ℤ, suc, ◌+◌, ◌-◌, ◌^◌, min, Bool, false, cond, nat_lt, Option, Some, None, List, [], ◌∷◌, ◌++◌, length, slice_get, slice_index_or}
use Rattle.std.specs.declared.vec.Vec.{Vec}
use Rattle.std.specs.declared.alloc.Global.{Global}
use Rattle.forec_tree.specs.Pauses.{within}
use Rattle.forec_kernel.specs.declared.shape.Variable.{Variable}
use Rattle.forec_kernel.specs.WellFormed.{greatest}
use Rattle.kernel_drafts.specs.Marks.{is_marked}

abbrev pub list_items : Vec ℕ Global → List ℕ
list_items v = v.items

abbrev pub table_items : Vec ℤ Global → List ℤ
table_items v = v.items

-- whether a row of a table has a mark at a variable
abbrev pub marked_in : Option (Vec Bool Global) → ℕ → Bool
marked_in None v = false
marked_in (Some row) v = is_marked row.items v

abbrev pub has : List (Vec Bool Global) → ℕ → ℕ → Bool
has rows t v = marked_in (slice_get rows t) v

abbrev pub combine_in : Option Variable → Option ℕ
combine_in None = None
combine_in (Some v) = v.combine

abbrev pub combine_at : List Variable → ℕ → Option ℕ
combine_at variables v = combine_in (slice_get variables v)

-- with whether each thread has a copy of each variable, and the combine function of each variable
module _ (has_copy : ℕ → ℕ → Bool) where
  abbrev pub users_by : List ℕ → ℕ → ℕ
  users_by [] v = 0
  users_by (t ∷ ts) v = cond (has_copy t v) (suc (users_by ts v)) (users_by ts v)

  module _ (combine : ℕ → Option ℕ) where
    abbrev pub combine_by : List ℕ → List ℕ → List ℕ
    combine_by threads [] = []
    combine_by threads (v ∷ vs) =
        elim (combine v) [ None ↦ combine_by threads vs | Some f ↦ cond (nat_lt 1 (users_by threads v)) (f ∷ combine_by threads vs) (combine_by threads vs) ]

    abbrev pub pars_by : List ℕ → List (List ℕ) → List ℕ
    pars_by uses [] = []
    pars_by uses (threads ∷ rest) = combine_by threads uses ++ pars_by uses rest

-- ---- chains

abbrev pub value_at : List ℕ → ℕ → ℕ
value_at table f = slice_index_or table f 0

abbrev pub chain_step : List ℕ → (ℕ → List ℕ) → (ℕ → ℕ) → ℕ → ℕ
chain_step own calls known f = min (value_at own f + greatest known (calls f)) (2 ^ 64 - 1)

-- the greatest sum along a chain of calls, at most the greatest number of 64 bits
unfoldable pub chain_value : List ℕ → (ℕ → List ℕ) → ℕ → ℕ
chain_value own calls = within 0 (chain_step own calls) (length own)

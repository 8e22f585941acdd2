-- Combining the copies of one variable, one copy after the other.
use Rattle.std.specs.Prelude.{ℕ, ℤ, pos, Bool, true, false, cond, ◌||◌, Option, Some, None, is_some, option_map, unwrap_or, List, get_or}
use Rattle.forec_base.specs.declared.Policy.{Policy}
use Rattle.forec_kernel.specs.declared.shape.VarCopy.{VarCopy}
use Rattle.forec_kernel.specs.Combining.{takes_part}
use Rattle.combine_tree.specs.declared.joining.Fold.{Fold}

-- nothing was offered after the parent's copy
abbrev pub begun : VarCopy → Fold
begun copy = record { base = copy; marked = false; total = None; waits = false }

abbrev pub blank_fold : Fold
blank_fold = begun (record { value = pos 0; modified = false })

abbrev pub fold_at : List Fold → ℕ → Fold
fold_at folds at = get_or folds at blank_fold

-- the values that a copy asks to combine: those so far and its own
abbrev pub pair_of : Policy → VarCopy → Fold → Option (ℤ × ℤ)
pair_of policy copy fold = cond (takes_part policy fold.base.value copy) (option_map (λ total. (total, copy.value)) fold.total) None

-- a value that takes part: the first one is the fold, and another waits for the number of both
abbrev pub with_value : ℤ → Fold → Option ℤ → Fold
with_value value fold None = record fold { total = Some value }
with_value value fold (Some total) = record fold { waits = true }

abbrev pub with_mark : Bool → Fold → Fold
with_mark modified fold = record fold { marked = fold.marked || modified }

abbrev pub offered_copy : Policy → VarCopy → Fold → Fold
offered_copy policy copy fold =
    cond (takes_part policy fold.base.value copy) (with_value copy.value (with_mark copy.modified fold) fold.total) (with_mark copy.modified fold)

abbrev pub fold_value : ℤ → Fold → Fold
fold_value value fold = record fold { total = Some value; waits = false }

-- a value took part, or a copy was marked
abbrev pub is_touched : Fold → Bool
is_touched fold = fold.marked || is_some fold.total

-- the parent's copy afterwards: the base where no value took part
abbrev pub result_of : Fold → VarCopy
result_of fold = record { value = unwrap_or fold.total fold.base.value; modified = fold.base.modified || fold.marked }

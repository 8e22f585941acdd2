-- Combining branch by branch, with one fold in progress for each variable.
use Rattle.std.specs.Prelude.{ℕ, ◌+◌, ℤ, Bool, cond, ◌&&◌, ◌||◌, Option, Some, None, List, [], ◌∷◌, unwrap_or}
use Rattle.forec_base.specs.declared.Place.{Place}
use Rattle.forec_base.specs.declared.Trap.{Trap}
use Rattle.forec_kernel.specs.declared.shape.VarCopy.{VarCopy}
use Rattle.forec_kernel.specs.Shapes.{PlainKernel}
use Rattle.forec_kernel.specs.Values.{Value, Gives, Raises, copy_of}
use Rattle.forec_kernel.specs.Texts.{Threads, no_threads, child, is_active, uses_of}
use Rattle.forec_kernel.specs.Combining.{contains, takes_part, variable_of, combine_of, shares, some_marked}
use Rattle.std.specs.declared.vec.Vec.{Vec}
use Rattle.std.specs.declared.alloc.Global.{Global}
use Rattle.running_texts.specs.declared.folds.Fold.{Fold}
use Rattle.running_texts.specs.Metered.{ResultKind}

-- what adding one branch to a fold comes to: the fold's value, none where no branch has taken part
pub data Added : Type 0 where
  Comes : (total : Option ℤ) → (units : ℕ) → Added
  Stays : (place : Place) → (trap : Trap) → (units : ℕ) → Added

-- the same of all folds
pub data Folds : Type 0 where
  Come : (folds : List Fold) → (units : ℕ) → Folds
  Stop : (place : Place) → (trap : Trap) → (units : ℕ) → Folds

abbrev pub as_added : Value → Added
as_added (Gives n u) = Comes (Some n) u
as_added (Raises place trap u) = Stays place trap u

abbrev pub added : Option (ℤ → ℤ → Value) → Option ℤ → ℤ → Added
added f None x = Comes (Some x) 0
added None (Some total) x = Comes (Some total) 0
added (Some f) (Some total) x = as_added (f total x)

-- a branch's copy of the fold's variable takes part
abbrev pub takes : PlainKernel → List ℕ → List VarCopy → Fold → Bool
takes k uses copies e = contains e.variable uses && takes_part (variable_of k e.variable).policy e.base (copy_of uses copies e.variable)

abbrev pub branch_added : PlainKernel → List ℕ → List VarCopy → Fold → Added
branch_added k uses copies e =
    cond (takes k uses copies e)
    (added (combine_of k (variable_of k e.variable).combine) e.total (copy_of uses copies e.variable).value)
    (Comes e.total 0)

abbrev pub one_more_fold : Fold → ℕ → Folds → Folds
one_more_fold e u (Come es w) = Come (e ∷ es) (u + w)
one_more_fold e u (Stop place trap w) = Stop place trap (u + w)

abbrev pub fold_then : Fold → Added → Folds → Folds
fold_then e (Comes total u) rest = one_more_fold (record e { total = total }) u rest
fold_then e (Stays place trap u) rest = Stop place trap u

-- one branch, in the order of the variables
abbrev pub branch_folds : PlainKernel → List ℕ → List VarCopy → List Fold → Folds
branch_folds k uses copies [] = Come [] 0
branch_folds k uses copies (e ∷ es) = fold_then e (branch_added k uses copies e) (branch_folds k uses copies es)

abbrev pub more_folds : ℕ → Folds → Folds
more_folds u (Come es w) = Come es (u + w)
more_folds u (Stop place trap w) = Stop place trap (u + w)

abbrev pub folds_then : Folds → (List Fold → Folds) → Folds
folds_then (Come es u) go = more_folds u (go es)
folds_then (Stop place trap u) go = Stop place trap u

-- branch by branch
abbrev pub all_folds : PlainKernel → Threads → List Fold → Folds
all_folds k no_threads es = Come es 0
all_folds k (child t R w c st rest) es =
    cond (is_active st) (folds_then (branch_folds k (uses_of k t) c es) (all_folds k rest)) (all_folds k rest es)

-- the folds of a parent before the first branch
abbrev pub first_folds : List ℕ → List VarCopy → List Fold
first_folds [] copies = []
first_folds (v ∷ uses) [] = []
first_folds (v ∷ uses) (c ∷ copies) = record { variable = v; base = c.value; total = None } ∷ first_folds uses copies

-- the parent's copy of a variable after the last branch
abbrev pub folded_copy : PlainKernel → Threads → ℕ → VarCopy → Fold → VarCopy
folded_copy k cs v c e = record { value = unwrap_or e.total c.value; modified = c.modified || some_marked (shares k v 0 cs) }

-- the parent's copies after the last branch
abbrev pub folded_copies : PlainKernel → Threads → List ℕ → List VarCopy → List Fold → List VarCopy
folded_copies k cs [] copies es = copies
folded_copies k cs (v ∷ uses) [] es = []
folded_copies k cs (v ∷ uses) (c ∷ copies) [] = c ∷ copies
folded_copies k cs (v ∷ uses) (c ∷ copies) (e ∷ es) =
    folded_copy k cs v c e ∷ folded_copies k cs uses copies es

-- ---- under an allowance

abbrev pub added_units : Added → ℕ
added_units (Comes total u) = u
added_units (Stays place trap u) = u

abbrev pub adding : ResultKind (Option ℤ) Added
adding = record { gives = Comes; stops = Stays; units = added_units }

abbrev pub folds_units : Folds → ℕ
folds_units (Come es u) = u
folds_units (Stop place trap u) = u

abbrev pub folding : ResultKind (Vec Fold Global) Folds
folding = record { gives = λ v u. Come v.items u; stops = Stop; units = folds_units }

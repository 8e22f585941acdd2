-- All copies of one variable, offered one after the other.
use Rattle.std.specs.Prelude.{ℕ, ℤ, ◌≡◌, Bool, true, false, ◌||◌, Option, Some, None, List, [], ◌∷◌, map}
use Rattle.forec_base.specs.declared.Policy.{Policy}
use Rattle.forec_kernel.specs.declared.shape.VarCopy.{VarCopy}
use Rattle.forec_kernel.specs.Values.{Value, Gives, Raises}
use Rattle.forec_kernel.specs.Combining.{Share, Joint, taking_part, some_marked, variable_calls, combined_value}
use Rattle.combine_tree.specs.declared.joining.Fold.{Fold}
use Rattle.combine_tree.specs.Joins.{begun, offered_copy, pair_of, fold_value, result_of}

-- two values that were given to be combined, and the branch whose value is the second
pub record ValuePair : Type 0 where
  pub from : ℕ
  pub left : ℤ
  pub right : ℤ

-- what has come of the offers: the variable, and the pairs that were given, in order
pub record Offers : Type 0 where
  pub fold : Fold
  pub pairs : List ValuePair

abbrev pub with_pair : ValuePair → Offers → Offers
with_pair pair o = record { fold = o.fold; pairs = pair ∷ o.pairs }

-- goes on with the combine function's number folded in; a trap is the end
abbrev pub after_combining : Fold → Value → (Fold → Offers) → Offers
after_combining fold (Gives n u) go = go (fold_value n fold)
after_combining fold (Raises place trap u) go = record { fold = fold; pairs = [] }

-- goes on after an offer: at once, or with a pair
abbrev pub after_offered : (ℤ → ℤ → Value) → ℕ → Fold → Option (ℤ × ℤ) → (Fold → Offers) → Offers
after_offered f from fold None go = go fold
after_offered f from fold (Some (x, y)) go = with_pair (record { from = from; left = x; right = y }) (after_combining fold (f x y) go)

-- offers of these copies, in order
abbrev pub offers : (ℤ → ℤ → Value) → Policy → Fold → List Share → Offers
offers f policy fold [] = record { fold = fold; pairs = [] }
offers f policy fold (s ∷ ss) =
    after_offered f s.from (offered_copy policy s.copy fold) (pair_of policy s.copy fold) (λ next. offers f policy next ss)

-- the arguments of the calls of a left fold, in order; a trap ends it
abbrev pub fold_arguments : (ℤ → ℤ → Value) → ℤ → List Share → List ValuePair
fold_arguments f total [] = []
fold_arguments f total (s ∷ ss) =
    record { from = s.from; left = total; right = s.copy.value } ∷
    elim (f total s.copy.value) [ Gives n u ↦ fold_arguments f n ss | Raises place trap u ↦ [] ]

-- the arguments of the calls for a variable, of the values that take part
abbrev pub variable_arguments : (ℤ → ℤ → Value) → List Share → List ValuePair
variable_arguments f [] = []
variable_arguments f (s ∷ ss) = fold_arguments f s.copy.value ss

abbrev pub call_of : (ℤ → ℤ → Value) → ValuePair → Joint
call_of f pair = record { from = pair.from; gives = f pair.left pair.right }

abbrev pub raises : Value → Bool
raises (Gives n u) = false
raises (Raises place trap u) = true

abbrev pub some_stops : List Joint → Bool
some_stops [] = false
some_stops (j ∷ js) = raises j.gives || some_stops js

-- Offering is combining as it is defined, by a filter and a fold: the pairs are the arguments of the fold's calls, each with the number that the
-- call gives; the value is the fold's; and where no call traps the mark is that of the parent's copy or of any branch's.
pub record IsCombining (f : ℤ → ℤ → Value) (policy : Policy) (base : VarCopy) (ss : List Share) : Type 0 where
  pub pairs : (offers f policy (begun base) ss).pairs ≡ variable_arguments f (taking_part policy base.value ss)
  pub calls : map (call_of f) (offers f policy (begun base) ss).pairs ≡ variable_calls (Some f) (taking_part policy base.value ss)
  pub value : (result_of (offers f policy (begun base) ss).fold).value ≡ combined_value (Some f) base.value (taking_part policy base.value ss)
  pub mark : some_stops (variable_calls (Some f) (taking_part policy base.value ss)) ≡ false →
      (result_of (offers f policy (begun base) ss).fold).modified ≡ (base.modified || some_marked ss)

abbrev pub OfferingIsCombining : Type 0
OfferingIsCombining = (f : ℤ → ℤ → Value) (policy : Policy) (base : VarCopy) (ss : List Share) → IsCombining f policy base ss

-- what is folded in for a variable without a combine function
abbrev pub first_stays : ℤ → ℤ → Value
first_stays x y = Gives x 0

-- without a combine function the first value that takes part stays, and nothing traps
pub record FirstValueStays (base : ℤ) (ss : List Share) : Type 0 where
  pub value : combined_value None base ss ≡ combined_value (Some first_stays) base ss
  pub goes_on : some_stops (variable_calls (Some first_stays) ss) ≡ false

abbrev pub FirstStays : Type 0
FirstStays = (base : ℤ) (ss : List Share) → FirstValueStays base ss

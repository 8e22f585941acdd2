-- Offering copies one after the other is combining them.
use Rattle.std.proofs.Common.{◌≡◌, ℕ, ℤ, Bool, true, false, ◌||◌, Some, None, List, [], ◌∷◌, map, refl, ap, sym}
use Rattle.std.proofs.Math.Bool.{or_assoc, or-false}
use Rattle.forec_base.specs.declared.Place.{Place}
use Rattle.forec_base.specs.declared.Policy.{Policy}
use Rattle.forec_base.specs.declared.Trap.{Trap}
use Rattle.forec_kernel.specs.declared.shape.VarCopy.{VarCopy}
use Rattle.forec_kernel.specs.Values.{Value, Gives, Raises}
use Rattle.forec_kernel.specs.Combining.{Share, takes_part, taking_part, some_marked, fold_calls, last_value, variable_calls, combined_value}
use Rattle.combine_tree.specs.declared.joining.Fold.{Fold}
use Rattle.combine_tree.specs.Joins.{result_of}
use Rattle.combine_tree.specs.Offers.{offers, fold_arguments, variable_arguments, call_of, raises, some_stops, OfferingIsCombining, first_stays, FirstStays}

abbrev pub with_total : VarCopy → Bool → ℤ → Fold
with_total base marked n = record { base = base; marked = marked; total = Some n; waits = false }

-- from a total on, the offers are a left fold of the values that take part
pub record IsFold (f : ℤ → ℤ → Value) (policy : Policy) (base : VarCopy) (marked : Bool) (n : ℤ) (ss : List Share) : Type 0 where
  pub pairs : (offers f policy (with_total base marked n) ss).pairs ≡ fold_arguments f n (taking_part policy base.value ss)
  pub calls : map (call_of f) (offers f policy (with_total base marked n) ss).pairs ≡ fold_calls f n (taking_part policy base.value ss)
  pub value : (result_of (offers f policy (with_total base marked n) ss).fold).value ≡ last_value n (fold_calls f n (taking_part policy base.value ss))
  pub mark : some_stops (fold_calls f n (taking_part policy base.value ss)) ≡ false →
      (result_of (offers f policy (with_total base marked n) ss).fold).modified ≡ (base.modified || (marked || some_marked ss))

-- the next copy takes no part
passed : (f : ℤ → ℤ → Value) (policy : Policy) (base : VarCopy) (marked : Bool) (n : ℤ) (s : Share) (ss : List Share) →
    takes_part policy base.value s.copy ≡ false → IsFold f policy base (marked || s.copy.modified) n ss → IsFold f policy base marked n (s ∷ ss)
passed f policy base marked n s ss e rest = record {
  pairs = rw e rest.pairs;
  calls = rw e rest.calls;
  value = rw e rest.value;
  mark = rw (e, ← or_assoc marked s.copy.modified (some_marked ss)) rest.mark;
}

-- the next copy takes part, and the call gives a number
called : (f : ℤ → ℤ → Value) (policy : Policy) (base : VarCopy) (marked : Bool) (n : ℤ) (s : Share) (ss : List Share) (m : ℤ) (u : ℕ) →
    takes_part policy base.value s.copy ≡ true → f n s.copy.value ≡ Gives m u → IsFold f policy base (marked || s.copy.modified) m ss →
    IsFold f policy base marked n (s ∷ ss)
called f policy base marked n s ss m u e gives rest = record {
  pairs = rw (e, gives) (ap (λ ps. record { from = s.from; left = n; right = s.copy.value } ∷ ps) rest.pairs);
  calls = rw (e, gives) (ap (λ js. record { from = s.from; gives = Gives m u } ∷ js) rest.calls);
  value = rw (e, gives) rest.value;
  mark = rw (e, gives, ← or_assoc marked s.copy.modified (some_marked ss)) rest.mark;
}

-- the next copy takes part, and the call traps
stopped : (f : ℤ → ℤ → Value) (policy : Policy) (base : VarCopy) (marked : Bool) (n : ℤ) (s : Share) (ss : List Share) (place : Place) (trap : Trap) (u : ℕ) →
    takes_part policy base.value s.copy ≡ true → f n s.copy.value ≡ Raises place trap u → IsFold f policy base marked n (s ∷ ss)
stopped f policy base marked n s ss place trap u e stops = record {
  pairs = rw (e, stops) refl;
  calls = rw (e, stops) refl;
  value = rw (e, stops) refl;
  mark = rw (e, stops) (λ none. cc);
}

pub is_fold : (f : ℤ → ℤ → Value) (policy : Policy) (base : VarCopy) (marked : Bool) (n : ℤ) (ss : List Share) → IsFold f policy base marked n ss
is_fold f policy base marked n [] = record {
  pairs = refl;
  calls = refl;
  value = refl;
  mark = λ _. ap (λ m. base.modified || m) (sym (or-false marked));
}
is_fold f policy base marked n (s ∷ ss) =
    step (takes_part policy base.value s.copy) refl (f n s.copy.value) refl (λ m. is_fold f policy base (marked || s.copy.modified) m ss)
  where
    step : (b : Bool) → takes_part policy base.value s.copy ≡ b → (v : Value) → f n s.copy.value ≡ v →
        ((m : ℤ) → IsFold f policy base (marked || s.copy.modified) m ss) → IsFold f policy base marked n (s ∷ ss)
    step false e v w rest = passed f policy base marked n s ss e (rest n)
    step true e (Gives m u) w rest = called f policy base marked n s ss m u e w (rest m)
    step true e (Raises place trap u) w rest = stopped f policy base marked n s ss place trap u e w

-- ---- before a value has taken part

abbrev pub with_none : VarCopy → Bool → Fold
with_none base marked = record { base = base; marked = marked; total = None; waits = false }

pub record IsJoin (f : ℤ → ℤ → Value) (policy : Policy) (base : VarCopy) (marked : Bool) (ss : List Share) : Type 0 where
  pub pairs : (offers f policy (with_none base marked) ss).pairs ≡ variable_arguments f (taking_part policy base.value ss)
  pub calls : map (call_of f) (offers f policy (with_none base marked) ss).pairs ≡ variable_calls (Some f) (taking_part policy base.value ss)
  pub value : (result_of (offers f policy (with_none base marked) ss).fold).value ≡ combined_value (Some f) base.value (taking_part policy base.value ss)
  pub mark : some_stops (variable_calls (Some f) (taking_part policy base.value ss)) ≡ false →
      (result_of (offers f policy (with_none base marked) ss).fold).modified ≡ (base.modified || (marked || some_marked ss))

passed_first : (f : ℤ → ℤ → Value) (policy : Policy) (base : VarCopy) (marked : Bool) (s : Share) (ss : List Share) →
    takes_part policy base.value s.copy ≡ false → IsJoin f policy base (marked || s.copy.modified) ss → IsJoin f policy base marked (s ∷ ss)
passed_first f policy base marked s ss e rest = record {
  pairs = rw e rest.pairs;
  calls = rw e rest.calls;
  value = rw e rest.value;
  mark = rw (e, ← or_assoc marked s.copy.modified (some_marked ss)) rest.mark;
}

-- the first value that takes part is the total
taken_first : (f : ℤ → ℤ → Value) (policy : Policy) (base : VarCopy) (marked : Bool) (s : Share) (ss : List Share) →
    takes_part policy base.value s.copy ≡ true → IsFold f policy base (marked || s.copy.modified) s.copy.value ss → IsJoin f policy base marked (s ∷ ss)
taken_first f policy base marked s ss e rest = record {
  pairs = rw e rest.pairs;
  calls = rw e rest.calls;
  value = rw e rest.value;
  mark = rw (e, ← or_assoc marked s.copy.modified (some_marked ss)) rest.mark;
}

is_join : (f : ℤ → ℤ → Value) (policy : Policy) (base : VarCopy) (marked : Bool) (ss : List Share) → IsJoin f policy base marked ss
is_join f policy base marked [] = record {
  pairs = refl;
  calls = refl;
  value = refl;
  mark = λ _. ap (λ m. base.modified || m) (sym (or-false marked));
}
is_join f policy base marked (s ∷ ss) = step (takes_part policy base.value s.copy) refl (is_join f policy base (marked || s.copy.modified) ss)
  where
    step : (b : Bool) → takes_part policy base.value s.copy ≡ b → IsJoin f policy base (marked || s.copy.modified) ss → IsJoin f policy base marked (s ∷ ss)
    step false e rest = passed_first f policy base marked s ss e rest
    step true e rest = taken_first f policy base marked s ss e (is_fold f policy base (marked || s.copy.modified) s.copy.value ss)

pub is_combining : OfferingIsCombining
is_combining f policy base ss =
    let j = is_join f policy base false ss in
    record { pairs = j.pairs; calls = j.calls; value = j.value; mark = j.mark }

-- ---- without a combine function

stays : (total : ℤ) (ss : List Share) → last_value total (fold_calls first_stays total ss) ≡ total
stays total [] = refl
stays total (s ∷ ss) = stays total ss

never_stops : (total : ℤ) (ss : List Share) → some_stops (fold_calls first_stays total ss) ≡ false
never_stops total [] = refl
never_stops total (s ∷ ss) = never_stops total ss

pub first_value_stays : FirstStays
first_value_stays base [] = record { value = refl; goes_on = refl }
first_value_stays base (s ∷ ss) = record { value = sym (stays s.copy.value ss); goes_on = never_stops s.copy.value ss }

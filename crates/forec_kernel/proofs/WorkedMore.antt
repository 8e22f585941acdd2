-- More worked programs, computed by the definitions: the order of combining, traps, units by the budget, branches that an abort leaves, nested aborts.
use Rattle.std.proofs.Common.{ℕ, ◌≡◌, ℤ, pos, true, false, Some, None, List, [], ◌∷◌, map, refl}
use Rattle.std.specs.Int.{int_wrap}
use Rattle.forec_base.specs.declared.Place.{Place}
use Rattle.forec_base.specs.declared.Trap.TheVariants as trap
use Rattle.forec_base.specs.declared.Policy.TheVariants as policy
use Rattle.forec_base.specs.declared.operators.Binary.TheVariants as binary
use Rattle.forec_kernel.specs.declared.shape.Outcome.{Outcome}
use Rattle.forec_kernel.specs.declared.shape.Outcome.TheVariants as outcome
use Rattle.forec_kernel.specs.declared.terms.Spot.TheVariants as spot
use Rattle.forec_kernel.specs.Terms.{Num, Local, Var, Bin, no_exprs, Stmt, Stmts, Set, Seq, While, Pause, Par, Enter, Return, no_stmts, more_stmts}
use Rattle.forec_kernel.specs.Shapes.{PlainKernel}
use Rattle.forec_kernel.specs.Ticks.{Tick, run_of}
use Rattle.forec_kernel.proofs.Worked.{at, two, three, plus_number, plain_variable, root, branch_thread}

abbrev outputs : List Tick → List (List ℤ)
outputs = map (λ t. t.outputs)

abbrev outcomes : List Tick → List Outcome
outcomes = map (λ t. t.outcome)

abbrev list : List Stmt → Stmts
list [] = no_stmts
list (s ∷ rest) = more_stmts s (list rest)

abbrev set : ℕ → ℤ → Stmt
set v n = Set (spot.Variable v) (Num n)

abbrev place : ℕ → Place
place line = record { line = line; column = 22 }

-- ---- the order of combining: 10, 3 and 2 by subtraction

abbrev subtracted : PlainKernel
subtracted =
    record {
      shape = record {
        threads = root (0 ∷ []) ∷ branch_thread (0 ∷ []) ∷ branch_thread (0 ∷ []) ∷ branch_thread (0 ∷ []) ∷ [];
        variables = record { policy = policy.All; combine = Some 0; start = pos 0; input = false } ∷ [];
        functions = record { params = 2; words = 2 } ∷ [];
        tables = [];
        inputs = [];
        outputs = 0 ∷ [];
        names = [] ∷ [];
      };
      threads =
          Par (record { thread = 1; args = no_exprs } ∷ record { thread = 2; args = no_exprs } ∷ record { thread = 3; args = no_exprs } ∷ [])
          ∷ set 0 (pos 10) ∷ set 0 (pos 3) ∷ set 0 (pos 2) ∷ [];
      functions = Return (Bin binary.Sub (Local 0) (Local 1) None) ∷ [];
    }

from_the_left : outputs (run_of subtracted 10000000 ([] ∷ [])) ≡ (pos 5 ∷ []) ∷ []
unfolding int_wrap
from_the_left = refl

-- ---- two branches trap: the leftmost one's trap is told

abbrev dividing : PlainKernel
dividing =
    record {
      shape = record {
        threads = root (0 ∷ []) ∷ branch_thread (0 ∷ []) ∷ branch_thread (0 ∷ []) ∷ [];
        variables = record { policy = policy.Mod; combine = Some 0; start = pos 0; input = false } ∷ [];
        functions = record { params = 2; words = 2 } ∷ [];
        tables = [];
        inputs = [];
        outputs = 0 ∷ [];
        names = [] ∷ [];
      };
      threads =
          Par (record { thread = 1; args = no_exprs } ∷ record { thread = 2; args = no_exprs } ∷ [])
          ∷ Set (spot.Variable 0) (Bin binary.Div (Num (pos 1)) (Var 0) (Some (place 3)))
          ∷ Set (spot.Variable 0) (Bin binary.Div (Num (pos 2)) (Var 0) (Some (place 4))) ∷ [];
      functions = Return (Bin binary.Add (Local 0) (Local 1) None) ∷ [];
    }

leftmost_trap : outcomes (run_of dividing 10000000 ([] ∷ [])) ≡ outcome.Trapped (place 3) trap.Divide ∷ []
leftmost_trap = refl

-- ---- units: o = 1; pause; o = o + 1; o = o + 1; pause; has 3 in its first tick and 9 in its second

abbrev two_ticks : PlainKernel
two_ticks =
    record {
      shape = record {
        threads = root (0 ∷ []) ∷ [];
        variables = plain_variable false (pos 0) ∷ [];
        functions = [];
        tables = [];
        inputs = [];
        outputs = 0 ∷ [];
        names = [] ∷ [];
      };
      threads = Seq (list (set 0 (pos 1) ∷ Pause ∷ plus_number 0 (pos 1) ∷ plus_number 0 (pos 1) ∷ Pause ∷ [])) ∷ [];
      functions = [];
    }

nine_is_over_eight : outcomes (run_of two_ticks 8 ([] ∷ [] ∷ [])) ≡ outcome.Paused ∷ outcome.Over ∷ []
unfolding int_wrap
nine_is_over_eight = refl

nine_is_enough : outcomes (run_of two_ticks 9 ([] ∷ [] ∷ [])) ≡ outcome.Paused ∷ outcome.Paused ∷ []
unfolding int_wrap
nine_is_enough = refl

three_are_needed : outcomes (run_of two_ticks 2 ([] ∷ [] ∷ [])) ≡ outcome.Over ∷ []
three_are_needed = refl

-- ---- a loop with bound 5 whose test holds ten times

abbrev bounded : ℕ → PlainKernel
bounded n =
    record {
      shape = record {
        threads = record { parent = None; par = None; name = None; params = 0; words = 1; uses = 0 ∷ [] } ∷ [];
        variables = plain_variable false (pos 0) ∷ [];
        functions = [];
        tables = [];
        inputs = [];
        outputs = 0 ∷ [];
        names = [] ∷ [];
      };
      threads = two
          (While (Bin binary.Lt (Local 0) (Num (pos 10)) None) (Some n) (Set (spot.Local 0) (Bin binary.Add (Local 0) (Num (pos 1)) None)) (place 1))
          (Set (spot.Variable 0) (Local 0)) ∷ [];
      functions = [];
    }

five_turns_trap : outcomes (run_of (bounded 5) 10000000 ([] ∷ [])) ≡ outcome.Trapped (place 1) trap.Turns ∷ []
unfolding int_wrap
five_turns_trap = refl

ten_turns_do : outputs (run_of (bounded 10) 10000000 ([] ∷ [])) ≡ (pos 10 ∷ []) ∷ []
unfolding int_wrap
ten_turns_do = refl

-- ---- branches that an abort leaves start anew: while (1) { weak abort { par(a, b); } when (r); pause; }

abbrev left_branches : PlainKernel
left_branches =
    record {
      shape = record {
        threads = root (0 ∷ 1 ∷ []) ∷ branch_thread (1 ∷ []) ∷ branch_thread (1 ∷ []) ∷ [];
        variables = plain_variable true (pos 0) ∷ record { policy = policy.Mod; combine = Some 0; start = pos 0; input = false } ∷ [];
        functions = record { params = 2; words = 2 } ∷ [];
        tables = [];
        inputs = 0 ∷ [];
        outputs = 1 ∷ [];
        names = [] ∷ [] ∷ [];
      };
      threads =
          While (Num (pos 1)) None
          (two (Enter true false (Var 0) (Par (record { thread = 1; args = no_exprs } ∷ record { thread = 2; args = no_exprs } ∷ []))) Pause) at
          ∷ Seq (list (set 1 (pos 1) ∷ Pause ∷ set 1 (pos 10) ∷ Pause ∷ set 1 (pos 100) ∷ Pause ∷ []))
          ∷ Seq (list (set 1 (pos 2) ∷ Pause ∷ set 1 (pos 20) ∷ Pause ∷ set 1 (pos 200) ∷ Pause ∷ [])) ∷ [];
      functions = Return (Bin binary.Add (Local 0) (Local 1) None) ∷ [];
    }

start_anew :
    outputs (run_of left_branches 10000000 ((pos 0 ∷ []) ∷ (pos 1 ∷ []) ∷ (pos 0 ∷ []) ∷ (pos 0 ∷ []) ∷ []))
    ≡ (pos 3 ∷ []) ∷ (pos 30 ∷ []) ∷ (pos 3 ∷ []) ∷ (pos 30 ∷ []) ∷ []
unfolding int_wrap
start_anew = refl

-- ---- nested aborts, the inner one weak: the outer one's test comes first

abbrev nested : PlainKernel
nested =
    record {
      shape = record {
        threads = root (0 ∷ 1 ∷ 2 ∷ []) ∷ [];
        variables = plain_variable true (pos 0) ∷ plain_variable true (pos 0) ∷ plain_variable false (pos 0) ∷ [];
        functions = [];
        tables = [];
        inputs = 0 ∷ 1 ∷ [];
        outputs = 2 ∷ [];
        names = [] ∷ [] ∷ [] ∷ [];
      };
      threads =
          While (Num (pos 1)) None
          (three
          (Enter false false (Var 1)
          (three (Enter true false (Var 0) (While (Num (pos 1)) None (two (plus_number 2 (pos 1)) Pause) at)) (plus_number 2 (pos 10)) Pause))
          (plus_number 2 (pos 100)) Pause) at ∷ [];
      functions = [];
    }

abbrev nested_rows : List (List ℤ)
nested_rows =
    (pos 0 ∷ pos 0 ∷ []) ∷ (pos 1 ∷ pos 0 ∷ []) ∷ (pos 0 ∷ pos 0 ∷ []) ∷ (pos 0 ∷ pos 0 ∷ []) ∷ (pos 1 ∷ pos 1 ∷ []) ∷ []

inner_and_outer :
    outputs (run_of nested 10000000 nested_rows)
    ≡ (pos 1 ∷ []) ∷ (pos 12 ∷ []) ∷ (pos 112 ∷ []) ∷ (pos 113 ∷ []) ∷ (pos 213 ∷ []) ∷ []
unfolding int_wrap
inner_and_outer = refl

-- Worked examples, computed by the definitions.
use Rattle.std.proofs.Common.{ℕ, ◌≡◌, ℤ, pos, false, Some, None, List, [], ◌∷◌, map, refl}
use Rattle.std.specs.Int.{int_wrap}
use Rattle.forec_base.specs.declared.Place.{Place}
use Rattle.forec_base.specs.declared.Policy.TheVariants as policy
use Rattle.forec_base.specs.declared.operators.Binary.TheVariants as binary
use Rattle.forec_kernel.specs.declared.shape.Outcome.{Outcome}
use Rattle.forec_kernel.specs.declared.shape.Outcome.TheVariants as outcome
use Rattle.forec_kernel.specs.declared.terms.Spot.TheVariants as spot
use Rattle.forec_kernel.specs.Terms.{Expr, Num, Var, Bin, And, Choose, Stmt, Nop, Set, Seq, If, While, Pause, no_stmts, more_stmts}
use Rattle.forec_kernel.specs.Shapes.{PlainKernel}
use Rattle.forec_kernel.specs.Ticks.{Fresh, Tick, run_of}
use Rattle.fold_laws.specs.Folding.{fold_expr, fold_stmt, folded_kernel}
use Rattle.fold_laws.specs.Laws.{tick_units}

abbrev outputs : List Tick → List (List ℤ)
outputs = map (λ t. t.outputs)

abbrev outcomes : List Tick → List Outcome
outcomes = map (λ t. t.outcome)

abbrev place : Place
place = record { line = 1; column = 43 }

abbrev two_of : Stmt → Stmt → Stmt
two_of a b = Seq (more_stmts a (more_stmts b no_stmts))

abbrev number : ℕ → Expr
number n = Num (pos n)

-- while (1) { if (2 - 2) o = 9; else o = o + 2 * 3; pause; }
abbrev counting : Stmt
counting =
    While (number 1) None
    (two_of
    (If (Bin binary.Sub (number 2) (number 2) None) (Set (spot.Variable 0) (number 9))
    (Set (spot.Variable 0) (Bin binary.Add (Var 0) (Bin binary.Mul (number 2) (number 3) None) None)))
    Pause)
    place

-- while (1) { o = o + 6; pause; }
abbrev counting_folded : Stmt
counting_folded = While (number 1) None (two_of (Set (spot.Variable 0) (Bin binary.Add (Var 0) (number 6) None)) Pause) place

counting_folds : fold_stmt counting ≡ counting_folded
unfolding int_wrap
counting_folds = refl

abbrev one_thread : Stmt → PlainKernel
one_thread s =
    record {
      shape = record {
        threads = record { parent = None; par = None; name = None; params = 0; words = 0; uses = 0 ∷ [] } ∷ [];
        variables = record { policy = policy.Mod; combine = None; start = pos 0; input = false } ∷ [];
        functions = [];
        tables = [];
        inputs = [];
        outputs = 0 ∷ [];
        names = [] ∷ [];
      };
      threads = s ∷ [];
      functions = [];
    }

-- with a budget of 7 the first tick is over, and the folded one isn't
is_over : outcomes (run_of (one_thread counting) 7 ([] ∷ [] ∷ [])) ≡ outcome.Over ∷ []
unfolding int_wrap
is_over = refl

goes_on_folded : outputs (run_of (folded_kernel (one_thread counting)) 7 ([] ∷ [] ∷ [])) ≡ (pos 6 ∷ []) ∷ (pos 12 ∷ []) ∷ []
unfolding int_wrap
goes_on_folded = refl

thirteen : tick_units (one_thread counting) 20 Fresh [] ≡ 13
unfolding int_wrap
thirteen = refl

seven : tick_units (folded_kernel (one_thread counting)) 20 Fresh [] ≡ 7
unfolding int_wrap
seven = refl

-- ---- terms

-- a zero divisor stays, and traps when it is reached
divides : fold_expr (Bin binary.Div (number 1) (number 0) (Some place)) ≡ Bin binary.Div (number 1) (number 0) (Some place)
divides = refl

-- a side that isn't chosen never traps
not_reached : fold_expr (Choose (number 0) (Bin binary.Div (number 1) (number 0) (Some place)) (Var 0)) ≡ Var 0
not_reached = refl

-- a number on the left that decides nothing stays
still_and : fold_expr (And (number 2) (Var 0)) ≡ And (number 2) (Var 0)
still_and = refl

-- ---- sequences

-- a loop that never turns is `nop`, and `nop` goes
nop_goes : fold_stmt (two_of (While (number 0) (Some 4) Pause place) (two_of Nop Pause)) ≡ Pause
nop_goes = refl

-- a sequence inside another one stays
nested : fold_stmt (two_of (two_of Pause Pause) Pause) ≡ two_of (two_of Pause Pause) Pause
nested = refl

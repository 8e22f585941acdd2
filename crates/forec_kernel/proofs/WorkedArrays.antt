-- Worked programs with a shared array, computed by the definitions.
use Rattle.std.proofs.Common.{ℕ, ◌≡◌, ℤ, pos, negsuc, Bool, true, false, Some, None, List, [], ◌∷◌, map, refl}
use Rattle.std.specs.Int.{int_wrap}
use Rattle.forec_base.specs.declared.Trap.TheVariants as trap
use Rattle.forec_base.specs.declared.Policy.TheVariants as policy
use Rattle.forec_base.specs.declared.operators.Binary.TheVariants as binary
use Rattle.forec_kernel.specs.declared.shape.Outcome.TheVariants as outcome
use Rattle.forec_kernel.specs.declared.shape.Variable.{Variable}
use Rattle.forec_kernel.specs.declared.shape.VarCopy.{VarCopy}
use Rattle.forec_kernel.specs.declared.terms.Spot.TheVariants as spot
use Rattle.forec_kernel.specs.Terms.{Expr, Num, Local, SharedAt, Bin, no_exprs, Stmt, Set, PutAt, While, Pause, Par, Return}
use Rattle.forec_kernel.specs.Shapes.{PlainKernel, PlainThread}
use Rattle.forec_kernel.specs.Values.{Sight, Gives, Raises, setting, val}
use Rattle.forec_kernel.specs.Texts.{Done}
use Rattle.forec_kernel.specs.Steps.{Owner, Moves, Traps, statement_move}
use Rattle.forec_kernel.specs.Ticks.{Fresh, is_stopped, begin, finished, run_of}
use Rattle.forec_kernel.proofs.Worked.{at, two, three}

abbrev copy : ℤ → Bool → VarCopy
copy n marked = record { value = n; modified = marked }

abbrev three_of : ℤ → ℤ → ℤ → List ℤ
three_of a b c = a ∷ b ∷ c ∷ []

abbrev element : Variable
element = record { policy = policy.Mod; combine = Some 0; start = pos 0; input = false }

abbrev thread_with : ℕ → PlainThread
thread_with words = record { parent = Some 0; par = Some 0; name = None; params = 0; words = words; uses = 0 ∷ 1 ∷ 2 ∷ [] }

-- shared output int h[3] combine mod with plus;
abbrev arrays : List PlainThread → List Stmt → PlainKernel
arrays branches bodies =
    record {
      shape = record {
        threads = record { parent = None; par = None; name = None; params = 0; words = 0; uses = 0 ∷ 1 ∷ 2 ∷ [] } ∷ branches;
        variables = element ∷ element ∷ element ∷ [];
        functions = record { params = 2; words = 2 } ∷ [];
        tables = [];
        inputs = [];
        outputs = 0 ∷ 1 ∷ 2 ∷ [];
        names = [] ∷ [] ∷ [] ∷ [];
      };
      threads = bodies;
      functions = Return (Bin binary.Add (Local 0) (Local 1) None) ∷ [];
    }

abbrev put : Expr → Expr → Stmt
put i e = PutAt 0 3 i e at

-- ---- one element by its index, and one step that sets it

-- the variables 3, 4 and 5, of which 4 and 5 are an array
abbrev sight : Sight
sight = record { words = []; uses = 3 ∷ 4 ∷ 5 ∷ []; copies = copy (pos 7) false ∷ copy (pos 8) false ∷ copy (pos 9) false ∷ [] }

abbrev plain : PlainKernel
plain = arrays [] []

second_element : val (setting plain) sight (SharedAt 4 2 (Num (pos 1)) at) ≡ Gives (pos 9) 2
second_element = refl

beyond_the_array : val (setting plain) sight (SharedAt 4 2 (Num (pos 2)) at) ≡ Raises at trap.Index 2
beyond_the_array = refl

before_the_array : val (setting plain) sight (SharedAt 4 2 (Num (negsuc 0)) at) ≡ Raises at trap.Index 2
before_the_array = refl

abbrev owner : Owner
owner = record { kernel = plain; uses = 3 ∷ 4 ∷ 5 ∷ [] }

one_mark :
    statement_move owner [] sight.copies (PutAt 4 2 (Num (pos 0)) (Num (pos 6)) at)
    ≡ Moves Done [] (copy (pos 7) false ∷ copy (pos 6) true ∷ copy (pos 9) false ∷ []) 3
one_mark = refl

-- the value comes before the check of the index
value_first :
    statement_move owner [] sight.copies (PutAt 4 2 (Num (pos 2)) (SharedAt 4 2 (Num (pos 0)) at) at)
    ≡ Traps at trap.Index 4
value_first = refl

-- ---- main: h[3] = 1;

abbrev outside : PlainKernel
outside = arrays [] (put (Num (pos 3)) (Num (pos 1)) ∷ [])

outside_traps : map (λ t. t.outcome) (run_of outside 10000000 ([] ∷ [] ∷ [])) ≡ outcome.Trapped at trap.Index ∷ []
outside_traps = refl

outside_units : (finished outside (is_stopped 10000000) 10000001 (begin outside Fresh [])).units ≡ 3
outside_units = refl

-- ---- main: par(a, b);   b: while (1) { h[0] = h[0] + 5; pause; }
-- a: int i = 0; while (1) { h[i % 3] = 1; i = i + 1; pause; }

abbrev shared_sums : PlainKernel
shared_sums =
    arrays (thread_with 1 ∷ thread_with 0 ∷ [])
    (Par (record { thread = 1; args = no_exprs } ∷ record { thread = 2; args = no_exprs } ∷ [])
    ∷ two (Set (spot.Local 0) (Num (pos 0)))
    (While (Num (pos 1)) None
    (three (put (Bin binary.Rem (Local 0) (Num (pos 3)) (Some at)) (Num (pos 1))) (Set (spot.Local 0) (Bin binary.Add (Local 0) (Num (pos 1)) None)) Pause)
    at)
    ∷ While (Num (pos 1)) None (two (put (Num (pos 0)) (Bin binary.Add (SharedAt 0 3 (Num (pos 0)) at) (Num (pos 5)) None)) Pause) at ∷ [])

-- each element is marked and combined by itself
each_by_itself :
    map (λ t. t.outputs) (run_of shared_sums 10000000 ([] ∷ [] ∷ [] ∷ [] ∷ []))
    ≡ three_of (pos 6) (pos 0) (pos 0) ∷ three_of (pos 11) (pos 1) (pos 0) ∷ three_of (pos 16) (pos 1) (pos 1)
    ∷ three_of (pos 22) (pos 1) (pos 1) ∷ []
unfolding int_wrap
each_by_itself = refl

-- Worked kernels: an abort round a loop with a bound and a par, whose branch is an abort round a pause; and an element of a shared array that is set.
use Rattle.std.specs.Prelude.{pos, true, false, Some, None, [], ◌∷◌, codes}
use Rattle.forec_base.specs.declared.Place.{Place}
use Rattle.forec_base.specs.declared.Policy.TheVariants as policy
use Rattle.forec_base.specs.declared.operators.Binary.TheVariants as binary
use Rattle.forec_kernel.specs.declared.terms.Spot.TheVariants as spot
use Rattle.forec_kernel.specs.Terms.{Num, Local, Var, SharedAt, Bin, no_exprs, Stmt, Set, PutAt, Seq, While, Pause, Par, Enter, no_stmts, more_stmts}
use Rattle.forec_kernel.specs.Shapes.{PlainKernel, PlainShape}

abbrev pub worked_place : Place
worked_place = record { line = 1; column = 2 }

-- `o = o + 1;`
abbrev pub adds_one : Stmt
adds_one = Set (spot.Variable 1) (Bin binary.Add (Var 1) (Num (pos 1)) None)

abbrev pub two : Stmt → Stmt → Stmt
two a b = Seq (more_stmts a (more_stmts b no_stmts))

-- `while (1) #5 { o = o + 1; pause; }`
abbrev pub five_turns : Stmt
five_turns = While (Num (pos 1)) (Some 5) (two adds_one Pause) worked_place

-- `par(branch);`
abbrev pub one_branch : Stmt
one_branch = Par (record { thread = 1; args = no_exprs } ∷ [])

-- `weak abort { .. } when immediate (r);`
abbrev pub main_body : Stmt
main_body = Enter true true (Var 0) (two five_turns one_branch)

-- `abort { pause; } when (r);`
abbrev pub branch_body : Stmt
branch_body = Enter false false (Var 0) Pause

abbrev pub surrounded_shape : PlainShape
surrounded_shape =
    record {
      threads =
          record { parent = None; par = None; name = None; params = 0; words = 0; uses = 0 ∷ 1 ∷ [] }
          ∷ record { parent = Some 0; par = Some 0; name = None; params = 0; words = 0; uses = 0 ∷ [] }
          ∷ [];
      variables =
          record { policy = policy.All; combine = None; start = pos 0; input = true }
          ∷ record { policy = policy.All; combine = None; start = pos 0; input = false }
          ∷ [];
      functions = [];
      tables = [];
      inputs = 0 ∷ [];
      outputs = 1 ∷ [];
      names = codes "r" ∷ codes "o" ∷ [];
    }

abbrev pub surrounded : PlainKernel
surrounded = record { shape = surrounded_shape; threads = main_body ∷ branch_body ∷ []; functions = [] }

-- `h[i] = h[i] + 1;`, where i is word 0, and h has three elements, the variables from 1 on
abbrev pub element_adds_one : Stmt
element_adds_one = PutAt 1 3 (Local 0) (Bin binary.Add (SharedAt 1 3 (Local 0) worked_place) (Num (pos 1)) None) worked_place

abbrev pub three_elements : PlainKernel
three_elements =
    record {
      shape =
          record {
            threads = record { parent = None; par = None; name = None; params = 0; words = 1; uses = 0 ∷ 1 ∷ 2 ∷ 3 ∷ [] } ∷ [];
            variables =
                record { policy = policy.All; combine = None; start = pos 0; input = true }
                ∷ record { policy = policy.All; combine = None; start = pos 0; input = false }
                ∷ record { policy = policy.All; combine = None; start = pos 0; input = false }
                ∷ record { policy = policy.All; combine = None; start = pos 0; input = false }
                ∷ [];
            functions = [];
            tables = [];
            inputs = 0 ∷ [];
            outputs = 1 ∷ 2 ∷ 3 ∷ [];
            names = codes "r" ∷ codes "h[0]" ∷ codes "h[1]" ∷ codes "h[2]" ∷ [];
          };
      threads = element_adds_one ∷ [];
      functions = [];
    }

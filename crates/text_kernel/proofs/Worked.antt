-- Worked programs, computed by the definitions.
use Rattle.std.proofs.Common.{ℕ, zero, suc, ◌<◌, ◌≤◌, ◌≡◌, ap, ℤ, pos, true, false, Option, Some, None, List, [], ◌∷◌, refl, codes, arith}
use Rattle.forec_base.specs.declared.Place.{Place}
use Rattle.forec_base.specs.declared.Policy.TheVariants.{Mod, All}
use Rattle.forec_base.specs.declared.operators.Binary.TheVariants as op
use Rattle.forec_tree.specs.declared.tree.Name.{Name}
use Rattle.forec_tree.specs.declared.tree.Number.{Number}
use Rattle.forec_tree.specs.declared.tree.OpAt.{OpAt}
use Rattle.forec_tree.specs.declared.tree.GlobalKind.TheVariants.{Input, Output, Plain, SharedOutput}
use Rattle.forec_tree.specs.Terms.{Num, Read, Element, Bin, no_terms, more_terms, PlainTarget, Declare, Assign, Invoke, While, For, Group, Pause, Par, Abort, Return, Statements, no_statements, more_statements, present, no_branches, by_call, by_group, Text, PlainItem, IsGlobal, IsFunction}
use Rattle.forec_tree.specs.Pauses.{within}
use Rattle.forec_tree.specs.Threads.{instances}
use Rattle.forec_tree.specs.Turns.{values_passed, is_i32}
use Rattle.forec_tree.proofs.Runs.{value_at, run_is}
use Rattle.std.specs.Prelude.{int_lt}
use Rattle.std.specs.Fmt.{digits}
use Rattle.forec_tree.specs.Faults.{text_faults, late_faults}
use Rattle.forec_kernel.specs.declared.terms.Spot.TheVariants as spot
use Rattle.forec_kernel.specs.Terms as kernel
use Rattle.forec_kernel.specs.Terms.{Stmt, more_stmts, no_stmts, more_exprs, no_exprs}
use Rattle.forec_kernel.specs.Shapes.{PlainKernel}
use Rattle.text_kernel.specs.Kernels.{kernel_of}

abbrev p : Place
p = record { line = 1; column = 1 }

abbrev name : ℕ → Name
name id = record { id = id; place = p }

abbrev num : ℤ → Number
num n = record { value = n; place = p }

-- output int o = 0; void main(void) { while (1) { o = o + 1; pause; } }
abbrev p1_names : List (List ℕ)
p1_names = codes "o" ∷ codes "main" ∷ []

abbrev p1 : Text
p1 =
    IsGlobal (record { name = name 0; kind = Output; length = None; values = num (pos 0) ∷ []; combine = None })
    ∷ IsFunction (record {
      name = name 1;
      gives = false;
      params = [];
      body =
          more_statements
          (While p (Num p (pos 1)) None
          (Group p
          (more_statements (Assign p (record { name = name 0; index = None }) None (Bin p op.Add (Read p (name 0)) (Num p (pos 1))))
          (more_statements (Pause p) no_statements))))
          no_statements;
    })
    ∷ []

abbrev p1_kernel : PlainKernel
p1_kernel =
    record {
      shape = record {
        threads = record { parent = None; par = None; name = Some (codes "main"); params = 0; words = 0; uses = 0 ∷ [] } ∷ [];
        variables = record { policy = Mod; combine = None; start = pos 0; input = false } ∷ [];
        functions = [];
        tables = [];
        inputs = [];
        outputs = 0 ∷ [];
        names = codes "o" ∷ [];
      };
      threads =
          kernel.While (kernel.Num (pos 1)) None
          (kernel.Seq
          (more_stmts (kernel.Set (spot.Variable 0) (kernel.Bin op.Add (kernel.Var 0) (kernel.Num (pos 1)) None))
          (more_stmts kernel.Pause no_stmts)))
          p
          ∷ [];
      functions = [];
    }

p1_is : kernel_of p1 p1_names ≡ p1_kernel
unfolding kernel_of within
p1_is = refl

p1_no_fault : text_faults p1 p1_names ≡ []
p1_no_fault = refl

p1_no_late_fault : late_faults p1 p1_names p1 ≡ []
unfolding within
p1_no_late_fault = refl

-- shared output int s = 1 combine all with plus;
-- int plus(int x, int y) { return x + y; }
-- void a(void) { s = s + 1; pause; }   void b(void) { s = s + 2; pause; }   void main(void) { par(a, b); }
abbrev p3_names : List (List ℕ)
p3_names = codes "s" ∷ codes "plus" ∷ codes "x" ∷ codes "y" ∷ codes "a" ∷ codes "b" ∷ codes "main" ∷ []

abbrev adds : ℤ → Statements
adds n =
    more_statements (Assign p (record { name = name 0; index = None }) None (Bin p op.Add (Read p (name 0)) (Num p n)))
    (more_statements (Pause p) no_statements)

abbrev p3 : Text
p3 =
    IsGlobal (record { name = name 0; kind = SharedOutput; length = None; values = num (pos 1) ∷ []; combine = Some (record { policy = All; with = name 1 }) })
    ∷ IsFunction (record { name = name 1; gives = true; params = name 2 ∷ name 3 ∷ []; body = more_statements (Return p (Bin p op.Add (Read p (name 2)) (Read p (name 3)))) no_statements })
    ∷ IsFunction (record { name = name 4; gives = false; params = []; body = adds (pos 1) })
    ∷ IsFunction (record { name = name 5; gives = false; params = []; body = adds (pos 2) })
    ∷ IsFunction (record { name = name 6; gives = false; params = []; body = more_statements (Par p (by_call (name 4) no_terms (by_call (name 5) no_terms no_branches))) no_statements })
    ∷ []

abbrev adding : ℤ → Stmt
adding n =
    kernel.Seq
    (more_stmts (kernel.Set (spot.Variable 0) (kernel.Bin op.Add (kernel.Var 0) (kernel.Num n) None))
    (more_stmts kernel.Pause no_stmts))

abbrev p3_kernel : PlainKernel
p3_kernel =
    record {
      shape = record {
        threads =
            record { parent = None; par = None; name = Some (codes "main"); params = 0; words = 0; uses = 0 ∷ [] }
            ∷ record { parent = Some 0; par = Some 0; name = Some (codes "a"); params = 0; words = 0; uses = 0 ∷ [] }
            ∷ record { parent = Some 0; par = Some 0; name = Some (codes "b"); params = 0; words = 0; uses = 0 ∷ [] }
            ∷ [];
        variables = record { policy = All; combine = Some 0; start = pos 1; input = false } ∷ [];
        functions = record { params = 2; words = 2 } ∷ [];
        tables = [];
        inputs = [];
        outputs = 0 ∷ [];
        names = codes "s" ∷ [];
      };
      threads =
          kernel.Par (record { thread = 1; args = no_exprs } ∷ record { thread = 2; args = no_exprs } ∷ [])
          ∷ adding (pos 1) ∷ adding (pos 2) ∷ [];
      functions = kernel.Return (kernel.Bin op.Add (kernel.Local 0) (kernel.Local 1) None) ∷ [];
    }

p3_is : kernel_of p3 p3_names ≡ p3_kernel
unfolding kernel_of within
p3_is = refl

p3_no_fault : text_faults p3 p3_names ≡ []
p3_no_fault = refl

p3_instances : instances p3 6 ≡ 3
unfolding within
p3_instances = refl

-- output int o = 0; void main(void) { for (int i = 0; i < 4; i++) o += i; }
abbrev p4_names : List (List ℕ)
p4_names = codes "o" ∷ codes "main" ∷ codes "i" ∷ []

abbrev to : ℕ → PlainTarget
to id = record { name = name id; index = None }

abbrev add : OpAt
add = record { op = op.Add; place = p }

abbrev main_of : Statements → PlainItem
main_of body = IsFunction (record { name = name 1; gives = false; params = []; body = body })

abbrev output : PlainItem
output = IsGlobal (record { name = name 0; kind = Output; length = None; values = num (pos 0) ∷ []; combine = None })

abbrev p4 : Text
p4 =
    output
    ∷ main_of
    (more_statements
    (For p (present (Declare p (record { name = name 2; length = None; values = more_terms (Num p (pos 0)) no_terms } ∷ [])))
    (Some (Bin p op.Lt (Read p (name 2)) (Num p (pos 4)))) (present (Assign p (to 2) (Some add) (Num p (pos 1)))) None
    (Assign p (to 0) (Some add) (Read p (name 2))))
    no_statements)
    ∷ []

passes_four : (k : ℕ) → k < 4 → int_lt (value_at k (pos 1) (pos 0)) (pos 4) ≡ true
passes_four zero l = refl
passes_four (suc zero) l = refl
passes_four (suc (suc zero)) l = refl
passes_four (suc (suc (suc zero))) l = refl
passes_four (suc (suc (suc (suc k)))) l = absurd (omega arith)

fits_four : (k : ℕ) → k ≤ 4 → is_i32 (value_at k (pos 1) (pos 0)) ≡ true
fits_four zero l = refl
fits_four (suc zero) l = refl
fits_four (suc (suc zero)) l = refl
fits_four (suc (suc (suc zero))) l = refl
fits_four (suc (suc (suc (suc zero)))) l = refl
fits_four (suc (suc (suc (suc (suc k))))) l = absurd (omega arith)

p4_turns : values_passed 1000001 (λ v. int_lt v (pos 4)) (pos 1) (pos 0) ≡ Some 4
p4_turns = run_is 1000001 (λ v. int_lt v (pos 4)) (pos 1) (pos 0) 4 (omega arith) (record { pass = passes_four; fails = refl; fit = fits_four })

abbrev p4_body : Option ℕ → Stmt
p4_body turns =
    kernel.Seq
    (more_stmts (kernel.Set (spot.Local 0) (kernel.Num (pos 0)))
    (more_stmts
    (kernel.While (kernel.Bin op.Lt (kernel.Local 0) (kernel.Num (pos 4)) None) turns
    (kernel.Seq
    (more_stmts (kernel.Set (spot.Variable 0) (kernel.Bin op.Add (kernel.Var 0) (kernel.Local 0) None))
    (more_stmts (kernel.Set (spot.Local 0) (kernel.Bin op.Add (kernel.Local 0) (kernel.Num (pos 1)) None)) no_stmts)))
    p)
    no_stmts))

p4_is : (kernel_of p4 p4_names).threads ≡ p4_body (Some 4) ∷ []
unfolding kernel_of within
p4_is = ap (λ o. p4_body o ∷ []) p4_turns

-- void main(void) { int a[3] = {5, 7}; a[1] += a[0]; }
abbrev p5_names : List (List ℕ)
p5_names = codes "a" ∷ codes "main" ∷ []

abbrev p5 : Text
p5 =
    main_of
    (more_statements (Declare p (record { name = name 0; length = Some (num (pos 3)); values = more_terms (Num p (pos 5)) (more_terms (Num p (pos 7)) no_terms) } ∷ []))
    (more_statements (Assign p (record { name = name 0; index = Some (Num p (pos 1)) }) (Some add) (Element p (name 0) (Num p (pos 0)))) no_statements))
    ∷ []

p5_is : (kernel_of p5 p5_names).threads
    ≡ kernel.Seq
    (more_stmts
    (kernel.Seq
    (more_stmts (kernel.Clear 0 3)
    (more_stmts (kernel.SetAt 0 3 (kernel.Num (pos 0)) (kernel.Num (pos 5)) p) (more_stmts (kernel.SetAt 0 3 (kernel.Num (pos 1)) (kernel.Num (pos 7)) p) no_stmts))))
    (more_stmts
    (kernel.SetAt 0 3 (kernel.Num (pos 1)) (kernel.Bin op.Add (kernel.LocalAt 0 3 (kernel.Num (pos 1)) p) (kernel.LocalAt 0 3 (kernel.Num (pos 0)) p) None) p)
    no_stmts))
    ∷ []
unfolding kernel_of within
p5_is = refl

-- input int stop; void main(void) { abort { pause; } when immediate (stop); }
abbrev p6_names : List (List ℕ)
p6_names = codes "stop" ∷ codes "main" ∷ []

abbrev p6 : Text
p6 =
    IsGlobal (record { name = name 0; kind = Input; length = None; values = []; combine = None })
    ∷ main_of (more_statements (Abort p false true (Read p (name 0)) (more_statements (Pause p) no_statements)) no_statements) ∷ []

p6_is : (kernel_of p6 p6_names).threads ≡ kernel.Enter false true (kernel.Var 0) kernel.Pause ∷ []
unfolding kernel_of within
p6_is = refl

-- void f(int x) { int y = x; }   void main(void) { f(3); par(f(4), { pause; }); }
abbrev p7_names : List (List ℕ)
p7_names = codes "f" ∷ codes "main" ∷ codes "x" ∷ codes "y" ∷ []

abbrev p7 : Text
p7 =
    IsFunction (record {
      name = name 0;
      gives = false;
      params = name 2 ∷ [];
      body = more_statements (Declare p (record { name = name 3; length = None; values = more_terms (Read p (name 2)) no_terms } ∷ [])) no_statements;
    })
    ∷ main_of
    (more_statements (Invoke p (name 0) (more_terms (Num p (pos 3)) no_terms))
    (more_statements (Par p (by_call (name 0) (more_terms (Num p (pos 4)) no_terms) (by_group p (more_statements (Pause p) no_statements) no_branches))) no_statements))
    ∷ []

p7_bodies : (kernel_of p7 p7_names).threads
    ≡ kernel.Seq
    (more_stmts
    (kernel.Seq (more_stmts (kernel.Set (spot.Local 0) (kernel.Num (pos 3))) (more_stmts (kernel.Set (spot.Local 1) (kernel.Local 0)) no_stmts)))
    (more_stmts
    (kernel.Par (record { thread = 1; args = more_exprs (kernel.Num (pos 4)) no_exprs } ∷ record { thread = 2; args = no_exprs } ∷ []))
    no_stmts))
    ∷ kernel.Set (spot.Local 1) (kernel.Local 0)
    ∷ kernel.Pause
    ∷ []
unfolding kernel_of within
p7_bodies = refl

p7_threads : (kernel_of p7 p7_names).shape.threads
    ≡ record { parent = None; par = None; name = Some (codes "main"); params = 0; words = 2; uses = [] }
    ∷ record { parent = Some 0; par = Some 0; name = Some (codes "f"); params = 1; words = 2; uses = [] }
    ∷ record { parent = Some 0; par = Some 0; name = None; params = 0; words = 0; uses = [] }
    ∷ []
unfolding kernel_of within
p7_threads = refl

-- output int o = 0;   shared output int h[3] = {4} combine mod with plus;   int c = 7;   int plus(int x, int y) { return x + y; }
-- void a(void) { h[1] = c; }   void b(void) { h[0] += h[2]; }   void main(void) { par(a, b); o = h[1]; }
abbrev p8_names : List (List ℕ)
p8_names = codes "o" ∷ codes "h" ∷ codes "c" ∷ codes "plus" ∷ codes "x" ∷ codes "y" ∷ codes "a" ∷ codes "b" ∷ codes "main" ∷ []

abbrev task : ℕ → Statements → PlainItem
task id body = IsFunction (record { name = name id; gives = false; params = []; body = body })

abbrev h_at : ℤ → PlainTarget
h_at i = record { name = name 1; index = Some (Num p i) }

abbrev p8 : Text
p8 =
    output
    ∷ IsGlobal (record { name = name 1; kind = SharedOutput; length = Some (num (pos 3)); values = num (pos 4) ∷ []; combine = Some (record { policy = Mod; with = name 3 }) })
    ∷ IsGlobal (record { name = name 2; kind = Plain; length = None; values = num (pos 7) ∷ []; combine = None })
    ∷ IsFunction (record { name = name 3; gives = true; params = name 4 ∷ name 5 ∷ []; body = more_statements (Return p (Bin p op.Add (Read p (name 4)) (Read p (name 5)))) no_statements })
    ∷ task 6 (more_statements (Assign p (h_at (pos 1)) None (Read p (name 2))) no_statements)
    ∷ task 7 (more_statements (Assign p (h_at (pos 0)) (Some add) (Element p (name 1) (Num p (pos 2)))) no_statements)
    ∷ task 8
    (more_statements (Par p (by_call (name 6) no_terms (by_call (name 7) no_terms no_branches)))
    (more_statements (Assign p (to 0) None (Element p (name 1) (Num p (pos 1)))) no_statements))
    ∷ []

abbrev p8_kernel : PlainKernel
p8_kernel =
    record {
      shape = record {
        threads =
            record { parent = None; par = None; name = Some (codes "main"); params = 0; words = 0; uses = 0 ∷ 1 ∷ 2 ∷ 3 ∷ 4 ∷ [] }
            ∷ record { parent = Some 0; par = Some 0; name = Some (codes "a"); params = 0; words = 0; uses = 1 ∷ 2 ∷ 3 ∷ 4 ∷ [] }
            ∷ record { parent = Some 0; par = Some 0; name = Some (codes "b"); params = 0; words = 0; uses = 1 ∷ 2 ∷ 3 ∷ [] }
            ∷ [];
        variables =
            record { policy = Mod; combine = None; start = pos 0; input = false }
            ∷ record { policy = Mod; combine = Some 0; start = pos 4; input = false }
            ∷ record { policy = Mod; combine = Some 0; start = pos 0; input = false }
            ∷ record { policy = Mod; combine = Some 0; start = pos 0; input = false }
            ∷ record { policy = Mod; combine = None; start = pos 7; input = false }
            ∷ [];
        functions = record { params = 2; words = 2 } ∷ [];
        tables = [];
        inputs = [];
        outputs = 0 ∷ 1 ∷ 2 ∷ 3 ∷ [];
        names = codes "o" ∷ codes "h[0]" ∷ codes "h[1]" ∷ codes "h[2]" ∷ codes "c" ∷ [];
      };
      threads =
          kernel.Seq
          (more_stmts (kernel.Par (record { thread = 1; args = no_exprs } ∷ record { thread = 2; args = no_exprs } ∷ []))
          (more_stmts (kernel.Set (spot.Variable 0) (kernel.SharedAt 1 3 (kernel.Num (pos 1)) p)) no_stmts))
          ∷ kernel.PutAt 1 3 (kernel.Num (pos 1)) (kernel.Var 4) p
          ∷ kernel.PutAt 1 3 (kernel.Num (pos 0)) (kernel.Bin op.Add (kernel.SharedAt 1 3 (kernel.Num (pos 0)) p) (kernel.SharedAt 1 3 (kernel.Num (pos 2)) p) None) p
          ∷ [];
      functions = kernel.Return (kernel.Bin op.Add (kernel.Local 0) (kernel.Local 1) None) ∷ [];
    }

p8_is : kernel_of p8 p8_names ≡ p8_kernel
unfolding kernel_of within digits
p8_is = refl

p8_no_fault : text_faults p8 p8_names ≡ []
p8_no_fault = refl

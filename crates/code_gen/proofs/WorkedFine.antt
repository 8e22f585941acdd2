-- The worked kernel is well formed.
use Rattle.std.proofs.Common.{ℕ, zero, suc, ◌<◌, ◌≡◌, ◌∙◌, true, Some, IsTrue, List, [], ◌∷◌, get_or, map, refl, ap, sym, arith}
use Rattle.std.proofs.lemmas.Bool.Decides.{nat_tests}
use Rattle.forec_kernel.specs.WellFormed.{WellFormed, FineThread, FineChild, FineFunction, FineVariable, FinePar, thread_of, stmt_calls, function_body}
use Rattle.forec_kernel.specs.Combining.{contains, variable_of}
use Rattle.forec_kernel.specs.declared.shape.KernelParts.{KernelParts}
use Rattle.forec_kernel.specs.declared.terms.Statement.{Statement}
use Rattle.forec_kernel.specs.Plain.{stmt}
use Rattle.forec_kernel.specs.Shapes.{PlainShape, plain_kernel, plain_shape}
use Rattle.forec_kernel.specs.Terms.{Stmt}
use Rattle.code_gen.specs.Worked.{main_body, branch_body, surrounded_shape, surrounded}

parent_of : (b : ℕ) → contains b (1 ∷ []) ≡ true → (thread_of surrounded b).parent ≡ Some 0
parent_of zero h = cc
parent_of (suc zero) h = refl
parent_of (suc (suc b)) h = absurd (grind (arith, nat_tests))

one_par : (branches : List ℕ) (i : ℕ) → i < 1 → branches ≡ get_or ((1 ∷ []) ∷ []) i [] → FinePar surrounded 0 branches
one_par branches zero h e = record { number = 0; are = e; parent = λ b c. parent_of b (sym (ap (contains b) e) ∙ c) }
one_par branches (suc i) h e = absurd (omega arith)

no_par : (t : ℕ) (branches : List ℕ) (i : ℕ) → i < 0 → branches ≡ get_or {A = List ℕ} [] i [] → FinePar surrounded t branches
no_par t branches i h e = absurd (omega arith)

thread_fine : (t : ℕ) → t < 2 → FineThread surrounded t
thread_fine zero h =
    record {
      params = omega arith;
      uses = refl;
      body = (
        refl,
        refl,
        (
          (omega arith, tt, ((refl, (refl, refl, tt)), (refl, tt))),
          ((refl, λ e. cc, (record { named = omega arith; count = refl; args = tt }, tt)), tt),
        ),
      );
      pars = one_par;
      words = omega arith;
      depth = omega arith;
    }
thread_fine (suc zero) h =
    record {
      params = omega arith;
      uses = refl;
      body = (refl, refl, refl);
      pars = no_par 1;
      words = omega arith;
      depth = omega arith;
    }
thread_fine (suc (suc t)) h = absurd (omega arith)

child_fine : (t : ℕ) → 0 < t → t < 2 → FineChild surrounded t
child_fine zero p h = absurd (omega arith)
child_fine (suc zero) p h = record { parent = 0; is = refl; below = omega arith; par = refl; uses = refl }
child_fine (suc (suc t)) p h = absurd (omega arith)

function_fine : (f : ℕ) → f < 0 → FineFunction surrounded f
function_fine f h = absurd (omega arith)

variable_fine : (v : ℕ) → v < 2 → FineVariable surrounded (variable_of surrounded v)
variable_fine zero h = record { combine = λ f e. cc }
variable_fine (suc zero) h = record { combine = λ f e. cc }
variable_fine (suc (suc v)) h = absurd (omega arith)

no_calls : (f g : ℕ) → f < 0 → IsTrue (contains g (stmt_calls (function_body surrounded f))) → g < f
no_calls f g h c = absurd (omega arith)

pub surrounded_fine : WellFormed surrounded
surrounded_fine =
    record {
      bodies = refl;
      functions = refl;
      some = omega arith;
      root = record { parent = refl; par = refl; params = refl; uses = refl };
      each_thread = thread_fine;
      each_child = child_fine;
      each_function = function_fine;
      each_variable = variable_fine;
      each_table = λ t h. absurd (omega arith);
      ranked = record { rank = λ f. f; falls = no_calls };
      once = refl;
      in_order = refl;
      inputs_named = refl;
      inputs_once = refl;
      outputs_named = refl;
      outputs_once = refl;
      names = refl;
      few_threads = omega arith;
      few_variables = omega arith;
      few_functions = omega arith;
      few_inputs = omega arith;
      few_outputs = omega arith;
      few_table_words = omega arith;
      few_terms = omega arith;
    }

-- the parts that it is made of
pub parts_are : (parts : KernelParts) (a b : Statement) → plain_shape parts.shape ≡ surrounded_shape → parts.threads.items ≡ a ∷ b ∷ [] →
    stmt a ≡ main_body → stmt b ≡ branch_body → parts.functions.items ≡ [] → plain_kernel parts ≡ surrounded
parts_are parts a b shape threads first second functions =
    let bodies : map stmt parts.threads.items ≡ main_body ∷ branch_body ∷ [] =
    ap (map stmt) threads ∙ ap (λ s. s ∷ stmt b ∷ []) first ∙ ap (λ s. main_body ∷ s ∷ []) second
    in
    ap (λ (s : PlainShape). record { shape = s; threads = map stmt parts.threads.items; functions = map stmt parts.functions.items }) shape
    ∙ ap (λ (ts : List Stmt). record { shape = surrounded_shape; threads = ts; functions = map stmt parts.functions.items }) bodies
    ∙ ap (λ (fs : List Statement). record { shape = surrounded_shape; threads = main_body ∷ branch_body ∷ []; functions = map stmt fs }) functions

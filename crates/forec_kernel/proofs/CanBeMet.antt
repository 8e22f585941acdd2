-- The condition of `Kernel::of` can be met: a kernel with a par, a shared variable and a combine function.
use Rattle.std.proofs.Common.{ℕ, zero, suc, ◌<◌, ◌≡◌, ◌∙◌, true, Some, IsTrue, List, [], ◌∷◌, get_or, refl, ap, sym, arith}
use Rattle.std.proofs.lemmas.Bool.Decides.{nat_tests}
use Rattle.forec_base.specs.declared.Policy.TheVariants as policy
use Rattle.forec_kernel.specs.Shapes.{PlainKernel}
use Rattle.forec_kernel.specs.WellFormed.{WellFormed, FineThread, FineChild, FineRoot, FineFunction, FineVariable, FinePar, FineBranch, Ranked, thread_of, stmt_calls, function_body}
use Rattle.forec_kernel.specs.Combining.{contains, variable_of}
use Rattle.forec_kernel.proofs.Worked.{joined_sum}

abbrev kernel : PlainKernel
kernel = joined_sum policy.All

parent_of : (b : ℕ) → contains b (1 ∷ 2 ∷ []) ≡ true → (thread_of kernel b).parent ≡ Some 0
parent_of zero h = cc
parent_of (suc zero) h = refl
parent_of (suc (suc zero)) h = refl
parent_of (suc (suc (suc b))) h = absurd (grind (arith, nat_tests))

one_par : (branches : List ℕ) (i : ℕ) → i < 1 → branches ≡ get_or ((1 ∷ 2 ∷ []) ∷ []) i [] → FinePar kernel 0 branches
one_par branches zero h e = record { number = 0; are = e; parent = λ b c. parent_of b (sym (ap (contains b) e) ∙ c) }
one_par branches (suc i) h e = absurd (omega arith)

no_par : (t : ℕ) (branches : List ℕ) (i : ℕ) → i < 0 → branches ≡ get_or {A = List ℕ} [] i [] → FinePar kernel t branches
no_par t branches i h e = absurd (omega arith)

thread_fine : (t : ℕ) → t < 3 → FineThread kernel t
thread_fine zero h =
    record {
      params = omega arith;
      uses = refl;
      body = (
        refl,
        λ e. cc,
        (
          record { named = omega arith; count = refl; args = tt },
          (record { named = omega arith; count = refl; args = tt }, tt),
        ),
      );
      pars = one_par;
      words = omega arith;
      depth = omega arith;
    }
thread_fine (suc zero) h =
    record {
      params = omega arith;
      uses = refl;
      body = ((refl, (refl, refl, tt)), (refl, tt));
      pars = no_par 1;
      words = omega arith;
      depth = omega arith;
    }
thread_fine (suc (suc zero)) h =
    record {
      params = omega arith;
      uses = refl;
      body = ((refl, (refl, refl, tt)), (refl, tt));
      pars = no_par 2;
      words = omega arith;
      depth = omega arith;
    }
thread_fine (suc (suc (suc t))) h = absurd (omega arith)

child_fine : (t : ℕ) → 0 < t → t < 3 → FineChild kernel t
child_fine zero p h = absurd (omega arith)
child_fine (suc zero) p h = record { parent = 0; is = refl; below = omega arith; par = refl; uses = refl }
child_fine (suc (suc zero)) p h = record { parent = 0; is = refl; below = omega arith; par = refl; uses = refl }
child_fine (suc (suc (suc t))) p h = absurd (omega arith)

function_fine : (f : ℕ) → f < 1 → FineFunction kernel f
function_fine zero h =
    record {
      params = omega arith;
      few = omega arith;
      body = (refl, (refl, omega arith, omega arith));
      returns = refl;
      depth = omega arith;
    }
function_fine (suc f) h = absurd (omega arith)

variable_fine : (v : ℕ) → v < 1 → FineVariable kernel (variable_of kernel v)
variable_fine zero h =
    record { combine = λ f e. let is : 0 ≡ f = cc in (omega arith, ap (λ g. (Rattle.forec_kernel.specs.WellFormed.function_params kernel g)) (sym is)) }
variable_fine (suc v) h = absurd (omega arith)

pub joined_sum_fine : WellFormed kernel
joined_sum_fine =
    record {
      bodies = refl;
      functions = refl;
      some = omega arith;
      root = record { parent = refl; par = refl; params = refl; uses = refl };
      each_thread = thread_fine;
      each_child = child_fine;
      each_function = function_fine;
      each_variable = variable_fine;
      each_table = λ t h. absurd (omega arith);
      ranked = record { rank = λ f. f; falls = no_calls };
      once = refl;
      in_order = refl;
      inputs_named = refl;
      inputs_once = refl;
      outputs_named = refl;
      outputs_once = refl;
      names = refl;
      few_threads = omega arith;
      few_variables = omega arith;
      few_functions = omega arith;
      few_inputs = omega arith;
      few_outputs = omega arith;
      few_table_words = omega arith;
      few_terms = omega arith;
    }
  where
    no_calls : (f g : ℕ) → f < 1 → IsTrue (contains g (stmt_calls (function_body kernel f))) → g < f
    no_calls zero g h c = cc
    no_calls (suc f) g h c = absurd (omega arith)

-- The condition of `Code::of` can be met: a code with a par that wakes its branches, a combine function, a loop and a pause.
use Rattle.std.proofs.Common.{ℕ, zero, suc, ◌<◌, ◌≡◌, ℤ, pos, true, Some, [], ◌∷◌, refl, subst, arith}
use Rattle.std.specs.Prelude.{slice_get}
use Rattle.std.proofs.lemmas.Bool.Decides.{nat_tests}
use Rattle.forec_base.specs.declared.Policy.TheVariants as policy
use Rattle.forec_kernel.specs.Combining.{contains}
use Rattle.forec_kernel.specs.Values.{function_words}
use Rattle.forec_kernel.specs.Texts.{uses_in, params_in, words_in}
use Rattle.forec_kernel.specs.WellFormed.{thread_of}
use Rattle.forec_kernel.proofs.Worked.{joined_sum}
use Rattle.forec_kernel.proofs.CanBeMet.{joined_sum_fine}
use Rattle.thread_code.specs.Plain.{PlainBlock, PlainCode}
use Rattle.thread_code.specs.Valid.{of_shape, IsParOf, IsSound, IsBlock, function_arguments, thread_scope, function_scope, deep_within, IsValidCode}
use Rattle.thread_code.proofs.KernelShape.{shape_is_fine}
use Rattle.thread_code.proofs.AllFine.{valid_all}
use Rattle.thread_code.proofs.WorkedCodes.{counter_code, counter_steps, joined_code, bare, adding, plus, par_steps}

abbrev code : PlainCode
code = joined_code policy.All

parent_of : (b : ℕ) → contains b (1 ∷ 2 ∷ []) ≡ true → (thread_of (of_shape code.shape) b).parent ≡ Some 0
parent_of zero h = cc
parent_of (suc zero) h = refl
parent_of (suc (suc zero)) h = refl
parent_of (suc (suc (suc b))) h = absurd (grind (arith, nat_tests))

own_par : IsParOf code.shape (Some 0) 0
own_par = record { owner = 0; is = refl; some = λ e. cc; parent = parent_of }

-- the loop of a counter
pub counter_sound : IsSound (thread_scope counter_code 0) (bare counter_steps)
counter_sound =
    record {
      depths = 0 ∷ 1 ∷ 0 ∷ 1 ∷ 2 ∷ 1 ∷ 0 ∷ 0 ∷ 0 ∷ 0 ∷ [];
      valid = valid_all _ _ _ refl refl
          (refl, ((omega arith, refl, refl), ((refl, refl), (refl, ((refl, omega arith, refl), ((refl, omega arith, refl), (refl, ((refl, refl), ((refl, λ le. refl), (refl, tt))))))))));
    }

main_sound : IsSound (thread_scope code 0) (bare par_steps)
main_sound =
    record {
      depths = 0 ∷ 0 ∷ 0 ∷ 0 ∷ 0 ∷ 0 ∷ 0 ∷ [];
      valid = valid_all _ _ _ refl refl
          ((own_par, omega arith, (refl, refl, omega arith)), ((refl, λ le. absurd (omega arith)), ((refl, refl), ((own_par, (refl, refl, omega arith)), ((refl, λ le. absurd (omega arith)), ((refl, refl), (refl, tt)))))));
    }

adding_sound : (t : ℕ) (n : ℤ) → contains 0 (uses_in code.shape.threads t) ≡ true → IsSound (thread_scope code t) (adding n)
adding_sound t n uses =
    record {
      depths = 0 ∷ 1 ∷ 2 ∷ 1 ∷ 0 ∷ 0 ∷ 0 ∷ [];
      valid = valid_all _ _ _ refl refl ((uses, refl), (refl, ((refl, omega arith, refl), ((uses, omega arith, refl), (refl, ((refl, refl), (refl, tt)))))));
    }

plus_sound : IsSound (function_scope code) plus
plus_sound =
    record {
      depths = 0 ∷ 1 ∷ 2 ∷ 1 ∷ [];
      valid = valid_all _ _ _ refl refl ((omega arith, refl), ((omega arith, refl), ((refl, omega arith, refl), ((refl, omega arith), tt))));
    }

thread_block : (t : ℕ) (b : PlainBlock) → slice_get code.threads t ≡ Some b → IsBlock (thread_scope code t) (params_in code.shape.threads t) (words_in code.shape.threads t) b
thread_block zero b e =
    let same : bare par_steps ≡ b = cc in subst (IsBlock (thread_scope code 0) 0 0) same (record { same = refl; enough = omega arith; sound = main_sound })
thread_block (suc zero) b e =
    let same : adding (pos 1) ≡ b = cc in
    subst (IsBlock (thread_scope code 1) 0 0) same (record { same = refl; enough = omega arith; sound = adding_sound 1 (pos 1) refl })
thread_block (suc (suc zero)) b e =
    let same : adding (pos 2) ≡ b = cc in
    subst (IsBlock (thread_scope code 2) 0 0) same (record { same = refl; enough = omega arith; sound = adding_sound 2 (pos 2) refl })
thread_block (suc (suc (suc zero))) b e = cc
thread_block (suc (suc (suc (suc t)))) b e = cc

function_block : (f : ℕ) (b : PlainBlock) → slice_get code.functions f ≡ Some b → IsBlock (function_scope code) (function_arguments code f) (function_words code.shape.functions f) b
function_block zero b e =
    let same : plus ≡ b = cc in subst (IsBlock (function_scope code) 2 2) same (record { same = refl; enough = omega arith; sound = plus_sound })
function_block (suc zero) b e = cc
function_block (suc (suc f)) b e = cc

ends : (f : ℕ) → f < 1 → deep_within code.functions 1 f ≡ true
ends zero lt = refl
ends (suc f) lt = absurd (omega arith)

pub joined_valid : IsValidCode code
joined_valid =
    record {
      shape = shape_is_fine (joined_sum policy.All) joined_sum_fine;
      threads = refl;
      functions = refl;
      each_thread = thread_block;
      each_function = function_block;
      ends = ends;
    }

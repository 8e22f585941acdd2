-- The small code is valid.
use Rattle.std.proofs.Common.{ℕ, zero, suc, ◌≡◌, ◌<◌, true, Some, List, [], ◌∷◌, map, refl, ap, ◌∙◌, subst, arith}
use Rattle.std.specs.Prelude.{slice_get}
use Rattle.forec_kernel.specs.declared.shape.Variable.{Variable}
use Rattle.forec_kernel.specs.Values.{function_words}
use Rattle.forec_kernel.specs.Texts.{params_in, words_in}
use Rattle.forec_kernel.specs.Shapes.{PlainShape, plain_shape}
use Rattle.thread_code.specs.declared.instruction.Block.{Block}
use Rattle.thread_code.specs.declared.instruction.CodeParts.{CodeParts}
use Rattle.thread_code.specs.Plain.{PlainBlock, PlainCode, plain_block, plain_code}
use Rattle.thread_code.specs.Valid.{FineShape, FineThreadShape, FineFunctionShape, FineCombine, IsBlock, function_arguments, thread_scope, function_scope, deep_within, IsValidCode}
use Rattle.thread_code.specs.Worked.{small_shape, small_main, small_function, small_code}
use Rattle.thread_code.proofs.AllFine.{valid_all}

fine_shape : FineShape small_shape
fine_shape =
    record {
      some = omega arith;
      root = record { parent = refl; par = refl; params = refl; uses = refl };
      each_thread = threads;
      each_child = λ t some lt. absurd (omega arith);
      each_function = functions;
      each_variable = variables;
      in_order = refl;
      inputs_named = refl;
      inputs_once = refl;
      outputs_named = refl;
      outputs_once = refl;
      names = refl;
      few_threads = omega arith;
      few_variables = omega arith;
      few_functions = omega arith;
      few_inputs = omega arith;
      few_outputs = omega arith;
      few_table_words = omega arith;
    }
  where
    threads : (t : ℕ) → t < 1 → FineThreadShape small_shape t
    threads zero lt = record { params = omega arith; words = omega arith; uses = refl }
    threads (suc t) lt = absurd (omega arith)

    functions : (f : ℕ) → f < 1 → FineFunctionShape small_shape f
    functions zero lt = record { params = omega arith; few = omega arith }
    functions (suc f) lt = absurd (omega arith)

    variables : (v : ℕ) (x : Variable) → slice_get {X = Variable} [] v ≡ Some x → FineCombine small_shape x
    variables zero x e = cc
    variables (suc v) x e = cc

main_block : IsBlock (thread_scope small_code 0) 0 1 small_main
main_block =
    record {
      same = refl;
      enough = omega arith;
      sound = record {
        depths = 0 ∷ 1 ∷ 1 ∷ 0 ∷ 0 ∷ [];
        valid = valid_all _ _ _ refl refl
            ((omega arith, refl), ((omega arith, omega arith, refl), ((omega arith, omega arith, refl), ((refl, refl), ((refl, λ le. refl), tt)))));
      };
    }

function_block : IsBlock (function_scope small_code) 1 1 small_function
function_block =
    record {
      same = refl;
      enough = omega arith;
      sound = record { depths = 0 ∷ 1 ∷ []; valid = valid_all _ _ _ refl refl (refl, ((refl, omega arith), tt)) };
    }

thread_blocks : (t : ℕ) (b : PlainBlock) → slice_get small_code.threads t ≡ Some b →
    IsBlock (thread_scope small_code t) (params_in small_shape.threads t) (words_in small_shape.threads t) b
thread_blocks zero b e = let same : small_main ≡ b = cc in subst (IsBlock (thread_scope small_code 0) 0 1) same main_block
thread_blocks (suc zero) b e = cc
thread_blocks (suc (suc t)) b e = cc

function_blocks : (f : ℕ) (b : PlainBlock) → slice_get small_code.functions f ≡ Some b →
    IsBlock (function_scope small_code) (function_arguments small_code f) (function_words small_shape.functions f) b
function_blocks zero b e = let same : small_function ≡ b = cc in subst (IsBlock (function_scope small_code) 1 1) same function_block
function_blocks (suc zero) b e = cc
function_blocks (suc (suc f)) b e = cc

ends : (f : ℕ) → f < 1 → deep_within small_code.functions 1 f ≡ true
ends zero lt = refl
ends (suc f) lt = absurd (omega arith)

pub small_valid : IsValidCode small_code
small_valid =
    record {
      shape = fine_shape;
      threads = refl;
      functions = refl;
      each_thread = thread_blocks;
      each_function = function_blocks;
      ends = ends;
    }

abbrev code_with : PlainShape → List PlainBlock → List PlainBlock → PlainCode
code_with s ts fs = record { shape = s; threads = ts; functions = fs }

pub parts_are : (parts : CodeParts) (m f : Block) → plain_shape parts.shape ≡ small_shape → parts.threads.items ≡ m ∷ [] → plain_block m ≡ small_main →
    parts.functions.items ≡ f ∷ [] → plain_block f ≡ small_function → plain_code parts ≡ small_code
parts_are parts m f shape threads main functions function =
    ap (λ s. code_with s (map plain_block parts.threads.items) (map plain_block parts.functions.items)) shape
    ∙ ap (λ ts. code_with small_shape (map plain_block ts) (map plain_block parts.functions.items)) threads
    ∙ ap (λ b. code_with small_shape (b ∷ []) (map plain_block parts.functions.items)) main
    ∙ ap (λ fs. code_with small_shape (small_main ∷ []) (map plain_block fs)) functions
    ∙ ap (λ b. code_with small_shape (small_main ∷ []) (b ∷ [])) function

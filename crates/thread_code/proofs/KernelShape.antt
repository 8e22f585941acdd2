-- The shape of each kernel is fine for a code.
use Rattle.std.proofs.Common.{◌≡◌, ℕ, zero, suc, ◌<◌, false, Some, List, [], ◌∷◌, length, get_or, refl, subst, arith}
use Rattle.std.specs.Prelude.{pos, None, slice_get}
use Rattle.std.proofs.lemmas.Option.{slice_get_within, get_or_from_slice_get}
use Rattle.forec_base.specs.declared.Policy.TheVariants.{Mod}
use Rattle.forec_kernel.specs.declared.shape.Variable.{Variable}
use Rattle.forec_kernel.specs.Shapes.{PlainKernel, PlainThread}
use Rattle.forec_kernel.specs.Texts.{params_in}
use Rattle.forec_kernel.specs.Combining.{variable_of}
use Rattle.forec_kernel.specs.WellFormed.{WellFormed, FineVariable, blank_thread}
use Rattle.thread_code.specs.Valid.{FineShape, FineThreadShape, FineFunctionShape, FineCombine}

params_are : (ss : List PlainThread) (t : ℕ) → (get_or ss t blank_thread).params ≡ params_in ss t
params_are [] zero = refl
params_are [] (suc t) = refl
params_are (s ∷ ss) zero = refl
params_are (s ∷ ss) (suc t) = params_are ss t

module _ (k : PlainKernel) (w : WellFormed k) where
  each_thread : (t : ℕ) → t < length k.shape.threads → FineThreadShape k.shape t
  each_thread t lt =
      let f = w.each_thread t (omega (arith, w.bodies)) in
      record { params = omega (arith, f.params, params_are k.shape.threads t); words = omega (arith, f.words); uses = f.uses }

  each_function : (f : ℕ) → f < length k.shape.functions → FineFunctionShape k.shape f
  each_function f lt =
      let g = w.each_function f (omega (arith, w.functions)) in record { params = g.params; few = g.few }

  each_variable : (v : ℕ) (x : Variable) → slice_get k.shape.variables v ≡ Some x → FineCombine k.shape x
  each_variable v x e =
      let is : variable_of k v ≡ x = get_or_from_slice_get k.shape.variables v x (record { policy = Mod; combine = None; start = pos 0; input = false }) e in
      let fine : FineVariable k x = subst (FineVariable k) is (w.each_variable v (slice_get_within k.shape.variables v x e)) in
      record { combine = λ f c. let g = fine.combine f c in (omega (arith, g.0, w.functions), g.1) }

  pub shape_is_fine : FineShape k.shape
  shape_is_fine =
      record {
        some = omega (arith, w.some, w.bodies);
        root = record { parent = w.root.parent; par = w.root.par; params = w.root.params; uses = w.root.uses };
        each_thread = each_thread;
        each_child = λ t some lt. let c = w.each_child t some (omega (arith, w.bodies)) in record { parent = c.parent; is = c.is; below = c.below; par = c.par; uses = c.uses };
        each_function = each_function;
        each_variable = each_variable;
        in_order = w.in_order;
        inputs_named = w.inputs_named;
        inputs_once = w.inputs_once;
        outputs_named = w.outputs_named;
        outputs_once = w.outputs_once;
        names = w.names;
        few_threads = omega (arith, w.few_threads, w.bodies);
        few_variables = w.few_variables;
        few_functions = omega (arith, w.few_functions, w.functions);
        few_inputs = w.few_inputs;
        few_outputs = w.few_outputs;
        few_table_words = w.few_table_words;
      }

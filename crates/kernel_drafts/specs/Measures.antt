-- The parts of a kernel on which words and depth depend.
use Rattle.std.specs.Prelude.{ℕ, ◌≡◌, ◌<◌, ◌-◌, ◌^◌, min, true, List, [], map, length}
use Rattle.forec_kernel.specs.declared.shape.FunctionShape.{FunctionShape}
use Rattle.forec_kernel.specs.declared.terms.Statement.{Statement}
use Rattle.forec_kernel.specs.Plain.{stmt}
use Rattle.forec_kernel.specs.Shapes.{PlainKernel, plain_thread}
use Rattle.forec_kernel.specs.Combining.{contains}
use Rattle.forec_kernel.specs.Values.{function_words}
use Rattle.forec_kernel.specs.WellFormed.{stmt_calls, stmt_depth, function_body, thread_calls, chain}
use Rattle.kernel_drafts.specs.declared.measure.Draft.{Draft}
use Rattle.kernel_drafts.specs.declared.measure.Chains.{Chains}
use Rattle.text_kernel.specs.Limits.{function_depth}
use Rattle.kernel_drafts.specs.Marks.{row_uses, shape_uses}
use Rattle.kernel_drafts.specs.Reach.{value_at}

-- a kernel of these parts
abbrev pub plain_draft : Draft → PlainKernel
plain_draft d =
    record {
      shape = record {
        threads = map plain_thread d.threads.items;
        variables = d.variables.items;
        functions = d.functions.shapes.items;
        tables = [];
        inputs = [];
        outputs = [];
        names = [];
      };
      threads = map stmt d.texts.items;
      functions = map stmt d.functions.bodies.items;
    }

-- each call is of a function that there is
pub record CallsLow (k : PlainKernel) : Type 0 where
  pub functions : (f g : ℕ) → f < length k.functions → contains g (stmt_calls (function_body k f)) ≡ true → g < length k.functions
  pub threads : (t g : ℕ) → t < length k.threads → contains g (thread_calls k t) ≡ true → g < length k.functions

-- the lists are of one length, and the rows are those of the threads
pub record IsConsistent (d : Draft) : Type 0 where
  pub threads : length d.texts.items ≡ length d.threads.items
  pub functions : length d.functions.bodies.items ≡ length d.functions.shapes.items
  pub rows : map row_uses d.rows.items ≡ map shape_uses d.threads.items

abbrev pub words_of_shape : FunctionShape → ℕ
words_of_shape s = min s.words (2 ^ 64 - 1)

abbrev pub depth_of_body : Statement → ℕ
depth_of_body s = min (stmt_depth (stmt s)) (2 ^ 64 - 1)

-- the sums of words and of depths along chains of calls
pub record HasChains (k : PlainKernel) (c : Chains) : Type 0 where
  pub words : (f : ℕ) → f < length k.functions → value_at c.words.items f ≡ min (chain (function_words k.shape.functions) k (length k.functions) f) (2 ^ 64 - 1)
  pub depths : (f : ℕ) → f < length k.functions → value_at c.depths.items f ≡ min (function_depth k f) (2 ^ 64 - 1)

-- the sums of words alone
abbrev pub HasWords : PlainKernel → List ℕ → Type 0
HasWords k table = (f : ℕ) → f < length k.functions → value_at table f ≡ min (chain (function_words k.shape.functions) k (length k.functions) f) (2 ^ 64 - 1)

-- the draft of a kernel
pub record IsDraft (k : PlainKernel) (d : Draft) : Type 0 where
  pub threads : map plain_thread d.threads.items ≡ k.shape.threads
  pub texts : map stmt d.texts.items ≡ k.threads
  pub variables : d.variables.items ≡ k.shape.variables
  pub shapes : d.functions.shapes.items ≡ k.shape.functions
  pub bodies : map stmt d.functions.bodies.items ≡ k.functions
  pub fits : IsConsistent d

-- The threads of a kernel, beside the tree of threads that the rules of the language speak of.
use Rattle.std.specs.Prelude.{ℕ, suc, ◌+◌, ◌≡◌, ◌<◌, Option, Some, None, List, [], ◌∷◌, ◌++◌, map, length, slice_get}
use Rattle.forec_tree.specs.Terms.{Text}
use Rattle.forec_tree.specs.Variables.{variables}
use Rattle.forec_tree.specs.ThreadTree.{InstanceTree, no_threads, thread, count_instances, thread_tree, uses}
use Rattle.forec_kernel.specs.Shapes.{PlainKernel}
use Rattle.forec_kernel.specs.Texts.{uses_of}

-- In preorder, the thread in which each instance of a tree starts, where the first instance has the number m and starts in thread t.
abbrev pub parents : Option ℕ → ℕ → InstanceTree → List (Option ℕ)
parents t m no_threads = []
parents t m (thread named below rest) = t ∷ (parents (Some m) (suc m) below ++ parents t (suc m + count_instances below) rest)

-- The threads of a kernel are the instances of the program's tree, by their numbers in preorder.
pub record ThreadsOfTree (text : Text) (first : ℕ) (k : PlainKernel) : Type 0 where
  pub count : length k.threads ≡ count_instances (thread_tree text first)
  pub parents : map (λ s. s.parent) k.shape.threads ≡ parents None 0 (thread_tree text first)

-- The variables of which a thread of a kernel has copies are those whose names occur in the text of the instance of its number, or of one below
-- it; each element of a shared array is a variable.
abbrev pub UsesOfTree : Text → ℕ → PlainKernel → Type 0
UsesOfTree text first k = (t : ℕ) → t < length k.threads → map (slice_get (variables text)) (uses_of k t) ≡ map Some (uses text first t)

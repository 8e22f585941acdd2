-- The limits of `lower`: each is a number that is computed from the kernel of the text.
use Rattle.std.specs.Prelude.{ℕ, ◌+◌, ◌≡◌, ◌<◌, ◌≤◌, max, List, [], ◌∷◌, length, map, sum}
use Rattle.forec_base.specs.declared.limits.TheConstants.{MAX_THREADS, MAX_WORDS, MAX_GLOBALS, MAX_TABLE_WORDS, MAX_TERMS, MAX_DEPTH}
use Rattle.forec_tree.specs.Terms.{Text}
use Rattle.forec_tree.specs.Faults.{Member}
use Rattle.forec_kernel.specs.Shapes.{PlainKernel, PlainThread}
use Rattle.forec_kernel.specs.Texts.{words_of, body_of}
use Rattle.forec_kernel.specs.Values.{function_words}
use Rattle.forec_kernel.specs.WellFormed.{count_up, greatest, chain, thread_calls, function_body, stmt_depth, bodies_terms}
use Rattle.text_kernel.specs.declared.limits.Quantity.{Quantity}
use Rattle.text_kernel.specs.declared.limits.Quantity.TheVariants.{Threads, Words, Globals, Tables, Terms, Depth}
use Rattle.text_kernel.specs.Kernels.{kernel_of}

abbrev pub thread_words : PlainKernel → ℕ → ℕ
thread_words k t = words_of k t + greatest (chain (function_words k.shape.functions) k (length k.functions)) (thread_calls k t)

abbrev pub function_depth : PlainKernel → ℕ → ℕ
function_depth k f = chain (λ g. stmt_depth (function_body k g)) k (length k.functions) f

abbrev pub thread_depth : PlainKernel → ℕ → ℕ
thread_depth k t = stmt_depth (body_of k t) + greatest (function_depth k) (thread_calls k t)

unfoldable pub amount : Quantity → PlainKernel → ℕ
amount Threads k = length k.threads
amount Words k = greatest (thread_words k) (count_up 0 (length k.threads))
amount Globals k = length k.shape.variables
amount Tables k = sum (map (λ table. length table) k.shape.tables)
amount Terms k = bodies_terms k.threads + bodies_terms k.functions
amount Depth k = max (greatest (thread_depth k) (count_up 0 (length k.threads))) (greatest (function_depth k) (count_up 0 (length k.functions)))

abbrev pub limit_of : Quantity → ℕ
limit_of Threads = MAX_THREADS
limit_of Words = MAX_WORDS
limit_of Globals = MAX_GLOBALS
limit_of Tables = MAX_TABLE_WORDS
limit_of Terms = MAX_TERMS
limit_of Depth = MAX_DEPTH

abbrev pub earlier : Quantity → List Quantity
earlier Threads = []
earlier Words = Threads ∷ []
earlier Globals = Threads ∷ Words ∷ []
earlier Tables = Threads ∷ Words ∷ Globals ∷ []
earlier Terms = Threads ∷ Words ∷ Globals ∷ Tables ∷ []
earlier Depth = Threads ∷ Words ∷ Globals ∷ Tables ∷ Terms ∷ []

abbrev pub IsWithinLimit : PlainKernel → Quantity → Type 0
IsWithinLimit k q = amount q k ≤ limit_of q

-- `Ok` comes where this holds, or memory is wanting
abbrev pub WithinLimits : PlainKernel → Type 0
WithinLimits k = (q : Quantity) → IsWithinLimit k q

-- `Limit { what, count }`
pub record IsLimit (text : Text) (names : List (List ℕ)) (what : Quantity) (count : ℕ) : Type 0 where
  pub passes : limit_of what < amount what (kernel_of text names)
  pub first : (q : Quantity) → Member q (earlier what) → IsWithinLimit (kernel_of text names) q
  pub is : count ≡ limit_of what

-- the words of the widest thread, apart from those of the functions that it calls
abbrev pub widest : List PlainThread → ℕ
widest [] = 0
widest (s ∷ rest) = max s.words (widest rest)

-- the most words that a chain of calls of int functions takes
abbrev pub longest : PlainKernel → ℕ
longest k = greatest (chain (function_words k.shape.functions) k (length k.functions)) (count_up 0 (length k.functions))

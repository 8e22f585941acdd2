-- The fields of `WellFormed` that are limits.
use Rattle.std.proofs.Common.{ℕ, zero, suc, ◌+◌, ◌<◌, ◌≤◌, ◌≡◌, max, length, map, sum, arith}
use Rattle.forec_kernel.specs.Shapes.{PlainKernel}
use Rattle.forec_kernel.specs.Texts.{words_of, body_of}
use Rattle.forec_kernel.specs.Values.{function_words}
use Rattle.forec_kernel.specs.WellFormed.{count_up, greatest, chain, thread_calls, function_body, stmt_depth, bodies_terms}
use Rattle.text_kernel.specs.declared.limits.Quantity.TheVariants.{Threads, Words, Globals, Tables, Terms, Depth}
use Rattle.text_kernel.specs.Limits.{amount, thread_words, thread_depth, function_depth, WithinLimits}

-- the t-th number from one on
each_at : (f : ℕ → ℕ) (from n most i : ℕ) → greatest f (count_up from n) ≤ most → i < n → f (from + i) ≤ most
each_at f from zero most i h l = absurd (omega arith)
each_at f from (suc n) most zero h l = let e : from + 0 ≡ from = omega arith in rw e (omega (arith, h))
each_at f from (suc n) most (suc i) h l =
    let g = each_at f (suc from) n most i (omega (arith, h)) (omega arith) in
    let e : from + suc i ≡ suc from + i = omega arith in rw e g

each : (f : ℕ → ℕ) (n most i : ℕ) → greatest f (count_up 0 n) ≤ most → i < n → f i ≤ most
each f n most i h l = let e : i ≡ 0 + i = omega arith in rw e (each_at f 0 n most i h l)

module _ (k : PlainKernel) (within : WithinLimits k) where
  pub few_threads : length k.threads ≤ 256
  unfolding amount
  few_threads = within Threads

  pub few_variables : length k.shape.variables ≤ 4096
  unfolding amount
  few_variables = within Globals

  pub few_table_words : sum (map (λ table. length table) k.shape.tables) ≤ 1048576
  unfolding amount
  few_table_words = within Tables

  pub few_terms : bodies_terms k.threads + bodies_terms k.functions ≤ 200000
  unfolding amount
  few_terms = within Terms

  pub words : (t : ℕ) → t < length k.threads → words_of k t + greatest (chain (function_words k.shape.functions) k (length k.functions)) (thread_calls k t) ≤ 65536
  unfolding amount
  words t l = each (thread_words k) (length k.threads) 65536 t (within Words) l

  depths : max (greatest (thread_depth k) (count_up 0 (length k.threads))) (greatest (function_depth k) (count_up 0 (length k.functions))) ≤ 4096
  unfolding amount
  depths = within Depth

  pub depth : (t : ℕ) → t < length k.threads → stmt_depth (body_of k t) + greatest (chain (λ f. stmt_depth (function_body k f)) k (length k.functions)) (thread_calls k t) ≤ 4096
  depth t l = let h = depths in each (thread_depth k) (length k.threads) 4096 t (omega (arith, h)) l

  pub functions_depth : (f : ℕ) → f < length k.functions → chain (λ g. stmt_depth (function_body k g)) k (length k.functions) f ≤ 4096
  functions_depth f l = let h = depths in each (function_depth k) (length k.functions) 4096 f (omega (arith, h)) l

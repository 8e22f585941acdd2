-- Threads are placed heaviest first, each on the core with the least load so far.
use Rattle.std.specs.Prelude.{ℕ, zero, suc, ◌+◌, ◌*◌, ◌≡◌, ◌<◌, ◌≤◌, ◌==◌, Bool, false, nat_lt, ◌&&◌, ◌||◌, cond, List, [], ◌∷◌, length, replicate, max, sum, sum_by, slice_index_or, slice_set}
use Rattle.std.specs.List.Sorted.{IsPermutation, IsSortedBy}
use Rattle.core_alloc.specs.declared.ranked.Ranked.{Ranked}

-- the threads from a number on, with their weights
abbrev pub ranked_from : ℕ → List ℕ → List Ranked
ranked_from thread [] = []
ranked_from thread (weight ∷ weights) = record { weight = record { 0 = weight }; thread = thread } ∷ ranked_from (suc thread) weights

-- a heavier thread comes before a lighter one, and of equal ones the lower number
abbrev pub comes_before : Ranked → Ranked → Bool
comes_before a b = nat_lt b.weight.0 a.weight.0 || (a.weight.0 == b.weight.0 && nat_lt a.thread b.thread)

-- the weights together, and the heaviest
abbrev pub total_weight : List Ranked → ℕ
total_weight order = sum_by (λ r. r.weight.0) order

abbrev pub heaviest : List ℕ → ℕ
heaviest [] = 0
heaviest (weight ∷ weights) = max weight (heaviest weights)

pub record IsHeaviestFirst (weights : List ℕ) (order : List Ranked) : Type 0 where
  pub all : IsPermutation (ranked_from 0 weights) order
  pub sorted : IsSortedBy comes_before order

-- the load of each core, and the core of each thread
pub record Balance : Type 0 where
  pub loads : List ℕ
  pub places : List ℕ

-- of the first so many cores the one with the least load, the lowest of equal ones
abbrev pub lightest_in : List ℕ → ℕ → ℕ
lightest_in loads zero = 0
lightest_in loads (suc n) = cond (nat_lt (slice_index_or loads n 0) (slice_index_or loads (lightest_in loads n) 0)) n (lightest_in loads n)

abbrev pub lightest : List ℕ → ℕ
lightest loads = lightest_in loads (length loads)

-- a thread is placed on the core with the least load
abbrev pub placed : Ranked → Balance → Balance
placed thread b =
    let core = lightest b.loads in
    record { loads = slice_set b.loads core (slice_index_or b.loads core 0 + thread.weight.0); places = slice_set b.places thread.thread core }

abbrev pub placed_all : List Ranked → Balance → Balance
placed_all [] b = b
placed_all (thread ∷ threads) b = placed_all threads (placed thread b)

-- nothing is placed yet on so many cores
abbrev pub nothing_placed : ℕ → ℕ → Balance
nothing_placed cores threads = record { loads = replicate cores 0; places = replicate threads 0 }

abbrev pub balance_of : List Ranked → ℕ → Balance
balance_of order cores = placed_all order (nothing_placed cores (length order))

-- the cores of threads with these weights are balanced
pub record IsBalanced (weights : List ℕ) (cores : ℕ) (places : List ℕ) : Type 0 where
  pub order : List Ranked
  pub heaviest_first : IsHeaviestFirst weights order
  pub is : places ≡ (balance_of order cores).places

-- the load of a core: the weights of the threads that are placed on it
abbrev pub load_of : List ℕ → List ℕ → ℕ → ℕ
load_of weights places core = sum_by (λ r. cond (slice_index_or places r.thread 0 == core) r.weight.0 0) (ranked_from 0 weights)

-- no core has more than its share of all weights and the heaviest one together
abbrev pub IsEven : List ℕ → ℕ → List ℕ → Type 0
IsEven weights cores places = (core : ℕ) → core < cores → cores * load_of weights places core ≤ sum weights + cores * heaviest weights

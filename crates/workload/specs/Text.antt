-- The text of a workload of so many threads.
use Rattle.std.specs.Prelude.{ℕ, zero, suc, ◌+◌, ◌*◌, ◌==◌, nat_lt, cond, List, [], ◌++◌, codes, decimal}

abbrev pub head_lines : List ℕ
head_lines = codes "shared output int s = 0 combine mod with plus;\nint plus(int a, int b) { return a + b; }\n"

-- a thread with two branches
abbrev pub pair_line : ℕ → List ℕ
pair_line k = codes "void t" ++ decimal k ++ codes "(void) { par(t" ++ decimal (2 * k) ++ codes ", t" ++ decimal (2 * k + 1) ++ codes "); }\n"

-- a thread with one branch
abbrev pub single_line : ℕ → List ℕ
single_line k = codes "void t" ++ decimal k ++ codes "(void) { par(t" ++ decimal (2 * k) ++ codes "); }\n"

-- a thread without branches
abbrev pub leaf_line : ℕ → List ℕ
leaf_line k = codes "void t" ++ decimal k ++ codes "(void) { int i = " ++ decimal k ++ codes "; while (1) { s = i; i = i + " ++ decimal k ++ codes "; pause; } }\n"

-- thread k of so many forks threads 2k and 2k + 1 where there are such
abbrev pub workload_thread_line : ℕ → ℕ → List ℕ
workload_thread_line threads k = cond (nat_lt (2 * k) threads) (pair_line k) (cond (2 * k == threads) (single_line k) (leaf_line k))

-- of the first so many threads
abbrev pub workload_lines_to : ℕ → ℕ → List ℕ
workload_lines_to threads zero = []
workload_lines_to threads (suc k) = workload_lines_to threads k ++ workload_thread_line threads (suc k)

unfoldable pub workload_text : ℕ → List ℕ
workload_text threads = head_lines ++ workload_lines_to threads threads ++ codes "void main(void) { par(t1); }\n"

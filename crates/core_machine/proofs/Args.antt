-- The arguments of branches on a stack.
use Rattle.std.proofs.Common.{◌≡◌, ℕ, zero, suc, ◌+◌, ◌-◌, ◌<◌, ◌≤◌, List, [], ◌∷◌, ◌++◌, length, take, drop, get_or, refl, sym, ap, ◌∙◌, ⊎_elim, arith, drop-cons}
use Rattle.std.specs.Prelude.{ℤ, pos}
use Rattle.std.proofs.lemmas.Bool.{cases_lt}
use Rattle.forec_kernel.specs.Shapes.{PlainShape}
use Rattle.forec_kernel.specs.Texts.{params_in}
use Rattle.forec_kernel.specs.Values.{word}
use Rattle.thread_code.specs.Valid.{arguments_of}
use Rattle.thread_state.specs.Frames.{topmost_arguments, args_from}
use Rattle.core_machine.specs.Forks.{AreThreads}
use Rattle.thread_state.proofs.Lists.{take_next}

-- ---- how many arguments there are

pub sum_more : (s : PlainShape) (bs : List ℕ) (b : ℕ) → arguments_of s (bs ++ b ∷ []) ≡ arguments_of s bs + params_in s.threads b
sum_more s [] b = omega arith
sum_more s (x ∷ bs) b = omega (arith, sum_more s bs b)

pub sum_next : (s : PlainShape) (bs : List ℕ) (k : ℕ) → k < length bs → arguments_of s (take (k + 1) bs) ≡ arguments_of s (take k bs) + params_in s.threads (get_or bs k 0)
sum_next s bs k lt = ap (arguments_of s) (take_next bs k 0 lt) ∙ sum_more s (take k bs) (get_or bs k 0)

pub sum_within : (s : PlainShape) (bs : List ℕ) (k : ℕ) → k < length bs → arguments_of s (take k bs) + params_in s.threads (get_or bs k 0) ≤ arguments_of s bs
sum_within s [] k lt = absurd (omega arith)
sum_within s (b ∷ bs) zero lt = omega arith
sum_within s (b ∷ bs) (suc k) lt = omega (arith, sum_within s bs k (omega arith))

pub sum_parts : (s : PlainShape) (bs : List ℕ) (k : ℕ) → arguments_of s bs ≡ arguments_of s (take k bs) + arguments_of s (drop k bs)
sum_parts s [] zero = omega arith
sum_parts s [] (suc k) = omega arith
sum_parts s (b ∷ bs) zero = omega arith
sum_parts s (b ∷ bs) (suc k) = omega (arith, sum_parts s bs k)

pub thread_within : (s : PlainShape) (bs : List ℕ) (k : ℕ) → AreThreads s bs → k < length bs → get_or bs k 0 < length s.threads
thread_within s [] k h lt = absurd (omega arith)
thread_within s (b ∷ bs) zero h lt = h.0
thread_within s (b ∷ bs) (suc k) h lt = thread_within s bs k h.1 (omega arith)

pub all_taken : (bs : List ℕ) → take (length bs) bs ≡ bs
all_taken [] = refl
all_taken (b ∷ bs) = ap (λ l. b ∷ l) (all_taken bs)

-- ---- reading them

-- arguments that lie so much deeper
pub args_shift : (n total first deeper : ℕ) (stack : List ℤ) → args_from (deeper + total) (deeper + first) n stack ≡ args_from total first n stack
args_shift zero total first deeper stack = refl
args_shift (suc n) total first deeper stack =
    let e : deeper + total - 1 - (deeper + first) ≡ total - 1 - first = omega arith in
    let m : suc (deeper + first) ≡ deeper + suc first = omega arith in
    ap (λ k. word stack k ∷ args_from (deeper + total) (suc (deeper + first)) n stack) e
    ∙ ap (λ k. word stack (total - 1 - first) ∷ args_from (deeper + total) k n stack) m
    ∙ ap (λ l. word stack (total - 1 - first) ∷ l) (args_shift n total (suc first) deeper stack)

-- those of the k-th branch lie below those of the branches after it
pub args_behind : (s : PlainShape) (bs : List ℕ) (k n : ℕ) (stack : List ℤ) → args_from (arguments_of s bs) (arguments_of s (take k bs)) n stack ≡ args_from (arguments_of s (drop k bs)) 0 n stack
args_behind s bs k n stack =
    let first = arguments_of s (take k bs) in
    let count = arguments_of s (drop k bs) in
    let z : first ≡ first + 0 = omega arith in
    ap (λ total. args_from total first n stack) (sum_parts s bs k) ∙ ap (λ from. args_from (first + count) from n stack) z ∙ args_shift n count 0 first stack

-- what lies after the topmost numbers
argument_past : (n : ℕ) (stack args : List ℤ) (i : ℕ) → n ≤ length stack → get_or (topmost_arguments n stack args) (n + i) (pos 0) ≡ get_or args i (pos 0)
argument_past zero stack args i le = let e : zero + i ≡ i = omega arith in ap (λ k. get_or args k (pos 0)) e
argument_past (suc n) [] args i le = absurd (omega arith)
argument_past (suc n) (x ∷ stack) args i le = let e : suc n + i ≡ n + suc i = omega arith in ap (λ k. get_or (topmost_arguments n stack (x ∷ args)) k (pos 0)) e ∙ argument_past n stack (x ∷ args) (suc i) (omega arith)

-- the number that lies so deep among the topmost ones
argument_at : (n : ℕ) (stack args : List ℤ) (i : ℕ) → n ≤ length stack → i < n → get_or (topmost_arguments n stack args) i (pos 0) ≡ word stack (n - 1 - i)
argument_at zero stack args i le lt = absurd (omega arith)
argument_at (suc n) [] args i le lt = absurd (omega arith)
argument_at (suc n) (x ∷ stack) args i le lt =
    ⊎_elim
    (λ less.
    let e : suc n - 1 - i ≡ suc (n - 1 - i) = omega arith in
    argument_at n stack (x ∷ args) i (omega arith) less ∙ sym (ap (word (x ∷ stack)) e))
    (λ more.
    let e : i ≡ n + 0 = omega (arith, more, lt) in
    let z : suc n - 1 - i ≡ 0 = omega (arith, more, lt) in
    ap (λ k. get_or (topmost_arguments n stack (x ∷ args)) k (pos 0)) e ∙ argument_past n stack (x ∷ args) 0 (omega arith) ∙ sym (ap (word (x ∷ stack)) z))
    (cases_lt i n)

pub length_arguments : (n : ℕ) (stack args : List ℤ) → n ≤ length stack → length (topmost_arguments n stack args) ≡ n + length args
length_arguments zero stack args le = omega arith
length_arguments (suc n) [] args le = absurd (omega arith)
length_arguments (suc n) (x ∷ stack) args le = omega (arith, length_arguments n stack (x ∷ args) (omega arith))

pub args_are : (total : ℕ) (stack : List ℤ) (n first : ℕ) → total ≤ length stack → first + n ≤ total → take n (drop first (topmost_arguments total stack [])) ≡ args_from total first n stack
args_are total stack zero first le within = take_none (drop first (topmost_arguments total stack []))
  where
    take_none : (xs : List ℤ) → take 0 xs ≡ []
    take_none [] = refl
    take_none (x ∷ xs) = refl
args_are total stack (suc n) first le within =
    let xs = topmost_arguments total stack [] in
    let lt : first < length xs = omega (arith, length_arguments total stack [] le) in
    ap (take (suc n)) (drop-cons xs first (pos 0) lt)
    ∙ ap (λ x. x ∷ take n (drop (suc first) xs)) (argument_at total stack [] first le (omega arith))
    ∙ ap (λ l. word stack (total - 1 - first) ∷ l) (args_are total stack n (suc first) le (omega arith))

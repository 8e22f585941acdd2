-- A thread's bound, and a function's, from the bounds of what they name.
use Rattle.std.proofs.Common.{ℕ, zero, suc, ◌+◌, ◌<◌, ◌≤◌, ◌≡◌, ◌∙◌, nat_lt, IsTrue, Bool, true, false, Option, Some, None, is_some, List, [], ◌∷◌, length, get_or, refl, ap, sym, arith}
use Rattle.std.proofs.lemmas.Bool.Decides.{nat_tests}
use Rattle.std.proofs.lemmas.List.{get_or_past}
use Rattle.forec_kernel.specs.Terms.{Nop}
use Rattle.forec_kernel.specs.Shapes.{PlainKernel}
use Rattle.forec_kernel.specs.Values.{function_words}
use Rattle.forec_kernel.specs.Texts.{uses_of, body_of}
use Rattle.forec_kernel.specs.Combining.{contains}
use Rattle.forec_kernel.specs.WellFormed.{WellFormed, pars_of, function_body, thread_of, blank_thread}
use Rattle.tick_bounds.specs.Bound.{stmt_bound, function_bound, function_within, thread_within, thread_bound}
use Rattle.tick_bounds.proofs.Agreeing.{AllAbove, EachAbove, first_contains, later_contains, body_same, threads_same}
use Rattle.tick_bounds.proofs.Ranks.{settled}

-- ---- int functions

pub function_past : (k : PlainKernel) (deep f : ℕ) → length k.functions ≤ f → function_within k deep f ≡ 0
function_past k zero f h = refl
function_past k (suc deep) f h =
    ap (λ s. stmt_bound k (record { function = function_within k deep; thread = λ t. 0 }) [] s) (get_or_past k.functions f Nop h)

-- an int function's bound is that of its body, by the bounds of functions
pub function_unfolds : (k : PlainKernel) → WellFormed k → (f : ℕ) →
    function_bound k f ≡ stmt_bound k (record { function = function_bound k; thread = λ t. 0 }) [] (function_body k f)
function_unfolds k wf f =
    sym
    (settled k wf (function_within k) (function_past k)
    (λ deep g within agree. body_same k (record { kernel = k; words = function_words k.shape.functions g; uses = [] }) (function_within k (suc deep))
    (function_within k deep) (λ t. 0) (λ t. 0) (function_body k g) (wf.each_function g within).body agree) f)

-- ---- branches have greater numbers than their parent

all_above : (t : ℕ) (bs : List ℕ) → ((b : ℕ) → IsTrue (contains b bs) → t < b) → AllAbove t bs
all_above t [] h = tt
all_above t (b ∷ bs) h = (h b (first_contains b bs), all_above t bs (λ c e. h c (later_contains c b bs e)))

each_above : (t : ℕ) (ps : List (List ℕ)) → ((i : ℕ) → i < length ps → AllAbove t (get_or ps i [])) → EachAbove t ps
each_above t [] h = tt
each_above t (p ∷ ps) h = (h 0 (omega arith), each_above t ps (λ i l. h (suc i) (omega arith)))

-- a thread with a parent is one of the kernel's, and not thread 0
no_parent : (o : Option ℕ) (t : ℕ) → o ≡ None → o ≡ Some t → ⊥
no_parent None t e h = cc
no_parent (Some p) t e h = cc

same_parent : (t p : ℕ) → Some t ≡ Some p → t ≡ p
same_parent t p e = cc

parent_below : (k : PlainKernel) → WellFormed k → (t b : ℕ) → (thread_of k b).parent ≡ Some t → t < b
parent_below k wf t zero h = absurd (root_has_none (thread_of k 0).parent wf.root.parent h)
  where
    root_has_none : (o : Option ℕ) → is_some o ≡ false → o ≡ Some t → ⊥
    root_has_none None n e = cc
    root_has_none (Some p) n e = cc
parent_below k wf t (suc b) h = pick (nat_lt (suc b) (length k.threads)) refl
  where
    pick : (x : Bool) → nat_lt (suc b) (length k.threads) ≡ x → t < suc b
    pick true e =
        let child = wf.each_child (suc b) (omega arith) (grind (arith, nat_tests)) in
        let same : t ≡ child.parent = same_parent t child.parent (sym h ∙ child.is) in
        let below = child.below in
        omega arith
    pick false e =
        let bodies = wf.bodies in
        let past : length k.shape.threads ≤ suc b = grind (arith, nat_tests) in
        let none : (thread_of k (suc b)).parent ≡ None = ap (λ s. s.parent) (get_or_past k.shape.threads (suc b) blank_thread past) in
        absurd (no_parent (thread_of k (suc b)).parent t none h)

pub body_above : (k : PlainKernel) → WellFormed k → (t : ℕ) → t < length k.threads → EachAbove t (pars_of (body_of k t))
body_above k wf t h =
    each_above t (pars_of (body_of k t))
    (λ i l. let p = (wf.each_thread t h).pars (get_or (pars_of (body_of k t)) i []) i l refl in
    all_above t (get_or (pars_of (body_of k t)) i []) (λ b e. parent_below k wf t b (p.parent b e)))

-- ---- threads

pub thread_past : (k : PlainKernel) (deep t : ℕ) → length k.threads ≤ t → thread_within k deep t ≡ 0
thread_past k zero t h = refl
thread_past k (suc deep) t h =
    ap (λ s. stmt_bound k (record { function = function_bound k; thread = thread_within k deep }) (uses_of k t) s)
    (get_or_past k.threads t Nop h)

thread_case : (k : PlainKernel) → WellFormed k → (deep t : ℕ) → ((b : ℕ) → t < b → thread_within k (suc deep) b ≡ thread_within k deep b) →
    (x : Bool) → nat_lt t (length k.threads) ≡ x → thread_within k (suc (suc deep)) t ≡ thread_within k (suc deep) t
thread_case k wf deep t ih true e =
    threads_same k t (uses_of k t) (function_bound k) (function_bound k) (thread_within k (suc deep)) (thread_within k deep) (λ c. refl) ih (body_of k t)
    (body_above k wf t (grind (arith, nat_tests)))
thread_case k wf deep t ih false e =
    let past : length k.threads ≤ t = grind (arith, nat_tests) in thread_past k (suc (suc deep)) t past ∙ sym (thread_past k (suc deep) t past)

-- once it is deep enough, more depth changes nothing
thread_settled : (k : PlainKernel) → WellFormed k → (deep t : ℕ) → length k.threads ≤ t + deep →
    thread_within k (suc deep) t ≡ thread_within k deep t
thread_settled k wf zero t h = thread_past k 1 t (omega arith)
thread_settled k wf (suc deep) t h =
    thread_case k wf deep t (λ b l. thread_settled k wf deep b (omega arith)) (nat_lt t (length k.threads)) refl

-- a thread's bound is that of its body, by the bounds of functions and of threads
pub thread_unfolds : (k : PlainKernel) → WellFormed k → (t : ℕ) →
    thread_bound k t ≡ stmt_bound k (record { function = function_bound k; thread = thread_bound k }) (uses_of k t) (body_of k t)
thread_unfolds k wf t = sym (thread_settled k wf (length k.threads) t (omega arith))

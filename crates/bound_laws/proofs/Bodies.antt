-- Each thread's body costs at most its bound.
use Rattle.std.proofs.Common.{ℕ, zero, suc, ◌+◌, ◌<◌, ◌≤◌, ◌≡◌, nat_lt, ℤ, Bool, true, false, List, [], ◌∷◌, length, get_or, refl, sym, subst, arith}
use Rattle.std.proofs.lemmas.Bool.Decides.{nat_tests}
use Rattle.std.proofs.lemmas.List.{get_or_past}
use Rattle.forec_kernel.specs.declared.shape.VarCopy.{VarCopy}
use Rattle.forec_kernel.specs.Terms.{Nop}
use Rattle.forec_kernel.specs.Shapes.{PlainKernel, PlainThread}
use Rattle.forec_kernel.specs.Texts.{text_of, params_in, params_of, uses_of, words_of, body_of}
use Rattle.forec_kernel.specs.WellFormed.{WellFormed, blank_thread}
use Rattle.tick_bounds.specs.Bound.{Bounds, function_bound, stmt_bound, thread_within}
use Rattle.bound_laws.specs.Paced.{Paced}
use Rattle.bound_laws.proofs.Within.{Within, done_within}
use Rattle.tick_bounds.proofs.Unfolds.{body_above}
use Rattle.bound_laws.proofs.Statements.{stmt_within}

-- ---- a thread has no more parameters than words

params_as : (ss : List PlainThread) (t : ℕ) → params_in ss t ≡ (get_or ss t blank_thread).params
params_as [] t = refl
params_as (s ∷ ss) zero = refl
params_as (s ∷ ss) (suc t) = params_as ss t

no_params : (ss : List PlainThread) (t : ℕ) → length ss ≤ t → params_in ss t ≡ 0
no_params [] t h = refl
no_params (s ∷ ss) zero h = absurd (omega arith)
no_params (s ∷ ss) (suc t) h = no_params ss t (omega arith)

params_fit : (k : PlainKernel) → WellFormed k → (t : ℕ) → params_of k t ≤ words_of k t
params_fit k wf t = pick (nat_lt t (length k.threads)) refl
  where
    pick : (x : Bool) → nat_lt t (length k.threads) ≡ x → params_of k t ≤ words_of k t
    pick true e =
        let within : t < length k.threads = grind (arith, nat_tests) in
        let fits = (wf.each_thread t within).params in
        omega (arith, params_as k.shape.threads t)
    pick false e =
        let bodies = wf.bodies in
        let past : length k.shape.threads ≤ t = grind (arith, nat_tests) in
        omega (arith, no_params k.shape.threads t past)

-- ---- bodies, at most so many pars deep

either : (k : PlainKernel) → WellFormed k → Paced k → (deep t : ℕ) →
    ((b : ℕ) → t < b → (m : ℕ) (w : List ℤ) (c : List VarCopy) → length w ≡ words_of k b →
    Within k (uses_of k b) (thread_within k deep b) m (thread_within k deep b) (text_of (body_of k b)) w c) →
    (x : Bool) → nat_lt t (length k.threads) ≡ x → (m : ℕ) (w : List ℤ) (c : List VarCopy) → length w ≡ words_of k t →
    Within k (uses_of k t) (thread_within k (suc deep) t) m (thread_within k (suc deep) t) (text_of (body_of k t)) w c
either k wf paced deep t ih true e m w c z =
    let within : t < length k.threads = grind (arith, nat_tests) in
    stmt_within k t (words_of k t) (uses_of k t) (thread_within k deep) (params_fit k wf) ih (body_of k t) (paced.threads t within) (body_above k wf t within) m w c z
either k wf paced deep t ih false e m w c z =
    let past : length k.threads ≤ t = grind (arith, nat_tests) in
    let b : Bounds = record { function = function_bound k; thread = thread_within k deep } in
    subst (λ s. Within k (uses_of k t) (stmt_bound k b (uses_of k t) s) m (stmt_bound k b (uses_of k t) s) (text_of s) w c)
    (sym (get_or_past k.threads t Nop past)) (done_within k (uses_of k t) 0 m 0 w c)

pub thread_within_bound : (k : PlainKernel) → WellFormed k → Paced k → (deep t : ℕ) → length k.threads ≤ t + deep →
    (m : ℕ) (w : List ℤ) (c : List VarCopy) → length w ≡ words_of k t →
    Within k (uses_of k t) (thread_within k deep t) m (thread_within k deep t) (text_of (body_of k t)) w c
thread_within_bound k wf paced zero t h m w c z =
    subst (λ s. Within k (uses_of k t) 0 m 0 (text_of s) w c) (sym (get_or_past k.threads t Nop (omega arith)))
    (done_within k (uses_of k t) 0 m 0 w c)
thread_within_bound k wf paced (suc deep) t h m w c z =
    either k wf paced deep t (λ b l m' w' c' z'. thread_within_bound k wf paced deep b (omega arith) m' w' c' z')
    (nat_lt t (length k.threads)) refl m w c z

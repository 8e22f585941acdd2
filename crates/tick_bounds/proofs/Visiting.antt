-- What the walks over int functions and threads know of the bodies that they read.
use Rattle.std.proofs.Common.{ℕ, ◌+◌, ◌<◌, ◌≤◌, ◌≡◌, ◌∙◌, nat_lt, Bool, true, false, Option, Some, List, [], ◌++◌, length, set, get_or, refl, ap, sym, subst, arith}
use Rattle.std.proofs.lemmas.List.{length-map}
use Rattle.std.proofs.lemmas.Bool.Decides.{nat_tests}
use Rattle.forec_kernel.specs.Shapes.{PlainKernel, plain_kernel}
use Rattle.forec_kernel.specs.Plain.{stmt}
use Rattle.forec_kernel.specs.declared.shape.KernelParts.{KernelParts}
use Rattle.forec_kernel.specs.declared.terms.Statement.{Statement}
use Rattle.forec_kernel.specs.Texts.{uses_of, body_of}
use Rattle.forec_kernel.specs.Combining.{contains}
use Rattle.forec_kernel.specs.WellFormed.{WellFormed, function_body, stmt_calls}
use Rattle.forec_kernel.proofs.WeightLemmas.{body_read}
use Rattle.tick_bounds.specs.Bound.{stmt_bound, function_bound, thread_bound, worst_case}
use Rattle.tick_bounds.specs.Capped.{capped, by_tables, as_budget}
use Rattle.tick_bounds.specs.Known.{HoldsBounds, IsRight}
use Rattle.tick_bounds.proofs.Ranks.{chain_length, calls_fall}
use Rattle.tick_bounds.proofs.Searching.{found}
use Rattle.tick_bounds.proofs.Tables.{TellsFrom, each_in, tells_past, body_told, put_tells, put_keeps, put_right, thread_told, one_more, capped_budget, function_read}

-- ---- int functions

-- an int function's body as it was read, and the list of its calls
pub record Read (k parts : KernelParts) (f : ℕ) (x : Statement) (calls made start : List ℕ) : Type 0 where
  pub within : f < length k.functions.items
  pub same : parts ≡ k
  pub is : x ≡ get_or parts.functions.items f x
  pub empty : start ≡ []
  pub adds : made ≡ start ++ stmt_calls (stmt x)
  pub lent : calls ≡ made

module _ (k parts : KernelParts) (wf : WellFormed (plain_kernel k)) (f : ℕ) (x : Statement) (calls made start : List ℕ) (r : Read k parts f x calls made start) where
  body : stmt x ≡ function_body (plain_kernel k) f
  body = function_read k parts f x r.within r.same r.is

  are : calls ≡ stmt_calls (function_body (plain_kernel k) f)
  are = r.lent ∙ r.adds ∙ ap (λ l. l ++ stmt_calls (stmt x)) r.empty ∙ ap stmt_calls body

  plain_within : f < length (plain_kernel k).functions
  plain_within = let h = r.within in omega (arith, length-map k.functions.items stmt)

  -- a walk to a function that is called ends
  pub callee_falls : (j : ℕ) → j < length calls → chain_length (plain_kernel k) (get_or calls j 0) < chain_length (plain_kernel k) f
  callee_falls j l =
      calls_fall (plain_kernel k) wf f (get_or calls j 0) plain_within
      (subst (λ cs. contains (get_or calls j 0) cs ≡ true) are (found calls j (get_or calls j 0) l refl))

  module _ (table slice : List (Option ℕ)) (b : ℕ) (right : IsRight (plain_kernel k) table) (told : (j : ℕ) → j < length calls → HoldsBounds (plain_kernel k) table (get_or calls j 0)) (lends : slice ≡ table) (bound : b ≡ capped (stmt_bound (plain_kernel k) (by_tables slice []) [] (stmt x))) where
    bound_is : b ≡ capped (function_bound (plain_kernel k) f)
    bound_is =
        body_told (plain_kernel k) wf table f b plain_within
        (λ c e. each_in (HoldsBounds (plain_kernel k) table) calls told c (subst (λ cs. contains c cs ≡ true) (sym are) e))
        (bound
        ∙ ap (λ t. capped (stmt_bound (plain_kernel k) (by_tables t []) [] (stmt x))) lends
        ∙ ap (λ s. capped (stmt_bound (plain_kernel k) (by_tables table []) [] s)) body)

    inside : f < length table
    inside = let h = plain_within in let e = right.long in omega arith

    -- what the table with the function's bound tells
    pub visited : IsRight (plain_kernel k) (set table f (Some b)) × HoldsBounds (plain_kernel k) (set table f (Some b)) f × ((g : ℕ) → HoldsBounds (plain_kernel k) table g → HoldsBounds (plain_kernel k) (set table f (Some b)) g)
    visited = (
      put_right (plain_kernel k) table f b inside bound_is right,
      put_tells (plain_kernel k) table f b inside bound_is,
      λ g h. put_keeps (plain_kernel k) table f b inside bound_is g h,
    )

-- once all functions were visited
pub all_told : (k : PlainKernel) (table : List (Option ℕ)) (n : ℕ) → IsRight k table → length k.functions ≤ n → ((g : ℕ) → g < n → HoldsBounds k table g) → (g : ℕ) → HoldsBounds k table g
all_told k table n right many told g = pick (nat_lt g n) refl
  where
    pick : (x : Bool) → nat_lt g n ≡ x → HoldsBounds k table g
    pick true e = told g (grind (arith, nat_tests))
    pick false e =
        let past : n ≤ g = grind (arith, nat_tests) in
        let long = right.long in
        tells_past k table g long (omega arith)

-- ---- threads

-- a thread's body as it was read, with the bound that was found for it
pub record BoundFound (k parts : KernelParts) (functions : List (Option ℕ)) (table slice uses : List ℕ) (bodies : List Statement) (t b : ℕ) (x : Statement) : Type 0 where
  pub within : t < length k.threads.items
  pub same : parts ≡ k
  pub lent : bodies ≡ parts.threads.items
  pub is : x ≡ get_or bodies t x
  pub lends : slice ≡ table
  pub used : uses ≡ uses_of (plain_kernel k) t
  pub bound : b ≡ capped (stmt_bound (plain_kernel k) (by_tables functions slice) uses (stmt x))

module _ (k parts : KernelParts) (wf : WellFormed (plain_kernel k)) (functions : List (Option ℕ)) (table slice uses : List ℕ) (bodies : List Statement) (t b : ℕ) (x : Statement) (r : BoundFound k parts functions table slice uses bodies t b x) (told : (g : ℕ) → HoldsBounds (plain_kernel k) functions g) (above : TellsFrom (plain_kernel k) table (t + 1)) where
  own : body_of (plain_kernel k) t ≡ stmt x
  own = body_read k parts t x r.within r.same (r.is ∙ ap (λ l. get_or l t x) r.lent)

  thread_is : b ≡ capped (thread_bound (plain_kernel k) t)
  thread_is =
      thread_told (plain_kernel k) wf functions table t b (let h = r.within in omega (arith, length-map k.threads.items stmt)) told above
      (r.bound
      ∙ ap (λ l. capped (stmt_bound (plain_kernel k) (by_tables functions l) uses (stmt x))) r.lends
      ∙ ap (λ l. capped (stmt_bound (plain_kernel k) (by_tables functions table) l (stmt x))) r.used
      ∙ ap (λ s. capped (stmt_bound (plain_kernel k) (by_tables functions table) (uses_of (plain_kernel k) t) s)) (sym own))

  pub found_more : t < length table → TellsFrom (plain_kernel k) (set table t b) t
  found_more l = one_more (plain_kernel k) table t b l thread_is above

-- ---- the whole

pub capped_worst : (k : PlainKernel) → as_budget (capped (thread_bound k 0)) ≡ as_budget (worst_case k)
unfolding worst_case
capped_worst k = capped_budget (thread_bound k 0)

-- The amounts of a draft, and the whole kernel.
use Rattle.std.proofs.Common.{ℕ, zero, suc, ◌+◌, ◌-◌, ◌^◌, ◌<◌, ◌≤◌, ◌≡◌, ◌∙◌, min, max, sum, sym, ap, refl, subst, ℤ, pos, true, false, cond, nat_lt, IsTrue, Some, None, List, [], ◌∷◌, ◌++◌, length, map, get_or, arith}
use Rattle.std.proofs.lemmas.List.{length-map}
use Rattle.forec_base.specs.declared.Policy.TheVariants.{Mod}
use Rattle.forec_tree.specs.Terms.{Text, PlainGlobal}
use Rattle.forec_tree.specs.Variables.{variables}
use Rattle.forec_kernel.specs.declared.shape.Variable.{Variable}
use Rattle.forec_kernel.specs.Terms as kernel
use Rattle.forec_kernel.specs.Terms.{Stmt}
use Rattle.forec_kernel.specs.Shapes.{PlainKernel}
use Rattle.forec_kernel.specs.Combining.{contains, variable_of}
use Rattle.forec_kernel.specs.Values.{function_words}
use Rattle.forec_kernel.specs.Texts.{uses_in, uses_of, words_in, words_of, body_of}
use Rattle.forec_kernel.specs.WellFormed.{greatest, count_up, stmt_calls, stmt_depth, function_body, chain, users, combine_calls, par_calls, pars_of, thread_calls, Ranked}
use Rattle.forec_check.specs.Instances.{thread_count}
use Rattle.text_kernel.specs.declared.limits.Quantity.{Quantity}
use Rattle.text_kernel.specs.declared.limits.Quantity.TheVariants.{Threads, Words, Globals, Tables, Terms, Depth}
use Rattle.kernel_lower.specs.declared.lower_fault.LowerFault.{LowerFault}
use Rattle.kernel_lower.specs.declared.lower_fault.LowerFault.TheVariants as fault
use Rattle.kernel_drafts.specs.declared.measure.Draft.{Draft}
use Rattle.text_kernel.specs.Kernels.{kernel_of, root, main_id, padded}
use Rattle.text_kernel.specs.Items.{array_items, array_length, array_table}
use Rattle.text_kernel.specs.Limits.{amount, limit_of, thread_words, thread_depth, function_depth, WithinLimits}
use Rattle.kernel_drafts.specs.Measures.{plain_draft, IsDraft, CallsLow}
use Rattle.kernel_lower.specs.declared.judge.Amounts.{Amounts}
use Rattle.kernel_lower.specs.Refusals.{amount_in, First, HasLowerCause, PassesLimit}
use Rattle.text_sizes.proofs.Sized.{place_threads}
use Rattle.kernel_drafts.proofs.Drafting.{tables_are}

-- ---- words and depth depend on the parts of a draft alone

pub record Alike (k j : PlainKernel) : Type 0 where
  pub shapes : k.shape.threads ≡ j.shape.threads
  pub variables : k.shape.variables ≡ j.shape.variables
  pub words : k.shape.functions ≡ j.shape.functions
  pub texts : k.threads ≡ j.threads
  pub bodies : k.functions ≡ j.functions

greatest_each : (a b : ℕ → ℕ) (xs : List ℕ) → ((g : ℕ) → a g ≡ b g) → greatest a xs ≡ greatest b xs
greatest_each a b [] h = refl
greatest_each a b (x ∷ xs) h = ap (λ n. max n (greatest a xs)) (h x) ∙ ap (max (b x)) (greatest_each a b xs h)

module _ (k j : PlainKernel) (s : Alike k j) where
  body_same : (f : ℕ) → function_body k f ≡ function_body j f
  body_same f = ap (λ l. get_or l f kernel.Nop) s.bodies

  chain_same : (a b : ℕ → ℕ) → ((g : ℕ) → a g ≡ b g) → (deep f : ℕ) → chain a k deep f ≡ chain b j deep f
  chain_same a b h zero f = refl
  chain_same a b h (suc deep) f =
      ap (λ n. n + greatest (chain a k deep) (stmt_calls (function_body k f))) (h f)
      ∙ (ap (λ x. b f + greatest (chain a k deep) (stmt_calls x)) (body_same f) ∙ ap (λ n. b f + n) (greatest_each (chain a k deep) (chain b j deep) (stmt_calls (function_body j f)) (chain_same a b h deep)))

  uses_same : (t : ℕ) → uses_of k t ≡ uses_of j t
  uses_same t = ap (λ l. uses_in l t) s.shapes

  users_same : (ts : List ℕ) (v : ℕ) → users k ts v ≡ users j ts v
  users_same [] v = refl
  users_same (t ∷ ts) v = ap (λ u. cond (contains v u) (suc (users k ts v)) (users k ts v)) (uses_same t) ∙ ap (λ n. cond (contains v (uses_of j t)) (suc n) n) (users_same ts v)

  combine_same : (threads vs : List ℕ) → combine_calls k threads vs ≡ combine_calls j threads vs
  combine_same threads [] = refl
  combine_same threads (v ∷ vs) =
      let pick : Variable → ℕ → List ℕ → List ℕ = λ x n xs. elim x.combine [ None ↦ xs | Some f ↦ cond (nat_lt 1 n) (f ∷ xs) xs ] in
      let of : variable_of k v ≡ variable_of j v = ap (λ l. get_or l v (record { policy = Mod; combine = None; start = pos 0; input = false })) s.variables in
      ap (λ x. pick x (users k threads v) (combine_calls k threads vs)) of
      ∙ (ap (λ n. pick (variable_of j v) n (combine_calls k threads vs)) (users_same threads v) ∙ ap (pick (variable_of j v) (users j threads v)) (combine_same threads vs))

  pars_same : (uses : List ℕ) (pars : List (List ℕ)) → par_calls k uses pars ≡ par_calls j uses pars
  pars_same uses [] = refl
  pars_same uses (threads ∷ rest) = ap (λ l. l ++ par_calls k uses rest) (combine_same threads uses) ∙ ap (λ l. combine_calls j threads uses ++ l) (pars_same uses rest)

  text_same : (t : ℕ) → body_of k t ≡ body_of j t
  text_same t = ap (λ l. get_or l t kernel.Nop) s.texts

  pub calls_same : (t : ℕ) → thread_calls k t ≡ thread_calls j t
  calls_same t =
      ap (λ b. stmt_calls b ++ par_calls k (uses_of k t) (pars_of b)) (text_same t)
      ∙ (ap (λ u. stmt_calls (body_of j t) ++ par_calls k u (pars_of (body_of j t))) (uses_same t) ∙ ap (λ l. stmt_calls (body_of j t) ++ l) (pars_same (uses_of j t) (pars_of (body_of j t))))

  words_same : (t : ℕ) → thread_words k t ≡ thread_words j t
  words_same t =
      let chained = λ (g : ℕ). chain_same (function_words k.shape.functions) (function_words j.shape.functions) (λ f. ap (λ l. function_words l f) s.words) (length k.functions) g
      ∙ ap (λ (l : List Stmt). chain (function_words j.shape.functions) j (length l) g) s.bodies in
      ap (λ l. words_in l t + greatest (chain (function_words k.shape.functions) k (length k.functions)) (thread_calls k t)) s.shapes
      ∙ (ap (λ l. words_of j t + greatest (chain (function_words k.shape.functions) k (length k.functions)) l) (calls_same t)
      ∙ ap (λ n. words_of j t + n) (greatest_each (chain (function_words k.shape.functions) k (length k.functions)) (chain (function_words j.shape.functions) j (length j.functions)) (thread_calls j t) chained))

  function_same : (f : ℕ) → function_depth k f ≡ function_depth j f
  function_same f =
      chain_same (λ g. stmt_depth (function_body k g)) (λ g. stmt_depth (function_body j g)) (λ g. ap stmt_depth (body_same g)) (length k.functions) f
      ∙ ap (λ (l : List Stmt). chain (λ g. stmt_depth (function_body j g)) j (length l) f) s.bodies

  depth_same : (t : ℕ) → thread_depth k t ≡ thread_depth j t
  depth_same t =
      ap (λ b. stmt_depth b + greatest (function_depth k) (thread_calls k t)) (text_same t)
      ∙ (ap (λ l. stmt_depth (body_of j t) + greatest (function_depth k) l) (calls_same t) ∙ ap (λ n. stmt_depth (body_of j t) + n) (greatest_each (function_depth k) (function_depth j) (thread_calls j t) function_same))

  pub words_amounts : amount Words k ≡ amount Words j
  unfolding amount
  words_amounts =
      greatest_each (thread_words k) (thread_words j) (count_up 0 (length k.threads)) words_same ∙ ap (λ (l : List Stmt). greatest (thread_words j) (count_up 0 (length l))) s.texts

  pub depth_amounts : amount Depth k ≡ amount Depth j
  unfolding amount
  depth_amounts =
      ap (λ n. max n (greatest (function_depth k) (count_up 0 (length k.functions))))
      (greatest_each (thread_depth k) (thread_depth j) (count_up 0 (length k.threads)) depth_same ∙ ap (λ (l : List Stmt). greatest (thread_depth j) (count_up 0 (length l))) s.texts)
      ∙ ap (max (greatest (thread_depth j) (count_up 0 (length j.threads))))
      (greatest_each (function_depth k) (function_depth j) (count_up 0 (length k.functions)) function_same ∙ ap (λ (l : List Stmt). greatest (function_depth j) (count_up 0 (length l))) s.bodies)

  pub ranked_same : Ranked j → Ranked k
  ranked_same r =
      record {
        rank = r.rank;
        falls = λ f g l h. r.falls f g (subst (λ (x : List Stmt). f < length x) s.bodies l) (subst (λ x. IsTrue (contains g (stmt_calls x))) (body_same f) h);
      }

  pub low_same : CallsLow j → CallsLow k
  low_same c =
      record {
        functions = λ f g l h.
            subst (λ (x : List Stmt). g < length x) (sym s.bodies) (c.functions f g (subst (λ (x : List Stmt). f < length x) s.bodies l) (subst (λ x. contains g (stmt_calls x) ≡ true) (body_same f) h));
        threads = λ t g l h.
            subst (λ (x : List Stmt). g < length x) (sym s.bodies) (c.threads t g (subst (λ (x : List Stmt). t < length x) s.texts l) (subst (λ x. contains g x ≡ true) (calls_same t) h));
      }

pub draft_alike : (k : PlainKernel) (d : Draft) → IsDraft k d → Alike (plain_draft d) k
draft_alike k d i = record { shapes = i.threads; variables = i.variables; words = i.shapes; texts = i.texts; bodies = i.bodies }

-- ---- the other amounts

pub globals_amount : (k : PlainKernel) (d : Draft) (n : ℕ) → IsDraft k d → n ≡ length d.variables.items → n ≡ amount Globals k
unfolding amount
globals_amount k d n i e = e ∙ ap (λ (l : List Variable). length l) i.variables

padded_long : (n : ℕ) (values : List Rattle.forec_tree.specs.declared.tree.Number.Number) → length (padded n values) ≡ n
padded_long zero values = refl
padded_long (suc n) [] = ap suc (padded_long n [])
padded_long (suc n) (v ∷ rest) = ap suc (padded_long n rest)

lengths_are : (arrays : List PlainGlobal) → map (λ (table : List ℤ). length table) (map array_table arrays) ≡ map array_length arrays
lengths_are [] = refl
lengths_are (g ∷ rest) = ap (λ n. n ∷ map (λ (table : List ℤ). length table) (map array_table rest)) (padded_long (array_length g) g.values) ∙ ap (λ l. array_length g ∷ l) (lengths_are rest)

pub tables_amount : (text : Text) (names : List (List ℕ)) (n : ℕ) (arrays : List PlainGlobal) → arrays ≡ array_items text → n ≡ min (sum (map array_length arrays)) (2 ^ 64 - 1) → n ≡ min (amount Tables (kernel_of text names)) (2 ^ 64 - 1)
unfolding amount kernel_of
tables_amount text names n arrays a e =
    e ∙ ap (λ l. min (sum l) (2 ^ 64 - 1)) (sym (lengths_are arrays) ∙ (ap (λ l. map (λ (table : List ℤ). length table) (map array_table l)) a ∙ ap (map (λ (table : List ℤ). length table)) (sym (tables_are text names text))))

pub threads_amount : (text : Text) (names : List (List ℕ)) (n : ℕ) → n ≡ thread_count text names → n ≡ min (amount Threads (kernel_of text names)) (2 ^ 64 - 1)
unfolding amount kernel_of
threads_amount text names n e =
    e ∙ ap (λ m. min (suc m) (2 ^ 64 - 1)) (sym (place_threads text (length text) (main_id text names) 0 0 (record { slot = 0; thread = 1; par = 0 })) ∙ sym (length-map (root text names).made (λ m. m.body)))

-- ---- limits

-- all amounts at once
pub all_amounts : (k : PlainKernel) (a : Amounts) → a.threads ≡ min (amount Threads k) (2 ^ 64 - 1) → a.words ≡ min (amount Words k) (2 ^ 64 - 1) → a.globals ≡ amount Globals k → a.globals < 2 ^ 64 → a.tables ≡ min (amount Tables k) (2 ^ 64 - 1) →
    a.terms ≡ min (amount Terms k) (2 ^ 64 - 1) → a.depth ≡ min (amount Depth k) (2 ^ 64 - 1) → (q : Quantity) → amount_in a q ≡ min (amount q k) (2 ^ 64 - 1)
all_amounts k a t w g s b e d Threads = t
all_amounts k a t w g s b e d Words = w
all_amounts k a t w g s b e d Globals = omega (arith, g, s)
all_amounts k a t w g s b e d Tables = b
all_amounts k a t w g s b e d Terms = e
all_amounts k a t w g s b e d Depth = d

pub within_limits : (k : PlainKernel) (amounts : Quantity → ℕ) → ((q : Quantity) → amounts q ≡ min (amount q k) (2 ^ 64 - 1)) → ((q : Quantity) → amounts q ≤ limit_of q) → WithinLimits k
within_limits k amounts e h Threads = let a = e Threads in let b = h Threads in omega (arith, a, b)
within_limits k amounts e h Words = let a = e Words in let b = h Words in omega (arith, a, b)
within_limits k amounts e h Globals = let a = e Globals in let b = h Globals in omega (arith, a, b)
within_limits k amounts e h Tables = let a = e Tables in let b = h Tables in omega (arith, a, b)
within_limits k amounts e h Terms = let a = e Terms in let b = h Terms in omega (arith, a, b)
within_limits k amounts e h Depth = let a = e Depth in let b = h Depth in omega (arith, a, b)

few : (q : Quantity) (a n : ℕ) → a ≡ min n (2 ^ 64 - 1) → a ≤ limit_of q → n ≤ limit_of q
few Threads a n e h = omega (arith, e, h)
few Words a n e h = omega (arith, e, h)
few Globals a n e h = omega (arith, e, h)
few Tables a n e h = omega (arith, e, h)
few Terms a n e h = omega (arith, e, h)
few Depth a n e h = omega (arith, e, h)

pub first_causes : (text : Text) (names : List (List ℕ)) (amounts : Quantity → ℕ) (e : LowerFault) → ((q : Quantity) → amounts q ≡ min (amount q (kernel_of text names)) (2 ^ 64 - 1)) → First amounts e → HasLowerCause e text names
first_causes text names amounts (fault.Limit what count) h f =
    let p = f.passes in
    let a = h what in
    record { passes = omega (arith, p, a); first = λ q m. few q (amounts q) (amount q (kernel_of text names)) (h q) (f.first q m); is = f.is }
first_causes text names amounts fault.OutOfMemory h f = tt

-- one quantity alone, the first
pub threads_cause : (text : Text) (names : List (List ℕ)) (threads : ℕ) (e : LowerFault) → threads ≡ min (amount Threads (kernel_of text names)) (2 ^ 64 - 1) → PassesLimit Threads threads e → HasLowerCause e text names
threads_cause text names threads e h p =
    let l = p.1 in
    subst (λ x. HasLowerCause x text names) (sym p.0) (record { passes = omega (arith, l, h); first = λ q m. elim m [ ]; is = refl })

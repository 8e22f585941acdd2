-- The kernel of a text that breaks no rule and is within the limits meets the condition of kernels.
use Rattle.std.proofs.Common.{ℕ, zero, suc, ◌<◌, ◌≤◌, ◌≡◌, ◌∙◌, sym, ap, refl, IsTrue, true, false, Some, None, List, [], ◌∷◌, ◌++◌, length, subst, arith}
use Rattle.forec_tree.specs.Terms.{Text, PlainFunction}
use Rattle.forec_tree.specs.Pauses.{find_function}
use Rattle.forec_tree.specs.Faults.{is_in}
use Rattle.forec_tree.proofs.Agrees.{in_left}
use Rattle.forec_kernel.specs.Shapes.{PlainKernel, PlainThread}
use Rattle.forec_kernel.specs.Texts.{words_of, uses_of, body_of}
use Rattle.forec_kernel.specs.WellFormed.{FineStmt, FineThread, WellFormed, thread_of, count_up, ascends}
use Rattle.forec_check.specs.Faultless.{Faultless}
use Rattle.text_kernel.specs.Lowering.{Made, vars_of, vars_made}
use Rattle.text_kernel.specs.Kernels.{kernel_of, root, main_id, variable_count, filter_in}
use Rattle.text_kernel.specs.Limits.{WithinLimits}
use Rattle.text_kernel.proofs.Grown.{Grown, nothing, both, fork, turned, Branching, branch, Row, no_row, more_row, Fork}
use Rattle.text_kernel.proofs.Forks.{at, SplitIndex, left, right, place_of}
use Rattle.text_kernel.proofs.Placed.{root_grown}
use Rattle.text_kernel.proofs.Fields as fields
use Rattle.text_kernel.proofs.Counting.{rising_ascends, filter_rises, Rising, ends, goes, names_each, inputs_once, outputs_once, inputs_named, outputs_named}
use Rattle.text_kernel.proofs.Within as within
use Rattle.text_kernel.proofs.Weakened.{weak_stmt, uses_hold}
use Rattle.text_kernel.proofs.Known.{known_thread}
use Rattle.text_kernel.proofs.Runs.{Runnable}
use Rattle.text_kernel.proofs.Below.{AllFine, below}
use Rattle.text_kernel.proofs.Main.{root_sits, main_fine}
use Rattle.text_kernel.proofs.Faultless.{Clean, clean_of, void_clean, start_found}
use Rattle.text_kernel.proofs.Functions.{function_fine, variable_fine}
use Rattle.text_kernel.proofs.Tables.{tables_fine}
use Rattle.text_kernel.proofs.Called.{ranked}
use Rattle.text_kernel.proofs.Once.{once}
use Rattle.text_kernel.proofs.Few.{few_functions, few_inputs, few_outputs}

-- ---- each thread names what its body names

abbrev NamesOwn : List Made → Type 0
NamesOwn a = (i : ℕ) → i < length a → (v : ℕ) → is_in v (vars_of (at a i).body) ≡ true → is_in v (at a i).named ≡ true

own_at : (a b : List Made) (i : ℕ) → NamesOwn a → NamesOwn b → SplitIndex a b i → (v : ℕ) → is_in v (vars_of (at (a ++ b) i).body) ≡ true → is_in v (at (a ++ b) i).named ≡ true
own_at a b i h g (left l d) v k = ap (λ (x : Made). is_in v x.named) d ∙ h i l v (ap (λ (x : Made). is_in v (vars_of x.body)) (sym d) ∙ k)
own_at a b i h g (right j w l d) v k = ap (λ (x : Made). is_in v x.named) d ∙ g j l v (ap (λ (x : Made). is_in v (vars_of x.body)) (sym d) ∙ k)

own_append : (a b : List Made) → NamesOwn a → NamesOwn b → NamesOwn (a ++ b)
own_append a b h g i l = own_at a b i h g (place_of a b i l)

own_first : (made : Made) (a : List Made) → made.named ≡ vars_of made.body ++ vars_made a → NamesOwn a → NamesOwn (made ∷ a)
own_first made a n h zero l v k = ap (is_in v) n ∙ in_left v (vars_of made.body) (vars_made a) k
own_first made a n h (suc i) l v k = h i (omega arith) v k

mutual
  names_own : {t m p m1 p1 : ℕ} {a : List Made} {x : List Fork} → Grown t m p a x m1 p1 → NamesOwn a
  names_own nothing = λ i l. absurd (omega arith)
  names_own (both {a = a} {b = b} g k) = own_append a b (names_own g) (names_own k)
  names_own (fork {a = a} {b = b} g r) = own_append a b (branch_own g) (row_own r)
  names_own (turned x y g) = names_own g

  branch_own : {t q m p m1 p1 : ℕ} {a : List Made} → Branching t q m p a m1 p1 → NamesOwn a
  branch_own (branch {a = a} made e d n f behind g) = own_first made a n (names_own g)

  row_own : {t q m p m1 p1 : ℕ} {a : List Made} {us : List ℕ} → Row t q m p a us m1 p1 → NamesOwn a
  row_own no_row = λ i l. absurd (omega arith)
  row_own (more_row {a = a} {b = b} g r) = own_append a b (branch_own g) (row_own r)

count_rises : (from n : ℕ) → Rising from (count_up from n)
count_rises from zero = ends
count_rises from (suc n) = goes (omega arith) (count_rises (suc from) n)

module _ (text : Text) (names : List (List ℕ)) (clean : Clean text names) where
  abbrev k : PlainKernel
  k = kernel_of text names

  abbrev all : List ℕ
  all = count_up 0 (variable_count text names)

  pub main_runs : (f : PlainFunction) → find_function (main_id text names) text ≡ Some f → Runnable 0 f
  main_runs f e =
      let s = start_found text names clean in
      let is : find_function (main_id text names) text ≡ Some s.0 = ap (λ i. elim i [ None ↦ None | Some (Rattle.forec_tree.specs.Terms.IsGlobal g) ↦ None | Some (Rattle.forec_tree.specs.Terms.IsFunction x) ↦ Some x ]) s.1.found in
      let both_ : Some s.0 ≡ Some f = sym is ∙ e in
      let same : s.0 ≡ f = cc in
      subst (Runnable 0) same (record { void = s.1.void; params = s.1.params })

  pub made_fine : AllFine k all (root text names).made
  made_fine = below text k all names (known_thread text names clean) (void_clean text names clean) (length text) 0 0 0 (main_id text names) (record { slot = 0; thread = 1; par = 0 }) main_runs (root_sits text names)

  below_body : (i : ℕ) → i < length (root text names).made → FineStmt false (record { kernel = k; words = words_of k (suc i); uses = uses_of k (suc i) }) (body_of k (suc i))
  below_body i l =
      let made = at (root text names).made i in
      let own = names_own (root_grown text names).grown i l in
      let f = weak_stmt k made.words all (filter_in made.named all) false made.body (uses_hold (vars_of made.body) made.named all own) (made_fine i l).body in
      subst (λ b. FineStmt false (record { kernel = k; words = words_of k (suc i); uses = uses_of k (suc i) }) b) (sym (fields.made_body text names i l))
      (subst (λ u. FineStmt false (record { kernel = k; words = words_of k (suc i); uses = u }) made.body) (sym (fields.uses_made text names i l))
      (subst (λ w. FineStmt false (record { kernel = k; words = w; uses = filter_in made.named all }) made.body) (sym (fields.words_made text names i l)) f))

  root_ascends : IsTrue (ascends (uses_of k 0))
  unfolding kernel_of
  root_ascends = rising_ascends all (count_rises 0 (variable_count text names))

  below_ascends : (i : ℕ) → i < length (root text names).made → IsTrue (ascends (uses_of k (suc i)))
  below_ascends i l =
      ap ascends (fields.uses_made text names i l) ∙ rising_ascends (filter_in (at (root text names).made i).named all) (filter_rises (at (root text names).made i).named 0 (variable_count text names))

  root_params : (thread_of k 0).params ≤ words_of k 0
  unfolding kernel_of
  root_params = omega arith

  below_params : (i : ℕ) → i < length (root text names).made → (thread_of k (suc i)).params ≤ words_of k (suc i)
  below_params i l =
      let p = ap (λ (x : PlainThread). x.params) (fields.made_shape text names i l) in
      let w = fields.words_made text names i l in
      let f = (made_fine i l).params in
      omega (arith, p, w, f)

  thread_fine : WithinLimits k → (t : ℕ) → t < length k.threads → FineThread k t
  thread_fine h zero l =
      record {
        params = root_params;
        uses = root_ascends;
        body = main_fine text names clean (void_clean text names clean) main_runs;
        pars = fields.thread_pars text names 0 l;
        words = within.words k h 0 l;
        depth = within.depth k h 0 l;
      }
  thread_fine h (suc i) l =
      let low = fields.made_count text names i l in
      record {
        params = below_params i low;
        uses = below_ascends i low;
        body = below_body i low;
        pars = fields.thread_pars text names (suc i) l;
        words = within.words k h (suc i) l;
        depth = within.depth k h (suc i) l;
      }

  clean_well_formed : WithinLimits k → WellFormed k
  clean_well_formed h =
      record {
        bodies = fields.bodies text names;
        functions = fields.functions text names;
        some = fields.some text names;
        root = fields.root_fine text names;
        each_thread = thread_fine h;
        each_child = fields.child_fine text names;
        each_function = function_fine text names clean h;
        each_variable = variable_fine text names clean;
        each_table = tables_fine text names clean;
        ranked = ranked text names clean;
        once = once text names;
        in_order = fields.order text names;
        inputs_named = inputs_named text names;
        inputs_once = inputs_once text names;
        outputs_named = outputs_named text names;
        outputs_once = outputs_once text names;
        names = names_each text names;
        few_threads = within.few_threads k h;
        few_variables = within.few_variables k h;
        few_functions = few_functions text names clean;
        few_inputs = few_inputs text names clean;
        few_outputs = few_outputs text names clean;
        few_table_words = within.few_table_words k h;
        few_terms = within.few_terms k h;
      }

pub well_formed : (text : Text) (names : List (List ℕ)) → Faultless text names → WithinLimits (kernel_of text names) → WellFormed (kernel_of text names)
well_formed text names h w = clean_well_formed text names (clean_of text names h) w

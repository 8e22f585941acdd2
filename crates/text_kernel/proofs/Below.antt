-- The body of each thread below is in range, with the words of that thread.
use Rattle.std.proofs.Common.{ℕ, zero, suc, ◌+◌, ◌<◌, ◌≤◌, ◌≡◌, sym, refl, false, Option, Some, None, List, [], ◌∷◌, ◌++◌, length, subst, arith}
use Rattle.forec_tree.specs.declared.tree.Name.{Name}
use Rattle.forec_tree.specs.declared.uses.How.TheVariants.{Runs, Starts}
use Rattle.forec_tree.specs.Terms.{count_terms, Statement, Declare, Nothing, Group, Assign, Invoke, If, While, For, Pause, Par, Abort, Return, Statements, no_statements, more_statements, Perhaps, absent, present, Branches, no_branches, by_call, by_group, Text, PlainFunction}
use Rattle.forec_tree.specs.Scopes.{Scope, no_scope, inner_scope, after, after_perhaps, with_params, find_item, find_last, meaning}
use Rattle.forec_tree.specs.Findings.{Closes, in_bound, in_term, in_terms, in_optional, in_statement, in_statements, in_perhaps, in_branches, in_params}
use Rattle.forec_tree.specs.Faults.{in_function}
use Rattle.forec_tree.specs.Rules.{Judging, use_faults, findings_faults}
use Rattle.forec_tree.specs.Pauses.{within, find_function}
use Rattle.forec_kernel.specs.Shapes.{PlainKernel}
use Rattle.forec_kernel.specs.WellFormed.{FineStmt}
use Rattle.text_kernel.specs.declared.names.Slot.{Slot}
use Rattle.text_kernel.specs.Bindings.{params_at}
use Rattle.text_kernel.specs.Lowering as low
use Rattle.text_kernel.specs.Lowering.{sequence, lower_statement, lower_list, lower_perhaps, lower_branches, scope_after, par_after, param_names, NextNumbers, Made, Lowered, Inlined, inlined_body, inlined_step, nothing_inlined}
use Rattle.text_kernel.proofs.ForParts.{for_parts}
use Rattle.text_kernel.proofs.Fine.{none_left, none_right, parts_left, parts_right, good_use, Knows}
use Rattle.text_kernel.proofs.FineStatements.{sequence_fine}
use Rattle.text_kernel.proofs.Grown.{made_of, inlined_grows, grows, list_grows, perhaps_grows}
use Rattle.text_kernel.proofs.Forks.{at, SplitIndex, left, right, place_of, threads_grow}
use Rattle.text_kernel.proofs.Rises.{place_rises}
use Rattle.text_kernel.proofs.FineBodies.{Sits, sits_left, sits_right}
use Rattle.text_kernel.proofs.Runs.{Runnable, runnable, startable, runs, list_runs, no_names}

pub record FineMade (k : PlainKernel) (uses : List ℕ) (made : Made) : Type 0 where
  pub params : made.params ≤ made.words
  pub body : FineStmt false (record { kernel = k; words = made.words; uses = uses }) made.body

abbrev pub AllFine : PlainKernel → List ℕ → List Made → Type 0
AllFine k uses a = (i : ℕ) → i < length a → FineMade k uses (at a i)

none_fine : (k : PlainKernel) (uses : List ℕ) → AllFine k uses []
none_fine k uses i l = absurd (omega arith)

fine_at : (k : PlainKernel) (uses : List ℕ) (a b : List Made) (i : ℕ) → AllFine k uses a → AllFine k uses b → SplitIndex a b i → FineMade k uses (at (a ++ b) i)
fine_at k uses a b i h g (left l d) = subst (FineMade k uses) (sym d) (h i l)
fine_at k uses a b i h g (right j w l d) = subst (FineMade k uses) (sym d) (g j l)

all_append : (k : PlainKernel) (uses : List ℕ) (a b : List Made) → AllFine k uses a → AllFine k uses b → AllFine k uses (a ++ b)
all_append k uses a b h g i l = fine_at k uses a b i h g (place_of a b i l)

all_more : (k : PlainKernel) (uses : List ℕ) (made : Made) (a : List Made) → FineMade k uses made → AllFine k uses a → AllFine k uses (made ∷ a)
all_more k uses made a f h zero l = f
all_more k uses made a f h (suc i) l = h i (omega arith)

param_count : (n : ℕ) (o : Option PlainFunction) → ((f : PlainFunction) → o ≡ Some f → Runnable n f) → length (param_names o) ≤ n
param_count n None u = omega arith
param_count n (Some f) u = let r = u f refl in let e = r.params in omega arith

module _ (text : Text) (k : PlainKernel) (uses : List ℕ) (names : List (List ℕ)) (knows : Knows text k uses false)
    (faultless : (id : ℕ) (f : PlainFunction) → find_function id text ≡ Some f → f.gives ≡ false → findings_faults (record { names = names; gives = false }) (in_function text f) ≡ []) where
  abbrev judging : Judging
  judging = record { names = names; gives = false }

  abbrev pub Below : (deep : ℕ) → Type 0
  Below deep = (t n first id : ℕ) (from : NextNumbers) → ((f : PlainFunction) → find_function id text ≡ Some f → Runnable n f) →
      Sits k from.thread (within nothing_inlined (inlined_step text) deep id first t from).made → AllFine k uses (within nothing_inlined (inlined_step text) deep id first t from).made

  module _ (deep : ℕ) (deeper : Below deep) where
    abbrev called : ℕ → Inlined
    called = within nothing_inlined (inlined_step text) deep

    run_of : (sc : Scope) (name : Name) (n : ℕ) → use_faults judging (Runs n) name (meaning text sc name.id) ≡ [] → (f : PlainFunction) → find_function name.id text ≡ Some f → Runnable n f
    run_of sc name n h = runnable false n (find_last name.id None (sc.outer ++ sc.here)) (find_item name.id text) (good_use judging (Runs n) name (meaning text sc name.id) h)

    start_of : (sc : Scope) (name : Name) (n : ℕ) → use_faults judging (Starts n) name (meaning text sc name.id) ≡ [] → (f : PlainFunction) → find_function name.id text ≡ Some f → Runnable n f
    start_of sc name n h = startable false n (find_last name.id None (sc.outer ++ sc.here)) (find_item name.id text) (good_use judging (Starts n) name (meaning text sc name.id) h)

    -- a branch, before the threads below it
    branch_fine : (t q : ℕ) (n : NextNumbers) (name : Option ℕ) (params : ℕ) (b : Lowered) → Sits k n.thread (low.made_thread t q name params b) → params ≤ b.next.slot →
        (Sits k (suc n.thread) b.made → FineStmt false (record { kernel = k; words = b.next.slot; uses = uses }) b.stmt) → (Sits k (suc n.thread) b.made → AllFine k uses b.made) →
        AllFine k uses (low.made_thread t q name params b)
    branch_fine t q n name params b z l f g =
        let inner = sits_right k n.thread (suc n.thread) (made_of t q name params b ∷ []) b.made (omega arith) z in
        all_more k uses (made_of t q name params b) b.made (record { params = l; body = f inner }) (g inner)

    mutual
      made_fine : (t : ℕ) (s : List Slot) (n : NextNumbers) (sc : Scope) (a : Statement) → findings_faults judging (in_statement text sc a) ≡ [] →
          Sits k n.thread (lower_statement text called t s n a).made → AllFine k uses (lower_statement text called t s n a).made
      made_fine t s n sc (Nothing at) h z = none_fine k uses
      made_fine t s n sc (Group at body) h z = list_made t s n (inner_scope sc) body h z
      made_fine t s n sc (Declare at locals) h z = none_fine k uses
      made_fine t s n sc (Assign at target op value) h z = none_fine k uses
      made_fine t s n sc (Invoke at name args) h z =
          deeper t (count_terms args) n.slot name.id (record { slot = n.slot + count_terms args; thread = n.thread; par = n.par })
          (run_of sc name (count_terms args) (none_left (use_faults judging (Runs (count_terms args)) name (meaning text sc name.id)) (findings_faults judging (in_terms text sc args)) h)) z
      made_fine t s n sc (If at test a b) h z =
          let r = parts_right judging (in_term text sc test) (in_statement text (inner_scope sc) a ++ in_perhaps text (inner_scope sc) b) h in
          let one = lower_statement text called t s n a in
          let two = lower_perhaps text called t s one.next b in
          let long = threads_grow (grows text called (inlined_grows text deep) t s n a).grown in
          all_append k uses one.made two.made
          (made_fine t s n (inner_scope sc) a (parts_left judging (in_statement text (inner_scope sc) a) (in_perhaps text (inner_scope sc) b) r) (sits_left k n.thread one.made two.made z))
          (perhaps_made t s one.next (inner_scope sc) b (parts_right judging (in_statement text (inner_scope sc) a) (in_perhaps text (inner_scope sc) b) r) (sits_right k n.thread one.next.thread one.made two.made long z))
      made_fine t s n sc (While at test bound body) h z =
          let r = parts_right judging (in_bound bound) (in_term text sc test ++ in_statement text (inner_scope sc) body) h in
          made_fine t s n (inner_scope sc) body (parts_right judging (in_term text sc test) (in_statement text (inner_scope sc) body) r) z
      made_fine t s n sc (For at start test step bound body) h z =
          let sc1 = inner_scope sc in
          let sc2 = after_perhaps sc1 start in
          let sc3 = after_perhaps sc2 step in
          let parts = for_parts text called t s n start step in
          let last = lower_statement text called t parts.inside parts.stepped.next body in
          let r4 = in_perhaps text sc2 step ++ in_statement text (inner_scope sc3) body in
          let r3 = in_optional text sc2 test ++ r4 in
          let r2 = in_perhaps text sc1 start ++ r3 in
          let h2 = parts_right judging (in_bound bound) r2 h in
          let h4 = parts_right judging (in_optional text sc2 test) r4 (parts_right judging (in_perhaps text sc1 start) r3 h2) in
          let long_i = threads_grow (perhaps_grows text called (inlined_grows text deep) t s n start).grown in
          let long_d = threads_grow (perhaps_grows text called (inlined_grows text deep) t parts.tested parts.started.next step).grown in
          let z2 = sits_right k n.thread parts.started.next.thread parts.started.made (parts.stepped.made ++ last.made) long_i z in
          all_append k uses parts.started.made (parts.stepped.made ++ last.made)
          (perhaps_made t s n sc1 start (parts_left judging (in_perhaps text sc1 start) r3 h2) (sits_left k n.thread parts.started.made (parts.stepped.made ++ last.made) z))
          (all_append k uses parts.stepped.made last.made
          (perhaps_made t parts.tested parts.started.next sc2 step (parts_left judging (in_perhaps text sc2 step) (in_statement text (inner_scope sc3) body) h4) (sits_left k parts.started.next.thread parts.stepped.made last.made z2))
          (made_fine t parts.inside parts.stepped.next (inner_scope sc3) body (parts_right judging (in_perhaps text sc2 step) (in_statement text (inner_scope sc3) body) h4) (sits_right k parts.started.next.thread parts.stepped.next.thread parts.stepped.made last.made long_d z2)))
      made_fine t s n sc (Pause at) h z = none_fine k uses
      made_fine t s n sc (Par at bs) h z = branches_made t s n.par (record { slot = n.slot; thread = n.thread; par = par_after bs n.par }) sc bs h z
      made_fine t s n sc (Abort at weak immediate test body) h z =
          list_made t s n (inner_scope sc) body (parts_right judging (in_term text sc test) (in_statements text (inner_scope sc) body) h) z
      made_fine t s n sc (Return at value) h z = none_fine k uses

      pub list_made : (t : ℕ) (s : List Slot) (n : NextNumbers) (sc : Scope) (a : Statements) → findings_faults judging (in_statements text sc a) ≡ [] →
          Sits k n.thread (lower_list text called t s n a).made → AllFine k uses (lower_list text called t s n a).made
      list_made t s n sc no_statements h z = none_fine k uses
      list_made t s n sc (more_statements a rest) h z =
          let one = lower_statement text called t s n a in
          let s2 = scope_after text s n.slot a in
          let two = lower_list text called t s2 one.next rest in
          let long = threads_grow (grows text called (inlined_grows text deep) t s n a).grown in
          all_append k uses one.made two.made
          (made_fine t s n sc a (parts_left judging (in_statement text sc a) (in_statements text (after sc a) rest) h) (sits_left k n.thread one.made two.made z))
          (list_made t s2 one.next (after sc a) rest (parts_right judging (in_statement text sc a) (in_statements text (after sc a) rest) h) (sits_right k n.thread one.next.thread one.made two.made long z))

      perhaps_made : (t : ℕ) (s : List Slot) (n : NextNumbers) (sc : Scope) (a : Perhaps) → findings_faults judging (in_perhaps text sc a) ≡ [] →
          Sits k n.thread (lower_perhaps text called t s n a).made → AllFine k uses (lower_perhaps text called t s n a).made
      perhaps_made t s n sc absent h z = none_fine k uses
      perhaps_made t s n sc (present a) h z = made_fine t s n sc a h z

      branches_made : (t : ℕ) (s : List Slot) (q : ℕ) (n : NextNumbers) (sc : Scope) (bs : Branches) → findings_faults judging (in_branches text sc bs) ≡ [] →
          Sits k n.thread (lower_branches text called t s q n bs).made → AllFine k uses (lower_branches text called t s q n bs).made
      branches_made t s q n sc no_branches h z = none_fine k uses
      branches_made t s q n sc (by_call name args rest) h z =
          let inside : NextNumbers = record { slot = count_terms args; thread = suc n.thread; par = n.par } in
          let b = called name.id 0 n.thread inside in
          let next : NextNumbers = record { slot = n.slot; thread = b.next.thread; par = b.next.par } in
          let own = use_faults judging (Starts (count_terms args)) name (meaning text sc name.id) in
          let u = start_of sc name (count_terms args) (none_left own (findings_faults judging (in_terms text sc args ++ in_branches text sc rest)) h) in
          let h1 = none_right own (findings_faults judging (in_terms text sc args ++ in_branches text sc rest)) h in
          let params = length (param_names (find_function name.id text)) in
          let first = low.made_thread t q (Some name.id) params b in
          let others = (lower_branches text called t s q next rest).made in
          let long = threads_grow (inlined_grows text deep name.id 0 n.thread inside).grown in
          let up = place_rises text deep name.id 0 n.thread inside in
          let few = param_count (count_terms args) (find_function name.id text) u in
          all_append k uses first others
          (branch_fine t q n (Some name.id) params b (sits_left k n.thread first others z) (omega (arith, up, few))
          (λ y. runs text k b.next.slot uses names knows faultless deep n.thread (count_terms args) 0 name.id inside u (omega arith) (omega arith) y)
          (λ y. deeper n.thread (count_terms args) 0 name.id inside u y))
          (branches_made t s q next sc rest (parts_right judging (in_terms text sc args) (in_branches text sc rest) h1) (sits_right k n.thread b.next.thread first others (omega (arith, long)) z))
      branches_made t s q n sc (by_group place body rest) h z =
          let inside : NextNumbers = record { slot = 0; thread = suc n.thread; par = n.par } in
          let l = lower_list text called n.thread [] inside body in
          let b : Lowered = record { stmt = sequence l.list; next = l.next; made = l.made } in
          let next : NextNumbers = record { slot = n.slot; thread = l.next.thread; par = l.next.par } in
          let hb = parts_left judging (in_statements text no_scope body) (Closes ∷ in_branches text sc rest) h in
          let hr = parts_right judging (in_statements text no_scope body) (Closes ∷ in_branches text sc rest) h in
          let first = low.made_thread t q None 0 b in
          let others = (lower_branches text called t s q next rest).made in
          let long = threads_grow (list_grows text called (inlined_grows text deep) n.thread [] inside body).grown in
          all_append k uses first others
          (branch_fine t q n None 0 b (sits_left k n.thread first others z) (omega arith)
          (λ y. sequence_fine false (record { kernel = k; words = l.next.slot; uses = uses }) l.list
          (list_runs text k l.next.slot uses names knows faultless deep (runs text k l.next.slot uses names knows faultless deep) n.thread [] inside no_scope body
          (no_names text k l.next.slot uses names knows faultless) hb (omega arith) y))
          (λ y. list_made n.thread [] inside no_scope body hb y))
          (branches_made t s q next sc rest hr (sits_right k n.thread l.next.thread first others (omega (arith, long)) z))

  body_made : (deep : ℕ) → Below deep → (t n first : ℕ) (from : NextNumbers) (o : Option PlainFunction) →
      ((f : PlainFunction) → o ≡ Some f → findings_faults judging (in_function text f) ≡ []) →
      let l = inlined_body text (within nothing_inlined (inlined_step text) deep) o first t from in Sits k from.thread l.made → AllFine k uses l.made
  body_made deep deeper t n first from None c z = none_fine k uses
  body_made deep deeper t n first from (Some f) c z =
      let inside = with_params no_scope f.params in
      list_made deep deeper t (params_at first f.params) from inside f.body (parts_right judging (in_params text no_scope f.params) (in_statements text inside f.body) (c f refl)) z

  -- all threads below a function that is put in place
  pub below : (deep : ℕ) → Below deep
  unfolding within
  below zero = λ t n first id from u z. none_fine k uses
  below (suc deep) = λ t n first id from u z. body_made deep (below deep) t n first from (find_function id text) (λ f e. faultless id f e (u f e).void) z

-- Bodies of a text without faults are well formed: one induction over statements, with what it needs of loops, locals and calls as parameters.
use Rattle.std.proofs.Common.{ℕ, zero, suc, ◌+◌, ◌<◌, ◌≤◌, ◌≡◌, ◌≢◌, ◌∙◌, sym, ap, Bool, true, false, not, ◌==◌, Option, Some, None, List, [], ◌∷◌, ◌++◌, length, length-append, get_or, subst, arith}
use Rattle.std.proofs.lemmas.Bool.Decides.{nat_tests}
use Rattle.forec_base.specs.declared.Place.{Place}
use Rattle.forec_tree.specs.declared.tree.Name.{Name}
use Rattle.forec_tree.specs.declared.tree.Number.{Number}
use Rattle.forec_tree.specs.declared.uses.How.TheVariants.{Runs, Starts}
use Rattle.forec_tree.specs.Terms.{Term, Terms, no_terms, more_terms, count_terms, Declared, Statement, Declare, Nothing, Group, Assign, Invoke, If, While, For, Pause, Par, Abort, Return, Statements, no_statements, more_statements, Perhaps, absent, present, Branches, no_branches, by_call, by_group, Text, PlainItem, IsGlobal, IsFunction}
use Rattle.forec_tree.specs.Scopes as tree
use Rattle.forec_tree.specs.Scopes.{Scope, no_scope, inner_scope, after, after_perhaps, find_item, local_meaning, item_meaning, meaning}
use Rattle.forec_tree.specs.Findings.{Finding, Loop, Synchronous, Gives, Closes, in_bound, in_term, in_terms, in_optional, in_locals, in_target, in_statement, in_statements, in_perhaps, in_branches}
use Rattle.forec_tree.specs.Rules.{Judging, fault_if, use_faults, findings_faults}
use Rattle.forec_tree.specs.Pauses.{find_function}
use Rattle.forec_tree.specs.Turns.{inferred}
use Rattle.forec_kernel.specs.Terms.{Branch, Stmt}
use Rattle.forec_kernel.specs.Shapes.{PlainKernel}
use Rattle.forec_kernel.specs.WellFormed as wf
use Rattle.forec_kernel.specs.WellFormed.{FineExpr, FineExprs, FineStmt, FineStmts, FineBranch, FineBranches, FineBound, thread_of}
use Rattle.text_kernel.specs.declared.names.Slot.{Slot}
use Rattle.text_kernel.specs.Bindings as binds
use Rattle.text_kernel.specs.Bindings.{find_slot}
use Rattle.text_kernel.specs.Lowering as low
use Rattle.text_kernel.specs.Lowering.{lower_term, lower_terms, sequence, ends_with, set_params, lower_locals, slots_after, optional_test, bound_of, or_inferred, lower_statement, lower_list, lower_perhaps, lower_branches, scope_after, scope_after_perhaps, after_start, then_step, par_of, par_after, param_names, NextNumbers, Made, Inlined}
use Rattle.text_kernel.proofs.ForParts.{for_parts}
use Rattle.text_kernel.proofs.Fine.{none_left, none_right, not_broken, not_not, parts_left, parts_right, GoodUse, seen_option, Matches, Knows, fine_term, fine_terms, count_lowered, use_good}
use Rattle.text_kernel.proofs.FineStatements.{sequence_fine, ends_fine, target_fine}
use Rattle.text_kernel.proofs.Unbroken.{Unbroken, unbroken_left, unbroken_right}
use Rattle.std.proofs.lemmas.List.{get_or_append_left, get_or-append-add}
use Rattle.forec_kernel.specs.WellFormed.{pars_of}
use Rattle.text_kernel.proofs.Grown.{IsGrown, grows, list_grows, perhaps_grows}
use Rattle.text_kernel.proofs.Forks.{threads_grow, at, blank_made}
use Rattle.text_kernel.proofs.Rises.{rises, list_rises, perhaps_rises}
use Rattle.text_kernel.proofs.Certain.{thread_only}

-- threads that are added stand in the kernel from a number on
pub record Sits (k : PlainKernel) (m : ℕ) (a : List Made) : Type 0 where
  pub named : (i : ℕ) → i < length a → m + i < length k.threads
  pub params : (i : ℕ) → i < length a → (thread_of k (m + i)).params ≡ (at a i).params

pub sits_left : (k : PlainKernel) (m : ℕ) (a b : List Made) → Sits k m (a ++ b) → Sits k m a
sits_left k m a b z =
    let long = length-append a b in
    record {
      named = λ i l. z.named i (omega (arith, long, l));
      params = λ i l. z.params i (omega (arith, long, l)) ∙ ap (λ x. x.params) (get_or_append_left a b blank_made i l);
    }

pub sits_right : (k : PlainKernel) (m m1 : ℕ) (a b : List Made) → m1 ≡ m + length a → Sits k m (a ++ b) → Sits k m1 b
sits_right k m m1 a b e z =
    let long = length-append a b in
    record {
      named = λ i l. (let g = z.named (length a + i) (omega (arith, long, l)) in omega (arith, g, e));
      params = λ i l.
          (let same : m1 + i ≡ m + (length a + i) = omega (arith, e) in
          ap (λ u. (thread_of k u).params) same ∙ (z.params (length a + i) (omega (arith, long, l)) ∙ ap (λ x. x.params) (get_or-append-add a b i blank_made)));
    }

-- an int function has no threads below
abbrev pub SitsIf : Bool → PlainKernel → ℕ → List Made → Type 0
SitsIf gives k m a = gives ≡ false → Sits k m a

left_if : (gives : Bool) (k : PlainKernel) (m : ℕ) (a b : List Made) → SitsIf gives k m (a ++ b) → SitsIf gives k m a
left_if gives k m a b z = λ e. sits_left k m a b (z e)

right_if : (gives : Bool) (k : PlainKernel) (m m1 : ℕ) (a b : List Made) → m1 ≡ m + length a → SitsIf gives k m (a ++ b) → SitsIf gives k m1 b
right_if gives k m m1 a b e z = λ d. sits_right k m m1 a b e (z d)

module _
    (text : Text) (k : PlainKernel) (words : ℕ) (uses : List ℕ) (j : Judging) (knows : Knows text k uses j.gives) (called : ℕ → Inlined)
    (right : (id first t : ℕ) (n : NextNumbers) → IsGrown t n (pars_of (called id first t n).stmt) (called id first t n).made (called id first t n).next)
    (up : (id first t : ℕ) (n : NextNumbers) → n.slot ≤ (called id first t n).next.slot)
    (runs : (t n first : ℕ) (sc : Scope) (name : Name) (from : NextNumbers) → use_faults j (Runs n) name (meaning text sc name.id) ≡ [] → first + n ≤ from.slot → (called name.id first t from).next.slot ≤ words →
    SitsIf j.gives k from.thread (called name.id first t from).made → FineStmt j.gives (record { kernel = k; words = words; uses = uses }) (called name.id first t from).stmt)
    (while_ok : (sc : Scope) (at : Place) (test : Term) (bound : Option Number) (body : Statement) → Unbroken text j (in_statement text sc (While at test bound body)) → FineBound j.gives (bound_of bound))
    (for_ok : (sc : Scope) (at : Place) (start : Perhaps) (test : Option Term) (step : Perhaps) (bound : Option Number) (body : Statement) →
    Unbroken text j (in_statement text sc (For at start test step bound body)) → FineBound j.gives (or_inferred (bound_of bound) (inferred text (For at start test step bound body))))
    (locals_ok : (sc : Scope) (s : List Slot) (slot : ℕ) (ls : List Declared) → Matches words sc s → findings_faults j (in_locals text sc ls) ≡ [] → slots_after text slot ls ≤ words →
    FineStmts j.gives (record { kernel = k; words = words; uses = uses }) (lower_locals text s slot ls) × Matches words (tree.with_locals sc ls) (binds.with_local_slots s slot ls)) where
  abbrev inside_of : wf.TermScope
  inside_of = record { kernel = k; words = words; uses = uses }

  sets_fine : (sc : Scope) (s : List Slot) (slot : ℕ) (es : Terms) → Matches words sc s → findings_faults j (in_terms text sc es) ≡ [] → slot + count_terms es ≤ words →
      FineStmts j.gives inside_of (set_params text s slot es)
  sets_fine sc s slot no_terms m h l = tt
  sets_fine sc s slot (more_terms e rest) m h l =
      let first : slot < words = omega arith in
      let more : suc slot + count_terms rest ≤ words = omega arith in
      ((first, fine_term text k words uses j knows sc s m e (parts_left j (in_term text sc e) (in_terms text sc rest) h)), sets_fine sc s (suc slot) rest m (parts_right j (in_term text sc e) (in_terms text sc rest) h) more)

  entered_matches : (sc : Scope) (s : List Slot) → Matches words sc s → Matches words (inner_scope sc) s
  entered_matches sc s m = record { same = m.same ∙ sym (Rattle.std.proofs.Common.append-nil (sc.outer ++ sc.here)); good = m.good }

  behind_matches : (sc : Scope) (s : List Slot) (n : NextNumbers) (t : ℕ) (a : Statement) → Matches words sc s → findings_faults j (in_statement text sc a) ≡ [] →
      (lower_statement text called t s n a).next.slot ≤ words → Matches words (after sc a) (scope_after text s n.slot a)
  behind_matches sc s n t (Declare at locals) m h l = (locals_ok sc s n.slot locals m h l).1
  behind_matches sc s n t (Nothing at) m h l = m
  behind_matches sc s n t (Group at body) m h l = m
  behind_matches sc s n t (Assign at target op value) m h l = m
  behind_matches sc s n t (Invoke at name args) m h l = m
  behind_matches sc s n t (If at test a b) m h l = m
  behind_matches sc s n t (While at test bound body) m h l = m
  behind_matches sc s n t (For at start test step bound body) m h l = m
  behind_matches sc s n t (Pause at) m h l = m
  behind_matches sc s n t (Par at bs) m h l = m
  behind_matches sc s n t (Abort at weak immediate test body) m h l = m
  behind_matches sc s n t (Return at value) m h l = m

  perhaps_matches : (sc : Scope) (s : List Slot) (n : NextNumbers) (t : ℕ) (a : Perhaps) → Matches words sc s → findings_faults j (in_perhaps text sc a) ≡ [] →
      (lower_perhaps text called t s n a).next.slot ≤ words → Matches words (after_perhaps sc a) (scope_after_perhaps text s n.slot a)
  perhaps_matches sc s n t absent m h l = m
  perhaps_matches sc s n t (present a) m h l = behind_matches sc s n t a m h l

  synchronous : (place : Place) (fs : List Finding) → findings_faults j (Synchronous place ∷ fs) ≡ [] → j.gives ≡ false
  synchronous place fs h = not_broken j.gives place 12 (none_left (fault_if j.gives place 12) (findings_faults j fs) h)

  giving : (place : Place) (fs : List Finding) → findings_faults j (Gives place ∷ fs) ≡ [] → j.gives ≡ true
  giving place fs h = not_not j.gives (not_broken (not j.gives) place 14 (none_left (fault_if (not j.gives) place 14) (findings_faults j fs) h))

  optional_fine : (sc : Scope) (s : List Slot) (e : Option Term) → Matches words sc s → findings_faults j (in_optional text sc e) ≡ [] → FineExpr inside_of (optional_test text s e)
  optional_fine sc s None m h = tt
  optional_fine sc s (Some e) m h = fine_term text k words uses j knows sc s m e h

  start_fine : (start : Perhaps) (a loop : Stmt) → FineStmt j.gives inside_of a → FineStmt j.gives inside_of loop → FineStmt j.gives inside_of (after_start start a loop)
  start_fine absent a loop f g = g
  start_fine (present x) a loop f g = (f, (g, tt))

  step_fine : (step : Perhaps) (body a : Stmt) → FineStmt j.gives inside_of body → FineStmt j.gives inside_of a → FineStmt j.gives inside_of (then_step step body a)
  step_fine absent body a f g = f
  step_fine (present x) body a f g = (f, (g, tt))

  start_params : (n : ℕ) (i : Option PlainItem) (o : Option Slot) → GoodUse j.gives (Starts n) (local_meaning (seen_option o) (item_meaning i)) →
      length (param_names (elim i [ None ↦ None | Some (IsGlobal g) ↦ None | Some (IsFunction f) ↦ Some f ])) ≡ n
  start_params n i (Some x) u = let bad = u.fits in cc
  start_params n None None u = let bad = u.known in cc
  start_params n (Some (IsGlobal g)) None u = let bad = u.fits in cc
  start_params n (Some (IsFunction f)) None u = let c : not (n == length f.params) ≡ false = u.counts in grind (arith, nat_tests)

  -- the launches of a par: each names a thread with as many parameters
  branches_fine : (t : ℕ) (s : List Slot) (q : ℕ) (n : NextNumbers) (sc : Scope) (bs : Branches) → Matches words sc s → findings_faults j (in_branches text sc bs) ≡ [] →
      Sits k n.thread (lower_branches text called t s q n bs).made → FineBranches inside_of (lower_branches text called t s q n bs).launches
  branches_fine t s q n sc no_branches m h z = tt
  branches_fine t s q n sc (by_call name args rest) m h z =
      let inside : NextNumbers = record { slot = count_terms args; thread = suc n.thread; par = n.par } in
      let b = called name.id 0 n.thread inside in
      let next : NextNumbers = record { slot = n.slot; thread = b.next.thread; par = b.next.par } in
      let how = Starts (count_terms args) in
      let own = use_faults j how name (meaning text sc name.id) in
      let h1 = none_right own (findings_faults j (in_terms text sc args ++ in_branches text sc rest)) h in
      let u = use_good text k words uses j knows sc s how name m (none_left own (findings_faults j (in_terms text sc args ++ in_branches text sc rest)) h) in
      let long = threads_grow (right name.id 0 n.thread inside).grown in
      let first = low.made_thread t q (Some name.id) (length (param_names (find_function name.id text))) b in
      let others = (lower_branches text called t s q next rest).made in
      let here_ : n.thread ≡ n.thread + 0 = omega arith in (
        record {
          named = (let g = z.named 0 (omega arith) in omega (arith, g));
          count =
              count_lowered text k words uses j knows s args
              ∙ (sym (start_params (count_terms args) (find_item name.id text) (find_slot name.id None s) u) ∙ (sym (z.params 0 (omega arith)) ∙ ap (λ x. (thread_of k x).params) (sym here_)));
          args = fine_terms text k words uses j knows sc s m args (parts_left j (in_terms text sc args) (in_branches text sc rest) h1);
        },
        branches_fine t s q next sc rest m (parts_right j (in_terms text sc args) (in_branches text sc rest) h1)
            (sits_right k n.thread b.next.thread first others (omega (arith, long)) z),
      )
  branches_fine t s q n sc (by_group place body rest) m h z =
      let inside : NextNumbers = record { slot = 0; thread = suc n.thread; par = n.par } in
      let b = lower_list text called n.thread [] inside body in
      let next : NextNumbers = record { slot = n.slot; thread = b.next.thread; par = b.next.par } in
      let long = threads_grow (list_grows text called right n.thread [] inside body).grown in
      let first = low.made_thread t q None 0 (record { stmt = sequence b.list; next = b.next; made = b.made }) in
      let others = (lower_branches text called t s q next rest).made in
      let here_ : n.thread ≡ n.thread + 0 = omega arith in (
        record {
          named = (let g = z.named 0 (omega arith) in omega (arith, g));
          count = sym (z.params 0 (omega arith)) ∙ ap (λ x. (thread_of k x).params) (sym here_);
          args = tt;
        },
        branches_fine t s q next sc rest m (parts_right j (in_statements text no_scope body) (Closes ∷ in_branches text sc rest) h)
            (sits_right k n.thread b.next.thread first others (omega (arith, long)) z),
      )

  launches_fine : (bs : List Branch) → j.gives ≡ false → FineBranches inside_of bs → FineStmt j.gives inside_of (par_of bs)
  launches_fine [] g f = tt
  launches_fine (b ∷ bs) g f = (thread_only j.gives g, λ e. cc, f)

  par_fine : (t : ℕ) (s : List Slot) (q : ℕ) (n : NextNumbers) (sc : Scope) (bs : Branches) → Matches words sc s → j.gives ≡ false → findings_faults j (in_branches text sc bs) ≡ [] →
      Sits k n.thread (lower_branches text called t s q n bs).made → FineStmt j.gives inside_of (par_of (lower_branches text called t s q n bs).launches)
  par_fine t s q n sc bs m g h z = launches_fine (lower_branches text called t s q n bs).launches g (branches_fine t s q n sc bs m h z)

  mutual
    pub fine : (t : ℕ) (s : List Slot) (n : NextNumbers) (sc : Scope) (a : Statement) → Matches words sc s → Unbroken text j (in_statement text sc a) →
        (lower_statement text called t s n a).next.slot ≤ words → SitsIf j.gives k n.thread (lower_statement text called t s n a).made → FineStmt j.gives inside_of (lower_statement text called t s n a).stmt
    fine t s n sc (Nothing at) m h l z = tt
    fine t s n sc (Group at body) m h l z =
        sequence_fine j.gives inside_of (lower_list text called t s n body).list (list_fine t s n (inner_scope sc) body (entered_matches sc s m) h l z)
    fine t s n sc (Declare at locals) m h l z = sequence_fine j.gives inside_of (lower_locals text s n.slot locals) (locals_ok sc s n.slot locals m h.rules l).0
    fine t s n sc (Assign at target op value) m h l z =
        target_fine text k words uses j knows called sc s m target.name target.index op (lower_term text s value)
        (fine_term text k words uses j knows sc s m value (parts_right j (in_target text sc target) (in_term text sc value) h.rules)) (parts_left j (in_target text sc target) (in_term text sc value) h.rules)
    fine t s n sc (Invoke at name args) m h l z =
        let how = Runs (count_terms args) in
        let from : NextNumbers = record { slot = n.slot + count_terms args; thread = n.thread; par = n.par } in
        let b = runs t (count_terms args) n.slot sc name from (none_left (use_faults j how name (meaning text sc name.id)) (findings_faults j (in_terms text sc args)) h.rules) (omega arith) l z in
        let g = up name.id n.slot t from in
        sequence_fine j.gives inside_of (ends_with (set_params text s n.slot args) (called name.id n.slot t from).stmt)
        (ends_fine j.gives inside_of (set_params text s n.slot args) (called name.id n.slot t from).stmt
        (sets_fine sc s n.slot args m (none_right (use_faults j how name (meaning text sc name.id)) (findings_faults j (in_terms text sc args)) h.rules) (omega (arith, g, l))) b)
    fine t s n sc (If at test a b) m h l z =
        let r = unbroken_right text j (in_term text sc test) (in_statement text (inner_scope sc) a ++ in_perhaps text (inner_scope sc) b) h in
        let one = lower_statement text called t s n a in
        let two = perhaps_rises text called up t s one.next b in
        let long = threads_grow (grows text called right t s n a).grown in
        let rest = (lower_perhaps text called t s one.next b).made in (
          fine_term text k words uses j knows sc s m test (parts_left j (in_term text sc test) (in_statement text (inner_scope sc) a ++ in_perhaps text (inner_scope sc) b) h.rules),
          fine t s n (inner_scope sc) a (entered_matches sc s m) (unbroken_left text j (in_statement text (inner_scope sc) a) (in_perhaps text (inner_scope sc) b) r) (omega (arith, two, l)) (left_if j.gives k n.thread one.made rest z),
          perhaps_fine t s one.next (inner_scope sc) b (entered_matches sc s m) (unbroken_right text j (in_statement text (inner_scope sc) a) (in_perhaps text (inner_scope sc) b) r) l (right_if j.gives k n.thread one.next.thread one.made rest long z),
        )
    fine t s n sc (While at test bound body) m h l z =
        let h1 = unbroken_right text j (Loop (While at test bound body) ∷ []) (in_bound bound ++ (in_term text sc test ++ in_statement text (inner_scope sc) body)) h in
        let r = unbroken_right text j (in_bound bound) (in_term text sc test ++ in_statement text (inner_scope sc) body) h1 in (
          while_ok sc at test bound body h,
          fine_term text k words uses j knows sc s m test (parts_left j (in_term text sc test) (in_statement text (inner_scope sc) body) r.rules),
          fine t s n (inner_scope sc) body (entered_matches sc s m) (unbroken_right text j (in_term text sc test) (in_statement text (inner_scope sc) body) r) l z,
        )
    fine t s n sc (For at start test step bound body) m h l z =
        let sc1 = inner_scope sc in
        let sc2 = after_perhaps sc1 start in
        let sc3 = after_perhaps sc2 step in
        let parts = for_parts text called t s n start step in
        let r4 = in_perhaps text sc2 step ++ in_statement text (inner_scope sc3) body in
        let r3 = in_optional text sc2 test ++ r4 in
        let r2 = in_perhaps text sc1 start ++ r3 in
        let h1 = unbroken_right text j (Loop (For at start test step bound body) ∷ []) (in_bound bound ++ r2) h in
        let h2 = unbroken_right text j (in_bound bound) r2 h1 in
        let hs = unbroken_left text j (in_perhaps text sc1 start) r3 h2 in
        let h3 = unbroken_right text j (in_perhaps text sc1 start) r3 h2 in
        let h4 = unbroken_right text j (in_optional text sc2 test) r4 h3 in
        let hd = unbroken_left text j (in_perhaps text sc2 step) (in_statement text (inner_scope sc3) body) h4 in
        let lb = rises text called up t parts.inside parts.stepped.next body in
        let ld = perhaps_rises text called up t parts.tested parts.started.next step in
        let low_d : parts.stepped.next.slot ≤ words = omega (arith, lb, l) in
        let low_i : parts.started.next.slot ≤ words = omega (arith, ld, low_d) in
        let m1 = entered_matches sc s m in
        let m2 = perhaps_matches sc1 s n t start m1 hs.rules low_i in
        let m3 = perhaps_matches sc2 parts.tested parts.started.next t step m2 hd.rules low_d in
        let last = lower_statement text called t parts.inside parts.stepped.next body in
        let long_i = threads_grow (perhaps_grows text called right t s n start).grown in
        let long_d = threads_grow (perhaps_grows text called right t parts.tested parts.started.next step).grown in
        let z2 = right_if j.gives k n.thread parts.started.next.thread parts.started.made (parts.stepped.made ++ last.made) long_i z in
        let fb = fine t parts.inside parts.stepped.next (inner_scope sc3) body (entered_matches sc3 parts.inside m3) (unbroken_right text j (in_perhaps text sc2 step) (in_statement text (inner_scope sc3) body) h4) l
        (right_if j.gives k parts.started.next.thread parts.stepped.next.thread parts.stepped.made last.made long_d z2) in
        start_fine start parts.started.stmt _ (perhaps_fine t s n sc1 start m1 hs low_i (left_if j.gives k n.thread parts.started.made (parts.stepped.made ++ last.made) z)) (
          for_ok sc at start test step bound body h,
          optional_fine sc2 parts.tested test m2 (parts_left j (in_optional text sc2 test) r4 h3.rules),
          step_fine step _ parts.stepped.stmt fb (perhaps_fine t parts.tested parts.started.next sc2 step m2 hd low_d (left_if j.gives k parts.started.next.thread parts.stepped.made last.made z2)),
        )
    fine t s n sc (Pause at) m h l z = thread_only j.gives (synchronous at [] h.rules)
    fine t s n sc (Par at bs) m h l z =
        par_fine t s n.par (record { slot = n.slot; thread = n.thread; par = par_after bs n.par }) sc bs m (synchronous at (in_branches text sc bs) h.rules)
        (none_right (fault_if j.gives at 12) (findings_faults j (in_branches text sc bs)) h.rules) (z (synchronous at (in_branches text sc bs) h.rules))
    fine t s n sc (Abort at weak immediate test body) m h l z =
        let r = unbroken_right text j (Synchronous at ∷ []) (in_term text sc test ++ in_statements text (inner_scope sc) body) h in (
          thread_only j.gives (synchronous at (in_term text sc test ++ in_statements text (inner_scope sc) body) h.rules),
          fine_term text k words uses j knows sc s m test (parts_left j (in_term text sc test) (in_statements text (inner_scope sc) body) r.rules),
          sequence_fine j.gives inside_of (lower_list text called t s n body).list (list_fine t s n (inner_scope sc) body (entered_matches sc s m) (unbroken_right text j (in_term text sc test) (in_statements text (inner_scope sc) body) r) l z),
        )
    fine t s n sc (Return at value) m h l z =
        (giving at (in_term text sc value) h.rules, fine_term text k words uses j knows sc s m value (none_right (fault_if (not j.gives) at 14) (findings_faults j (in_term text sc value)) h.rules))

    pub list_fine : (t : ℕ) (s : List Slot) (n : NextNumbers) (sc : Scope) (a : Statements) → Matches words sc s → Unbroken text j (in_statements text sc a) →
        (lower_list text called t s n a).next.slot ≤ words → SitsIf j.gives k n.thread (lower_list text called t s n a).made → FineStmts j.gives inside_of (lower_list text called t s n a).list
    list_fine t s n sc no_statements m h l z = tt
    list_fine t s n sc (more_statements a rest) m h l z =
        let one = lower_statement text called t s n a in
        let here_ = unbroken_left text j (in_statement text sc a) (in_statements text (after sc a) rest) h in
        let two = list_rises text called up t (scope_after text s n.slot a) one.next rest in
        let long = threads_grow (grows text called right t s n a).grown in
        let rest_made = (lower_list text called t (scope_after text s n.slot a) one.next rest).made in
        let low_ : one.next.slot ≤ words = omega (arith, two, l) in (
          fine t s n sc a m here_ low_ (left_if j.gives k n.thread one.made rest_made z),
          list_fine t (scope_after text s n.slot a) one.next (after sc a) rest (behind_matches sc s n t a m here_.rules low_) (unbroken_right text j (in_statement text sc a) (in_statements text (after sc a) rest) h) l (right_if j.gives k n.thread one.next.thread one.made rest_made long z),
        )

    perhaps_fine : (t : ℕ) (s : List Slot) (n : NextNumbers) (sc : Scope) (a : Perhaps) → Matches words sc s → Unbroken text j (in_perhaps text sc a) →
        (lower_perhaps text called t s n a).next.slot ≤ words → SitsIf j.gives k n.thread (lower_perhaps text called t s n a).made → FineStmt j.gives inside_of (lower_perhaps text called t s n a).stmt
    perhaps_fine t s n sc absent m h l z = tt
    perhaps_fine t s n sc (present a) m h l z = fine t s n sc a m h l z

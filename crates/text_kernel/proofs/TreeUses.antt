-- The variables of which a thread has copies are those that the tree of threads says.
use Rattle.std.proofs.Common.{ℕ, zero, suc, ◌+◌, ◌<◌, ◌≡◌, ◌∙◌, sym, ap, refl, subst, Bool, false, not, ◌||◌, Option, Some, None, List, [], ◌∷◌, ◌++◌, append-nil, append_assoc, map, length, length-append, get_or, arith}
use Rattle.std.specs.Prelude.{slice_get}
use Rattle.std.proofs.lemmas.List.{map-append}
use Rattle.std.proofs.lemmas.Option.{slice_get-get_or, slice_get_within}
use Rattle.forec_tree.specs.declared.tree.Name.{Name}
use Rattle.forec_tree.specs.declared.uses.How.TheVariants.{Runs, Starts}
use Rattle.forec_tree.specs.Terms.{Term, count_terms, Statement, Declare, Nothing, Group, Assign, Invoke, If, While, For, Pause, Par, Abort, Return, Statements, no_statements, more_statements, Perhaps, absent, present, Branches, no_branches, by_call, by_group, Text, PlainGlobal, PlainFunction, IsGlobal, IsFunction}
use Rattle.forec_tree.specs.Scopes.{Scope, no_scope, inner_scope, after, after_perhaps, with_name, with_params, is_among, find_item, find_last, meaning}
use Rattle.forec_tree.specs.Findings.{Closes, in_bound, in_term, in_terms, in_optional, in_locals, in_target, in_statement, in_statements, in_perhaps, in_branches, in_params}
use Rattle.forec_tree.specs.Rules.{Judging, fault_if, is_constant, use_faults, declared_faults, findings_faults}
use Rattle.forec_tree.specs.Faults.{is_in, in_function, none_before}
use Rattle.forec_tree.specs.Pauses.{within, find_function}
use Rattle.forec_tree.specs.ThreadTree.{InstanceTree, no_threads, thread, followed_by, ThreadPart, no_part, both_parts, as_instance, globals_in, naming_part, statement_part, all_placed, perhaps_placed, branches_placed, body_placed, placed_step, thread_tree, all_named, in_preorder, count_instances, those_in}
use Rattle.forec_tree.specs.Variables.{PlainVariable, width, variables}
use Rattle.forec_tree.proofs.VariableCounts.{variables_counted}
use Rattle.forec_kernel.specs.Terms.{Branch, Stmt}
use Rattle.forec_kernel.specs.Texts.{uses_of}
use Rattle.forec_kernel.specs.WellFormed.{count_up}
use Rattle.text_kernel.specs.declared.names.Slot.{Slot}
use Rattle.text_kernel.specs.Bindings.{params_at, variable_number}
use Rattle.text_kernel.specs.Lowering.{NextNumbers, Made, Listed, from_slot, scope_after, scope_after_perhaps, par_after, par_of, after_start, then_step, optional_test, set_params, lower_term, lower_terms, lower_locals, lower_target, lower_statement, lower_list, lower_perhaps, lower_branches, Inlined, inlined_body, inlined_step, nothing_inlined, sequence, ends_with, vars_in, vars_all, vars_of, vars_list, vars_launches, vars_made}
use Rattle.text_kernel.specs.Kernels.{kernel_of, root, main_id, variable_count, filter_in}
use Rattle.text_kernel.specs.Laws.{UsesAreThoseOfTheTree}
use Rattle.text_kernel.specs.Instances.{UsesOfTree}
use Rattle.text_kernel.proofs.OneValue.{OneEach, OneInAll, OneIfPresent, OneInBranches, ScalarsHaveOneValue, spelled_one}
use Rattle.text_kernel.proofs.Fine.{none_left, none_right, not_broken, parts_left, parts_right, good_use}
use Rattle.text_kernel.proofs.Runs.{runnable, startable}
use Rattle.text_kernel.proofs.Covered.{vars_append}
use Rattle.text_kernel.proofs.Forks.{at}
use Rattle.text_kernel.proofs.Fields as fields
use Rattle.text_kernel.proofs.Faultless.{Clean, clean_of, void_clean, start_found, own_item, found_member, function_item}
use Rattle.text_kernel.proofs.TreeThreads.{threads_of_tree}
use Rattle.text_kernel.proofs.ByNumber.{numbered_in, Behind, all_variables, filtered_variables}
use Rattle.text_kernel.proofs.NamedVariables as named
use Rattle.text_kernel.proofs.NamedVariables.{Agree, agree_more, in_append, swapped_in, sequence_vars, ends_vars}

-- ---- trees side by side

all_followed : (p q : InstanceTree) → all_named (followed_by p q) ≡ all_named p ++ all_named q
all_followed no_threads q = refl
all_followed (thread own below rest) q = ap (λ l. (own ++ all_named below) ++ l) (all_followed rest q) ∙ sym (append_assoc (own ++ all_named below) (all_named rest) (all_named q))

preorder_followed : (p q : InstanceTree) → in_preorder (followed_by p q) ≡ in_preorder p ++ in_preorder q
preorder_followed no_threads q = refl
preorder_followed (thread own below rest) q =
    ap (λ l. (own ++ all_named below) ∷ l)
    (ap (λ l. in_preorder below ++ l) (preorder_followed rest q) ∙ sym (append_assoc (in_preorder below) (in_preorder rest) (in_preorder q)))

preorder_long : (p : InstanceTree) → length (in_preorder p) ≡ count_instances p
preorder_long no_threads = refl
preorder_long (thread own below rest) = omega (arith, preorder_long below, preorder_long rest, length-append (in_preorder below) (in_preorder rest))

behind_same : (x : ℕ) (a b c : List ℕ) → is_in x b ≡ is_in x c → is_in x (a ++ b) ≡ is_in x (a ++ c)
behind_same x a b c e = in_append x a b ∙ (ap (λ t. is_in x a || t) e ∙ sym (in_append x a c))

entered_agree : (sc : Scope) (s : List Slot) → Agree sc s → Agree (inner_scope sc) s
entered_agree sc s m = record { same = m.same ∙ sym (append-nil (sc.outer ++ sc.here)) }

no_names : Agree no_scope []
no_names = record { same = refl }

launches_vars : (ls : List Branch) → vars_of (par_of ls) ≡ vars_launches ls
launches_vars [] = refl
launches_vars (b ∷ rest) = refl

module _ (text : Text) (names : List (List ℕ)) (g : PlainGlobal) (is_item : find_item g.name.id text ≡ Some (IsGlobal g)) (changes : is_constant g.kind ≡ false) (nth : ℕ) (is_one : nth < width g) where
  abbrev j : Judging
  j = record { names = names; gives = false }

  abbrev i : ℕ
  i = g.name.id

  abbrev v : ℕ
  v = variable_number g.name.id text + nth

  abbrev Same : List ℕ → List ℕ → Type 0
  Same vs gs = is_in v vs ≡ is_in i gs

  abbrev own_named : Made → Bool
  own_named m = is_in v m.named

  abbrev tree_named : List ℕ → Bool
  tree_named l = is_in i l

  -- lowered text names the variable where the text does, and so do the threads that it adds
  record Names (vs : List ℕ) (made : List Made) (p : ThreadPart) : Type 0 where
    pub own : is_in v vs ≡ is_in i p.named
    pub all : is_in v (vars_made made) ≡ is_in i (all_named p.below)
    pub each : map own_named made ≡ map tree_named (in_preorder p.below)

  leaf : (vs gs : List ℕ) → Same vs gs → Names vs [] (record { named = gs; below = no_threads })
  leaf vs gs h = record { own = h; all = refl; each = refl }

  alike : (vs ws : List ℕ) (made : List Made) (p : ThreadPart) → is_in v ws ≡ is_in v vs → Names vs made p → Names ws made p
  alike vs ws made p e n = record { own = e ∙ n.own; all = n.all; each = n.each }

  two : (a b : List ℕ) (m n : List Made) (p q : ThreadPart) → Names a m p → Names b n q → Names (a ++ b) (m ++ n) (both_parts p q)
  two a b m n p q x y =
      record {
        own = named.same_append text j g is_item changes nth is_one a b p.named q.named x.own y.own;
        all =
            ap (is_in v) (vars_append m n)
            ∙ (named.same_append text j g is_item changes nth is_one (vars_made m) (vars_made n) (all_named p.below) (all_named q.below) x.all y.all
            ∙ ap (is_in i) (sym (all_followed p.below q.below)));
        each =
            map-append own_named m n
            ∙ (ap (λ l. l ++ map own_named n) x.each
            ∙ (ap (λ l. map tree_named (in_preorder p.below) ++ l) y.each
            ∙ (sym (map-append tree_named (in_preorder p.below) (in_preorder q.below)) ∙ ap (map tree_named) (sym (preorder_followed p.below q.below)))));
      }

  branch_first : (x : Made) (a b : List ℕ) (m n : List Made) (p q : ThreadPart) → vars_of x.body ≡ a → x.named ≡ a ++ vars_made m → Names a m p → Names b n q →
      Names b (x ∷ (m ++ n)) (both_parts (as_instance p) q)
  branch_first x a b m n p q e d y z =
      let both = named.same_append text j g is_item changes nth is_one a (vars_made m) p.named (all_named p.below) y.own y.all in
      record {
        own = z.own;
        all =
            ap (λ l. is_in v (l ++ vars_made (m ++ n))) e
            ∙ (ap (λ l. is_in v (a ++ l)) (vars_append m n)
            ∙ (ap (is_in v) (sym (append_assoc a (vars_made m) (vars_made n)))
            ∙ named.same_append text j g is_item changes nth is_one (a ++ vars_made m) (vars_made n) (p.named ++ all_named p.below) (all_named q.below) both z.all));
        each =
            ap (λ t. t ∷ map own_named (m ++ n)) (ap (is_in v) d ∙ both)
            ∙ ap (λ l. is_in i (p.named ++ all_named p.below) ∷ l)
            (map-append own_named m n
            ∙ (ap (λ l. l ++ map own_named n) y.each
            ∙ (ap (λ l. map tree_named (in_preorder p.below) ++ l) z.each ∙ sym (map-append tree_named (in_preorder p.below) (in_preorder q.below)))));
      }

  module _ (called : ℕ → Inlined) (tree : ℕ → ThreadPart)
      (right : (id first t : ℕ) (n : NextNumbers) → ((f : PlainFunction) → find_function id text ≡ Some f → f.gives ≡ false) →
      Names (vars_of (called id first t n).stmt) (called id first t n).made (tree id))
    where
      runs_void : (n : ℕ) (sc : Scope) (name : Name) → use_faults j (Runs n) name (meaning text sc name.id) ≡ [] → (f : PlainFunction) → find_function name.id text ≡ Some f → f.gives ≡ false
      runs_void n sc name h f e =
          let r = runnable false n (find_last name.id None (sc.outer ++ sc.here)) (find_item name.id text) (good_use j (Runs n) name (meaning text sc name.id) h) f e in r.void

      starts_void : (n : ℕ) (sc : Scope) (name : Name) → use_faults j (Starts n) name (meaning text sc name.id) ≡ [] → (f : PlainFunction) → find_function name.id text ≡ Some f → f.gives ≡ false
      starts_void n sc name h f e =
          let r = startable false n (find_last name.id None (sc.outer ++ sc.here)) (find_item name.id text) (good_use j (Starts n) name (meaning text sc name.id) h) f e in r.void

      behind_agree : (sc : Scope) (s : List Slot) (slot : ℕ) (a : Statement) → Agree sc s → OneEach a → findings_faults j (in_statement text sc a) ≡ [] → Agree (after sc a) (scope_after text s slot a)
      behind_agree sc s slot (Declare at locals) m o h = (named.locals_names text j g is_item changes nth is_one sc s m slot locals o h).1
      behind_agree sc s slot (Nothing at) m o h = m
      behind_agree sc s slot (Group at body) m o h = m
      behind_agree sc s slot (Assign at target op value) m o h = m
      behind_agree sc s slot (Invoke at name args) m o h = m
      behind_agree sc s slot (If at test a b) m o h = m
      behind_agree sc s slot (While at test bound body) m o h = m
      behind_agree sc s slot (For at start test step bound body) m o h = m
      behind_agree sc s slot (Pause at) m o h = m
      behind_agree sc s slot (Par at bs) m o h = m
      behind_agree sc s slot (Abort at weak immediate test body) m o h = m
      behind_agree sc s slot (Return at value) m o h = m

      perhaps_agree : (sc : Scope) (s : List Slot) (slot : ℕ) (a : Perhaps) → Agree sc s → OneIfPresent a → findings_faults j (in_perhaps text sc a) ≡ [] →
          Agree (after_perhaps sc a) (scope_after_perhaps text s slot a)
      perhaps_agree sc s slot absent m o h = m
      perhaps_agree sc s slot (present a) m o h = behind_agree sc s slot a m o h

      start_vars : (t : ℕ) (s : List Slot) (n : NextNumbers) (start : Perhaps) (loop : Stmt) →
          vars_of (after_start start (lower_perhaps text called t s n start).stmt loop) ≡ vars_of (lower_perhaps text called t s n start).stmt ++ vars_of loop
      start_vars t s n absent loop = refl
      start_vars t s n (present a) loop = ap (λ l. vars_of (lower_statement text called t s n a).stmt ++ l) (append-nil (vars_of loop))

      step_vars : (x t : ℕ) (s : List Slot) (n : NextNumbers) (step : Perhaps) (body : Stmt) →
          is_in x (vars_of (then_step step body (lower_perhaps text called t s n step).stmt)) ≡ is_in x (vars_of (lower_perhaps text called t s n step).stmt ++ vars_of body)
      step_vars x t s n absent body = refl
      step_vars x t s n (present a) body = swapped_in x (vars_of body) (vars_of (lower_statement text called t s n a).stmt)

      tested : (sc : Scope) (s : List Slot) → Agree sc s → (e : Term) → findings_faults j (in_term text sc e) ≡ [] → Names (vars_in (lower_term text s e)) [] (naming_part (in_term text sc e))
      tested sc s m e h = leaf (vars_in (lower_term text s e)) (globals_in (in_term text sc e)) (named.term_names text j g is_item changes nth is_one sc s m e h)

      as_one_names : (l : Listed) (p : ThreadPart) → Names (vars_list l.list) l.made p → Names (vars_of (sequence l.list)) l.made p
      as_one_names l p h = alike (vars_list l.list) (vars_of (sequence l.list)) l.made p (ap (is_in v) (sequence_vars l.list)) h

      mutual
        one : (t : ℕ) (s : List Slot) (n : NextNumbers) (sc : Scope) (a : Statement) → Agree sc s → OneEach a → findings_faults j (in_statement text sc a) ≡ [] →
            Names (vars_of (lower_statement text called t s n a).stmt) (lower_statement text called t s n a).made (statement_part text tree sc a)
        one t s n sc (Nothing at) m o h = leaf [] [] refl
        one t s n sc (Group at body) m o h =
            as_one_names (lower_list text called t s n body) (all_placed text tree (inner_scope sc) body) (every t s n (inner_scope sc) body (entered_agree sc s m) o h)
        one t s n sc (Declare at locals) m o h =
            leaf (vars_of (sequence (lower_locals text s n.slot locals))) (globals_in (in_locals text sc locals))
            (ap (is_in v) (sequence_vars (lower_locals text s n.slot locals)) ∙ (named.locals_names text j g is_item changes nth is_one sc s m n.slot locals o h).0)
        one t s n sc (Assign at target op value) m o h =
            leaf (vars_of (lower_target text s target op (lower_term text s value))) (globals_in (in_target text sc target ++ in_term text sc value))
            (named.target_names text j g is_item changes nth is_one sc s m target.name target.index op value h)
        one t s n sc (Invoke at name args) m o h =
            let own = use_faults j (Runs (count_terms args)) name (meaning text sc name.id) in
            let sets = set_params text s n.slot args in
            let next = from_slot n (n.slot + count_terms args) in
            let l = called name.id n.slot t next in
            alike (vars_list sets ++ vars_of l.stmt) (vars_of (sequence (ends_with sets l.stmt))) l.made (both_parts (naming_part (in_terms text sc args)) (tree name.id))
            (ap (is_in v) (sequence_vars (ends_with sets l.stmt) ∙ ends_vars sets l.stmt))
            (two (vars_list sets) (vars_of l.stmt) [] l.made (naming_part (in_terms text sc args)) (tree name.id)
            (leaf (vars_list sets) (globals_in (in_terms text sc args))
            (named.sets_names text j g is_item changes nth is_one sc s m n.slot args (none_right own (findings_faults j (in_terms text sc args)) h)))
            (right name.id n.slot t next (runs_void (count_terms args) sc name (none_left own (findings_faults j (in_terms text sc args)) h))))
        one t s n sc (If at test a b) m o h =
            let l = lower_statement text called t s n a in
            let sides = in_statement text (inner_scope sc) a ++ in_perhaps text (inner_scope sc) b in
            let hs = parts_right j (in_term text sc test) sides h in
            two (vars_in (lower_term text s test)) _ [] _ (naming_part (in_term text sc test)) _ (tested sc s m test (parts_left j (in_term text sc test) sides h))
            (two _ _ _ _ _ _
            (one t s n (inner_scope sc) a (entered_agree sc s m) o.0 (parts_left j (in_statement text (inner_scope sc) a) (in_perhaps text (inner_scope sc) b) hs))
            (maybe t s l.next (inner_scope sc) b (entered_agree sc s m) o.1 (parts_right j (in_statement text (inner_scope sc) a) (in_perhaps text (inner_scope sc) b) hs)))
        one t s n sc (While at test bound body) m o h =
            let rest = in_term text sc test ++ in_statement text (inner_scope sc) body in
            let hs = parts_right j (in_bound bound) rest h in
            two (vars_in (lower_term text s test)) _ [] _ (naming_part (in_term text sc test)) _ (tested sc s m test (parts_left j (in_term text sc test) (in_statement text (inner_scope sc) body) hs))
            (one t s n (inner_scope sc) body (entered_agree sc s m) o (parts_right j (in_term text sc test) (in_statement text (inner_scope sc) body) hs))
        one t s n sc (For at start test step bound body) m o h =
            let inside = scope_after_perhaps text s n.slot start in
            let li = lower_perhaps text called t s n start in
            let lj = lower_perhaps text called t inside li.next step in
            let last = scope_after_perhaps text inside li.next.slot step in
            let ll = lower_statement text called t last lj.next body in
            let own = after_perhaps (inner_scope sc) start in
            let end_ = inner_scope (after_perhaps own step) in
            let f1 = in_perhaps text (inner_scope sc) start in
            let f2 = in_optional text own test in
            let f3 = in_perhaps text own step in
            let f4 = in_statement text end_ body in
            let h0 = parts_right j (in_bound bound) (f1 ++ (f2 ++ (f3 ++ f4))) h in
            let h1 = parts_left j f1 (f2 ++ (f3 ++ f4)) h0 in
            let r1 = parts_right j f1 (f2 ++ (f3 ++ f4)) h0 in
            let h2 = parts_left j f2 (f3 ++ f4) r1 in
            let r2 = parts_right j f2 (f3 ++ f4) r1 in
            let h3 = parts_left j f3 f4 r2 in
            let h4 = parts_right j f3 f4 r2 in
            let m1 = perhaps_agree (inner_scope sc) s n.slot start (entered_agree sc s m) o.0 h1 in
            let m2 = perhaps_agree own inside li.next.slot step m1 o.1 h3 in
            let test' = optional_test text inside test in
            let loop = (lower_statement text called t s n (For at start test step bound body)).stmt in
            let body' = then_step step ll.stmt lj.stmt in
            alike (vars_of li.stmt ++ (vars_in test' ++ (vars_of lj.stmt ++ vars_of ll.stmt))) (vars_of loop) (li.made ++ (lj.made ++ ll.made)) (statement_part text tree sc (For at start test step bound body))
            (ap (is_in v) (start_vars t s n start _)
            ∙ behind_same v (vars_of li.stmt) (vars_in test' ++ vars_of body') (vars_in test' ++ (vars_of lj.stmt ++ vars_of ll.stmt))
            (behind_same v (vars_in test') (vars_of body') (vars_of lj.stmt ++ vars_of ll.stmt) (step_vars v t inside li.next step ll.stmt)))
            (two _ _ _ _ _ _ (maybe t s n (inner_scope sc) start (entered_agree sc s m) o.0 h1)
            (two (vars_in test') _ [] _ (naming_part f2) _ (leaf (vars_in test') (globals_in f2) (named.optional_names text j g is_item changes nth is_one own inside m1 test h2))
            (two _ _ _ _ _ _ (maybe t inside li.next own step m1 o.1 h3) (one t last lj.next end_ body (entered_agree (after_perhaps own step) last m2) o.2 h4))))
        one t s n sc (Pause at) m o h = leaf [] [] refl
        one t s n sc (Par at bs) m o h =
            let from : NextNumbers = record { slot = n.slot; thread = n.thread; par = par_after bs n.par } in
            let l = lower_branches text called t s n.par from bs in
            alike (vars_launches l.launches) (vars_of (par_of l.launches)) l.made (branches_placed text tree sc bs) (ap (is_in v) (launches_vars l.launches))
            (branches t s n.par from sc bs m o (none_right (fault_if j.gives at 12) (findings_faults j (in_branches text sc bs)) h))
        one t s n sc (Abort at weak immediate test body) m o h =
            let rest = in_statements text (inner_scope sc) body in
            let hs = none_right (fault_if j.gives at 12) (findings_faults j (in_term text sc test ++ rest)) h in
            two (vars_in (lower_term text s test)) _ [] _ (naming_part (in_term text sc test)) _ (tested sc s m test (parts_left j (in_term text sc test) rest hs))
            (as_one_names (lower_list text called t s n body) (all_placed text tree (inner_scope sc) body) (every t s n (inner_scope sc) body (entered_agree sc s m) o (parts_right j (in_term text sc test) rest hs)))
        one t s n sc (Return at value) m o h = tested sc s m value (none_right (fault_if (not j.gives) at 14) (findings_faults j (in_term text sc value)) h)

        every : (t : ℕ) (s : List Slot) (n : NextNumbers) (sc : Scope) (list : Statements) → Agree sc s → OneInAll list → findings_faults j (in_statements text sc list) ≡ [] →
            Names (vars_list (lower_list text called t s n list).list) (lower_list text called t s n list).made (all_placed text tree sc list)
        every t s n sc no_statements m o h = leaf [] [] refl
        every t s n sc (more_statements a rest) m o h =
            let l = lower_statement text called t s n a in
            let ha = parts_left j (in_statement text sc a) (in_statements text (after sc a) rest) h in
            two _ _ _ _ _ _ (one t s n sc a m o.0 ha)
            (every t (scope_after text s n.slot a) l.next (after sc a) rest (behind_agree sc s n.slot a m o.0 ha) o.1
            (parts_right j (in_statement text sc a) (in_statements text (after sc a) rest) h))

        maybe : (t : ℕ) (s : List Slot) (n : NextNumbers) (sc : Scope) (a : Perhaps) → Agree sc s → OneIfPresent a → findings_faults j (in_perhaps text sc a) ≡ [] →
            Names (vars_of (lower_perhaps text called t s n a).stmt) (lower_perhaps text called t s n a).made (perhaps_placed text tree sc a)
        maybe t s n sc absent m o h = leaf [] [] refl
        maybe t s n sc (present a) m o h = one t s n sc a m o h

        branches : (t : ℕ) (s : List Slot) (par : ℕ) (n : NextNumbers) (sc : Scope) (bs : Branches) → Agree sc s → OneInBranches bs → findings_faults j (in_branches text sc bs) ≡ [] →
            Names (vars_launches (lower_branches text called t s par n bs).launches) (lower_branches text called t s par n bs).made (branches_placed text tree sc bs)
        branches t s par n sc no_branches m o h = leaf [] [] refl
        branches t s par n sc (by_call name args rest) m o h =
            let inner : NextNumbers = record { slot = count_terms args; thread = suc n.thread; par = n.par } in
            let b = called name.id 0 n.thread inner in
            let next : NextNumbers = record { slot = n.slot; thread = b.next.thread; par = b.next.par } in
            let own = use_faults j (Starts (count_terms args)) name (meaning text sc name.id) in
            let fs = in_terms text sc args ++ in_branches text sc rest in
            let hs = none_right own (findings_faults j fs) h in
            two (vars_all (lower_terms text s args)) _ [] _ (naming_part (in_terms text sc args)) _
            (leaf (vars_all (lower_terms text s args)) (globals_in (in_terms text sc args)) (named.terms_names text j g is_item changes nth is_one sc s m args (parts_left j (in_terms text sc args) (in_branches text sc rest) hs)))
            (branch_first _ (vars_of b.stmt) _ b.made _ (tree name.id) _ refl refl
            (right name.id 0 n.thread inner (starts_void (count_terms args) sc name (none_left own (findings_faults j fs) h)))
            (branches t s par next sc rest m o (parts_right j (in_terms text sc args) (in_branches text sc rest) hs)))
        branches t s par n sc (by_group at body rest) m o h =
            let inner : NextNumbers = record { slot = 0; thread = suc n.thread; par = n.par } in
            let l = lower_list text called n.thread [] inner body in
            let next : NextNumbers = record { slot = n.slot; thread = l.next.thread; par = l.next.par } in
            branch_first _ (vars_of (sequence l.list)) _ l.made _ (all_placed text tree no_scope body) _ refl refl
            (as_one_names l (all_placed text tree no_scope body) (every n.thread [] inner no_scope body no_names o.0 (parts_left j (in_statements text no_scope body) (Closes ∷ in_branches text sc rest) h)))
            (branches t s par next sc rest m o.1 (parts_right j (in_statements text no_scope body) (Closes ∷ in_branches text sc rest) h))

      params_agree : (sc : Scope) (s : List Slot) (slot : ℕ) (ps : List Name) → Agree sc s → findings_faults j (in_params text sc ps) ≡ [] → Agree (with_params sc ps) (s ++ params_at slot ps)
      params_agree sc s slot [] m h = subst (Agree sc) (sym (append-nil s)) m
      params_agree sc s slot (p ∷ rest) m h =
          let x : Slot = record { id = p.id; slot = slot; size = None } in
          let own = declared_faults j.names p (is_among p.id sc.here) None 0 in
          let more = findings_faults j (in_params text (with_name sc p.id false) rest) in
          let again = not_broken (is_among p.id sc.here) p.place 2 (none_left (fault_if (is_among p.id sc.here) p.place 2) _ (none_left own more h)) in
          subst (Agree (with_params (with_name sc p.id false) rest)) (append_assoc s (x ∷ []) (params_at (suc slot) rest))
          (params_agree (with_name sc p.id false) (s ++ x ∷ []) (suc slot) rest (agree_more sc s x false m refl again) (none_right own more h))

      in_body : (f : Option PlainFunction) (first t : ℕ) (n : NextNumbers) → ((h : PlainFunction) → f ≡ Some h → findings_faults j (in_function text h) ≡ []) →
          ((h : PlainFunction) → f ≡ Some h → OneInAll h.body) →
          Names (vars_of (inlined_body text called f first t n).stmt) (inlined_body text called f first t n).made (body_placed text tree f)
      in_body None first t n clean ones = leaf [] [] refl
      in_body (Some f) first t n clean ones =
          let inside = with_params no_scope f.params in
          let c = clean f refl in
          as_one_names (lower_list text called t (params_at first f.params) n f.body) (all_placed text tree inside f.body)
          (every t (params_at first f.params) n inside f.body (params_agree no_scope [] first f.params no_names (parts_left j (in_params text no_scope f.params) (in_statements text inside f.body) c))
          (ones f refl) (parts_right j (in_params text no_scope f.params) (in_statements text inside f.body) c))

  module _ (faultless : (id : ℕ) (f : PlainFunction) → find_function id text ≡ Some f → f.gives ≡ false → findings_faults j (in_function text f) ≡ [])
      (ones : (id : ℕ) (f : PlainFunction) → find_function id text ≡ Some f → OneInAll f.body)
    where
      in_turn : (deep id first t : ℕ) (n : NextNumbers) → ((f : PlainFunction) → find_function id text ≡ Some f → f.gives ≡ false) →
          Names (vars_of (within nothing_inlined (inlined_step text) deep id first t n).stmt) (within nothing_inlined (inlined_step text) deep id first t n).made
          (within no_part (placed_step text) deep id)
      unfolding within
      in_turn zero id first t n void = leaf [] [] refl
      in_turn (suc deep) id first t n void =
          in_body (within nothing_inlined (inlined_step text) deep) (within no_part (placed_step text) deep) (in_turn deep) (find_function id text) first t n
          (λ f e. faultless id f e (void f e)) (λ f e. ones id f e)

-- ---- the same at each place

pointwise : (f : Made → Bool) (h : List ℕ → Bool) (xs : List Made) (ys : List (List ℕ)) → map f xs ≡ map h ys → (a : ℕ) → a < length xs → f (at xs a) ≡ h (get_or ys a [])
pointwise f h [] ys e a l = absurd (omega arith)
pointwise f h (x ∷ xs) [] e a l = cc
pointwise f h (x ∷ xs) (y ∷ ys) e zero l = cc
pointwise f h (x ∷ xs) (y ∷ ys) e (suc a) l = let rest : map f xs ≡ map h ys = cc in pointwise f h xs ys rest a (omega arith)

-- ---- the law

module _ (text : Text) (names : List (List ℕ)) (clean : Clean text names) (one_each : ScalarsHaveOneValue text) where
  abbrev tree : ThreadPart
  tree = within no_part (placed_step text) (length text) (main_id text names)

  ones : (id : ℕ) (f : PlainFunction) → find_function id text ≡ Some f → OneInAll f.body
  ones id f e = one_each f (found_member id text (IsFunction f) (function_item id text f e))

  main_void : (f : PlainFunction) → find_function (main_id text names) text ≡ Some f → f.gives ≡ false
  main_void f e =
      let s = start_found text names clean in
      let is : find_function (main_id text names) text ≡ Some s.0 = ap (λ x. elim x [ None ↦ None | Some (IsGlobal g) ↦ None | Some (IsFunction h) ↦ Some h ]) s.1.found in
      let both : Some s.0 ≡ Some f = sym is ∙ e in
      let same : s.0 ≡ f = cc in
      ap (λ (h : PlainFunction). h.gives) (sym same) ∙ s.1.void

  -- whether a thread names a variable
  thread_names : (n : ℕ) (x : PlainVariable) → slice_get (variables text) n ≡ Some x → (a : ℕ) → a < length (root text names).made →
      is_in n (at (root text names).made a).named ≡ is_in x.global.name.id (get_or (in_preorder tree.below) a [])
  thread_names n x l a k =
      let r = numbered_in text names none_before text clean.items n (slice_get_within (variables text) n x l) in
      let is = own_item text names clean (IsGlobal r.global) r.member in
      let whole = in_turn text names r.global is r.changes r.index r.below (void_clean text names clean) ones (length text) (main_id text names) 0 0 (record { slot = 0; thread = 1; par = 0 }) main_void in
      ap (λ m. is_in m (at (root text names).made a).named) (sym r.number)
      ∙ (pointwise (λ m. is_in (variable_number r.global.name.id text + r.index) m.named) (λ gs. is_in r.global.name.id gs) (root text names).made (in_preorder tree.below) whole.each a k
      ∙ ap (λ (y : PlainGlobal). is_in y.name.id (get_or (in_preorder tree.below) a [])) (sym (r.of x l)))

  from_start : Behind (variables text) 0 (variables text)
  from_start n l = let e : 0 + n ≡ n = omega arith in ap (slice_get (variables text)) e

  as_many : variable_count text names ≡ length (variables text)
  as_many = sym (variables_counted text)

  root_uses : uses_of (kernel_of text names) 0 ≡ count_up 0 (variable_count text names)
  unfolding kernel_of
  root_uses = refl

  pub uses_of_tree : UsesOfTree text (main_id text names) (kernel_of text names)
  uses_of_tree zero l =
      ap (map (slice_get (variables text))) (root_uses ∙ ap (count_up 0) as_many) ∙ all_variables (variables text) 0 (variables text) from_start
  uses_of_tree (suc a) l =
      let k = fields.made_count text names a l in
      let vs = (at (root text names).made a).named in
      let gs = get_or (in_preorder tree.below) a [] in
      let all = thread_tree text (main_id text names) in
      let counts = threads_of_tree text names in
      let many = counts.count in
      let long = preorder_long all in
      let there : slice_get (in_preorder all) (suc a) ≡ Some gs =
      slice_get-get_or (in_preorder all) (suc a) [] (omega (arith, long, many, l)) ∙ ap (λ (x : List (List ℕ)). Some (get_or x a [])) (append-nil (in_preorder tree.below)) in
      ap (map (slice_get (variables text))) (fields.uses_made text names a k ∙ ap (λ n. filter_in vs (count_up 0 n)) as_many)
      ∙ (filtered_variables (variables text) vs gs 0 (variables text) from_start (λ n x d. (let e : 0 + n ≡ n = omega arith in ap (λ y. is_in y vs) e ∙ thread_names n x d a k))
      ∙ ap (map Some) (sym (ap (λ o. elim o [ None ↦ [] | Some own ↦ those_in own (variables text) ]) there)))

pub uses_are_those : UsesAreThoseOfTheTree
uses_are_those text names limit tokens spelled h = uses_of_tree text names (clean_of text names h) (spelled_one limit text tokens spelled)

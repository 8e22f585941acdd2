-- The faults of the loops among the findings of a body are those of its loops, in another order.
use Rattle.std.proofs.Common.{◌≡◌, ◌∙◌, sym, ap, refl, subst, false, ◌⊎◌, inl, inr, ⊎_elim, Option, Some, None, List, [], ◌∷◌, ◌++◌, append_assoc, append-nil}
use Rattle.forec_tree.specs.declared.fault.Fault.{Fault}
use Rattle.forec_tree.specs.declared.tree.Name.{Name}
use Rattle.forec_tree.specs.declared.tree.Number.{Number}
use Rattle.forec_tree.specs.declared.uses.How.TheVariants.{Starts}
use Rattle.forec_tree.specs.Terms.{Term, Num, Read, Element, Un, Bin, And, Or, Choose, Call, Terms, no_terms, more_terms, count_terms, Declared, Statement, Declare, Nothing, Group, Assign, Invoke, If, While, For, Pause, Par, Abort, Return, Statements, no_statements, more_statements, Perhaps, absent, present, Branches, no_branches, by_call, by_group, Text, PlainFunction}
use Rattle.forec_tree.specs.Scopes.{Scope, no_scope, inner_scope, with_name, with_params, is_array, after, after_perhaps}
use Rattle.forec_tree.specs.Findings.{Finding, Use, Declares, Bound, Loop, Synchronous, Gives, Opens, Closes, use_at, in_term, in_terms, in_optional, in_target, in_local, in_locals, in_bound, in_statement, in_statements, in_perhaps, in_branches, in_params, in_function}
use Rattle.forec_tree.specs.Rules.{fault_if, endless, loop_place, loop_faults}
use Rattle.forec_tree.specs.Faults.{Member, here, later}
use Rattle.forec_check.specs.Loops.{loops_in, loops_in_all, loops_in_perhaps, loops_in_branches, loops_faults}
use Rattle.forec_check.proofs.LoopLemmas.{loops_append}

-- ---- the same faults in any order

pub record SameScope (xs ys : List Fault) : Type 0 where
  pub to : (f : Fault) → Member f xs → Member f ys
  pub back : (f : Fault) → Member f ys → Member f xs

pub either_of : (x : Fault) (xs ys : List Fault) → Member x (xs ++ ys) → Member x xs ⊎ Member x ys
either_of x [] ys p = inr p
either_of x (y ∷ xs) ys here = inl here
either_of x (y ∷ xs) ys (later p) = ⊎_elim (λ a. inl (later a)) (λ b. inr b) (either_of x xs ys p)

pub on_left : (x : Fault) (xs ys : List Fault) → Member x xs → Member x (xs ++ ys)
on_left x [] ys p = elim p [ ]
on_left x (y ∷ xs) ys here = here
on_left x (y ∷ xs) ys (later p) = later (on_left x xs ys p)

pub on_right : (x : Fault) (xs ys : List Fault) → Member x ys → Member x (xs ++ ys)
on_right x [] ys p = p
on_right x (y ∷ xs) ys p = later (on_right x xs ys p)

pub same_as : (xs ys : List Fault) → xs ≡ ys → SameScope xs ys
same_as xs ys e = record { to = λ f p. subst (λ l. Member f l) e p; back = λ f p. subst (λ l. Member f l) (sym e) p }

same_then : (xs ys zs : List Fault) → SameScope xs ys → SameScope ys zs → SameScope xs zs
same_then xs ys zs a b = record { to = λ f p. b.to f (a.to f p); back = λ f p. a.back f (b.back f p) }

same_both : (xs ys zs ws : List Fault) → SameScope xs zs → SameScope ys ws → SameScope (xs ++ ys) (zs ++ ws)
same_both xs ys zs ws a b =
    record {
      to = λ f p. ⊎_elim (λ q. on_left f zs ws (a.to f q)) (λ q. on_right f zs ws (b.to f q)) (either_of f xs ys p);
      back = λ f p. ⊎_elim (λ q. on_left f xs ys (a.back f q)) (λ q. on_right f xs ys (b.back f q)) (either_of f zs ws p);
    }

same_turned : (xs ys : List Fault) → SameScope (xs ++ ys) (ys ++ xs)
same_turned xs ys =
    record {
      to = λ f p. ⊎_elim (λ q. on_right f ys xs q) (λ q. on_left f ys xs q) (either_of f xs ys p);
      back = λ f p. ⊎_elim (λ q. on_right f xs ys q) (λ q. on_left f xs ys q) (either_of f ys xs p);
    }

module _ (text : Text) where
  found_append : (xs ys : List Finding) → loop_faults text (xs ++ ys) ≡ loop_faults text xs ++ loop_faults text ys
  found_append [] ys = refl
  found_append (Use how name m ∷ xs) ys = found_append xs ys
  found_append (Declares name again size values ∷ xs) ys = found_append xs ys
  found_append (Bound n ∷ xs) ys = found_append xs ys
  found_append (Loop loop ∷ xs) ys =
      let one = fault_if (endless text loop) (loop_place loop) 20 in
      ap (λ r. one ++ r) (found_append xs ys) ∙ sym (append_assoc one (loop_faults text xs) (loop_faults text ys))
  found_append (Synchronous place ∷ xs) ys = found_append xs ys
  found_append (Gives place ∷ xs) ys = found_append xs ys
  found_append (Opens ∷ xs) ys = found_append xs ys
  found_append (Closes ∷ xs) ys = found_append xs ys

  -- ---- parts without loops

  abbrev None_in : List Finding → Type 0
  None_in fs = loop_faults text fs ≡ []

  none_both : (xs ys : List Finding) → None_in xs → None_in ys → None_in (xs ++ ys)
  none_both xs ys a b = found_append xs ys ∙ ap (λ r. r ++ loop_faults text ys) a ∙ b

  mutual
    none_term : (s : Scope) (e : Term) → None_in (in_term text s e)
    none_term s (Num at n) = refl
    none_term s (Read at name) = refl
    none_term s (Element at name i) = none_term s i
    none_term s (Un at op a) = none_term s a
    none_term s (Bin at op a b) = none_both (in_term text s a) (in_term text s b) (none_term s a) (none_term s b)
    none_term s (And at a b) = none_both (in_term text s a) (in_term text s b) (none_term s a) (none_term s b)
    none_term s (Or at a b) = none_both (in_term text s a) (in_term text s b) (none_term s a) (none_term s b)
    none_term s (Choose at t a b) =
        none_both (in_term text s t) (in_term text s a ++ in_term text s b) (none_term s t) (none_both (in_term text s a) (in_term text s b) (none_term s a) (none_term s b))
    none_term s (Call at name args) = none_terms s args

    none_terms : (s : Scope) (es : Terms) → None_in (in_terms text s es)
    none_terms s no_terms = refl
    none_terms s (more_terms e rest) = none_both (in_term text s e) (in_terms text s rest) (none_term s e) (none_terms s rest)

  none_optional : (s : Scope) (e : Option Term) → None_in (in_optional text s e)
  none_optional s None = refl
  none_optional s (Some e) = none_term s e

  none_target : (s : Scope) (name : Name) (i : Option Term) → None_in (in_target text s (record { name = name; index = i }))
  none_target s name None = refl
  none_target s name (Some i) = none_term s i

  none_locals : (s : Scope) (ls : List Declared) → None_in (in_locals text s ls)
  none_locals s [] = refl
  none_locals s (l ∷ rest) =
      none_both (in_local text s l) (in_locals text (with_name s l.name.id (is_array l.length)) rest) (none_terms s l.values) (none_locals (with_name s l.name.id (is_array l.length)) rest)

  none_bound : (b : Option Number) → None_in (in_bound b)
  none_bound None = refl
  none_bound (Some n) = refl

  none_params : (s : Scope) (ps : List Name) → None_in (in_params text s ps)
  none_params s [] = refl
  none_params s (p ∷ rest) = none_params (with_name s p.id false) rest

  -- ---- the loops of a part

  abbrev Finds : List Finding → List Statement → Type 0
  Finds fs ls = SameScope (loop_faults text fs) (loops_faults text ls)

  finds_none : (fs : List Finding) → None_in fs → Finds fs []
  finds_none fs h = same_as (loop_faults text fs) [] h

  finds_both : (fs gs : List Finding) (ls ms : List Statement) → Finds fs ls → Finds gs ms → Finds (fs ++ gs) (ls ++ ms)
  finds_both fs gs ls ms a b =
      same_then (loop_faults text (fs ++ gs)) (loop_faults text fs ++ loop_faults text gs) (loops_faults text (ls ++ ms)) (same_as _ _ (found_append fs gs))
      (same_then (loop_faults text fs ++ loop_faults text gs) (loops_faults text ls ++ loops_faults text ms) (loops_faults text (ls ++ ms))
      (same_both (loop_faults text fs) (loop_faults text gs) (loops_faults text ls) (loops_faults text ms) a b) (same_as _ _ (sym (loops_append text ls ms))))

  -- what stands in front has none
  finds_behind : (fs gs : List Finding) (ls : List Statement) → None_in fs → Finds gs ls → Finds (fs ++ gs) ls
  finds_behind fs gs ls h a = finds_both fs gs [] ls (finds_none fs h) a

  -- a loop in front of those in its body
  finds_loop : (w : Statement) (fs : List Finding) (ls : List Statement) → Finds fs ls → Finds (Loop w ∷ fs) (ls ++ w ∷ [])
  finds_loop w fs ls a =
      let one = fault_if (endless text w) (loop_place w) 20 in
      same_then (one ++ loop_faults text fs) (one ++ loops_faults text ls) (loops_faults text (ls ++ w ∷ []))
      (same_both one (loop_faults text fs) one (loops_faults text ls) (same_as one one refl) a)
      (same_then (one ++ loops_faults text ls) (loops_faults text ls ++ one) (loops_faults text (ls ++ w ∷ [])) (same_turned one (loops_faults text ls))
      (same_as _ _ (ap (λ r. loops_faults text ls ++ r) (sym (append-nil one)) ∙ sym (loops_append text ls (w ∷ [])))))

  mutual
    finds : (s : Scope) (a : Statement) → Finds (in_statement text s a) (loops_in a)
    finds s (Nothing at) = same_as [] [] refl
    finds s (Group at body) = finds_all (inner_scope s) body
    finds s (Declare at locals) = finds_none (in_locals text s locals) (none_locals s locals)
    finds s (Assign at target op value) =
        finds_none (in_target text s target ++ in_term text s value) (none_both (in_target text s target) (in_term text s value) (none_target s target.name target.index) (none_term s value))
    finds s (Invoke at name args) = finds_none (in_terms text s args) (none_terms s args)
    finds s (If at test a b) =
        finds_behind (in_term text s test) (in_statement text (inner_scope s) a ++ in_perhaps text (inner_scope s) b) (loops_in a ++ loops_in_perhaps b) (none_term s test)
        (finds_both (in_statement text (inner_scope s) a) (in_perhaps text (inner_scope s) b) (loops_in a) (loops_in_perhaps b) (finds (inner_scope s) a) (finds_perhaps (inner_scope s) b))
    finds s (While at test bound body) =
        let rest = in_term text s test ++ in_statement text (inner_scope s) body in
        finds_loop (While at test bound body) (in_bound bound ++ rest) (loops_in body)
        (finds_behind (in_bound bound) rest (loops_in body) (none_bound bound)
        (finds_behind (in_term text s test) (in_statement text (inner_scope s) body) (loops_in body) (none_term s test) (finds (inner_scope s) body)))
    finds s (For at start test step bound body) =
        let inside = after_perhaps (inner_scope s) start in
        let last = inner_scope (after_perhaps inside step) in
        let w = For at start test step bound body in
        let p = in_perhaps text (inner_scope s) start in
        let q = in_optional text inside test in
        let r = in_perhaps text inside step in
        let b = in_statement text last body in
        let ls = loops_in_perhaps start in
        let ms = loops_in_perhaps step in
        let ns = loops_in body in
        same_then (loop_faults text (Loop w ∷ in_bound bound ++ (p ++ (q ++ (r ++ b))))) (loops_faults text ((ls ++ (ms ++ ns)) ++ w ∷ [])) (loops_faults text (ls ++ (ms ++ (ns ++ w ∷ []))))
        (finds_loop w (in_bound bound ++ (p ++ (q ++ (r ++ b)))) (ls ++ (ms ++ ns))
        (finds_behind (in_bound bound) (p ++ (q ++ (r ++ b))) (ls ++ (ms ++ ns)) (none_bound bound)
        (finds_both p (q ++ (r ++ b)) ls (ms ++ ns) (finds_perhaps (inner_scope s) start)
        (finds_behind q (r ++ b) (ms ++ ns) (none_optional inside test) (finds_both r b ms ns (finds_perhaps inside step) (finds last body))))))
        (same_as _ _ (ap (loops_faults text) (append_assoc ls (ms ++ ns) (w ∷ []) ∙ ap (λ x. ls ++ x) (append_assoc ms ns (w ∷ [])))))
    finds s (Pause at) = same_as [] [] refl
    finds s (Par at bs) = finds_branches s bs
    finds s (Abort at weak immediate test body) =
        finds_behind (in_term text s test) (in_statements text (inner_scope s) body) (loops_in_all body) (none_term s test) (finds_all (inner_scope s) body)
    finds s (Return at value) = finds_none (in_term text s value) (none_term s value)

    finds_all : (s : Scope) (a : Statements) → Finds (in_statements text s a) (loops_in_all a)
    finds_all s no_statements = same_as [] [] refl
    finds_all s (more_statements a rest) =
        finds_both (in_statement text s a) (in_statements text (after s a) rest) (loops_in a) (loops_in_all rest) (finds s a) (finds_all (after s a) rest)

    finds_perhaps : (s : Scope) (a : Perhaps) → Finds (in_perhaps text s a) (loops_in_perhaps a)
    finds_perhaps s absent = same_as [] [] refl
    finds_perhaps s (present a) = finds s a

    finds_branches : (s : Scope) (bs : Branches) → Finds (in_branches text s bs) (loops_in_branches bs)
    finds_branches s no_branches = same_as [] [] refl
    finds_branches s (by_call name args rest) =
        finds_behind (use_at text s (Starts (count_terms args)) name ∷ in_terms text s args) (in_branches text s rest) (loops_in_branches rest) (none_terms s args) (finds_branches s rest)
    finds_branches s (by_group at body rest) =
        finds_both (in_statements text no_scope body) (Closes ∷ in_branches text s rest) (loops_in_all body) (loops_in_branches rest) (finds_all no_scope body) (finds_branches s rest)

  pub function_loops : (f : PlainFunction) → SameScope (loop_faults text (in_function text f)) (loops_faults text (loops_in_all f.body))
  function_loops f =
      finds_behind (in_params text no_scope f.params) (in_statements text (with_params no_scope f.params) f.body) (loops_in_all f.body) (none_params no_scope f.params)
      (finds_all (with_params no_scope f.params) f.body)

-- The walk over each function counts the thread instances that name a global: in a text in which no name is used as what it is not,
-- its number is that of the tree of threads.
use Rattle.std.proofs.Common.{ℕ, zero, suc, ◌+◌, ◌≡◌, ◌==◌, ◌∙◌, sym, ap, refl, Bool, true, false, cond, not, ◌&&◌, ◌||◌, nat_lt, nat_le, Option, Some, None, List, [], ◌∷◌, ◌++◌, length, arith}
use Rattle.forec_tree.specs.declared.fault.Fault.{Fault}
use Rattle.forec_tree.specs.declared.tree.Name.{Name}
use Rattle.forec_tree.specs.declared.tree.Number.{Number}
use Rattle.forec_tree.specs.declared.uses.Meaning.{Meaning}
use Rattle.forec_tree.specs.declared.uses.Meaning.TheVariants as means
use Rattle.forec_tree.specs.declared.uses.How.{How}
use Rattle.forec_tree.specs.declared.uses.How.TheVariants.{Reads, Indexes, Writes, WritesAt, Computes, Runs, Starts}
use Rattle.forec_tree.specs.Terms.{Term, Num, Read, Element, Un, Bin, And, Or, Choose, Call, Terms, no_terms, more_terms, count_terms, Declared, Statement, Declare, Nothing, Group, Assign, Invoke, If, While, For, Pause, Par, Abort, Return, Statements, no_statements, more_statements, Perhaps, absent, present, Branches, no_branches, by_call, by_group, Text, PlainItem, IsGlobal, IsFunction, PlainFunction}
use Rattle.forec_tree.specs.Scopes.{Scope, no_scope, inner_scope, with_name, after as scope_after, after_perhaps, with_params, is_array, meaning, name_of, find_item}
use Rattle.forec_tree.specs.Findings.{Finding, Use, Declares, Bound, Loop, Synchronous, Gives, Opens, Closes, use_at, in_term, in_terms, in_optional, in_target, in_local, in_locals, in_bound, in_statement, in_statements, in_perhaps, in_branches, in_params, in_function}
use Rattle.forec_tree.specs.Rules.{Judging, finding_faults, findings_faults, fault_if, is_long, some_always_returns}
use Rattle.forec_tree.specs.Faults.{is_in, item_named, Before, after_item, item_faults, items_faults, none_before, main_faults, text_faults}
use Rattle.forec_tree.specs.Pauses.{within, find_function}
use Rattle.forec_check.specs.AccessScan.{TextAccess, no_access, accessing_instances, AccessScan, scan_start, scan_use, scan_finding, scan_all, as_access, body_access, access_step, instances_of}
use Rattle.forec_tree.specs.ThreadTree.{InstanceTree, no_threads, thread, followed_by, ThreadPart, no_part, both_parts, as_instance, globals_in, naming_part, statement_part, all_placed, perhaps_placed, branches_placed, body_placed, placed_step, thread_tree, count_naming}

-- ---- texts in which each name that is called or started is a function's

abbrev Callable : Meaning → Type 0
Callable (means.Function gives params) = Unit {0}
Callable _ = ⊥

abbrev Clear : Finding → Type 0
Clear (Use (Runs n) name m) = Callable m
Clear (Use (Starts n) name m) = Callable m
Clear _ = Unit {0}

abbrev AllClear : List Finding → Type 0
AllClear [] = Unit {0}
AllClear (f ∷ rest) = Clear f × AllClear rest

front : (xs ys : List Finding) → AllClear (xs ++ ys) → AllClear xs
front [] ys h = tt
front (x ∷ xs) ys h = (h.0, front xs ys h.1)

back : (xs ys : List Finding) → AllClear (xs ++ ys) → AllClear ys
back [] ys h = h
back (x ∷ xs) ys h = back xs ys h.1

no_front : (xs ys : List Fault) → xs ++ ys ≡ [] → xs ≡ []
no_front [] ys h = refl
no_front (x ∷ xs) ys h = cc

no_back : (xs ys : List Fault) → xs ++ ys ≡ [] → ys ≡ []
no_back [] ys h = h
no_back (x ∷ xs) ys h = cc

clear_use : (j : Judging) (how : How) (name : Name) (m : Meaning) → finding_faults j (Use how name m) ≡ [] → Clear (Use how name m)
clear_use j Reads name m h = tt
clear_use j Indexes name m h = tt
clear_use j Writes name m h = tt
clear_use j WritesAt name m h = tt
clear_use j (Computes n) name m h = tt
clear_use j (Runs n) name means.Unknown h = cc
clear_use j (Runs n) name (means.Local array) h = cc
clear_use j (Runs n) name (means.Global kind array) h = cc
clear_use j (Runs n) name (means.Function gives params) h = tt
clear_use j (Starts n) name means.Unknown h = cc
clear_use j (Starts n) name (means.Local array) h = cc
clear_use j (Starts n) name (means.Global kind array) h = cc
clear_use j (Starts n) name (means.Function gives params) h = tt

clear_one : (j : Judging) (f : Finding) → finding_faults j f ≡ [] → Clear f
clear_one j (Use how name m) h = clear_use j how name m h
clear_one j (Declares name again size values) h = tt
clear_one j (Bound n) h = tt
clear_one j (Loop loop) h = tt
clear_one j (Synchronous place) h = tt
clear_one j (Gives place) h = tt
clear_one j Opens h = tt
clear_one j Closes h = tt

all_clear : (j : Judging) (fs : List Finding) → findings_faults j fs ≡ [] → AllClear fs
all_clear j [] h = tt
all_clear j (f ∷ rest) h =
    (clear_one j f (no_front (finding_faults j f) (findings_faults j rest) h), all_clear j rest (no_back (finding_faults j f) (findings_faults j rest) h))

-- ---- reading a text, and what it brings

in_appended : (g : ℕ) (xs ys : List ℕ) → is_in g (xs ++ ys) ≡ (is_in g xs || is_in g ys)
in_appended g [] ys = refl
in_appended g (x ∷ xs) ys =
    elim (x == g) as (λ b. cond b true (is_in g (xs ++ ys)) ≡ (cond b true (is_in g xs) || is_in g ys)) [
      | true ↦ refl
      | false ↦ in_appended g xs ys
    ]

count_followed : (g : ℕ) (ts us : InstanceTree) → count_naming g (followed_by ts us) ≡ count_naming g ts + count_naming g us
count_followed g no_threads us = omega arith
count_followed g (thread named below rest) us = let e = count_followed g rest us in omega (arith, e)

or_again : (a b c : Bool) → ((a || b) || c) ≡ (a || (b || c))
or_again true b c = refl
or_again false b c = refl

or_swap : (a b c : Bool) → ((a || b) || c) ≡ ((a || c) || b)
or_swap true b c = refl
or_swap false true true = refl
or_swap false true false = refl
or_swap false false true = refl
or_swap false false false = refl

or_none : (a : Bool) → (a || false) ≡ a
or_none true = refl
or_none false = refl

cond_self : (b : Bool) → cond b true false ≡ b
cond_self true = refl
cond_self false = refl

abbrev reading : Bool → ℕ → List Bool → AccessScan
reading own below round = record { own = own; below = below; round = round }

alike : (a b : Bool) (m n : ℕ) (round : List Bool) → a ≡ b → m ≡ n → reading a m round ≡ reading b n round
alike a b m n round e d = ap (λ x. reading x m round) e ∙ ap (λ x. reading b x round) d

module _ (g : ℕ) where
  -- a reading after a text that brings so much
  abbrev after : AccessScan → ThreadPart → AccessScan
  after r p = reading (r.own || is_in g p.named) (r.below + count_naming g p.below) r.round

  after_nothing : (r : AccessScan) → r ≡ after r no_part
  after_nothing r = alike r.own (r.own || false) r.below (r.below + 0) r.round (sym (or_none r.own)) (omega arith)

  after_joined : (r : AccessScan) (a b : ThreadPart) → after (after r a) b ≡ after r (both_parts a b)
  after_joined r a b =
      alike ((r.own || is_in g a.named) || is_in g b.named) (r.own || is_in g (a.named ++ b.named)) ((r.below + count_naming g a.below) + count_naming g b.below)
      (r.below + count_naming g (followed_by a.below b.below)) r.round
      (or_again r.own (is_in g a.named) (is_in g b.named) ∙ ap (λ x. r.own || x) (sym (in_appended g a.named b.named)))
      (let e = count_followed g a.below b.below in omega (arith, e))

  after_swapped : (r : AccessScan) (a b : ThreadPart) → after (after r a) b ≡ after (after r b) a
  after_swapped r a b =
      alike ((r.own || is_in g a.named) || is_in g b.named) ((r.own || is_in g b.named) || is_in g a.named) ((r.below + count_naming g a.below) + count_naming g b.below)
      ((r.below + count_naming g b.below) + count_naming g a.below) r.round
      (or_swap r.own (is_in g a.named) (is_in g b.named)) (omega arith)

  -- what a text brings, as the naming of a function
  abbrev access_of : ThreadPart → TextAccess
  access_of p = record { own = is_in g p.named; below = count_naming g p.below }

  module _ (text : Text) (called : ℕ → ThreadPart) (counts : ℕ → TextAccess) (right : (id : ℕ) → counts id ≡ access_of (called id)) where
    -- reading some findings comes to what a text brings
    abbrev Brings : List Finding → ThreadPart → Type 0
    Brings fs p = (r : AccessScan) → scan_all g counts r fs ≡ after r p

    read_appended : (r : AccessScan) (xs ys : List Finding) → scan_all g counts r (xs ++ ys) ≡ scan_all g counts (scan_all g counts r xs) ys
    read_appended r [] ys = refl
    read_appended r (x ∷ xs) ys = read_appended (scan_finding g counts r x) xs ys

    two : (xs ys : List Finding) (p q : ThreadPart) → Brings xs p → Brings ys q → Brings (xs ++ ys) (both_parts p q)
    two xs ys p q h k r =
        read_appended r xs ys ∙ (ap (λ a. scan_all g counts a ys) (h r) ∙ (k (after r p) ∙ after_joined r p q))

    globals_appended : (xs ys : List Finding) → globals_in (xs ++ ys) ≡ globals_in xs ++ globals_in ys
    globals_appended [] ys = refl
    globals_appended (Use how name means.Unknown ∷ xs) ys = globals_appended xs ys
    globals_appended (Use how name (means.Local array) ∷ xs) ys = globals_appended xs ys
    globals_appended (Use how name (means.Global kind array) ∷ xs) ys = ap (λ l. name.id ∷ l) (globals_appended xs ys)
    globals_appended (Use how name (means.Function gives params) ∷ xs) ys = globals_appended xs ys
    globals_appended (Declares name again size values ∷ xs) ys = globals_appended xs ys
    globals_appended (Bound n ∷ xs) ys = globals_appended xs ys
    globals_appended (Loop loop ∷ xs) ys = globals_appended xs ys
    globals_appended (Synchronous place ∷ xs) ys = globals_appended xs ys
    globals_appended (Gives place ∷ xs) ys = globals_appended xs ys
    globals_appended (Opens ∷ xs) ys = globals_appended xs ys
    globals_appended (Closes ∷ xs) ys = globals_appended xs ys

    named_two : (xs ys : List Finding) → Brings xs (naming_part xs) → Brings ys (naming_part ys) → Brings (xs ++ ys) (naming_part (xs ++ ys))
    named_two xs ys h k r =
        two xs ys (naming_part xs) (naming_part ys) h k r
        ∙ ap (λ l. after r (record { named = l; below = no_threads })) (sym (globals_appended xs ys))

    none : Brings [] no_part
    none r = after_nothing r

    one_global : (r : AccessScan) (id : ℕ) → reading (r.own || (id == g)) r.below r.round ≡ after r (record { named = id ∷ []; below = no_threads })
    one_global r id =
        alike (r.own || (id == g)) (r.own || is_in g (id ∷ [])) r.below (r.below + 0) r.round (ap (λ b. r.own || b) (sym (cond_self (id == g)))) (omega arith)

    reads_one : (name : Name) (m : Meaning) → Brings (Use Reads name m ∷ []) (naming_part (Use Reads name m ∷ []))
    reads_one name means.Unknown r = after_nothing r
    reads_one name (means.Local array) r = after_nothing r
    reads_one name (means.Global kind array) r = one_global r name.id
    reads_one name (means.Function gives params) r = after_nothing r

    indexes_one : (name : Name) (m : Meaning) → Brings (Use Indexes name m ∷ []) (naming_part (Use Indexes name m ∷ []))
    indexes_one name means.Unknown r = after_nothing r
    indexes_one name (means.Local array) r = after_nothing r
    indexes_one name (means.Global kind array) r = one_global r name.id
    indexes_one name (means.Function gives params) r = after_nothing r

    writes_one : (name : Name) (m : Meaning) → Brings (Use Writes name m ∷ []) (naming_part (Use Writes name m ∷ []))
    writes_one name means.Unknown r = after_nothing r
    writes_one name (means.Local array) r = after_nothing r
    writes_one name (means.Global kind array) r = one_global r name.id
    writes_one name (means.Function gives params) r = after_nothing r

    writes_at_one : (name : Name) (m : Meaning) → Brings (Use WritesAt name m ∷ []) (naming_part (Use WritesAt name m ∷ []))
    writes_at_one name means.Unknown r = after_nothing r
    writes_at_one name (means.Local array) r = after_nothing r
    writes_at_one name (means.Global kind array) r = one_global r name.id
    writes_at_one name (means.Function gives params) r = after_nothing r

    computes_one : (n : ℕ) (name : Name) (m : Meaning) → Brings (Use (Computes n) name m ∷ []) (naming_part (Use (Computes n) name m ∷ []))
    computes_one n name means.Unknown r = after_nothing r
    computes_one n name (means.Local array) r = after_nothing r
    computes_one n name (means.Global kind array) r = one_global r name.id
    computes_one n name (means.Function gives params) r = after_nothing r

    mutual
      in_one_term : (s : Scope) (e : Term) → Brings (in_term text s e) (naming_part (in_term text s e))
      in_one_term s (Num at n) = none
      in_one_term s (Read at name) = reads_one name (meaning text s name.id)
      in_one_term s (Element at name i) = named_two (use_at text s Indexes name ∷ []) (in_term text s i) (indexes_one name (meaning text s name.id)) (in_one_term s i)
      in_one_term s (Un at op a) = in_one_term s a
      in_one_term s (Bin at op a b) = named_two (in_term text s a) (in_term text s b) (in_one_term s a) (in_one_term s b)
      in_one_term s (And at a b) = named_two (in_term text s a) (in_term text s b) (in_one_term s a) (in_one_term s b)
      in_one_term s (Or at a b) = named_two (in_term text s a) (in_term text s b) (in_one_term s a) (in_one_term s b)
      in_one_term s (Choose at t a b) =
          named_two (in_term text s t) (in_term text s a ++ in_term text s b) (in_one_term s t)
          (named_two (in_term text s a) (in_term text s b) (in_one_term s a) (in_one_term s b))
      in_one_term s (Call at name args) =
          named_two (use_at text s (Computes (count_terms args)) name ∷ []) (in_terms text s args) (computes_one (count_terms args) name (meaning text s name.id))
          (in_all_terms s args)

      in_all_terms : (s : Scope) (es : Terms) → Brings (in_terms text s es) (naming_part (in_terms text s es))
      in_all_terms s no_terms = none
      in_all_terms s (more_terms e rest) = named_two (in_term text s e) (in_terms text s rest) (in_one_term s e) (in_all_terms s rest)

    in_optional_term : (s : Scope) (e : Option Term) → Brings (in_optional text s e) (naming_part (in_optional text s e))
    in_optional_term s None = none
    in_optional_term s (Some e) = in_one_term s e

    in_written : (s : Scope) (name : Name) (i : Option Term) →
        Brings (in_target text s (record { name = name; index = i })) (naming_part (in_target text s (record { name = name; index = i })))
    in_written s name None = writes_one name (meaning text s name.id)
    in_written s name (Some i) = named_two (use_at text s WritesAt name ∷ []) (in_term text s i) (writes_at_one name (meaning text s name.id)) (in_one_term s i)

    in_declared : (s : Scope) (ls : List Declared) → Brings (in_locals text s ls) (naming_part (in_locals text s ls))
    in_declared s [] = none
    in_declared s (l ∷ rest) =
        named_two (in_local text s l) (in_locals text (with_name s l.name.id (is_array l.length)) rest) (in_all_terms s l.values)
        (in_declared (with_name s l.name.id (is_array l.length)) rest)

    behind_bound : (b : Option Number) (fs : List Finding) (p : ThreadPart) → Brings fs p → Brings (in_bound b ++ fs) p
    behind_bound None fs p h = h
    behind_bound (Some n) fs p h = h

    -- a call as a statement: the body is put in place
    runs : (n : ℕ) (name : Name) (m : Meaning) (args : List Finding) → Callable m → Brings args (naming_part args) →
        Brings (Use (Runs n) name m ∷ args) (both_parts (naming_part args) (called name.id))
    runs n name means.Unknown args c h r = absurd c
    runs n name (means.Local array) args c h r = absurd c
    runs n name (means.Global kind array) args c h r = absurd c
    runs n name (means.Function gives params) args c h r =
        let put : scan_use g counts r (Runs n) name.id (means.Function gives params) ≡ after r (called name.id) =
        ap (λ (x : TextAccess). reading (r.own || x.own) (r.below + x.below) r.round) (right name.id) in
        ap (λ a. scan_all g counts a args) put
        ∙ (h (after r (called name.id)) ∙ (after_swapped r (called name.id) (naming_part args) ∙ after_joined r (naming_part args) (called name.id)))

    branch_is : (r : AccessScan) (p : ThreadPart) → reading r.own (r.below + accessing_instances (access_of p)) r.round ≡ after r (as_instance p)
    branch_is r p =
        alike r.own (r.own || false) (r.below + accessing_instances (access_of p)) (r.below + (accessing_instances (access_of p) + 0)) r.round (sym (or_none r.own)) (omega arith)

    -- a branch
    starts : (n : ℕ) (name : Name) (m : Meaning) (args rest : List Finding) (p : ThreadPart) → Callable m → Brings args (naming_part args) → Brings rest p →
        Brings (Use (Starts n) name m ∷ args ++ rest) (both_parts (naming_part args) (both_parts (as_instance (called name.id)) p))
    starts n name means.Unknown args rest p c h k r = absurd c
    starts n name (means.Local array) args rest p c h k r = absurd c
    starts n name (means.Global kind array) args rest p c h k r = absurd c
    starts n name (means.Function gives params) args rest p c h k r =
        let one = as_instance (called name.id) in
        let put : scan_use g counts r (Starts n) name.id (means.Function gives params) ≡ after r one =
        ap (λ (x : TextAccess). reading r.own (r.below + accessing_instances x) r.round) (right name.id) ∙ branch_is r (called name.id) in
        ap (λ a. scan_all g counts a (args ++ rest)) put
        ∙ (read_appended (after r one) args rest
        ∙ (ap (λ a. scan_all g counts a rest) (h (after r one) ∙ after_swapped r one (naming_part args))
        ∙ (k (after (after r (naming_part args)) one) ∙ (after_joined (after r (naming_part args)) one p ∙ after_joined r (naming_part args) (both_parts one p)))))

    -- a block that is a branch
    block : (body rest : List Finding) (p q : ThreadPart) → Brings body p → Brings rest q → Brings (Opens ∷ body ++ Closes ∷ rest) (both_parts (as_instance p) q)
    block body rest p q h k r =
        let inside = reading false r.below (r.own ∷ r.round) in
        read_appended inside body (Closes ∷ rest)
        ∙ (ap (λ a. scan_all g counts a (Closes ∷ rest)) (h inside)
        ∙ (ap (λ a. scan_all g counts a rest) (closes r p) ∙ (k (after r (as_instance p)) ∙ after_joined r (as_instance p) q)))
      where
        counted : (b : Bool) (m n : ℕ) → (m + n) + cond b 1 0 ≡ m + (cond b (suc n) n + 0)
        counted true m n = omega arith
        counted false m n = omega arith

        closes : (r : AccessScan) (p : ThreadPart) → reading r.own ((r.below + count_naming g p.below) + cond (is_in g p.named) 1 0) r.round ≡ after r (as_instance p)
        closes r p = alike r.own (r.own || false) _ _ r.round (sym (or_none r.own)) (counted (is_in g p.named) r.below (count_naming g p.below))

    mutual
      in_one : (s : Scope) (a : Statement) → AllClear (in_statement text s a) → Brings (in_statement text s a) (statement_part text called s a)
      in_one s (Nothing at) c = none
      in_one s (Group at body) c = in_all (inner_scope s) body c
      in_one s (Declare at locals) c = in_declared s locals
      in_one s (Assign at target op value) c =
          named_two (in_target text s target) (in_term text s value) (in_written s target.name target.index) (in_one_term s value)
      in_one s (Invoke at name args) c = runs (count_terms args) name (meaning text s name.id) (in_terms text s args) c.0 (in_all_terms s args)
      in_one s (If at test a b) c =
          let tail = in_statement text (inner_scope s) a ++ in_perhaps text (inner_scope s) b in
          let d = back (in_term text s test) tail c in
          two (in_term text s test) tail (naming_part (in_term text s test)) (both_parts (statement_part text called (inner_scope s) a) (perhaps_placed text called (inner_scope s) b)) (in_one_term s test)
          (two (in_statement text (inner_scope s) a) (in_perhaps text (inner_scope s) b) (statement_part text called (inner_scope s) a) (perhaps_placed text called (inner_scope s) b)
          (in_one (inner_scope s) a (front (in_statement text (inner_scope s) a) (in_perhaps text (inner_scope s) b) d))
          (in_maybe (inner_scope s) b (back (in_statement text (inner_scope s) a) (in_perhaps text (inner_scope s) b) d)))
      in_one s (While at test bound body) c =
          let d = back (in_bound bound) (in_term text s test ++ in_statement text (inner_scope s) body) c.1 in
          behind_bound bound (in_term text s test ++ in_statement text (inner_scope s) body) (both_parts (naming_part (in_term text s test)) (statement_part text called (inner_scope s) body))
          (two (in_term text s test) (in_statement text (inner_scope s) body) (naming_part (in_term text s test)) (statement_part text called (inner_scope s) body) (in_one_term s test)
          (in_one (inner_scope s) body (back (in_term text s test) (in_statement text (inner_scope s) body) d)))
      in_one s (For at start test step bound body) c =
          let inside = after_perhaps (inner_scope s) start in
          let last = inner_scope (after_perhaps inside step) in
          let first = in_perhaps text (inner_scope s) start in
          let tests = in_optional text inside test in
          let steps = in_perhaps text inside step in
          let rest = in_statement text last body in
          let d = back (in_bound bound) (first ++ (tests ++ (steps ++ rest))) c.1 in
          let e = back tests (steps ++ rest) (back first (tests ++ (steps ++ rest)) d) in
          let p = perhaps_placed text called (inner_scope s) start in
          let q = perhaps_placed text called inside step in
          let b = statement_part text called last body in
          behind_bound bound (first ++ (tests ++ (steps ++ rest))) (both_parts p (both_parts (naming_part tests) (both_parts q b)))
          (two first (tests ++ (steps ++ rest)) p (both_parts (naming_part tests) (both_parts q b)) (in_maybe (inner_scope s) start (front first (tests ++ (steps ++ rest)) d))
          (two tests (steps ++ rest) (naming_part tests) (both_parts q b) (in_optional_term inside test)
          (two steps rest q b (in_maybe inside step (front steps rest e)) (in_one last body (back steps rest e)))))
      in_one s (Pause at) c = none
      in_one s (Par at bs) c = in_each s bs c.1
      in_one s (Abort at weak immediate test body) c =
          two (in_term text s test) (in_statements text (inner_scope s) body) (naming_part (in_term text s test)) (all_placed text called (inner_scope s) body) (in_one_term s test)
          (in_all (inner_scope s) body (back (in_term text s test) (in_statements text (inner_scope s) body) c.1))
      in_one s (Return at value) c = in_one_term s value

      in_all : (s : Scope) (list : Statements) → AllClear (in_statements text s list) → Brings (in_statements text s list) (all_placed text called s list)
      in_all s no_statements c = none
      in_all s (more_statements a rest) c =
          two (in_statement text s a) (in_statements text (scope_after s a) rest) (statement_part text called s a) (all_placed text called (scope_after s a) rest)
          (in_one s a (front (in_statement text s a) (in_statements text (scope_after s a) rest) c))
          (in_all (scope_after s a) rest (back (in_statement text s a) (in_statements text (scope_after s a) rest) c))

      in_maybe : (s : Scope) (a : Perhaps) → AllClear (in_perhaps text s a) → Brings (in_perhaps text s a) (perhaps_placed text called s a)
      in_maybe s absent c = none
      in_maybe s (present a) c = in_one s a c

      in_each : (s : Scope) (bs : Branches) → AllClear (in_branches text s bs) → Brings (in_branches text s bs) (branches_placed text called s bs)
      in_each s no_branches c = none
      in_each s (by_call name args rest) c =
          starts (count_terms args) name (meaning text s name.id) (in_terms text s args) (in_branches text s rest) (branches_placed text called s rest) c.0
          (in_all_terms s args) (in_each s rest (back (in_terms text s args) (in_branches text s rest) c.1))
      in_each s (by_group at body rest) c =
          let inside = in_statements text no_scope body in
          block inside (in_branches text s rest) (all_placed text called no_scope body) (branches_placed text called s rest)
          (in_all no_scope body (front inside (Closes ∷ in_branches text s rest) c.1))
          (in_each s rest (back inside (Closes ∷ in_branches text s rest) c.1).1)

    in_parameters : (s : Scope) (ps : List Name) (fs : List Finding) (p : ThreadPart) → Brings fs p → Brings (in_params text s ps ++ fs) p
    in_parameters s [] fs p h = h
    in_parameters s (x ∷ rest) fs p h = in_parameters (with_name s x.id false) rest fs p h

    in_body : (f : Option PlainFunction) → ((h : PlainFunction) → f ≡ Some h → AllClear (in_function text h)) → body_access text g counts f ≡ access_of (body_placed text called f)
    in_body None c = refl
    in_body (Some f) c =
        let scope = with_params no_scope f.params in
        let d = back (in_params text no_scope f.params) (in_statements text scope f.body) (c f refl) in
        let p = all_placed text called scope f.body in
        ap as_access (in_parameters no_scope f.params (in_statements text scope f.body) p (in_all scope f.body d) scan_start)
        ∙ ap (λ n. record { own = is_in g p.named; below = n }) (let e : 0 + count_naming g p.below ≡ count_naming g p.below = omega arith in e)

  counts_within : (text : Text) → ((id : ℕ) (f : PlainFunction) → find_function id text ≡ Some f → AllClear (in_function text f)) → (n id : ℕ) →
      within no_access (access_step text g) n id ≡ access_of (within no_part (placed_step text) n id)
  unfolding within
  counts_within text c zero id = refl
  counts_within text c (suc n) id =
      in_body text (within no_part (placed_step text) n) (within no_access (access_step text g) n) (counts_within text c n) (find_function id text) (c id)

-- ---- texts without faults

here_clear : (text : Text) (names : List (List ℕ)) (b : Before) (i : PlainItem) (f : PlainFunction) → item_faults text names b i ≡ [] → i ≡ IsFunction f →
    AllClear (in_function text f)
here_clear text names b i f h e =
    let k : item_faults text names b (IsFunction f) ≡ [] = ap (item_faults text names b) (sym e) ∙ h in
    all_clear (record { names = names; gives = f.gives }) (in_function text f)
    (no_back (fault_if (f.gives && not (some_always_returns f.body)) f.name.place 15) _
    (no_back (fault_if (nat_le 1024 b.functions) f.name.place 24) _
    (no_back (fault_if (nat_lt 16 (length f.params)) f.name.place 23) _
    (no_back (fault_if (is_long names f.name.id) f.name.place 21) _
    (no_back (fault_if (item_named f.name.id b.items) f.name.place 2) _ k)))))

function_clear : (text : Text) (names : List (List ℕ)) (id : ℕ) (f : PlainFunction) (b : Before) (items : Text) → items_faults text names b items ≡ [] →
    find_item id items ≡ Some (IsFunction f) → AllClear (in_function text f)
function_clear text names id f b [] h e = cc
function_clear text names id f b (i ∷ rest) h e =
    pick ((name_of i).id == id) e
    (function_clear text names id f (after_item b i) rest (no_back (item_faults text names b i) (items_faults text names (after_item b i) rest) h))
  where
    pick : (t : Bool) → cond t (Some i) (find_item id rest) ≡ Some (IsFunction f) → (find_item id rest ≡ Some (IsFunction f) → AllClear (in_function text f)) → AllClear (in_function text f)
    pick true e later = here_clear text names b i f (no_front (item_faults text names b i) (items_faults text names (after_item b i) rest) h) cc
    pick false e later = later e

abbrev as_function : Option PlainItem → Option PlainFunction
as_function i = elim i [ None ↦ None | Some (IsGlobal g) ↦ None | Some (IsFunction f) ↦ Some f ]

item_found : (i : Option PlainItem) (f : PlainFunction) → as_function i ≡ Some f → i ≡ Some (IsFunction f)
item_found None f h = cc
item_found (Some (IsGlobal g)) f h = cc
item_found (Some (IsFunction k)) f h = cc

pub tree_namings : (text : Text) (names : List (List ℕ)) (g first : ℕ) → text_faults text names ≡ [] →
    count_naming g (thread_tree text first) ≡ instances_of text g first
tree_namings text names g first h =
    let clear : (id : ℕ) (f : PlainFunction) → find_function id text ≡ Some f → AllClear (in_function text f) =
    λ id f e. function_clear text names id f none_before text (no_back (main_faults text names) (items_faults text names none_before text) h) (item_found (find_item id text) f e) in
    let p = within no_part (placed_step text) (length text) first in
    let e : (cond (is_in g p.named) (suc (count_naming g p.below)) (count_naming g p.below)) + 0 ≡ accessing_instances (access_of g p) = omega arith in
    e ∙ sym (ap accessing_instances (counts_within g text clear (length text) first))

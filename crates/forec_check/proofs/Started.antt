-- In a text without faults each statement that calls or starts a name does so to a function.
use Rattle.std.proofs.Common.{ℕ, ◌+◌, ◌==◌, ◌≡◌, ◌∙◌, sym, ap, refl, subst, ◌⊎◌, inl, inr, ⊎_elim, Bool, true, false, cond, not, Option, Some, None, List, [], ◌∷◌, ◌++◌, arith}
use Rattle.std.proofs.lemmas.Bool.{eqb-true}
use Rattle.std.proofs.lemmas.Bool.Decides.{nat_tests}
use Rattle.forec_tree.specs.declared.fault.Fault.{Fault}
use Rattle.forec_tree.specs.declared.tree.Name.{Name}
use Rattle.forec_tree.specs.declared.uses.How.TheVariants as how
use Rattle.forec_tree.specs.declared.uses.Meaning.{Meaning}
use Rattle.forec_tree.specs.declared.uses.Meaning.TheVariants as means
use Rattle.forec_tree.specs.Terms.{Text, PlainItem, IsGlobal, IsFunction, PlainFunction, Statement, Declare, Nothing, Group, Assign, Invoke, If, While, For, Pause, Par, Abort, Return, Statements, no_statements, more_statements, Perhaps, absent, present, Branches, no_branches, by_call, by_group, count_terms}
use Rattle.forec_tree.specs.Scopes.{Scope, no_scope, inner_scope, after, after_perhaps, name_of, find_item, meaning}
use Rattle.forec_tree.specs.Findings as finding
use Rattle.forec_tree.specs.Findings.{Finding, Use, use_at, in_bound, in_terms, in_term, in_optional, in_statement, in_statements, in_perhaps, in_branches}
use Rattle.forec_tree.specs.Rules.{Judging, use_faults, finding_faults, findings_faults}
use Rattle.forec_tree.specs.Pauses.{started_names, all_started, perhaps_started, branches_started}
use Rattle.forec_tree.specs.Faults.{is_in, called_in}
use Rattle.forec_tree.proofs.FindingFaults.{findings-append}
use Rattle.loop_check.proofs.IndexLemmas.{split}
use Rattle.program_walk.specs.Walk.{effects_of}
use Rattle.forec_check.specs.Early.{effect_calls}
use Rattle.program_walk.proofs.WalkLemmas.{effects-append}
use Rattle.forec_check.proofs.Recursion.{effect_calls-append, calls_is}

pub nil_left : {A : Type 0} (xs ys : List A) → xs ++ ys ≡ [] → xs ≡ []
nil_left [] ys h = refl
nil_left (x ∷ xs) ys h = absurd (let q : x ∷ (xs ++ ys) ≡ [] = h in cc)

pub nil_right : {A : Type 0} (xs ys : List A) → xs ++ ys ≡ [] → ys ≡ []
nil_right [] ys h = h
nil_right (x ∷ xs) ys h = absurd (let q : x ∷ (xs ++ ys) ≡ [] = h in cc)

called_append : (xs ys : List Finding) → called_in (xs ++ ys) ≡ called_in xs ++ called_in ys
called_append xs ys =
    sym (calls_is (xs ++ ys)) ∙ ap effect_calls (effects-append xs ys) ∙ effect_calls-append (effects_of xs) (effects_of ys)
    ∙ ap (λ l. l ++ effect_calls (effects_of ys)) (calls_is xs) ∙ ap (λ l. called_in xs ++ l) (calls_is ys)

pub in_left : (g : ℕ) (xs ys : List ℕ) → is_in g xs ≡ true → is_in g (xs ++ ys) ≡ true
in_left g [] ys h = absurd (let q : false ≡ true = h in cc)
in_left g (x ∷ xs) ys h =
    let rest = in_left g xs ys in
    split (x == g) (λ e. ap (λ b. cond b true (is_in g (xs ++ ys))) e)
    (λ e. ap (λ b. cond b true (is_in g (xs ++ ys))) e ∙ rest (sym (ap (λ b. cond b true (is_in g xs)) e) ∙ h))

pub in_right : (g : ℕ) (xs ys : List ℕ) → is_in g ys ≡ true → is_in g (xs ++ ys) ≡ true
in_right g [] ys h = h
in_right g (x ∷ xs) ys h = let rest = in_right g xs ys h in elim (x == g) as (λ b. cond b true (is_in g (xs ++ ys)) ≡ true) [ true ↦ refl | false ↦ rest ]

either : (g : ℕ) (xs ys : List ℕ) → is_in g (xs ++ ys) ≡ true → (is_in g xs ≡ true) ⊎ (is_in g ys ≡ true)
either g [] ys h = inr h
either g (x ∷ xs) ys h =
    let rest = either g xs ys in
    split (x == g) (λ e. inl (ap (λ b. cond b true (is_in g xs)) e))
    (λ e.
    ⊎_elim (λ i. inl (ap (λ b. cond b true (is_in g xs)) e ∙ i)) (λ i. inr i) (rest (sym (ap (λ b. cond b true (is_in g (xs ++ ys))) e) ∙ h)))

-- what some findings call, among more of them
pub called_left : (g : ℕ) (xs ys : List Finding) → is_in g (called_in xs) ≡ true → is_in g (called_in (xs ++ ys)) ≡ true
called_left g xs ys h = ap (is_in g) (called_append xs ys) ∙ in_left g (called_in xs) (called_in ys) h

pub called_right : (g : ℕ) (xs ys : List Finding) → is_in g (called_in ys) ≡ true → is_in g (called_in (xs ++ ys)) ≡ true
called_right g xs ys h = ap (is_in g) (called_append xs ys) ∙ in_right g (called_in xs) (called_in ys) h

-- clean findings, part by part
abbrev pub Clean : Judging → List Finding → Type 0
Clean j fs = findings_faults j fs ≡ []

pub clean_left : (j : Judging) (xs ys : List Finding) → Clean j (xs ++ ys) → Clean j xs
clean_left j xs ys h = nil_left (findings_faults j xs) (findings_faults j ys) (sym (findings-append j xs ys) ∙ h)

pub clean_right : (j : Judging) (xs ys : List Finding) → Clean j (xs ++ ys) → Clean j ys
clean_right j xs ys h = nil_right (findings_faults j xs) (findings_faults j ys) (sym (findings-append j xs ys) ∙ h)

-- a name that is called as a statement
runs_call : (j : Judging) (n : ℕ) (name : Name) (m : Meaning) (rest : List Finding) → Clean j (Use (how.Runs n) name m ∷ rest) →
    is_in name.id (called_in (Use (how.Runs n) name m ∷ rest)) ≡ true
runs_call j n name means.Unknown rest h = absurd (let q = h in cc)
runs_call j n name (means.Local a) rest h = absurd (let q = h in cc)
runs_call j n name (means.Global k a) rest h = absurd (let q = h in cc)
runs_call j n name (means.Function g p) rest h = let s : (name.id == name.id) ≡ true = grind (arith, nat_tests) in ap (λ b. cond b true (is_in name.id (called_in rest))) s

starts_call : (j : Judging) (n : ℕ) (name : Name) (m : Meaning) (rest : List Finding) → Clean j (Use (how.Starts n) name m ∷ rest) →
    is_in name.id (called_in (Use (how.Starts n) name m ∷ rest)) ≡ true
starts_call j n name means.Unknown rest h = absurd (let q = h in cc)
starts_call j n name (means.Local a) rest h = absurd (let q = h in cc)
starts_call j n name (means.Global k a) rest h = absurd (let q = h in cc)
starts_call j n name (means.Function g p) rest h = let s : (name.id == name.id) ≡ true = grind (arith, nat_tests) in ap (λ b. cond b true (is_in name.id (called_in rest))) s

-- the one name of a list
only : (g n : ℕ) → is_in g (n ∷ []) ≡ true → n ≡ g
only g n h = split (n == g) (λ e. eqb-true n g e) (λ e. absurd (let q : false ≡ true = sym (ap (λ b. cond b true false) e) ∙ h in cc))

module _ (j : Judging) (text : Text) where
  mutual
    pub calls : (s : Scope) (a : Statement) → Clean j (in_statement text s a) → (g : ℕ) → is_in g (started_names a) ≡ true → is_in g (called_in (in_statement text s a)) ≡ true
    calls s (Nothing at) c g h = absurd (let q : false ≡ true = h in cc)
    calls s (Group at body) c g h = calls_all (inner_scope s) body c g h
    calls s (Declare at locals) c g h = absurd (let q : false ≡ true = h in cc)
    calls s (Assign at target op value) c g h = absurd (let q : false ≡ true = h in cc)
    calls s (Invoke at name args) c g h =
        subst (λ x. is_in x (called_in (in_statement text s (Invoke at name args))) ≡ true) (only g name.id h)
        (runs_call j (count_terms args) name (meaning text s name.id) (in_terms text s args) c)
    calls s (If at test a b) c g h =
        let c1 = clean_right j (in_term text s test) (in_statement text (inner_scope s) a ++ in_perhaps text (inner_scope s) b) c in
        let ca = clean_left j (in_statement text (inner_scope s) a) (in_perhaps text (inner_scope s) b) c1 in
        let cb = clean_right j (in_statement text (inner_scope s) a) (in_perhaps text (inner_scope s) b) c1 in
        let x = calls (inner_scope s) a ca g in
        let y = calls_perhaps (inner_scope s) b cb g in
        called_right g (in_term text s test) (in_statement text (inner_scope s) a ++ in_perhaps text (inner_scope s) b)
        (⊎_elim (λ i. called_left g (in_statement text (inner_scope s) a) (in_perhaps text (inner_scope s) b) (x i))
        (λ i. called_right g (in_statement text (inner_scope s) a) (in_perhaps text (inner_scope s) b) (y i)) (either g (started_names a) (perhaps_started b) h))
    calls s (While at test bound body) c g h =
        let rest = in_term text s test ++ in_statement text (inner_scope s) body in
        let c1 = clean_right j (in_bound bound) rest c in
        let x = calls (inner_scope s) body (clean_right j (in_term text s test) (in_statement text (inner_scope s) body) c1) g h in
        called_right g (in_bound bound) rest (called_right g (in_term text s test) (in_statement text (inner_scope s) body) x)
    calls s (For at start test step bound body) c g h =
        let inside = after_perhaps (inner_scope s) start in
        let p1 = in_perhaps text (inner_scope s) start in
        let p2 = in_optional text inside test in
        let p3 = in_perhaps text inside step in
        let p4 = in_statement text (inner_scope (after_perhaps inside step)) body in
        let c1 = clean_right j (in_bound bound) (p1 ++ (p2 ++ (p3 ++ p4))) c in
        let c2 = clean_right j p1 (p2 ++ (p3 ++ p4)) c1 in
        let c3 = clean_right j p2 (p3 ++ p4) c2 in
        let x1 = calls_perhaps (inner_scope s) start (clean_left j p1 (p2 ++ (p3 ++ p4)) c1) g in
        let x3 = calls_perhaps inside step (clean_left j p3 p4 c3) g in
        let x4 = calls (inner_scope (after_perhaps inside step)) body (clean_right j p3 p4 c3) g in
        called_right g (in_bound bound) (p1 ++ (p2 ++ (p3 ++ p4)))
        (⊎_elim (λ i. called_left g p1 (p2 ++ (p3 ++ p4)) (x1 i))
        (λ i.
        called_right g p1 (p2 ++ (p3 ++ p4)) (called_right g p2 (p3 ++ p4)
        (⊎_elim (λ k. called_left g p3 p4 (x3 k)) (λ k. called_right g p3 p4 (x4 k)) (either g (perhaps_started step) (started_names body) i))))
        (either g (perhaps_started start) (perhaps_started step ++ started_names body) h))
    calls s (Pause at) c g h = absurd (let q : false ≡ true = h in cc)
    calls s (Par at bs) c g h = calls_branches s bs (clean_right j (finding.Synchronous at ∷ []) (in_branches text s bs) c) g h
    calls s (Abort at weak immediate test body) c g h =
        let c1 = clean_right j (finding.Synchronous at ∷ []) (in_term text s test ++ in_statements text (inner_scope s) body) c in
        let x = calls_all (inner_scope s) body (clean_right j (in_term text s test) (in_statements text (inner_scope s) body) c1) g h in
        called_right g (in_term text s test) (in_statements text (inner_scope s) body) x
    calls s (Return at value) c g h = absurd (let q : false ≡ true = h in cc)

    pub calls_all : (s : Scope) (a : Statements) → Clean j (in_statements text s a) → (g : ℕ) → is_in g (all_started a) ≡ true → is_in g (called_in (in_statements text s a)) ≡ true
    calls_all s no_statements c g h = absurd (let q : false ≡ true = h in cc)
    calls_all s (more_statements a rest) c g h =
        let x = calls s a (clean_left j (in_statement text s a) (in_statements text (after s a) rest) c) g in
        let y = calls_all (after s a) rest (clean_right j (in_statement text s a) (in_statements text (after s a) rest) c) g in
        ⊎_elim (λ i. called_left g (in_statement text s a) (in_statements text (after s a) rest) (x i))
        (λ i. called_right g (in_statement text s a) (in_statements text (after s a) rest) (y i)) (either g (started_names a) (all_started rest) h)

    pub calls_perhaps : (s : Scope) (a : Perhaps) → Clean j (in_perhaps text s a) → (g : ℕ) → is_in g (perhaps_started a) ≡ true → is_in g (called_in (in_perhaps text s a)) ≡ true
    calls_perhaps s absent c g h = absurd (let q : false ≡ true = h in cc)
    calls_perhaps s (present a) c g h = calls s a c g h

    pub calls_branches : (s : Scope) (b : Branches) → Clean j (in_branches text s b) → (g : ℕ) → is_in g (branches_started b) ≡ true → is_in g (called_in (in_branches text s b)) ≡ true
    calls_branches s no_branches c g h = absurd (let q : false ≡ true = h in cc)
    calls_branches s (by_call name args rest) c g h =
        let first = use_at text s (how.Starts (count_terms args)) name ∷ in_terms text s args in
        let x = starts_call j (count_terms args) name (meaning text s name.id) (in_terms text s args) (clean_left j first (in_branches text s rest) c) in
        let y = calls_branches s rest (clean_right j first (in_branches text s rest) c) g in
        ⊎_elim (λ i. called_left g first (in_branches text s rest) (subst (λ z. is_in z (called_in first) ≡ true) (only g name.id i) x))
        (λ i. called_right g first (in_branches text s rest) (y i)) (either g (name.id ∷ []) (branches_started rest) h)
    calls_branches s (by_group at body rest) c g h =
        let inner = in_statements text no_scope body in
        let behind_it = finding.Closes ∷ in_branches text s rest in
        let x = calls_all no_scope body (clean_left j inner behind_it c) g in
        let y = calls_branches s rest (clean_right j inner behind_it c) g in
        ⊎_elim (λ i. called_left g inner behind_it (x i)) (λ i. called_right g inner behind_it (y i)) (either g (all_started body) (branches_started rest) h)

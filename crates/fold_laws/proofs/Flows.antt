-- A folded int function gives what the function gives, and takes no more units.
use Rattle.std.proofs.Common.{ℕ, zero, suc, ◌≤◌, ◌≡◌, ℤ, pos, Bool, true, false, cond, Option, Some, None, List, [], ◌∷◌, get_or, map, length, refl, sym, subst, arith}
use Rattle.std.proofs.lemmas.List.{length-map}
use Rattle.forec_base.specs.Numbers.{is_zero}
use Rattle.forec_base.specs.declared.Place.{Place}
use Rattle.forec_base.specs.declared.Trap.TheVariants.{Turns}
use Rattle.forec_kernel.specs.Terms.{Expr, Stmt, Nop, Set, SetAt, PutAt, Clear, Seq, If, While, Pause, Par, Enter, Return, Stmts, no_stmts, more_stmts}
use Rattle.forec_kernel.specs.Shapes.{PlainKernel}
use Rattle.forec_kernel.specs.Values.{index_in, Value, Gives, Raises, Setting, words_alone, val, Flow, Goes, Returns, Breaks, more_flow, flow_with, flow_then, stored_flow, stored_at, cleared, turns, flow, flows, flow_value, fresh_words, function_words, call_within, call}
use Rattle.fold_laws.specs.Laws.{NoWorse}
use Rattle.fold_laws.specs.Folding.{constant_of, chosen_stmt, fold_expr, is_nop, unless_nop, in_sequence, never_turns, fold_stmt, fold_stmts, folded_kernel}
use Rattle.fold_laws.proofs.Values.{value_same, is_number, expr_like}

-- ---- what a statement of a function does

abbrev pub FlowLike : Flow → Flow → Type 0
FlowLike (Goes words u) (Goes words' v) = (words' ≡ words) × (v ≤ u)
FlowLike (Goes words u) (Returns n v) = ⊥
FlowLike (Goes words u) (Breaks place trap v) = ⊥
FlowLike (Returns n u) (Goes words' v) = ⊥
FlowLike (Returns n u) (Returns m v) = (m ≡ n) × (v ≤ u)
FlowLike (Returns n u) (Breaks place trap v) = ⊥
FlowLike (Breaks place trap u) (Goes words' v) = ⊥
FlowLike (Breaks place trap u) (Returns n v) = ⊥
FlowLike (Breaks place trap u) (Breaks place' trap' v) = (place' ≡ place) × (trap' ≡ trap) × (v ≤ u)

flow_same : (f : Flow) → FlowLike f f
flow_same (Goes words u) = (refl, omega arith)
flow_same (Returns n u) = (refl, omega arith)
flow_same (Breaks place trap u) = (refl, refl, omega arith)

more_flow_like : (a b : ℕ) (f g : Flow) → b ≤ a → FlowLike f g → FlowLike (more_flow a f) (more_flow b g)
more_flow_like a b (Goes words u) (Goes words' v) h l = let le = l.1 in (l.0, omega arith)
more_flow_like a b (Goes words u) (Returns n v) h l = absurd l
more_flow_like a b (Goes words u) (Breaks place trap v) h l = absurd l
more_flow_like a b (Returns n u) (Goes words' v) h l = absurd l
more_flow_like a b (Returns n u) (Returns m v) h l = let le = l.1 in (l.0, omega arith)
more_flow_like a b (Returns n u) (Breaks place trap v) h l = absurd l
more_flow_like a b (Breaks place trap u) (Goes words' v) h l = absurd l
more_flow_like a b (Breaks place trap u) (Returns n v) h l = absurd l
more_flow_like a b (Breaks place trap u) (Breaks place' trap' v) h l = let le = l.2 in (l.0, l.1, omega arith)

more_left : (a : ℕ) (f g : Flow) → FlowLike f g → FlowLike (more_flow a f) g
more_left a (Goes words u) (Goes words' v) l = let le = l.1 in (l.0, omega arith)
more_left a (Goes words u) (Returns n v) l = absurd l
more_left a (Goes words u) (Breaks place trap v) l = absurd l
more_left a (Returns n u) (Goes words' v) l = absurd l
more_left a (Returns n u) (Returns m v) l = let le = l.1 in (l.0, omega arith)
more_left a (Returns n u) (Breaks place trap v) l = absurd l
more_left a (Breaks place trap u) (Goes words' v) l = absurd l
more_left a (Breaks place trap u) (Returns n v) l = absurd l
more_left a (Breaks place trap u) (Breaks place' trap' v) l = let le = l.2 in (l.0, l.1, omega arith)

with_like : (v w : Value) (go go' : ℤ → Flow) → NoWorse v w → ((n : ℤ) → FlowLike (go n) (go' n)) → FlowLike (flow_with v go) (flow_with w go')
with_like (Gives n u) (Gives m v) go go' l f =
    more_flow_like u v (go n) (go' m) l.1 (subst (λ x. FlowLike (go n) (go' x)) (sym l.0) (f n))
with_like (Gives n u) (Raises place trap v) go go' l f = absurd l
with_like (Raises place trap u) (Gives m v) go go' l f = absurd l
with_like (Raises place trap u) (Raises place' trap' v) go go' l f = l

then_like : (f g : Flow) (go go' : List ℤ → Flow) → FlowLike f g → ((words : List ℤ) → FlowLike (go words) (go' words)) →
    FlowLike (flow_then f go) (flow_then g go')
then_like (Goes words u) (Goes words' v) go go' l f =
    more_flow_like u v (go words) (go' words') l.1 (subst (λ x. FlowLike (go words) (go' x)) (sym l.0) (f words))
then_like (Goes words u) (Returns n v) go go' l f = absurd l
then_like (Goes words u) (Breaks place trap v) go go' l f = absurd l
then_like (Returns n u) (Goes words' v) go go' l f = absurd l
then_like (Returns n u) (Returns m v) go go' l f = l
then_like (Returns n u) (Breaks place trap v) go go' l f = absurd l
then_like (Breaks place trap u) (Goes words' v) go go' l f = absurd l
then_like (Breaks place trap u) (Returns n v) go go' l f = absurd l
then_like (Breaks place trap u) (Breaks place' trap' v) go go' l f = l

-- what comes after a number that was folded
number_drops : (v : Value) (x : ℤ) (go : ℤ → Flow) (g : Flow) → NoWorse v (Gives x 1) → FlowLike (go x) g → FlowLike (flow_with v go) g
number_drops (Gives n u) x go g l f = more_left u (go n) g (subst (λ y. FlowLike (go y) g) l.0 f)
number_drops (Raises place trap u) x go g l f = absurd l

-- ---- turns

abbrev by_test : Flow → Flow → Bool → Flow
by_test stop more b = elim b [ true ↦ stop | false ↦ more ]

by_test_like : (stop more more' : Flow) (b : Bool) → FlowLike more more' → FlowLike (by_test stop more b) (by_test stop more' b)
by_test_like stop more more' true l = flow_same stop
by_test_like stop more more' false l = l

turns_like : (n : ℕ) (test test' : List ℤ → Value) (body body' : List ℤ → Flow) (place : Place) →
    ((words : List ℤ) → NoWorse (test words) (test' words)) → ((words : List ℤ) → FlowLike (body words) (body' words)) →
    (words : List ℤ) → FlowLike (turns n test body place words) (turns n test' body' place words)
turns_like zero test test' body body' place t b words =
    with_like (test words) (test' words) _ _ (t words) (λ n. by_test_like (Goes words 1) (Breaks place Turns 1) (Breaks place Turns 1) (is_zero n) (flow_same (Breaks place Turns 1)))
turns_like (suc m) test test' body body' place t b words =
    with_like (test words) (test' words) _ _ (t words) (λ n.
    by_test_like (Goes words 1) _ _ (is_zero n)
    (more_flow_like 1 1 _ _ (omega arith)
    (then_like (body words) (body' words) _ _ (b words) (λ w. turns_like m test test' body body' place t b w))))

-- a test that is the number 0
no_turn : (n : ℕ) (test : List ℤ → Value) (body : List ℤ → Flow) (place : Place) (x : ℤ) (words : List ℤ) → is_zero x ≡ true →
    NoWorse (test words) (Gives x 1) → FlowLike (turns n test body place words) (Goes words 0)
no_turn zero test body place x words h l =
    number_drops (test words) x (λ n. by_test (Goes words 1) (Breaks place Turns 1) (is_zero n)) (Goes words 0) l
    (subst (λ b. FlowLike (by_test (Goes words 1) (Breaks place Turns 1) b) (Goes words 0)) (sym h) (refl, omega arith))
no_turn (suc m) test body place x words h l =
    let more = more_flow 1 (flow_then (body words) (λ w. turns m test body place w)) in
    number_drops (test words) x (λ n. by_test (Goes words 1) more (is_zero n)) (Goes words 0) l
    (subst (λ b. FlowLike (by_test (Goes words 1) more b) (Goes words 0)) (sym h) (refl, omega arith))

-- ---- statements

pub is_nop_only : (s : Stmt) → is_nop s ≡ true → s ≡ Nop
is_nop_only Nop h = refl
is_nop_only (Set to e) h = cc
is_nop_only (SetAt slot n i e place) h = cc
is_nop_only (PutAt v n i e place) h = cc
is_nop_only (Clear slot n) h = cc
is_nop_only (Seq list) h = cc
is_nop_only (If e a b) h = cc
is_nop_only (While e bound body place) h = cc
is_nop_only Pause h = cc
is_nop_only (Par branches) h = cc
is_nop_only (Enter weak immediate e body) h = cc
is_nop_only (Return e) h = cc

module _ (tables : List (List ℤ)) (f g : ℕ → List ℤ → Value) (calls : (n : ℕ) (args : List ℤ) → NoWorse (f n args) (g n args)) where
  abbrev s : Setting
  s = record { tables = tables; call = f }

  abbrev s' : Setting
  s' = record { tables = tables; call = g }

  value : (words : List ℤ) (e : Expr) → NoWorse (val s (words_alone words) e) (val s' (words_alone words) (fold_expr e))
  value words e = expr_like tables f g calls (words_alone words) e

  given : (words : List ℤ) (e : Expr) (x : ℤ) → constant_of (fold_expr e) ≡ Some x → NoWorse (val s (words_alone words) e) (Gives x 1)
  given words e x h = subst (λ a. NoWorse (val s (words_alone words) e) (val s' (words_alone words) a)) (is_number (fold_expr e) x h) (value words e)

  -- a list without `nop`, and one that is `nop` or one statement
  unless_like : (a : Flow) (x : Stmt) (go : List ℤ → Flow) (rest : Stmts) (words : List ℤ) → FlowLike a (flow s' x words) →
      ((w : List ℤ) → FlowLike (go w) (flows s' rest w)) → FlowLike (flow_then a go) (flows s' (unless_nop x rest) words)
  unless_like a x go rest words l r = pick (is_nop x) refl
    where
      after_nop : (a : Flow) → FlowLike a (Goes words 0) → FlowLike (flow_then a go) (flows s' rest words)
      after_nop (Goes w u) k =
          more_left u (go w) (flows s' rest words) (subst (λ y. FlowLike (go y) (flows s' rest words)) k.0 (r words))
      after_nop (Returns n u) k = absurd k
      after_nop (Breaks place trap u) k = absurd k

      pick : (b : Bool) → is_nop x ≡ b → FlowLike (flow_then a go) (flows s' (cond b rest (more_stmts x rest)) words)
      pick true h = after_nop a (subst (λ y. FlowLike a (flow s' y words)) (is_nop_only x h) l)
      pick false h = then_like a (flow s' x words) go (λ w. flows s' rest w) l r

  sequence_like : (a : Flow) (list : Stmts) (words : List ℤ) → FlowLike a (flows s' list words) → FlowLike a (flow s' (in_sequence list) words)
  sequence_like a no_stmts words l = l
  sequence_like a (more_stmts x no_stmts) words l = alone a (flow s' x words) l
    where
      alone : (a b : Flow) → FlowLike a (flow_then b (λ w. Goes w 0)) → FlowLike a b
      alone (Goes w u) (Goes w' v) k = let le = k.1 in (k.0, omega arith)
      alone (Goes w u) (Returns n v) k = absurd k
      alone (Goes w u) (Breaks place trap v) k = absurd k
      alone (Returns n u) (Goes w' v) k = absurd k
      alone (Returns n u) (Returns m v) k = k
      alone (Returns n u) (Breaks place trap v) k = absurd k
      alone (Breaks place trap u) (Goes w' v) k = absurd k
      alone (Breaks place trap u) (Returns m v) k = absurd k
      alone (Breaks place trap u) (Breaks place' trap' v) k = k
  sequence_like a (more_stmts x (more_stmts y rest)) words l = l

  if_like : (words : List ℤ) (e : Expr) (a b : Flow) (x y : Stmt) → FlowLike a (flow s' x words) → FlowLike b (flow s' y words) →
      (o : Option ℤ) → constant_of (fold_expr e) ≡ o →
      FlowLike (flow_with (val s (words_alone words) e) (λ n. elim (is_zero n) [ true ↦ more_flow 1 b | false ↦ more_flow 1 a ]))
      (flow s' (chosen_stmt o x y (If (fold_expr e) x y)) words)
  if_like words e a b x y l r None h =
      with_like (val s (words_alone words) e) (val s' (words_alone words) (fold_expr e)) _ _ (value words e) (λ n. pick (is_zero n))
    where
      pick : (z : Bool) → FlowLike (elim z [ true ↦ more_flow 1 b | false ↦ more_flow 1 a ])
          (elim z [ true ↦ more_flow 1 (flow s' y words) | false ↦ more_flow 1 (flow s' x words) ])
      pick true = more_flow_like 1 1 b (flow s' y words) (omega arith) r
      pick false = more_flow_like 1 1 a (flow s' x words) (omega arith) l
  if_like words e a b x y l r (Some n) h =
      number_drops (val s (words_alone words) e) n (λ n. elim (is_zero n) [ true ↦ more_flow 1 b | false ↦ more_flow 1 a ])
      (flow s' (cond (is_zero n) y x) words) (given words e n h) (pick (is_zero n))
    where
      pick : (z : Bool) → FlowLike (elim z [ true ↦ more_flow 1 b | false ↦ more_flow 1 a ]) (flow s' (cond z y x) words)
      pick true = more_left 1 b (flow s' y words) r
      pick false = more_left 1 a (flow s' x words) l

  while_like : (words : List ℤ) (e : Expr) (n : ℕ) (place : Place) (body : List ℤ → Flow) (x : Stmt) → ((w : List ℤ) → FlowLike (body w) (flow s' x w)) →
      (o : Option ℤ) → constant_of (fold_expr e) ≡ o →
      FlowLike (turns n (λ w. val s (words_alone w) e) body place words)
      (flow s' (cond (never_turns o) Nop (While (fold_expr e) (Some n) x place)) words)
  while_like words e n place body x l None h =
      turns_like n (λ w. val s (words_alone w) e) (λ w. val s' (words_alone w) (fold_expr e)) body (flow s' x) place (λ w. value w e) l words
  while_like words e n place body x l (Some i) h = pick (is_zero i) refl
    where
      pick : (z : Bool) → is_zero i ≡ z →
          FlowLike (turns n (λ w. val s (words_alone w) e) body place words) (flow s' (cond z Nop (While (fold_expr e) (Some n) x place)) words)
      pick true j = no_turn n (λ w. val s (words_alone w) e) body place i words j (given words e i h)
      pick false j =
          turns_like n (λ w. val s (words_alone w) e) (λ w. val s' (words_alone w) (fold_expr e)) body (flow s' x) place (λ w. value w e) l words

  free_like : (words : List ℤ) (e : Expr) (place : Place) (x : Stmt) (b : Bool) →
      FlowLike (Goes words 0) (flow s' (cond b Nop (While e None x place)) words)
  free_like words e place x true = (refl, omega arith)
  free_like words e place x false = (refl, omega arith)

  mutual
    pub flow_like : (a : Stmt) (words : List ℤ) → FlowLike (flow s a words) (flow s' (fold_stmt a) words)
    flow_like Nop words = flow_same (Goes words 0)
    flow_like (Set to e) words =
        with_like (val s (words_alone words) e) (val s' (words_alone words) (fold_expr e)) _ _ (value words e) (λ n. flow_same (stored_flow words to n))
    flow_like (SetAt slot n i e place) words =
        with_like (val s (words_alone words) i) (val s' (words_alone words) (fold_expr i)) _ _ (value words i) (λ k.
        with_like (val s (words_alone words) e) (val s' (words_alone words) (fold_expr e)) _ _ (value words e) (λ x.
        flow_same (stored_at words slot (index_in n k) x place)))
    flow_like (PutAt v n i e place) words = flow_same (Goes words 0)
    flow_like (Clear slot n) words = flow_same (Goes (cleared words slot n) n)
    flow_like (Seq list) words = sequence_like (flows s list words) (fold_stmts list) words (flows_like list words)
    flow_like (If e a b) words =
        if_like words e (flow s a words) (flow s b words) (fold_stmt a) (fold_stmt b) (flow_like a words) (flow_like b words)
        (constant_of (fold_expr e)) refl
    flow_like (While e (Some n) body place) words =
        while_like words e n place (flow s body) (fold_stmt body) (λ w. flow_like body w) (constant_of (fold_expr e)) refl
    flow_like (While e None body place) words = free_like words (fold_expr e) place (fold_stmt body) (never_turns (constant_of (fold_expr e)))
    flow_like Pause words = flow_same (Goes words 0)
    flow_like (Par branches) words = flow_same (Goes words 0)
    flow_like (Enter weak immediate e body) words = flow_same (Goes words 0)
    flow_like (Return e) words =
        with_like (val s (words_alone words) e) (val s' (words_alone words) (fold_expr e)) _ _ (value words e) (λ n. flow_same (Returns n 0))

    pub flows_like : (list : Stmts) (words : List ℤ) → FlowLike (flows s list words) (flows s' (fold_stmts list) words)
    flows_like no_stmts words = flow_same (Goes words 0)
    flows_like (more_stmts a rest) words =
        unless_like (flow s a words) (fold_stmt a) (flows s rest) (fold_stmts rest) words (flow_like a words) (λ w. flows_like rest w)

-- ---- calls

returned_like : (f g : Flow) → FlowLike f g → NoWorse (flow_value f) (flow_value g)
returned_like (Goes words u) (Goes words' v) l = (refl, l.1)
returned_like (Goes words u) (Returns n v) l = absurd l
returned_like (Goes words u) (Breaks place trap v) l = absurd l
returned_like (Returns n u) (Goes words' v) l = absurd l
returned_like (Returns n u) (Returns m v) l = l
returned_like (Returns n u) (Breaks place trap v) l = absurd l
returned_like (Breaks place trap u) (Goes words' v) l = absurd l
returned_like (Breaks place trap u) (Returns n v) l = absurd l
returned_like (Breaks place trap u) (Breaks place' trap' v) l = l

-- the folded body with a number
pub body_folded : (bodies : List Stmt) (i : ℕ) → get_or (map fold_stmt bodies) i Nop ≡ fold_stmt (get_or bodies i Nop)
body_folded [] i = refl
body_folded (b ∷ bodies) zero = refl
body_folded (b ∷ bodies) (suc i) = body_folded bodies i

module _ (k : PlainKernel) where
  within_like : (deep : ℕ) (n : ℕ) (args : List ℤ) → NoWorse (call_within k deep n args) (call_within (folded_kernel k) deep n args)
  within_like zero n args = value_same (Gives (pos 0) 0)
  within_like (suc deep) n args =
      let words = fresh_words args (function_words k.shape.functions n) in
      let inner : Setting = record { tables = k.shape.tables; call = call_within (folded_kernel k) deep } in
      returned_like _ _
      (subst (λ b. FlowLike (flow (record { tables = k.shape.tables; call = call_within k deep }) (get_or k.functions n Nop) words) (flow inner b words))
      (sym (body_folded k.functions n))
      (flow_like k.shape.tables (call_within k deep) (call_within (folded_kernel k) deep) (λ m more. within_like deep m more) (get_or k.functions n Nop) words))

  -- what an int function of the folded kernel gives
  pub call_like : (n : ℕ) (args : List ℤ) → NoWorse (call k n args) (call (folded_kernel k) n args)
  call_like n args =
      subst (λ d. NoWorse (call k n args) (call_within (folded_kernel k) d n args)) (sym (length-map k.functions fold_stmt))
      (within_like (length k.functions) n args)

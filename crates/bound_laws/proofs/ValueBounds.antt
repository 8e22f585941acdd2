-- Expressions and int functions cost at most their bound, trap or not.
use Rattle.std.proofs.Common.{ℕ, zero, suc, ◌+◌, ◌*◌, ◌≤◌, max, ℤ, pos, Bool, true, false, not, Option, Some, None, List, [], length, get_or, arith}
use Rattle.forec_base.specs.Numbers.{truth, is_zero, unary_of, binary_of}
use Rattle.forec_base.specs.declared.Place.{Place}
use Rattle.forec_base.specs.declared.Trap.TheVariants.{Turns}
use Rattle.forec_kernel.specs.declared.terms.Spot.{Spot}
use Rattle.forec_kernel.specs.declared.terms.Spot.TheVariants as spot
use Rattle.forec_kernel.specs.Terms.{Expr, Num, Local, LocalAt, Var, SharedAt, TableAt, Un, Bin, And, Or, Choose, Call, Exprs, no_exprs, more_exprs, Stmt, Nop, Set, SetAt, PutAt, Clear, Seq, If, While, Pause, Par, Enter, Return, Stmts, no_stmts, more_stmts}
use Rattle.forec_kernel.specs.Shapes.{PlainKernel}
use Rattle.forec_kernel.specs.Values.{Value, Gives, Raises, more_units, value_then, Values, AllGive, OneRaises, one_more, first_then, values_then, Setting, Sight, copy_of, word, index_in, at_index, divided, val, vals, Flow, Goes, Returns, Breaks, more_flow, flow_with, flow_then, words_alone, stored_at, stored_flow, turns, flow, flows, flow_value, fresh_words, function_words, call_within}
use Rattle.forec_kernel.specs.WellFormed.{function_body}
use Rattle.tick_bounds.specs.Bound.{Bounds, expr_bound, exprs_bound, stmt_bound, stmts_bound, function_within}

-- ---- the units of a result

abbrev pub cost : Value → ℕ
cost (Gives n u) = u
cost (Raises place trap u) = u

abbrev pub cost_all : Values → ℕ
cost_all (AllGive ns u) = u
cost_all (OneRaises place trap u) = u

abbrev pub flow_cost : Flow → ℕ
flow_cost (Goes words u) = u
flow_cost (Returns n u) = u
flow_cost (Breaks place trap u) = u

-- ---- results one after the other

pub more_le : (u : ℕ) (v : Value) (a c : ℕ) → cost v ≤ a → u + a ≤ c → cost (more_units u v) ≤ c
more_le u (Gives n w) a c h fits = omega arith
more_le u (Raises place trap w) a c h fits = omega arith

pub then_le : (v : Value) (go : ℤ → Value) (a b c : ℕ) → cost v ≤ a → ((x : ℤ) → cost (go x) ≤ b) → a + b ≤ c →
    cost (value_then v go) ≤ c
then_le (Gives n u) go a b c h g fits = more_le u (go n) b c (g n) (omega arith)
then_le (Raises place trap u) go a b c h g fits = omega arith

pub either_le : (b : Bool) (p q : Value) (c : ℕ) → cost p ≤ c → cost q ≤ c → cost (elim b [ true ↦ p | false ↦ q ]) ≤ c
either_le true p q c hp hq = hp
either_le false p q c hp hq = hq

at_index_le : (i : Option ℕ) (get : ℕ → ℤ) (place : Place) → cost (at_index i get place) ≤ 1
at_index_le (Some i) get place = omega arith
at_index_le None get place = omega arith

divided_le : (r : Option ℤ) (place : Option Place) → cost (divided r place) ≤ 1
divided_le (Some n) place = omega arith
divided_le None place = omega arith

one_more_le : (n : ℤ) (u : ℕ) (vs : Values) (b c : ℕ) → cost_all vs ≤ b → u + b ≤ c → cost_all (one_more n u vs) ≤ c
one_more_le n u (AllGive ns v) b c h fits = omega arith
one_more_le n u (OneRaises place trap v) b c h fits = omega arith

first_le : (v : Value) (vs : Values) (a b : ℕ) → cost v ≤ a → cost_all vs ≤ b → cost_all (first_then v vs) ≤ a + b
first_le (Gives n u) vs a b h g = one_more_le n u vs b (a + b) g (omega arith)
first_le (Raises place trap u) vs a b h g = omega arith

values_le : (vs : Values) (go : List ℤ → Value) (a b c : ℕ) → cost_all vs ≤ a → ((ns : List ℤ) → cost (go ns) ≤ b) → a + b ≤ c →
    cost (values_then vs go) ≤ c
values_le (AllGive ns u) go a b c h g fits = more_le u (go ns) b c (g ns) (omega arith)
values_le (OneRaises place trap u) go a b c h g fits = omega arith

-- ---- expressions, where each call costs at most its function's bound

module _ (f : ℕ → ℕ) (s : Setting) (calls : (g : ℕ) (ns : List ℤ) → cost (s.call g ns) ≤ f g) where
  mutual
    pub val_le : (e : Sight) (x : Expr) → cost (val s e x) ≤ expr_bound f x
    val_le e (Num n) = omega arith
    val_le e (Local slot) = omega arith
    val_le e (LocalAt slot n i place) =
        then_le (val s e i) (λ k. at_index (index_in n k) (λ j. word e.words (slot + j)) place) (expr_bound f i) 1 (1 + expr_bound f i)
        (val_le e i) (λ k. at_index_le (index_in n k) (λ j. word e.words (slot + j)) place) (omega arith)
    val_le e (Var v) = omega arith
    val_le e (SharedAt v n i place) =
        then_le (val s e i) (λ k. at_index (index_in n k) (λ j. (copy_of e.uses e.copies (v + j)).value) place) (expr_bound f i) 1 (1 + expr_bound f i)
        (val_le e i) (λ k. at_index_le (index_in n k) (λ j. (copy_of e.uses e.copies (v + j)).value) place) (omega arith)
    val_le e (TableAt t i place) =
        let table = get_or s.tables t [] in
        then_le (val s e i) (λ k. at_index (index_in (length table) k) (λ j. word table j) place) (expr_bound f i) 1 (1 + expr_bound f i)
        (val_le e i) (λ k. at_index_le (index_in (length table) k) (λ j. word table j) place) (omega arith)
    val_le e (Un op a) =
        then_le (val s e a) (λ x. Gives (unary_of op x) 1) (expr_bound f a) 1 (1 + expr_bound f a) (val_le e a) (λ x. omega arith)
        (omega arith)
    val_le e (Bin op a b place) =
        then_le (val s e a) (λ x. value_then (val s e b) (λ y. divided (binary_of op x y) place)) (expr_bound f a) (expr_bound f b + 1)
        (1 + expr_bound f a + expr_bound f b) (val_le e a)
        (λ x. then_le (val s e b) (λ y. divided (binary_of op x y) place) (expr_bound f b) 1 (expr_bound f b + 1) (val_le e b)
        (λ y. divided_le (binary_of op x y) place) (omega arith)) (omega arith)
    val_le e (And a b) =
        let right = more_units 1 (value_then (val s e b) (λ y. Gives (truth (not (is_zero y))) 0)) in
        let right_le : cost right ≤ expr_bound f b + 1 =
        more_le 1 (value_then (val s e b) (λ y. Gives (truth (not (is_zero y))) 0)) (expr_bound f b) (expr_bound f b + 1)
        (then_le (val s e b) (λ y. Gives (truth (not (is_zero y))) 0) (expr_bound f b) 0 (expr_bound f b) (val_le e b) (λ y. omega arith)
        (omega arith)) (omega arith) in
        then_le (val s e a) (λ x. elim (is_zero x) [ true ↦ Gives (pos 0) 1 | false ↦ right ]) (expr_bound f a) (expr_bound f b + 1)
        (1 + expr_bound f a + expr_bound f b) (val_le e a)
        (λ x. either_le (is_zero x) (Gives (pos 0) 1) right (expr_bound f b + 1) (omega arith) right_le) (omega arith)
    val_le e (Or a b) =
        let right = more_units 1 (value_then (val s e b) (λ y. Gives (truth (not (is_zero y))) 0)) in
        let right_le : cost right ≤ expr_bound f b + 1 =
        more_le 1 (value_then (val s e b) (λ y. Gives (truth (not (is_zero y))) 0)) (expr_bound f b) (expr_bound f b + 1)
        (then_le (val s e b) (λ y. Gives (truth (not (is_zero y))) 0) (expr_bound f b) 0 (expr_bound f b) (val_le e b) (λ y. omega arith)
        (omega arith)) (omega arith) in
        then_le (val s e a) (λ x. elim (is_zero x) [ true ↦ right | false ↦ Gives (pos 1) 1 ]) (expr_bound f a) (expr_bound f b + 1)
        (1 + expr_bound f a + expr_bound f b) (val_le e a)
        (λ x. either_le (is_zero x) right (Gives (pos 1) 1) (expr_bound f b + 1) right_le (omega arith)) (omega arith)
    val_le e (Choose t a b) =
        let most = max (expr_bound f a) (expr_bound f b) in
        then_le (val s e t) (λ x. elim (is_zero x) [ true ↦ more_units 1 (val s e b) | false ↦ more_units 1 (val s e a) ]) (expr_bound f t)
        (1 + most) (1 + expr_bound f t + most) (val_le e t)
        (λ x. either_le (is_zero x) (more_units 1 (val s e b)) (more_units 1 (val s e a)) (1 + most)
        (more_le 1 (val s e b) (expr_bound f b) (1 + most) (val_le e b) (omega arith))
        (more_le 1 (val s e a) (expr_bound f a) (1 + most) (val_le e a) (omega arith))) (omega arith)
    val_le e (Call g args) =
        values_le (vals s e args) (λ ns. more_units 1 (s.call g ns)) (exprs_bound f args) (1 + f g) (1 + exprs_bound f args + f g)
        (vals_le e args) (λ ns. more_le 1 (s.call g ns) (f g) (1 + f g) (calls g ns) (omega arith)) (omega arith)

    pub vals_le : (e : Sight) (xs : Exprs) → cost_all (vals s e xs) ≤ exprs_bound f xs
    vals_le e no_exprs = omega arith
    vals_le e (more_exprs x rest) = first_le (val s e x) (vals s e rest) (expr_bound f x) (exprs_bound f rest) (val_le e x) (vals_le e rest)

-- ---- statements of int functions

more_flow_le : (u : ℕ) (r : Flow) (a c : ℕ) → flow_cost r ≤ a → u + a ≤ c → flow_cost (more_flow u r) ≤ c
more_flow_le u (Goes words v) a c h fits = omega arith
more_flow_le u (Returns n v) a c h fits = omega arith
more_flow_le u (Breaks place trap v) a c h fits = omega arith

flow_with_le : (v : Value) (go : ℤ → Flow) (a b c : ℕ) → cost v ≤ a → ((x : ℤ) → flow_cost (go x) ≤ b) → a + b ≤ c →
    flow_cost (flow_with v go) ≤ c
flow_with_le (Gives n u) go a b c h g fits = more_flow_le u (go n) b c (g n) (omega arith)
flow_with_le (Raises place trap u) go a b c h g fits = omega arith

flow_then_le : (r : Flow) (go : List ℤ → Flow) (a b c : ℕ) → flow_cost r ≤ a → ((w : List ℤ) → flow_cost (go w) ≤ b) → a + b ≤ c →
    flow_cost (flow_then r go) ≤ c
flow_then_le (Goes words u) go a b c h g fits = more_flow_le u (go words) b c (g words) (omega arith)
flow_then_le (Returns n u) go a b c h g fits = omega arith
flow_then_le (Breaks place trap u) go a b c h g fits = omega arith

either_flow : (b : Bool) (p q : Flow) (c : ℕ) → flow_cost p ≤ c → flow_cost q ≤ c → flow_cost (elim b [ true ↦ p | false ↦ q ]) ≤ c
either_flow true p q c hp hq = hp
either_flow false p q c hp hq = hq

stored_le : (words : List ℤ) (to : Spot) (n : ℤ) → flow_cost (stored_flow words to n) ≤ 1
stored_le words (spot.Local slot) n = omega arith
stored_le words (spot.Variable v) n = omega arith

stored_at_le : (words : List ℤ) (slot : ℕ) (i : Option ℕ) (n : ℤ) (place : Place) → flow_cost (stored_at words slot i n place) ≤ 1
stored_at_le words slot (Some i) n place = omega arith
stored_at_le words slot None n place = omega arith

-- n turns have n + 1 tests and n bodies
module _ (test : List ℤ → Value) (body : List ℤ → Flow) (place : Place) (a b : ℕ) (test_le : (w : List ℤ) → cost (test w) ≤ a)
    (body_le : (w : List ℤ) → flow_cost (body w) ≤ b)
  where
    pub turns_le : (m : ℕ) (w : List ℤ) → flow_cost (turns m test body place w) ≤ (m + 1) * (a + 1 + b)
    turns_le zero w =
        flow_with_le (test w) (λ n. elim (is_zero n) [ true ↦ Goes w 1 | false ↦ Breaks place Turns 1 ]) a 1 ((0 + 1) * (a + 1 + b))
        (test_le w) (λ n. either_flow (is_zero n) (Goes w 1) (Breaks place Turns 1) 1 (omega arith) (omega arith)) (omega arith)
    turns_le (suc m) w =
        let later = more_flow 1 (flow_then (body w) (λ w'. turns m test body place w')) in
        let most = 1 + b + (m + 1) * (a + 1 + b) in
        let later_le : flow_cost later ≤ most =
        more_flow_le 1 (flow_then (body w) (λ w'. turns m test body place w')) (b + (m + 1) * (a + 1 + b)) most
        (flow_then_le (body w) (λ w'. turns m test body place w') b ((m + 1) * (a + 1 + b)) (b + (m + 1) * (a + 1 + b)) (body_le w)
        (λ w'. turns_le m w') (omega arith)) (omega arith) in
        flow_with_le (test w) (λ n. elim (is_zero n) [ true ↦ Goes w 1 | false ↦ later ]) a most ((suc m + 1) * (a + 1 + b)) (test_le w)
        (λ n. either_flow (is_zero n) (Goes w 1) later most (omega arith) later_le) (omega arith)

module _ (k : PlainKernel) (b : Bounds) (uses : List ℕ) (s : Setting) (calls : (g : ℕ) (ns : List ℤ) → cost (s.call g ns) ≤ b.function g) where
  mutual
    pub flow_le : (x : Stmt) (words : List ℤ) → flow_cost (flow s x words) ≤ stmt_bound k b uses x
    flow_le Nop words = omega arith
    flow_le (Set to e) words =
        let a = expr_bound b.function e in
        flow_with_le (val s (words_alone words) e) (λ n. stored_flow words to n) a 1 (a + 1) (val_le b.function s calls (words_alone words) e)
        (λ n. stored_le words to n) (omega arith)
    flow_le (SetAt slot n i e place) words =
        let a = expr_bound b.function i in
        let c = expr_bound b.function e in
        flow_with_le (val s (words_alone words) i)
        (λ k. flow_with (val s (words_alone words) e) (λ x. stored_at words slot (index_in n k) x place)) a (c + 1) (a + c + 1)
        (val_le b.function s calls (words_alone words) i)
        (λ k. flow_with_le (val s (words_alone words) e) (λ x. stored_at words slot (index_in n k) x place) c 1 (c + 1)
        (val_le b.function s calls (words_alone words) e) (λ x. stored_at_le words slot (index_in n k) x place) (omega arith)) (omega arith)
    flow_le (PutAt v n i e place) words = omega arith
    flow_le (Clear slot n) words = omega arith
    flow_le (Seq list) words = flows_le list words
    flow_le (If e p q) words =
        let a = expr_bound b.function e in
        let most = max (stmt_bound k b uses p) (stmt_bound k b uses q) in
        flow_with_le (val s (words_alone words) e)
        (λ n. elim (is_zero n) [ true ↦ more_flow 1 (flow s q words) | false ↦ more_flow 1 (flow s p words) ]) a (1 + most) (a + 1 + most)
        (val_le b.function s calls (words_alone words) e)
        (λ n. either_flow (is_zero n) (more_flow 1 (flow s q words)) (more_flow 1 (flow s p words)) (1 + most)
        (more_flow_le 1 (flow s q words) (stmt_bound k b uses q) (1 + most) (flow_le q words) (omega arith))
        (more_flow_le 1 (flow s p words) (stmt_bound k b uses p) (1 + most) (flow_le p words) (omega arith))) (omega arith)
    flow_le (While e (Some n) body place) words =
        turns_le (λ w. val s (words_alone w) e) (flow s body) place (expr_bound b.function e) (stmt_bound k b uses body)
        (λ w. val_le b.function s calls (words_alone w) e) (λ w. flow_le body w) n words
    flow_le (While e None body place) words = omega arith
    flow_le Pause words = omega arith
    flow_le (Par branches) words = omega arith
    flow_le (Enter weak immediate e body) words = omega arith
    flow_le (Return e) words =
        let a = expr_bound b.function e in
        flow_with_le (val s (words_alone words) e) (λ n. Returns n 0) a 0 a (val_le b.function s calls (words_alone words) e)
        (λ n. omega arith) (omega arith)

    pub flows_le : (xs : Stmts) (words : List ℤ) → flow_cost (flows s xs words) ≤ stmts_bound k b uses xs
    flows_le no_stmts words = omega arith
    flows_le (more_stmts x rest) words =
        flow_then_le (flow s x words) (λ w. flows s rest w) (stmt_bound k b uses x) (stmts_bound k b uses rest)
        (stmt_bound k b uses x + stmts_bound k b uses rest) (flow_le x words) (λ w. flows_le rest w) (omega arith)

returned_le : (r : Flow) (c : ℕ) → flow_cost r ≤ c → cost (flow_value r) ≤ c
returned_le (Goes words u) c h = h
returned_le (Returns n u) c h = h
returned_le (Breaks place trap u) c h = h

-- an int function costs at most its bound
pub call_le : (k : PlainKernel) (deep g : ℕ) (ns : List ℤ) → cost (call_within k deep g ns) ≤ function_within k deep g
call_le k zero g ns = omega arith
call_le k (suc deep) g ns =
    let s : Setting = record { tables = k.shape.tables; call = call_within k deep } in
    let words = fresh_words ns (function_words k.shape.functions g) in
    let body = function_body k g in
    let b : Bounds = record { function = function_within k deep; thread = λ t. 0 } in
    returned_le (flow s body words) (stmt_bound k b [] body) (flow_le k b [] s (call_le k deep) body words)

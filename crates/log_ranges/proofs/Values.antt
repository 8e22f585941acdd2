-- Where expressions and int functions trap, the place is one of a line and a column.
use Rattle.std.proofs.Common.{ℕ, zero, suc, ◌+◌, ℤ, pos, Bool, true, false, not, Option, Some, None, List, [], length, get_or, refl}
use Rattle.forec_base.specs.Numbers.{truth, is_zero, unary_of, binary_of}
use Rattle.forec_base.specs.declared.Place.{Place}
use Rattle.forec_base.specs.declared.Trap.TheVariants.{Turns}
use Rattle.forec_base.specs.declared.operators.Binary.{Binary}
use Rattle.forec_base.specs.declared.operators.Binary.TheVariants.{Add, Sub, Mul, Div, Rem, Shl, Shr, Lt, Le, Gt, Ge, Eq, Ne, BitAnd, BitXor, BitOr}
use Rattle.forec_kernel.specs.declared.terms.Spot.{Spot}
use Rattle.forec_kernel.specs.declared.terms.Spot.TheVariants as spot
use Rattle.forec_kernel.specs.Terms.{Expr, Num, Local, LocalAt, Var, SharedAt, TableAt, Un, Bin, And, Or, Choose, Call, Exprs, no_exprs, more_exprs, Stmt, Nop, Set, SetAt, PutAt, Clear, Seq, If, While, Pause, Par, Enter, Return, Stmts, no_stmts, more_stmts}
use Rattle.forec_kernel.specs.Shapes.{PlainKernel}
use Rattle.forec_kernel.specs.Values.{word, copy_of, index_in, Value, Gives, Raises, more_units, value_then, Values, AllGive, OneRaises, one_more, first_then, values_then, Setting, setting, Sight, place_or, divided, at_index, val, vals, Flow, Goes, Returns, Breaks, more_flow, flow_with, flow_then, words_alone, stored_at, stored_flow, turns, flow, flows, flow_value, fresh_words, function_words, call_within}
use Rattle.value_ranges.proofs.Lists.{all_get}
use Rattle.value_ranges.specs.Properties.{DividesAt}
use Rattle.log_ranges.specs.Places.{IsPlace, places, KernelPlaces}
use Rattle.log_ranges.proofs.Places.{ExprPlaces, ExprsPlaces, StmtPlaces, StmtsPlaces}

-- ---- results

abbrev pub ValuePlaces : Value → Type 0
ValuePlaces (Gives n u) = Unit {0}
ValuePlaces (Raises place trap u) = IsPlace place

abbrev pub ValuesPlaces : Values → Type 0
ValuesPlaces (AllGive ns u) = Unit {0}
ValuesPlaces (OneRaises place trap u) = IsPlace place

pub more_places : (u : ℕ) (v : Value) → ValuePlaces v → ValuePlaces (more_units u v)
more_places u (Gives n w) h = tt
more_places u (Raises place trap w) h = h

then_places : (v : Value) (go : ℤ → Value) → ValuePlaces v → ((n : ℤ) → ValuePlaces (go n)) → ValuePlaces (value_then v go)
then_places (Gives n u) go h g = more_places u (go n) (g n)
then_places (Raises place trap u) go h g = h

either_places : (b : Bool) (p q : Value) → ValuePlaces p → ValuePlaces q → ValuePlaces (elim b [ true ↦ p | false ↦ q ])
either_places true p q hp hq = hp
either_places false p q hp hq = hq

at_places : (i : Option ℕ) (get : ℕ → ℤ) (place : Place) → IsPlace place → ValuePlaces (at_index i get place)
at_places (Some i) get place h = tt
at_places None get place h = h

-- an operator that can't divide has a result
may_divide : (r : Option ℤ) (place : Option Place) → IsPlace (place_or place) → ValuePlaces (divided r place)
may_divide (Some n) place h = tt
may_divide None place h = h

operator_places : (op : Binary) (x y : ℤ) (place : Option Place) → DividesAt places op place → ValuePlaces (divided (binary_of op x y) place)
operator_places Add x y place h = tt
operator_places Sub x y place h = tt
operator_places Mul x y place h = tt
operator_places Div x y place h = may_divide (binary_of Div x y) place (h refl)
operator_places Rem x y place h = may_divide (binary_of Rem x y) place (h refl)
operator_places Shl x y place h = tt
operator_places Shr x y place h = tt
operator_places Lt x y place h = tt
operator_places Le x y place h = tt
operator_places Gt x y place h = tt
operator_places Ge x y place h = tt
operator_places Eq x y place h = tt
operator_places Ne x y place h = tt
operator_places BitAnd x y place h = tt
operator_places BitXor x y place h = tt
operator_places BitOr x y place h = tt

one_more_places : (n : ℤ) (u : ℕ) (vs : Values) → ValuesPlaces vs → ValuesPlaces (one_more n u vs)
one_more_places n u (AllGive ns v) h = tt
one_more_places n u (OneRaises place trap v) h = h

first_places : (v : Value) (vs : Values) → ValuePlaces v → ValuesPlaces vs → ValuesPlaces (first_then v vs)
first_places (Gives n u) vs h g = one_more_places n u vs g
first_places (Raises place trap u) vs h g = h

values_places : (vs : Values) (go : List ℤ → Value) → ValuesPlaces vs → ((ns : List ℤ) → ValuePlaces (go ns)) → ValuePlaces (values_then vs go)
values_places (AllGive ns u) go h g = more_places u (go ns) (g ns)
values_places (OneRaises place trap u) go h g = h

-- ---- expressions

abbrev pub CallsPlaces : Setting → Type 0
CallsPlaces s = (f : ℕ) (ns : List ℤ) → ValuePlaces (s.call f ns)

module _ (s : Setting) (calls : CallsPlaces s) where
  mutual
    pub val_places : (e : Sight) (x : Expr) → ExprPlaces x → ValuePlaces (val s e x)
    val_places e (Num n) w = tt
    val_places e (Local slot) w = tt
    val_places e (LocalAt slot n i place) w =
        then_places (val s e i) (λ k. at_index (index_in n k) (λ j. word e.words (slot + j)) place) (val_places e i w.0)
        (λ k. at_places (index_in n k) (λ j. word e.words (slot + j)) place w.1)
    val_places e (Var v) w = tt
    val_places e (SharedAt v n i place) w =
        then_places (val s e i) (λ k. at_index (index_in n k) (λ j. (copy_of e.uses e.copies (v + j)).value) place) (val_places e i w.0)
        (λ k. at_places (index_in n k) (λ j. (copy_of e.uses e.copies (v + j)).value) place w.1)
    val_places e (TableAt t i place) w =
        let table = get_or s.tables t [] in
        then_places (val s e i) (λ k. at_index (index_in (length table) k) (λ j. word table j) place) (val_places e i w.0)
        (λ k. at_places (index_in (length table) k) (λ j. word table j) place w.1)
    val_places e (Un op a) w = then_places (val s e a) (λ x. Gives (unary_of op x) 1) (val_places e a w) (λ x. tt)
    val_places e (Bin op a b place) w =
        then_places (val s e a) (λ x. value_then (val s e b) (λ y. divided (binary_of op x y) place)) (val_places e a w.0)
        (λ x. then_places (val s e b) (λ y. divided (binary_of op x y) place) (val_places e b w.1)
        (λ y. operator_places op x y place w.2))
    val_places e (And a b) w =
        let right = value_then (val s e b) (λ y. Gives (truth (not (is_zero y))) 0) in
        let right_places : ValuePlaces right =
        then_places (val s e b) (λ y. Gives (truth (not (is_zero y))) 0) (val_places e b w.1) (λ y. tt) in
        then_places (val s e a) (λ x. elim (is_zero x) [ true ↦ Gives (pos 0) 1 | false ↦ more_units 1 right ]) (val_places e a w.0)
        (λ x. either_places (is_zero x) (Gives (pos 0) 1) (more_units 1 right) tt (more_places 1 right right_places))
    val_places e (Or a b) w =
        let right = value_then (val s e b) (λ y. Gives (truth (not (is_zero y))) 0) in
        let right_places : ValuePlaces right =
        then_places (val s e b) (λ y. Gives (truth (not (is_zero y))) 0) (val_places e b w.1) (λ y. tt) in
        then_places (val s e a) (λ x. elim (is_zero x) [ true ↦ more_units 1 right | false ↦ Gives (pos 1) 1 ]) (val_places e a w.0)
        (λ x. either_places (is_zero x) (more_units 1 right) (Gives (pos 1) 1) (more_places 1 right right_places) tt)
    val_places e (Choose t a b) w =
        then_places (val s e t) (λ x. elim (is_zero x) [ true ↦ more_units 1 (val s e b) | false ↦ more_units 1 (val s e a) ])
        (val_places e t w.0)
        (λ x. either_places (is_zero x) (more_units 1 (val s e b)) (more_units 1 (val s e a))
        (more_places 1 (val s e b) (val_places e b w.2)) (more_places 1 (val s e a) (val_places e a w.1)))
    val_places e (Call f args) w =
        values_places (vals s e args) (λ ns. more_units 1 (s.call f ns)) (vals_places e args w)
        (λ ns. more_places 1 (s.call f ns) (calls f ns))

    pub vals_places : (e : Sight) (xs : Exprs) → ExprsPlaces xs → ValuesPlaces (vals s e xs)
    vals_places e no_exprs w = tt
    vals_places e (more_exprs x rest) w = first_places (val s e x) (vals s e rest) (val_places e x w.0) (vals_places e rest w.1)

-- ---- statements of int functions

abbrev FlowPlaces : Flow → Type 0
FlowPlaces (Goes words u) = Unit {0}
FlowPlaces (Returns n u) = Unit {0}
FlowPlaces (Breaks place trap u) = IsPlace place

more_flow_places : (u : ℕ) (r : Flow) → FlowPlaces r → FlowPlaces (more_flow u r)
more_flow_places u (Goes words v) h = tt
more_flow_places u (Returns n v) h = tt
more_flow_places u (Breaks place trap v) h = h

flow_with_places : (v : Value) (go : ℤ → Flow) → ValuePlaces v → ((n : ℤ) → FlowPlaces (go n)) → FlowPlaces (flow_with v go)
flow_with_places (Gives n u) go h g = more_flow_places u (go n) (g n)
flow_with_places (Raises place trap u) go h g = h

flow_then_places : (r : Flow) (go : List ℤ → Flow) → FlowPlaces r → ((w : List ℤ) → FlowPlaces (go w)) → FlowPlaces (flow_then r go)
flow_then_places (Goes words u) go h g = more_flow_places u (go words) (g words)
flow_then_places (Returns n u) go h g = tt
flow_then_places (Breaks place trap u) go h g = h

either_flow : (b : Bool) (p q : Flow) → FlowPlaces p → FlowPlaces q → FlowPlaces (elim b [ true ↦ p | false ↦ q ])
either_flow true p q hp hq = hp
either_flow false p q hp hq = hq

stored_places : (words : List ℤ) (to : Spot) (n : ℤ) → FlowPlaces (stored_flow words to n)
stored_places words (spot.Local slot) n = tt
stored_places words (spot.Variable v) n = tt

stored_at_places : (words : List ℤ) (slot : ℕ) (i : Option ℕ) (n : ℤ) (place : Place) → IsPlace place → FlowPlaces (stored_at words slot i n place)
stored_at_places words slot (Some i) n place h = tt
stored_at_places words slot None n place h = h

module _ (test : List ℤ → Value) (body : List ℤ → Flow) (place : Place) (is_place : IsPlace place) (test_places : (w : List ℤ) → ValuePlaces (test w))
    (body_places : (w : List ℤ) → FlowPlaces (body w))
  where
    turns_places : (m : ℕ) (w : List ℤ) → FlowPlaces (turns m test body place w)
    turns_places zero w =
        flow_with_places (test w) (λ n. elim (is_zero n) [ true ↦ Goes w 1 | false ↦ Breaks place Turns 1 ]) (test_places w)
        (λ n. either_flow (is_zero n) (Goes w 1) (Breaks place Turns 1) tt is_place)
    turns_places (suc m) w =
        let later = flow_then (body w) (λ w'. turns m test body place w') in
        let later_places : FlowPlaces later =
        flow_then_places (body w) (λ w'. turns m test body place w') (body_places w) (λ w'. turns_places m w') in
        flow_with_places (test w) (λ n. elim (is_zero n) [ true ↦ Goes w 1 | false ↦ more_flow 1 later ]) (test_places w)
        (λ n. either_flow (is_zero n) (Goes w 1) (more_flow 1 later) tt (more_flow_places 1 later later_places))

module _ (s : Setting) (calls : CallsPlaces s) where
  alone : (words : List ℤ) (x : Expr) → ExprPlaces x → ValuePlaces (val s (words_alone words) x)
  alone words x w = val_places s calls (words_alone words) x w

  mutual
    flow_places : (x : Stmt) → StmtPlaces x → (words : List ℤ) → FlowPlaces (flow s x words)
    flow_places Nop w words = tt
    flow_places (Set to e) w words =
        flow_with_places (val s (words_alone words) e) (λ n. stored_flow words to n) (alone words e w) (λ n. stored_places words to n)
    flow_places (SetAt slot n i e place) w words =
        flow_with_places (val s (words_alone words) i)
        (λ k. flow_with (val s (words_alone words) e) (λ x. stored_at words slot (index_in n k) x place)) (alone words i w.0)
        (λ k. flow_with_places (val s (words_alone words) e) (λ x. stored_at words slot (index_in n k) x place) (alone words e w.1)
        (λ x. stored_at_places words slot (index_in n k) x place w.2))
    flow_places (PutAt v n i e place) w words = tt
    flow_places (Clear slot n) w words = tt
    flow_places (Seq list) w words = flows_places list w words
    flow_places (If e p q) w words =
        flow_with_places (val s (words_alone words) e)
        (λ n. elim (is_zero n) [ true ↦ more_flow 1 (flow s q words) | false ↦ more_flow 1 (flow s p words) ]) (alone words e w.0)
        (λ n. either_flow (is_zero n) (more_flow 1 (flow s q words)) (more_flow 1 (flow s p words))
        (more_flow_places 1 (flow s q words) (flow_places q w.2 words)) (more_flow_places 1 (flow s p words) (flow_places p w.1 words)))
    flow_places (While e (Some n) body place) w words =
        turns_places (λ w'. val s (words_alone w') e) (flow s body) place w.2 (λ w'. alone w' e w.0) (λ w'. flow_places body w.1 w') n words
    flow_places (While e None body place) w words = tt
    flow_places Pause w words = tt
    flow_places (Par branches) w words = tt
    flow_places (Enter weak immediate e body) w words = tt
    flow_places (Return e) w words =
        flow_with_places (val s (words_alone words) e) (λ n. Returns n 0) (alone words e w) (λ n. tt)

    flows_places : (xs : Stmts) → StmtsPlaces xs → (words : List ℤ) → FlowPlaces (flows s xs words)
    flows_places no_stmts w words = tt
    flows_places (more_stmts x rest) w words =
        flow_then_places (flow s x words) (λ w'. flows s rest w') (flow_places x w.0 words) (λ w'. flows_places rest w.1 w')

returned_places : (r : Flow) → FlowPlaces r → ValuePlaces (flow_value r)
returned_places (Goes words u) h = tt
returned_places (Returns n u) h = tt
returned_places (Breaks place trap u) h = h

-- ---- a kernel

module _ (k : PlainKernel) (places : KernelPlaces k) where
  call_places : (deep f : ℕ) (ns : List ℤ) → ValuePlaces (call_within k deep f ns)
  call_places zero f ns = tt
  call_places (suc deep) f ns =
      let s : Setting = record { tables = k.shape.tables; call = call_within k deep } in
      let words = fresh_words ns (function_words k.shape.functions f) in
      let body = get_or k.functions f Nop in
      returned_places (flow s body words) (flow_places s (call_places deep) body (all_get StmtPlaces k.functions f Nop places.functions tt) words)

  pub kernel_places : CallsPlaces (setting k)
  kernel_places = λ f ns. call_places _ f ns

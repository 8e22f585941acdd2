-- What expressions and int functions give fits 32 bits.
use Rattle.std.proofs.Common.{ℕ, zero, suc, ◌+◌, ◌-◌, ◌==◌, ℤ, pos, Bool, true, false, cond, not, Option, Some, None, List, [], ◌∷◌, length, get_or, replicate, FitsSigned, w32}
use Rattle.std.specs.List.{AllByRecursion}
use Rattle.forec_base.specs.Numbers.{truth, is_zero, unary_of, binary_of}
use Rattle.forec_base.specs.declared.Place.{Place}
use Rattle.forec_base.specs.declared.Trap.TheVariants.{Turns}
use Rattle.forec_kernel.specs.declared.terms.Spot.{Spot}
use Rattle.forec_kernel.specs.declared.terms.Spot.TheVariants as spot
use Rattle.forec_kernel.specs.declared.shape.VarCopy.{VarCopy}
use Rattle.forec_kernel.specs.Terms.{Expr, Num, Local, LocalAt, Var, SharedAt, TableAt, Un, Bin, And, Or, Choose, Call, Exprs, no_exprs, more_exprs, Stmt, Nop, Set, SetAt, PutAt, Clear, Seq, If, While, Pause, Par, Enter, Return, Stmts, no_stmts, more_stmts}
use Rattle.forec_kernel.specs.Shapes.{PlainKernel}
use Rattle.forec_kernel.specs.Values.{word, cleared, copy_of, index_in, Value, Gives, Raises, more_units, value_then, Values, AllGive, OneRaises, one_more, first_then, values_then, Setting, setting, Sight, divided, at_index, val, vals, Flow, Goes, Returns, Breaks, more_flow, flow_with, flow_then, words_alone, stored_at, stored_flow, turns, flow, flows, flow_value, fresh_words, function_words, call_within}
use Rattle.value_ranges.specs.Words.{AreWords, KernelWords}
use Rattle.value_ranges.proofs.Words.{ExprWords, ExprsWords, StmtWords, StmtsWords}
use Rattle.value_ranges.proofs.Numbers.{zero_fits, one_fits, truth_fits, unary_fits, OptionFits, binary_fits}
use Rattle.value_ranges.proofs.Lists.{all_get, all_set, all_append, all_replicate}

-- ---- words and copies

abbrev pub CopiesFit : List VarCopy → Type 0
CopiesFit = AllByRecursion (λ (c : VarCopy). FitsSigned w32 c.value)

word_fits : (words : List ℤ) (slot : ℕ) → AreWords words → FitsSigned w32 (word words slot)
word_fits words slot h = all_get (FitsSigned w32) words slot (pos 0) h zero_fits

pub cleared_fits : (words : List ℤ) (slot n : ℕ) → AreWords words → AreWords (cleared words slot n)
cleared_fits words slot zero h = h
cleared_fits words slot (suc n) h =
    all_set (FitsSigned w32) (cleared words slot n) (slot + n) (pos 0) (cleared_fits words slot n h) zero_fits

pub fresh_fits : (args : List ℤ) (n : ℕ) → AreWords args → AreWords (fresh_words args n)
fresh_fits args n h =
    all_append (FitsSigned w32) args (replicate (n - length args) (pos 0)) h
    (all_replicate (FitsSigned w32) (n - length args) (pos 0) zero_fits)

pub copy_fits : (uses : List ℕ) (copies : List VarCopy) (v : ℕ) → CopiesFit copies → FitsSigned w32 (copy_of uses copies v).value
copy_fits [] copies v h = zero_fits
copy_fits (u ∷ uses) [] v h = zero_fits
copy_fits (u ∷ uses) (c ∷ copies) v h = pick (u == v) (copy_fits uses copies v h.1)
  where
    pick : (b : Bool) → FitsSigned w32 (copy_of uses copies v).value → FitsSigned w32 (cond b c (copy_of uses copies v)).value
    pick true g = h.0
    pick false g = g

-- ---- results

abbrev pub ValueFits : Value → Type 0
ValueFits (Gives n u) = FitsSigned w32 n
ValueFits (Raises place trap u) = Unit {0}

abbrev pub ValuesFitAll : Values → Type 0
ValuesFitAll (AllGive ns u) = AreWords ns
ValuesFitAll (OneRaises place trap u) = Unit {0}

pub more_fits : (u : ℕ) (v : Value) → ValueFits v → ValueFits (more_units u v)
more_fits u (Gives n w) h = h
more_fits u (Raises place trap w) h = tt

then_fits : (v : Value) (go : ℤ → Value) → ValueFits v → ((n : ℤ) → FitsSigned w32 n → ValueFits (go n)) → ValueFits (value_then v go)
then_fits (Gives n u) go h g = more_fits u (go n) (g n h)
then_fits (Raises place trap u) go h g = tt

either_fits : (b : Bool) (p q : Value) → ValueFits p → ValueFits q → ValueFits (elim b [ true ↦ p | false ↦ q ])
either_fits true p q hp hq = hp
either_fits false p q hp hq = hq

at_fits : (i : Option ℕ) (get : ℕ → ℤ) (place : Place) → ((j : ℕ) → FitsSigned w32 (get j)) → ValueFits (at_index i get place)
at_fits (Some i) get place h = h i
at_fits None get place h = tt

divided_fits : (r : Option ℤ) (place : Option Place) → OptionFits r → ValueFits (divided r place)
divided_fits (Some n) place h = h
divided_fits None place h = tt

one_more_fits : (n : ℤ) (u : ℕ) (vs : Values) → FitsSigned w32 n → ValuesFitAll vs → ValuesFitAll (one_more n u vs)
one_more_fits n u (AllGive ns v) h g = (h, g)
one_more_fits n u (OneRaises place trap v) h g = tt

first_fits : (v : Value) (vs : Values) → ValueFits v → ValuesFitAll vs → ValuesFitAll (first_then v vs)
first_fits (Gives n u) vs h g = one_more_fits n u vs h g
first_fits (Raises place trap u) vs h g = tt

values_fits : (vs : Values) (go : List ℤ → Value) → ValuesFitAll vs → ((ns : List ℤ) → AreWords ns → ValueFits (go ns)) →
    ValueFits (values_then vs go)
values_fits (AllGive ns u) go h g = more_fits u (go ns) (g ns h)
values_fits (OneRaises place trap u) go h g = tt

-- ---- expressions

-- what an expression reads fits
pub record SightFits (e : Sight) : Type 0 where
  pub words : AreWords e.words
  pub copies : CopiesFit e.copies

-- what does not change fits, and so does what each call gives
pub record SettingFits (s : Setting) : Type 0 where
  pub tables : AllByRecursion AreWords s.tables
  pub calls : (f : ℕ) (ns : List ℤ) → AreWords ns → ValueFits (s.call f ns)

module _ (s : Setting) (fits : SettingFits s) where
  mutual
    pub val_fits : (e : Sight) → SightFits e → (x : Expr) → ExprWords x → ValueFits (val s e x)
    val_fits e h (Num n) w = w
    val_fits e h (Local slot) w = word_fits e.words slot h.words
    val_fits e h (LocalAt slot n i place) w =
        then_fits (val s e i) (λ k. at_index (index_in n k) (λ j. word e.words (slot + j)) place) (val_fits e h i w.0)
        (λ k g. at_fits (index_in n k) (λ j. word e.words (slot + j)) place (λ j. word_fits e.words (slot + j) h.words))
    val_fits e h (Var v) w = copy_fits e.uses e.copies v h.copies
    val_fits e h (SharedAt v n i place) w =
        then_fits (val s e i) (λ k. at_index (index_in n k) (λ j. (copy_of e.uses e.copies (v + j)).value) place) (val_fits e h i w.0)
        (λ k g. at_fits (index_in n k) (λ j. (copy_of e.uses e.copies (v + j)).value) place
        (λ j. copy_fits e.uses e.copies (v + j) h.copies))
    val_fits e h (TableAt t i place) w =
        let table = get_or s.tables t [] in
        then_fits (val s e i) (λ k. at_index (index_in (length table) k) (λ j. word table j) place) (val_fits e h i w.0)
        (λ k g. at_fits (index_in (length table) k) (λ j. word table j) place
        (λ j. word_fits table j (all_get AreWords s.tables t [] fits.tables tt)))
    val_fits e h (Un op a) w =
        then_fits (val s e a) (λ x. Gives (unary_of op x) 1) (val_fits e h a w) (λ x g. unary_fits op x g)
    val_fits e h (Bin op a b place) w =
        then_fits (val s e a) (λ x. value_then (val s e b) (λ y. divided (binary_of op x y) place)) (val_fits e h a w.0)
        (λ x f. then_fits (val s e b) (λ y. divided (binary_of op x y) place) (val_fits e h b w.1)
        (λ y g. divided_fits (binary_of op x y) place (binary_fits op x y f g)))
    val_fits e h (And a b) w =
        let right = value_then (val s e b) (λ y. Gives (truth (not (is_zero y))) 0) in
        let right_fits : ValueFits right =
        then_fits (val s e b) (λ y. Gives (truth (not (is_zero y))) 0) (val_fits e h b w.1) (λ y g. truth_fits (not (is_zero y))) in
        then_fits (val s e a) (λ x. elim (is_zero x) [ true ↦ Gives (pos 0) 1 | false ↦ more_units 1 right ]) (val_fits e h a w.0)
        (λ x g. either_fits (is_zero x) (Gives (pos 0) 1) (more_units 1 right) zero_fits (more_fits 1 right right_fits))
    val_fits e h (Or a b) w =
        let right = value_then (val s e b) (λ y. Gives (truth (not (is_zero y))) 0) in
        let right_fits : ValueFits right =
        then_fits (val s e b) (λ y. Gives (truth (not (is_zero y))) 0) (val_fits e h b w.1) (λ y g. truth_fits (not (is_zero y))) in
        then_fits (val s e a) (λ x. elim (is_zero x) [ true ↦ more_units 1 right | false ↦ Gives (pos 1) 1 ]) (val_fits e h a w.0)
        (λ x g. either_fits (is_zero x) (more_units 1 right) (Gives (pos 1) 1) (more_fits 1 right right_fits) one_fits)
    val_fits e h (Choose t a b) w =
        then_fits (val s e t) (λ x. elim (is_zero x) [ true ↦ more_units 1 (val s e b) | false ↦ more_units 1 (val s e a) ])
        (val_fits e h t w.0)
        (λ x g. either_fits (is_zero x) (more_units 1 (val s e b)) (more_units 1 (val s e a))
        (more_fits 1 (val s e b) (val_fits e h b w.2)) (more_fits 1 (val s e a) (val_fits e h a w.1)))
    val_fits e h (Call f args) w =
        values_fits (vals s e args) (λ ns. more_units 1 (s.call f ns)) (vals_fits e h args w)
        (λ ns g. more_fits 1 (s.call f ns) (fits.calls f ns g))

    pub vals_fits : (e : Sight) → SightFits e → (xs : Exprs) → ExprsWords xs → ValuesFitAll (vals s e xs)
    vals_fits e h no_exprs w = tt
    vals_fits e h (more_exprs x rest) w = first_fits (val s e x) (vals s e rest) (val_fits e h x w.0) (vals_fits e h rest w.1)

-- ---- statements of int functions

abbrev FlowFits : Flow → Type 0
FlowFits (Goes words u) = AreWords words
FlowFits (Returns n u) = FitsSigned w32 n
FlowFits (Breaks place trap u) = Unit {0}

more_flow_fits : (u : ℕ) (r : Flow) → FlowFits r → FlowFits (more_flow u r)
more_flow_fits u (Goes words v) h = h
more_flow_fits u (Returns n v) h = h
more_flow_fits u (Breaks place trap v) h = tt

flow_with_fits : (v : Value) (go : ℤ → Flow) → ValueFits v → ((n : ℤ) → FitsSigned w32 n → FlowFits (go n)) → FlowFits (flow_with v go)
flow_with_fits (Gives n u) go h g = more_flow_fits u (go n) (g n h)
flow_with_fits (Raises place trap u) go h g = tt

flow_then_fits : (r : Flow) (go : List ℤ → Flow) → FlowFits r → ((w : List ℤ) → AreWords w → FlowFits (go w)) → FlowFits (flow_then r go)
flow_then_fits (Goes words u) go h g = more_flow_fits u (go words) (g words h)
flow_then_fits (Returns n u) go h g = h
flow_then_fits (Breaks place trap u) go h g = tt

either_flow : (b : Bool) (p q : Flow) → FlowFits p → FlowFits q → FlowFits (elim b [ true ↦ p | false ↦ q ])
either_flow true p q hp hq = hp
either_flow false p q hp hq = hq

stored_fits : (words : List ℤ) (to : Spot) (n : ℤ) → AreWords words → FitsSigned w32 n → FlowFits (stored_flow words to n)
stored_fits words (spot.Local slot) n h g = all_set (FitsSigned w32) words slot n h g
stored_fits words (spot.Variable v) n h g = h

stored_at_fits : (words : List ℤ) (slot : ℕ) (i : Option ℕ) (n : ℤ) (place : Place) → AreWords words → FitsSigned w32 n →
    FlowFits (stored_at words slot i n place)
stored_at_fits words slot (Some i) n place h g = all_set (FitsSigned w32) words (slot + i) n h g
stored_at_fits words slot None n place h g = tt

module _ (test : List ℤ → Value) (body : List ℤ → Flow) (place : Place) (test_fits : (w : List ℤ) → AreWords w → ValueFits (test w))
    (body_fits : (w : List ℤ) → AreWords w → FlowFits (body w))
  where
    turns_fits : (m : ℕ) (w : List ℤ) → AreWords w → FlowFits (turns m test body place w)
    turns_fits zero w h =
        flow_with_fits (test w) (λ n. elim (is_zero n) [ true ↦ Goes w 1 | false ↦ Breaks place Turns 1 ]) (test_fits w h)
        (λ n g. either_flow (is_zero n) (Goes w 1) (Breaks place Turns 1) h tt)
    turns_fits (suc m) w h =
        let later = flow_then (body w) (λ w'. turns m test body place w') in
        let later_fits : FlowFits later =
        flow_then_fits (body w) (λ w'. turns m test body place w') (body_fits w h) (λ w' h'. turns_fits m w' h') in
        flow_with_fits (test w) (λ n. elim (is_zero n) [ true ↦ Goes w 1 | false ↦ more_flow 1 later ]) (test_fits w h)
        (λ n g. either_flow (is_zero n) (Goes w 1) (more_flow 1 later) h (more_flow_fits 1 later later_fits))

alone_fits : (words : List ℤ) → AreWords words → SightFits (words_alone words)
alone_fits words h = record { words = h; copies = tt }

module _ (s : Setting) (fits : SettingFits s) where
  alone : (words : List ℤ) → AreWords words → (x : Expr) → ExprWords x → ValueFits (val s (words_alone words) x)
  alone words h x w = val_fits s fits (words_alone words) (alone_fits words h) x w

  mutual
    flow_fits : (x : Stmt) → StmtWords x → (words : List ℤ) → AreWords words → FlowFits (flow s x words)
    flow_fits Nop w words h = h
    flow_fits (Set to e) w words h =
        flow_with_fits (val s (words_alone words) e) (λ n. stored_flow words to n) (alone words h e w) (λ n g. stored_fits words to n h g)
    flow_fits (SetAt slot n i e place) w words h =
        flow_with_fits (val s (words_alone words) i)
        (λ k. flow_with (val s (words_alone words) e) (λ x. stored_at words slot (index_in n k) x place)) (alone words h i w.0)
        (λ k f. flow_with_fits (val s (words_alone words) e) (λ x. stored_at words slot (index_in n k) x place) (alone words h e w.1)
        (λ x g. stored_at_fits words slot (index_in n k) x place h g))
    flow_fits (PutAt v n i e place) w words h = h
    flow_fits (Clear slot n) w words h = cleared_fits words slot n h
    flow_fits (Seq list) w words h = flows_fits list w words h
    flow_fits (If e p q) w words h =
        flow_with_fits (val s (words_alone words) e)
        (λ n. elim (is_zero n) [ true ↦ more_flow 1 (flow s q words) | false ↦ more_flow 1 (flow s p words) ]) (alone words h e w.0)
        (λ n g. either_flow (is_zero n) (more_flow 1 (flow s q words)) (more_flow 1 (flow s p words))
        (more_flow_fits 1 (flow s q words) (flow_fits q w.2 words h)) (more_flow_fits 1 (flow s p words) (flow_fits p w.1 words h)))
    flow_fits (While e (Some n) body place) w words h =
        turns_fits (λ w'. val s (words_alone w') e) (flow s body) place (λ w' h'. alone w' h' e w.0) (λ w' h'. flow_fits body w.1 w' h') n
        words h
    flow_fits (While e None body place) w words h = h
    flow_fits Pause w words h = h
    flow_fits (Par branches) w words h = h
    flow_fits (Enter weak immediate e body) w words h = h
    flow_fits (Return e) w words h =
        flow_with_fits (val s (words_alone words) e) (λ n. Returns n 0) (alone words h e w) (λ n g. g)

    flows_fits : (xs : Stmts) → StmtsWords xs → (words : List ℤ) → AreWords words → FlowFits (flows s xs words)
    flows_fits no_stmts w words h = h
    flows_fits (more_stmts x rest) w words h =
        flow_then_fits (flow s x words) (λ w'. flows s rest w') (flow_fits x w.0 words h) (λ w' h'. flows_fits rest w.1 w' h')

returned_fits : (r : Flow) → FlowFits r → ValueFits (flow_value r)
returned_fits (Goes words u) h = zero_fits
returned_fits (Returns n u) h = h
returned_fits (Breaks place trap u) h = tt

-- ---- a kernel

module _ (k : PlainKernel) (numbers : KernelWords k) where
  call_fits : (deep f : ℕ) (ns : List ℤ) → AreWords ns → ValueFits (call_within k deep f ns)
  call_fits zero f ns h = zero_fits
  call_fits (suc deep) f ns h =
      let s : Setting = record { tables = k.shape.tables; call = call_within k deep } in
      let words = fresh_words ns (function_words k.shape.functions f) in
      let body = get_or k.functions f Nop in
      returned_fits (flow s body words)
      (flow_fits s (record { tables = numbers.tables; calls = call_fits deep }) body (all_get StmtWords k.functions f Nop numbers.functions tt)
      words (fresh_fits ns (function_words k.shape.functions f) h))

  pub kernel_fits : SettingFits (setting k)
  kernel_fits = record { tables = numbers.tables; calls = λ f ns h. call_fits _ f ns h }

-- A folded term gives what the term gives, and takes no more units.
use Rattle.std.proofs.Common.{ℕ, ◌+◌, ◌≤◌, ◌≡◌, ℤ, pos, Bool, true, false, cond, not, Option, Some, None, List, [], ◌∷◌, get_or, length, refl, ap, sym, subst, ◌∙◌, arith}
use Rattle.forec_base.specs.Numbers.{truth, is_zero, unary_of, binary_of}
use Rattle.forec_base.specs.declared.operators.Unary.{Unary}
use Rattle.forec_base.specs.declared.operators.Binary.{Binary}
use Rattle.forec_base.specs.declared.Place.{Place}
use Rattle.forec_kernel.specs.Terms.{Expr, Num, Local, LocalAt, Var, SharedAt, TableAt, Un, Bin, And, Or, Choose, Call, Exprs, no_exprs, more_exprs}
use Rattle.forec_kernel.specs.Values.{word, index_in, Value, Gives, Raises, more_units, value_then, Values, AllGive, OneRaises, one_more, first_then, values_then, Setting, Sight, divided, at_index, copy_of, val, vals}
use Rattle.fold_laws.specs.Laws.{NoWorse}
use Rattle.fold_laws.specs.Folding.{constant_of, constant_or, unary_number, binary_number, truth_number, and_number, or_number, chosen_expr, fold_expr, fold_exprs}

-- ---- results

pub value_same : (v : Value) → NoWorse v v
value_same (Gives n u) = (refl, omega arith)
value_same (Raises place trap u) = (refl, refl, omega arith)

pub more_like : (a b : ℕ) (v w : Value) → b ≤ a → NoWorse v w → NoWorse (more_units a v) (more_units b w)
more_like a b (Gives n u) (Gives m v) h l = let le = l.1 in (l.0, omega arith)
more_like a b (Gives n u) (Raises place trap v) h l = absurd l
more_like a b (Raises place trap u) (Gives m v) h l = absurd l
more_like a b (Raises place trap u) (Raises place' trap' v) h l = let le = l.2 in (l.0, l.1, omega arith)

-- units on the left alone
pub more_left : (a : ℕ) (v w : Value) → NoWorse v w → NoWorse (more_units a v) w
more_left a (Gives n u) (Gives m v) l = let le = l.1 in (l.0, omega arith)
more_left a (Gives n u) (Raises place trap v) l = absurd l
more_left a (Raises place trap u) (Gives m v) l = absurd l
more_left a (Raises place trap u) (Raises place' trap' v) l = let le = l.2 in (l.0, l.1, omega arith)

pub then_like : (v w : Value) (go go' : ℤ → Value) → NoWorse v w → ((n : ℤ) → NoWorse (go n) (go' n)) →
    NoWorse (value_then v go) (value_then w go')
then_like (Gives n u) (Gives m v) go go' l f =
    more_like u v (go n) (go' m) l.1 (subst (λ x. NoWorse (go n) (go' x)) (sym l.0) (f n))
then_like (Gives n u) (Raises place trap v) go go' l f = absurd l
then_like (Raises place trap u) (Gives m v) go go' l f = absurd l
then_like (Raises place trap u) (Raises place' trap' v) go go' l f = l

-- what comes after a number that was folded
pub number_drops : (v : Value) (x : ℤ) (go : ℤ → Value) (w : Value) → NoWorse v (Gives x 1) → NoWorse (go x) w →
    NoWorse (value_then v go) w
number_drops (Gives n u) x go w l f = more_left u (go n) w (subst (λ y. NoWorse (go y) w) l.0 f)
number_drops (Raises place trap u) x go w l f = absurd l

-- the same, and the number's own unit counts
pub number_pays : (v : Value) (x : ℤ) (go : ℤ → Value) (w : Value) → NoWorse v (Gives x 1) → NoWorse (go x) w →
    NoWorse (value_then v go) (more_units 1 w)
number_pays (Gives n u) x go w l f = more_like u 1 (go n) w l.1 (subst (λ y. NoWorse (go y) w) l.0 f)
number_pays (Raises place trap u) x go w l f = absurd l

-- ---- several results

abbrev pub ValuesLike : Values → Values → Type 0
ValuesLike (AllGive ns u) (AllGive ms v) = (ms ≡ ns) × (v ≤ u)
ValuesLike (AllGive ns u) (OneRaises place trap v) = ⊥
ValuesLike (OneRaises place trap u) (AllGive ms v) = ⊥
ValuesLike (OneRaises place trap u) (OneRaises place' trap' v) = (place' ≡ place) × (trap' ≡ trap) × (v ≤ u)

one_more_like : (n m : ℤ) (a b : ℕ) (v w : Values) → m ≡ n → b ≤ a → ValuesLike v w → ValuesLike (one_more n a v) (one_more m b w)
one_more_like n m a b (AllGive ns u) (AllGive ms v) e h l =
    let le = l.1 in (ap (λ x. x ∷ ms) e ∙ ap (λ xs. n ∷ xs) l.0, omega arith)
one_more_like n m a b (AllGive ns u) (OneRaises place trap v) e h l = absurd l
one_more_like n m a b (OneRaises place trap u) (AllGive ms v) e h l = absurd l
one_more_like n m a b (OneRaises place trap u) (OneRaises place' trap' v) e h l = let le = l.2 in (l.0, l.1, omega arith)

first_like : (v w : Value) (vs ws : Values) → NoWorse v w → ValuesLike vs ws → ValuesLike (first_then v vs) (first_then w ws)
first_like (Gives n u) (Gives m v) vs ws l ls = one_more_like n m u v vs ws l.0 l.1 ls
first_like (Gives n u) (Raises place trap v) vs ws l ls = absurd l
first_like (Raises place trap u) (Gives m v) vs ws l ls = absurd l
first_like (Raises place trap u) (Raises place' trap' v) vs ws l ls = l

pub values_then_like : (v w : Values) (go go' : List ℤ → Value) → ValuesLike v w → ((ns : List ℤ) → NoWorse (go ns) (go' ns)) →
    NoWorse (values_then v go) (values_then w go')
values_then_like (AllGive n u) (AllGive m v) go go' l f =
    more_like u v (go n) (go' m) l.1 (subst (λ x. NoWorse (go n) (go' x)) (sym l.0) (f n))
values_then_like (AllGive n u) (OneRaises place trap v) go go' l f = absurd l
values_then_like (OneRaises place trap u) (AllGive m v) go go' l f = absurd l
values_then_like (OneRaises place trap u) (OneRaises place' trap' v) go go' l f = l

-- ---- expressions

pub is_number : (a : Expr) (x : ℤ) → constant_of a ≡ Some x → a ≡ Num x
is_number (Num n) x h = cc
is_number (Local slot) x h = cc
is_number (LocalAt slot n i place) x h = cc
is_number (Var v) x h = cc
is_number (SharedAt v n i place) x h = cc
is_number (TableAt t i place) x h = cc
is_number (Un op a) x h = cc
is_number (Bin op a b place) x h = cc
is_number (And a b) x h = cc
is_number (Or a b) x h = cc
is_number (Choose t a b) x h = cc
is_number (Call f args) x h = cc

-- the same constant arrays, and functions that give the same in no more units
module _ (tables : List (List ℤ)) (f g : ℕ → List ℤ → Value) (calls : (n : ℕ) (args : List ℤ) → NoWorse (f n args) (g n args)) where
  abbrev s : Setting
  s = record { tables = tables; call = f }

  abbrev s' : Setting
  s' = record { tables = tables; call = g }

  is_given : (e : Sight) (v : Value) (a : Expr) (x : ℤ) → constant_of a ≡ Some x → NoWorse v (val s' e a) → NoWorse v (Gives x 1)
  is_given e v a x h l = subst (λ b. NoWorse v (val s' e b)) (is_number a x h) l

  unary_like : (e : Sight) (op : Unary) (v : Value) (a : Expr) → NoWorse v (val s' e a) → (o : Option ℤ) → constant_of a ≡ o →
      NoWorse (value_then v (λ x. Gives (unary_of op x) 1)) (val s' e (constant_or (unary_number op o) (Un op a)))
  unary_like e op v a l None h = then_like v (val s' e a) _ _ l (λ x. value_same (Gives (unary_of op x) 1))
  unary_like e op v a l (Some x) h =
      number_drops v x (λ y. Gives (unary_of op y) 1) (Gives (unary_of op x) 1) (is_given e v a x h l) (value_same (Gives (unary_of op x) 1))

  module _ (e : Sight) (v w : Value) (a b : Expr) (l : NoWorse v (val s' e a)) (r : NoWorse w (val s' e b)) where
    -- ---- a binary operator

    module _ (op : Binary) (place : Option Place) where
      abbrev after_left : ℤ → Value
      after_left x = value_then w (λ y. divided (binary_of op x y) place)

      binary_plain : NoWorse (value_then v after_left) (val s' e (Bin op a b place))
      binary_plain =
          then_like v (val s' e a) _ _ l (λ x.
          then_like w (val s' e b) _ _ r (λ y. value_same (divided (binary_of op x y) place)))

      binary_like : (o q : Option ℤ) → constant_of a ≡ o → constant_of b ≡ q →
          NoWorse (value_then v after_left) (val s' e (constant_or (binary_number (binary_of op) o q) (Bin op a b place)))
      binary_like None q h i = binary_plain
      binary_like (Some x) None h i = binary_plain
      binary_like (Some x) (Some y) h i = pick (binary_of op x y) refl
        where
          pick : (z : Option ℤ) → binary_of op x y ≡ z → NoWorse (value_then v after_left) (val s' e (constant_or z (Bin op a b place)))
          pick None j = binary_plain
          pick (Some n) j =
              number_drops v x after_left (Gives n 1) (is_given e v a x h l)
              (number_drops w y (λ y. divided (binary_of op x y) place) (Gives n 1) (is_given e w b y i r)
              (subst (λ z. NoWorse (divided z place) (Gives n 1)) (sym j) (value_same (Gives n 1))))

    -- ---- `and`, `or`, and a choice

    abbrev right_truth : Value → Value
    right_truth u = more_units 1 (value_then u (λ y. Gives (truth (not (is_zero y))) 0))

    right_like : NoWorse (right_truth w) (right_truth (val s' e b))
    right_like = more_like 1 1 _ _ (omega arith) (then_like w (val s' e b) _ _ r (λ y. value_same (Gives (truth (not (is_zero y))) 0)))

    right_number : (y : ℤ) → constant_of b ≡ Some y → NoWorse (right_truth w) (Gives (truth (not (is_zero y))) 0)
    right_number y i =
        more_left 1 _ _ (number_drops w y (λ y. Gives (truth (not (is_zero y))) 0) _ (is_given e w b y i r) (value_same (Gives (truth (not (is_zero y))) 0)))

    abbrev and_test : Value → Bool → Value
    and_test u z = elim z [ true ↦ Gives (pos 0) 1 | false ↦ right_truth u ]

    and_plain : NoWorse (value_then v (λ x. and_test w (is_zero x))) (val s' e (And a b))
    and_plain = then_like v (val s' e a) _ _ l (λ x. pick (is_zero x))
      where
        pick : (z : Bool) → NoWorse (and_test w z) (and_test (val s' e b) z)
        pick true = value_same (Gives (pos 0) 1)
        pick false = right_like

    and_like : (o q : Option ℤ) → constant_of a ≡ o → constant_of b ≡ q →
        NoWorse (value_then v (λ x. and_test w (is_zero x))) (val s' e (constant_or (and_number o q) (And a b)))
    and_like None q h i = and_plain
    and_like (Some x) q h i = pick (is_zero x) refl q i
      where
        pick : (z : Bool) → is_zero x ≡ z → (q : Option ℤ) → constant_of b ≡ q →
            NoWorse (value_then v (λ x. and_test w (is_zero x))) (val s' e (constant_or (cond z (Some (pos 0)) (truth_number q)) (And a b)))
        pick true j q i =
            number_drops v x (λ x. and_test w (is_zero x)) (Gives (pos 0) 1) (is_given e v a x h l)
            (subst (λ z. NoWorse (and_test w z) (Gives (pos 0) 1)) (sym j) (value_same (Gives (pos 0) 1)))
        pick false j None i = and_plain
        pick false j (Some y) i =
            number_pays v x (λ x. and_test w (is_zero x)) (Gives (truth (not (is_zero y))) 0) (is_given e v a x h l)
            (subst (λ z. NoWorse (and_test w z) (Gives (truth (not (is_zero y))) 0)) (sym j) (right_number y i))

    abbrev or_test : Value → Bool → Value
    or_test u z = elim z [ true ↦ right_truth u | false ↦ Gives (pos 1) 1 ]

    or_plain : NoWorse (value_then v (λ x. or_test w (is_zero x))) (val s' e (Or a b))
    or_plain = then_like v (val s' e a) _ _ l (λ x. pick (is_zero x))
      where
        pick : (z : Bool) → NoWorse (or_test w z) (or_test (val s' e b) z)
        pick true = right_like
        pick false = value_same (Gives (pos 1) 1)

    or_like : (o q : Option ℤ) → constant_of a ≡ o → constant_of b ≡ q →
        NoWorse (value_then v (λ x. or_test w (is_zero x))) (val s' e (constant_or (or_number o q) (Or a b)))
    or_like None q h i = or_plain
    or_like (Some x) q h i = pick (is_zero x) refl q i
      where
        pick : (z : Bool) → is_zero x ≡ z → (q : Option ℤ) → constant_of b ≡ q →
            NoWorse (value_then v (λ x. or_test w (is_zero x))) (val s' e (constant_or (cond z (truth_number q) (Some (pos 1))) (Or a b)))
        pick false j q i =
            number_drops v x (λ x. or_test w (is_zero x)) (Gives (pos 1) 1) (is_given e v a x h l)
            (subst (λ z. NoWorse (or_test w z) (Gives (pos 1) 1)) (sym j) (value_same (Gives (pos 1) 1)))
        pick true j None i = or_plain
        pick true j (Some y) i =
            number_pays v x (λ x. or_test w (is_zero x)) (Gives (truth (not (is_zero y))) 0) (is_given e v a x h l)
            (subst (λ z. NoWorse (or_test w z) (Gives (truth (not (is_zero y))) 0)) (sym j) (right_number y i))

    -- a choice between these two, by a test

    abbrev by_test : Value → Value → Bool → Value
    by_test p q z = elim z [ true ↦ more_units 1 q | false ↦ more_units 1 p ]

    choose_like : (u : Value) (t : Expr) → NoWorse u (val s' e t) → (o : Option ℤ) → constant_of t ≡ o →
        NoWorse (value_then u (λ x. by_test v w (is_zero x))) (val s' e (chosen_expr o a b (Choose t a b)))
    choose_like u t k None h = then_like u (val s' e t) _ _ k (λ x. pick (is_zero x))
      where
        pick : (z : Bool) → NoWorse (by_test v w z) (by_test (val s' e a) (val s' e b) z)
        pick true = more_like 1 1 w (val s' e b) (omega arith) r
        pick false = more_like 1 1 v (val s' e a) (omega arith) l
    choose_like u t k (Some x) h =
        number_drops u x (λ x. by_test v w (is_zero x)) (val s' e (cond (is_zero x) b a)) (is_given e u t x h k) (pick (is_zero x))
      where
        pick : (z : Bool) → NoWorse (by_test v w z) (val s' e (cond z b a))
        pick true = more_left 1 w (val s' e b) r
        pick false = more_left 1 v (val s' e a) l

  mutual
    pub expr_like : (e : Sight) (a : Expr) → NoWorse (val s e a) (val s' e (fold_expr a))
    expr_like e (Num n) = value_same (Gives n 1)
    expr_like e (Local slot) = value_same (Gives (word e.words slot) 1)
    expr_like e (LocalAt slot n i place) =
        then_like (val s e i) (val s' e (fold_expr i)) _ _ (expr_like e i)
        (λ k. value_same (at_index (index_in n k) (λ j. word e.words (slot + j)) place))
    expr_like e (Var v) = value_same (Gives (copy_of e.uses e.copies v).value 1)
    expr_like e (SharedAt v n i place) =
        then_like (val s e i) (val s' e (fold_expr i)) _ _ (expr_like e i)
        (λ k. value_same (at_index (index_in n k) (λ j. (copy_of e.uses e.copies (v + j)).value) place))
    expr_like e (TableAt t i place) =
        then_like (val s e i) (val s' e (fold_expr i)) _ _ (expr_like e i)
        (λ k. let table = get_or tables t [] in value_same (at_index (index_in (length table) k) (λ j. word table j) place))
    expr_like e (Un op a) = unary_like e op (val s e a) (fold_expr a) (expr_like e a) (constant_of (fold_expr a)) refl
    expr_like e (Bin op a b place) =
        binary_like e (val s e a) (val s e b) (fold_expr a) (fold_expr b) (expr_like e a) (expr_like e b) op place
        (constant_of (fold_expr a)) (constant_of (fold_expr b)) refl refl
    expr_like e (And a b) =
        and_like e (val s e a) (val s e b) (fold_expr a) (fold_expr b) (expr_like e a) (expr_like e b)
        (constant_of (fold_expr a)) (constant_of (fold_expr b)) refl refl
    expr_like e (Or a b) =
        or_like e (val s e a) (val s e b) (fold_expr a) (fold_expr b) (expr_like e a) (expr_like e b)
        (constant_of (fold_expr a)) (constant_of (fold_expr b)) refl refl
    expr_like e (Choose t a b) =
        choose_like e (val s e a) (val s e b) (fold_expr a) (fold_expr b) (expr_like e a) (expr_like e b)
        (val s e t) (fold_expr t) (expr_like e t) (constant_of (fold_expr t)) refl
    expr_like e (Call n args) =
        values_then_like (vals s e args) (vals s' e (fold_exprs args)) _ _ (exprs_like e args)
        (λ ns. more_like 1 1 (f n ns) (g n ns) (omega arith) (calls n ns))

    pub exprs_like : (e : Sight) (list : Exprs) → ValuesLike (vals s e list) (vals s' e (fold_exprs list))
    exprs_like e no_exprs = (refl, omega arith)
    exprs_like e (more_exprs a rest) =
        first_like (val s e a) (val s' e (fold_expr a)) (vals s e rest) (vals s' e (fold_exprs rest)) (expr_like e a) (exprs_like e rest)

-- Each statement costs at most its bound, in the tick of its start and in each later one.
use Rattle.std.proofs.Common.{ℕ, zero, suc, ◌+◌, ◌*◌, ◌<◌, ◌≤◌, ◌≡◌, max, ℤ, Bool, true, false, cond, Option, Some, None, List, [], ◌∷◌, length, take, refl, ap, arith}
use Rattle.forec_base.specs.Numbers.{is_zero}
use Rattle.forec_base.specs.declared.Place.{Place}
use Rattle.forec_kernel.specs.declared.terms.Spot.{Spot}
use Rattle.forec_kernel.specs.declared.terms.Spot.TheVariants as spot
use Rattle.forec_kernel.specs.declared.shape.VarCopy.{VarCopy}
use Rattle.forec_kernel.specs.Terms.{Expr, Branch, Stmt, Nop, Set, SetAt, PutAt, Clear, Seq, If, While, Pause, Par, Enter, Return, Stmts, no_stmts, more_stmts}
use Rattle.forec_kernel.specs.Shapes.{PlainKernel}
use Rattle.forec_kernel.specs.Values.{Values, AllGive, OneRaises, Setting, setting, Sight, vals, index_in, fresh_words}
use Rattle.forec_kernel.specs.Texts.{Go_on, RunningText, Done, Run, Turning, Fork, Watch, Last, text_of, texts_of, then_list, uses_of, words_of, params_of, body_of, handed_down}
use Rattle.forec_kernel.specs.Steps.{Owner, evaluated, Moves, move_with, assigned, assigned_at, shared_at, entered_abort, Arguments, Ready, Refused, arguments_then, arguments, started, forked, statement_move}
use Rattle.forec_kernel.specs.WellFormed.{threads_in, pars_of, pars_in}
use Rattle.tick_bounds.specs.Bound.{Bounds, expr_bound, exprs_bound, args_bound, bodies_bound, join_bound, stmt_bound, stmts_bound, function_bound}
use Rattle.tick_bounds.proofs.Agreeing.{AllAbove, EachAbove, above_left, above_right}
use Rattle.bound_laws.specs.Paced.{PacedStmt, PacedStmts}
use Rattle.bound_laws.proofs.ValueBounds.{cost_all, vals_le, call_le}
use Rattle.bound_laws.proofs.Lengths.{taken_length}
use Rattle.bound_laws.proofs.Within.{Rests, AfterMove, Within, with_within, within_more, done_within, resting_within, then_within}
use Rattle.bound_laws.proofs.Loops.{evaluated_le, bounded_within, unbounded_within, last_within, watch_within}
use Rattle.bound_laws.proofs.Joins.{numbers}
use Rattle.bound_laws.proofs.Forks.{AllWithin, fork_within}

-- ---- arguments of branches

abbrev args_units : Arguments → ℕ
args_units (Ready lists u) = u
args_units (Refused place trap u) = u

args_then_le : (vs : Values) (rest : Arguments) (a b : ℕ) → cost_all vs ≤ a → args_units rest ≤ b → args_units (arguments_then vs rest) ≤ a + b
args_then_le (AllGive ns u) (Ready lists v) a b h g = omega arith
args_then_le (AllGive ns u) (Refused place trap v) a b h g = omega arith
args_then_le (OneRaises place trap u) rest a b h g = omega arith

args_le : (k : PlainKernel) (e : Sight) (bs : List Branch) → args_units (arguments (setting k) e bs) ≤ args_bound (function_bound k) bs
args_le k e [] = omega arith
args_le k e (b ∷ bs) =
    args_then_le (vals (setting k) e b.args) (arguments (setting k) e bs) (exprs_bound (function_bound k) b.args) (args_bound (function_bound k) bs)
    (vals_le (function_bound k) (setting k) (λ g ns. call_le k _ g ns) e b.args) (args_le k e bs)

-- where the arguments are ready, each branch has its own
abbrev Fit : Owner → List VarCopy → List Branch → Arguments → Type 0
Fit o copies bs (Ready lists u) = numbers (started o copies bs lists) ≡ threads_in bs
Fit o copies bs (Refused place trap u) = Unit {0}

fit_then : (o : Owner) (copies : List VarCopy) (b : Branch) (bs : List Branch) (vs : Values) (rest : Arguments) → Fit o copies bs rest →
    Fit o copies (b ∷ bs) (arguments_then vs rest)
fit_then o copies b bs (AllGive ns u) (Ready lists v) h = ap (λ ts. b.thread ∷ ts) h
fit_then o copies b bs (AllGive ns u) (Refused place trap v) h = tt
fit_then o copies b bs (OneRaises place trap u) rest h = tt

fit : (o : Owner) (copies : List VarCopy) (s : Setting) (e : Sight) (bs : List Branch) → Fit o copies bs (arguments s e bs)
fit o copies s e [] = refl
fit o copies s e (b ∷ bs) = fit_then o copies b bs (vals s e b.args) (arguments s e bs) (fit o copies s e bs)

-- ---- statements of thread t, which uses these variables

module _ (k : PlainKernel) (t size : ℕ) (uses : List ℕ) (thread : ℕ → ℕ) (params : (b : ℕ) → params_of k b ≤ words_of k b)
    (branches : (b : ℕ) → t < b → (m : ℕ) (w : List ℤ) (c : List VarCopy) → length w ≡ words_of k b →
    Within k (uses_of k b) (thread b) m (thread b) (text_of (body_of k b)) w c)
  where
    abbrev o : Owner
    o = record { kernel = k; uses = uses }

    abbrev bs_of : Bounds
    bs_of = record { function = function_bound k; thread = thread }

    abbrev f : ℕ → ℕ
    f = function_bound k

    abbrev bnd : Stmt → ℕ
    bnd s = stmt_bound k bs_of uses s

    by_move : (s : Stmt) (whole n : ℕ) →
        ((m : ℕ) (Rest : Type 0) (w : List ℤ) (c : List VarCopy) → length w ≡ size →
        AfterMove (Within k uses whole m) Rest n (statement_move o w c s)) →
        (m : ℕ) (w : List ℤ) (c : List VarCopy) → length w ≡ size → Within k uses whole m n (Run s) w c
    by_move s whole n h zero w c z = tt
    by_move s whole n h (suc m) w c z = λ path. h m (Rests k uses (Within k uses whole m) whole (Run s) w) w c z

    assigned_within : (whole m : ℕ) (Rest : Type 0) (w : List ℤ) (c : List VarCopy) (to : Spot) (x : ℤ) →
        AfterMove (Within k uses whole m) Rest 1 (assigned o w c to x)
    assigned_within whole m Rest w c (spot.Local slot) x = record { left = 0; fits = omega arith; goes = done_within k uses whole m 0 _ _ }
    assigned_within whole m Rest w c (spot.Variable v) x = record { left = 0; fits = omega arith; goes = done_within k uses whole m 0 _ _ }

    assigned_at_within : (whole m : ℕ) (Rest : Type 0) (w : List ℤ) (c : List VarCopy) (slot : ℕ) (i : Option ℕ) (x : ℤ) (place : Place) →
        AfterMove (Within k uses whole m) Rest 1 (assigned_at w c slot i x place)
    assigned_at_within whole m Rest w c slot (Some i) x place = record { left = 0; fits = omega arith; goes = done_within k uses whole m 0 _ _ }
    assigned_at_within whole m Rest w c slot None x place = omega arith

    shared_at_within : (whole m : ℕ) (Rest : Type 0) (w : List ℤ) (c : List VarCopy) (v : ℕ) (i : Option ℕ) (x : ℤ) (place : Place) →
        AfterMove (Within k uses whole m) Rest 1 (shared_at o w c v i x place)
    shared_at_within whole m Rest w c v (Some i) x place = assigned_within whole m Rest w c (spot.Variable (v + i)) x
    shared_at_within whole m Rest w c v None x place = omega arith

    started_within : (m : ℕ) (c : List VarCopy) (bs : List Branch) (lists : List (List ℤ)) → AllAbove t (threads_in bs) →
        AllWithin k m (bodies_bound thread (threads_in bs)) (bodies_bound thread (threads_in bs)) (started o c bs lists)
    started_within m c [] lists above = tt
    started_within m c (b ∷ bs) [] above = tt
    started_within m c (b ∷ bs) (ns ∷ lists) above =
        record {
          n1 = thread b.thread;
          n2 = bodies_bound thread (threads_in bs);
          whole1 = thread b.thread;
          whole2 = bodies_bound thread (threads_in bs);
          fits = omega arith;
          wholes = omega arith;
          one = branches b.thread above.0 m (fresh_words (take (params_of k b.thread) ns) (words_of k b.thread))
              (handed_down uses c (uses_of k b.thread)) (taken_length ns (params_of k b.thread) (words_of k b.thread) (params b.thread));
          more = started_within m c bs lists above.1;
        }

    forked_within : (m : ℕ) (Rest : Type 0) (w : List ℤ) (c : List VarCopy) (bs : List Branch) → AllAbove t (threads_in bs) →
        (args : Arguments) → args_units args ≤ args_bound f bs → Fit o c bs args →
        AfterMove (Within k uses (bnd (Par bs)) m) Rest (bnd (Par bs)) (forked o w c bs args)
    forked_within m Rest w c bs above (Ready lists u) h e =
        let bodies = bodies_bound thread (threads_in bs) in
        let join = join_bound k f (threads_in bs) uses in
        record {
          left = bodies + join;
          fits = omega arith;
          goes = within_more k uses (bodies + join) (bnd (Par bs)) (omega arith) m (bodies + join) (bodies + join) (Fork (started o c bs lists)) w c
              (omega arith) (fork_within k uses bodies (threads_in bs) m bodies (started o c bs lists) e (started_within m c bs lists above) w c);
        }
    forked_within m Rest w c bs above (Refused place trap u) h e = omega arith

    entered_within : (m n : ℕ) (whole : ℕ) (weak : Bool) (e : Expr) (body : Stmt) (x : ℤ) (w : List ℤ) (c : List VarCopy) →
        expr_bound f e + 1 + n ≤ whole → Within k uses n m n (text_of body) w c → Within k uses whole m n (entered_abort weak e body x) w c
    entered_within m n whole false e body x w c wholes h = pick (is_zero x)
      where
        pick : (b : Bool) → Within k uses whole m n (cond b (Watch false e (text_of body)) Done) w c
        pick true = watch_within k uses n whole e wholes m n n false (text_of body) w c (omega arith) h
        pick false = done_within k uses whole m n w c
    entered_within m n whole true e body x w c wholes h = pick (is_zero x)
      where
        pick : (b : Bool) → Within k uses whole m n (cond b (Watch true e (text_of body)) (Last (text_of body))) w c
        pick true = watch_within k uses n whole e wholes m n n true (text_of body) w c (omega arith) h
        pick false = last_within k uses n whole m n n (text_of body) w c (omega arith) h

    list_within : (b : ℕ) (R : RunningText) (rest : Stmts) → ((m : ℕ) (w : List ℤ) (c : List VarCopy) → length w ≡ size → Within k uses b m b R w c) →
        ((m : ℕ) (w : List ℤ) (c : List VarCopy) → length w ≡ size →
        Within k uses (stmts_bound k bs_of uses rest) m (stmts_bound k bs_of uses rest) (texts_of rest) w c) →
        (m : ℕ) (w : List ℤ) (c : List VarCopy) → length w ≡ size →
        Within k uses (b + stmts_bound k bs_of uses rest) m (b + stmts_bound k bs_of uses rest) (then_list R rest) w c
    list_within b R no_stmts h g m w c z = within_more k uses b (b + 0) (omega arith) m b (b + 0) R w c (omega arith) (h m w c z)
    list_within b R (more_stmts s rest) h g m w c z =
        let later = more_stmts s rest in
        let d = stmts_bound k bs_of uses later in
        then_within k uses size b (b + d) d (omega arith) m d (Go_on later)
        (λ w' c' z'. within_more k uses d (b + d) (omega arith) m d d (texts_of later) w' c' (omega arith) (g m w' c' z'))
        (λ w' c' z'. within_more k uses d (b + d) (omega arith) m d d (texts_of later) w' c' (omega arith) (g m w' c' z')) b R w c z (h m w c z)

    chosen : (whole m n : ℕ) (b : Bool) (R S : RunningText) (w : List ℤ) (c : List VarCopy) → Within k uses whole m n R w c → Within k uses whole m n S w c →
        Within k uses whole m n (cond b R S) w c
    chosen whole m n true R S w c h g = h
    chosen whole m n false R S w c h g = g

    mutual
      pub stmt_within : (s : Stmt) → PacedStmt k size uses s → EachAbove t (pars_of s) → (m : ℕ) (w : List ℤ) (c : List VarCopy) → length w ≡ size →
          Within k uses (bnd s) m (bnd s) (text_of s) w c
      stmt_within Nop paced above m w c z = done_within k uses 0 m 0 w c
      stmt_within (Set to e) paced above m w c z =
          let most = bnd (Set to e) in
          by_move (Set to e) most most
          (λ m' Rest w' c' z'. with_within (Within k uses most m') Rest (evaluated o w' c' e) (λ x. assigned o w' c' to x) (expr_bound f e) 1 most
          (evaluated_le k uses w' c' e) (λ x. assigned_within most m' Rest w' c' to x) (omega arith)) m w c z
      stmt_within (SetAt slot n i e place) paced above m w c z =
          let most = bnd (SetAt slot n i e place) in
          by_move (SetAt slot n i e place) most most
          (λ m' Rest w' c' z'. with_within (Within k uses most m') Rest (evaluated o w' c' i)
          (λ j. move_with (evaluated o w' c' e) (λ x. assigned_at w' c' slot (index_in n j) x place)) (expr_bound f i) (expr_bound f e + 1) most
          (evaluated_le k uses w' c' i)
          (λ j. with_within (Within k uses most m') Rest (evaluated o w' c' e) (λ x. assigned_at w' c' slot (index_in n j) x place) (expr_bound f e) 1
          (expr_bound f e + 1) (evaluated_le k uses w' c' e) (λ x. assigned_at_within most m' Rest w' c' slot (index_in n j) x place) (omega arith))
          (omega arith)) m w c z
      stmt_within (PutAt v n i e place) paced above m w c z =
          let most = bnd (PutAt v n i e place) in
          by_move (PutAt v n i e place) most most
          (λ m' Rest w' c' z'. with_within (Within k uses most m') Rest (evaluated o w' c' i)
          (λ j. move_with (evaluated o w' c' e) (λ x. shared_at o w' c' v (index_in n j) x place)) (expr_bound f i) (expr_bound f e + 1) most
          (evaluated_le k uses w' c' i)
          (λ j. with_within (Within k uses most m') Rest (evaluated o w' c' e) (λ x. shared_at o w' c' v (index_in n j) x place) (expr_bound f e) 1
          (expr_bound f e + 1) (evaluated_le k uses w' c' e) (λ x. shared_at_within most m' Rest w' c' v (index_in n j) x place) (omega arith))
          (omega arith)) m w c z
      stmt_within (Clear slot n) paced above m w c z =
          by_move (Clear slot n) n n (λ m' Rest w' c' z'. record { left = 0; fits = omega arith; goes = done_within k uses n m' 0 _ _ }) m w c z
      stmt_within (Seq list) paced above m w c z = stmts_within list paced above m w c z
      stmt_within (If e p q) paced above m w c z =
          let most = bnd (If e p q) in
          let side = max (bnd p) (bnd q) in
          let left = above_left t (pars_of p) (pars_of q) above in
          let right = above_right t (pars_of p) (pars_of q) above in
          by_move (If e p q) most most
          (λ m' Rest w' c' z'. with_within (Within k uses most m') Rest (evaluated o w' c' e)
          (λ x. Moves (cond (is_zero x) (text_of q) (text_of p)) w' c' 1) (expr_bound f e) (1 + side) most (evaluated_le k uses w' c' e)
          (λ x. record {
            left = side;
            fits = omega arith;
            goes = chosen most m' side (is_zero x) (text_of q) (text_of p) w' c'
                (within_more k uses (bnd q) most (omega arith) m' (bnd q) side (text_of q) w' c' (omega arith) (stmt_within q paced.1 right m' w' c' z'))
                (within_more k uses (bnd p) most (omega arith) m' (bnd p) side (text_of p) w' c' (omega arith) (stmt_within p paced.0 left m' w' c' z'));
          }) (omega arith)) m w c z
      stmt_within (While e (Some n) body place) paced above m w c z =
          let most = bnd (While e (Some n) body place) in
          let a = expr_bound f e in
          let b = bnd body in
          let rest = (n + 1) * (a + 1) + n * b in
          by_move (While e (Some n) body place) most most
          (λ m' Rest w' c' z'. record {
            left = rest;
            fits = omega arith;
            goes = within_more k uses (b + rest) most (omega arith) m' rest rest (Turning (record { test = e; bound = Some n; left = Some n; body = body; place = place }))
                w' c' (omega arith) (bounded_within k size uses e body place b (λ m'' w'' c'' z''. stmt_within body paced.1 above m'' w'' c'' z'') n m' n w' c' z');
          }) m w c z
      stmt_within (While e None body place) paced above m w c z =
          let most = bnd (While e None body place) in
          let a = expr_bound f e in
          let b = bnd body in
          by_move (While e None body place) most most
          (λ m' Rest w' c' z'. record {
            left = a + 1 + b;
            fits = omega arith;
            goes = unbounded_within k size uses e body place b (λ m'' w'' c'' z''. stmt_within body paced.1 above m'' w'' c'' z'') paced.0 m' w' c' z';
          }) m w c z
      stmt_within Pause paced above m w c z =
          by_move Pause 1 1 (λ m' Rest w' c' z'. record { left = 0; fits = omega arith; goes = resting_within k uses 1 m' 0 w' c' }) m w c z
      stmt_within (Par bs) paced above m w c z =
          by_move (Par bs) (bnd (Par bs)) (bnd (Par bs))
          (λ m' Rest w' c' z'. forked_within m' Rest w' c' bs above.0
          (arguments (setting k) (record { words = w'; uses = uses; copies = c' }) bs)
          (args_le k (record { words = w'; uses = uses; copies = c' }) bs)
          (fit o c' (setting k) (record { words = w'; uses = uses; copies = c' }) bs)) m w c z
      stmt_within (Enter weak false e body) paced above m w c z =
          let most = bnd (Enter weak false e body) in
          let b = bnd body in
          by_move (Enter weak false e body) most most
          (λ m' Rest w' c' z'. record {
            left = b;
            fits = omega arith;
            goes = watch_within k uses b most e (omega arith) m' b b weak (text_of body) w' c' (omega arith) (stmt_within body paced above m' w' c' z');
          }) m w c z
      stmt_within (Enter weak true e body) paced above m w c z =
          let most = bnd (Enter weak true e body) in
          let b = bnd body in
          by_move (Enter weak true e body) most most
          (λ m' Rest w' c' z'. with_within (Within k uses most m') Rest (evaluated o w' c' e) (λ x. Moves (entered_abort weak e body x) w' c' 1) (expr_bound f e)
          (1 + b) most (evaluated_le k uses w' c' e)
          (λ x. record {
            left = b;
            fits = omega arith;
            goes = entered_within m' b most weak e body x w' c' (omega arith) (stmt_within body paced above m' w' c' z');
          }) (omega arith)) m w c z
      stmt_within (Return e) paced above m w c z = by_move (Return e) (bnd (Return e)) (bnd (Return e)) (λ m' Rest w' c' z'. tt) m w c z

      pub stmts_within : (list : Stmts) → PacedStmts k size uses list → EachAbove t (pars_in list) → (m : ℕ) (w : List ℤ) (c : List VarCopy) → length w ≡ size →
          Within k uses (stmts_bound k bs_of uses list) m (stmts_bound k bs_of uses list) (texts_of list) w c
      stmts_within no_stmts paced above m w c z = done_within k uses 0 m 0 w c
      stmts_within (more_stmts s rest) paced above m w c z =
          list_within (bnd s) (text_of s) rest (λ m' w' c' z'. stmt_within s paced.0 (above_left t (pars_of s) (pars_in rest) above) m' w' c' z')
          (λ m' w' c' z'. stmts_within rest paced.1 (above_right t (pars_of s) (pars_in rest) above) m' w' c' z') m w c z

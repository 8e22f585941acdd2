-- Loops and aborts.
use Rattle.std.proofs.Common.{ℕ, zero, suc, ◌+◌, ◌*◌, ◌≤◌, ◌≡◌, ℤ, Bool, true, false, cond, Option, Some, None, List, length, arith}
use Rattle.forec_base.specs.Numbers.{is_zero}
use Rattle.forec_base.specs.declared.Place.{Place}
use Rattle.forec_kernel.specs.declared.shape.VarCopy.{VarCopy}
use Rattle.forec_kernel.specs.Terms.{Expr, Stmt}
use Rattle.forec_kernel.specs.Shapes.{PlainKernel}
use Rattle.forec_kernel.specs.Values.{setting}
use Rattle.forec_kernel.specs.Texts.{Loop, After, Again, RunningText, Done, Then, Turning, Watch, Last, text_of}
use Rattle.forec_kernel.specs.Steps.{evaluated, Move, Finished, Halts, Moves, Traps, turned_loop, move_before, move_watched, move_last, text_move, Woken, Wakes, more_woken, woken_in, refilled, watched_on, woken}
use Rattle.tick_bounds.specs.Bound.{expr_bound, function_bound}
use Rattle.bound_laws.specs.Paced.{KeepsOn, NotEnded, NeverEnds}
use Rattle.bound_laws.proofs.ValueBounds.{cost, val_le, call_le}
use Rattle.bound_laws.proofs.Lengths.{Keeps, keeps_size, move_keeps}
use Rattle.bound_laws.proofs.Within.{OfText, leaves_by, AfterWake, Rests, AfterMove, Within, wake_by, with_wake, more_wake, with_within, within_more, done_within, then_within, follows_fewer, Follows}

-- an expression of the kernel
pub evaluated_le : (k : PlainKernel) (uses : List ℕ) (words : List ℤ) (copies : List VarCopy) (e : Expr) →
    cost (evaluated (record { kernel = k; uses = uses }) words copies e) ≤ expr_bound (function_bound k) e
evaluated_le k uses words copies e =
    val_le (function_bound k) (setting k) (λ g ns. call_le k _ g ns) (record { words = words; uses = uses; copies = copies }) e

-- ---- a body that never ends in the tick of its start: what follows it costs nothing until the next wake

module _ (k : PlainKernel) (uses : List ℕ) (size whole whole' d' : ℕ) (wholes : whole + d' ≤ whole') where
  never_move : (m n : ℕ) (a : After) (R : RunningText) (words : List ℤ) → length words ≡ size →
      ((l : ℕ) (S : RunningText) (w : List ℤ) (c : List VarCopy) → length w ≡ size → KeepsOn k uses m S w c → Within k uses whole m l S w c → Within k uses whole' m l (Then S a) w c) →
      ((l : ℕ) (S : RunningText) (w : List ℤ) (c : List VarCopy) → length w ≡ size → Within k uses whole m l S w c →
      Within k uses whole' m (l + d') (Then S (refilled a)) w c) →
      (copies : List VarCopy) (mv : Move) → Keeps size mv → NotEnded (KeepsOn k uses m) mv →
      AfterMove (Within k uses whole m) (Rests k uses (Within k uses whole m) whole R words) n mv →
      AfterMove (Within k uses whole' m) (Rests k uses (Within k uses whole' m) whole' (Then R a) words) n (move_before a words copies mv)
  never_move m n a R words e ih ih' copies Finished size_kept keeps h = absurd keeps
  never_move m n a R words e ih ih' copies Halts size_kept keeps h =
      λ c. wake_by (Within k uses whole m) (Within k uses whole' m) whole whole' d' (λ S. Then S (refilled a)) words c (woken k uses words c R) wholes
      (λ l S x. ih' l S words c e x) (h c)
  never_move m n a R words e ih ih' copies (Moves S w c u) size_kept keeps h =
      record { left = h.left; fits = h.fits; goes = ih h.left S w c size_kept keeps h.goes }
  never_move m n a R words e ih ih' copies (Traps place trap u) size_kept keeps h = h

  pub never_within : (m n : ℕ) (loop : Loop) → Follows k uses size whole whole' m d' (Again (record loop { left = loop.bound })) →
      (R : RunningText) (words : List ℤ) (copies : List VarCopy) → length words ≡ size → KeepsOn k uses m R words copies → Within k uses whole m n R words copies →
      Within k uses whole' m n (Then R (Again loop)) words copies
  never_within zero n loop next R words copies e keeps h = tt
  never_within (suc m) n loop next R words copies e keeps h =
      let again : Loop = record loop { left = loop.bound } in
      let f = follows_fewer k uses size whole whole' m d' (Again again) next in
      λ path. never_move m n (Again loop) R words e
      (λ l S w c s ks x. never_within m l loop f S w c s ks x)
      (λ l S w c s x. then_within k uses size whole whole' d' wholes m d' (Again again) f f l S w c s x)
      copies (text_move k path uses words copies R)
      (keeps_size (length words) size e (text_move k path uses words copies R) (move_keeps k path uses words copies R)) (keeps path) (h path)

-- ---- loops: a is the bound of the test, b that of the body

module _ (k : PlainKernel) (size : ℕ) (uses : List ℕ) (e : Expr) (body : Stmt) (place : Place) (b : ℕ)
    (starts : (m : ℕ) (w : List ℤ) (c : List VarCopy) → length w ≡ size → Within k uses b m b (text_of body) w c)
  where
    abbrev a : ℕ
    a = expr_bound (function_bound k) e

    abbrev pub turning : Option ℕ → Option ℕ → Loop
    turning bound left = record { test = e; bound = bound; left = left; body = body; place = place }

    after_test : (N : OfText) (Rest : Type 0) (n : ℕ) (w : List ℤ) (c : List VarCopy) (bound left : Option ℕ) (t : Bool) →
        ((l : ℕ) (w : List ℤ) (c : List VarCopy) → N l Done w c) → 1 ≤ n → AfterMove N Rest n (turned_loop (turning bound left) left w c) →
        AfterMove N Rest n (elim t [ true ↦ Moves Done w c 1 | false ↦ turned_loop (turning bound left) left w c ])
    after_test N Rest n w c bound left true done fits h = record { left = 0; fits = omega arith; goes = done 0 w c }
    after_test N Rest n w c bound left false done fits h = h

    -- with l turns left there are l + 1 tests and l bodies; a wake gives n turns to what follows the body's rest
    abbrev pub rest_of : ℕ → ℕ
    rest_of l = (l + 1) * (a + 1) + l * b

    module _ (n : ℕ) where
      abbrev pub most : ℕ
      most = b + rest_of n

      bounded_turn : (m l : ℕ) (w : List ℤ) (c : List VarCopy) (Rest : Type 0) → length w ≡ size →
          ((l : ℕ) (w : List ℤ) (c : List VarCopy) → length w ≡ size → Within k uses most m (rest_of l) (Turning (turning (Some n) (Some l))) w c) →
          AfterMove (Within k uses most m) Rest (1 + l * (a + 1 + b)) (turned_loop (turning (Some n) (Some l)) (Some l) w c)
      bounded_turn m zero w c Rest s ih = omega arith
      bounded_turn m (suc l) w c Rest s ih =
          record {
            left = b + rest_of l;
            fits = omega arith;
            goes = then_within k uses size b most (rest_of n) (omega arith) m (rest_of l) (Again (turning (Some n) (Some l))) (λ w' c' s'. ih l w' c' s')
                (λ w' c' s'. ih n w' c' s') b (text_of body) w c s (starts m w c s);
          }

      pub bounded_within : (m l : ℕ) (w : List ℤ) (c : List VarCopy) → length w ≡ size → Within k uses most m (rest_of l) (Turning (turning (Some n) (Some l))) w c
      bounded_within zero l w c s = tt
      bounded_within (suc m) l w c s =
          let Rest = Rests k uses (Within k uses most m) most (Turning (turning (Some n) (Some l))) w in
          λ path. with_within (Within k uses most m) Rest (evaluated (record { kernel = k; uses = uses }) w c e)
          (λ x. elim (is_zero x) [ true ↦ Moves Done w c 1 | false ↦ turned_loop (turning (Some n) (Some l)) (Some l) w c ]) a (1 + l * (a + 1 + b))
          (rest_of l) (evaluated_le k uses w c e)
          (λ x. after_test (Within k uses most m) Rest (1 + l * (a + 1 + b)) w c (Some n) (Some l) (is_zero x)
          (λ i w' c'. done_within k uses most m i w' c') (omega arith)
          (bounded_turn m l w c Rest s (λ l' w' c' s'. bounded_within m l' w' c' s'))) (omega arith)

    -- without a bound: once the body was started, it goes on to the next tick
    abbrev pub twice : ℕ
    twice = 2 * (a + 1 + b)

    module _ (paced : NeverEnds k size uses body) where
      pub unbounded_within : (m : ℕ) (w : List ℤ) (c : List VarCopy) → length w ≡ size → Within k uses twice m (a + 1 + b) (Turning (turning None None)) w c
      unbounded_within zero w c s = tt
      unbounded_within (suc m) w c s =
          let Rest = Rests k uses (Within k uses twice m) twice (Turning (turning None None)) w in
          λ path. with_within (Within k uses twice m) Rest (evaluated (record { kernel = k; uses = uses }) w c e)
          (λ x. elim (is_zero x) [ true ↦ Moves Done w c 1 | false ↦ turned_loop (turning None None) None w c ]) a (1 + b) (a + 1 + b)
          (evaluated_le k uses w c e)
          (λ x. after_test (Within k uses twice m) Rest (1 + b) w c None None (is_zero x) (λ i w' c'. done_within k uses twice m i w' c') (omega arith)
          (record {
            left = b;
            fits = omega arith;
            goes = never_within k uses size b twice (a + 1 + b) (omega arith) m b (turning None None) (λ w' c' s'. unbounded_within m w' c' s')
                (text_of body) w c s (paced m w c s) (starts m w c s);
          })) (omega arith)

-- ---- aborts

module _ (k : PlainKernel) (uses : List ℕ) (whole whole' : ℕ) where
  last_move : (m n : ℕ) (R : RunningText) (words : List ℤ) (copies : List VarCopy) →
      ((l : ℕ) (S : RunningText) (w : List ℤ) (c : List VarCopy) → Within k uses whole m l S w c → Within k uses whole' m (l + 0) (Last S) w c) →
      (mv : Move) → AfterMove (Within k uses whole m) (Rests k uses (Within k uses whole m) whole R words) n mv →
      AfterMove (Within k uses whole' m) (Rests k uses (Within k uses whole' m) whole' (Last R) words) n (move_last words copies mv)
  last_move m n R words copies ih Finished h = record { left = 0; fits = omega arith; goes = done_within k uses whole' m 0 words copies }
  last_move m n R words copies ih Halts h = record { left = 0; fits = omega arith; goes = done_within k uses whole' m 0 words copies }
  last_move m n R words copies ih (Moves S w c u) h =
      leaves_by (Within k uses whole m) (Within k uses whole' m) n n u 0 S (Last S) w c (omega arith) (λ l x. ih l S w c x) h
  last_move m n R words copies ih (Traps place trap u) h = h

  pub last_within : (m n n' : ℕ) (R : RunningText) (words : List ℤ) (copies : List VarCopy) → n ≤ n' → Within k uses whole m n R words copies →
      Within k uses whole' m n' (Last R) words copies
  last_within zero n n' R words copies fits h = tt
  last_within (suc m) n n' R words copies fits h =
      λ path. last_move m n' R words copies (λ l S w c x. last_within m l (l + 0) S w c (omega arith) x)
      (text_move k path uses words copies R) (within_more k uses whole whole (omega arith) (suc m) n n' R words copies fits h path)

  module _ (e : Expr) (wholes : expr_bound (function_bound k) e + 1 + whole ≤ whole') where
    watch_wake : (m : ℕ) (weak : Bool) (words : List ℤ) (copies : List VarCopy) (x : ℤ) (zero_test : Bool) (r : Woken) →
        ((l : ℕ) (S : RunningText) (w : List ℤ) (c : List VarCopy) → Within k uses whole m l S w c → Within k uses whole' m (l + 0) (Watch weak e S) w c) →
        AfterWake (Within k uses whole m) whole words copies r →
        AfterWake (Within k uses whole' m) whole words copies (watched_on weak e x r)
    watch_wake m false words copies x zero_test r ih h = pick (is_zero x)
      where
        pick : (t : Bool) → AfterWake (Within k uses whole' m) whole words copies (cond t (woken_in (Watch false e) r) (Wakes Done 0))
        pick true =
            wake_by (Within k uses whole m) (Within k uses whole' m) whole whole 0 (Watch false e) words copies r (omega arith)
            (λ l S y. ih l S words copies y) h
        pick false = record { left = 0; fits = omega arith; goes = done_within k uses whole' m 0 words copies }
    watch_wake m true words copies x zero_test r ih h = pick (is_zero x)
      where
        pick : (t : Bool) → AfterWake (Within k uses whole' m) whole words copies (cond t (woken_in (Watch true e) r) (woken_in Last r))
        pick true =
            wake_by (Within k uses whole m) (Within k uses whole' m) whole whole 0 (Watch true e) words copies r (omega arith)
            (λ l S y. ih l S words copies y) h
        pick false =
            wake_by (Within k uses whole m) (Within k uses whole' m) whole whole 0 Last words copies r (omega arith)
            (λ l S y. last_within m l (l + 0) S words copies (omega arith) y) h

    watch_move : (m n : ℕ) (weak : Bool) (R : RunningText) (words : List ℤ) (copies : List VarCopy) →
        ((l : ℕ) (S : RunningText) (w : List ℤ) (c : List VarCopy) → Within k uses whole m l S w c → Within k uses whole' m (l + 0) (Watch weak e S) w c) →
        (mv : Move) → AfterMove (Within k uses whole m) (Rests k uses (Within k uses whole m) whole R words) n mv →
        AfterMove (Within k uses whole' m) (Rests k uses (Within k uses whole' m) whole' (Watch weak e R) words) n (move_watched weak e words copies mv)
    watch_move m n weak R words copies ih Finished h = record { left = 0; fits = omega arith; goes = done_within k uses whole' m 0 words copies }
    watch_move m n weak R words copies ih Halts h =
        λ c. with_wake (Within k uses whole' m) (evaluated (record { kernel = k; uses = uses }) words c e)
        (λ x. more_woken 1 (watched_on weak e x (woken k uses words c R))) (expr_bound (function_bound k) e) (1 + whole) whole' words c
        (evaluated_le k uses words c e)
        (λ x. more_wake (Within k uses whole' m) 1 whole (1 + whole) words c (watched_on weak e x (woken k uses words c R))
        (watch_wake m weak words c x (is_zero x) (woken k uses words c R) ih (h c)) (omega arith)) (omega arith)
    watch_move m n weak R words copies ih (Moves S w c u) h =
        leaves_by (Within k uses whole m) (Within k uses whole' m) n n u 0 S (Watch weak e S) w c (omega arith) (λ l x. ih l S w c x) h
    watch_move m n weak R words copies ih (Traps place trap u) h = h

    pub watch_within : (m n n' : ℕ) (weak : Bool) (R : RunningText) (words : List ℤ) (copies : List VarCopy) → n ≤ n' →
        Within k uses whole m n R words copies → Within k uses whole' m n' (Watch weak e R) words copies
    watch_within zero n n' weak R words copies fits h = tt
    watch_within (suc m) n n' weak R words copies fits h =
        λ path. watch_move m n' weak R words copies (λ l S w c x. watch_within m l (l + 0) weak S w c (omega arith) x)
        (text_move k path uses words copies R) (within_more k uses whole whole (omega arith) (suc m) n n' R words copies fits h path)

-- Forks: each branch costs at most its bound, and joining them at most the join's.
use Rattle.std.proofs.Common.{ℕ, zero, suc, ◌+◌, ◌≤◌, ◌≡◌, ℤ, Bool, true, false, cond, Option, Some, None, List, ◌∷◌, refl, ap, subst, ◌∙◌, arith}
use Rattle.forec_base.specs.declared.Place.{Place}
use Rattle.forec_base.specs.declared.Trap.{Trap}
use Rattle.forec_kernel.specs.declared.shape.VarCopy.{VarCopy}
use Rattle.forec_kernel.specs.Shapes.{PlainKernel}
use Rattle.forec_kernel.specs.Texts.{Status, Running, Paused, Ended, Gone, Trapped, RunningText, Done, Fork, Held, Threads, no_threads, child, child_of, some_running, all_over, runs_at, first_trap, ended_are_gone, handed_down, uses_of}
use Rattle.forec_kernel.specs.Combining.{Cost, Costs, Fails, join_cost}
use Rattle.forec_kernel.specs.Steps.{Path, Move, Finished, Halts, Moves, Traps, joined, combined, thread_after, move_units, SteppedChildren, child_place, path_below, text_move, child_move, Woken, Wakes, Stays, text_if, status_of, waking_units, woken, woken_children}
use Rattle.forec_kernel.proofs.Measure.{place_runs}
use Rattle.tick_bounds.specs.Bound.{join_bound, function_bound}
use Rattle.bound_laws.proofs.Within.{Leaves, AfterWake, Rests, AfterMove, Within, rests_more, within_more, within_fewer, done_within}
use Rattle.bound_laws.proofs.Joins.{numbers, join_units, join_le}

-- ---- children

-- a child, by its status: what it costs in this tick, and in later ones
abbrev pub ChildWithin : PlainKernel → ℕ → ℕ → ℕ → ℕ → RunningText → List ℤ → List VarCopy → Status → Type 0
ChildWithin k m n whole t R w c Running = Within k (uses_of k t) whole m n R w c
ChildWithin k m n whole t R w c Paused = Rests k (uses_of k t) (Within k (uses_of k t) whole m) whole R w
ChildWithin k m n whole t R w c Ended = Unit {0}
ChildWithin k m n whole t R w c Gone = Unit {0}
ChildWithin k m n whole t R w c (Trapped place trap) = Unit {0}

-- units of this tick and of later ones, shared between the first child and the others
pub record Shared (n whole : ℕ) (One More : ℕ → ℕ → Type 0) : Type 0 where
  pub n1 : ℕ
  pub n2 : ℕ
  pub whole1 : ℕ
  pub whole2 : ℕ
  pub fits : n1 + n2 ≤ n
  pub wholes : whole1 + whole2 ≤ whole
  pub one : One n1 whole1
  pub more : More n2 whole2

share_alike : {n whole : ℕ} {One One' More More' : ℕ → ℕ → Type 0} → ((n1 whole1 : ℕ) → One n1 whole1 → One' n1 whole1) →
    ((n2 whole2 : ℕ) → More n2 whole2 → More' n2 whole2) → Shared n whole One More → Shared n whole One' More'
share_alike f g h =
    record {
      n1 = h.n1;
      n2 = h.n2;
      whole1 = h.whole1;
      whole2 = h.whole2;
      fits = h.fits;
      wholes = h.wholes;
      one = f h.n1 h.whole1 h.one;
      more = g h.n2 h.whole2 h.more;
    }

abbrev pub AllWithin : PlainKernel → ℕ → ℕ → ℕ → Threads → Type 0
AllWithin k m n whole no_threads = Unit {0}
AllWithin k m n whole (child t R w c st rest) =
    Shared n whole (λ n1 whole1. ChildWithin k m n1 whole1 t R w c st) (λ n2 whole2. AllWithin k m n2 whole2 rest)

-- children that have come to rest: each is paused or gone
abbrev pub ChildRests : PlainKernel → ℕ → ℕ → ℕ → RunningText → List ℤ → Status → Type 0
ChildRests k m whole t R w Running = ⊥
ChildRests k m whole t R w Paused = Rests k (uses_of k t) (Within k (uses_of k t) whole m) whole R w
ChildRests k m whole t R w Ended = ⊥
ChildRests k m whole t R w Gone = Unit {0}
ChildRests k m whole t R w (Trapped place trap) = ⊥

abbrev pub AllRest : PlainKernel → ℕ → ℕ → Threads → Type 0
AllRest k m whole no_threads = Unit {0}
AllRest k m whole (child t R w c st rest) =
    Shared 0 whole (λ n1 whole1. ChildRests k m whole1 t R w st) (λ n2 whole2. AllRest k m whole2 rest)

rests_fewer : (k : PlainKernel) (uses : List ℕ) (m whole : ℕ) (R : RunningText) (w : List ℤ) → Rests k uses (Within k uses whole (suc m)) whole R w →
    Rests k uses (Within k uses whole m) whole R w
rests_fewer k uses m whole R w h =
    rests_more k uses (Within k uses whole (suc m)) (Within k uses whole m) whole whole (omega arith)
    (λ l S v c x. within_more k uses whole whole (omega arith) m l (l + 0) S v c (omega arith) (within_fewer k uses whole m l S v c x)) R w h

child_fewer : (k : PlainKernel) (m n whole t : ℕ) (R : RunningText) (w : List ℤ) (c : List VarCopy) (st : Status) →
    ChildWithin k (suc m) n whole t R w c st → ChildWithin k m n whole t R w c st
child_fewer k m n whole t R w c Running h = within_fewer k (uses_of k t) whole m n R w c h
child_fewer k m n whole t R w c Paused h = rests_fewer k (uses_of k t) m whole R w h
child_fewer k m n whole t R w c Ended h = tt
child_fewer k m n whole t R w c Gone h = tt
child_fewer k m n whole t R w c (Trapped place trap) h = tt

all_fewer : (k : PlainKernel) (m n whole : ℕ) (cs : Threads) → AllWithin k (suc m) n whole cs → AllWithin k m n whole cs
all_fewer k m n whole no_threads h = tt
all_fewer k m n whole (child t R w c st rest) h =
    share_alike (λ n1 whole1 x. child_fewer k m n1 whole1 t R w c st x) (λ n2 whole2 x. all_fewer k m n2 whole2 rest x) h

rest_fewer : (k : PlainKernel) (m whole t : ℕ) (R : RunningText) (w : List ℤ) (st : Status) → ChildRests k (suc m) whole t R w st →
    ChildRests k m whole t R w st
rest_fewer k m whole t R w Running h = h
rest_fewer k m whole t R w Paused h = rests_fewer k (uses_of k t) m whole R w h
rest_fewer k m whole t R w Ended h = h
rest_fewer k m whole t R w Gone h = tt
rest_fewer k m whole t R w (Trapped place trap) h = h

all_rest_fewer : (k : PlainKernel) (m whole : ℕ) (cs : Threads) → AllRest k (suc m) whole cs → AllRest k m whole cs
all_rest_fewer k m whole no_threads h = tt
all_rest_fewer k m whole (child t R w c st rest) h =
    share_alike (λ n1 whole1 x. rest_fewer k m whole1 t R w st x) (λ n2 whole2 x. all_rest_fewer k m whole2 rest x) h

-- ---- a step of one child

pub record AllLeft (k : PlainKernel) (m most whole : ℕ) (s : SteppedChildren) : Type 0 where
  pub left : ℕ
  pub fits : s.units + left ≤ most
  pub goes : AllWithin k m left whole s.children

one_step : (k : PlainKernel) (m n n1 n2 whole whole1 whole2 t : ℕ) (R : RunningText) (w : List ℤ) (c : List VarCopy) (rest : Threads) →
    n1 + n2 ≤ n → whole1 + whole2 ≤ whole → AllWithin k m n2 whole2 rest → (mv : Move) →
    AfterMove (Within k (uses_of k t) whole1 m) (Rests k (uses_of k t) (Within k (uses_of k t) whole1 m) whole1 R w) n1 mv →
    AllLeft k m n whole
    (record {
      children = child_of (thread_after (record { number = t; text = R; words = w; copies = c; status = Running }) mv) rest;
      units = move_units mv;
    })
one_step k m n n1 n2 whole whole1 whole2 t R w c rest fits wholes more Finished h =
    record {
      left = n2;
      fits = omega arith;
      goes = record { n1 = 0; n2 = n2; whole1 = 0; whole2 = whole2; fits = omega arith; wholes = omega arith; one = tt; more = more };
    }
one_step k m n n1 n2 whole whole1 whole2 t R w c rest fits wholes more Halts h =
    record {
      left = n2;
      fits = omega arith;
      goes = record { n1 = 0; n2 = n2; whole1 = whole1; whole2 = whole2; fits = omega arith; wholes = wholes; one = h; more = more };
    }
one_step k m n n1 n2 whole whole1 whole2 t R w c rest fits wholes more (Moves R' w' c' u) h =
    let within = h.fits in
    record {
      left = h.left + n2;
      fits = omega arith;
      goes = record { n1 = h.left; n2 = n2; whole1 = whole1; whole2 = whole2; fits = omega arith; wholes = wholes; one = h.goes; more = more };
    }
one_step k m n n1 n2 whole whole1 whole2 t R w c rest fits wholes more (Traps place trap u) h =
    record {
      left = n2;
      fits = omega arith;
      goes = record { n1 = 0; n2 = n2; whole1 = 0; whole2 = whole2; fits = omega arith; wholes = omega arith; one = tt; more = more };
    }

children_step : (k : PlainKernel) (m n whole : ℕ) (path : Path) (i : ℕ) (cs : Threads) → AllWithin k (suc m) n whole cs →
    runs_at i cs ≡ true → AllLeft k m n whole (child_move k path i cs)
children_step k m n whole path i no_threads h e = cc
children_step k m n whole path zero (child t R w c Running rest) h e =
    one_step k m n h.n1 h.n2 whole h.whole1 h.whole2 t R w c rest h.fits h.wholes (all_fewer k m h.n2 h.whole2 rest h.more)
    (text_move k path (uses_of k t) w c R) (h.one path)
children_step k m n whole path zero (child t R w c Paused rest) h e = cc
children_step k m n whole path zero (child t R w c Ended rest) h e = cc
children_step k m n whole path zero (child t R w c Gone rest) h e = cc
children_step k m n whole path zero (child t R w c (Trapped place trap) rest) h e = cc
children_step k m n whole path (suc i) (child t R w c st rest) h e =
    let r = children_step k m h.n2 h.whole2 path i rest h.more e in
    let fits = r.fits in
    let both = h.fits in
    record {
      left = h.n1 + r.left;
      fits = omega arith;
      goes = record {
        n1 = h.n1;
        n2 = r.left;
        whole1 = h.whole1;
        whole2 = h.whole2;
        fits = omega arith;
        wholes = h.wholes;
        one = child_fewer k m h.n1 h.whole1 t R w c st h.one;
        more = r.goes;
      };
    }

-- ---- coming to rest

rests_so : (k : PlainKernel) (m : ℕ) {n whole : ℕ} {One More : ℕ → ℕ → Type 0} (h : Shared n whole One More) (b : ℕ) (R : RunningText) (w : List ℤ) (c : List VarCopy) (st : Status) (rest : Threads) →
    ChildRests k m h.whole1 b R w st → AllRest k m h.whole2 rest → AllRest k m whole (child b R w c st rest)
rests_so k m h b R w c st rest one more = record { n1 = 0; n2 = 0; whole1 = h.whole1; whole2 = h.whole2; fits = omega arith; wholes = h.wholes; one = one; more = more }

rests_by : (k : PlainKernel) (m n whole : ℕ) (cs : Threads) → AllWithin k m n whole cs → some_running cs ≡ false → first_trap cs ≡ None →
    AllRest k m whole (ended_are_gone cs)
rests_by k m n whole no_threads h e t = tt
rests_by k m n whole (child b R w c Running rest) h e t = cc
rests_by k m n whole (child b R w c Paused rest) h e t = rests_so k m h b R w c Paused (ended_are_gone rest) h.one (rests_by k m h.n2 h.whole2 rest h.more e t)
rests_by k m n whole (child b R w c Ended rest) h e t = rests_so k m h b R w c Gone (ended_are_gone rest) tt (rests_by k m h.n2 h.whole2 rest h.more e t)
rests_by k m n whole (child b R w c Gone rest) h e t = rests_so k m h b R w c Gone (ended_are_gone rest) tt (rests_by k m h.n2 h.whole2 rest h.more e t)
rests_by k m n whole (child b R w c (Trapped place trap) rest) h e t = cc

-- ---- waking

one_wakes : (k : PlainKernel) (m whole whole1 whole2 t : ℕ) (R : RunningText) (w : List ℤ) (c : List VarCopy) (s : SteppedChildren) →
    whole1 + whole2 ≤ whole → AllLeft k m whole2 whole2 s → (r : Woken) → AfterWake (Within k (uses_of k t) whole1 m) whole1 w c r →
    AllLeft k m whole whole (record { children = child t (text_if R r) w c (status_of r) s.children; units = waking_units r + s.units })
one_wakes k m whole whole1 whole2 t R w c s wholes more (Wakes R' u) h =
    let fits = h.fits in
    let others = more.fits in
    record {
      left = h.left + more.left;
      fits = omega arith;
      goes = record {
        n1 = h.left;
        n2 = more.left;
        whole1 = whole1;
        whole2 = whole2;
        fits = omega arith;
        wholes = wholes;
        one = h.goes;
        more = more.goes;
      };
    }
one_wakes k m whole whole1 whole2 t R w c s wholes more (Stays place trap u) h =
    let others = more.fits in
    record {
      left = more.left;
      fits = omega arith;
      goes = record {
        n1 = 0;
        n2 = more.left;
        whole1 = whole1;
        whole2 = whole2;
        fits = omega arith;
        wholes = wholes;
        one = tt;
        more = more.goes;
      };
    }

all_wake : (k : PlainKernel) (m whole : ℕ) (uses : List ℕ) (copies : List VarCopy) (cs : Threads) → AllRest k m whole cs →
    AllLeft k m whole whole (woken_children k uses copies cs)
all_wake k m whole uses copies no_threads h = record { left = 0; fits = omega arith; goes = tt }
all_wake k m whole uses copies (child t R w c Running rest) h = absurd h.one
all_wake k m whole uses copies (child t R w c Paused rest) h =
    let c' = handed_down uses copies (uses_of k t) in
    one_wakes k m whole h.whole1 h.whole2 t R w c' (woken_children k uses copies rest) h.wholes
    (all_wake k m h.whole2 uses copies rest h.more) (woken k (uses_of k t) w c' R) (h.one c')
all_wake k m whole uses copies (child t R w c Ended rest) h = absurd h.one
all_wake k m whole uses copies (child t R w c Gone rest) h =
    let r = all_wake k m h.whole2 uses copies rest h.more in
    let fits = r.fits in
    let both = h.wholes in
    record {
      left = r.left;
      fits = omega arith;
      goes = record {
        n1 = 0;
        n2 = r.left;
        whole1 = h.whole1;
        whole2 = h.whole2;
        fits = omega arith;
        wholes = h.wholes;
        one = tt;
        more = r.goes;
      };
    }
all_wake k m whole uses copies (child t R w c (Trapped place trap) rest) h = absurd h.one

-- ---- the children's numbers stay

numbers_after : (k : PlainKernel) (t : ℕ) (R : RunningText) (w : List ℤ) (c : List VarCopy) (rest : Threads) (mv : Move) →
    numbers (child_of (thread_after (record { number = t; text = R; words = w; copies = c; status = Running }) mv) rest) ≡ t ∷ numbers rest
numbers_after k t R w c rest Finished = refl
numbers_after k t R w c rest Halts = refl
numbers_after k t R w c rest (Moves R' w' c' u) = refl
numbers_after k t R w c rest (Traps place trap u) = refl

numbers_step : (k : PlainKernel) (path : Path) (i : ℕ) (cs : Threads) → runs_at i cs ≡ true → numbers (child_move k path i cs).children ≡ numbers cs
numbers_step k path i no_threads e = cc
numbers_step k path zero (child t R w c Running rest) e = numbers_after k t R w c rest (text_move k path (uses_of k t) w c R)
numbers_step k path zero (child t R w c Paused rest) e = cc
numbers_step k path zero (child t R w c Ended rest) e = cc
numbers_step k path zero (child t R w c Gone rest) e = cc
numbers_step k path zero (child t R w c (Trapped place trap) rest) e = cc
numbers_step k path (suc i) (child t R w c st rest) e = ap (λ ns. t ∷ ns) (numbers_step k path i rest e)

numbers_gone : (cs : Threads) → numbers (ended_are_gone cs) ≡ numbers cs
numbers_gone no_threads = refl
numbers_gone (child t R w c st rest) = ap (λ ns. t ∷ ns) (numbers_gone rest)

numbers_wake : (k : PlainKernel) (uses : List ℕ) (copies : List VarCopy) (cs : Threads) → numbers (woken_children k uses copies cs).children ≡ numbers cs
numbers_wake k uses copies no_threads = refl
numbers_wake k uses copies (child t R w c Running rest) = ap (λ ns. t ∷ ns) (numbers_wake k uses copies rest)
numbers_wake k uses copies (child t R w c Paused rest) = ap (λ ns. t ∷ ns) (numbers_wake k uses copies rest)
numbers_wake k uses copies (child t R w c Ended rest) = ap (λ ns. t ∷ ns) (numbers_wake k uses copies rest)
numbers_wake k uses copies (child t R w c Gone rest) = ap (λ ns. t ∷ ns) (numbers_wake k uses copies rest)
numbers_wake k uses copies (child t R w c (Trapped place trap) rest) = ap (λ ns. t ∷ ns) (numbers_wake k uses copies rest)

-- ---- forks

module _ (k : PlainKernel) (uses : List ℕ) (whole : ℕ) (ts : List ℕ) where
  abbrev joint : ℕ
  joint = join_bound k (function_bound k) ts uses

  abbrev pub Forked : ℕ → ℕ → Threads → Type 0
  Forked m n cs = (words : List ℤ) (copies : List VarCopy) → Within k uses (whole + joint) m (n + joint) (Fork cs) words copies

  -- a held fork: it wakes as a fork
  held_within : (m : ℕ) → ((n : ℕ) (cs : Threads) → numbers cs ≡ ts → AllWithin k m n whole cs → Forked m n cs) → (cs : Threads) → numbers cs ≡ ts →
      AllRest k m whole cs → (words : List ℤ) → Rests k uses (Within k uses (whole + joint) m) (whole + joint) (Held cs) words
  held_within m ih cs e h words =
      λ c. let r = all_wake k m whole uses c cs h in
      let fits = r.fits in
      record {
        left = r.left + joint;
        fits = omega arith;
        goes = ih r.left (woken_children k uses c cs).children (numbers_wake k uses c cs ∙ e) r.goes words c;
      }

  after_join : (m n : ℕ) (words : List ℤ) (copies : List VarCopy) (cs : Threads) (Rest : Type 0) →
      ((words : List ℤ) (copies : List VarCopy) → Within k uses (whole + joint) m 0 (Held (ended_are_gone cs)) words copies) → (c : Cost) →
      join_units c ≤ joint → AfterMove (Within k uses (whole + joint) m) Rest (n + joint) (combined (record { kernel = k; uses = uses }) words copies cs c)
  after_join m n words copies cs Rest held (Costs u) h = pick (all_over cs) _
    where
      pick : (b : Bool) (copies' : List VarCopy) →
          Leaves (Within k uses (whole + joint) m) (n + joint) u (cond b Done (Held (ended_are_gone cs))) words copies'
      pick true copies' = record { left = 0; fits = omega arith; goes = done_within k uses (whole + joint) m 0 words copies' }
      pick false copies' = record { left = 0; fits = omega arith; goes = held words copies' }
  after_join m n words copies cs Rest held (Fails place trap u) h = omega arith

  joined_within : (m n : ℕ) (words : List ℤ) (copies : List VarCopy) (cs : Threads) (Rest : Type 0) → numbers cs ≡ ts → (t : Option (Place × Trap)) →
      (t ≡ None → (words : List ℤ) (copies : List VarCopy) → Within k uses (whole + joint) m 0 (Held (ended_are_gone cs)) words copies) →
      AfterMove (Within k uses (whole + joint) m) Rest (n + joint) (joined (record { kernel = k; uses = uses }) words copies cs t)
  joined_within m n words copies cs Rest e (Some p) held = omega arith
  joined_within m n words copies cs Rest e None held =
      after_join m n words copies cs Rest (held refl) (join_cost k cs uses copies)
      (subst (λ ns. join_units (join_cost k cs uses copies) ≤ join_bound k (function_bound k) ns uses) e (join_le k cs uses copies))

  fork_move : (m n : ℕ) (path : Path) (words : List ℤ) (copies : List VarCopy) (cs : Threads) (Rest : Type 0) → numbers cs ≡ ts →
      ((n : ℕ) (cs : Threads) → numbers cs ≡ ts → AllWithin k m n whole cs → Forked m n cs) →
      (some_running cs ≡ false → first_trap cs ≡ None → (words : List ℤ) (copies : List VarCopy) →
      Within k uses (whole + joint) m 0 (Held (ended_are_gone cs)) words copies) → AllWithin k (suc m) n whole cs →
      (b : Bool) → some_running cs ≡ b →
      AfterMove (Within k uses (whole + joint) m) Rest (n + joint)
      (elim b [
        | true ↦
            let s = child_move k (path_below path cs) (child_place path cs) cs in Moves (Fork s.children) words copies s.units
        | false ↦ joined (record { kernel = k; uses = uses }) words copies cs (first_trap cs)
      ])
  fork_move m n path words copies cs Rest e ih held h true r =
      let runs = place_runs path cs r in
      let s = children_step k m n whole (path_below path cs) (child_place path cs) cs h runs in
      let fits = s.fits in
      record {
        left = s.left + joint;
        fits = omega arith;
        goes = ih s.left (child_move k (path_below path cs) (child_place path cs) cs).children
            (numbers_step k (path_below path cs) (child_place path cs) cs runs ∙ e) s.goes words copies;
      }
  fork_move m n path words copies cs Rest e ih held h false r =
      joined_within m n words copies cs Rest e (first_trap cs) (λ t. held r t)

  pub fork_within : (m n : ℕ) (cs : Threads) → numbers cs ≡ ts → AllWithin k m n whole cs → Forked m n cs
  fork_within zero n cs e h = λ words copies. tt
  fork_within (suc zero) n cs e h =
      λ words copies path. fork_move 0 n path words copies cs (Rests k uses (Within k uses (whole + joint) 0) (whole + joint) (Fork cs) words) e
      (λ n' cs' e' h' w c. tt) (λ r t w c. tt) h (some_running cs) refl
  fork_within (suc (suc m)) n cs e h =
      λ words copies path. fork_move (suc m) n path words copies cs
      (Rests k uses (Within k uses (whole + joint) (suc m)) (whole + joint) (Fork cs) words) e
      (λ n' cs' e' h'. fork_within (suc m) n' cs' e' h')
      (λ r t w c p. held_within m (λ n' cs' e' h'. fork_within m n' cs' e' h') (ended_are_gone cs) (numbers_gone cs ∙ e)
      (all_rest_fewer k m whole (ended_are_gone cs)
      (all_rest_fewer k (suc m) whole (ended_are_gone cs) (rests_by k (suc (suc m)) n whole cs h r t))) w) h (some_running cs) refl

-- Which statements never end in the tick of their start: what shows that the bodies of a program's loops pause.
use Rattle.std.proofs.Common.{ℕ, zero, suc, ◌≤◌, ◌≡◌, ◌⊎◌, inl, inr, ℤ, Bool, true, false, cond, Option, Some, None, List, [], ◌∷◌, length, slice_set, refl, sym, subst, ◌∙◌}
use Rattle.std.proofs.lemmas.List.{length-set}
use Rattle.forec_base.specs.Numbers.{is_zero}
use Rattle.forec_base.specs.declared.Place.{Place}
use Rattle.forec_base.specs.declared.Trap.{Trap}
use Rattle.forec_kernel.specs.declared.terms.Spot.TheVariants as spot
use Rattle.forec_kernel.specs.declared.shape.VarCopy.{VarCopy}
use Rattle.forec_kernel.specs.Terms.{Expr, Num, Branch, Stmt, Set, Seq, If, While, Pause, Par, Enter, Stmts, no_stmts, more_stmts}
use Rattle.forec_kernel.specs.Shapes.{PlainKernel}
use Rattle.forec_kernel.specs.Values.{Value, Gives, Raises, Values, AllGive, OneRaises, Setting, setting, Sight, vals}
use Rattle.forec_kernel.specs.Texts.{Loop, After, Go_on, Again, Status, Running, Paused, Ended, Gone, Trapped, RunningText, Done, Then, Turning, Fork, Held, Watch, Threads, no_threads, child, child_of, text_of, after_text, all_over, some_running, runs_at, first_trap, ended_are_gone, uses_of, words_of, params_of, body_of}
use Rattle.forec_kernel.specs.Combining.{Cost, Costs, Fails, join_cost}
use Rattle.forec_kernel.specs.Steps.{Path, Owner, evaluated, Move, Finished, Halts, Moves, Traps, more_move, move_with, turned_loop, Arguments, Ready, Refused, arguments_then, arguments, started, forked, combined, joined, thread_after, move_before, move_watched, child_place, path_below, text_move, child_move}
use Rattle.forec_kernel.proofs.Measure.{place_runs}
use Rattle.bound_laws.specs.Paced.{KeepsOn, NotEnded, NeverEnds}
use Rattle.bound_laws.proofs.Lengths.{Keeps, keeps_size, move_keeps, taken_length}

abbrev pub AfterText : Type 1
AfterText = RunningText → List ℤ → List VarCopy → Type 0

-- ---- fewer steps

not_ended_by : (N N' : AfterText) (m : Move) → ((R : RunningText) (w : List ℤ) (c : List VarCopy) → N R w c → N' R w c) → NotEnded N m → NotEnded N' m
not_ended_by N N' Finished go h = h
not_ended_by N N' Halts go h = tt
not_ended_by N N' (Moves R w c u) go h = go R w c h
not_ended_by N N' (Traps place trap u) go h = tt

pub keeps_fewer : (k : PlainKernel) (uses : List ℕ) (m : ℕ) (R : RunningText) (w : List ℤ) (c : List VarCopy) → KeepsOn k uses (suc m) R w c →
    KeepsOn k uses m R w c
keeps_fewer k uses zero R w c h = tt
keeps_fewer k uses (suc m) R w c h =
    λ path. not_ended_by (KeepsOn k uses (suc m)) (KeepsOn k uses m) (text_move k path uses w c R)
    (λ R' w' c' x. keeps_fewer k uses m R' w' c' x) (h path)

-- ---- after a number

more_not_ended : (N : AfterText) (u : ℕ) (m : Move) → NotEnded N m → NotEnded N (more_move u m)
more_not_ended N u Finished h = h
more_not_ended N u Halts h = tt
more_not_ended N u (Moves R w c v) h = h
more_not_ended N u (Traps place trap v) h = tt

pub with_not_ended : (N : AfterText) (v : Value) (go : ℤ → Move) → ((x : ℤ) (u : ℕ) → v ≡ Gives x u → NotEnded N (go x)) → NotEnded N (move_with v go)
with_not_ended N (Gives x u) go h = more_not_ended N u (go x) (h x u refl)
with_not_ended N (Raises place trap u) go h = tt

-- a test that holds, or traps
abbrev pub Holds : Value → Type 0
Holds (Gives n u) = is_zero n ≡ false
Holds (Raises place trap u) = Unit {0}

module _ (k : PlainKernel) (size : ℕ) (uses : List ℕ) where
  abbrev o : Owner
  o = record { kernel = k; uses = uses }

  abbrev pub Never : ℕ → AfterText
  Never m R w c = KeepsOn k uses m R w c

  abbrev pub NeverText : RunningText → Type 0
  NeverText R = (m : ℕ) (w : List ℤ) (c : List VarCopy) → length w ≡ size → Never m R w c

  -- ---- what goes on, goes on in a context

  before_never : (m : ℕ) (a : After) (w : List ℤ) (c : List VarCopy) →
      ((R : RunningText) (w : List ℤ) (c : List VarCopy) → Never m R w c → Never m (Then R a) w c) → (mv : Move) → NotEnded (Never m) mv →
      NotEnded (Never m) (move_before a w c mv)
  before_never m a w c ih Finished h = absurd h
  before_never m a w c ih Halts h = tt
  before_never m a w c ih (Moves R w' c' u) h = ih R w' c' h
  before_never m a w c ih (Traps place trap u) h = tt

  pub then_never : (m : ℕ) (a : After) (R : RunningText) (w : List ℤ) (c : List VarCopy) → Never m R w c → Never m (Then R a) w c
  then_never zero a R w c h = tt
  then_never (suc m) a R w c h =
      λ path. before_never m a w c (λ R' w' c' x. then_never m a R' w' c' x) (text_move k path uses w c R) (h path)

  watched_never : (m : ℕ) (weak : Bool) (e : Expr) (w : List ℤ) (c : List VarCopy) →
      ((R : RunningText) (w : List ℤ) (c : List VarCopy) → Never m R w c → Never m (Watch weak e R) w c) → (mv : Move) → NotEnded (Never m) mv →
      NotEnded (Never m) (move_watched weak e w c mv)
  watched_never m weak e w c ih Finished h = absurd h
  watched_never m weak e w c ih Halts h = tt
  watched_never m weak e w c ih (Moves R w' c' u) h = ih R w' c' h
  watched_never m weak e w c ih (Traps place trap u) h = tt

  pub watch_never : (m : ℕ) (weak : Bool) (e : Expr) (R : RunningText) (w : List ℤ) (c : List VarCopy) → Never m R w c → Never m (Watch weak e R) w c
  watch_never zero weak e R w c h = tt
  watch_never (suc m) weak e R w c h =
      λ path. watched_never m weak e w c (λ R' w' c' x. watch_never m weak e R' w' c' x) (text_move k path uses w c R) (h path)

  -- ---- what follows goes on, whatever stands before it

  follows_move : (m : ℕ) (a : After) (w : List ℤ) (c : List VarCopy) → Never m (after_text a) w c →
      ((R : RunningText) (w : List ℤ) (c : List VarCopy) → length w ≡ size → Never m (Then R a) w c) → (mv : Move) → Keeps size mv →
      NotEnded (Never m) (move_before a w c mv)
  follows_move m a w c next ih Finished keeps = next
  follows_move m a w c next ih Halts keeps = tt
  follows_move m a w c next ih (Moves R w' c' u) keeps = ih R w' c' keeps
  follows_move m a w c next ih (Traps place trap u) keeps = tt

  pub follows_never : (a : After) → NeverText (after_text a) → (m : ℕ) (R : RunningText) (w : List ℤ) (c : List VarCopy) → length w ≡ size →
      Never m (Then R a) w c
  follows_never a next zero R w c e = tt
  follows_never a next (suc m) R w c e =
      λ path. follows_move m a w c (next m w c e) (λ R' w' c' e'. follows_never a next m R' w' c' e') (text_move k path uses w c R)
      (keeps_size (length w) size e (text_move k path uses w c R) (move_keeps k path uses w c R))

  -- ---- statements

  pub pause_never : NeverEnds k size uses Pause
  pause_never zero w c e = tt
  pause_never (suc zero) w c e = λ path. tt
  pause_never (suc (suc m)) w c e = λ path. λ path'. tt

  -- a list with such a statement
  pub first_never : (s : Stmt) (rest : Stmts) → NeverEnds k size uses s → NeverEnds k size uses (Seq (more_stmts s rest))
  first_never s no_stmts h m w c e = h m w c e
  first_never s (more_stmts r rest) h m w c e = then_never m (Go_on (more_stmts r rest)) (text_of s) w c (h m w c e)

  pub rest_never : (s : Stmt) (rest : Stmts) → NeverEnds k size uses (Seq rest) → NeverEnds k size uses (Seq (more_stmts s rest))
  rest_never s no_stmts h m w c e = absurd (h 1 w c e [])
  rest_never s (more_stmts r rest) h m w c e = follows_never (Go_on (more_stmts r rest)) h m (text_of s) w c e

  pub if_never : (e : Expr) (a b : Stmt) → NeverEnds k size uses a → NeverEnds k size uses b → NeverEnds k size uses (If e a b)
  if_never e a b ha hb zero w c z = tt
  if_never e a b ha hb (suc m) w c z =
      λ path. with_not_ended (Never m) (evaluated o w c e) (λ x. Moves (cond (is_zero x) (text_of b) (text_of a)) w c 1)
      (λ x u i. pick (is_zero x))
    where
      pick : (t : Bool) → Never m (cond t (text_of b) (text_of a)) w c
      pick true = hb m w c z
      pick false = ha m w c z

  pub enter_never : (weak : Bool) (e : Expr) (body : Stmt) → NeverEnds k size uses body → NeverEnds k size uses (Enter weak false e body)
  enter_never weak e body h zero w c z = tt
  enter_never weak e body h (suc m) w c z = λ path. watch_never m weak e (text_of body) w c (h m w c z)

  -- ---- loops whose first test holds

  turned_never : (m : ℕ) (loop : Loop) (left : Option ℕ) (w : List ℤ) (c : List VarCopy) → Never m (text_of loop.body) w c →
      NotEnded (Never m) (turned_loop loop left w c)
  turned_never m loop None w c h = then_never m (Again loop) (text_of loop.body) w c h
  turned_never m loop (Some zero) w c h = tt
  turned_never m loop (Some (suc l)) w c h = then_never m (Again (record loop { left = Some l })) (text_of loop.body) w c h

  pub turning_never : (m : ℕ) (loop : Loop) (w : List ℤ) (c : List VarCopy) → length w ≡ size → Holds (evaluated o w c loop.test) →
      NeverEnds k size uses loop.body → Never m (Turning loop) w c
  turning_never zero loop w c z t h = tt
  turning_never (suc m) loop w c z t h =
      λ path. with_not_ended (Never m) (evaluated o w c loop.test)
      (λ x. elim (is_zero x) [ true ↦ Moves Done w c 1 | false ↦ turned_loop loop loop.left w c ])
      (λ x u e. pick (is_zero x) (subst Holds e t))
    where
      pick : (b : Bool) → b ≡ false → NotEnded (Never m) (elim b [ true ↦ Moves Done w c 1 | false ↦ turned_loop loop loop.left w c ])
      pick true e = cc
      pick false e = turned_never m loop loop.left w c (h m w c z)

  pub while_never : (e : Expr) (bound : Option ℕ) (body : Stmt) (place : Place) →
      ((w : List ℤ) (c : List VarCopy) → length w ≡ size → Holds (evaluated o w c e)) → NeverEnds k size uses body →
      NeverEnds k size uses (While e bound body place)
  while_never e bound body place t h zero w c z = tt
  while_never e bound body place t h (suc m) w c z =
      λ path. turning_never m (record { test = e; bound = bound; left = bound; body = body; place = place }) w c z (t w c z) h

  -- a test that is a number other than 0
  pub number_holds : (n : ℤ) → is_zero n ≡ false → (w : List ℤ) (c : List VarCopy) → length w ≡ size → Holds (evaluated o w c (Num n))
  number_holds n h w c z = h

  -- a local is set, and the loop's first test then holds
  pub counted_never : (slot : ℕ) (start test : Expr) (bound : Option ℕ) (body : Stmt) (place : Place) →
      ((w : List ℤ) (c : List VarCopy) (n : ℤ) (u : ℕ) → length w ≡ size → evaluated o w c start ≡ Gives n u →
      Holds (evaluated o (slice_set w slot n) c test)) → NeverEnds k size uses body →
      NeverEnds k size uses (Seq (more_stmts (Set (spot.Local slot) start) (more_stmts (While test bound body place) no_stmts)))
  counted_never slot start test bound body place t h zero w c z = tt
  counted_never slot start test bound body place t h (suc m) w c z =
      λ path. set_move (evaluated o w c start) (λ n u e. t w c n u z e)
    where
      loop : Loop
      loop = record { test = test; bound = bound; left = bound; body = body; place = place }

      set_move : (v : Value) → ((n : ℤ) (u : ℕ) → v ≡ Gives n u → Holds (evaluated o (slice_set w slot n) c test)) →
          NotEnded (Never m)
          (move_before (Go_on (more_stmts (While test bound body place) no_stmts)) w c
          (move_with v (λ n. Moves Done (slice_set w slot n) c 1)))
      set_move (Raises p trap u) holds = tt
      set_move (Gives n u) holds = from_done m (slice_set w slot n) (length-set w slot n ∙ z) (holds n u refl)
        where
          from_done : (m : ℕ) (w : List ℤ) → length w ≡ size → Holds (evaluated o w c test) →
              Never m (Then Done (Go_on (more_stmts (While test bound body place) no_stmts))) w c
          from_done zero w z y = tt
          from_done (suc zero) w z y = λ path. tt
          from_done (suc (suc m)) w z y =
              λ path. λ path'. turning_never m (record { test = test; bound = bound; left = bound; body = body; place = place }) w c z y h

-- ---- forks with a branch that goes on

abbrev pub Lasts : PlainKernel → ℕ → ℕ → RunningText → List ℤ → List VarCopy → Status → Type 0
Lasts k m t R w c Running = KeepsOn k (uses_of k t) m R w c
Lasts k m t R w c Paused = Unit {0}
Lasts k m t R w c Ended = ⊥
Lasts k m t R w c Gone = ⊥
Lasts k m t R w c (Trapped place trap) = Unit {0}

abbrev pub SomeLasts : PlainKernel → ℕ → Threads → Type 0
SomeLasts k m no_threads = ⊥
SomeLasts k m (child t R w c st rest) = Lasts k m t R w c st ⊎ SomeLasts k m rest

lasts_fewer : (k : PlainKernel) (m t : ℕ) (R : RunningText) (w : List ℤ) (c : List VarCopy) (st : Status) → Lasts k (suc m) t R w c st →
    Lasts k m t R w c st
lasts_fewer k m t R w c Running h = keeps_fewer k (uses_of k t) m R w c h
lasts_fewer k m t R w c Paused h = tt
lasts_fewer k m t R w c Ended h = h
lasts_fewer k m t R w c Gone h = h
lasts_fewer k m t R w c (Trapped place trap) h = tt

some_fewer : (k : PlainKernel) (m : ℕ) (cs : Threads) → SomeLasts k (suc m) cs → SomeLasts k m cs
some_fewer k m no_threads h = h
some_fewer k m (child t R w c st rest) (inl h) = inl (lasts_fewer k m t R w c st h)
some_fewer k m (child t R w c st rest) (inr h) = inr (some_fewer k m rest h)

one_lasts : (k : PlainKernel) (m t : ℕ) (R : RunningText) (w : List ℤ) (c : List VarCopy) (rest : Threads) (mv : Move) →
    NotEnded (KeepsOn k (uses_of k t) m) mv →
    SomeLasts k m (child_of (thread_after (record { number = t; text = R; words = w; copies = c; status = Running }) mv) rest)
one_lasts k m t R w c rest Finished h = absurd h
one_lasts k m t R w c rest Halts h = inl tt
one_lasts k m t R w c rest (Moves R' w' c' u) h = inl h
one_lasts k m t R w c rest (Traps place trap u) h = inl tt

step_lasts : (k : PlainKernel) (m : ℕ) (path : Path) (i : ℕ) (cs : Threads) → runs_at i cs ≡ true → SomeLasts k (suc m) cs →
    SomeLasts k m (child_move k path i cs).children
step_lasts k m path i no_threads e h = absurd h
step_lasts k m path zero (child t R w c Running rest) e (inl h) = one_lasts k m t R w c rest (text_move k path (uses_of k t) w c R) (h path)
step_lasts k m path zero (child t R w c Running rest) e (inr h) = inr (some_fewer k m rest h)
step_lasts k m path zero (child t R w c Paused rest) e h = cc
step_lasts k m path zero (child t R w c Ended rest) e h = cc
step_lasts k m path zero (child t R w c Gone rest) e h = cc
step_lasts k m path zero (child t R w c (Trapped place trap) rest) e h = cc
step_lasts k m path (suc i) (child t R w c st rest) e (inl h) = inl (lasts_fewer k m t R w c st h)
step_lasts k m path (suc i) (child t R w c st rest) e (inr h) = inr (step_lasts k m path i rest e h)

-- where no child runs and none is trapped, one is paused
not_all_over : (k : PlainKernel) (m : ℕ) (cs : Threads) → SomeLasts k m cs → some_running cs ≡ false → first_trap cs ≡ None → all_over cs ≡ false
not_all_over k m no_threads h e t = absurd h
not_all_over k m (child b R w c Running rest) h e t = cc
not_all_over k m (child b R w c Paused rest) h e t = refl
not_all_over k m (child b R w c Ended rest) (inl h) e t = absurd h
not_all_over k m (child b R w c Ended rest) (inr h) e t = not_all_over k m rest h e t
not_all_over k m (child b R w c Gone rest) (inl h) e t = absurd h
not_all_over k m (child b R w c Gone rest) (inr h) e t = not_all_over k m rest h e t
not_all_over k m (child b R w c (Trapped place trap) rest) h e t = cc

module _ (k : PlainKernel) (uses : List ℕ) where
  held_never : (m : ℕ) (cs : Threads) (w : List ℤ) (c : List VarCopy) → KeepsOn k uses m (Held cs) w c
  held_never zero cs w c = tt
  held_never (suc m) cs w c = λ path. tt

  joined_never : (m : ℕ) (w : List ℤ) (c : List VarCopy) (cs : Threads) (t : Option (Place × Trap)) → (t ≡ None → all_over cs ≡ false) →
      NotEnded (KeepsOn k uses m) (joined (record { kernel = k; uses = uses }) w c cs t)
  joined_never m w c cs (Some p) h = tt
  joined_never m w c cs None h = after_join (join_cost k cs uses c) (all_over cs) (h refl)
    where
      after_join : (cost : Cost) (b : Bool) → b ≡ false → NotEnded (KeepsOn k uses m) (combined (record { kernel = k; uses = uses }) w c cs cost)
      after_join (Costs u) b e = subst (λ x. (copies : List VarCopy) → KeepsOn k uses m (cond x Done (Held (ended_are_gone cs))) w copies) (sym (h refl)) (λ copies. held_never m (ended_are_gone cs) w copies) _
      after_join (Fails place trap u) b e = tt

  pub fork_never : (m : ℕ) (cs : Threads) (w : List ℤ) (c : List VarCopy) → SomeLasts k m cs → KeepsOn k uses m (Fork cs) w c
  fork_never zero cs w c h = tt
  fork_never (suc m) cs w c h =
      λ path. fork_move m path cs w c (some_running cs) refl h (λ cs' h'. fork_never m cs' w c h')
    where
      fork_move : (m : ℕ) (path : Path) (cs : Threads) (w : List ℤ) (c : List VarCopy) (b : Bool) → some_running cs ≡ b → SomeLasts k (suc m) cs →
          ((cs : Threads) → SomeLasts k m cs → KeepsOn k uses m (Fork cs) w c) →
          NotEnded (KeepsOn k uses m)
          (elim b [
            | true ↦
                let s = child_move k (path_below path cs) (child_place path cs) cs in Moves (Fork s.children) w c s.units
            | false ↦ joined (record { kernel = k; uses = uses }) w c cs (first_trap cs)
          ])
      fork_move m path cs w c true e h ih =
          ih (child_move k (path_below path cs) (child_place path cs) cs).children
          (step_lasts k m (path_below path cs) (child_place path cs) cs (place_runs path cs e) h)
      fork_move m path cs w c false e h ih = joined_never m w c cs (first_trap cs) (λ t. not_all_over k (suc m) cs h e t)

  -- a par with a branch whose body never ends
  abbrev pub SomeNever : List Branch → Type 0
  SomeNever [] = ⊥
  SomeNever (b ∷ bs) = NeverEnds k (words_of k b.thread) (uses_of k b.thread) (body_of k b.thread) ⊎ SomeNever bs

  module _ (params : (b : ℕ) → params_of k b ≤ words_of k b) where
    -- where the arguments are ready, such a branch starts
    abbrev SomeStarts : ℕ → List VarCopy → List Branch → Arguments → Type 0
    SomeStarts m c bs (Ready lists u) = SomeLasts k m (started (record { kernel = k; uses = uses }) c bs lists)
    SomeStarts m c bs (Refused place trap u) = Unit {0}

    starts_now : (m : ℕ) (c : List VarCopy) (b : Branch) (bs : List Branch) (vs : Values) (rest : Arguments) →
        NeverEnds k (words_of k b.thread) (uses_of k b.thread) (body_of k b.thread) → SomeStarts m c (b ∷ bs) (arguments_then vs rest)
    starts_now m c b bs (AllGive ns u) (Ready lists v) h =
        inl (h m _ _ (taken_length ns (params_of k b.thread) (words_of k b.thread) (params b.thread)))
    starts_now m c b bs (AllGive ns u) (Refused place trap v) h = tt
    starts_now m c b bs (OneRaises place trap u) rest h = tt

    starts_later : (m : ℕ) (c : List VarCopy) (b : Branch) (bs : List Branch) (vs : Values) (rest : Arguments) → SomeStarts m c bs rest →
        SomeStarts m c (b ∷ bs) (arguments_then vs rest)
    starts_later m c b bs (AllGive ns u) (Ready lists v) h = inr h
    starts_later m c b bs (AllGive ns u) (Refused place trap v) h = tt
    starts_later m c b bs (OneRaises place trap u) rest h = tt

    starts : (m : ℕ) (c : List VarCopy) (s : Setting) (e : Sight) (bs : List Branch) → SomeNever bs → SomeStarts m c bs (arguments s e bs)
    starts m c s e [] h = absurd h
    starts m c s e (b ∷ bs) (inl h) = starts_now m c b bs (vals s e b.args) (arguments s e bs) h
    starts m c s e (b ∷ bs) (inr h) = starts_later m c b bs (vals s e b.args) (arguments s e bs) (starts m c s e bs h)

    forked_never : (m : ℕ) (w : List ℤ) (c : List VarCopy) (bs : List Branch) (args : Arguments) → SomeStarts m c bs args →
        NotEnded (KeepsOn k uses m) (forked (record { kernel = k; uses = uses }) w c bs args)
    forked_never m w c bs (Ready lists u) h = fork_never m (started (record { kernel = k; uses = uses }) c bs lists) w c h
    forked_never m w c bs (Refused place trap u) h = tt

    pub par_never : (size : ℕ) (bs : List Branch) → SomeNever bs → NeverEnds k size uses (Par bs)
    par_never size bs h zero w c z = tt
    par_never size bs h (suc m) w c z =
        let e : Sight = record { words = w; uses = uses; copies = c } in
        λ path. forked_never m w c bs (arguments (setting k) e bs) (starts m c (setting k) e bs h)

-- Where a machine is when a text is before it.
use Rattle.std.proofs.Common.{◌≡◌, ℕ, ◌+◌, ◌<◌, List, [], ◌∷◌, ◌++◌, length, Option, Some, None, Bool, true, false, cond, refl, ap, ◌∙◌, subst, arith, length-append, get_or}
use Rattle.std.specs.Prelude.{ℤ, ◌≢◌, slice_get}
use Rattle.forec_kernel.specs.declared.shape.VarCopy.{VarCopy}
use Rattle.forec_kernel.specs.Terms.{Expr, count_exprs, Branch, Stmt, Nop, Set, SetAt, PutAt, Clear, Seq, If, While, Pause, Par, Enter, Return, Stmts, no_stmts, more_stmts}
use Rattle.forec_kernel.specs.Shapes.{PlainKernel}
use Rattle.forec_kernel.specs.Texts.{Loop, After, Go_on, Again, Running, Paused, Ended, Gone, Trapped, RunningText, Done, Run, Then, Turning, Resting, Fork, Held, Watch, Last, Threads, no_threads, child, text_of, texts_of, is_running, some_running, params_of}
use Rattle.forec_kernel.specs.WellFormed.{distinct, threads_in}
use Rattle.forec_kernel.specs.Solo.{seeds_for}
use Rattle.thread_code.specs.declared.instruction.Instruction.{Instruction}
use Rattle.thread_code.specs.declared.instruction.Instruction.TheVariants as instruction
use Rattle.thread_code.specs.Valid.{branches_in}
use Rattle.thread_code.specs.Machine.{Own, Machine, On, Waits}
use Rattle.code_gen.specs.Expressions.{expression_code}
use Rattle.code_gen.specs.Statements.{Around, InAbort, loops, weaks, checks, prologue, inner, turn_code, loop_code, par_number, statement_code, statements_code}
use Rattle.code_gen.specs.Blocks.{kernel_code}
use Rattle.code_gen.proofs.Deep.{deep}
use Rattle.code_gen.proofs.Fits.{Fits, AllFit}
use Rattle.code_gen.proofs.Stretch.{HasAt, has_front, has_back, point, Comes, stays, comes_on, comes_at, one}

-- what a thread's statements read and write
pub record Store : Type 0 where
  pub words : List ℤ
  pub copies : List VarCopy

-- what the machine has beside it
pub record Marks : Type 0 where
  pub flags : List Bool
  pub live : List Bool

abbrev pub own : Store → Marks → Own
own st f = record { copies = st.copies; flags = f.flags; live = f.live }

-- ---- children

abbrev pub numbers : Threads → List ℕ
numbers no_threads = []
numbers (child t R w c st rest) = t ∷ numbers rest

abbrev pub running_in : Threads → List ℕ
running_in no_threads = []
running_in (child t R w c st rest) = cond (is_running st) (t ∷ running_in rest) (running_in rest)

-- each child runs, or is gone and doesn't live
abbrev pub Awaits : List Bool → Threads → Type 0
Awaits live no_threads = Unit {0}
Awaits live (child t R w c Running rest) = Awaits live rest
Awaits live (child t R w c Gone rest) = (get_or live t false ≡ false) × Awaits live rest
Awaits live (child t R w c Paused rest) = ⊥
Awaits live (child t R w c Ended rest) = ⊥
Awaits live (child t R w c (Trapped place trap) rest) = ⊥

-- each child is paused and lives, or is gone and doesn't
abbrev pub Sleeps : List Bool → Threads → Type 0
Sleeps live no_threads = Unit {0}
Sleeps live (child t R w c Paused rest) = (get_or live t false ≡ true) × Sleeps live rest
Sleeps live (child t R w c Gone rest) = (get_or live t false ≡ false) × Sleeps live rest
Sleeps live (child t R w c Running rest) = ⊥
Sleeps live (child t R w c Ended rest) = ⊥
Sleeps live (child t R w c (Trapped place trap) rest) = ⊥

abbrev pub some_paused : Threads → Bool
some_paused no_threads = false
some_paused (child t R w c Paused rest) = true
some_paused (child t R w c st rest) = some_paused rest

-- the children of the fork in a text
abbrev pub leaf : RunningText → Threads
leaf Done = no_threads
leaf (Run s) = no_threads
leaf (Then R a) = leaf R
leaf (Turning loop) = no_threads
leaf Resting = no_threads
leaf (Fork cs) = cs
leaf (Held cs) = no_threads
leaf (Watch weak e R) = leaf R
leaf (Last R) = leaf R

-- ---- what is asked of a thread's statements

module _ (k : PlainKernel) where
  abbrev pub ok : ℕ → Bool
  ok = deep k (length k.functions)

  abbrev pub BranchesFit : List Branch → Type 0
  BranchesFit [] = Unit {0}
  BranchesFit (b ∷ bs) = AllFit (kernel_code k) ok b.args × (count_exprs b.args ≡ params_of k b.thread) × BranchesFit bs

  pub record ParFits (bs : List Branch) : Type 0 where
    pub named : branches_in k.shape (par_number k.shape.threads bs) ≡ threads_in bs
    pub some : bs ≢ []
    pub apart : distinct (threads_in bs) ≡ true
    pub args : BranchesFit bs

  abbrev mutual
    pub StatementFits : Stmt → Type 0
    StatementFits Nop = Unit {0}
    StatementFits (Set to e) = Fits (kernel_code k) ok e
    StatementFits (SetAt x n i e place) = Fits (kernel_code k) ok i × Fits (kernel_code k) ok e
    StatementFits (PutAt v n i e place) = Fits (kernel_code k) ok i × Fits (kernel_code k) ok e
    StatementFits (Clear x n) = Unit {0}
    StatementFits (Seq list) = StatementsFit list
    StatementFits (If e then other) = Fits (kernel_code k) ok e × StatementFits then × StatementFits other
    StatementFits (While e bound body place) = Fits (kernel_code k) ok e × StatementFits body
    StatementFits Pause = Unit {0}
    StatementFits (Par branches) = ParFits branches
    StatementFits (Enter weak immediate e body) = Fits (kernel_code k) ok e × StatementFits body
    StatementFits (Return e) = ⊥

    pub StatementsFit : Stmts → Type 0
    StatementsFit no_stmts = Unit {0}
    StatementsFit (more_stmts s rest) = StatementFits s × StatementsFit rest

-- ---- counters and flags

-- counters and flags below these numbers are the same
pub record SameBelow (i j : ℕ) (c c' : List ℕ) (f f' : Marks) : Type 0 where
  pub counters : (n : ℕ) → n < i → get_or c' n 0 ≡ get_or c n 0
  pub flags : (n : ℕ) → n < j → get_or f'.flags n false ≡ get_or f.flags n false

pub same_below : (i j : ℕ) (c : List ℕ) (f : Marks) → SameBelow i j c c f f
same_below i j c f = record { counters = λ n h. refl; flags = λ n h. refl }

pub then_below : {i j : ℕ} {c c1 c2 : List ℕ} {f f1 f2 : Marks} → SameBelow i j c c1 f f1 → SameBelow i j c1 c2 f1 f2 → SameBelow i j c c2 f f2
then_below a b = record { counters = λ n h. b.counters n h ∙ a.counters n h; flags = λ n h. b.flags n h ∙ a.flags n h }

-- the counter of a loop has the turns that are left
abbrev pub Left : Option ℕ → Option ℕ → ℕ → List ℕ → Type 0
Left None None i c = Unit {0}
Left None (Some m) i c = ⊥
Left (Some n) None i c = ⊥
Left (Some n) (Some m) i c = get_or c i 0 ≡ m

-- the flag of a weak abort isn't set before its last piece
abbrev pub Unset : Bool → ℕ → Marks → Type 0
Unset false j f = Unit {0}
Unset true j f = get_or f.flags j false ≡ false

-- what stands round the text before `after`
abbrev pub inside : Around → After → Around
inside a (Go_on list) = a
inside a (Again loop) = inner loop.bound a

abbrev pub Turns_left : Around → After → List ℕ → Type 0
Turns_left a (Go_on list) c = Unit {0}
Turns_left a (Again loop) c = Left loop.bound loop.left (loops a) c

-- where a machine is: at an address, or at a fork, with the addresses where it goes on
pub data Where : Type 0 where
  Here : ℕ → Where
  At_fork : (done going : ℕ) → Where

module _ (k : PlainKernel) (t : ℕ) (s : List Instruction) where
  -- the machine at an address of the thread's block
  abbrev pub on : ℕ → Store → List ℕ → Marks → ℕ → Machine
  on p st c f u = On (point s p [] st.words c) [] (own st f) u

  -- the machine at a fork of these children, which starts or wakes them
  abbrev pub machine_at : Bool → Threads → Where → Store → List ℕ → Marks → ℕ → Machine
  machine_at woke cs (Here p) st c f u = on p st c f u
  machine_at woke cs (At_fork d g) st c f u =
      Waits (record { branches = running_in cs; seeds = seeds_for k woke cs; done = point s d [] st.words c; going = point s g [] st.words c }) (own st f) u

  -- the one address leads to the other at no cost
  pub record Ends (p q : ℕ) : Type 0 where
    pub by : (st : Store) (c : List ℕ) (f : Marks) (u : ℕ) → Comes (kernel_code k) t (on p st c f u) (on q st c f u)

  pub ends_here : (p q : ℕ) → p ≡ q → Ends p q
  ends_here p q e = record { by = λ st c f u. comes_at (kernel_code k) t (ap (λ n. on n st c f u) e) (stays (kernel_code k) t (on p st c f u)) }

  pub ends_on : {p q r : ℕ} → Ends p q → Ends q r → Ends p r
  ends_on a b = record { by = λ st c f u. comes_on (kernel_code k) t (a.by st c f u) (b.by st c f u) }

  pub ends_jump : (p q : ℕ) → slice_get s p ≡ Some (instruction.Jump q) → Ends p q
  ends_jump p q h = record { by = λ st c f u. one (kernel_code k) t (instruction.Jump q) (point s p [] st.words c) [] (own st f) u h }

  -- a statement's code
  pub record StatementAt (a : Around) (x : Stmt) (p q : ℕ) : Type 0 where
    pub has : HasAt s p (statement_code k.shape.threads a p x)
    pub ends : Ends (p + length (statement_code k.shape.threads a p x)) q
    pub fits : StatementFits k x

  pub record StatementsAt (a : Around) (list : Stmts) (p q : ℕ) : Type 0 where
    pub has : HasAt s p (statements_code k.shape.threads a p list)
    pub ends : Ends (p + length (statements_code k.shape.threads a p list)) q
    pub fits : StatementsFit k list

  -- a loop's code, from its test on
  pub record LoopAt (a : Around) (loop : Loop) (h q : ℕ) : Type 0 where
    pub has : HasAt s h (loop_code h (expression_code h loop.test) (turn_code loop.bound (loops a) loop.place) (λ b. statement_code k.shape.threads (inner loop.bound a) b loop.body))
    pub ends : (x : ℕ) → x ≡ h + length (expression_code h loop.test) + 1 + length (turn_code loop.bound (loops a) loop.place) + length (statement_code k.shape.threads (inner loop.bound a) (h + length (expression_code h loop.test) + 1 + length (turn_code loop.bound (loops a) loop.place)) loop.body) + 1 → Ends x q
    pub fits : Fits (kernel_code k) (ok k) loop.test
    pub body : StatementFits k loop.body

  -- what comes after a text that is done at m
  abbrev pub BehindAt : Around → After → ℕ → ℕ → Type 0
  BehindAt a (Go_on list) m q = StatementsAt a list m q
  BehindAt a (Again loop) m q = (h : ℕ) × (slice_get s m ≡ Some (instruction.Jump h)) × LoopAt a loop h q

  -- a held fork: its branches are woken at the end of the prologue at w
  pub record HeldAt (a : Around) (j w q : ℕ) : Type 0 where
    pub start : HasAt s w (prologue w a)
    pub to : ℕ
    pub again : slice_get s (w + length (prologue w a)) ≡ Some (instruction.Again j to)
    pub pause : HasAt s to (checks a ++ instruction.Pause w ∷ [])
    pub ends : Ends (w + length (prologue w a) + 1) q

  -- a fork of these children goes on at d where they have ended, else at g
  pub record ForkAt (a : Around) (bs : List ℕ) (d g q : ℕ) : Type 0 where
    pub j : ℕ
    pub named : branches_in k.shape j ≡ bs
    pub apart : distinct bs ≡ true
    pub w : ℕ
    pub ends : Ends d q
    pub pause : HasAt s g (checks a ++ instruction.Pause w ∷ [])
    pub held : HeldAt a j w q

  -- children that have jobs
  pub record Works (cs : Threads) (live : List Bool) : Type 0 where
    pub some : some_running cs ≡ true
    pub awaits : Awaits live cs

  -- the pause of a held fork
  pub record HoldAt (a : Around) (bs : List ℕ) (p q : ℕ) : Type 0 where
    pub j : ℕ
    pub named : branches_in k.shape j ≡ bs
    pub apart : distinct bs ≡ true
    pub w : ℕ
    pub pause : HasAt s p (checks a ++ instruction.Pause w ∷ [])
    pub held : HeldAt a j w q

  pub record Rests (cs : Threads) (live : List Bool) : Type 0 where
    pub some : some_paused cs ≡ true
    pub sleeps : Sleeps live cs

  -- a pause that was reached at p
  pub record RestAt (a : Around) (p q : ℕ) : Type 0 where
    pub w : ℕ
    pub pause : HasAt s p (checks a ++ instruction.Pause w ∷ [])
    pub start : HasAt s w (prologue w a)
    pub ends : Ends (w + length (prologue w a)) q

  -- The machine is at a place that has this text before it, and comes to q where the text is done.
  abbrev pub At : Around → RunningText → Where → ℕ → List ℕ → Marks → Type 0
  At a Done (Here p) q c f = Ends p q
  At a Done (At_fork d g) q c f = ⊥
  At a (Run x) (Here p) q c f = StatementAt a x p q
  At a (Run x) (At_fork d g) q c f = ⊥
  At a (Then R b) pl q c f = (m : ℕ) × At (inside a b) R pl m c f × BehindAt a b m q × Turns_left a b c
  At a (Turning loop) (Here p) q c f = LoopAt a loop p q × Left loop.bound loop.left (loops a) c
  At a (Turning loop) (At_fork d g) q c f = ⊥
  At a Resting (Here p) q c f = RestAt a p q
  At a Resting (At_fork d g) q c f = ⊥
  At a (Fork cs) (Here p) q c f = ⊥
  At a (Fork cs) (At_fork d g) q c f = ForkAt a (numbers cs) d g q × Works cs f.live
  At a (Held cs) (Here p) q c f = HoldAt a (numbers cs) p q × Rests cs f.live
  At a (Held cs) (At_fork d g) q c f = ⊥
  At a (Watch weak e R) pl q c f = (x : ℕ) × At (InAbort weak e x a) R pl x c f × Ends x q × Fits (kernel_code k) (ok k) e × Unset weak (weaks a) f
  At a (Last R) pl q c f = (e : Expr) × (x : ℕ) × At (InAbort true e x a) R pl x c f × Ends x q × (get_or f.flags (weaks a) false ≡ true)

  -- A halted text, whose wake address is w.
  abbrev pub WakeAt : Around → RunningText → ℕ → ℕ → List Bool → Type 0
  WakeAt a Done w q live = ⊥
  WakeAt a (Run x) w q live = ⊥
  WakeAt a (Then R b) w q live = (m : ℕ) × WakeAt (inside a b) R w m live × BehindAt a b m q
  WakeAt a (Turning loop) w q live = ⊥
  WakeAt a Resting w q live = HasAt s w (prologue w a) × Ends (w + length (prologue w a)) q
  WakeAt a (Fork cs) w q live = ⊥
  WakeAt a (Held cs) w q live = (j : ℕ) × (branches_in k.shape j ≡ numbers cs) × (distinct (numbers cs) ≡ true) × HeldAt a j w q × Rests cs live
  WakeAt a (Watch weak e R) w q live = (x : ℕ) × WakeAt (InAbort weak e x a) R w x live × Ends x q × Fits (kernel_code k) (ok k) e
  WakeAt a (Last R) w q live = ⊥

  -- ---- a statement read as a text

  mutual
    pub text_at : (x : Stmt) (a : Around) (p q : ℕ) (c : List ℕ) (f : Marks) → StatementAt a x p q → At a (text_of x) (Here p) q c f
    text_at Nop a p q c f h = let z : p ≡ p + 0 = omega arith in ends_on (ends_here p (p + 0) z) h.ends
    text_at (Set to e) a p q c f h = h
    text_at (SetAt x n i e place) a p q c f h = h
    text_at (PutAt v n i e place) a p q c f h = h
    text_at (Clear x n) a p q c f h = h
    text_at (Seq list) a p q c f h = texts_at list a p q c f (record { has = h.has; ends = h.ends; fits = h.fits })
    text_at (If e then other) a p q c f h = h
    text_at (While e bound body place) a p q c f h = h
    text_at Pause a p q c f h = h
    text_at (Par branches) a p q c f h = h
    text_at (Enter weak immediate e body) a p q c f h = h
    text_at (Return e) a p q c f h = h

    pub texts_at : (list : Stmts) (a : Around) (p q : ℕ) (c : List ℕ) (f : Marks) → StatementsAt a list p q → At a (texts_of list) (Here p) q c f
    texts_at no_stmts a p q c f h = let z : p ≡ p + 0 = omega arith in ends_on (ends_here p (p + 0) z) h.ends
    texts_at (more_stmts x no_stmts) a p q c f h =
        let code = statement_code k.shape.threads a p x in
        let len : p + length code ≡ p + length (code ++ []) = omega (arith, length-append code []) in
        text_at x a p q c f (record { has = has_front s p code [] h.has; ends = ends_on (ends_here _ _ len) h.ends; fits = let g = h.fits in g.0 })
    texts_at (more_stmts x (more_stmts y rest)) a p q c f h =
        let code = statement_code k.shape.threads a p x in
        let m = p + length code in
        let more = statements_code k.shape.threads a m (more_stmts y rest) in
        let len : m + length more ≡ p + length (code ++ more) = omega (arith, length-append code more) in
        let g = h.fits in (
          m,
          text_at x a p m c f (record { has = has_front s p code more h.has; ends = ends_here m m refl; fits = g.0 }),
          record { has = has_back s p code more h.has; ends = ends_on (ends_here _ _ len) h.ends; fits = g.1 },
          tt,
        )

  -- ---- what a step or a waking of a text leads to

  -- the machine comes to a place that has this text before it
  pub record ReachesText (woke : Bool) (a : Around) (R : RunningText) (q : ℕ) (st : Store) (c : List ℕ) (f : Marks) (m : Machine) (u : ℕ) : Type 0 where
    pub at : Where
    pub c' : List ℕ
    pub f' : Marks
    pub comes : Comes (kernel_code k) t m (machine_at woke (leaf R) at st c' f' u)
    pub here : At a R at q c' f'
    pub below : SameBelow (loops a) (weaks a) c c' f f'

  pub goes : (woke : Bool) (a : Around) (R : RunningText) (p q : ℕ) (st : Store) (c : List ℕ) (f : Marks) (m : Machine) (u : ℕ) → At a R (Here p) q c f → Comes (kernel_code k) t m (on p st c f u) → ReachesText woke a R q st c f m u
  goes woke a R p q st c f m u h g = record { at = Here p; c' = c; f' = f; comes = g; here = h; below = same_below (loops a) (weaks a) c f }

  pub goes_from : {woke : Bool} {a : Around} {R : RunningText} {q : ℕ} {st : Store} {c : List ℕ} {f : Marks} {m m1 : Machine} {u : ℕ} → Comes (kernel_code k) t m m1 → ReachesText woke a R q st c f m1 u → ReachesText woke a R q st c f m u
  goes_from h g = record { at = g.at; c' = g.c'; f' = g.f'; comes = comes_on (kernel_code k) t h g.comes; here = g.here; below = g.below }

  -- from other counters and flags of what is inside
  pub goes_under : {woke : Bool} {a : Around} {R : RunningText} {q : ℕ} {st : Store} {c c1 : List ℕ} {f f1 : Marks} {m : Machine} {u : ℕ} → SameBelow (loops a) (weaks a) c c1 f f1 → ReachesText woke a R q st c1 f1 m u → ReachesText woke a R q st c f m u
  goes_under b g = record { at = g.at; c' = g.c'; f' = g.f'; comes = g.comes; here = g.here; below = then_below b g.below }

  -- the same units, written otherwise
  pub goes_at : {woke : Bool} {a : Around} {R : RunningText} {q : ℕ} {st : Store} {c : List ℕ} {f : Marks} {m : Machine} {u u' : ℕ} → u ≡ u' → ReachesText woke a R q st c f m u → ReachesText woke a R q st c f m u'
  goes_at {woke = woke} {a = a} {R = R} {q = q} {st = st} {c = c} {f = f} {m = m} e g = subst (λ n. ReachesText woke a R q st c f m n) e g

  pub none_more : (p : ℕ) (st : Store) (c : List ℕ) (f : Marks) (m : Machine) (u : ℕ) → Comes (kernel_code k) t m (on p st c f u) → Comes (kernel_code k) t m (on p st c f (u + 0))
  none_more p st c f m u h = let e : u ≡ u + 0 = omega arith in comes_at (kernel_code k) t (ap (λ n. on p st c f n) e) h

  -- ---- in a context

  below_inner : (n : Option ℕ) (a : Around) (c c' : List ℕ) (f f' : Marks) → SameBelow (loops (inner n a)) (weaks (inner n a)) c c' f f' → SameBelow (loops a) (weaks a) c c' f f'
  below_inner None a c c' f f' b = b
  below_inner (Some n) a c c' f f' b = record { counters = λ i lt. b.counters i (omega arith); flags = b.flags }

  pub below_inside : (b : After) (a : Around) (c c' : List ℕ) (f f' : Marks) → SameBelow (loops (inside a b)) (weaks (inside a b)) c c' f f' → SameBelow (loops a) (weaks a) c c' f f'
  below_inside (Go_on list) a c c' f f' h = h
  below_inside (Again loop) a c c' f f' h = below_inner loop.bound a c c' f f' h

  left_kept : (n m : Option ℕ) (a : Around) (c c' : List ℕ) (f f' : Marks) → SameBelow (loops (inner n a)) (weaks (inner n a)) c c' f f' → Left n m (loops a) c → Left n m (loops a) c'
  left_kept None None a c c' f f' b l = tt
  left_kept None (Some m) a c c' f f' b l = l
  left_kept (Some n) None a c c' f f' b l = l
  left_kept (Some n) (Some m) a c c' f f' b l = b.counters (loops a) (omega arith) ∙ l

  turns_kept : (b : After) (a : Around) (c c' : List ℕ) (f f' : Marks) → SameBelow (loops (inside a b)) (weaks (inside a b)) c c' f f' → Turns_left a b c → Turns_left a b c'
  turns_kept (Go_on list) a c c' f f' h l = tt
  turns_kept (Again loop) a c c' f f' h l = left_kept loop.bound loop.left a c c' f f' h l

  pub goes_then : (woke : Bool) (b : After) (a : Around) (R : RunningText) (m q : ℕ) (st : Store) (c : List ℕ) (f : Marks) (mach : Machine) (u : ℕ) → BehindAt a b m q → Turns_left a b c → ReachesText woke (inside a b) R m st c f mach u → ReachesText woke a (Then R b) q st c f mach u
  goes_then woke b a R m q st c f mach u h l g = record {
    at = g.at;
    c' = g.c';
    f' = g.f';
    comes = g.comes;
    here = (m, g.here, h, turns_kept b a c g.c' f g.f' g.below l);
    below = below_inside b a c g.c' f g.f' g.below;
  }

  unset_kept : (weak : Bool) (e : Expr) (x : ℕ) (a : Around) (c c' : List ℕ) (f f' : Marks) → SameBelow (loops (InAbort weak e x a)) (weaks (InAbort weak e x a)) c c' f f' → Unset weak (weaks a) f → Unset weak (weaks a) f'
  unset_kept false e x a c c' f f' b h = tt
  unset_kept true e x a c c' f f' b h = b.flags (weaks a) (omega arith) ∙ h

  below_abort : (weak : Bool) (e : Expr) (x : ℕ) (a : Around) (c c' : List ℕ) (f f' : Marks) → SameBelow (loops (InAbort weak e x a)) (weaks (InAbort weak e x a)) c c' f f' → SameBelow (loops a) (weaks a) c c' f f'
  below_abort false e x a c c' f f' b = b
  below_abort true e x a c c' f f' b = record { counters = b.counters; flags = λ i lt. b.flags i (omega arith) }

  pub goes_watch : (woke weak : Bool) (e : Expr) (a : Around) (R : RunningText) (x q : ℕ) (st : Store) (c : List ℕ) (f : Marks) (mach : Machine) (u : ℕ) → Ends x q → Fits (kernel_code k) (ok k) e → Unset weak (weaks a) f → ReachesText woke (InAbort weak e x a) R x st c f mach u → ReachesText woke a (Watch weak e R) q st c f mach u
  goes_watch woke weak e a R x q st c f mach u ends fit unset g = record {
    at = g.at;
    c' = g.c';
    f' = g.f';
    comes = g.comes;
    here = (x, g.here, ends, fit, unset_kept weak e x a c g.c' f g.f' g.below unset);
    below = below_abort weak e x a c g.c' f g.f' g.below;
  }

  pub goes_last : (woke : Bool) (e : Expr) (a : Around) (R : RunningText) (x q : ℕ) (st : Store) (c : List ℕ) (f : Marks) (mach : Machine) (u : ℕ) → Ends x q → get_or f.flags (weaks a) false ≡ true → ReachesText woke (InAbort true e x a) R x st c f mach u → ReachesText woke a (Last R) q st c f mach u
  goes_last woke e a R x q st c f mach u ends set g = record {
    at = g.at;
    c' = g.c';
    f' = g.f';
    comes = g.comes;
    here = (e, x, g.here, ends, let b = g.below in b.flags (weaks a) (omega arith) ∙ set);
    below = below_abort true e x a c g.c' f g.f' g.below;
  }

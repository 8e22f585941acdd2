-- The machine does the waking of a thread's text.
use Rattle.std.proofs.Common.{◌≡◌, ℕ, ◌+◌, List, [], ◌∷◌, ◌++◌, length, Option, Some, None, Bool, true, false, cond, not, refl, sym, ap, ◌∙◌, subst, arith, length-append}
use Rattle.std.specs.Prelude.{ℤ}
use Rattle.forec_base.specs.Numbers.{is_zero}
use Rattle.forec_base.specs.declared.Place.{Place}
use Rattle.forec_kernel.specs.declared.shape.VarCopy.{VarCopy}
use Rattle.forec_kernel.specs.Terms.{Expr, Stmt}
use Rattle.forec_kernel.specs.Shapes.{PlainKernel}
use Rattle.forec_kernel.specs.Values.{Value, Gives, Raises, call}
use Rattle.forec_kernel.specs.Texts.{Loop, After, Go_on, Again, Running, Paused, Ended, Gone, Trapped, RunningText, Done, Run, Then, Turning, Resting, Fork, Held, Watch, Last, Threads, no_threads, child, some_running, uses_of}
use Rattle.forec_kernel.specs.Steps.{Owner, evaluated, Woken, Wakes, Stays, more_woken, woken_in, woken_with, refilled, watched_on, woken, woken_children}
use Rattle.forec_kernel.specs.Erased.{erased, erased_threads}
use Rattle.forec_kernel.specs.WellFormed.{distinct}
use Rattle.forec_kernel.specs.Solo.{seeds_for}
use Rattle.thread_code.specs.declared.instruction.Instruction.TheVariants as instruction
use Rattle.thread_code.specs.declared.instruction.Instruction.{Instruction}
use Rattle.thread_code.specs.Valid.{branches_in}
use Rattle.thread_code.specs.Machine.{Point, Frame, Own, Machine, On, Waits, Trapped, awaited, living, wakes, waking, put_at}
use Rattle.code_gen.specs.Expressions.{expression_code}
use Rattle.code_gen.specs.Statements.{Around, InLoop, InAbort, loops, weaks, guard, prologue, inner}
use Rattle.code_gen.specs.Blocks.{kernel_code}
use Rattle.code_gen.proofs.Cells.{put_same, put_other}
use Rattle.code_gen.proofs.Fits.{Fits, CallsRun}
use Rattle.code_gen.proofs.Stretch.{HasAt, has_front, has_back, point, Comes, stays, comes_on, comes_at, one, Yields}
use Rattle.code_gen.proofs.Exprs.{expression_runs}
use Rattle.code_gen.proofs.MachinePoints.{Store, Marks, own, numbers, running_in, Awaits, Sleeps, some_paused, ok, SameBelow, same_below, inside, Turns_left, At_fork, on, machine_at, Ends, ends_here, BehindAt, HeldAt, Rests, WakeAt, ReachesText, goes, goes_from, goes_under, goes_at, none_more, goes_then, goes_watch, goes_last}

-- ---- the children of a held fork

module _ (k : PlainKernel) (t : ℕ) (copies : List VarCopy) (live : List Bool) where
  abbrev woke : Threads → Threads
  woke cs = (woken_children k (uses_of k t) copies (erased_threads cs)).children

  woken_free : (cs : Threads) → Sleeps live cs → (woken_children k (uses_of k t) copies (erased_threads cs)).units ≡ 0
  woken_free no_threads h = refl
  woken_free (child n R w c Running rest) h = absurd h
  woken_free (child n R w c Paused rest) h = let e = woken_free rest h.1 in omega (arith, e)
  woken_free (child n R w c Ended rest) h = absurd h
  woken_free (child n R w c Gone rest) h = woken_free rest h.1
  woken_free (child n R w c (Trapped place trap) rest) h = absurd h

  woken_numbers : (cs : Threads) → Sleeps live cs → numbers (woke cs) ≡ numbers cs
  woken_numbers no_threads h = refl
  woken_numbers (child n R w c Running rest) h = absurd h
  woken_numbers (child n R w c Paused rest) h = ap (λ l. n ∷ l) (woken_numbers rest h.1)
  woken_numbers (child n R w c Ended rest) h = absurd h
  woken_numbers (child n R w c Gone rest) h = ap (λ l. n ∷ l) (woken_numbers rest h.1)
  woken_numbers (child n R w c (Trapped place trap) rest) h = absurd h

  woken_living : (cs : Threads) → Sleeps live cs → living live (numbers cs) ≡ running_in (woke cs)
  woken_living no_threads h = refl
  woken_living (child n R w c Running rest) h = absurd h
  woken_living (child n R w c Paused rest) h = ap (λ b. cond b (n ∷ living live (numbers rest)) (living live (numbers rest))) h.0 ∙ ap (λ l. n ∷ l) (woken_living rest h.1)
  woken_living (child n R w c Ended rest) h = absurd h
  woken_living (child n R w c Gone rest) h = ap (λ b. cond b (n ∷ living live (numbers rest)) (living live (numbers rest))) h.0 ∙ woken_living rest h.1
  woken_living (child n R w c (Trapped place trap) rest) h = absurd h

  woken_seeds : (cs : Threads) → Sleeps live cs → wakes (kernel_code k) t copies (running_in (woke cs)) ≡ seeds_for k true (woke cs)
  woken_seeds no_threads h = refl
  woken_seeds (child n R w c Running rest) h = absurd h
  woken_seeds (child n R w c Paused rest) h = rw (woken_seeds rest h.1) refl
  woken_seeds (child n R w c Ended rest) h = absurd h
  woken_seeds (child n R w c Gone rest) h = woken_seeds rest h.1
  woken_seeds (child n R w c (Trapped place trap) rest) h = absurd h

  woken_some : (cs : Threads) → Sleeps live cs → some_paused cs ≡ true → some_running (woke cs) ≡ true
  woken_some no_threads h g = cc
  woken_some (child n R w c Running rest) h g = absurd h
  woken_some (child n R w c Paused rest) h g = refl
  woken_some (child n R w c Ended rest) h g = absurd h
  woken_some (child n R w c Gone rest) h g = woken_some rest h.1 g
  woken_some (child n R w c (Trapped place trap) rest) h g = absurd h

  woken_awaits : (cs : Threads) → Sleeps live cs → Awaits live (woke cs)
  woken_awaits no_threads h = tt
  woken_awaits (child n R w c Running rest) h = absurd h
  woken_awaits (child n R w c Paused rest) h = woken_awaits rest h.1
  woken_awaits (child n R w c Ended rest) h = absurd h
  woken_awaits (child n R w c Gone rest) h = (h.0, woken_awaits rest h.1)
  woken_awaits (child n R w c (Trapped place trap) rest) h = absurd h

  -- a fork with some branch is one
  waking_is : (bs : List ℕ) (cs : Threads) (to : ℕ) (p : Point) (fs : List Frame) (o : Own) (u : ℕ) → bs ≡ running_in cs → some_running cs ≡ true →
      waking (kernel_code k) t bs to p fs o u ≡ Waits (awaited bs (wakes (kernel_code k) t o.copies bs) p to p.stack) o u
  waking_is [] cs to p fs o u e some = absurd (nobody cs some (sym e))
    where
      nobody : (cs : Threads) → some_running cs ≡ true → running_in cs ≡ [] → ⊥
      nobody no_threads some e = cc
      nobody (child n R w c Running rest) some e = cc
      nobody (child n R w c Paused rest) some e = nobody rest some e
      nobody (child n R w c Ended rest) some e = nobody rest some e
      nobody (child n R w c Gone rest) some e = nobody rest some e
      nobody (child n R w c (Trapped place trap) rest) some e = nobody rest some e
  waking_is (b ∷ bs) cs to p fs o u e some = refl

module _ (k : PlainKernel) (t : ℕ) (run : CallsRun (kernel_code k) t (ok k) (call k)) (s : List Instruction) where
  abbrev o : Owner
  o = record { kernel = k; uses = uses_of k t }

  abbrev seen : Store → Expr → Value
  seen st e = evaluated o st.words st.copies e

  -- the machine does what the waking of a text does
  abbrev pub FollowsWoken : Around → ℕ → Store → List ℕ → Marks → Machine → ℕ → Woken → Type 0
  FollowsWoken a q st c f m u (Wakes R v) = ReachesText k t s true a R q st c f m (u + v)
  FollowsWoken a q st c f m u (Stays place trap v) = Comes (kernel_code k) t m (Trapped place trap (u + v))

  woken_from : (a : Around) (q : ℕ) (st : Store) (c : List ℕ) (f : Marks) (m m1 : Machine) (u : ℕ) (w : Woken) → Comes (kernel_code k) t m m1 → FollowsWoken a q st c f m1 u w → FollowsWoken a q st c f m u w
  woken_from a q st c f m m1 u (Wakes R v) h g = goes_from k t s h g
  woken_from a q st c f m m1 u (Stays place trap v) h g = comes_on (kernel_code k) t h g

  woken_after : (a : Around) (q : ℕ) (st : Store) (c : List ℕ) (f : Marks) (m : Machine) (v u : ℕ) (w : Woken) → FollowsWoken a q st c f m (u + v) w → FollowsWoken a q st c f m u (more_woken v w)
  woken_after a q st c f m v u (Wakes R x) g = let e : u + v + x ≡ u + (v + x) = omega arith in goes_at k t s e g
  woken_after a q st c f m v u (Stays place trap x) g = let e : u + v + x ≡ u + (v + x) = omega arith in comes_at (kernel_code k) t (ap (Trapped place trap) e) g

  woken_by : (a : Around) (q : ℕ) (st : Store) (c : List ℕ) (f : Marks) (m : Machine) (u : ℕ) (mid : ℤ → ℕ → Machine) (r : Value) (go : ℤ → Woken) → Yields (kernel_code k) t m u mid r → ((n : ℤ) (w : ℕ) → FollowsWoken a q st c f (mid n w) w (go n)) → FollowsWoken a q st c f m u (woken_with r go)
  woken_by a q st c f m u mid (Gives n v) go g h = woken_after a q st c f m v u (go n) (woken_from a q st c f m (mid n (u + v)) (u + v) (go n) g (h n (u + v)))
  woken_by a q st c f m u mid (Raises place trap v) go g h = g

  -- ---- what the prologue has

  pub prologue_stands : (R : RunningText) (a : Around) (w q : ℕ) (live : List Bool) → WakeAt k t s a R w q live → HasAt s w (prologue w a)
  prologue_stands Done a w q live h = absurd h
  prologue_stands (Run x) a w q live h = absurd h
  prologue_stands (Then R (Go_on list)) a w q live h = prologue_stands R a w h.0 live h.1
  prologue_stands (Then R (Again loop)) a w q live h = outer loop.bound (prologue_stands R (inner loop.bound a) w h.0 live h.1)
    where
      outer : (n : Option ℕ) → HasAt s w (prologue w (inner n a)) → HasAt s w (prologue w a)
      outer None g = g
      outer (Some n) g = has_front s w (prologue w a) _ g
  prologue_stands (Turning loop) a w q live h = absurd h
  prologue_stands Resting a w q live h = h.0
  prologue_stands (Fork cs) a w q live h = absurd h
  prologue_stands (Held cs) a w q live h = h.3.start
  prologue_stands (Watch weak e R) a w q live h = has_front s w (prologue w a) _ (prologue_stands R (InAbort weak e h.0 a) w h.0 live h.1)
  prologue_stands (Last R) a w q live h = absurd h

  -- ---- in a context

  woken_go_on : (W : Woken) (b : After) (a : Around) (m q : ℕ) (st : Store) (c : List ℕ) (f : Marks) (mach : Machine) (u : ℕ) → BehindAt k t s a (refilled b) m q → Turns_left a (refilled b) c → FollowsWoken (inside a (refilled b)) m st c f mach u W → FollowsWoken a q st c f mach u (woken_in (λ R'. Then R' (refilled b)) W)
  woken_go_on (Wakes R v) b a m q st c f mach u h l g = goes_then k t s true (refilled b) a R m q st c f mach (u + v) h l g
  woken_go_on (Stays place trap v) b a m q st c f mach u h l g = g

  woken_under : (a : Around) (q : ℕ) (st : Store) (c c1 : List ℕ) (f f1 : Marks) (m : Machine) (u : ℕ) (W : Woken) → SameBelow (loops a) (weaks a) c c1 f f1 → FollowsWoken a q st c1 f1 m u W → FollowsWoken a q st c f m u W
  woken_under a q st c c1 f f1 m u (Wakes R v) b g = goes_under k t s b g
  woken_under a q st c c1 f f1 m u (Stays place trap v) b g = g

  -- a loop whose turn it is gets its turns again
  woken_again : (n : Option ℕ) (e : Expr) (x : Stmt) (place : Place) (W : Woken) (a : Around) (w m q : ℕ) (st : Store) (c : List ℕ) (f : Marks) (u : ℕ) → BehindAt k t s a (Again (record { test = e; bound = n; left = n; body = x; place = place })) m q →
      HasAt s w (prologue w (inner n a)) → ((c1 : List ℕ) → FollowsWoken (inner n a) m st c1 f (on k t s (w + length (prologue w (inner n a))) st c1 f u) u W) →
      FollowsWoken a q st c f (on k t s (w + length (prologue w a)) st c f u) u (woken_in (λ R'. Then R' (Again (record { test = e; bound = n; left = n; body = x; place = place }))) W)
  woken_again None e x place W a w m q st c f u h has g = woken_go_on W (Again (record { test = e; bound = None; left = None; body = x; place = place })) a m q st c f _ u h tt (g c)
  woken_again (Some n) e x place W a w m q st c f u h has g =
      let p = w + length (prologue w a) in
      let i = loops a in
      let c1 = put_at 0 c i n in
      let len : p + 1 ≡ w + length (prologue w (InLoop n a)) = omega (arith, length-append (prologue w a) (instruction.Fill i n ∷ [])) in
      let at = (has_back s w (prologue w a) _ has).0 in
      let fill : Comes (kernel_code k) t (on k t s p st c f u) (on k t s (w + length (prologue w (InLoop n a))) st c1 f u) =
      comes_on (kernel_code k) t (one (kernel_code k) t (instruction.Fill i n) (point s p [] st.words c) [] (own st f) u at) ((ends_here k t s _ _ len).by st c1 f u) in
      let loop : Loop = record { test = e; bound = Some n; left = Some n; body = x; place = place } in
      woken_under a q st c c1 f f _ u (woken_in (λ R'. Then R' (Again loop)) W)
      (record { counters = λ j lt. put_other 0 c i n j (λ e. omega arith); flags = λ j lt. refl })
      (woken_go_on W (Again loop) a m q st c1 f _ u h (put_same 0 c i n) (woken_from (InLoop n a) m st c1 f _ _ u W fill (g c1)))

  -- inside a strong abort
  strong_tested : (b : Bool) (e : Expr) (W : Woken) (a : Around) (j x q : ℕ) (st : Store) (c : List ℕ) (f : Marks) (m : Machine) (u : ℕ) → Ends k t s x q → Fits (kernel_code k) (ok k) e → Comes (kernel_code k) t m (on k t s (cond b j x) st c f (u + 1)) →
      FollowsWoken (InAbort false e x a) x st c f (on k t s j st c f (u + 1)) (u + 1) W → FollowsWoken a q st c f m (u + 1) (cond b (woken_in (Watch false e) W) (Wakes Done 0))
  strong_tested true e (Wakes R v) a j x q st c f m u ends fit h g =
      goes_watch k t s true false e a R x q st c f m (u + 1 + v) ends fit tt (goes_from k t s h g)
  strong_tested true e (Stays place trap v) a j x q st c f m u ends fit h g = comes_on (kernel_code k) t h g
  strong_tested false e W a j x q st c f m u ends fit h g = goes k t s true a Done x q st c f m (u + 1 + 0) ends (none_more k t s x st c f m (u + 1) h)

  -- inside a weak abort, whose flag was kept
  weak_tested : (b : Bool) (e : Expr) (W : Woken) (a : Around) (x q : ℕ) (st : Store) (c : List ℕ) (f : Marks) (m : Machine) (u : ℕ) → Ends k t s x q → Fits (kernel_code k) (ok k) e →
      FollowsWoken (InAbort true e x a) x st c (record { flags = put_at false f.flags (weaks a) (not b); live = f.live }) m u W → FollowsWoken a q st c f m u (cond b (woken_in (Watch true e) W) (woken_in Last W))
  weak_tested true e (Wakes R v) a x q st c f m u ends fit g =
      let f1 : Marks = record { flags = put_at false f.flags (weaks a) false; live = f.live } in
      goes_under k t s (record { counters = λ i lt. refl; flags = λ i lt. put_other false f.flags (weaks a) false i (λ e. omega arith) })
      (goes_watch k t s true true e a R x q st c f1 m (u + v) ends fit (put_same false f.flags (weaks a) false) g)
  weak_tested false e (Wakes R v) a x q st c f m u ends fit g =
      let f1 : Marks = record { flags = put_at false f.flags (weaks a) true; live = f.live } in
      goes_under k t s (record { counters = λ i lt. refl; flags = λ i lt. put_other false f.flags (weaks a) true i (λ e. omega arith) })
      (goes_last k t s true e a R x q st c f1 m (u + v) ends (put_same false f.flags (weaks a) true) g)
  weak_tested true e (Stays place trap v) a x q st c f m u ends fit g = g
  weak_tested false e (Stays place trap v) a x q st c f m u ends fit g = g

  -- a held fork wakes its branches
  held_wakes : (cs : Threads) (a : Around) (j w q : ℕ) (st : Store) (c : List ℕ) (f : Marks) (u : ℕ) → branches_in k.shape j ≡ numbers cs → distinct (numbers cs) ≡ true → HeldAt k t s a j w q → Rests k t s cs f.live →
      FollowsWoken a q st c f (on k t s (w + length (prologue w a)) st c f u) u (woken k (uses_of k t) st.words st.copies (Held (erased_threads cs)))
  held_wakes cs a j w q st c f u named apart held rests =
      let g = w + length (prologue w a) in
      let new = woken_children k (uses_of k t) st.copies (erased_threads cs) in
      let same = woken_numbers k t st.copies f.live cs rests.sleeps in
      let free : u ≡ u + new.units = omega (arith, woken_free k t st.copies f.live cs rests.sleeps) in
      let some = woken_some k t st.copies f.live cs rests.sleeps rests.some in
      let running : living f.live (branches_in k.shape j) ≡ running_in new.children = ap (living f.live) named ∙ woken_living k t st.copies f.live cs rests.sleeps in
      let p = point s g [] st.words c in
      let comes : waking (kernel_code k) t (living f.live (branches_in k.shape j)) held.to p [] (own st f) u ≡ machine_at k t s true new.children (At_fork (g + 1) held.to) st c f u =
      waking_is k t st.copies f.live (living f.live (branches_in k.shape j)) new.children held.to p [] (own st f) u running some
      ∙ ap (λ bs. Waits (awaited bs (wakes (kernel_code k) t st.copies bs) p held.to []) (own st f) u) running
      ∙ ap (λ seeds. Waits (awaited (running_in new.children) seeds p held.to []) (own st f) u) (woken_seeds k t st.copies f.live cs rests.sleeps) in
      record {
        at = At_fork (g + 1) held.to;
        c' = c;
        f' = f;
        comes = comes_at (kernel_code k) t (comes ∙ ap (machine_at k t s true new.children (At_fork (g + 1) held.to) st c f) free) (one (kernel_code k) t (instruction.Again j held.to) p [] (own st f) u held.again);
        here = (
          record { j = j; named = named ∙ sym same; apart = subst (λ l. distinct l ≡ true) (sym same) apart; w = w; ends = held.ends; pause = held.pause; held = held },
          record { some = some; awaits = woken_awaits k t st.copies f.live cs rests.sleeps },
        );
        below = same_below (loops a) (weaks a) c f;
      }

  abort_prologue : (weak : Bool) (e : Expr) (x : ℕ) (a : Around) (w : ℕ) → w + length (prologue w a) + length (expression_code (w + length (prologue w a)) e) + 1 ≡ w + length (prologue w (InAbort weak e x a))
  abort_prologue weak e x a w =
      let outer = prologue w a in
      let ce = expression_code (w + length outer) e in
      let g = guard weak (weaks a) x ∷ [] in
      omega (arith, length-append outer (ce ++ g), length-append ce g)

  -- the machine does the waking of a text
  pub wake_runs : (R : RunningText) (a : Around) (w q : ℕ) (st : Store) (c : List ℕ) (f : Marks) (u : ℕ) → WakeAt k t s a R w q f.live → FollowsWoken a q st c f (on k t s (w + length (prologue w a)) st c f u) u (woken k (uses_of k t) st.words st.copies (erased R))
  wake_runs Done a w q st c f u h = absurd h
  wake_runs (Run x) a w q st c f u h = absurd h
  wake_runs (Then R (Go_on list)) a w q st c f u h = woken_go_on (woken k (uses_of k t) st.words st.copies (erased R)) (Go_on list) a h.0 q st c f _ u h.2 tt (wake_runs R a w h.0 st c f u h.1)
  wake_runs (Then R (Again loop)) a w q st c f u h =
      let l = h.2.2 in
      woken_again loop.bound loop.test loop.body loop.place (woken k (uses_of k t) st.words st.copies (erased R)) a w h.0 q st c f u
      (h.2.0, h.2.1, record { has = l.has; ends = l.ends; fits = l.fits; body = l.body })
      (prologue_stands R (inner loop.bound a) w h.0 f.live h.1)
      (λ c1. wake_runs R (inner loop.bound a) w h.0 st c1 f u h.1)
  wake_runs (Turning loop) a w q st c f u h = absurd h
  wake_runs Resting a w q st c f u h = goes k t s true a Done (w + length (prologue w a)) q st c f _ (u + 0) h.1 (none_more k t s _ st c f _ u (stays (kernel_code k) t _))
  wake_runs (Fork cs) a w q st c f u h = absurd h
  wake_runs (Held cs) a w q st c f u h = held_wakes cs a h.0 w q st c f u h.1 h.2 h.3 h.4
  wake_runs (Watch false e R) a w q st c f u h =
      let x = h.0 in
      let p = w + length (prologue w a) in
      let ce = expression_code p e in
      let j = p + length ce in
      let W = woken k (uses_of k t) st.words st.copies (erased R) in
      let has = has_back s w (prologue w a) _ (prologue_stands R (InAbort false e x a) w x f.live h.1) in
      let j' = w + length (prologue w (InAbort false e x a)) in
      let len : j + 1 ≡ j' = abort_prologue false e x a w in
      woken_by a q st c f (on k t s p st c f u) u (λ n v. On (point s j (n ∷ []) st.words c) [] (own st f) v) (seen st e) (λ n. more_woken 1 (watched_on false e n W))
      (expression_runs (kernel_code k) t (call k) (ok k) run s st.words c [] (own st f) e p [] u h.3 (has_front s p ce _ has))
      (λ n v. woken_after a q st c f (On (point s j (n ∷ []) st.words c) [] (own st f) v) 1 v (watched_on false e n W)
      (strong_tested (is_zero n) e W a j' x q st c f (On (point s j (n ∷ []) st.words c) [] (own st f) v) v h.2 h.3
      (subst (λ y. Comes (kernel_code k) t (On (point s j (n ∷ []) st.words c) [] (own st f) v) (on k t s (cond (is_zero n) y x) st c f (v + 1))) len
      (one (kernel_code k) t (instruction.NonZero x) (point s j (n ∷ []) st.words c) [] (own st f) v (has_back s p ce _ has).0))
      (wake_runs R (InAbort false e x a) w x st c f (v + 1) h.1)))
  wake_runs (Watch true e R) a w q st c f u h =
      let x = h.0 in
      let p = w + length (prologue w a) in
      let ce = expression_code p e in
      let j = p + length ce in
      let W = woken k (uses_of k t) st.words st.copies (erased R) in
      let has = has_back s w (prologue w a) _ (prologue_stands R (InAbort true e x a) w x f.live h.1) in
      let j' = w + length (prologue w (InAbort true e x a)) in
      let len : j + 1 ≡ j' = abort_prologue true e x a w in
      woken_by a q st c f (on k t s p st c f u) u (λ n v. On (point s j (n ∷ []) st.words c) [] (own st f) v) (seen st e) (λ n. more_woken 1 (watched_on true e n W))
      (expression_runs (kernel_code k) t (call k) (ok k) run s st.words c [] (own st f) e p [] u h.3 (has_front s p ce _ has))
      (λ n v.
      let f1 : Marks = record { flags = put_at false f.flags (weaks a) (not (is_zero n)); live = f.live } in
      woken_after a q st c f (On (point s j (n ∷ []) st.words c) [] (own st f) v) 1 v (watched_on true e n W)
      (weak_tested (is_zero n) e W a x q st c f (On (point s j (n ∷ []) st.words c) [] (own st f) v) (v + 1) h.2 h.3
      (woken_from (InAbort true e x a) x st c f1 (On (point s j (n ∷ []) st.words c) [] (own st f) v) (on k t s j' st c f1 (v + 1)) (v + 1) W
      (comes_on (kernel_code k) t (one (kernel_code k) t (instruction.Keep (weaks a)) (point s j (n ∷ []) st.words c) [] (own st f) v (has_back s p ce _ has).0) ((ends_here k t s _ _ len).by st c f1 (v + 1)))
      (wake_runs R (InAbort true e x a) w x st c f1 (v + 1) h.1))))
  wake_runs (Last R) a w q st c f u h = absurd h

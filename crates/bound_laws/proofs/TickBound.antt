-- No tick takes more units than the bound.
use Rattle.std.proofs.Common.{ℕ, suc, ◌+◌, ◌≤◌, ◌≡◌, ◌≢◌, nat_lt, ℤ, Bool, true, false, not, ◌||◌, List, [], ◌∷◌, length, refl, sym, subst, arith}
use Rattle.std.proofs.lemmas.Bool.Decides.{nat_tests}
use Rattle.forec_kernel.specs.declared.shape.VarCopy.{VarCopy}
use Rattle.forec_kernel.specs.declared.shape.Outcome.TheVariants as outcome
use Rattle.forec_kernel.specs.Shapes.{PlainKernel}
use Rattle.forec_kernel.specs.Values.{fresh_words}
use Rattle.forec_kernel.specs.Texts.{Status, Running, Paused, Ended, Gone, Trapped, RunningText, Thread, is_running, uses_of, words_of}
use Rattle.forec_kernel.specs.Steps.{Path, Move, Finished, Halts, Moves, Traps, text_move, Woken, Wakes, Stays, text_if, status_of, waking_units, woken}
use Rattle.forec_kernel.specs.Ticks.{Going, is_stopped, moved, tick_step, steps_along, TickState, Fresh, After_tick, Tick, unmarked, with_row, start_copies, begin, concluded, goes_on, outcome_of, values_of, tick, run_from}
use Rattle.forec_kernel.specs.WellFormed.{WellFormed}
use Rattle.forec_kernel.proofs.Ends.{tick_is}
use Rattle.tick_bounds.specs.Bound.{thread_bound, worst_case}
use Rattle.bound_laws.specs.Paced.{Paced}
use Rattle.bound_laws.specs.Laws.{IsReachable, at_first, after, NoneOver, TickWithinBound, NeverOver, RunsNeverOver}
use Rattle.bound_laws.proofs.Lengths.{fresh_length}
use Rattle.bound_laws.proofs.Within.{Leaves, AfterWake, Rests, AfterMove, Within}
use Rattle.bound_laws.proofs.Bodies.{thread_within_bound}

module _ (k : PlainKernel) where
  abbrev Stands : ℕ → ℕ → RunningText → List ℤ → List VarCopy → Type 0
  Stands = Within k (uses_of k 0) (thread_bound k 0)

  abbrev Sleeps : ℕ → RunningText → List ℤ → Type 0
  Sleeps m R w = Rests k (uses_of k 0) (Stands m) (thread_bound k 0) R w

  -- thread 0 during a tick, after u units
  abbrev pub StatusWithin : ℕ → RunningText → List ℤ → List VarCopy → Status → Type 0
  StatusWithin u R w c Running = (m : ℕ) → Leaves (Stands m) (thread_bound k 0) u R w c
  StatusWithin u R w c Paused = (u ≤ thread_bound k 0) × ((m : ℕ) → Sleeps m R w)
  StatusWithin u R w c Ended = u ≤ thread_bound k 0
  StatusWithin u R w c Gone = u ≤ thread_bound k 0
  StatusWithin u R w c (Trapped place trap) = u ≤ thread_bound k 0

  pub record GoingWithin (g : Going) : Type 0 where
    pub number : g.thread.number ≡ 0
    pub stands : StatusWithin g.units g.thread.text g.thread.words g.thread.copies g.thread.status

  units_within : (u : ℕ) (R : RunningText) (w : List ℤ) (c : List VarCopy) (st : Status) → StatusWithin u R w c st → u ≤ thread_bound k 0
  units_within u R w c Running h = let fits = (h 0).fits in omega arith
  units_within u R w c Paused h = h.0
  units_within u R w c Ended h = h
  units_within u R w c Gone h = h
  units_within u R w c (Trapped place trap) h = h

  -- ---- a step

  pub record MovesWithin (u m : ℕ) (R : RunningText) (w : List ℤ) (mv : Move) : Type 0 where
    pub left : ℕ
    pub fits : u + left ≤ thread_bound k 0
    pub move : AfterMove (Stands m) (Sleeps m R w) left mv

  moved_within : (t u : ℕ) (R : RunningText) (w : List ℤ) (c : List VarCopy) → t ≡ 0 → (mv : Move) → ((m : ℕ) → MovesWithin u m R w mv) →
      GoingWithin (moved (record { thread = record { number = t; text = R; words = w; copies = c; status = Running }; units = u }) mv)
  moved_within t u R w c e Finished h = let fits = (h 0).fits in record { number = e; stands = omega arith }
  moved_within t u R w c e Halts h =
      let fits = (h 0).fits in
      let few : u + 0 ≤ thread_bound k 0 = omega arith in
      record { number = e; stands = (few, λ m. (h m).move) }
  moved_within t u R w c e (Moves R' w' c' v) h =
      record {
        number = e;
        stands = λ m. let g = h m in
            let next = g.move in
            let fits = g.fits in
            let fits' = next.fits in
            record { left = next.left; fits = omega arith; goes = next.goes };
      }
  moved_within t u R w c e (Traps place trap v) h =
      let fits = (h 0).fits in
      let few = (h 0).move in
      record { number = e; stands = omega arith }

  step_within : (budget : ℕ) (path : Path) (t u : ℕ) (R : RunningText) (w : List ℤ) (c : List VarCopy) (st : Status) → t ≡ 0 → StatusWithin u R w c st →
      GoingWithin
      (tick_step k budget path (record { thread = record { number = t; text = R; words = w; copies = c; status = st }; units = u }))
  step_within budget path t u R w c Running e h = pick (nat_lt budget u)
    where
      pick : (b : Bool) →
          GoingWithin
          (elim b [
            | true ↦ record { thread = record { number = t; text = R; words = w; copies = c; status = Running }; units = u }
            | false ↦
                moved (record { thread = record { number = t; text = R; words = w; copies = c; status = Running }; units = u })
                (text_move k path (uses_of k t) w c R)
          ])
      pick true = record { number = e; stands = h }
      pick false =
          moved_within t u R w c e (text_move k path (uses_of k t) w c R)
          (λ m. record {
            left = (h (suc m)).left;
            fits = (h (suc m)).fits;
            move = subst (λ i. AfterMove (Stands m) (Sleeps m R w) (h (suc m)).left (text_move k path (uses_of k i) w c R)) (sym e)
                ((h (suc m)).goes path);
          })
  step_within budget path t u R w c Paused e h = record { number = e; stands = h }
  step_within budget path t u R w c Ended e h = record { number = e; stands = h }
  step_within budget path t u R w c Gone e h = record { number = e; stands = h }
  step_within budget path t u R w c (Trapped place trap) e h = record { number = e; stands = h }

  pub steps_within : (budget : ℕ) (order : List Path) (g : Going) → GoingWithin g → GoingWithin (steps_along k budget order g)
  steps_within budget [] g h = h
  steps_within budget (path ∷ order) g h =
      steps_within budget order (tick_step k budget path g)
      (step_within budget path g.thread.number g.units g.thread.text g.thread.words g.thread.copies g.thread.status h.number h.stands)

  pub going_units : (g : Going) → GoingWithin g → g.units ≤ thread_bound k 0
  going_units g h = units_within g.units g.thread.text g.thread.words g.thread.copies g.thread.status h.stands

  -- ---- between ticks

  abbrev pub StateWithin : TickState → Type 0
  StateWithin Fresh = Unit {0}
  StateWithin (After_tick t) = (t.number ≡ 0) × ((m : ℕ) → Sleeps m t.text t.words)

  wakes_within : (t : ℕ) (R : RunningText) (w : List ℤ) (c : List VarCopy) → t ≡ 0 → (r : Woken) → ((m : ℕ) → AfterWake (Stands m) (thread_bound k 0) w c r) →
      GoingWithin
      (record {
        thread = record { number = t; text = text_if R r; words = w; copies = c; status = status_of r };
        units = waking_units r;
      })
  wakes_within t R w c e (Wakes R' u) h = record { number = e; stands = h }
  wakes_within t R w c e (Stays place trap u) h = record { number = e; stands = h 0 }

  begin_within : WellFormed k → Paced k → (old : TickState) (row : List ℤ) → StateWithin old → GoingWithin (begin k old row)
  begin_within wf paced Fresh row h =
      record {
        number = refl;
        stands = λ m. record {
          left = thread_bound k 0;
          fits = omega arith;
          goes = thread_within_bound k wf paced (length k.threads) 0 (omega arith) m (fresh_words [] (words_of k 0))
              (with_row (uses_of k 0) k.shape.inputs row (start_copies k.shape.variables)) (fresh_length [] (words_of k 0) (omega arith));
        };
      }
  begin_within wf paced (After_tick t) row h =
      let copies = with_row (uses_of k 0) k.shape.inputs row (unmarked t.copies) in
      wakes_within t.number t.text t.words copies h.0 (woken k (uses_of k 0) t.words copies t.text) (λ m. h.1 m copies)

  concluded_case : (old : TickState) (t u : ℕ) (R : RunningText) (w : List ℤ) (c : List VarCopy) (st : Status) (outputs : List ℤ) → t ≡ 0 →
      StatusWithin u R w c st → (b : Bool) →
      let r : Tick =
      elim b [
        | true ↦ record { outcome = outcome.Over; outputs = []; state = old }
        | false ↦ record {
          outcome = outcome_of st;
          outputs = outputs;
          state = After_tick (record { number = t; text = R; words = w; copies = c; status = st });
        }
      ] in
      goes_on r.outcome ≡ true → StateWithin r.state
  concluded_case old t u R w c st outputs e h true g = cc
  concluded_case old t u R w c Running outputs e h false g = cc
  concluded_case old t u R w c Paused outputs e h false g = (e, h.1)
  concluded_case old t u R w c Ended outputs e h false g = cc
  concluded_case old t u R w c Gone outputs e h false g = cc
  concluded_case old t u R w c (Trapped place trap) outputs e h false g = cc

  concluded_within : (budget : ℕ) (old : TickState) (g : Going) → GoingWithin g → goes_on (concluded k budget old g).outcome ≡ true →
      StateWithin (concluded k budget old g).state
  concluded_within budget old g h =
      concluded_case old g.thread.number g.units g.thread.text g.thread.words g.thread.copies g.thread.status
      (values_of (uses_of k 0) g.thread.copies k.shape.outputs) h.number h.stands (nat_lt budget g.units)

  -- a tick that some order of steps gives, within the bound
  pub tick_state : WellFormed k → Paced k → (budget : ℕ) (old : TickState) (row : List ℤ) → StateWithin old →
      goes_on (tick k budget old row).outcome ≡ true → StateWithin (tick k budget old row).state
  tick_state wf paced budget old row h =
      let ticks = tick_is k budget old row in
      let g = steps_along k budget ticks.order (begin k old row) in
      subst (λ t. goes_on t.outcome ≡ true → StateWithin t.state) (sym ticks.gives)
      (concluded_within budget old g (steps_within budget ticks.order (begin k old row) (begin_within wf paced old row h)))

  pub reached_within : WellFormed k → Paced k → (s : TickState) → IsReachable k s → StateWithin s
  reached_within wf paced s at_first = tt
  reached_within wf paced s (after budget old row r e) = tick_state wf paced budget old row (reached_within wf paced old r) e

  -- ---- never over

  not_over : (old : TickState) (thread : Thread) (u budget : ℕ) (outputs : List ℤ) (st : Status) → u ≤ budget →
      (not (is_running st) || nat_lt budget u) ≡ true → (b : Bool) → nat_lt budget u ≡ b →
      let r : Tick =
      elim b [
        | true ↦ record { outcome = outcome.Over; outputs = []; state = old }
        | false ↦ record { outcome = outcome_of st; outputs = outputs; state = After_tick thread }
      ] in
      r.outcome ≢ outcome.Over
  not_over old thread u budget outputs st few stops true e = absurd (grind (arith, nat_tests))
  not_over old thread u budget outputs Running few stops false e = λ x. cc
  not_over old thread u budget outputs Paused few stops false e = λ x. cc
  not_over old thread u budget outputs Ended few stops false e = λ x. cc
  not_over old thread u budget outputs Gone few stops false e = λ x. cc
  not_over old thread u budget outputs (Trapped place trap) few stops false e = λ x. cc

  concluded_not_over : (budget : ℕ) (old : TickState) (g : Going) → g.units ≤ budget → is_stopped budget g ≡ true →
      (concluded k budget old g).outcome ≢ outcome.Over
  concluded_not_over budget old g few stops =
      not_over old g.thread g.units budget (values_of (uses_of k 0) g.thread.copies k.shape.outputs) g.thread.status few stops
      (nat_lt budget g.units) refl

  pub tick_not_over : WellFormed k → Paced k → (budget : ℕ) → thread_bound k 0 ≤ budget → (old : TickState) → StateWithin old → (row : List ℤ) →
      (tick k budget old row).outcome ≢ outcome.Over
  tick_not_over wf paced budget fits old h row =
      let ticks = tick_is k budget old row in
      let g = steps_along k budget ticks.order (begin k old row) in
      let few : g.units ≤ thread_bound k 0 = going_units g (steps_within budget ticks.order (begin k old row) (begin_within wf paced old row h)) in
      subst (λ t. t.outcome ≢ outcome.Over) (sym ticks.gives) (concluded_not_over budget old g (omega arith) ticks.stops)

  -- ---- whole runs

  pub run_not_over : WellFormed k → Paced k → (budget : ℕ) → thread_bound k 0 ≤ budget → (rows : List (List ℤ)) (old : TickState) → StateWithin old →
      NoneOver (run_from k budget old rows)
  run_not_over wf paced budget fits [] old h = tt
  run_not_over wf paced budget fits (row ∷ rows) old h =
      let t = tick k budget old row in
      later t (tick_not_over wf paced budget fits old h row) (tick_state wf paced budget old row h)
      (λ s x. run_not_over wf paced budget fits rows s x)
    where
      later : (t : Tick) → t.outcome ≢ outcome.Over → (goes_on t.outcome ≡ true → StateWithin t.state) →
          ((s : TickState) → StateWithin s → NoneOver (run_from k budget s rows)) →
          NoneOver (elim (goes_on t.outcome) [ true ↦ t ∷ run_from k budget t.state rows | false ↦ t ∷ [] ])
      later t h g ih = pick (goes_on t.outcome) g
        where
          pick : (b : Bool) → (b ≡ true → StateWithin t.state) →
              NoneOver (elim b [ true ↦ t ∷ run_from k budget t.state rows | false ↦ t ∷ [] ])
          pick true g' = (h, ih t.state (g' refl))
          pick false g' = (h, tt)

pub within_bound : TickWithinBound
unfolding worst_case
within_bound k wf paced old r row budget order =
    going_units k (steps_along k budget order (begin k old row))
    (steps_within k budget order (begin k old row) (begin_within k wf paced old row (reached_within k wf paced old r)))

pub never_over : NeverOver
unfolding worst_case
never_over k wf paced budget fits old r row = tick_not_over k wf paced budget fits old (reached_within k wf paced old r) row

pub runs_never_over : RunsNeverOver
unfolding worst_case
runs_never_over k wf paced budget fits rows = run_not_over k wf paced budget fits rows Fresh tt

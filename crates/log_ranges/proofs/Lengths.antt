-- How many copies thread 0 has, and how many values its jobs have.
use Rattle.std.proofs.Common.{ℕ, zero, suc, ◌+◌, ◌≡◌, ◌==◌, ℤ, Bool, true, false, cond, Option, None, Some, List, [], ◌∷◌, length, get_or, refl, sym, ap, ◌∙◌}
use Rattle.forec_base.specs.Numbers.{is_zero}
use Rattle.forec_base.specs.declared.Place.{Place}
use Rattle.forec_base.specs.declared.Trap.{Trap}
use Rattle.forec_kernel.specs.declared.terms.Spot.{Spot}
use Rattle.forec_kernel.specs.declared.terms.Spot.TheVariants as spot
use Rattle.forec_kernel.specs.declared.shape.VarCopy.{VarCopy}
use Rattle.forec_kernel.specs.declared.shape.Variable.{Variable}
use Rattle.forec_kernel.specs.Terms.{Expr, Branch, Stmt, Nop, Set, SetAt, PutAt, Clear, Seq, If, While, Pause, Par, Enter, Return}
use Rattle.forec_kernel.specs.Shapes.{PlainKernel, PlainThread}
use Rattle.forec_kernel.specs.Values.{Value, Gives, Raises, setting, index_in}
use Rattle.forec_kernel.specs.Texts.{Loop, After, RunningText, Done, Run, Then, Turning, Resting, Fork, Held, Watch, Last, Threads, Thread, some_running, first_trap, uses_of, params_in, put_copy, text_of}
use Rattle.forec_kernel.specs.Combining.{Cost, Costs, Fails, join_cost, joined_copies}
use Rattle.forec_kernel.specs.Steps.{Owner, evaluated, Move, Finished, Halts, Moves, Traps, more_move, move_with, assigned, assigned_at, shared_at, turned_loop, entered_abort, Arguments, Ready, Refused, arguments, forked, statement_move, loop_move, combined, joined, move_before, move_watched, move_last, Path, path_below, child_place, text_move, child_move, thread_move}
use Rattle.forec_kernel.specs.Ticks.{Going, moved, TickState, Fresh, After_tick, start_copies, unmarked, with_row, begin, tick}
use Rattle.forec_kernel.specs.Solo.{values_in}
use Rattle.forec_kernel.specs.WellFormed.{WellFormed, blank_thread, count_up}
use Rattle.forec_kernel.specs.Composed.{TickInput, tick_job}
use Rattle.thread_code.specs.Laws.{FitsThread}
use Rattle.value_ranges.proofs.Kept.{StateHas, tick_keeps}

-- ---- lists of copies

put_length : (uses : List ℕ) (copies : List VarCopy) (v : ℕ) (x : VarCopy) → length (put_copy uses copies v x) ≡ length copies
put_length [] copies v x = refl
put_length (u ∷ uses) [] v x = refl
put_length (u ∷ uses) (c ∷ copies) v x = pick (u == v) (put_length uses copies v x)
  where
    pick : (b : Bool) → length (put_copy uses copies v x) ≡ length copies → length (cond b (x ∷ copies) (c ∷ put_copy uses copies v x)) ≡ suc (length copies)
    pick true e = refl
    pick false e = ap suc e

row_length : (uses inputs : List ℕ) (row : List ℤ) (copies : List VarCopy) → length (with_row uses inputs row copies) ≡ length copies
row_length uses [] row copies = refl
row_length uses (v ∷ vs) [] copies = refl
row_length uses (v ∷ vs) (n ∷ ns) copies =
    let x : VarCopy = record { value = n; modified = false } in row_length uses vs ns (put_copy uses copies v x) ∙ put_length uses copies v x

start_length : (vs : List Variable) → length (start_copies vs) ≡ length vs
start_length [] = refl
start_length (v ∷ vs) = ap suc (start_length vs)

unmarked_length : (copies : List VarCopy) → length (unmarked copies) ≡ length copies
unmarked_length [] = refl
unmarked_length (c ∷ copies) = ap suc (unmarked_length copies)

values_length : (copies : List VarCopy) → length (values_in copies) ≡ length copies
values_length [] = refl
values_length (c ∷ copies) = ap suc (values_length copies)

count_length : (a n : ℕ) → length (count_up a n) ≡ n
count_length a zero = refl
count_length a (suc n) = ap suc (count_length (suc a) n)

joined_length : (k : PlainKernel) (cs : Threads) (uses : List ℕ) (copies : List VarCopy) → length (joined_copies k cs uses copies) ≡ length copies
joined_length k cs [] copies = refl
joined_length k cs (v ∷ uses) [] = refl
joined_length k cs (v ∷ uses) (c ∷ copies) = ap suc (joined_length k cs uses copies)

-- ---- a step keeps how many copies there are

module _ (n : ℕ) where
  abbrev Keeps : Move → Type 0
  Keeps Finished = Unit {0}
  Keeps Halts = Unit {0}
  Keeps (Moves R words copies u) = length copies ≡ n
  Keeps (Traps place trap u) = Unit {0}

  more_keeps : (u : ℕ) (m : Move) → Keeps m → Keeps (more_move u m)
  more_keeps u Finished h = tt
  more_keeps u Halts h = tt
  more_keeps u (Moves R words copies v) h = h
  more_keeps u (Traps place trap v) h = tt

  with_keeps : (v : Value) (go : ℤ → Move) → ((n : ℤ) → Keeps (go n)) → Keeps (move_with v go)
  with_keeps (Gives m u) go g = more_keeps u (go m) (g m)
  with_keeps (Raises place trap u) go g = tt

  module _ (o : Owner) (words : List ℤ) (copies : List VarCopy) (long : length copies ≡ n) where
    assigned_keeps : (to : Spot) (x : ℤ) → Keeps (assigned o words copies to x)
    assigned_keeps (spot.Local slot) x = long
    assigned_keeps (spot.Variable v) x = put_length o.uses copies v (record { value = x; modified = true }) ∙ long

    assigned_at_keeps : (slot : ℕ) (i : Option ℕ) (x : ℤ) (place : Place) → Keeps (assigned_at words copies slot i x place)
    assigned_at_keeps slot (Some i) x place = long
    assigned_at_keeps slot None x place = tt

    shared_at_keeps : (v : ℕ) (i : Option ℕ) (x : ℤ) (place : Place) → Keeps (shared_at o words copies v i x place)
    shared_at_keeps v (Some i) x place = assigned_keeps (spot.Variable (v + i)) x
    shared_at_keeps v None x place = tt

    forked_keeps : (bs : List Branch) (args : Arguments) → Keeps (forked o words copies bs args)
    forked_keeps bs (Ready lists u) = long
    forked_keeps bs (Refused place trap u) = tt

    turned_keeps : (loop : Loop) (left : Option ℕ) → Keeps (turned_loop loop left words copies)
    turned_keeps loop None = long
    turned_keeps loop (Some zero) = tt
    turned_keeps loop (Some (suc m)) = long

    statement_keeps : (s : Stmt) → Keeps (statement_move o words copies s)
    statement_keeps Nop = tt
    statement_keeps (Set to e) = with_keeps (evaluated o words copies e) (λ x. assigned o words copies to x) (λ x. assigned_keeps to x)
    statement_keeps (SetAt slot m i e place) =
        with_keeps (evaluated o words copies i)
        (λ j. move_with (evaluated o words copies e) (λ x. assigned_at words copies slot (index_in m j) x place))
        (λ j. with_keeps (evaluated o words copies e) (λ x. assigned_at words copies slot (index_in m j) x place)
        (λ x. assigned_at_keeps slot (index_in m j) x place))
    statement_keeps (PutAt v m i e place) =
        with_keeps (evaluated o words copies i)
        (λ j. move_with (evaluated o words copies e) (λ x. shared_at o words copies v (index_in m j) x place))
        (λ j. with_keeps (evaluated o words copies e) (λ x. shared_at o words copies v (index_in m j) x place)
        (λ x. shared_at_keeps v (index_in m j) x place))
    statement_keeps (Clear slot m) = long
    statement_keeps (Seq list) = long
    statement_keeps (If e a b) =
        with_keeps (evaluated o words copies e) (λ x. Moves (cond (is_zero x) (text_of b) (text_of a)) words copies 1) (λ x. long)
    statement_keeps (While e bound body place) = long
    statement_keeps Pause = long
    statement_keeps (Par bs) =
        forked_keeps bs (arguments (setting o.kernel) (record { words = words; uses = o.uses; copies = copies }) bs)
    statement_keeps (Enter weak false e body) = long
    statement_keeps (Enter weak true e body) =
        with_keeps (evaluated o words copies e) (λ x. Moves (entered_abort weak e body x) words copies 1) (λ x. long)
    statement_keeps (Return e) = tt

    loop_keeps : (loop : Loop) → Keeps (loop_move o words copies loop)
    loop_keeps loop =
        with_keeps (evaluated o words copies loop.test)
        (λ x. elim (is_zero x) [ true ↦ Moves Done words copies 1 | false ↦ turned_loop loop loop.left words copies ]) (λ x. after_test (is_zero x))
      where
        after_test : (b : Bool) → Keeps (elim b [ true ↦ Moves Done words copies 1 | false ↦ turned_loop loop loop.left words copies ])
        after_test true = long
        after_test false = turned_keeps loop loop.left

    combined_keeps : (cs : Threads) (cost : Cost) → Keeps (combined o words copies cs cost)
    combined_keeps cs (Costs u) = joined_length o.kernel cs o.uses copies ∙ long
    combined_keeps cs (Fails place trap u) = tt

    joined_keeps : (cs : Threads) (t : Option (Place × Trap)) → Keeps (joined o words copies cs t)
    joined_keeps cs (Some p) = tt
    joined_keeps cs None = combined_keeps cs (join_cost o.kernel cs o.uses copies)

    before_keeps : (a : After) (m : Move) → Keeps m → Keeps (move_before a words copies m)
    before_keeps a Finished g = long
    before_keeps a Halts g = tt
    before_keeps a (Moves R words' copies' u) g = g
    before_keeps a (Traps place trap u) g = tt

    watched_keeps : (weak : Bool) (e : Expr) (m : Move) → Keeps m → Keeps (move_watched weak e words copies m)
    watched_keeps weak e Finished g = long
    watched_keeps weak e Halts g = tt
    watched_keeps weak e (Moves R words' copies' u) g = g
    watched_keeps weak e (Traps place trap u) g = tt

    last_keeps : (m : Move) → Keeps m → Keeps (move_last words copies m)
    last_keeps Finished g = long
    last_keeps Halts g = long
    last_keeps (Moves R words' copies' u) g = g
    last_keeps (Traps place trap u) g = tt

  move_keeps : (k : PlainKernel) (path : Path) (uses : List ℕ) (words : List ℤ) (copies : List VarCopy) → length copies ≡ n → (R : RunningText) → Keeps (text_move k path uses words copies R)
  move_keeps k path uses words copies long Done = tt
  move_keeps k path uses words copies long (Run s) = statement_keeps (record { kernel = k; uses = uses }) words copies long s
  move_keeps k path uses words copies long (Then R a) =
      before_keeps (record { kernel = k; uses = uses }) words copies long a (text_move k path uses words copies R) (move_keeps k path uses words copies long R)
  move_keeps k path uses words copies long (Turning loop) = loop_keeps (record { kernel = k; uses = uses }) words copies long loop
  move_keeps k path uses words copies long Resting = tt
  move_keeps k path uses words copies long (Fork cs) = pick (some_running cs)
    where
      pick : (b : Bool) →
          Keeps
          (elim b [
            | true ↦
                let s = child_move k (path_below path cs) (child_place path cs) cs in Moves (Fork s.children) words copies s.units
            | false ↦ joined (record { kernel = k; uses = uses }) words copies cs (first_trap cs)
          ])
      pick true = long
      pick false = joined_keeps (record { kernel = k; uses = uses }) words copies long cs (first_trap cs)
  move_keeps k path uses words copies long (Held cs) = tt
  move_keeps k path uses words copies long (Watch weak e R) =
      watched_keeps (record { kernel = k; uses = uses }) words copies long weak e (text_move k path uses words copies R) (move_keeps k path uses words copies long R)
  move_keeps k path uses words copies long (Last R) =
      last_keeps (record { kernel = k; uses = uses }) words copies long (text_move k path uses words copies R) (move_keeps k path uses words copies long R)

-- ---- ticks

abbrev Long : PlainKernel → Thread → Type 0
Long k t = length t.copies ≡ length k.shape.variables

abbrev pub StateLong : PlainKernel → TickState → Type 0
StateLong k = StateHas (Long k)

module _ (k : PlainKernel) where
  moved_long : (g : Going) (m : Move) → Long k g.thread → Keeps (length k.shape.variables) m → Long k (moved g m).thread
  moved_long g Finished h f = h
  moved_long g Halts h f = h
  moved_long g (Moves R w c u) h f = f
  moved_long g (Traps place trap u) h f = h

  step_long : (g : Going) → Long k g.thread → Long k (moved g (thread_move k [] g.thread)).thread
  step_long g h =
      moved_long g (thread_move k [] g.thread) h
      (move_keeps (length k.shape.variables) k [] (uses_of k g.thread.number) g.thread.words g.thread.copies h g.thread.text)

  begin_long : (old : TickState) (row : List ℤ) → StateLong k old → Long k (begin k old row).thread
  begin_long Fresh row h = row_length (uses_of k 0) k.shape.inputs row (start_copies k.shape.variables) ∙ start_length k.shape.variables
  begin_long (After_tick t) row h = row_length (uses_of k 0) k.shape.inputs row (unmarked t.copies) ∙ unmarked_length t.copies ∙ h

  pub tick_long : (budget : ℕ) (old : TickState) (row : List ℤ) → StateLong k old → StateLong k (tick k budget old row).state
  tick_long budget old row h = tick_keeps k (Long k) step_long budget old row h (begin_long old row h)

  -- ---- the job of a tick

  params_at : (ts : List PlainThread) → (get_or ts 0 blank_thread).params ≡ params_in ts 0
  params_at [] = refl
  params_at (t ∷ ts) = refl

  module _ (fine : WellFormed k) where
    all_used : length (uses_of k 0) ≡ length k.shape.variables
    all_used = ap length fine.root.uses ∙ count_length 0 (length k.shape.variables)

    pub job_long : (old : TickState) (turn : TickInput) → StateLong k old → FitsThread k.shape 0 (tick_job k old turn)
    job_long Fresh turn h =
        let cs = with_row (uses_of k 0) k.shape.inputs turn.row (start_copies k.shape.variables) in
        (sym fine.root.params ∙ params_at k.shape.threads, values_length cs ∙ begin_long Fresh turn.row tt ∙ sym all_used)
    job_long (After_tick t) turn h =
        let cs = with_row (uses_of k 0) k.shape.inputs turn.row (unmarked t.copies) in
        values_length cs ∙ begin_long (After_tick t) turn.row h ∙ sym all_used

-- Where a thread traps, in a step or as it wakes, the place is one of a line and a column.
use Rattle.std.proofs.Common.{ℕ, zero, suc, ◌==◌, ℤ, Bool, true, false, cond, Option, Some, None, List, [], ◌∷◌}
use Rattle.std.specs.List.{AllByRecursion}
use Rattle.forec_base.specs.Numbers.{is_zero}
use Rattle.forec_base.specs.declared.Place.{Place}
use Rattle.forec_base.specs.declared.Trap.{Trap}
use Rattle.forec_kernel.specs.declared.terms.Spot.{Spot}
use Rattle.forec_kernel.specs.declared.terms.Spot.TheVariants as spot
use Rattle.forec_kernel.specs.declared.shape.VarCopy.{VarCopy}
use Rattle.forec_kernel.specs.Terms.{Expr, Branch, Stmt, Nop, Set, SetAt, PutAt, Clear, Seq, If, While, Pause, Par, Enter, Return, Stmts}
use Rattle.forec_kernel.specs.Shapes.{PlainKernel}
use Rattle.forec_kernel.specs.Values.{Value, Gives, Raises, Values, AllGive, OneRaises, Setting, setting, Sight, vals, index_in, more_units, call}
use Rattle.forec_kernel.specs.Texts.{Loop, After, Status, Running, Paused, Ended, Gone, Trapped, RunningText, Done, Run, Then, Turning, Resting, Fork, Held, Watch, Last, Threads, no_threads, child, child_of, text_of, texts_of, after_text, some_running, all_over, first_trap, ended_is_gone, ended_are_gone, uses_of, body_of, handed_down}
use Rattle.forec_kernel.specs.Combining.{Share, Joint, fold_calls, variable_calls, combine_of, variable_of, part_of, joint_calls, calls_from, calls_at, count_threads, calls_in_order, Cost, Costs, Fails, more_cost, cost_of, join_cost}
use Rattle.forec_kernel.specs.Steps.{Path, Owner, evaluated, Move, Finished, Halts, Moves, Traps, more_move, move_with, assigned, assigned_at, shared_at, turned_loop, entered_abort, Arguments, Ready, Refused, one_more_list, arguments_then, arguments, started, forked, statement_move, loop_move, combined, joined, move_before, move_watched, move_last, thread_after, child_place, path_below, text_move, child_move, Woken, Wakes, Stays, more_woken, woken_in, woken_with, refilled, watched_on, text_if, status_of, woken, woken_children}
use Rattle.value_ranges.proofs.RunningTexts.{LoopHolds, AfterHolds, RunningHolds, ThreadsHold, text_holds, texts_hold, after_holds, gone_hold, chosen_holds, entered_holds, refilled_holds}
use Rattle.value_ranges.proofs.Lists.{all_get, all_append}
use Rattle.log_ranges.specs.Places.{IsPlace, places, KernelPlaces}
use Rattle.log_ranges.proofs.Places.{ExprPlaces, BranchesPlaces, StmtPlaces, StmtsPlaces}
use Rattle.log_ranges.proofs.Values.{ValuePlaces, ValuesPlaces, more_places, CallsPlaces, val_places, vals_places, kernel_places}

-- ---- running texts

abbrev pub StatusPlace : Status → Type 0
StatusPlace Running = Unit {0}
StatusPlace Paused = Unit {0}
StatusPlace Ended = Unit {0}
StatusPlace Gone = Unit {0}
StatusPlace (Trapped place trap) = IsPlace place

gone_place : (st : Status) → StatusPlace st → StatusPlace (ended_is_gone st)
gone_place Running h = tt
gone_place Paused h = tt
gone_place Ended h = tt
gone_place Gone h = tt
gone_place (Trapped place trap) h = h

abbrev OwnPlace : List ℤ → List VarCopy → Status → Type 0
OwnPlace w c st = StatusPlace st

abbrev LoopPlaces : Loop → Type 0
LoopPlaces = LoopHolds places

abbrev AfterPlaces : After → Type 0
AfterPlaces = AfterHolds places

abbrev pub TextPlaces : RunningText → Type 0
TextPlaces = RunningHolds places OwnPlace

abbrev pub ThreadsPlaces : Threads → Type 0
ThreadsPlaces = ThreadsHold places OwnPlace

pub text_places : (s : Stmt) → StmtPlaces s → TextPlaces (text_of s)
text_places = text_holds places OwnPlace

texts_places : (list : Stmts) → StmtsPlaces list → TextPlaces (texts_of list)
texts_places = texts_hold places OwnPlace

after_places : (a : After) → AfterPlaces a → TextPlaces (after_text a)
after_places = after_holds places OwnPlace

gone_places : (cs : Threads) → ThreadsPlaces cs → ThreadsPlaces (ended_are_gone cs)
gone_places = gone_hold places OwnPlace (λ w c st h. gone_place st h)

chosen_places : (b : Bool) (R S : RunningText) → TextPlaces R → TextPlaces S → TextPlaces (cond b R S)
chosen_places = chosen_holds places OwnPlace

entered_places : (weak : Bool) (e : Expr) (body : Stmt) (n : ℤ) → ExprPlaces e → StmtPlaces body → TextPlaces (entered_abort weak e body n)
entered_places = entered_holds places OwnPlace

refilled_places : (a : After) → AfterPlaces a → AfterPlaces (refilled a)
refilled_places = refilled_holds places

-- ---- moves

abbrev pub MovePlaces : Move → Type 0
MovePlaces Finished = Unit {0}
MovePlaces Halts = Unit {0}
MovePlaces (Moves R words copies u) = TextPlaces R
MovePlaces (Traps place trap u) = IsPlace place

more_move_places : (u : ℕ) (m : Move) → MovePlaces m → MovePlaces (more_move u m)
more_move_places u Finished h = tt
more_move_places u Halts h = tt
more_move_places u (Moves R words copies v) h = h
more_move_places u (Traps place trap v) h = h

with_places : (v : Value) (go : ℤ → Move) → ValuePlaces v → ((n : ℤ) → MovePlaces (go n)) → MovePlaces (move_with v go)
with_places (Gives n u) go h g = more_move_places u (go n) (g n)
with_places (Raises place trap u) go h g = h

turned_places : (loop : Loop) (left : Option ℕ) (words : List ℤ) (copies : List VarCopy) → LoopPlaces loop → MovePlaces (turned_loop loop left words copies)
turned_places loop None words copies h = (text_places loop.body h.1, h)
turned_places loop (Some zero) words copies h = h.2
turned_places loop (Some (suc m)) words copies h = (text_places loop.body h.1, h)

assigned_at_places : (words : List ℤ) (copies : List VarCopy) (slot : ℕ) (i : Option ℕ) (n : ℤ) (place : Place) → IsPlace place → MovePlaces (assigned_at words copies slot i n place)
assigned_at_places words copies slot (Some i) n place h = tt
assigned_at_places words copies slot None n place h = h

-- ---- arguments of branches

abbrev ArgumentsPlaces : Arguments → Type 0
ArgumentsPlaces (Ready lists u) = Unit {0}
ArgumentsPlaces (Refused place trap u) = IsPlace place

one_more_list_places : (ns : List ℤ) (u : ℕ) (rest : Arguments) → ArgumentsPlaces rest → ArgumentsPlaces (one_more_list ns u rest)
one_more_list_places ns u (Ready lists v) g = tt
one_more_list_places ns u (Refused place trap v) g = g

arguments_then_places : (vs : Values) (rest : Arguments) → ValuesPlaces vs → ArgumentsPlaces rest → ArgumentsPlaces (arguments_then vs rest)
arguments_then_places (AllGive ns u) rest h g = one_more_list_places ns u rest g
arguments_then_places (OneRaises place trap u) rest h g = h

arguments_places : (s : Setting) → CallsPlaces s → (e : Sight) → (bs : List Branch) → BranchesPlaces bs → ArgumentsPlaces (arguments s e bs)
arguments_places s calls e [] w = tt
arguments_places s calls e (b ∷ bs) w =
    arguments_then_places (vals s e b.args) (arguments s e bs) (vals_places s calls e b.args w.0) (arguments_places s calls e bs w.1)

-- ---- the calls of combine functions

abbrev AllValues : List Value → Type 0
AllValues = AllByRecursion ValuePlaces

abbrev JointsPlaces : List Joint → Type 0
JointsPlaces = AllByRecursion (λ (j : Joint). ValuePlaces j.gives)

fold_places : (f : ℤ → ℤ → Value) → ((x y : ℤ) → ValuePlaces (f x y)) → (total : ℤ) (ss : List Share) → JointsPlaces (fold_calls f total ss)
fold_places f places total [] = tt
fold_places f places total (s ∷ ss) = pick (f total s.copy.value) (places total s.copy.value) (λ n. fold_places f places n ss)
  where
    pick : (v : Value) → ValuePlaces v → ((n : ℤ) → JointsPlaces (fold_calls f n ss)) →
        JointsPlaces
        (elim v [
          | Gives n u ↦ record { from = s.from; gives = Gives n u } ∷ fold_calls f n ss
          | Raises place trap u ↦ record { from = s.from; gives = Raises place trap u } ∷ []
        ])
    pick (Gives n u) e ih = (tt, ih n)
    pick (Raises place trap u) e ih = (e, tt)

from_places : (j : ℕ) (cs : List Joint) → JointsPlaces cs → AllValues (calls_from j cs)
from_places j [] h = tt
from_places j (c ∷ cs) h = pick (c.from == j) (from_places j cs h.1)
  where
    pick : (b : Bool) → AllValues (calls_from j cs) → AllValues (cond b (c.gives ∷ calls_from j cs) (calls_from j cs))
    pick true g = (h.0, g)
    pick false g = g

at_all : (j : ℕ) (css : List (List Joint)) → AllByRecursion JointsPlaces css → AllValues (calls_at j css)
at_all j [] h = tt
at_all j (cs ∷ css) h = all_append ValuePlaces (calls_from j cs) (calls_at j css) (from_places j cs h.0) (at_all j css h.1)

order_places : (j n : ℕ) (css : List (List Joint)) → AllByRecursion JointsPlaces css → AllValues (calls_in_order j n css)
order_places j zero css h = tt
order_places j (suc n) css h = all_append ValuePlaces (calls_at j css) (calls_in_order (suc j) n css) (at_all j css h) (order_places (suc j) n css h)

abbrev CostPlaces : Cost → Type 0
CostPlaces (Costs u) = Unit {0}
CostPlaces (Fails place trap u) = IsPlace place

more_cost_places : (u : ℕ) (c : Cost) → CostPlaces c → CostPlaces (more_cost u c)
more_cost_places u (Costs v) h = tt
more_cost_places u (Fails place trap v) h = h

cost_places : (vs : List Value) → AllValues vs → CostPlaces (cost_of vs)
cost_places [] h = tt
cost_places (Gives n u ∷ vs) h = more_cost_places u (cost_of vs) (cost_places vs h.1)
cost_places (Raises place trap u ∷ vs) h = h.0

-- ---- traps of children

abbrev OneTrap : Option (Place × Trap) → Type 0
OneTrap None = Unit {0}
OneTrap (Some p) = IsPlace p.0

trap_place : (cs : Threads) → ThreadsPlaces cs → OneTrap (first_trap cs)
trap_place no_threads h = tt
trap_place (child t R w c Running rest) h = trap_place rest h.2
trap_place (child t R w c Paused rest) h = trap_place rest h.2
trap_place (child t R w c Ended rest) h = trap_place rest h.2
trap_place (child t R w c Gone rest) h = trap_place rest h.2
trap_place (child t R w c (Trapped place trap) rest) h = h.1

module _ (k : PlainKernel) (places : KernelPlaces k) where
  pub body_places : (t : ℕ) → StmtPlaces (body_of k t)
  body_places t = all_get StmtPlaces k.threads t Nop places.threads tt

  calls_places : (f : Option ℕ) (ss : List Share) → JointsPlaces (variable_calls (combine_of k f) ss)
  calls_places None [] = tt
  calls_places (Some f) [] = tt
  calls_places None (s ∷ ss) = tt
  calls_places (Some f) (s ∷ ss) =
      fold_places (λ x y. more_units 1 (call k f (x ∷ y ∷ []))) (λ x y. more_places 1 (call k f (x ∷ y ∷ [])) (kernel_places k places f (x ∷ y ∷ [])))
      s.copy.value ss

  all_calls : (cs : Threads) (uses : List ℕ) (copies : List VarCopy) → AllByRecursion JointsPlaces (joint_calls k cs uses copies)
  all_calls cs [] copies = tt
  all_calls cs (v ∷ uses) [] = tt
  all_calls cs (v ∷ uses) (c ∷ copies) = (calls_places (variable_of k v).combine (part_of k cs v c.value), all_calls cs uses copies)

  join_places : (cs : Threads) (uses : List ℕ) (copies : List VarCopy) → CostPlaces (join_cost k cs uses copies)
  join_places cs uses copies =
      cost_places (calls_in_order 0 (count_threads cs) (joint_calls k cs uses copies)) (order_places 0 (count_threads cs) (joint_calls k cs uses copies) (all_calls cs uses copies))

  started_places : (uses : List ℕ) (copies : List VarCopy) (bs : List Branch) (lists : List (List ℤ)) →
      ThreadsPlaces (started (record { kernel = k; uses = uses }) copies bs lists)
  started_places uses copies [] lists = tt
  started_places uses copies (b ∷ bs) [] = tt
  started_places uses copies (b ∷ bs) (ns ∷ lists) = (text_places (body_of k b.thread) (body_places b.thread), tt, started_places uses copies bs lists)

  -- ---- statements of a thread that uses these variables

  module _ (uses : List ℕ) (words : List ℤ) (copies : List VarCopy) where
    abbrev o : Owner
    o = record { kernel = k; uses = uses }

    evaluated_places : (e : Expr) → ExprPlaces e → ValuePlaces (evaluated o words copies e)
    evaluated_places e h = val_places (setting k) (kernel_places k places) (record { words = words; uses = uses; copies = copies }) e h

    assigned_places : (to : Spot) (n : ℤ) → MovePlaces (assigned o words copies to n)
    assigned_places (spot.Local slot) n = tt
    assigned_places (spot.Variable v) n = tt

    shared_at_places : (v : ℕ) (i : Option ℕ) (n : ℤ) (place : Place) → IsPlace place → MovePlaces (shared_at o words copies v i n place)
    shared_at_places v (Some i) n place h = tt
    shared_at_places v None n place h = h

    forked_places : (bs : List Branch) (args : Arguments) → ArgumentsPlaces args → MovePlaces (forked o words copies bs args)
    forked_places bs (Ready lists u) h = started_places uses copies bs lists
    forked_places bs (Refused place trap u) h = h

    statement_places : (s : Stmt) → StmtPlaces s → MovePlaces (statement_move o words copies s)
    statement_places Nop h = tt
    statement_places (Set to e) h =
        with_places (evaluated o words copies e) (λ n. assigned o words copies to n) (evaluated_places e h) (λ n. assigned_places to n)
    statement_places (SetAt slot n i e place) h =
        with_places (evaluated o words copies i)
        (λ j. move_with (evaluated o words copies e) (λ x. assigned_at words copies slot (index_in n j) x place)) (evaluated_places i h.0)
        (λ j. with_places (evaluated o words copies e) (λ x. assigned_at words copies slot (index_in n j) x place) (evaluated_places e h.1)
        (λ x. assigned_at_places words copies slot (index_in n j) x place h.2))
    statement_places (PutAt v n i e place) h =
        with_places (evaluated o words copies i)
        (λ j. move_with (evaluated o words copies e) (λ x. shared_at o words copies v (index_in n j) x place)) (evaluated_places i h.0)
        (λ j. with_places (evaluated o words copies e) (λ x. shared_at o words copies v (index_in n j) x place) (evaluated_places e h.1)
        (λ x. shared_at_places v (index_in n j) x place h.2))
    statement_places (Clear slot n) h = tt
    statement_places (Seq list) h = texts_places list h
    statement_places (If e a b) h =
        with_places (evaluated o words copies e) (λ n. Moves (cond (is_zero n) (text_of b) (text_of a)) words copies 1) (evaluated_places e h.0)
        (λ n. chosen_places (is_zero n) (text_of b) (text_of a) (text_places b h.2) (text_places a h.1))
    statement_places (While e bound body place) h = h
    statement_places Pause h = tt
    statement_places (Par bs) h =
        let e : Sight = record { words = words; uses = uses; copies = copies } in
        forked_places bs (arguments (setting k) e bs) (arguments_places (setting k) (kernel_places k places) e bs h)
    statement_places (Enter weak false e body) h = (h.0, text_places body h.1)
    statement_places (Enter weak true e body) h =
        with_places (evaluated o words copies e) (λ n. Moves (entered_abort weak e body n) words copies 1) (evaluated_places e h.0)
        (λ n. entered_places weak e body n h.0 h.1)
    statement_places (Return e) h = tt

    loop_places : (loop : Loop) → LoopPlaces loop → MovePlaces (loop_move o words copies loop)
    loop_places loop h =
        with_places (evaluated o words copies loop.test)
        (λ n. elim (is_zero n) [ true ↦ Moves Done words copies 1 | false ↦ turned_loop loop loop.left words copies ]) (evaluated_places loop.test h.0)
        (λ n. after_test (is_zero n))
      where
        after_test : (b : Bool) → MovePlaces (elim b [ true ↦ Moves Done words copies 1 | false ↦ turned_loop loop loop.left words copies ])
        after_test true = tt
        after_test false = turned_places loop loop.left words copies h

    -- ---- a fork none of whose children is running

    combined_places : (cs : Threads) → ThreadsPlaces cs → (cost : Cost) → CostPlaces cost → MovePlaces (combined o words copies cs cost)
    combined_places cs h (Costs u) g = chosen_places (all_over cs) Done (Held (ended_are_gone cs)) tt (gone_places cs h)
    combined_places cs h (Fails place trap u) g = g

    joined_places : (cs : Threads) → ThreadsPlaces cs → (t : Option (Place × Trap)) → OneTrap t → MovePlaces (joined o words copies cs t)
    joined_places cs h (Some p) g = g
    joined_places cs h None g = combined_places cs h (join_cost k cs uses copies) (join_places cs uses copies)

    -- ---- steps in a context

    fork_places : (cs moved : Threads) (u : ℕ) → ThreadsPlaces cs → ThreadsPlaces moved → (b : Bool) →
        MovePlaces (elim b [ true ↦ Moves (Fork moved) words copies u | false ↦ joined o words copies cs (first_trap cs) ])
    fork_places cs moved u h g true = g
    fork_places cs moved u h g false = joined_places cs h (first_trap cs) (trap_place cs h)

    before_places : (a : After) (m : Move) → AfterPlaces a → MovePlaces m → MovePlaces (move_before a words copies m)
    before_places a Finished h g = after_places a h
    before_places a Halts h g = tt
    before_places a (Moves R words' copies' u) h g = (g, h)
    before_places a (Traps place trap u) h g = g

    watched_places : (weak : Bool) (e : Expr) (m : Move) → ExprPlaces e → MovePlaces m → MovePlaces (move_watched weak e words copies m)
    watched_places weak e Finished h g = tt
    watched_places weak e Halts h g = tt
    watched_places weak e (Moves R words' copies' u) h g = (h, g)
    watched_places weak e (Traps place trap u) h g = g

    last_places : (m : Move) → MovePlaces m → MovePlaces (move_last words copies m)
    last_places Finished g = tt
    last_places Halts g = tt
    last_places (Moves R words' copies' u) g = g
    last_places (Traps place trap u) g = g

  -- ---- a step of a text, and of one child

  child_after : (t : ℕ) (R : RunningText) (w : List ℤ) (c : List VarCopy) (st : Status) (rest : Threads) → ThreadsPlaces (child t R w c st rest) →
      (m : Move) → MovePlaces m →
      ThreadsPlaces (child_of (thread_after (record { number = t; text = R; words = w; copies = c; status = st }) m) rest)
  child_after t R w c st rest h Finished g = (h.0, tt, h.2)
  child_after t R w c st rest h Halts g = (h.0, tt, h.2)
  child_after t R w c st rest h (Moves R' w' c' u) g = (g, h.1, h.2)
  child_after t R w c st rest h (Traps place trap u) g = (h.0, g, h.2)

  mutual
    pub move_places : (path : Path) (uses : List ℕ) (words : List ℤ) (copies : List VarCopy) (R : RunningText) → TextPlaces R →
        MovePlaces (text_move k path uses words copies R)
    move_places path uses words copies Done h = tt
    move_places path uses words copies (Run s) h = statement_places uses words copies s h
    move_places path uses words copies (Then R a) h =
        before_places uses words copies a (text_move k path uses words copies R) h.1 (move_places path uses words copies R h.0)
    move_places path uses words copies (Turning loop) h = loop_places uses words copies loop h
    move_places path uses words copies Resting h = tt
    move_places path uses words copies (Fork cs) h =
        let s = child_move k (path_below path cs) (child_place path cs) cs in
        fork_places uses words copies cs s.children s.units h (child_places (path_below path cs) (child_place path cs) cs h) (some_running cs)
    move_places path uses words copies (Held cs) h = tt
    move_places path uses words copies (Watch weak e R) h =
        watched_places uses words copies weak e (text_move k path uses words copies R) h.0 (move_places path uses words copies R h.1)
    move_places path uses words copies (Last R) h =
        last_places uses words copies (text_move k path uses words copies R) (move_places path uses words copies R h)

    child_places : (path : Path) (i : ℕ) (cs : Threads) → ThreadsPlaces cs → ThreadsPlaces (child_move k path i cs).children
    child_places path i no_threads h = tt
    child_places path zero (child t R w c st rest) h =
        child_after t R w c st rest h (text_move k path (uses_of k t) w c R) (move_places path (uses_of k t) w c R h.0)
    child_places path (suc i) (child t R w c st rest) h = (h.0, h.1, child_places path i rest h.2)

  -- ---- waking

  abbrev pub WokenPlaces : Woken → Type 0
  WokenPlaces (Wakes R u) = TextPlaces R
  WokenPlaces (Stays place trap u) = IsPlace place

  more_woken_places : (u : ℕ) (r : Woken) → WokenPlaces r → WokenPlaces (more_woken u r)
  more_woken_places u (Wakes R v) h = h
  more_woken_places u (Stays place trap v) h = h

  woken_in_places : (f : RunningText → RunningText) (r : Woken) → ((R : RunningText) → TextPlaces R → TextPlaces (f R)) → WokenPlaces r → WokenPlaces (woken_in f r)
  woken_in_places f (Wakes R u) g h = g R h
  woken_in_places f (Stays place trap u) g h = h

  woken_with_places : (v : Value) (go : ℤ → Woken) → ValuePlaces v → ((n : ℤ) → WokenPlaces (go n)) → WokenPlaces (woken_with v go)
  woken_with_places (Gives n u) go f h = more_woken_places u (go n) (h n)
  woken_with_places (Raises place trap u) go f h = f

  either_woken : (b : Bool) (r s : Woken) → WokenPlaces r → WokenPlaces s → WokenPlaces (cond b r s)
  either_woken true r s h g = h
  either_woken false r s h g = g

  watched_on_places : (weak : Bool) (e : Expr) (n : ℤ) (r : Woken) → ExprPlaces e → WokenPlaces r → WokenPlaces (watched_on weak e n r)
  watched_on_places false e n r h g =
      either_woken (is_zero n) (woken_in (Watch false e) r) (Wakes Done 0) (woken_in_places (Watch false e) r (λ R f. (h, f)) g) tt
  watched_on_places true e n r h g =
      either_woken (is_zero n) (woken_in (Watch true e) r) (woken_in Last r) (woken_in_places (Watch true e) r (λ R f. (h, f)) g)
      (woken_in_places Last r (λ R f. f) g)

  -- what a text becomes, or stays, and how its thread stands
  pub text_if_places : (R : RunningText) (r : Woken) → TextPlaces R → WokenPlaces r → TextPlaces (text_if R r) × StatusPlace (status_of r)
  text_if_places R (Wakes R' u) h g = (g, tt)
  text_if_places R (Stays place trap u) h g = (h, g)

  mutual
    pub woken_places : (uses : List ℕ) (words : List ℤ) (copies : List VarCopy) (R : RunningText) → TextPlaces R → WokenPlaces (woken k uses words copies R)
    woken_places uses words copies Done h = tt
    woken_places uses words copies (Run s) h = h
    woken_places uses words copies (Then R a) h =
        woken_in_places (λ R'. Then R' (refilled a)) (woken k uses words copies R) (λ R' f. (f, refilled_places a h.1))
        (woken_places uses words copies R h.0)
    woken_places uses words copies (Turning loop) h = h
    woken_places uses words copies Resting h = tt
    woken_places uses words copies (Fork cs) h = h
    woken_places uses words copies (Held cs) h = all_woken uses copies cs h
    woken_places uses words copies (Watch weak e R) h =
        let r = woken k uses words copies R in
        let g = woken_places uses words copies R h.1 in
        woken_with_places (evaluated (record { kernel = k; uses = uses }) words copies e) (λ n. more_woken 1 (watched_on weak e n r))
        (evaluated_places uses words copies e h.0)
        (λ n. more_woken_places 1 (watched_on weak e n r) (watched_on_places weak e n r h.0 g))
    woken_places uses words copies (Last R) h = h

    all_woken : (uses : List ℕ) (copies : List VarCopy) (cs : Threads) → ThreadsPlaces cs → ThreadsPlaces (woken_children k uses copies cs).children
    all_woken uses copies no_threads h = tt
    all_woken uses copies (child t R w own Gone rest) h = (h.0, tt, all_woken uses copies rest h.2)
    all_woken uses copies (child t R w own Running rest) h =
        let r = woken k (uses_of k t) w (handed_down uses copies (uses_of k t)) R in
        let g = text_if_places R r h.0 (woken_places (uses_of k t) w (handed_down uses copies (uses_of k t)) R h.0) in
        (g.0, g.1, all_woken uses copies rest h.2)
    all_woken uses copies (child t R w own Paused rest) h =
        let r = woken k (uses_of k t) w (handed_down uses copies (uses_of k t)) R in
        let g = text_if_places R r h.0 (woken_places (uses_of k t) w (handed_down uses copies (uses_of k t)) R h.0) in
        (g.0, g.1, all_woken uses copies rest h.2)
    all_woken uses copies (child t R w own Ended rest) h =
        let r = woken k (uses_of k t) w (handed_down uses copies (uses_of k t)) R in
        let g = text_if_places R r h.0 (woken_places (uses_of k t) w (handed_down uses copies (uses_of k t)) R h.0) in
        (g.0, g.1, all_woken uses copies rest h.2)
    all_woken uses copies (child t R w own (Trapped place trap) rest) h =
        let r = woken k (uses_of k t) w (handed_down uses copies (uses_of k t)) R in
        let g = text_if_places R r h.0 (woken_places (uses_of k t) w (handed_down uses copies (uses_of k t)) R h.0) in
        (g.0, g.1, all_woken uses copies rest h.2)

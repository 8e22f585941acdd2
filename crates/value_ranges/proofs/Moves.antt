-- A step of a thread keeps to 32 bits.
use Rattle.std.proofs.Common.{ℕ, zero, suc, ◌+◌, ℤ, Bool, true, false, cond, Option, Some, None, List, [], ◌∷◌, take, FitsSigned, w32}
use Rattle.std.specs.List.{AllByRecursion}
use Rattle.forec_base.specs.Numbers.{is_zero}
use Rattle.forec_base.specs.declared.Place.{Place}
use Rattle.forec_base.specs.declared.Trap.{Trap}
use Rattle.forec_kernel.specs.declared.terms.Spot.{Spot}
use Rattle.forec_kernel.specs.declared.terms.Spot.TheVariants as spot
use Rattle.forec_kernel.specs.declared.shape.VarCopy.{VarCopy}
use Rattle.forec_kernel.specs.Terms.{Expr, Branch, Stmt, Nop, Set, SetAt, PutAt, Clear, Seq, If, While, Pause, Par, Enter, Return}
use Rattle.forec_kernel.specs.Shapes.{PlainKernel}
use Rattle.forec_kernel.specs.Values.{Value, Gives, Raises, Values, AllGive, OneRaises, Setting, setting, Sight, vals, index_in}
use Rattle.forec_kernel.specs.Texts.{Loop, After, Status, RunningText, Done, Run, Then, Turning, Resting, Fork, Held, Watch, Last, Threads, no_threads, child, child_of, text_of, some_running, all_over, first_trap, ended_are_gone, uses_of, words_of, params_of, body_of}
use Rattle.forec_kernel.specs.Combining.{Cost, Costs, Fails, join_cost}
use Rattle.forec_kernel.specs.Steps.{Path, Owner, evaluated, Move, Finished, Halts, Moves, Traps, more_move, move_with, assigned, assigned_at, shared_at, turned_loop, entered_abort, Arguments, Ready, Refused, one_more_list, arguments_then, arguments, started, forked, statement_move, loop_move, combined, joined, move_before, move_watched, move_last, thread_after, child_place, path_below, text_move, child_move}
use Rattle.value_ranges.specs.Words.{AreWords, KernelWords}
use Rattle.value_ranges.proofs.Words.{ExprWords, BranchesWords, StmtWords}
use Rattle.value_ranges.proofs.Lists.{all_get, all_set, all_take}
use Rattle.value_ranges.proofs.Values.{CopiesFit, cleared_fits, fresh_fits, ValueFits, ValuesFitAll, SightFits, SettingFits, val_fits, vals_fits, kernel_fits}
use Rattle.value_ranges.proofs.Texts.{LoopFits, AfterFits, TextFits, ThreadsFit, text_fits, texts_fit, after_fits, handed_fits, put_fits, gone_fit, chosen_fits, entered_fits}
use Rattle.value_ranges.proofs.Joins.{joined_fit}

abbrev pub MoveFits : Move → Type 0
MoveFits Finished = Unit {0}
MoveFits Halts = Unit {0}
MoveFits (Moves R words copies u) = TextFits R × AreWords words × CopiesFit copies
MoveFits (Traps place trap u) = Unit {0}

more_move_fits : (u : ℕ) (m : Move) → MoveFits m → MoveFits (more_move u m)
more_move_fits u Finished h = tt
more_move_fits u Halts h = tt
more_move_fits u (Moves R words copies v) h = h
more_move_fits u (Traps place trap v) h = tt

with_fits : (v : Value) (go : ℤ → Move) → ValueFits v → ((n : ℤ) → FitsSigned w32 n → MoveFits (go n)) → MoveFits (move_with v go)
with_fits (Gives n u) go h g = more_move_fits u (go n) (g n h)
with_fits (Raises place trap u) go h g = tt

turned_fits : (loop : Loop) (left : Option ℕ) (words : List ℤ) (copies : List VarCopy) → LoopFits loop → AreWords words → CopiesFit copies →
    MoveFits (turned_loop loop left words copies)
turned_fits loop None words copies h w c = ((text_fits loop.body h.1, h), w, c)
turned_fits loop (Some zero) words copies h w c = tt
turned_fits loop (Some (suc m)) words copies h w c = ((text_fits loop.body h.1, h), w, c)

assigned_at_fits : (words : List ℤ) (copies : List VarCopy) (slot : ℕ) (i : Option ℕ) (n : ℤ) (place : Place) → AreWords words →
    CopiesFit copies → FitsSigned w32 n → MoveFits (assigned_at words copies slot i n place)
assigned_at_fits words copies slot (Some i) n place w c h = (tt, all_set (FitsSigned w32) words (slot + i) n w h, c)
assigned_at_fits words copies slot None n place w c h = tt

-- ---- arguments of branches

abbrev ArgumentsFit : Arguments → Type 0
ArgumentsFit (Ready lists u) = AllByRecursion AreWords lists
ArgumentsFit (Refused place trap u) = Unit {0}

one_more_list_fits : (ns : List ℤ) (u : ℕ) (rest : Arguments) → AreWords ns → ArgumentsFit rest → ArgumentsFit (one_more_list ns u rest)
one_more_list_fits ns u (Ready lists v) h g = (h, g)
one_more_list_fits ns u (Refused place trap v) h g = tt

arguments_then_fit : (vs : Values) (rest : Arguments) → ValuesFitAll vs → ArgumentsFit rest → ArgumentsFit (arguments_then vs rest)
arguments_then_fit (AllGive ns u) rest h g = one_more_list_fits ns u rest h g
arguments_then_fit (OneRaises place trap u) rest h g = tt

arguments_fit : (s : Setting) → SettingFits s → (e : Sight) → SightFits e → (bs : List Branch) → BranchesWords bs → ArgumentsFit (arguments s e bs)
arguments_fit s fits e h [] w = tt
arguments_fit s fits e h (b ∷ bs) w =
    arguments_then_fit (vals s e b.args) (arguments s e bs) (vals_fits s fits e h b.args w.0) (arguments_fit s fits e h bs w.1)

module _ (k : PlainKernel) (numbers : KernelWords k) where
  pub body_fits : (t : ℕ) → StmtWords (body_of k t)
  body_fits t = all_get StmtWords k.threads t Nop numbers.threads tt

  started_fit : (uses : List ℕ) (copies : List VarCopy) (bs : List Branch) (lists : List (List ℤ)) → CopiesFit copies →
      AllByRecursion AreWords lists → ThreadsFit (started (record { kernel = k; uses = uses }) copies bs lists)
  started_fit uses copies [] lists c h = tt
  started_fit uses copies (b ∷ bs) [] c h = tt
  started_fit uses copies (b ∷ bs) (ns ∷ lists) c h = (
    text_fits (body_of k b.thread) (body_fits b.thread),
    (fresh_fits (take (params_of k b.thread) ns) (words_of k b.thread) (all_take (FitsSigned w32) (params_of k b.thread) ns h.0), handed_fits uses copies (uses_of k b.thread) c),
    started_fit uses copies bs lists c h.1,
  )

  -- ---- statements of a thread that uses these variables

  module _ (uses : List ℕ) (words : List ℤ) (copies : List VarCopy) (w : AreWords words) (c : CopiesFit copies) where
    abbrev o : Owner
    o = record { kernel = k; uses = uses }

    sight_fits : SightFits (record { words = words; uses = uses; copies = copies })
    sight_fits = record { words = w; copies = c }

    evaluated_fits : (e : Expr) → ExprWords e → ValueFits (evaluated o words copies e)
    evaluated_fits e h = val_fits (setting k) (kernel_fits k numbers) (record { words = words; uses = uses; copies = copies }) sight_fits e h

    assigned_fits : (to : Spot) (n : ℤ) → FitsSigned w32 n → MoveFits (assigned o words copies to n)
    assigned_fits (spot.Local slot) n h = (tt, all_set (FitsSigned w32) words slot n w h, c)
    assigned_fits (spot.Variable v) n h = (tt, w, put_fits uses copies v (record { value = n; modified = true }) c h)

    shared_at_fits : (v : ℕ) (i : Option ℕ) (n : ℤ) (place : Place) → FitsSigned w32 n → MoveFits (shared_at o words copies v i n place)
    shared_at_fits v (Some i) n place h = assigned_fits (spot.Variable (v + i)) n h
    shared_at_fits v None n place h = tt

    forked_fits : (bs : List Branch) (args : Arguments) → ArgumentsFit args → MoveFits (forked o words copies bs args)
    forked_fits bs (Ready lists u) h = (started_fit uses copies bs lists c h, w, c)
    forked_fits bs (Refused place trap u) h = tt

    statement_fits : (s : Stmt) → StmtWords s → MoveFits (statement_move o words copies s)
    statement_fits Nop h = tt
    statement_fits (Set to e) h =
        with_fits (evaluated o words copies e) (λ n. assigned o words copies to n) (evaluated_fits e h) (λ n g. assigned_fits to n g)
    statement_fits (SetAt slot n i e place) h =
        with_fits (evaluated o words copies i)
        (λ j. move_with (evaluated o words copies e) (λ x. assigned_at words copies slot (index_in n j) x place)) (evaluated_fits i h.0)
        (λ j f. with_fits (evaluated o words copies e) (λ x. assigned_at words copies slot (index_in n j) x place) (evaluated_fits e h.1)
        (λ x g. assigned_at_fits words copies slot (index_in n j) x place w c g))
    statement_fits (PutAt v n i e place) h =
        with_fits (evaluated o words copies i)
        (λ j. move_with (evaluated o words copies e) (λ x. shared_at o words copies v (index_in n j) x place)) (evaluated_fits i h.0)
        (λ j f. with_fits (evaluated o words copies e) (λ x. shared_at o words copies v (index_in n j) x place) (evaluated_fits e h.1)
        (λ x g. shared_at_fits v (index_in n j) x place g))
    statement_fits (Clear slot n) h = (tt, cleared_fits words slot n w, c)
    statement_fits (Seq list) h = (texts_fit list h, w, c)
    statement_fits (If e a b) h =
        with_fits (evaluated o words copies e) (λ n. Moves (cond (is_zero n) (text_of b) (text_of a)) words copies 1) (evaluated_fits e h.0)
        (λ n g. (chosen_fits (is_zero n) (text_of b) (text_of a) (text_fits b h.2) (text_fits a h.1), w, c))
    statement_fits (While e bound body place) h = (h, w, c)
    statement_fits Pause h = (tt, w, c)
    statement_fits (Par bs) h =
        let e : Sight = record { words = words; uses = uses; copies = copies } in
        forked_fits bs (arguments (setting k) e bs) (arguments_fit (setting k) (kernel_fits k numbers) e sight_fits bs h)
    statement_fits (Enter weak false e body) h = ((h.0, text_fits body h.1), w, c)
    statement_fits (Enter weak true e body) h =
        with_fits (evaluated o words copies e) (λ n. Moves (entered_abort weak e body n) words copies 1) (evaluated_fits e h.0)
        (λ n g. (entered_fits weak e body n h.0 h.1, w, c))
    statement_fits (Return e) h = tt

    loop_fits : (loop : Loop) → LoopFits loop → MoveFits (loop_move o words copies loop)
    loop_fits loop h =
        with_fits (evaluated o words copies loop.test)
        (λ n. elim (is_zero n) [ true ↦ Moves Done words copies 1 | false ↦ turned_loop loop loop.left words copies ]) (evaluated_fits loop.test h.0)
        (λ n g. after_test (is_zero n))
      where
        after_test : (b : Bool) → MoveFits (elim b [ true ↦ Moves Done words copies 1 | false ↦ turned_loop loop loop.left words copies ])
        after_test true = (tt, w, c)
        after_test false = turned_fits loop loop.left words copies h w c

    -- ---- a fork none of whose children is running

    combined_fits : (cs : Threads) → ThreadsFit cs → (cost : Cost) → MoveFits (combined o words copies cs cost)
    combined_fits cs h (Costs u) =
        (chosen_fits (all_over cs) Done (Held (ended_are_gone cs)) tt (gone_fit cs h), w, joined_fit k numbers cs h uses copies c)
    combined_fits cs h (Fails place trap u) = tt

    joined_move_fits : (cs : Threads) → ThreadsFit cs → (t : Option (Place × Trap)) → MoveFits (joined o words copies cs t)
    joined_move_fits cs h (Some p) = tt
    joined_move_fits cs h None = combined_fits cs h (join_cost k cs uses copies)

    -- ---- steps in a context

    fork_fits : (cs moved : Threads) (u : ℕ) → ThreadsFit cs → ThreadsFit moved → (b : Bool) →
        MoveFits (elim b [ true ↦ Moves (Fork moved) words copies u | false ↦ joined o words copies cs (first_trap cs) ])
    fork_fits cs moved u h g true = (g, w, c)
    fork_fits cs moved u h g false = joined_move_fits cs h (first_trap cs)

    before_fits : (a : After) (m : Move) → AfterFits a → MoveFits m → MoveFits (move_before a words copies m)
    before_fits a Finished h g = (after_fits a h, w, c)
    before_fits a Halts h g = tt
    before_fits a (Moves R words' copies' u) h g = ((g.0, h), g.1, g.2)
    before_fits a (Traps place trap u) h g = tt

    watched_fits : (weak : Bool) (e : Expr) (m : Move) → ExprWords e → MoveFits m → MoveFits (move_watched weak e words copies m)
    watched_fits weak e Finished h g = (tt, w, c)
    watched_fits weak e Halts h g = tt
    watched_fits weak e (Moves R words' copies' u) h g = ((h, g.0), g.1, g.2)
    watched_fits weak e (Traps place trap u) h g = tt

    last_fits : (m : Move) → MoveFits m → MoveFits (move_last words copies m)
    last_fits Finished g = (tt, w, c)
    last_fits Halts g = (tt, w, c)
    last_fits (Moves R words' copies' u) g = g
    last_fits (Traps place trap u) g = tt

  -- ---- a step of a text, and of one child

  child_after : (t : ℕ) (R : RunningText) (w : List ℤ) (c : List VarCopy) (st : Status) (rest : Threads) → ThreadsFit (child t R w c st rest) →
      (m : Move) → MoveFits m →
      ThreadsFit (child_of (thread_after (record { number = t; text = R; words = w; copies = c; status = st }) m) rest)
  child_after t R w c st rest h Finished g = h
  child_after t R w c st rest h Halts g = h
  child_after t R w c st rest h (Moves R' w' c' u) g = (g.0, (g.1, g.2), h.2)
  child_after t R w c st rest h (Traps place trap u) g = h

  mutual
    pub move_fits : (path : Path) (uses : List ℕ) (words : List ℤ) (copies : List VarCopy) (R : RunningText) → AreWords words → CopiesFit copies →
        TextFits R → MoveFits (text_move k path uses words copies R)
    move_fits path uses words copies Done w c h = tt
    move_fits path uses words copies (Run s) w c h = statement_fits uses words copies w c s h
    move_fits path uses words copies (Then R a) w c h =
        before_fits uses words copies w c a (text_move k path uses words copies R) h.1 (move_fits path uses words copies R w c h.0)
    move_fits path uses words copies (Turning loop) w c h = loop_fits uses words copies w c loop h
    move_fits path uses words copies Resting w c h = tt
    move_fits path uses words copies (Fork cs) w c h =
        let s = child_move k (path_below path cs) (child_place path cs) cs in
        fork_fits uses words copies w c cs s.children s.units h (child_fits (path_below path cs) (child_place path cs) cs h) (some_running cs)
    move_fits path uses words copies (Held cs) w c h = tt
    move_fits path uses words copies (Watch weak e R) w c h =
        watched_fits uses words copies w c weak e (text_move k path uses words copies R) h.0 (move_fits path uses words copies R w c h.1)
    move_fits path uses words copies (Last R) w c h =
        last_fits uses words copies w c (text_move k path uses words copies R) (move_fits path uses words copies R w c h)

    child_fits : (path : Path) (i : ℕ) (cs : Threads) → ThreadsFit cs → ThreadsFit (child_move k path i cs).children
    child_fits path i no_threads h = tt
    child_fits path zero (child t R w c st rest) h =
        child_after t R w c st rest h (text_move k path (uses_of k t) w c R) (move_fits path (uses_of k t) w c R h.1.0 h.1.1 h.0)
    child_fits path (suc i) (child t R w c st rest) h = (h.0, h.1, child_fits path i rest h.2)

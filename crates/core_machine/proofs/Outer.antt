-- The events of a thread's run.
use Rattle.std.proofs.Common.{◌≡◌, ◌≢◌, ℕ, zero, suc, ◌+◌, ◌<◌, ◌≤◌, ◌^◌, List, [], ◌∷◌, length, Option, Some, None, Bool, true, false, cond, map, refl, sym, ap, ◌∙◌, subst, arith}
use Rattle.std.specs.Prelude.{ℤ, slice_get, IsSome}
use Rattle.forec_base.specs.declared.Place.{Place}
use Rattle.forec_base.specs.declared.Trap.{Trap}
use Rattle.forec_kernel.specs.Engine.{run_for}
use Rattle.thread_code.specs.declared.instruction.Instruction.{Instruction}
use Rattle.thread_code.specs.declared.instruction.Instruction.TheVariants as instruction
use Rattle.thread_code.specs.Plain.{PlainCode}
use Rattle.thread_code.specs.Valid.{cost, IsParOf, IsValidCode, branches_in, arguments_of}
use Rattle.thread_code.specs.Machine.{Point, Own, Awaited, Machine, Waits, Paused, with_arguments, awaited, starts, wakes, waking, living, act, step}
use Rattle.thread_code.specs.Alone.{block_of, view_of, machine_units}
use Rattle.thread_state.specs.Frames.{topmost_arguments, without}
use Rattle.thread_state.specs.Kept.{PlainOwn, own_of}
use Rattle.thread_steps.specs.BlockRun.{block_for, owner, next, Work, work, point_of, machine_at, IsAt, StandsBefore, Forks, Shows, Runs}
use Rattle.thread_steps.specs.declared.block_run.Stop.{Stop}
use Rattle.thread_steps.specs.declared.block_run.Stop.TheVariants as stop
use Rattle.core_machine.specs.declared.thread.Thread.{Thread}
use Rattle.core_machine.specs.declared.thread.Phase.TheVariants as phase
use Rattle.core_machine.specs.declared.thread.Event.TheVariants as event
use Rattle.core_machine.specs.Held.{work_of, callers, machine_in, machine_of, branch_of, HasCallDepth, Below, Works, HoldsInPhase}
use Rattle.core_machine.specs.Threads.{Loaded, event_of}
use Rattle.core_machine.specs.RunParts.{callers_over, HasMachine, Moved, RunsBlock}
use Rattle.core_machine.specs.Branches.{instruction_of, chosen, with_branches}
use Rattle.core_machine.specs.declared.fork.ForkAt.{ForkAt}
use Rattle.core_machine.specs.Forks.{IsFork, IsForkStep}
use Rattle.core_machine.proofs.BranchLemmas.{starts_name, wakes_name, chosen_are, chosen_few}
use Rattle.thread_steps.proofs.Steps.{fine}
use Rattle.core_machine.proofs.Reloading.{loaded_as, works_as}

-- ---- lists

pub empty_of : {A : Type 0} → (xs : List A) → length xs ≡ 0 → xs ≡ []
empty_of [] h = refl
empty_of (x ∷ xs) h = absurd (omega arith)

pub args_act : (n : ℕ) (stack args : List ℤ) (u : ℕ) (go : List ℤ → List ℤ → Machine) → n ≤ length stack → with_arguments n stack args u go ≡ go (topmost_arguments n stack args) (without n stack)
args_act zero stack args u go le = refl
args_act (suc n) [] args u go le = absurd (omega arith)
args_act (suc n) (x ∷ rest) args u go le = args_act n rest (x ∷ args) u go (omega arith)

-- the block of a thread
pub own_block : (t : ℕ) (g : Option ℕ) → IsSome (owner t g) → g ≡ None
own_block t None h = refl
own_block t (Some f) h = cc

pub is_owned : (t : ℕ) (g : Option ℕ) (n : ℕ) → owner t g ≡ Some n → g ≡ None
is_owned t None n h = refl
is_owned t (Some f) n h = cc

-- ---- the instructions at which branches wait

pub data Fork_kind (c : PlainCode) (k : PlainOwn) (i : Instruction) : Type 0 where
  is_fork : (j to : ℕ) → i ≡ instruction.Fork j to → Fork_kind c k i
  is_again : (j to : ℕ) → living k.live (branches_in c.shape j) ≢ [] → i ≡ instruction.Again j to → Fork_kind c k i

module _ (c : PlainCode) (k : PlainOwn) where
  pub fork_kind : (i : Instruction) → Forks c i k → Fork_kind c k i
  fork_kind (instruction.Push n) h = absurd h
  fork_kind (instruction.Quiet n) h = absurd h
  fork_kind (instruction.Load x) h = absurd h
  fork_kind (instruction.Store x) h = absurd h
  fork_kind (instruction.LoadAt x n place) h = absurd h
  fork_kind (instruction.StoreAt x n place) h = absurd h
  fork_kind (instruction.Clear x n) h = absurd h
  fork_kind (instruction.Table n place) h = absurd h
  fork_kind (instruction.Get v) h = absurd h
  fork_kind (instruction.Put v) h = absurd h
  fork_kind (instruction.GetAt v n place) h = absurd h
  fork_kind (instruction.PutAt v n place) h = absurd h
  fork_kind (instruction.Unary op) h = absurd h
  fork_kind (instruction.Binary op place) h = absurd h
  fork_kind instruction.Truth h = absurd h
  fork_kind (instruction.Zero to) h = absurd h
  fork_kind (instruction.NonZero to) h = absurd h
  fork_kind (instruction.Jump to) h = absurd h
  fork_kind (instruction.Unit n) h = absurd h
  fork_kind (instruction.Fill x n) h = absurd h
  fork_kind (instruction.Turn x place) h = absurd h
  fork_kind (instruction.Flag f n) h = absurd h
  fork_kind (instruction.Keep f) h = absurd h
  fork_kind (instruction.Flagged f to) h = absurd h
  fork_kind (instruction.Fork j to) h = is_fork j to refl
  fork_kind (instruction.Again j to) h = is_again j to h refl
  fork_kind (instruction.Pause to) h = absurd h
  fork_kind instruction.End h = absurd h
  fork_kind (instruction.Call f) h = absurd h
  fork_kind instruction.Return h = absurd h

-- ---- a machine that waits for branches

record Waits_for (c : PlainCode) (t : ℕ) (i : Instruction) (bs : List ℕ) (w : Work) : Type 0 where
  for : Awaited
  names : map branch_of for.seeds ≡ bs
  steps : act c t (Some i) (point_of (block_of c t) w.at w.frames) [] (own_of w.kept) w.units ≡ Waits for (own_of w.kept) (w.units + cost i)

wakes_named : (c : PlainCode) (t : ℕ) (bs : List ℕ) → bs ≢ [] → (to : ℕ) (p : Point) (o : Own) (u : ℕ) → (for : Awaited) × (waking c t bs to p [] o u ≡ Waits for o u) × (map branch_of for.seeds ≡ bs)
wakes_named c t [] h to p o u = absurd (h refl)
wakes_named c t (b ∷ bs) h to p o u = (awaited (b ∷ bs) (wakes c t o.copies (b ∷ bs)) p to p.stack, refl, wakes_name c t o.copies (b ∷ bs))

module _ (c : PlainCode) (t : ℕ) (a : ℕ) (w : Work) (at : IsAt c t None w) (within : w.units ≤ a) where
  waits_by : (par to : ℕ) (again : Bool) → slice_get (block_of c t).steps w.at ≡ Some (cond again (instruction.Again par to) (instruction.Fork par to)) → (again ≡ true → living w.kept.live (branches_in c.shape par) ≢ []) →
      Waits_for c t (cond again (instruction.Again par to) (instruction.Fork par to)) (chosen again w.kept.live (branches_in c.shape par)) w
  waits_by par to false is some =
      let f = fine c t None a w at within (instruction.Fork par to) is in
      let p = point_of (block_of c t) w.at w.frames in
      let bs = branches_in c.shape par in
      let go : List ℤ → List ℤ → Machine = λ args rest. Waits (awaited bs (starts c t w.kept.copies bs args) p to rest) (own_of w.kept) (w.units + 1) in
      record {
        for = awaited bs (starts c t w.kept.copies bs (topmost_arguments (arguments_of c.shape bs) w.frames.stack [])) p to (without (arguments_of c.shape bs) w.frames.stack);
        steps = args_act (arguments_of c.shape bs) w.frames.stack [] w.units go f.1;
        names = starts_name c t w.kept.copies bs (topmost_arguments (arguments_of c.shape bs) w.frames.stack []);
      }
  waits_by par to true is some =
      let h = wakes_named c t (living w.kept.live (branches_in c.shape par)) (some refl) to (point_of (block_of c t) w.at w.frames) (own_of w.kept) w.units in
      let z : w.units ≡ w.units + 0 = omega arith in
      record { for = h.0; steps = h.1 ∙ ap (Waits h.0 (own_of w.kept)) z; names = h.2 }

  -- whose branches they are
  par_by : (par to : ℕ) (again : Bool) → slice_get (block_of c t).steps w.at ≡ Some (cond again (instruction.Again par to) (instruction.Fork par to)) → IsParOf c.shape (Some t) par
  par_by par to false is = (fine c t None a w at within (instruction.Fork par to) is).0
  par_by par to true is = (fine c t None a w at within (instruction.Again par to) is).0

some_by : (c : PlainCode) (k : PlainOwn) (par to : ℕ) (again : Bool) → Forks c (cond again (instruction.Again par to) (instruction.Fork par to)) k → again ≡ true → living k.live (branches_in c.shape par) ≢ []
some_by c k par to true h e = h
some_by c k par to false h e = cc

cost_by : (par to : ℕ) (again : Bool) → cost (cond again (instruction.Again par to) (instruction.Fork par to)) ≤ 1
cost_by par to true = omega arith
cost_by par to false = omega arith

-- whose block it is
pub fork_own : (c : PlainCode) (t : ℕ) (g : Option ℕ) (a : ℕ) (w : Work) (at : IsAt c t g w) (within : w.units ≤ a) (i : Instruction) → slice_get (block_for c t g).steps w.at ≡ Some i → Fork_kind c w.kept i → g ≡ None
fork_own c t g a w at within i is (is_fork j to e) = let f = fine c t g a w at within (instruction.Fork j to) (is ∙ ap Some e) in is_owned t g f.0.owner f.0.is
fork_own c t g a w at within i is (is_again j to some e) = let f = fine c t g a w at within (instruction.Again j to) (is ∙ ap Some e) in is_owned t g f.0.owner f.0.is

-- ---- the thread goes on

module _ (folding : Bool) (c : PlainCode) (h : Thread) (l : Loaded c h) (run : h.phase ≡ phase.Running folding) where
  pub works : Works folding c h.number l.needs h.function (work_of h)
  works = subst (HoldsInPhase c l.needs h) run l.placed

  pub machine_runs : machine_of c h ≡ machine_at (block_for c h.number h.function) (callers c h.number h.stack.below) (work_of h)
  machine_runs = ap (machine_in c h) run

  -- ---- a frame's run

  module _ (w : Work) (r : Runs c h.number h.function (work_of h) w) (small : w.units < h.allowance + 2 ^ 32) where
    abbrev went : Thread
    went = record { number = h.number; phase = h.phase; function = h.function; at = w.at; stack = w.frames; own = w.kept; units = w.units; allowance = h.allowance; branches = h.branches; joining = h.joining }

    still_below : Below folding c h.number l.needs w.frames.room w.frames.below works.base
    still_below =
        subst (λ n. Below folding c h.number l.needs n w.frames.below works.base) (sym r.keeps.room)
        (subst (λ ws. Below folding c h.number l.needs h.stack.room ws works.base) (sym r.keeps.below) works.below)

    works_on : Works folding c h.number l.needs h.function w
    works_on = record {
      at = r.at;
      base = works.base;
      ends = omega (arith, works.ends, r.keeps.base, r.keeps.words, r.keeps.counters);
      need = works.need;
      enough = works.enough;
      fits = omega (arith, works.fits, r.keeps.room);
      chained = subst (λ ws. HasCallDepth c h.function (length ws)) (sym r.keeps.below) works.chained;
      inside = works.inside;
      below = still_below;
    }

    pub runs_block : (s : Stop) → Shows c h.number h.function h.allowance w s → RunsBlock c h went s
    runs_block s shows = record {
      moved = record {
        loaded = loaded_as c h l went refl r.keeps.room r.keeps.most refl refl l.small r.at.serves small (subst (HoldsInPhase c l.needs went) (sym run) works_on);
        number = refl;
        allowance = refl;
        count = r.count;
        lands = ap (run_for (step c h.number) r.count) machine_runs ∙ r.lands (callers c h.number h.stack.below)
            ∙ ap (λ ws. machine_at (block_for c h.number h.function) (callers c h.number ws) w) (sym r.keeps.below) ∙ sym (ap (machine_in c went) run);
        machine = subst HasMachine (sym run) tt;
        rises = r.rises;
      };
      phase = refl;
      function = refl;
      below = r.keeps.below;
      shows = shows;
      aside = record { branches = refl; joining = refl; room = r.keeps.room; most = r.keeps.most };
      own = r.own;
      over = λ F. (
        r.count,
        r.lands (callers_over c h.number F h.stack.below) ∙ ap (λ ws. machine_at (block_for c h.number h.function) (callers_over c h.number F ws) w) (sym r.keeps.below),
      );
    }

module _ (c : PlainCode) (h : Thread) (l : Loaded c h) (run : h.phase ≡ phase.Running false) where
  runs : Works false c h.number l.needs h.function (work_of h)
  runs = works false c h l run

  on_runs : machine_of c h ≡ machine_at (block_for c h.number h.function) (callers c h.number h.stack.below) (work_of h)
  on_runs = machine_runs false c h l run

  -- a trap
  module _ (place : Place) (trap : Trap) (units : ℕ) (s : Shows c h.number h.function h.allowance (work_of h) (stop.Traps place trap units)) where
    abbrev trapped : Thread
    trapped = record { number = h.number; phase = phase.Trapped place trap; function = h.function; at = h.at; stack = h.stack; own = h.own; units = units; allowance = h.allowance; branches = h.branches; joining = h.joining }

    pub trap_moved : Moved c h trapped
    trap_moved = record {
      loaded = loaded_as c h l trapped refl refl refl refl refl l.small l.serves (omega (arith, s.0.small, s.1)) tt;
      number = refl;
      allowance = refl;
      count = 1;
      lands = ap (step c h.number) on_runs ∙ s.0.steps (callers c h.number h.stack.below);
      machine = tt;
      rises = s.0.rises;
    }

  module _ (s : StandsBefore (block_for c h.number h.function) h.allowance (work_of h) instruction.End) where
    abbrev ended : Thread
    ended = record { number = h.number; phase = phase.Ended; function = h.function; at = h.at; stack = h.stack; own = h.own; units = h.units; allowance = h.allowance; branches = h.branches; joining = h.joining }

    pub end_moved : Moved c h ended
    end_moved = record {
      loaded = loaded_as c h l ended refl refl refl refl refl l.small l.serves l.units tt;
      number = refl;
      allowance = refl;
      count = 1;
      lands = ap (step c h.number) on_runs
          ∙ ap (λ i. act c h.number i (point_of (block_for c h.number h.function) h.at h.stack) (callers c h.number h.stack.below) (own_of h.own) h.units) s.is;
      machine = tt;
      rises = omega arith;
    }

  module _ (to : ℕ) (s : StandsBefore (block_for c h.number h.function) h.allowance (work_of h) (instruction.Pause to)) where
    abbrev paused : Thread
    paused = record { number = h.number; phase = phase.Paused; function = h.function; at = to; stack = h.stack; own = h.own; units = h.units; allowance = h.allowance; branches = h.branches; joining = h.joining }

    pause_own : h.function ≡ None
    pause_own = own_block h.number h.function (fine c h.number h.function h.allowance (work_of h) runs.at s.within (instruction.Pause to) s.is).0

    pub pause_moved : Moved c h paused
    pause_moved =
        let w = works_as false c h.number l.needs h.function (work_of h) runs to (next h.at (length h.stack.stack) (instruction.Pause to) to runs.at.here s.is refl) h.own runs.at.serves h.units in
        record {
          loaded = loaded_as c h l paused refl refl refl refl refl l.small l.serves l.units ((subst (λ g. Works false c h.number l.needs g (work to h.stack h.own h.units)) pause_own w, pause_own));
          number = refl;
          allowance = refl;
          count = 1;
          lands = ap (step c h.number) on_runs
              ∙ ap (λ i. act c h.number i (point_of (block_for c h.number h.function) h.at h.stack) (callers c h.number h.stack.below) (own_of h.own) h.units) s.is
              ∙ ap (λ g. Paused (point_of (block_for c h.number g) to h.stack) (own_of h.own) h.units) pause_own;
          machine = tt;
          rises = omega arith;
        }

  module _ (units : ℕ) (s : Shows c h.number h.function h.allowance (work_of h) (stop.Forks units)) where
    kind : Fork_kind c h.own s.0
    kind = fork_kind c h.own s.0 s.2

    pub fork_is_own : h.function ≡ None
    fork_is_own = fork_own c h.number h.function h.allowance (work_of h) runs.at s.1.within s.0 s.1.is kind

    works_own : Works false c h.number l.needs None (work_of h)
    works_own = subst (λ g. Works false c h.number l.needs g (work_of h)) fork_is_own runs

    is_own : slice_get (block_of c h.number).steps h.at ≡ Some s.0
    is_own = ap (λ g. slice_get (block_for c h.number g).steps h.at) (sym fork_is_own) ∙ s.1.is

    step_of : (i : Instruction) → Fork_kind c h.own i → IsForkStep i
    step_of i (is_fork j to e) = subst IsForkStep (sym e) tt
    step_of i (is_again j to some e) = subst IsForkStep (sym e) tt

    pub fork_here : IsFork c h.number h.at
    fork_here = (s.0, is_own, step_of s.0 kind)

    module _ (valid : IsValidCode c) (f : ForkAt) (is : slice_get (block_of c h.number).steps h.at ≡ Some (instruction_of f)) where
      same : s.0 ≡ instruction_of f
      same = let e = sym is_own ∙ is in cc

      forks : Forks c (instruction_of f) h.own
      forks = subst (λ i. Forks c i h.own) same s.2

      abbrev bs : List ℕ
      bs = chosen f.again h.own.live (branches_in c.shape f.par)

      waits : Waits_for c h.number (instruction_of f) bs (work_of h)
      waits = waits_by c h.number h.allowance (work_of h) works_own.at s.1.within f.par f.to f.again is (some_by c h.own f.par f.to f.again forks)

      abbrev forked : Thread
      forked = record { number = h.number; phase = phase.Forked h.units; function = h.function; at = h.at; stack = h.stack; own = h.own; units = units; allowance = h.allowance; branches = with_branches f bs h.branches; joining = h.joining }

      stepped : step c h.number (machine_at (block_of c h.number) [] (work_of h)) ≡ Waits waits.for (own_of h.own) (h.units + cost (instruction_of f))
      stepped = ap (λ i. act c h.number i (point_of (block_of c h.number) h.at h.stack) [] (own_of h.own) h.units) is ∙ waits.steps

      counted : units ≡ h.units + cost (instruction_of f)
      counted = s.3 ∙ ap (λ i. h.units + cost i) same

      pub fork_moved : Moved c h forked
      fork_moved =
          let none = empty_of h.stack.below works_own.chained in
          record {
            loaded = loaded_as c h l forked refl refl refl refl refl l.small l.serves (omega (arith, counted, s.1.within, cost_by f.par f.to f.again))
                (record {
                  works = works_own;
                  own = fork_is_own;
                  is = is;
                  forks = forks;
                  units = ap machine_units stepped ∙ sym counted;
                  seeds = waits.for.seeds;
                  view = ap view_of stepped;
                  numbers = sym waits.names;
                  branches = chosen_are c valid h.number f.par (par_by c h.number h.allowance (work_of h) works_own.at s.1.within f.par f.to f.again is) f.again h.own.live;
                  few = chosen_few c valid f.par f.again h.own.live;
                  settled = omega arith;
                  joined = refl;
                });
            number = refl;
            allowance = refl;
            count = 1;
            lands = ap (step c h.number)
                (on_runs ∙ ap (λ g. machine_at (block_for c h.number g) (callers c h.number h.stack.below) (work_of h)) fork_is_own
                ∙ ap (λ ws. machine_at (block_of c h.number) (callers c h.number ws) (work_of h)) none);
            machine = tt;
            rises = omega (arith, counted);
          }

      pub fork_view : event_of (view_of (machine_of c forked)) ≡ Some event.Fork
      fork_view = ap (λ m. event_of (view_of m)) stepped

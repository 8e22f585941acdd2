-- The code of a kernel stands for it.
use Rattle.std.proofs.Common.{◌≡◌, ℕ, ◌+◌, ◌<◌, List, [], ◌∷◌, ◌++◌, length, Option, Some, None, Bool, true, false, not, ◌||◌, is_some, refl, sym, ap, ◌∙◌, subst, arith}
use Rattle.std.specs.Prelude.{ℤ, slice_get, replicate}
use Rattle.std.proofs.lemmas.Option.{get_or_from_slice_get}
use Rattle.forec_kernel.specs.declared.shape.VarCopy.{VarCopy}
use Rattle.forec_kernel.specs.Shapes.{PlainKernel}
use Rattle.forec_kernel.specs.Values.{call}
use Rattle.forec_kernel.specs.Texts.{Status, Running, Paused, Ended, Gone, Trapped, Threads, Thread, is_running, uses_of, body_of}
use Rattle.forec_kernel.specs.Steps.{Move, Finished, Halts, Moves, Traps, move_units, thread_after, thread_move, text_move, Woken, Wakes, Stays, text_if, status_of, waking_units}
use Rattle.forec_kernel.specs.Steps as steps_of
use Rattle.forec_kernel.specs.WellFormed.{WellFormed}
use Rattle.forec_kernel.specs.Erased.{erased}
use Rattle.forec_kernel.specs.Engine.{Seed, Reply, WasPaused, WasEnded, WasTrapped, WasOver, View, Going, AtFork, Pausing, Ending, Trapping, Exceeding}
use Rattle.forec_kernel.specs.Solo.{fork_of, with_fork, Solo, At, TooLong, unmarked_copies, started_thread, woken_thread, own_text, waking_thread, wake_own, solo_wake, seeds_for, view_at, solo_view, solo_units, rests, solo_step, all_replied, all_units, some_reply_over, joined_own, solo_join, kernel_engine}
use Rattle.forec_kernel.proofs.Keeps.{free_moves}
use Rattle.forec_kernel.proofs.Same.{Behind, Simulates, gone, alone_like, alone_back}
use Rattle.forec_kernel.proofs.SoloTotal.{solo_steady, solo_total}
use Rattle.thread_code.specs.declared.instruction.Instruction.{Instruction}
use Rattle.thread_code.specs.declared.instruction.Instruction.TheVariants as instruction
use Rattle.thread_code.specs.Plain.{PlainBlock, PlainCode}
use Rattle.thread_code.specs.Machine as machine
use Rattle.thread_code.specs.Machine.{Own, Awaited, Machine, On, Waits, Merges, step, join, replied}
use Rattle.thread_code.specs.Alone as code
use Rattle.thread_code.specs.Alone.{block_of, started_machine, woken_machine, view_of, code_engine, Stands}
use Rattle.thread_code.proofs.Steady.{code_steady}
use Rattle.code_gen.specs.Statements.{Outside, statement_code}
use Rattle.code_gen.specs.Blocks.{thread_block, kernel_code}
use Rattle.code_gen.proofs.Stretch.{HasAt, has_front, has_back, has_all, point, Comes, comes_on, comes_at, one}
use Rattle.code_gen.proofs.BlockLemmas.{block_at}
use Rattle.code_gen.proofs.Fits.{CallsRun}
use Rattle.code_gen.proofs.Calls.{calls_run}
use Rattle.code_gen.proofs.Kernels.{body_fits, uses_ascend, combines}
use Rattle.code_gen.proofs.MachinePoints as places
use Rattle.code_gen.proofs.MachinePoints.{Store, Marks, own, numbers, running_in, leaf, ok, Where, Here, At_fork, on, machine_at, Ends, ends_here, WakeAt, text_at, ReachesText}
use Rattle.code_gen.proofs.Steps.{Follows, text_runs}
use Rattle.code_gen.proofs.Waking.{FollowsWoken, wake_runs}
use Rattle.code_gen.proofs.Joining.{Replies, replies_fit, none_running, text_follows, leaf_works, fork_waits, no_fork, replied_no_fork}

-- a machine whose branches have replied goes on
module _ (c : PlainCode) (t : ℕ) (w : Awaited) (all : List Reply) (o : Own) (u : ℕ) where
  replied_goes : (rs : List Reply) → view_of (replied c t w all rs o u) ≡ Going
  replied_goes [] = refl
  replied_goes (WasPaused d v ∷ rs) = replied_goes rs
  replied_goes (WasEnded d v ∷ rs) = replied_goes rs
  replied_goes (WasTrapped place trap v ∷ rs) = refl
  replied_goes (WasOver ∷ rs) = replied_goes rs

  replied_units : (rs : List Reply) → code.machine_units (replied c t w all rs o u) ≡ u
  replied_units [] = refl
  replied_units (WasPaused d v ∷ rs) = replied_units rs
  replied_units (WasEnded d v ∷ rs) = replied_units rs
  replied_units (WasTrapped place trap v ∷ rs) = refl
  replied_units (WasOver ∷ rs) = replied_units rs

module _ (k : PlainKernel) (t : ℕ) (fine : WellFormed k) (lt : t < length k.threads) where
  abbrev C : PlainCode
  C = kernel_code k

  abbrev run : CallsRun (kernel_code k) t (ok k) (call k)
  run = calls_run k t fine (length k.functions)

  abbrev s : List Instruction
  s = (thread_block k t (body_of k t)).steps

  -- the address of the end
  abbrev q : ℕ
  q = 0 + length (statement_code k.shape.threads Outside 0 (body_of k t))

  block_is : block_of (kernel_code k) t ≡ thread_block k t (body_of k t)
  block_is =
      let z : 0 + t ≡ t = omega arith in
      get_or_from_slice_get (kernel_code k).threads t (thread_block k (0 + t) (body_of k t)) _ (block_at (thread_block k) 0 k.threads t lt) ∙ ap (λ n. thread_block k n (body_of k t)) z

  code_at : HasAt s 0 (statement_code k.shape.threads Outside 0 (body_of k t) ++ instruction.End ∷ [])
  code_at = has_all (statement_code k.shape.threads Outside 0 (body_of k t) ++ instruction.End ∷ []) []

  end_at : slice_get s q ≡ Some instruction.End
  end_at = (has_back s 0 (statement_code k.shape.threads Outside 0 (body_of k t)) (instruction.End ∷ []) code_at).0

  abbrev store : Thread → Store
  store th = record { words = th.words; copies = th.copies }

  -- the machine is where the running thread is
  data LikeRunning (th : Thread) (u : ℕ) (woke : Bool) (m : Machine) : Type 0 where
    going : (p : ℕ) (c : List ℕ) (f : Marks) → places.At k t s Outside th.text (Here p) q c f → m ≡ on k t s p (store th) c f u → LikeRunning th u woke m
    waiting : (d g : ℕ) (c : List ℕ) (f : Marks) → places.At k t s Outside th.text (At_fork d g) q c f → m ≡ machine_at k t s woke (leaf th.text) (At_fork d g) (store th) c f u → LikeRunning th u woke m
    -- the branches have replied
    has_replies : (c : List ℕ) (f : Marks) → fork_of th.text ≡ None → view_of m ≡ Going → code.machine_units m ≡ u →
        Follows k t run s Outside th.text q (store th) c f m u (text_move k [] (uses_of k t) th.words th.copies th.text) → LikeRunning th u woke m

  abbrev LikeStatus : Thread → ℕ → Bool → Machine → Status → Type 0
  LikeStatus th u woke m Running = LikeRunning th u woke m
  LikeStatus th u woke m Paused = (w : ℕ) × (c : List ℕ) × (f : Marks) × WakeAt k t s Outside th.text w q f.live × (m ≡ machine.Paused (point s w [] th.words c) (own (store th) f) u)
  LikeStatus th u woke m Ended = (f : Marks) × (m ≡ machine.Ended (own (store th) f) u)
  LikeStatus th u woke m Gone = ⊥
  LikeStatus th u woke m (Trapped place trap) = m ≡ machine.Trapped place trap u

  abbrev Like : Solo → Machine → Type 0
  Like (At th u woke) m = (th.number ≡ t) × LikeStatus th u woke m th.status
  Like (TooLong u) m = m ≡ machine.Exceeded u

  abbrev After : Solo → Machine → Type 0
  After x m = Behind Solo Machine (kernel_engine k t) (code_engine (kernel_code k) t) Like x m

  -- after a step of a text
  stepped : (th : Thread) (u : ℕ) (c : List ℕ) (f : Marks) (m : Machine) (mv : Move) → th.number ≡ t → th.status ≡ Running → Follows k t run s Outside th.text q (store th) c f m u mv → After (At (thread_after th mv) (u + move_units mv) false) m
  stepped th u c f m Finished is status g =
      let z : u ≡ u + 0 = omega arith in
      let h = comes_at C t (ap (machine.Ended (own (store th) f)) z) (comes_on C t g (one C t instruction.End (point s q [] th.words c) [] (own (store th) f) u end_at)) in
      record { count = h.count; t' = machine.Ended (own (store th) f) (u + 0); lands = h.lands; like = (is, (f, refl)) }
  stepped th u c f m Halts is status g =
      let z : u ≡ u + 0 = omega arith in
      let p = g.0 in
      let w = g.1 in
      let h = comes_at C t (ap (machine.Paused (point s w [] th.words c) (own (store th) f)) z) (comes_on C t g.2 (one C t (instruction.Pause w) (point s p [] th.words c) [] (own (store th) f) u g.3.0)) in
      record { count = h.count; t' = machine.Paused (point s w [] th.words c) (own (store th) f) (u + 0); lands = h.lands; like = (is, (w, c, f, g.4, refl)) }
  stepped th u c f m (Moves R words copies v) is status g = by_place g.at g.comes g.here
    where
      by_place : (pl : Where) → Comes (kernel_code k) t m (machine_at k t s false (leaf R) pl (record { words = words; copies = copies }) g.c' g.f' (u + v)) → places.At k t s Outside R pl q g.c' g.f' →
          After (At (record th { text = R; words = words; copies = copies }) (u + v) false) m
      by_place (Here p) h x = record {
        count = h.count;
        t' = machine_at k t s false (leaf R) (Here p) (record { words = words; copies = copies }) g.c' g.f' (u + v);
        lands = h.lands;
        like = (is, subst (LikeStatus (record th { text = R; words = words; copies = copies }) (u + v) false (on k t s p (record { words = words; copies = copies }) g.c' g.f' (u + v))) (sym status) (going p g.c' g.f' x refl));
      }
      by_place (At_fork d e) h x = record {
        count = h.count;
        t' = machine_at k t s false (leaf R) (At_fork d e) (record { words = words; copies = copies }) g.c' g.f' (u + v);
        lands = h.lands;
        like = (is, subst (LikeStatus (record th { text = R; words = words; copies = copies }) (u + v) false (machine_at k t s false (leaf R) (At_fork d e) (record { words = words; copies = copies }) g.c' g.f' (u + v))) (sym status) (waiting d e g.c' g.f' x refl));
      }
  stepped th u c f m (Traps place trap v) is status g = record { count = g.count; t' = machine.Trapped place trap (u + v); lands = g.lands; like = (is, refl) }

  -- a free thread takes its step
  moves : (th : Thread) (u : ℕ) (woke : Bool) (c : List ℕ) (f : Marks) (m : Machine) → th.number ≡ t → th.status ≡ Running → fork_of th.text ≡ None → Follows k t run s Outside th.text q (store th) c f m u (text_move k [] (uses_of k t) th.words th.copies th.text) → After (solo_step k (At th u woke)) m
  moves th u woke c f m is status free g =
      let none : rests th ≡ false = ap (λ x. not (is_running x) || is_some (fork_of th.text)) status ∙ ap (λ x. is_some x) free in
      let move : text_move k [] (uses_of k t) th.words th.copies th.text ≡ thread_move k [] th = ap (λ n. text_move k [] (uses_of k n) th.words th.copies th.text) (sym is) in
      subst (λ x. After x m) (sym (free_moves k th u woke none))
      (stepped th u c f m (thread_move k [] th) is status (subst (λ mv. Follows k t run s Outside th.text q (store th) c f m u mv) move g))

  steps : (x : Solo) (m : Machine) → Like x m → solo_view k x ≡ Going → After (solo_step k x) m
  steps (TooLong u) m h v = cc
  steps (At th u woke) m h v = by_status th.status refl h.1 v
    where
      by_running : LikeRunning th u woke m → th.status ≡ Running → view_at k woke th.copies Running (fork_of th.text) ≡ Going → After (solo_step k (At th u woke)) m
      by_running (going p c f x e) status v =
          subst (λ y. After (solo_step k (At th u woke)) y) (sym e)
          (moves th u woke c f (on k t s p (store th) c f u) h.0 status (no_fork k t run (combines k fine) (uses_ascend k fine) s th.text Outside p q c f x) (text_runs k t run s th.text Outside p q (store th) c f u x))
      by_running (waiting d g c f x e) status v =
          let fork = ap (view_at k woke th.copies Running) (fork_waits k t run (combines k fine) (uses_ascend k fine) s th.text Outside d g q c f x) in
          let no : AtFork (seeds_for k woke (leaf th.text)) ≡ Going = sym fork ∙ v in cc
      by_running (has_replies c f free e n g) status v = moves th u woke c f m h.0 status free g

      by_status : (x : Status) → th.status ≡ x → LikeStatus th u woke m x → view_at k woke th.copies x (fork_of th.text) ≡ Going → After (solo_step k (At th u woke)) m
      by_status Running e l v = by_running l e v
      by_status Paused e l v = cc
      by_status Ended e l v = cc
      by_status Gone e l v = cc
      by_status (Trapped place trap) e l v = cc

  starts : (args values : List ℤ) → After (At (started_thread k t args values) 0 false) (started_machine (kernel_code k) (block_of (kernel_code k) t) args values)
  starts args values =
      subst (λ (b : PlainBlock). After (At (started_thread k t args values) 0 false) (started_machine (kernel_code k) b args values)) (sym block_is)
      (record {
        count = 0;
        t' = _;
        lands = refl;
        like = (refl, going 0 c f (text_at k t s (body_of k t) Outside 0 q c f (record { has = has_front s 0 (statement_code k.shape.threads Outside 0 (body_of k t)) (instruction.End ∷ []) code_at; ends = ends_here k t s q q refl; fits = body_fits k fine t lt })) refl);
      })
    where
      c : List ℕ
      c = replicate (thread_block k t (body_of k t)).counters 0

      f : Marks
      f = record { flags = replicate (thread_block k t (body_of k t)).flags false; live = replicate (length k.shape.threads) false }

  -- after a waking
  awake : (th : Thread) (copies : List VarCopy) (c : List ℕ) (f : Marks) (m : Machine) (W : Woken) → th.number ≡ t → FollowsWoken k t run s Outside q (record { words = th.words; copies = copies }) c f m 0 W → After (At (woken_thread th copies W) (waking_units W) true) m
  awake th copies c f m (Stays place trap v) is g =
      let z : 0 + v ≡ v = omega arith in
      record { count = g.count; t' = machine.Trapped place trap v; lands = g.lands ∙ ap (machine.Trapped place trap) z; like = (is, refl) }
  awake th copies c f m (Wakes R v) is g = by_place g.at g.comes g.here
    where
      z : 0 + v ≡ v
      z = omega arith

      new : Store
      new = record { words = th.words; copies = copies }

      by_place : (pl : Where) → Comes (kernel_code k) t m (machine_at k t s true (leaf R) pl (record { words = th.words; copies = copies }) g.c' g.f' (0 + v)) → places.At k t s Outside R pl q g.c' g.f' → After (At (woken_thread th copies (Wakes R v)) v true) m
      by_place (Here p) h x = record {
        count = h.count;
        t' = machine_at k t s true (leaf R) (Here p) (record { words = th.words; copies = copies }) g.c' g.f' v;
        lands = h.lands ∙ ap (λ n. on k t s p (record { words = th.words; copies = copies }) g.c' g.f' n) z;
        like = (is, going p g.c' g.f' x refl);
      }
      by_place (At_fork d e) h x = record {
        count = h.count;
        t' = machine_at k t s true (leaf R) (At_fork d e) (record { words = th.words; copies = copies }) g.c' g.f' v;
        lands = h.lands ∙ ap (λ n. machine_at k t s true (leaf R) (At_fork d e) (record { words = th.words; copies = copies }) g.c' g.f' n) z;
        like = (is, waiting d e g.c' g.f' x refl);
      }

  wakes : (values : List ℤ) (copies : List VarCopy) (x : Solo) (m : Machine) → Like x m → solo_view k x ≡ Pausing copies → After (solo_wake k values x) (woken_machine values m)
  wakes values copies (TooLong u) m h v = cc
  wakes values copies (At th u woke) m h v = by_status th.status h.1 v
    where
      from_pause : (w : ℕ) (c : List ℕ) (f : Marks) → WakeAt k t s Outside th.text w q f.live → m ≡ machine.Paused (point s w [] th.words c) (own (store th) f) u → After (wake_own k values (own_text th)) (woken_machine values m)
      from_pause w c f x e =
          let new : Store = record { words = th.words; copies = unmarked_copies values } in
          let z : w + 0 ≡ w = omega arith in
          let at : woken_machine values m ≡ on k t s w new c f 0 = ap (woken_machine values) e in
          let W = waking_thread k values (own_text th) in
          let g = wake_runs k t run s th.text Outside w q new c f 0 x in
          let same : FollowsWoken k t run s Outside q new c f (on k t s w new c f 0) 0 W =
          subst (λ n. FollowsWoken k t run s Outside q new c f (on k t s w new c f 0) 0 (waking_of n)) (sym h.0) (subst (λ p. FollowsWoken k t run s Outside q new c f (on k t s p new c f 0) 0 (waking_of t)) z g) in
          subst (λ y. After (wake_own k values (own_text th)) y) (sym at) (awake (own_text th) (unmarked_copies values) c f (on k t s w new c f 0) W h.0 same)
        where
          waking_of : ℕ → Woken
          waking_of n = steps_of.woken k (uses_of k n) th.words (unmarked_copies values) (erased th.text)

      by_status : (x : Status) → LikeStatus th u woke m x → view_at k woke th.copies x (fork_of th.text) ≡ Pausing copies → After (wake_own k values (own_text th)) (woken_machine values m)
      by_status Running l v = by_fork (fork_of th.text) v
        where
          by_fork : (x : Option Threads) → view_at k woke th.copies Running x ≡ Pausing copies → After (wake_own k values (own_text th)) (woken_machine values m)
          by_fork None v = cc
          by_fork (Some cs) v = cc
      by_status Paused l v = from_pause l.0 l.1 l.2 l.3 l.4
      by_status Ended l v = cc
      by_status Gone l v = cc
      by_status (Trapped place trap) l v = cc

  joins : (replies : List Reply) (seeds : List Seed) (x : Solo) (m : Machine) → Like x m → solo_view k x ≡ AtFork seeds → length replies ≡ length seeds → After (solo_join replies x) (join (kernel_code k) t replies m)
  joins replies seeds (TooLong u) m h v len = cc
  joins replies seeds (At th u woke) m h v len = by_status th.status refl h.1 v
    where
      at_fork : (d g : ℕ) (c : List ℕ) (f : Marks) → places.At k t s Outside th.text (At_fork d g) q c f → m ≡ machine_at k t s woke (leaf th.text) (At_fork d g) (store th) c f u → th.status ≡ Running →
          view_at k woke th.copies Running (fork_of th.text) ≡ AtFork seeds → After (joined_own th u woke replies (fork_of th.text)) (join (kernel_code k) t replies m)
      at_fork d g c f x e status v =
          let fork = fork_waits k t run (combines k fine) (uses_ascend k fine) s th.text Outside d g q c f x in
          let works = leaf_works k t run (combines k fine) (uses_ascend k fine) s th.text Outside d g q c f x in
          let written : AtFork seeds ≡ AtFork (seeds_for k woke (leaf th.text)) = sym v ∙ ap (view_at k woke th.copies Running) fork in
          let same : seeds ≡ seeds_for k woke (leaf th.text) = ap (λ (y : View). elim y as (λ n. List Seed) [ AtFork l ↦ l | Going ↦ [] | Pausing l ↦ [] | Ending l ↦ [] | Trapping place trap ↦ [] | Exceeding ↦ [] ]) written in
          let fits = replies_fit k f.live (leaf th.text) woke replies works.awaits (len ∙ ap (λ l. length l) same) in
          subst (λ y. After (joined_own th u woke replies y) (join (kernel_code k) t replies m)) (sym fork)
          (subst (λ y. After (joined_own th u woke replies (Some (leaf th.text))) (join (kernel_code k) t replies y)) (sym e) (by_over (some_reply_over replies) refl works fits))
        where
          w : Awaited
          w = record { branches = running_in (leaf th.text); seeds = seeds_for k woke (leaf th.text); done = point s d [] th.words c; going = point s g [] th.words c }

          by_over : (b : Bool) → some_reply_over replies ≡ b → places.Works k t s (leaf th.text) f.live → Replies (leaf th.text) replies →
              After (elim b as (λ y. Solo) [ true ↦ TooLong u | false ↦ At (record th { text = with_fork (all_replied (leaf th.text) replies) th.text }) (u + all_units replies) false ])
              (elim b as (λ y. Machine) [ true ↦ machine.Exceeded u | false ↦ replied (kernel_code k) t w replies replies (own (store th) f) (u + all_units replies) ])
          by_over true e works fits = record { count = 0; t' = machine.Exceeded u; lands = refl; like = refl }
          by_over false e works fits =
              let ds = all_replied (leaf th.text) replies in
              let n = u + all_units replies in
              let m1 = replied (kernel_code k) t w replies replies (own (store th) f) n in
              let free = replied_no_fork k t run (combines k fine) (uses_ascend k fine) s th.text Outside d g q c f ds (none_running k f.live (leaf th.text) replies works.awaits fits) x in
              let follows = text_follows k t run (combines k fine) (uses_ascend k fine) s (leaf th.text) replies (seeds_for k woke (leaf th.text)) d g (store th) c f n works fits e th.text Outside q refl x in
              record {
                count = 0;
                t' = m1;
                lands = refl;
                like = (
                  h.0,
                  subst (LikeStatus (record th { text = with_fork ds th.text }) n false m1) (sym status)
                      (has_replies c f free (replied_goes (kernel_code k) t w replies (own (store th) f) n replies) (replied_units (kernel_code k) t w replies (own (store th) f) n replies) follows),
                );
              }

      by_running : LikeRunning th u woke m → th.status ≡ Running → view_at k woke th.copies Running (fork_of th.text) ≡ AtFork seeds → After (joined_own th u woke replies (fork_of th.text)) (join (kernel_code k) t replies m)
      by_running (going p c f x e) status v =
          let none = ap (view_at k woke th.copies Running) (no_fork k t run (combines k fine) (uses_ascend k fine) s th.text Outside p q c f x) in
          let no : Going ≡ AtFork seeds = sym none ∙ v in cc
      by_running (waiting d g c f x e) status v = at_fork d g c f x e status v
      by_running (has_replies c f free e n g) status v =
          let none = ap (view_at k woke th.copies Running) free in
          let no : Going ≡ AtFork seeds = sym none ∙ v in cc

      by_status : (x : Status) → th.status ≡ x → LikeStatus th u woke m x → view_at k woke th.copies x (fork_of th.text) ≡ AtFork seeds → After (joined_own th u woke replies (fork_of th.text)) (join (kernel_code k) t replies m)
      by_status Running e l v = by_running l e v
      by_status Paused e l v = cc
      by_status Ended e l v = cc
      by_status Gone e l v = cc
      by_status (Trapped place trap) e l v = cc

  views : (x : Solo) (m : Machine) → Like x m → solo_view k x ≡ view_of m
  views (TooLong u) m h = sym (ap view_of h)
  views (At th u woke) m h = by_status th.status h.1
    where
      by_running : LikeRunning th u woke m → view_at k woke th.copies Running (fork_of th.text) ≡ view_of m
      by_running (going p c f x e) = ap (view_at k woke th.copies Running) (no_fork k t run (combines k fine) (uses_ascend k fine) s th.text Outside p q c f x) ∙ sym (ap view_of e)
      by_running (waiting d g c f x e) = ap (view_at k woke th.copies Running) (fork_waits k t run (combines k fine) (uses_ascend k fine) s th.text Outside d g q c f x) ∙ sym (ap view_of e)
      by_running (has_replies c f free e n g) = ap (view_at k woke th.copies Running) free ∙ sym e

      by_status : (x : Status) → LikeStatus th u woke m x → view_at k woke th.copies x (fork_of th.text) ≡ view_of m
      by_status Running l = by_running l
      by_status Paused l = sym (ap view_of l.4)
      by_status Ended l = sym (ap view_of l.1)
      by_status Gone l = absurd l
      by_status (Trapped place trap) l = sym (ap view_of l)

  units : (x : Solo) (m : Machine) → Like x m → solo_units x ≡ code.machine_units m
  units (TooLong u) m h = sym (ap code.machine_units h)
  units (At th u woke) m h = by_status th.status h.1
    where
      by_running : LikeRunning th u woke m → u ≡ code.machine_units m
      by_running (going p c f x e) = sym (ap code.machine_units e)
      by_running (waiting d g c f x e) = sym (ap code.machine_units e)
      by_running (has_replies c f free e n g) = sym n

      by_status : (x : Status) → LikeStatus th u woke m x → u ≡ code.machine_units m
      by_status Running l = by_running l
      by_status Paused l = sym (ap code.machine_units l.4)
      by_status Ended l = sym (ap code.machine_units l.1)
      by_status Gone l = absurd l
      by_status (Trapped place trap) l = sym (ap code.machine_units l)

  simulates : Simulates Solo Machine (kernel_engine k t) (code_engine (kernel_code k) t) Like
  simulates = record { starts = starts; steps = steps; wakes = wakes; joins = joins; views = views; units = units }

pub kernel_code_stands : (k : PlainKernel) → WellFormed k → Stands (kernel_code k) k
kernel_code_stands k fine = record {
  shape = refl;
  each = λ t lt xs os. (
    alone_like Solo Machine (kernel_engine k t) (code_engine (kernel_code k) t) (Like k t fine lt) (simulates k t fine lt) (solo_steady k t) (code_steady (kernel_code k) t) xs _ _ os gone,
    alone_back Solo Machine (kernel_engine k t) (code_engine (kernel_code k) t) (Like k t fine lt) (simulates k t fine lt) (solo_steady k t) (code_steady (kernel_code k) t) (solo_total k t) xs _ _ os gone,
  );
}

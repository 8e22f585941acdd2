-- A thread of a valid code tells its own branches alone.
use Rattle.std.proofs.Common.{◌≡◌, ℕ, zero, suc, ◌+◌, ◌-◌, ◌<◌, ◌≤◌, ◌==◌, ℤ, Bool, true, false, cond, Option, Some, None, List, [], ◌∷◌, ◌++◌, map, length, get_or, refl, sym, ◌∙◌, subst, arith}
use Rattle.std.specs.Prelude.{slice_get, slice_set}
use Rattle.forec_base.specs.Numbers.{binary_of}
use Rattle.forec_base.specs.declared.Place.{Place}
use Rattle.forec_base.specs.declared.Trap.{Trap}
use Rattle.forec_base.specs.declared.Trap.TheVariants.{Divide, Index}
use Rattle.forec_kernel.specs.declared.shape.VarCopy.{VarCopy}
use Rattle.forec_kernel.specs.Values.{copy_of, word, index_in, place_or}
use Rattle.forec_kernel.specs.Combining.{takes_part, variable_of}
use Rattle.forec_kernel.specs.Solo.{some_reply_over, all_units}
use Rattle.forec_kernel.specs.Engine.{Job, Start, Wake, Reply, WasPaused, WasEnded, WasTrapped, WasOver, Seed, Starts, Wakes, Written, written, AtFork, Engine, run_for, Rest, Asleep, Nothing, Exchange, Output, AtEvent, RunsOn, over, event, IfElse, Serves, Begins, Alone, Answered, pair_up, pair_forks, pair_all, allowance_of, first_jobs, ends_at}
use Rattle.forec_kernel.specs.Reached.{Inside}
use Rattle.forec_kernel.proofs.Each.{Each, each_in}
use Rattle.thread_code.specs.declared.instruction.Instruction.{Instruction}
use Rattle.thread_code.specs.declared.instruction.Instruction.TheVariants as instruction
use Rattle.thread_code.specs.Plain.{PlainBlock, PlainCode}
use Rattle.thread_code.specs.Valid.{IsFine, IsParOf, IsValidCode, of_shape, branches_in, arguments_of, function_arguments}
use Rattle.thread_code.specs.Machine.{Point, BranchCopy, Merge, Frame, Caller, Folding, Own, Awaited, Machine, On, Waits, Merges, Failing, Paused, Ended, Trapped, Exceeded, Stuck, onward, with_top, with_arguments, unless_none, turn_taken, put_at, put_value, entered, code_uses, folded, merge_step, returned, living, starts, wakes, awaited, waking, act, step, replied, join}
use Rattle.thread_code.specs.Alone.{woken_machine, code_engine, CodeAlone}
use Rattle.thread_code.proofs.Unstuck.{IsHere, Good, owner, fetched, fine_at, reached_good}
use Rattle.exchange_meaning.specs.Logged.{HasBranch, AreTold}
use Rattle.exchange_meaning.proofs.TellingLemmas.{equal_number}
use Rattle.exchange_meaning.proofs.InJob.{InJob, AfterJobs, no_jobs, job_begun, job_stepped, job_joined, job_answered}

living_are : (Q : ℕ → Type 0) (live : List Bool) (bs : List ℕ) → Each Q bs → Each Q (living live bs)
living_are Q live [] h = tt
living_are Q live (b ∷ bs) h = by_test (get_or live b false) (living_are Q live bs h.1)
  where
    by_test : (test : Bool) → Each Q (living live bs) → Each Q (cond test (b ∷ living live bs) (living live bs))
    by_test true rest = (h.0, rest)
    by_test false rest = rest

module _ (c : PlainCode) (t : ℕ) where
  abbrev Mine : ℕ → Type 0
  Mine b = HasBranch c.shape t b

  abbrev SeedsMine : List Seed → Type 0
  SeedsMine [] = Unit {0}
  SeedsMine (Starts b args values ∷ seeds) = Mine b × SeedsMine seeds
  SeedsMine (Wakes b values ∷ seeds) = Mine b × SeedsMine seeds

  -- where a machine waits, it waits for branches of the thread
  abbrev WaitsForOwn : Machine → Type 0
  WaitsForOwn (On p fs o u) = Unit {0}
  WaitsForOwn (Waits w o u) = SeedsMine w.seeds
  WaitsForOwn (Merges m o u) = Unit {0}
  WaitsForOwn (Failing place trap u) = Unit {0}
  WaitsForOwn (Paused wake o u) = Unit {0}
  WaitsForOwn (Ended o u) = Unit {0}
  WaitsForOwn (Trapped place trap u) = Unit {0}
  WaitsForOwn (Exceeded u) = Unit {0}
  WaitsForOwn (Stuck u) = Unit {0}

  starts_mine : (copies : List VarCopy) (bs : List ℕ) (args : List ℤ) → Each Mine bs → SeedsMine (starts c t copies bs args)
  starts_mine copies [] args h = tt
  starts_mine copies (b ∷ bs) args h = (h.0, starts_mine copies bs _ h.1)

  wakes_mine : (copies : List VarCopy) (bs : List ℕ) → Each Mine bs → SeedsMine (wakes c t copies bs)
  wakes_mine copies [] h = tt
  wakes_mine copies (b ∷ bs) h = (h.0, wakes_mine copies bs h.1)

  -- ---- a step

  top_mine : (st : List ℤ) (u : ℕ) (go : ℤ → List ℤ → Machine) → ((n : ℤ) (rest : List ℤ) → WaitsForOwn (go n rest)) → WaitsForOwn (with_top st u go)
  top_mine [] u go h = tt
  top_mine (n ∷ rest) u go h = h n rest

  arguments_mine : (n : ℕ) (st args : List ℤ) (u : ℕ) (go : List ℤ → List ℤ → Machine) → ((all rest : List ℤ) → WaitsForOwn (go all rest)) → WaitsForOwn (with_arguments n st args u go)
  arguments_mine zero st args u go h = h args st
  arguments_mine (suc n) [] args u go h = tt
  arguments_mine (suc n) (x ∷ rest) args u go h = arguments_mine n rest (x ∷ args) u go h

  unless_mine : {A : Type 0} → (o : Option A) (place : Place) (trap : Trap) (u : ℕ) (go : A → Machine) → ((x : A) → WaitsForOwn (go x)) → WaitsForOwn (unless_none o place trap u go)
  unless_mine None place trap u go h = tt
  unless_mine (Some x) place trap u go h = h x

  turn_mine : (n : ℕ) (place : Place) (u : ℕ) (go : ℕ → Machine) → ((m : ℕ) → WaitsForOwn (go m)) → WaitsForOwn (turn_taken n place u go)
  turn_mine zero place u go h = tt
  turn_mine (suc n) place u go h = h n

  enter_mine : (b : Option PlainBlock) (args : List ℤ) (fs : List Frame) (o : Own) (u : ℕ) → WaitsForOwn (entered b args fs o u)
  enter_mine None args fs o u = tt
  enter_mine (Some b) args fs o u = tt

  fold_mine : (s : BranchCopy) (m : Merge) (o : Own) (u : ℕ) (combine : Option ℕ) (total : Option ℤ) → WaitsForOwn (folded c t s m o u combine total)
  fold_mine s m o u combine None = tt
  fold_mine s m o u None (Some n) = tt
  fold_mine s m o u (Some f) (Some n) = enter_mine (slice_get c.functions f) _ _ o u

  test_mine : (b : Bool) (s : BranchCopy) (m : Merge) (o : Own) (u : ℕ) (combine : Option ℕ) (total : Option ℤ) →
      WaitsForOwn (elim b [ true ↦ folded c t s m o u combine total | false ↦ Merges m o u ])
  test_mine true s m o u combine total = fold_mine s m o u combine total
  test_mine false s m o u combine total = tt

  merge_mine : (left : List BranchCopy) (m : Merge) (o : Own) (u : ℕ) → WaitsForOwn (merge_step c t left m o u)
  merge_mine [] m o u = tt
  merge_mine (s ∷ rest) m o u =
      let v = variable_of (of_shape c.shape) s.variable in
      test_mine (takes_part v.policy (copy_of (code_uses c t) o.copies s.variable).value s.copy) s _ o u v.combine _

  return_mine : (n : ℤ) (fs : List Frame) (o : Own) (u : ℕ) → WaitsForOwn (returned c t n fs o u)
  return_mine n [] o u = tt
  return_mine n (Caller p ∷ fs) o u = tt
  return_mine n (Folding v m ∷ fs) o u = tt

  wake_mine : (bs : List ℕ) (to : ℕ) (p : Point) (fs : List Frame) (o : Own) (u : ℕ) → Each Mine bs → WaitsForOwn (waking c t bs to p fs o u)
  wake_mine [] to p fs o u h = tt
  wake_mine (b ∷ bs) to p fs o u h = wakes_mine o.copies (b ∷ bs) h

  none_owns : (a : ℕ) → None ≡ Some a → ⊥
  none_owns a e = cc

  -- a par of the block at work is the thread's own
  par_mine : (fs : List Frame) (j : ℕ) → IsParOf c.shape (owner t fs) j → Each Mine (branches_in c.shape j)
  par_mine [] j par = each_in Mine (branches_in c.shape j) (λ b m. par.parent b m ∙ sym par.is)
  par_mine (f ∷ fs) j par = absurd (none_owns par.owner par.is)

  abbrev FineHere : List Frame → Instruction → Type 0
  FineHere fs (instruction.Fork j to) = IsParOf c.shape (owner t fs) j
  FineHere fs (instruction.Again j to) = IsParOf c.shape (owner t fs) j
  FineHere fs _ = Unit {0}

  act_mine : (i : Instruction) (p : Point) (fs : List Frame) (o : Own) (u : ℕ) → FineHere fs i → WaitsForOwn (act c t (Some i) p fs o u)
  act_mine (instruction.Push n) p fs o u h = tt
  act_mine (instruction.Quiet n) p fs o u h = tt
  act_mine (instruction.Load x) p fs o u h = tt
  act_mine (instruction.Store x) p fs o u h = top_mine p.stack u _ (λ n rest. tt)
  act_mine (instruction.LoadAt x n place) p fs o u h =
      top_mine p.stack u _ (λ i rest. unless_mine (index_in n i) place Index (u + 1) (λ k. On (onward p (word p.words (x + k) ∷ rest)) fs o (u + 1)) (λ k. tt))
  act_mine (instruction.StoreAt x n place) p fs o u h =
      top_mine p.stack u _ (λ v below. top_mine below u _ (λ i rest. unless_mine (index_in n i) place Index (u + 1)
      (λ k. On (onward (record p { words = slice_set p.words (x + k) v }) rest) fs o (u + 1)) (λ k. tt)))
  act_mine (instruction.Clear x n) p fs o u h = tt
  act_mine (instruction.Table number place) p fs o u h =
      let table = get_or c.shape.tables number [] in
      top_mine p.stack u _ (λ i rest. unless_mine (index_in (length table) i) place Index (u + 1) (λ k. On (onward p (word table k ∷ rest)) fs o (u + 1)) (λ k. tt))
  act_mine (instruction.Get v) p fs o u h = tt
  act_mine (instruction.Put v) p fs o u h = top_mine p.stack u _ (λ n rest. tt)
  act_mine (instruction.GetAt v n place) p fs o u h =
      top_mine p.stack u _ (λ i rest. unless_mine (index_in n i) place Index (u + 1)
      (λ k. On (onward p ((copy_of (code_uses c t) o.copies (v + k)).value ∷ rest)) fs o (u + 1)) (λ k. tt))
  act_mine (instruction.PutAt v n place) p fs o u h =
      top_mine p.stack u _ (λ x below. top_mine below u _ (λ i rest. unless_mine (index_in n i) place Index (u + 1)
      (λ k. On (onward p rest) fs (put_value (code_uses c t) (v + k) x o) (u + 1)) (λ k. tt)))
  act_mine (instruction.Unary op) p fs o u h = top_mine p.stack u _ (λ n rest. tt)
  act_mine (instruction.Binary op place) p fs o u h =
      top_mine p.stack u _ (λ y below. top_mine below u _ (λ x rest. unless_mine (binary_of op x y) (place_or place) Divide (u + 1)
      (λ n. On (onward p (n ∷ rest)) fs o (u + 1)) (λ n. tt)))
  act_mine instruction.Truth p fs o u h = top_mine p.stack u _ (λ n rest. tt)
  act_mine (instruction.Zero to) p fs o u h = top_mine p.stack u _ (λ n rest. tt)
  act_mine (instruction.NonZero to) p fs o u h = top_mine p.stack u _ (λ n rest. tt)
  act_mine (instruction.Jump to) p fs o u h = tt
  act_mine (instruction.Unit n) p fs o u h = tt
  act_mine (instruction.Fill w n) p fs o u h = tt
  act_mine (instruction.Turn w place) p fs o u h =
      turn_mine (get_or p.counters w 0) place u (λ n. On (onward (record p { counters = put_at 0 p.counters w n }) p.stack) fs o u) (λ n. tt)
  act_mine (instruction.Flag f value) p fs o u h = tt
  act_mine (instruction.Keep f) p fs o u h = top_mine p.stack u _ (λ n rest. tt)
  act_mine (instruction.Flagged f to) p fs o u h = tt
  act_mine (instruction.Fork j to) p fs o u h =
      let bs = branches_in c.shape j in
      arguments_mine (arguments_of c.shape bs) p.stack [] u (λ args rest. Waits (awaited bs (starts c t o.copies bs args) p to rest) o (u + 1))
      (λ args rest. starts_mine o.copies bs args (par_mine fs j h))
  act_mine (instruction.Again j to) p fs o u h =
      wake_mine (living o.live (branches_in c.shape j)) to p fs o u (living_are Mine o.live (branches_in c.shape j) (par_mine fs j h))
  act_mine (instruction.Pause to) p fs o u h = tt
  act_mine instruction.End p fs o u h = tt
  act_mine (instruction.Call f) p fs o u h =
      arguments_mine (function_arguments c f) p.stack [] u (λ args rest. entered (slice_get c.functions f) args (Caller (onward p rest) ∷ fs) o u)
      (λ args rest. enter_mine (slice_get c.functions f) args (Caller (onward p rest) ∷ fs) o u)
  act_mine instruction.Return p fs o u h = top_mine p.stack u _ (λ n rest. return_mine n fs o u)

  replied_mine : (w : Awaited) (all rs : List Reply) (o : Own) (u : ℕ) → WaitsForOwn (replied c t w all rs o u)
  replied_mine w all [] o u = tt
  replied_mine w all (WasTrapped place trap v ∷ rs) o u = tt
  replied_mine w all (WasPaused copies v ∷ rs) o u = replied_mine w all rs o u
  replied_mine w all (WasEnded copies v ∷ rs) o u = replied_mine w all rs o u
  replied_mine w all (WasOver ∷ rs) o u = replied_mine w all rs o u

  over_mine : (b : Bool) (w : Awaited) (rs : List Reply) (o : Own) (u : ℕ) → WaitsForOwn (elim b [ true ↦ Exceeded u | false ↦ replied c t w rs rs o (u + all_units rs) ])
  over_mine true w rs o u = tt
  over_mine false w rs o u = replied_mine w rs rs o (u + all_units rs)

  join_mine : (rs : List Reply) (m : Machine) → WaitsForOwn m → WaitsForOwn (join c t rs m)
  join_mine rs (Waits w o u) h = over_mine (some_reply_over rs) w rs o u
  join_mine rs (On p fs o u) h = tt
  join_mine rs (Merges m o u) h = tt
  join_mine rs (Failing place trap u) h = tt
  join_mine rs (Paused wake o u) h = tt
  join_mine rs (Ended o u) h = tt
  join_mine rs (Trapped place trap u) h = tt
  join_mine rs (Exceeded u) h = tt
  join_mine rs (Stuck u) h = tt

  woken_mine : (values : List ℤ) (m : Machine) → WaitsForOwn m → WaitsForOwn (woken_machine values m)
  woken_mine values (Paused wake o u) h = tt
  woken_mine values (On p fs o u) h = tt
  woken_mine values (Waits w o u) h = h
  woken_mine values (Merges m o u) h = tt
  woken_mine values (Failing place trap u) h = tt
  woken_mine values (Ended o u) h = tt
  woken_mine values (Trapped place trap u) h = tt
  woken_mine values (Exceeded u) h = tt
  woken_mine values (Stuck u) h = tt

  -- ---- what is written at forks

  abbrev WrittenMine : List Written → Type 0
  WrittenMine [] = Unit {0}
  WrittenMine (w ∷ ws) = Mine w.branch × WrittenMine ws

  abbrev ForksMine : List (List Written) → Type 0
  ForksMine [] = Unit {0}
  ForksMine (ws ∷ wss) = WrittenMine ws × ForksMine wss

  written_mine : (a : ℕ) (seeds : List Seed) → SeedsMine seeds → WrittenMine (map (written a) seeds)
  written_mine a [] h = tt
  written_mine a (Starts b args values ∷ seeds) h = (h.0, written_mine a seeds h.1)
  written_mine a (Wakes b values ∷ seeds) h = (h.0, written_mine a seeds h.1)

  told_both : (xs ys : List Answered) → AreTold c.shape t xs → AreTold c.shape t ys → AreTold c.shape t (xs ++ ys)
  told_both [] ys h g = g
  told_both (x ∷ xs) ys h g = (h.0, told_both xs ys h.1 g)

  told_up : (ws : List Written) (rs : List Reply) → WrittenMine ws → AreTold c.shape t (pair_up ws rs)
  told_up [] rs h = tt
  told_up (w ∷ ws) [] h = tt
  told_up (w ∷ ws) (r ∷ rs) h = (h.0, told_up ws rs h.1)

  told_forks : (wss : List (List Written)) (rss : List (List Reply)) → ForksMine wss → AreTold c.shape t (pair_forks wss rss)
  told_forks [] rss h = tt
  told_forks (ws ∷ wss) [] h = tt
  told_forks (ws ∷ wss) (rs ∷ rss) h = told_both (pair_up ws rs) (pair_forks wss rss) (told_up ws rs h.0) (told_forks wss rss h.1)

  module _ (valid : IsValidCode c) (lt : t < length c.threads) where
    abbrev e : Engine Machine
    e = code_engine c t

    fine_here : (i : Instruction) (p : Point) (fs : List Frame) (h : IsHere c (owner t fs) p) → IsFine (record { code = c; thread = owner t fs }) h.block h.depths p.at (length p.stack) i → FineHere fs i
    fine_here (instruction.Fork j to) p fs h f = f.0
    fine_here (instruction.Again j to) p fs h f = f.0
    fine_here (instruction.Push n) p fs h f = tt
    fine_here (instruction.Quiet n) p fs h f = tt
    fine_here (instruction.Load x) p fs h f = tt
    fine_here (instruction.Store x) p fs h f = tt
    fine_here (instruction.LoadAt x n place) p fs h f = tt
    fine_here (instruction.StoreAt x n place) p fs h f = tt
    fine_here (instruction.Clear x n) p fs h f = tt
    fine_here (instruction.Table number place) p fs h f = tt
    fine_here (instruction.Get v) p fs h f = tt
    fine_here (instruction.Put v) p fs h f = tt
    fine_here (instruction.GetAt v n place) p fs h f = tt
    fine_here (instruction.PutAt v n place) p fs h f = tt
    fine_here (instruction.Unary op) p fs h f = tt
    fine_here (instruction.Binary op place) p fs h f = tt
    fine_here instruction.Truth p fs h f = tt
    fine_here (instruction.Zero to) p fs h f = tt
    fine_here (instruction.NonZero to) p fs h f = tt
    fine_here (instruction.Jump to) p fs h f = tt
    fine_here (instruction.Unit n) p fs h f = tt
    fine_here (instruction.Fill w n) p fs h f = tt
    fine_here (instruction.Turn w place) p fs h f = tt
    fine_here (instruction.Flag x value) p fs h f = tt
    fine_here (instruction.Keep x) p fs h f = tt
    fine_here (instruction.Flagged x to) p fs h f = tt
    fine_here (instruction.Pause to) p fs h f = tt
    fine_here instruction.End p fs h f = tt
    fine_here (instruction.Call x) p fs h f = tt
    fine_here instruction.Return p fs h f = tt

    step_mine : (m : Machine) → Good c t m → WaitsForOwn m → WaitsForOwn (step c t m)
    step_mine (On p fs o u) g h =
        let i = fetched c valid t (owner t fs) p g.0 in
        subst (λ x. WaitsForOwn (act c t x p fs o u)) (sym i.1) (act_mine i.0 p fs o u (fine_here i.0 p fs g.0 (fine_at c valid t (owner t fs) p g.0 i.0 i.1)))
    step_mine (Waits w o u) g h = h
    step_mine (Merges m o u) g h = merge_mine m.left m o u
    step_mine (Failing place trap u) g h = tt
    step_mine (Paused wake o u) g h = tt
    step_mine (Ended o u) g h = tt
    step_mine (Trapped place trap u) g h = tt
    step_mine (Exceeded u) g h = tt
    step_mine (Stuck u) g h = tt

    -- a machine that is reached in a job
    record At (a : ℕ) (m : Machine) : Type 0 where
      pub here : InJob e a m
      pub mine : WaitsForOwn m

    abbrev Mine_rest : Rest Machine → Type 0
    Mine_rest (Asleep m) = WaitsForOwn m
    Mine_rest Nothing = Unit {0}

    record Rests (r : Rest Machine) : Type 0 where
      pub after : AfterJobs e r
      pub mine : Mine_rest r

    nothing_rests : Rests Nothing
    nothing_rests = record { after = no_jobs e; mine = tt }

    begun_mine : (job : Job) (r : Rest Machine) (m : Machine) → Mine_rest r → Begins e job r m → WaitsForOwn m
    begun_mine (Start args values a) r m h b = subst WaitsForOwn (sym b) tt
    begun_mine (Wake values a) (Asleep s) m h b = subst WaitsForOwn (sym b) (woken_mine values s h)
    begun_mine (Wake values a) Nothing m h b = absurd b

    run_at : (a n : ℕ) (m : Machine) → At a m → At a (run_for e.step n m)
    run_at a zero m h = h
    run_at a (suc n) m h =
        run_at a n (step c t m)
        (record {
          here = job_stepped e a m h.here;
          mine = step_mine m (reached_good c valid t lt h.here.exchanges (Inside h.here.job h.here.before m) h.here.reached) h.mine;
        })

    record Served (o : Output) (r : Rest Machine) : Type 0 where
      pub forks : ForksMine o.jobs
      pub rests : Rests r

    served_as : (o o' : Output) (r r' : Rest Machine) → o ≡ o' → r ≡ r' → Served o' r' → Served o r
    served_as o o' r r' p q h = subst (λ x. Served x r) (sym p) (subst (Served o') (sym q) h)

    event_mine : (a : ℕ) (m : Machine) → At a m → e.units m ≤ a → (fork : List Seed → Output → Rest Machine → Type 0) →
        ((seeds : List Seed) → e.view m ≡ AtFork seeds → SeedsMine seeds → (o : Output) (r : Rest Machine) → fork seeds o r → Served o r) →
        (o : Output) (r : Rest Machine) → AtEvent e m (e.view m) fork o r → Served o r
    event_mine a (On p fs own u) h le fork f o r at = absurd at
    event_mine a (Waits w own u) h le fork f o r at = f w.seeds refl h.mine o r at
    event_mine a (Merges m own u) h le fork f o r at = absurd at
    event_mine a (Failing place trap u) h le fork f o r at = absurd at
    event_mine a (Paused wake own u) h le fork f o r at =
        served_as o _ r _ at.0 at.1
        (record {
          forks = tt;
          rests = record {
            after = job_answered e a (Paused wake own u) (WasPaused own.copies u) (Asleep (Paused wake own u)) h.here le (refl, refl);
            mine = tt;
          };
        })
    event_mine a (Ended own u) h le fork f o r at = served_as o _ r _ at.0 at.1 (record { forks = tt; rests = nothing_rests })
    event_mine a (Trapped place trap u) h le fork f o r at = served_as o _ r _ at.0 at.1 (record { forks = tt; rests = nothing_rests })
    event_mine a (Exceeded u) h le fork f o r at = served_as o _ r _ at.0 at.1 (record { forks = tt; rests = nothing_rests })
    event_mine a (Stuck u) h le fork f o r at = absurd at

    goes_mine : (a : ℕ) (m : Machine) → At a m → (fork : Machine → List Seed → Output → Rest Machine → Type 0) →
        ((m' : Machine) → At a m' → e.units m' ≤ a → (seeds : List Seed) → e.view m' ≡ AtFork seeds → SeedsMine seeds → (o : Output) (r : Rest Machine) → fork m' seeds o r → Served o r) →
        (o : Output) (r : Rest Machine) → RunsOn e a m fork o r → Served o r
    goes_mine a m h fork f o r (over p eo er) = served_as o _ r _ eo er (record { forks = tt; rests = nothing_rests })
    goes_mine a m h fork f o r (event m' reaches at) =
        let h' = subst (At a) reaches.lands (run_at a reaches.count m h) in
        event_mine a m' h' reaches.within (fork m') (f m' h' reaches.within) o r at

    ends_mine : (a : ℕ) (seeds : List Seed) → SeedsMine seeds → Served (ends_at (map (written a) seeds)) Nothing
    ends_mine a seeds h = record { forks = (written_mine a seeds h, tt); rests = nothing_rests }

    serves_mine : (a : ℕ) (replies : List (List Reply)) (m : Machine) → At a m → (o : Output) (r : Rest Machine) → Serves e a replies m o r → Served o r
    serves_mine a [] m h o r s =
        goes_mine a m h _ (λ m' h' le seeds v mine o r x. served_as o _ r _ x.0 x.1 (ends_mine (a - e.units m') seeds mine)) o r s
    serves_mine a (rs ∷ more) m h o r s =
        goes_mine a m h _ (λ m' h' le seeds v mine o r x. by_count m' seeds mine (length rs == length seeds) refl o r
        (λ count o' y. serves_mine a more (join c t rs m') (joined_at m' h' le seeds v count) o' r y) x) o r s
      where
        joined_at : (m' : Machine) → At a m' → e.units m' ≤ a → (seeds : List Seed) → e.view m' ≡ AtFork seeds → length rs ≡ length seeds → At a (join c t rs m')
        joined_at m' h' le seeds v count =
            record { here = job_joined e a rs seeds m' h'.here v le count; mine = join_mine rs m' h'.mine }

        by_count : (m' : Machine) (seeds : List Seed) → SeedsMine seeds → (test : Bool) → (length rs == length seeds) ≡ test → (o : Output) (r : Rest Machine) →
            (length rs ≡ length seeds → (o' : Output) → Serves e a more (join c t rs m') o' r → Served o' r) →
            IfElse test ((o' : Output) × Serves e a more (join c t rs m') o' r × (o ≡ first_jobs (map (written (a - e.units m')) seeds) o'))
            ((o ≡ ends_at (map (written (a - e.units m')) seeds)) × (r ≡ Nothing)) → Served o r
        by_count m' seeds mine true q o r go x =
            let rest = go (equal_number (length rs) (length seeds) q) x.0 x.1 in
            subst (λ y. Served y r) (sym x.2) (record { forks = (written_mine (a - e.units m') seeds mine, rest.forks); rests = rest.rests })
        by_count m' seeds mine false q o r go x = served_as o _ r _ x.0 x.1 (ends_mine (a - e.units m') seeds mine)

    alone_mine : (xs : List Exchange) (os : List Output) (r : Rest Machine) → Rests r → Alone e xs r os → AreTold c.shape t (pair_all xs os)
    alone_mine [] [] r h al = tt
    alone_mine [] (o ∷ os) r h al = absurd al
    alone_mine (x ∷ xs) [] r h al = absurd al
    alone_mine (x ∷ xs) (o ∷ os) r h al =
        let at : At (allowance_of x.job) al.0 = record { here = job_begun e x.job r al.0 h.after al.2; mine = begun_mine x.job r al.0 h.mine al.2 } in
        let s = serves_mine (allowance_of x.job) x.replies al.0 at o al.1 al.3 in
        told_both (pair_forks o.jobs x.replies) (pair_all xs os) (told_forks o.jobs x.replies s.forks) (alone_mine xs os al.1 s.rests al.4)

    -- what it tells, it tells its branches
    pub all_mine : (xs : List Exchange) (os : List Output) → CodeAlone c t xs os → AreTold c.shape t (pair_all xs os)
    all_mine xs os al = alone_mine xs os Nothing nothing_rests al

-- The jobs that a thread of a code writes, and its replies, have as many arguments and copies as they need.
use Rattle.std.proofs.Common.{◌≡◌, ℕ, zero, suc, ◌+◌, ◌-◌, ◌<◌, ◌≤◌, ◌==◌, ℤ, Bool, true, false, cond, Option, Some, None, List, [], ◌∷◌, map, length, get_or, take, drop, refl, sym, ◌∙◌, subst, arith}
use Rattle.std.proofs.lemmas.List.{length-map}
use Rattle.std.specs.Prelude.{slice_get, slice_set}
use Rattle.forec_base.specs.Numbers.{binary_of}
use Rattle.forec_base.specs.declared.Place.{Place}
use Rattle.forec_base.specs.declared.Trap.{Trap}
use Rattle.forec_base.specs.declared.Trap.TheVariants.{Divide, Index}
use Rattle.forec_kernel.specs.declared.shape.VarCopy.{VarCopy}
use Rattle.forec_kernel.specs.Shapes.{PlainThread}
use Rattle.forec_kernel.specs.Values.{copy_of, word, index_in, place_or}
use Rattle.forec_kernel.specs.Texts.{params_in, handed_down, put_copy}
use Rattle.forec_kernel.specs.Combining.{takes_part, variable_of}
use Rattle.forec_kernel.specs.WellFormed.{branches_of, is_par}
use Rattle.forec_kernel.specs.Solo.{unmarked_copies, some_reply_over, all_units}
use Rattle.forec_kernel.specs.Engine.{Job, Start, Wake, Reply, WasPaused, WasEnded, WasTrapped, WasOver, Seed, Starts, Wakes, written, Engine, run_for, Rest, Asleep, Nothing, Exchange, Output, AtEvent, RunsOn, over, event, IfElse, Serves, Begins, Alone, allowance_of, first_jobs, ends_at}
use Rattle.thread_code.specs.declared.instruction.Instruction.{Instruction}
use Rattle.thread_code.specs.declared.instruction.Instruction.TheVariants as instruction
use Rattle.thread_code.specs.Plain.{PlainBlock, PlainCode}
use Rattle.thread_code.specs.Valid.{of_shape, branches_in, arguments_of, function_arguments}
use Rattle.thread_code.specs.Machine.{Point, BranchCopy, Total, Merge, Frame, Caller, Folding, Own, Awaited, Machine, On, Waits, Merges, Failing, Paused, Ended, Trapped, Exceeded, Stuck, onward, with_top, with_arguments, unless_none, turn_taken, put_at, put_value, entered, code_uses, settled, folded, merge_step, returned, living, handed, starts, wakes, awaited, waking, act, step, replied, join}
use Rattle.thread_code.specs.Alone.{woken_machine, view_of, code_engine}
use Rattle.thread_code.specs.Laws.{FitsThread, FitsReply, FitBranches, FitForks, JobsFit, OutputsFit, JobsAndRepliesFit}

-- ---- lengths

put_length : (uses : List ℕ) (copies : List VarCopy) (v : ℕ) (new : VarCopy) → length (put_copy uses copies v new) ≡ length copies
put_length [] copies v new = refl
put_length (x ∷ uses) [] v new = refl
put_length (x ∷ uses) (c ∷ copies) v new = by_test (x == v) (put_length uses copies v new)
  where
    by_test : (b : Bool) → length (put_copy uses copies v new) ≡ length copies → length (cond b (new ∷ copies) (c ∷ put_copy uses copies v new)) ≡ length (c ∷ copies)
    by_test true e = omega arith
    by_test false e = omega (arith, e)

settled_length : (totals : List Total) (copies : List VarCopy) → length (settled totals copies) ≡ length copies
settled_length [] copies = refl
settled_length (total ∷ totals) [] = refl
settled_length (total ∷ totals) (c ∷ copies) = omega (arith, settled_length totals copies)

handed_length : (uses : List ℕ) (copies : List VarCopy) (vs : List ℕ) → length (handed_down uses copies vs) ≡ length vs
handed_length uses copies [] = refl
handed_length uses copies (v ∷ vs) = omega (arith, handed_length uses copies vs)

take_length : {A : Type 0} → (n : ℕ) (xs : List A) → n ≤ length xs → length (take n xs) ≡ n
take_length zero xs h = refl
take_length (suc n) [] h = absurd (omega arith)
take_length (suc n) (x ∷ xs) h = omega (arith, take_length n xs (omega (arith, h)))

drop_length : {A : Type 0} → (n : ℕ) (xs : List A) → length (drop n xs) ≡ length xs - n
drop_length zero xs = omega arith
drop_length (suc n) [] = omega arith
drop_length (suc n) (x ∷ xs) = omega (arith, drop_length n xs)

-- ---- branches are threads of the shape

abbrev All_below : ℕ → List ℕ → Type 0
All_below n [] = Unit {0}
All_below n (b ∷ bs) = (b < n) × All_below n bs

branches_below : (ss : List PlainThread) (t j n : ℕ) → t + length ss ≤ n → All_below n (branches_of ss t j)
branches_below [] t j n h = tt
branches_below (s ∷ ss) t j n h = by_test (is_par s.par j) (branches_below ss (suc t) j n (omega (arith, h)))
  where
    by_test : (b : Bool) → All_below n (branches_of ss (suc t) j) → All_below n (cond b (t ∷ branches_of ss (suc t) j) (branches_of ss (suc t) j))
    by_test true rest = (omega (arith, h), rest)
    by_test false rest = rest

living_below : (n : ℕ) (live : List Bool) (bs : List ℕ) → All_below n bs → All_below n (living live bs)
living_below n live [] h = tt
living_below n live (b ∷ bs) h = by_test (get_or live b false) (living_below n live bs h.1)
  where
    by_test : (test : Bool) → All_below n (living live bs) → All_below n (cond test (b ∷ living live bs) (living live bs))
    by_test true rest = (h.0, rest)
    by_test false rest = rest

module _ (c : PlainCode) (t : ℕ) where
  abbrev Fit : Seed → Type 0
  Fit (Starts b args values) = (b < length c.shape.threads) × (length args ≡ params_in c.shape.threads b) × (length values ≡ length (code_uses c b))
  Fit (Wakes b values) = (b < length c.shape.threads) × (length values ≡ length (code_uses c b))

  abbrev All_fit : List Seed → Type 0
  All_fit [] = Unit {0}
  All_fit (s ∷ ss) = Fit s × All_fit ss

  hands : (copies : List VarCopy) (b : ℕ) → length (handed c t copies b) ≡ length (code_uses c b)
  hands copies b = length-map (handed_down (code_uses c t) copies (code_uses c b)) (λ (x : VarCopy). x.value) ∙ handed_length (code_uses c t) copies (code_uses c b)

  starts_fit : (copies : List VarCopy) (bs : List ℕ) (args : List ℤ) → All_below (length c.shape.threads) bs → length args ≡ arguments_of c.shape bs →
      All_fit (starts c t copies bs args)
  starts_fit copies [] args below e = tt
  starts_fit copies (b ∷ bs) args below e =
      let n = params_in c.shape.threads b in
      ((below.0, take_length n args (omega (arith, e)), hands copies b), starts_fit copies bs (drop n args) below.1 (omega (arith, e, drop_length n args)))

  wakes_fit : (copies : List VarCopy) (bs : List ℕ) → All_below (length c.shape.threads) bs → All_fit (wakes c t copies bs)
  wakes_fit copies [] below = tt
  wakes_fit copies (b ∷ bs) below = ((below.0, hands copies b), wakes_fit copies bs below.1)

  -- ---- a step

  abbrev Sized : Machine → Type 0
  Sized (On p fs o u) = length o.copies ≡ length (code_uses c t)
  Sized (Waits w o u) = (length o.copies ≡ length (code_uses c t)) × All_fit w.seeds
  Sized (Merges m o u) = length o.copies ≡ length (code_uses c t)
  Sized (Failing place trap u) = Unit {0}
  Sized (Paused wake o u) = length o.copies ≡ length (code_uses c t)
  Sized (Ended o u) = length o.copies ≡ length (code_uses c t)
  Sized (Trapped place trap u) = Unit {0}
  Sized (Exceeded u) = Unit {0}
  Sized (Stuck u) = Unit {0}

  top_sized : (st : List ℤ) (u : ℕ) (go : ℤ → List ℤ → Machine) → ((n : ℤ) (rest : List ℤ) → Sized (go n rest)) → Sized (with_top st u go)
  top_sized [] u go h = tt
  top_sized (n ∷ rest) u go h = h n rest

  arguments_sized : (n : ℕ) (st args : List ℤ) (u : ℕ) (go : List ℤ → List ℤ → Machine) →
      ((all rest : List ℤ) → length all ≡ n + length args → Sized (go all rest)) → Sized (with_arguments n st args u go)
  arguments_sized zero st args u go h = h args st (omega arith)
  arguments_sized (suc n) [] args u go h = tt
  arguments_sized (suc n) (x ∷ rest) args u go h = arguments_sized n rest (x ∷ args) u go (λ all left e. h all left (omega (arith, e)))

  unless_sized : {A : Type 0} → (o : Option A) (place : Place) (trap : Trap) (u : ℕ) (go : A → Machine) → ((x : A) → Sized (go x)) → Sized (unless_none o place trap u go)
  unless_sized None place trap u go h = tt
  unless_sized (Some x) place trap u go h = h x

  turn_sized : (n : ℕ) (place : Place) (u : ℕ) (go : ℕ → Machine) → ((m : ℕ) → Sized (go m)) → Sized (turn_taken n place u go)
  turn_sized zero place u go h = tt
  turn_sized (suc n) place u go h = h n

  enter_sized : (b : Option PlainBlock) (args : List ℤ) (fs : List Frame) (o : Own) (u : ℕ) → length o.copies ≡ length (code_uses c t) → Sized (entered b args fs o u)
  enter_sized None args fs o u h = tt
  enter_sized (Some b) args fs o u h = h

  fold_sized : (s : BranchCopy) (m : Merge) (o : Own) (u : ℕ) (combine : Option ℕ) (total : Option ℤ) → length o.copies ≡ length (code_uses c t) →
      Sized (folded c t s m o u combine total)
  fold_sized s m o u combine None h = h
  fold_sized s m o u None (Some n) h = h
  fold_sized s m o u (Some f) (Some n) h = enter_sized (slice_get c.functions f) _ _ o u h

  test_sized : (b : Bool) (s : BranchCopy) (m : Merge) (o : Own) (u : ℕ) (combine : Option ℕ) (total : Option ℤ) → length o.copies ≡ length (code_uses c t) →
      Sized (elim b [ true ↦ folded c t s m o u combine total | false ↦ Merges m o u ])
  test_sized true s m o u combine total h = fold_sized s m o u combine total h
  test_sized false s m o u combine total h = h

  merge_sized : (left : List BranchCopy) (m : Merge) (o : Own) (u : ℕ) → length o.copies ≡ length (code_uses c t) → Sized (merge_step c t left m o u)
  merge_sized [] m o u h = settled_length m.totals o.copies ∙ h
  merge_sized (s ∷ rest) m o u h =
      let v = variable_of (of_shape c.shape) s.variable in
      test_sized (takes_part v.policy (copy_of (code_uses c t) o.copies s.variable).value s.copy) s _ o u v.combine _ h

  return_sized : (n : ℤ) (fs : List Frame) (o : Own) (u : ℕ) → length o.copies ≡ length (code_uses c t) → Sized (returned c t n fs o u)
  return_sized n [] o u h = tt
  return_sized n (Caller p ∷ fs) o u h = h
  return_sized n (Folding v m ∷ fs) o u h = h

  wake_sized : (bs : List ℕ) (to : ℕ) (p : Point) (fs : List Frame) (o : Own) (u : ℕ) → All_below (length c.shape.threads) bs → length o.copies ≡ length (code_uses c t) →
      Sized (waking c t bs to p fs o u)
  wake_sized [] to p fs o u below h = h
  wake_sized (b ∷ bs) to p fs o u below h = (h, wakes_fit o.copies (b ∷ bs) below)

  below_of : (j : ℕ) → All_below (length c.shape.threads) (branches_in c.shape j)
  below_of j = branches_below c.shape.threads 0 j (length c.shape.threads) (omega arith)

  act_sized : (i : Option Instruction) (p : Point) (fs : List Frame) (o : Own) (u : ℕ) → length o.copies ≡ length (code_uses c t) → Sized (act c t i p fs o u)
  act_sized None p fs o u h = tt
  act_sized (Some (instruction.Push n)) p fs o u h = h
  act_sized (Some (instruction.Quiet n)) p fs o u h = h
  act_sized (Some (instruction.Load x)) p fs o u h = h
  act_sized (Some (instruction.Store x)) p fs o u h = top_sized p.stack u _ (λ n rest. h)
  act_sized (Some (instruction.LoadAt x n place)) p fs o u h =
      top_sized p.stack u _ (λ i rest. unless_sized (index_in n i) place Index (u + 1) (λ k. On (onward p (word p.words (x + k) ∷ rest)) fs o (u + 1)) (λ k. h))
  act_sized (Some (instruction.StoreAt x n place)) p fs o u h =
      top_sized p.stack u _ (λ v below. top_sized below u _ (λ i rest. unless_sized (index_in n i) place Index (u + 1)
      (λ k. On (onward (record p { words = slice_set p.words (x + k) v }) rest) fs o (u + 1)) (λ k. h)))
  act_sized (Some (instruction.Clear x n)) p fs o u h = h
  act_sized (Some (instruction.Table number place)) p fs o u h =
      let table = get_or c.shape.tables number [] in
      top_sized p.stack u _ (λ i rest. unless_sized (index_in (length table) i) place Index (u + 1) (λ k. On (onward p (word table k ∷ rest)) fs o (u + 1)) (λ k. h))
  act_sized (Some (instruction.Get v)) p fs o u h = h
  act_sized (Some (instruction.Put v)) p fs o u h =
      top_sized p.stack u _ (λ n rest. put_length (code_uses c t) o.copies v (record { value = n; modified = true }) ∙ h)
  act_sized (Some (instruction.GetAt v n place)) p fs o u h =
      top_sized p.stack u _ (λ i rest. unless_sized (index_in n i) place Index (u + 1)
      (λ k. On (onward p ((copy_of (code_uses c t) o.copies (v + k)).value ∷ rest)) fs o (u + 1)) (λ k. h))
  act_sized (Some (instruction.PutAt v n place)) p fs o u h =
      top_sized p.stack u _ (λ x below. top_sized below u _ (λ i rest. unless_sized (index_in n i) place Index (u + 1)
      (λ k. On (onward p rest) fs (put_value (code_uses c t) (v + k) x o) (u + 1))
      (λ k. put_length (code_uses c t) o.copies (v + k) (record { value = x; modified = true }) ∙ h)))
  act_sized (Some (instruction.Unary op)) p fs o u h = top_sized p.stack u _ (λ n rest. h)
  act_sized (Some (instruction.Binary op place)) p fs o u h =
      top_sized p.stack u _ (λ y below. top_sized below u _ (λ x rest. unless_sized (binary_of op x y) (place_or place) Divide (u + 1)
      (λ n. On (onward p (n ∷ rest)) fs o (u + 1)) (λ n. h)))
  act_sized (Some instruction.Truth) p fs o u h = top_sized p.stack u _ (λ n rest. h)
  act_sized (Some (instruction.Zero to)) p fs o u h = top_sized p.stack u _ (λ n rest. h)
  act_sized (Some (instruction.NonZero to)) p fs o u h = top_sized p.stack u _ (λ n rest. h)
  act_sized (Some (instruction.Jump to)) p fs o u h = h
  act_sized (Some (instruction.Unit n)) p fs o u h = h
  act_sized (Some (instruction.Fill w n)) p fs o u h = h
  act_sized (Some (instruction.Turn w place)) p fs o u h =
      turn_sized (get_or p.counters w 0) place u (λ n. On (onward (record p { counters = put_at 0 p.counters w n }) p.stack) fs o u) (λ n. h)
  act_sized (Some (instruction.Flag f value)) p fs o u h = h
  act_sized (Some (instruction.Keep f)) p fs o u h = top_sized p.stack u _ (λ n rest. h)
  act_sized (Some (instruction.Flagged f to)) p fs o u h = h
  act_sized (Some (instruction.Fork j to)) p fs o u h =
      let bs = branches_in c.shape j in
      arguments_sized (arguments_of c.shape bs) p.stack [] u (λ args rest. Waits (awaited bs (starts c t o.copies bs args) p to rest) o (u + 1))
      (λ args rest e. (h, starts_fit o.copies bs args (below_of j) (omega (arith, e))))
  act_sized (Some (instruction.Again j to)) p fs o u h =
      wake_sized (living o.live (branches_in c.shape j)) to p fs o u (living_below (length c.shape.threads) o.live (branches_in c.shape j) (below_of j)) h
  act_sized (Some (instruction.Pause to)) p fs o u h = h
  act_sized (Some instruction.End) p fs o u h = h
  act_sized (Some (instruction.Call f)) p fs o u h =
      arguments_sized (function_arguments c f) p.stack [] u (λ args rest. entered (slice_get c.functions f) args (Caller (onward p rest) ∷ fs) o u)
      (λ args rest e. enter_sized (slice_get c.functions f) args (Caller (onward p rest) ∷ fs) o u h)
  act_sized (Some instruction.Return) p fs o u h = top_sized p.stack u _ (λ n rest. return_sized n fs o u h)

  step_sized : (m : Machine) → Sized m → Sized (step c t m)
  step_sized (On p fs o u) h = act_sized (slice_get p.steps p.at) p fs o u h
  step_sized (Waits w o u) h = h
  step_sized (Merges m o u) h = merge_sized m.left m o u h
  step_sized (Failing place trap u) h = tt
  step_sized (Paused wake o u) h = h
  step_sized (Ended o u) h = h
  step_sized (Trapped place trap u) h = tt
  step_sized (Exceeded u) h = tt
  step_sized (Stuck u) h = tt

  replied_sized : (w : Awaited) (all rs : List Reply) (o : Own) (u : ℕ) → length o.copies ≡ length (code_uses c t) → Sized (replied c t w all rs o u)
  replied_sized w all [] o u h = h
  replied_sized w all (WasTrapped place trap v ∷ rs) o u h = tt
  replied_sized w all (WasPaused copies v ∷ rs) o u h = replied_sized w all rs o u h
  replied_sized w all (WasEnded copies v ∷ rs) o u h = replied_sized w all rs o u h
  replied_sized w all (WasOver ∷ rs) o u h = replied_sized w all rs o u h

  over_sized : (b : Bool) (w : Awaited) (rs : List Reply) (o : Own) (u : ℕ) → length o.copies ≡ length (code_uses c t) →
      Sized (elim b [ true ↦ Exceeded u | false ↦ replied c t w rs rs o (u + all_units rs) ])
  over_sized true w rs o u h = tt
  over_sized false w rs o u h = replied_sized w rs rs o (u + all_units rs) h

  join_sized : (rs : List Reply) (m : Machine) → Sized m → Sized (join c t rs m)
  join_sized rs (Waits w o u) h = over_sized (some_reply_over rs) w rs o u h.0
  join_sized rs (On p fs o u) h = h
  join_sized rs (Merges m o u) h = h
  join_sized rs (Failing place trap u) h = tt
  join_sized rs (Paused wake o u) h = h
  join_sized rs (Ended o u) h = h
  join_sized rs (Trapped place trap u) h = tt
  join_sized rs (Exceeded u) h = tt
  join_sized rs (Stuck u) h = tt

  unmarked_length : (values : List ℤ) → length (unmarked_copies values) ≡ length values
  unmarked_length values = length-map values (λ n. record { value = n; modified = false })

  woken_sized : (values : List ℤ) (m : Machine) → length values ≡ length (code_uses c t) → Sized m → Sized (woken_machine values m)
  woken_sized values (Paused wake o u) e h = unmarked_length values ∙ e
  woken_sized values (On p fs o u) e h = h
  woken_sized values (Waits w o u) e h = h
  woken_sized values (Merges m o u) e h = h
  woken_sized values (Failing place trap u) e h = tt
  woken_sized values (Ended o u) e h = h
  woken_sized values (Trapped place trap u) e h = tt
  woken_sized values (Exceeded u) e h = tt
  woken_sized values (Stuck u) e h = tt

  -- ---- a whole job, and all of them

  abbrev Sized_rest : Rest Machine → Type 0
  Sized_rest (Asleep m) = Sized m
  Sized_rest Nothing = Unit {0}

  begun_sized : (job : Job) (r : Rest Machine) (m : Machine) → FitsThread c.shape t job → Sized_rest r → Begins (code_engine c t) job r m → Sized m
  begun_sized (Start args values a) r m fit h b = subst Sized (sym b) (unmarked_length values ∙ fit.1)
  begun_sized (Wake values a) (Asleep s) m fit h b = subst Sized (sym b) (woken_sized values s fit h)
  begun_sized (Wake values a) Nothing m fit h b = absurd b

  run_sized : (n : ℕ) (m : Machine) → Sized m → Sized (run_for (step c t) n m)
  run_sized zero m h = h
  run_sized (suc n) m h = run_sized n (step c t m) (step_sized m h)

  written_fit : (a : ℕ) (seeds : List Seed) → All_fit seeds → FitBranches c.shape (map (written a) seeds)
  written_fit a [] h = tt
  written_fit a (Starts b args values ∷ seeds) h = (h.0.0, (h.0.1, h.0.2), written_fit a seeds h.1)
  written_fit a (Wakes b values ∷ seeds) h = (h.0.0, h.0.1, written_fit a seeds h.1)

  abbrev Served : Output → Rest Machine → Type 0
  Served o r = FitForks c.shape o.jobs × FitsReply c.shape t o.reply × Sized_rest r

  -- an output that is this one, with this rest
  served_as : (o o' : Output) (r r' : Rest Machine) → o ≡ o' → r ≡ r' → Served o' r' → Served o r
  served_as o o' r r' e g h = subst (λ x. Served x r) (sym e) (subst (Served o') (sym g) h)

  event_sized : (m : Machine) → Sized m → (fork : List Seed → Output → Rest Machine → Type 0) → ((seeds : List Seed) → All_fit seeds → (o : Output) (r : Rest Machine) → fork seeds o r → Served o r) →
      (o : Output) (r : Rest Machine) → AtEvent (code_engine c t) m (view_of m) fork o r → Served o r
  event_sized (On p fs own u) h fork f o r at = absurd at
  event_sized (Waits w own u) h fork f o r at = f w.seeds h.1 o r at
  event_sized (Merges m own u) h fork f o r at = absurd at
  event_sized (Failing place trap u) h fork f o r at = absurd at
  event_sized (Paused wake own u) h fork f o r at = served_as o _ r _ at.0 at.1 (tt, h, h)
  event_sized (Ended own u) h fork f o r at = served_as o _ r _ at.0 at.1 (tt, h, tt)
  event_sized (Trapped place trap u) h fork f o r at = served_as o _ r _ at.0 at.1 (tt, tt, tt)
  event_sized (Exceeded u) h fork f o r at = served_as o _ r _ at.0 at.1 (tt, tt, tt)
  event_sized (Stuck u) h fork f o r at = absurd at

  abbrev e : Engine Machine
  e = code_engine c t

  goes_sized : (a : ℕ) (m : Machine) → Sized m → (fork : Machine → List Seed → Output → Rest Machine → Type 0) →
      ((m' : Machine) → Sized m' → (seeds : List Seed) → All_fit seeds → (o : Output) (r : Rest Machine) → fork m' seeds o r → Served o r) →
      (o : Output) (r : Rest Machine) → RunsOn e a m fork o r → Served o r
  goes_sized a m h fork f o r (over p eo er) = served_as o _ r _ eo er (tt, tt, tt)
  goes_sized a m h fork f o r (event m' reaches at) =
      let h' = subst Sized reaches.lands (run_sized reaches.count m h) in
      event_sized m' h' (fork m') (f m' h') o r at

  serves_sized : (a : ℕ) (replies : List (List Reply)) (m : Machine) → Sized m → (o : Output) (r : Rest Machine) → Serves e a replies m o r → Served o r
  serves_sized a [] m h o r s =
      goes_sized a m h _ (λ m' h' seeds fit o r x. served_as o _ r _ x.0 x.1 ((written_fit (a - e.units m') seeds fit, tt), tt, tt)) o r s
  serves_sized a (rs ∷ more) m h o r s =
      goes_sized a m h _ (λ m' h' seeds fit o r x. by_count m' seeds fit (length rs == length seeds) o r
      (λ o' y. serves_sized a more (join c t rs m') (join_sized rs m' h') o' r y) x) o r s
    where
      by_count : (m' : Machine) (seeds : List Seed) → All_fit seeds → (test : Bool) (o : Output) (r : Rest Machine) →
          ((o' : Output) → Serves e a more (join c t rs m') o' r → Served o' r) →
          IfElse test ((o' : Output) × Serves e a more (join c t rs m') o' r × (o ≡ first_jobs (map (written (a - e.units m')) seeds) o'))
          ((o ≡ ends_at (map (written (a - e.units m')) seeds)) × (r ≡ Nothing)) → Served o r
      by_count m' seeds fit true o r go x =
          let rest = go x.0 x.1 in
          subst (λ y. Served y r) (sym x.2) ((written_fit (a - e.units m') seeds fit, rest.0), rest.1, rest.2)
      by_count m' seeds fit false o r go x = served_as o _ r _ x.0 x.1 ((written_fit (a - e.units m') seeds fit, tt), tt, tt)

  alone_sized : (xs : List Exchange) (os : List Output) (r : Rest Machine) → Sized_rest r → JobsFit c.shape t xs → Alone e xs r os → OutputsFit c.shape t os
  alone_sized [] [] r h jobs a = tt
  alone_sized [] (o ∷ os) r h jobs a = absurd a
  alone_sized (x ∷ xs) [] r h jobs a = absurd a
  alone_sized (x ∷ xs) (o ∷ os) r h jobs a =
      let m = begun_sized x.job r a.0 jobs.0 h a.2 in
      let s = serves_sized (allowance_of x.job) x.replies a.0 m o a.1 a.3 in
      (s.0, s.1, alone_sized xs os a.1 s.2 jobs.1 a.4)

pub jobs_and_replies_fit : JobsAndRepliesFit
jobs_and_replies_fit c t xs os jobs a = alone_sized c t xs os Nothing tt jobs a

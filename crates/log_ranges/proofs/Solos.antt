-- The numbers that a thread of a kernel tells its branches, and those of its replies, are in range.
use Rattle.std.proofs.Common.{ℕ, zero, suc, ◌+◌, ◌-◌, ◌≤◌, ◌≡◌, ◌==◌, ℤ, Bool, true, false, cond, Option, None, Some, List, [], ◌∷◌, ◌++◌, map, length, refl, sym, ap, subst, ◌∙◌, arith, FitsSigned, w32}
use Rattle.std.specs.List.{AllByRecursion}
use Rattle.forec_base.specs.declared.limits.TheConstants.{MAX_BUDGET}
use Rattle.forec_kernel.specs.declared.shape.VarCopy.{VarCopy}
use Rattle.forec_kernel.specs.Shapes.{PlainKernel}
use Rattle.forec_kernel.specs.Texts.{Status, Running, Paused, Ended, Gone, Trapped, RunningText, Done, Run, Then, Turning, Resting, Fork, Held, Watch, Last, Threads, no_threads, child, Thread, some_running, uses_of, words_of, params_of, body_of}
use Rattle.forec_kernel.specs.Steps.{Move, Finished, Halts, Moves, Traps, move_units, thread_after, thread_move}
use Rattle.forec_kernel.specs.Erased.{erased, erased_threads}
use Rattle.forec_kernel.specs.Engine.{Job, Start, Wake, Reply, WasPaused, WasEnded, WasTrapped, WasOver, Seed, Starts, Wakes, Written, written, allowance_of, View, Going, AtFork, Pausing, Ending, Trapping, Exceeding, Engine, run_for, Rest, Asleep, Nothing, Exchange, Output, first_jobs, ends_at, AtEvent, RunsOn, over, event, IfElse, Serves, Begins, Alone, Answered, pair_up, pair_forks, pair_all, Allowed}
use Rattle.forec_kernel.specs.Solo.{fork_of, with_fork, Solo, At, TooLong, unmarked_copies, values_in, started_thread, own_text, waking_thread, solo_wake, seed_of, seeds_for, view_at, solo_view, rests, solo_step, child_replied, all_replied, all_units, some_reply_over, joined_own, solo_join, kernel_engine, KernelAlone}
use Rattle.forec_kernel.proofs.Serving.{allowed_first, allowed_then}
use Rattle.value_ranges.specs.Words.{AreWords, KernelWords}
use Rattle.value_ranges.proofs.Lists.{all_take}
use Rattle.value_ranges.proofs.Values.{CopiesFit, fresh_fits}
use Rattle.value_ranges.proofs.Texts.{TextFits, ThreadsFit, text_fits}
use Rattle.value_ranges.proofs.Moves.{MoveFits, body_fits, move_fits}
use Rattle.value_ranges.proofs.Waking.{text_if_fits, woken_fits}
use Rattle.exchange_meaning.specs.OfShape.{HasJobNumbers, HasReplyNumbers}
use Rattle.exchange_meaning.proofs.TellingLemmas.{equal_number}
use Rattle.log_ranges.specs.Places.{IsPlace, KernelPlaces}
use Rattle.log_ranges.proofs.Moves.{StatusPlace, TextPlaces, ThreadsPlaces, text_places, MovePlaces, body_places, move_places, text_if_places, woken_places}
use Rattle.log_ranges.proofs.Told.{AreTold, ArePairs, AreWritten, ReplyOf, RepliesOf, RepliesWell, TellsWell, up_pairs, told_both, pairs_both}

-- whatever the thread
abbrev pub JobFits : ℕ → Job → Type 0
JobFits t job = HasJobNumbers job

abbrev pub ReplyFits : ℕ → Reply → Type 0
ReplyFits t reply = HasReplyNumbers reply

abbrev RepliesFit : List Reply → Type 0
RepliesFit = AllByRecursion HasReplyNumbers

-- ---- copies and values

unmarked_fits : (values : List ℤ) → AreWords values → CopiesFit (unmarked_copies values)
unmarked_fits [] h = tt
unmarked_fits (n ∷ values) h = (h.0, unmarked_fits values h.1)

pub values_fits : (copies : List VarCopy) → CopiesFit copies → AreWords (values_in copies)
values_fits [] h = tt
values_fits (c ∷ copies) h = (h.0, values_fits copies h.1)

-- ---- texts

abbrev TextGood : RunningText → Type 0
TextGood R = TextFits R × TextPlaces R

abbrev ThreadsGood : Threads → Type 0
ThreadsGood cs = ThreadsFit cs × ThreadsPlaces cs

erased_children : (cs : Threads) → ThreadsGood cs → ThreadsGood (erased_threads cs)
erased_children no_threads h = (tt, tt)
erased_children (child t R w c Running rest) h =
    let g = erased_children rest (h.0.2, h.1.2) in ((h.0.0, h.0.1, g.0), (h.1.0, h.1.1, g.1))
erased_children (child t R w c Paused rest) h = let g = erased_children rest (h.0.2, h.1.2) in ((tt, (tt, h.0.1.1), g.0), (tt, tt, g.1))
erased_children (child t R w c Ended rest) h = let g = erased_children rest (h.0.2, h.1.2) in ((tt, (tt, h.0.1.1), g.0), (tt, tt, g.1))
erased_children (child t R w c Gone rest) h = let g = erased_children rest (h.0.2, h.1.2) in ((tt, (tt, h.0.1.1), g.0), (tt, tt, g.1))
erased_children (child t R w c (Trapped place trap) rest) h =
    let g = erased_children rest (h.0.2, h.1.2) in ((tt, (tt, tt), g.0), (tt, h.1.1, g.1))

erased_good : (R : RunningText) → TextGood R → TextGood (erased R)
erased_good Done h = h
erased_good (Run s) h = h
erased_good (Then R a) h = let g = erased_good R (h.0.0, h.1.0) in ((g.0, h.0.1), (g.1, h.1.1))
erased_good (Turning loop) h = h
erased_good Resting h = h
erased_good (Fork cs) h = erased_children cs h
erased_good (Held cs) h = erased_children cs h
erased_good (Watch weak e R) h = let g = erased_good R (h.0.1, h.1.1) in ((h.0.0, g.0), (h.1.0, g.1))
erased_good (Last R) h = erased_good R h

abbrev ForkGood : Option Threads → Type 0
ForkGood None = Unit {0}
ForkGood (Some cs) = ThreadsGood cs

fork_good : (R : RunningText) → TextGood R → ForkGood (fork_of R)
fork_good Done h = tt
fork_good (Run s) h = tt
fork_good (Then R a) h = fork_good R (h.0.0, h.1.0)
fork_good (Turning loop) h = tt
fork_good Resting h = tt
fork_good (Fork cs) h = pick (some_running cs)
  where
    pick : (b : Bool) → ForkGood (cond b (Some cs) None)
    pick true = h
    pick false = tt
fork_good (Held cs) h = tt
fork_good (Watch weak e R) h = fork_good R (h.0.1, h.1.1)
fork_good (Last R) h = fork_good R h

with_good : (ds : Threads) → ThreadsGood ds → (R : RunningText) → TextGood R → TextGood (with_fork ds R)
with_good ds g Done h = h
with_good ds g (Run s) h = h
with_good ds g (Then R a) h = let f = with_good ds g R (h.0.0, h.1.0) in ((f.0, h.0.1), (f.1, h.1.1))
with_good ds g (Turning loop) h = h
with_good ds g Resting h = h
with_good ds g (Fork cs) h = g
with_good ds g (Held cs) h = h
with_good ds g (Watch weak e R) h = let f = with_good ds g R (h.0.1, h.1.1) in ((h.0.0, f.0), (h.1.0, f.1))
with_good ds g (Last R) h = with_good ds g R h

one_replied : (t : ℕ) (r : Reply) (rest : Threads) → HasReplyNumbers r → ThreadsGood rest → ThreadsGood (child_replied t r rest)
one_replied t (WasPaused c u) rest h g = ((tt, (tt, h.0), g.0), (tt, tt, g.1))
one_replied t (WasEnded c u) rest h g = ((tt, (tt, h.0), g.0), (tt, tt, g.1))
one_replied t (WasTrapped place trap u) rest h g = ((tt, (tt, tt), g.0), (tt, (h.1, h.2), g.1))
one_replied t WasOver rest h g = ((tt, (tt, tt), g.0), (tt, tt, g.1))

replied_good : (cs : Threads) (rs : List Reply) → ThreadsGood cs → RepliesFit rs → ThreadsGood (all_replied cs rs)
replied_good no_threads rs h g = h
replied_good (child t R w c Running rest) [] h g =
    let f = replied_good rest [] (h.0.2, h.1.2) tt in ((h.0.0, h.0.1, f.0), (h.1.0, h.1.1, f.1))
replied_good (child t R w c Running rest) (r ∷ rs) h g =
    one_replied t r (all_replied rest rs) g.0 (replied_good rest rs (h.0.2, h.1.2) g.1)
replied_good (child t R w c Paused rest) rs h g =
    let f = replied_good rest rs (h.0.2, h.1.2) g in ((h.0.0, h.0.1, f.0), (h.1.0, h.1.1, f.1))
replied_good (child t R w c Ended rest) rs h g =
    let f = replied_good rest rs (h.0.2, h.1.2) g in ((h.0.0, h.0.1, f.0), (h.1.0, h.1.1, f.1))
replied_good (child t R w c Gone rest) rs h g =
    let f = replied_good rest rs (h.0.2, h.1.2) g in ((h.0.0, h.0.1, f.0), (h.1.0, h.1.1, f.1))
replied_good (child t R w c (Trapped place trap) rest) rs h g =
    let f = replied_good rest rs (h.0.2, h.1.2) g in ((h.0.0, h.0.1, f.0), (h.1.0, h.1.1, f.1))

-- ---- a thread by itself

record Good (t : Thread) : Type 0 where
  pub text : TextGood t.text
  pub words : AreWords t.words
  pub copies : CopiesFit t.copies
  pub status : StatusPlace t.status

abbrev SoloGood : Solo → Type 0
SoloGood (At t u w) = Good t
SoloGood (TooLong u) = Unit {0}

abbrev RestGood : Rest Solo → Type 0
RestGood (Asleep s) = SoloGood s
RestGood Nothing = Unit {0}

-- what can be seen of it, but for allowances and units
abbrev SeedsFit : List Seed → Type 0
SeedsFit [] = Unit {0}
SeedsFit (Starts b args values ∷ seeds) = (AreWords args × AreWords values) × SeedsFit seeds
SeedsFit (Wakes b values ∷ seeds) = AreWords values × SeedsFit seeds

abbrev ViewGood : View → Type 0
ViewGood Going = Unit {0}
ViewGood (AtFork seeds) = SeedsFit seeds
ViewGood (Pausing copies) = CopiesFit copies
ViewGood (Ending copies) = CopiesFit copies
ViewGood (Trapping place trap) = IsPlace place
ViewGood Exceeding = Unit {0}

-- an allowance, at most the greatest budget
abbrev IsAllowance : ℕ → Type 0
IsAllowance a = a ≤ MAX_BUDGET

written_fit : (a : ℕ) → IsAllowance a → (seeds : List Seed) → SeedsFit seeds → AreWritten JobFits ReplyFits (map (written a) seeds)
written_fit a le [] h = tt
written_fit a le (Starts b args values ∷ seeds) h = ((h.0.0, h.0.1, le), written_fit a le seeds h.1)
written_fit a le (Wakes b values ∷ seeds) h = ((h.0, le), written_fit a le seeds h.1)

module _ (k : PlainKernel) (numbers : KernelWords k) (places : KernelPlaces k) where
  starts_good : (t : ℕ) (args values : List ℤ) → AreWords args → AreWords values → Good (started_thread k t args values)
  starts_good t args values h g =
      record {
        text = (text_fits (body_of k t) (body_fits k numbers t), text_places (body_of k t) (body_places k places t));
        words = fresh_fits args (words_of k t) h;
        copies = unmarked_fits values g;
        status = tt;
      }

  wakes_good : (values : List ℤ) (s : Solo) → AreWords values → SoloGood s → SoloGood (solo_wake k values s)
  wakes_good values (At t u w) h g =
      let copies = unmarked_copies values in
      let c = unmarked_fits values h in
      let own = erased_good t.text g.text in
      let r = waking_thread k values (own_text t) in
      let place = text_if_places k places (erased t.text) r own.1 (woken_places k places (uses_of k t.number) t.words copies (erased t.text) own.1) in
      record {
        text = (text_if_fits (erased t.text) r own.0 (woken_fits k (uses_of k t.number) t.words copies (erased t.text) c own.0), place.0);
        words = g.words;
        copies = c;
        status = place.1;
      }
  wakes_good values (TooLong u) h g = tt

  join_good : (rs : List Reply) (s : Solo) → RepliesFit rs → SoloGood s → SoloGood (solo_join rs s)
  join_good rs (At t u w) h g = by_fork (fork_of t.text) (fork_good t.text g.text)
    where
      by_over : (b : Bool) (cs : Threads) → ThreadsGood cs →
          SoloGood (elim b [ true ↦ TooLong u | false ↦ At (record t { text = with_fork (all_replied cs rs) t.text }) (u + all_units rs) false ])
      by_over true cs f = tt
      by_over false cs f =
          record { text = with_good (all_replied cs rs) (replied_good cs rs f h) t.text g.text; words = g.words; copies = g.copies; status = g.status }

      by_fork : (o : Option Threads) → ForkGood o → SoloGood (joined_own t u w rs o)
      by_fork None f = g
      by_fork (Some cs) f = by_over (some_reply_over rs) cs f
  join_good rs (TooLong u) h g = tt

  after_good : (t : Thread) (m : Move) → Good t → MoveFits m → MovePlaces m → Good (thread_after t m)
  after_good t Finished g h p = record { text = g.text; words = g.words; copies = g.copies; status = tt }
  after_good t Halts g h p = record { text = g.text; words = g.words; copies = g.copies; status = tt }
  after_good t (Moves R w c u) g h p = record { text = (h.0, p); words = h.1; copies = h.2; status = g.status }
  after_good t (Traps place trap u) g h p = record { text = g.text; words = g.words; copies = g.copies; status = p }

  step_good : (s : Solo) → SoloGood s → SoloGood (solo_step k s)
  step_good (At t u w) g = by_rest (rests t) (thread_move k [] t)
      (after_good t (thread_move k [] t) g (move_fits k numbers [] (uses_of k t.number) t.words t.copies t.text g.words g.copies g.text.0)
      (move_places k places [] (uses_of k t.number) t.words t.copies t.text g.text.1))
    where
      by_rest : (b : Bool) (m : Move) → Good (thread_after t m) →
          SoloGood (elim b [ true ↦ At t u w | false ↦ At (thread_after t m) (u + move_units m) false ])
      by_rest true m h = g
      by_rest false m h = h
  step_good (TooLong u) g = tt

  run_good : (n : ℕ) (s : Solo) → SoloGood s → SoloGood (run_for (solo_step k) n s)
  run_good zero s g = g
  run_good (suc n) s g = run_good n (solo_step k s) (step_good s g)

  -- ---- what can be seen

  seed_fits : (woke : Bool) (t : ℕ) (w : List ℤ) (c : List VarCopy) (rest : List Seed) → AreWords w → CopiesFit c → SeedsFit rest → SeedsFit (seed_of k woke t w c ∷ rest)
  seed_fits false t w c rest h g f = ((all_take (FitsSigned w32) (params_of k t) w h, values_fits c g), f)
  seed_fits true t w c rest h g f = (values_fits c g, f)

  seeds_fit : (woke : Bool) (cs : Threads) → ThreadsFit cs → SeedsFit (seeds_for k woke cs)
  seeds_fit woke no_threads h = tt
  seeds_fit woke (child t R w c Running rest) h = seed_fits woke t w c (seeds_for k woke rest) h.1.0 h.1.1 (seeds_fit woke rest h.2)
  seeds_fit woke (child t R w c Paused rest) h = seeds_fit woke rest h.2
  seeds_fit woke (child t R w c Ended rest) h = seeds_fit woke rest h.2
  seeds_fit woke (child t R w c Gone rest) h = seeds_fit woke rest h.2
  seeds_fit woke (child t R w c (Trapped place trap) rest) h = seeds_fit woke rest h.2

  view_is : (woke : Bool) (copies : List VarCopy) (st : Status) (fork : Option Threads) → CopiesFit copies → StatusPlace st → ForkGood fork → ViewGood (view_at k woke copies st fork)
  view_is woke copies Running None c p f = tt
  view_is woke copies Running (Some cs) c p f = seeds_fit woke cs f.0
  view_is woke copies Paused fork c p f = c
  view_is woke copies Ended fork c p f = c
  view_is woke copies Gone fork c p f = c
  view_is woke copies (Trapped place trap) fork c p f = p

  view_good : (s : Solo) → SoloGood s → ViewGood (solo_view k s)
  view_good (At t u w) g = view_is w t.copies t.status (fork_of t.text) g.copies g.status (fork_good t.text g.text)
  view_good (TooLong u) g = tt

  -- ---- jobs, with the replies of branches that reply well

  module _ (t : ℕ) (Sub : ℕ → List Job → Reply → Type 0) (well : RepliesWell JobFits ReplyFits Sub) where
    abbrev e : Engine Solo
    e = kernel_engine k t

    -- what a job gives, where these replies were given
    record Served (rss : List (List Reply)) (past : List Answered) (o : Output) (r : Rest Solo) : Type 0 where
      pub pairs : Allowed Sub past (pair_forks o.jobs rss) → ArePairs JobFits ReplyFits (pair_forks o.jobs rss)
      pub reply : Allowed Sub past (pair_forks o.jobs rss) → ReplyOf JobFits ReplyFits t o.reply
      pub rest : Allowed Sub past (pair_forks o.jobs rss) → RestGood r

    served_as : (rss : List (List Reply)) (past : List Answered) (o o' : Output) (r r' : Rest Solo) → o ≡ o' → r ≡ r' → Served rss past o' r' → Served rss past o r
    served_as rss past o o' r r' p q h = subst (λ x. Served rss past x r) (sym p) (subst (Served rss past o') (sym q) h)

    replies_now : (rss : List (List Reply)) (past : List Answered) (reply : Reply) (r : Rest Solo) → HasReplyNumbers reply → RestGood r →
        Served rss past (record { jobs = []; reply = Some reply }) r
    replies_now rss past reply r h g = record { pairs = λ al. tt; reply = λ al. h; rest = λ al. g }

    event_served : (a : ℕ) → IsAllowance a → (rss : List (List Reply)) (past : List Answered) (s : Solo) → SoloGood s → e.units s ≤ a → (v : View) → ViewGood v →
        (fork : List Seed → Output → Rest Solo → Type 0) → ((seeds : List Seed) → SeedsFit seeds → (o : Output) (r : Rest Solo) → fork seeds o r → Served rss past o r) →
        (o : Output) (r : Rest Solo) → AtEvent e s v fork o r → Served rss past o r
    event_served a le rss past s g within Going h fork f o r at = absurd at
    event_served a le rss past s g within (AtFork seeds) h fork f o r at = f seeds h o r at
    event_served a le rss past s g within (Pausing copies) h fork f o r at =
        served_as rss past o _ r _ at.0 at.1 (replies_now rss past (WasPaused copies (e.units s)) (Asleep s) (h, omega (arith, le, within)) g)
    event_served a le rss past s g within (Ending copies) h fork f o r at =
        served_as rss past o _ r _ at.0 at.1 (replies_now rss past (WasEnded copies (e.units s)) Nothing (h, omega (arith, le, within)) tt)
    event_served a le rss past s g within (Trapping place trap) h fork f o r at =
        served_as rss past o _ r _ at.0 at.1 (replies_now rss past (WasTrapped place trap (e.units s)) Nothing (omega (arith, le, within), h.0, h.1) tt)
    event_served a le rss past s g within Exceeding h fork f o r at = served_as rss past o _ r _ at.0 at.1 (replies_now rss past WasOver Nothing tt tt)

    goes_served : (a : ℕ) → IsAllowance a → (rss : List (List Reply)) (past : List Answered) (s : Solo) → SoloGood s → (fork : Solo → List Seed → Output → Rest Solo → Type 0) →
        ((s' : Solo) → SoloGood s' → (seeds : List Seed) → SeedsFit seeds → (o : Output) (r : Rest Solo) → fork s' seeds o r → Served rss past o r) →
        (o : Output) (r : Rest Solo) → RunsOn e a s fork o r → Served rss past o r
    goes_served a le rss past s g fork f o r (over p eo er) = served_as rss past o _ r _ eo er (replies_now rss past WasOver Nothing tt tt)
    goes_served a le rss past s g fork f o r (event s' reaches at) =
        let g' = subst SoloGood reaches.lands (run_good reaches.count s g) in
        event_served a le rss past s' g' reaches.within (solo_view k s') (view_good s' g') (fork s') (f s' g') o r at

    -- a fork at which the run ends
    ends_served : (a : ℕ) → IsAllowance a → (rss : List (List Reply)) (past : List Answered) → AreTold JobFits ReplyFits past → (seeds : List Seed) → SeedsFit seeds →
        Served rss past (ends_at (map (written a) seeds)) Nothing
    ends_served a le [] past told seeds h = record { pairs = λ al. tt; reply = λ al. tt; rest = λ al. tt }
    ends_served a le (rs ∷ rss) past told seeds h =
        let ws = map (written a) seeds in
        record {
          pairs = λ al. pairs_both JobFits ReplyFits Sub well (pair_up ws rs) [] (up_pairs JobFits ReplyFits Sub well past ws rs told (written_fit a le seeds h) (allowed_first Sub past (pair_up ws rs) [] al)) tt;
          reply = λ al. tt;
          rest = λ al. tt;
        }

    -- the replies of a fork, which are as many as what was written
    replies_of : (ws : List Written) (rs : List Reply) → length rs ≡ length ws → ArePairs JobFits ReplyFits (pair_up ws rs) → RepliesFit rs
    replies_of ws [] n h = tt
    replies_of [] (r ∷ rs) n h = cc
    replies_of (w ∷ ws) (r ∷ rs) n h = let n' : length rs ≡ length ws = cc in (h.0.1, replies_of ws rs n' h.1)

    written_length : (a : ℕ) (seeds : List Seed) → length (map (written a) seeds) ≡ length seeds
    written_length a [] = refl
    written_length a (x ∷ seeds) = ap suc (written_length a seeds)

    serves_well : (a : ℕ) → IsAllowance a → (rss : List (List Reply)) (past : List Answered) → AreTold JobFits ReplyFits past → (s : Solo) → SoloGood s → (o : Output) (r : Rest Solo) →
        Serves e a rss s o r → Served rss past o r
    serves_well a le [] past told s g o r x =
        goes_served a le [] past s g _
        (λ s' g' seeds h o r y. served_as [] past o _ r _ y.0 y.1 (ends_served (a - e.units s') (omega (arith, le)) [] past told seeds h)) o r x
    serves_well a le (rs ∷ rss) past told s g o r x =
        goes_served a le (rs ∷ rss) past s g _
        (λ s' g' seeds h o r y. by_count s' g' seeds h (length rs == length seeds) refl o r
        (λ past' told' fit o' z. serves_well a le rss past' told' (solo_join rs s') (join_good rs s' fit g') o' r z) y) o r x
      where
        by_count : (s' : Solo) → SoloGood s' → (seeds : List Seed) → SeedsFit seeds → (test : Bool) → (length rs == length seeds) ≡ test → (o : Output) (r : Rest Solo) →
            ((past' : List Answered) → AreTold JobFits ReplyFits past' → RepliesFit rs → (o' : Output) → Serves e a rss (solo_join rs s') o' r → Served rss past' o' r) →
            IfElse test ((o' : Output) × Serves e a rss (solo_join rs s') o' r × (o ≡ first_jobs (map (written (a - e.units s')) seeds) o'))
            ((o ≡ ends_at (map (written (a - e.units s')) seeds)) × (r ≡ Nothing)) → Served (rs ∷ rss) past o r
        by_count s' g' seeds h true n o r go y =
            let ws = map (written (a - e.units s')) seeds in
            let ups = pair_up ws rs in
            let o' = y.0 in
            let count : length rs ≡ length ws = equal_number (length rs) (length seeds) n ∙ sym (written_length (a - e.units s') seeds) in
            let first : Allowed Sub past (ups ++ pair_forks o'.jobs rss) → ArePairs JobFits ReplyFits ups =
            λ al. up_pairs JobFits ReplyFits Sub well past ws rs told (written_fit (a - e.units s') (omega (arith, le)) seeds h) (allowed_first Sub past ups (pair_forks o'.jobs rss) al) in
            let later : Allowed Sub past (ups ++ pair_forks o'.jobs rss) → Served rss (past ++ ups) o' r =
            λ al. go (past ++ ups) (told_both JobFits ReplyFits Sub well past ups told (first al)) (replies_of ws rs count (first al)) o' y.1 in
            let then : Allowed Sub past (ups ++ pair_forks o'.jobs rss) → Allowed Sub (past ++ ups) (pair_forks o'.jobs rss) = λ al. allowed_then Sub past ups (pair_forks o'.jobs rss) al in
            subst (λ z. Served (rs ∷ rss) past z r) (sym y.2)
            (record {
              pairs = λ al. pairs_both JobFits ReplyFits Sub well ups (pair_forks o'.jobs rss) (first al) ((later al).pairs (then al));
              reply = λ al. (later al).reply (then al);
              rest = λ al. (later al).rest (then al);
            })
        by_count s' g' seeds h false n o r go y =
            served_as (rs ∷ rss) past o _ r _ y.0 y.1 (ends_served (a - e.units s') (omega (arith, le)) (rs ∷ rss) past told seeds h)

    begins_good : (job : Job) (r : Rest Solo) (s : Solo) → HasJobNumbers job → RestGood r → Begins e job r s → SoloGood s
    begins_good (Start args values a) r s h g b = subst SoloGood (sym b) (starts_good t args values h.0 h.1)
    begins_good (Wake values a) (Asleep s0) s h g b = subst SoloGood (sym b) (wakes_good values s0 h.0 g)
    begins_good (Wake values a) Nothing s h g b = absurd b

    allowance_fits : (job : Job) → HasJobNumbers job → IsAllowance (allowance_of job)
    allowance_fits (Start args values a) h = h.2
    allowance_fits (Wake values a) h = h.1

    abbrev Told : List Exchange → List Output → Type 0
    Told xs os = ArePairs JobFits ReplyFits (pair_all xs os) × RepliesOf JobFits ReplyFits t os

    alone_well : (xs : List Exchange) (os : List Output) (r : Rest Solo) (past : List Answered) → AreTold JobFits ReplyFits past → RestGood r →
        AllByRecursion (JobFits t) (map (λ x. x.job) xs) → Alone e xs r os → Allowed Sub past (pair_all xs os) → Told xs os
    alone_well [] [] r past told g jobs h al = (tt, tt)
    alone_well [] (o ∷ os) r past told g jobs h al = absurd h
    alone_well (x ∷ xs) [] r past told g jobs h al = absurd h
    alone_well (x ∷ xs) (o ∷ os) r past told g jobs h al =
        let here = pair_forks o.jobs x.replies in
        let rest = pair_all xs os in
        let s = serves_well (allowance_of x.job) (allowance_fits x.job jobs.0) x.replies past told h.0 (begins_good x.job r h.0 jobs.0 g h.2) o h.1 h.3 in
        let now = allowed_first Sub past here rest al in
        let pairs = s.pairs now in
        let more = alone_well xs os h.1 (past ++ here) (told_both JobFits ReplyFits Sub well past here told pairs) (s.rest now) jobs.1 h.4 (allowed_then Sub past here rest al) in
        (pairs_both JobFits ReplyFits Sub well here rest pairs more.0, (s.reply now, more.1))

  pub numbers_told : TellsWell JobFits ReplyFits (KernelAlone k)
  numbers_told t xs os h jobs Sub well al = alone_well t Sub well xs os Nothing [] tt tt jobs h al

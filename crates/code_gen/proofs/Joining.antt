-- The branches of a fork have replied: what the thread does next, and what the machine does.
use Rattle.std.proofs.Common.{◌≡◌, ℕ, ◌+◌, ◌==◌, List, [], ◌∷◌, length, Option, Some, None, Bool, true, false, cond, not, refl, sym, ap, ◌∙◌, subst, arith, get_or}
use Rattle.std.proofs.lemmas.Bool.Decides.{nat_tests}
use Rattle.forec_base.specs.declared.Place.{Place}
use Rattle.forec_base.specs.declared.Trap.{Trap}
use Rattle.forec_kernel.specs.Shapes.{PlainKernel}
use Rattle.forec_kernel.specs.Values.{call}
use Rattle.forec_kernel.specs.Texts.{Running, Paused, Ended, Gone, Trapped, RunningText, Done, Run, Then, Turning, Resting, Fork, Held, Watch, Last, Threads, no_threads, child, some_running, all_over, first_trap, ended_are_gone, uses_of}
use Rattle.forec_kernel.specs.WellFormed.{distinct}
use Rattle.forec_kernel.specs.Combining.{contains, variable_of, joined_copies, Cost, Costs, Fails, join_cost}
use Rattle.forec_kernel.specs.Steps.{Owner, combined, joined, text_move}
use Rattle.forec_kernel.specs.Engine.{Seed, Reply, WasPaused, WasEnded, WasTrapped, WasOver}
use Rattle.forec_kernel.specs.Solo.{fork_of, with_fork, seeds_for, all_replied, some_reply_over}
use Rattle.forec_kernel.proofs.Commute.{fork_quiet}
use Rattle.thread_code.specs.declared.instruction.Instruction.{Instruction}
use Rattle.thread_code.specs.Machine as machine
use Rattle.thread_code.specs.Machine.{Point, Own, Awaited, Machine, On, Merges, BranchCopy, put_at, no_totals, is_ended, all_shares, live_after, back_to, replied}
use Rattle.code_gen.specs.Statements.{Around, InAbort}
use Rattle.code_gen.specs.Blocks.{kernel_code}
use Rattle.code_gen.proofs.Cells.{put_same, put_other}
use Rattle.code_gen.proofs.Fits.{FitsCall, CallsRun}
use Rattle.code_gen.proofs.Stretch.{point, Comes, comes_at}
use Rattle.code_gen.proofs.Columns.{Ascends}
use Rattle.code_gen.proofs.Branchwise.{child_shares}
use Rattle.code_gen.proofs.Merging.{Joined, join_runs}
use Rattle.code_gen.proofs.MachinePoints.{Store, Marks, own, numbers, running_in, Awaits, Sleeps, some_paused, leaf, ok, inside, Here, At_fork, ForkAt, Works, At, ReachesText}
use Rattle.code_gen.proofs.Steps.{Follows, then_runs, watch_runs, last_runs}

-- a reply for each child that runs
abbrev pub Replies : Threads → List Reply → Type 0
Replies no_threads [] = Unit {0}
Replies no_threads (r ∷ rs) = ⊥
Replies (child t R w c Running rest) [] = ⊥
Replies (child t R w c Running rest) (r ∷ rs) = Replies rest rs
Replies (child t R w c st rest) rs = Replies rest rs

-- no reply is Over or a trap
abbrev pub Quiet : List Reply → Type 0
Quiet [] = Unit {0}
Quiet (WasPaused c u ∷ rs) = Quiet rs
Quiet (WasEnded c u ∷ rs) = Quiet rs
Quiet (WasTrapped place trap u ∷ rs) = ⊥
Quiet (WasOver ∷ rs) = ⊥

abbrev pub reply_trap : List Reply → Option (Place × Trap)
reply_trap [] = None
reply_trap (WasTrapped place trap u ∷ rs) = Some (place, trap)
reply_trap (WasPaused c u ∷ rs) = reply_trap rs
reply_trap (WasEnded c u ∷ rs) = reply_trap rs
reply_trap (WasOver ∷ rs) = reply_trap rs

pub quiet : (rs : List Reply) → some_reply_over rs ≡ false → reply_trap rs ≡ None → Quiet rs
quiet [] h g = tt
quiet (WasPaused c u ∷ rs) h g = quiet rs h g
quiet (WasEnded c u ∷ rs) h g = quiet rs h g
quiet (WasTrapped place trap u ∷ rs) h g = cc
quiet (WasOver ∷ rs) h g = cc

abbrev pub all_ended : List Reply → Bool
all_ended [] = true
all_ended (r ∷ rs) = cond (is_ended r) (all_ended rs) false

module _ (k : PlainKernel) (live : List Bool) where
  pub replies_fit : (cs : Threads) (woke : Bool) (rs : List Reply) → Awaits live cs → length rs ≡ length (seeds_for k woke cs) → Replies cs rs
  replies_fit no_threads woke [] a h = tt
  replies_fit no_threads woke (r ∷ rs) a h = absurd (omega (arith, h))
  replies_fit (child t R w c Running rest) woke [] a h = absurd (omega (arith, h))
  replies_fit (child t R w c Running rest) woke (r ∷ rs) a h = let e : length rs ≡ length (seeds_for k woke rest) = omega (arith, h) in replies_fit rest woke rs a e
  replies_fit (child t R w c Paused rest) woke rs a h = absurd a
  replies_fit (child t R w c Ended rest) woke rs a h = absurd a
  replies_fit (child t R w c Gone rest) woke rs a h = replies_fit rest woke rs a.1 h
  replies_fit (child t R w c (Trapped place trap) rest) woke rs a h = absurd a

  pub replied_numbers : (cs : Threads) (rs : List Reply) → Awaits live cs → Replies cs rs → numbers (all_replied cs rs) ≡ numbers cs
  replied_numbers no_threads rs a h = refl
  replied_numbers (child t R w c Running rest) [] a h = absurd h
  replied_numbers (child t R w c Running rest) (WasPaused d u ∷ rs) a h = ap (λ l. t ∷ l) (replied_numbers rest rs a h)
  replied_numbers (child t R w c Running rest) (WasEnded d u ∷ rs) a h = ap (λ l. t ∷ l) (replied_numbers rest rs a h)
  replied_numbers (child t R w c Running rest) (WasTrapped place trap u ∷ rs) a h = ap (λ l. t ∷ l) (replied_numbers rest rs a h)
  replied_numbers (child t R w c Running rest) (WasOver ∷ rs) a h = ap (λ l. t ∷ l) (replied_numbers rest rs a h)
  replied_numbers (child t R w c Paused rest) rs a h = absurd a
  replied_numbers (child t R w c Ended rest) rs a h = absurd a
  replied_numbers (child t R w c Gone rest) rs a h = ap (λ l. t ∷ l) (replied_numbers rest rs a.1 h)
  replied_numbers (child t R w c (Trapped place trap) rest) rs a h = absurd a

  pub none_running : (cs : Threads) (rs : List Reply) → Awaits live cs → Replies cs rs → some_running (all_replied cs rs) ≡ false
  none_running no_threads rs a h = refl
  none_running (child t R w c Running rest) [] a h = absurd h
  none_running (child t R w c Running rest) (WasPaused d u ∷ rs) a h = none_running rest rs a h
  none_running (child t R w c Running rest) (WasEnded d u ∷ rs) a h = none_running rest rs a h
  none_running (child t R w c Running rest) (WasTrapped place trap u ∷ rs) a h = none_running rest rs a h
  none_running (child t R w c Running rest) (WasOver ∷ rs) a h = none_running rest rs a h
  none_running (child t R w c Paused rest) rs a h = absurd a
  none_running (child t R w c Ended rest) rs a h = absurd a
  none_running (child t R w c Gone rest) rs a h = none_running rest rs a.1 h
  none_running (child t R w c (Trapped place trap) rest) rs a h = absurd a

  pub same_trap : (cs : Threads) (rs : List Reply) → Awaits live cs → Replies cs rs → first_trap (all_replied cs rs) ≡ reply_trap rs
  same_trap no_threads [] a h = refl
  same_trap no_threads (r ∷ rs) a h = absurd h
  same_trap (child t R w c Running rest) [] a h = absurd h
  same_trap (child t R w c Running rest) (WasPaused d u ∷ rs) a h = same_trap rest rs a h
  same_trap (child t R w c Running rest) (WasEnded d u ∷ rs) a h = same_trap rest rs a h
  same_trap (child t R w c Running rest) (WasTrapped place trap u ∷ rs) a h = refl
  same_trap (child t R w c Running rest) (WasOver ∷ rs) a h = same_trap rest rs a h
  same_trap (child t R w c Paused rest) rs a h = absurd a
  same_trap (child t R w c Ended rest) rs a h = absurd a
  same_trap (child t R w c Gone rest) rs a h = same_trap rest rs a.1 h
  same_trap (child t R w c (Trapped place trap) rest) rs a h = absurd a

  pub same_shares : (cs : Threads) (rs : List Reply) → Awaits live cs → Replies cs rs → Quiet rs → child_shares k (all_replied cs rs) ≡ all_shares (kernel_code k) (running_in cs) rs
  same_shares no_threads rs a h g = refl
  same_shares (child t R w c Running rest) [] a h g = absurd h
  same_shares (child t R w c Running rest) (WasPaused d u ∷ rs) a h g = rw (same_shares rest rs a h g) refl
  same_shares (child t R w c Running rest) (WasEnded d u ∷ rs) a h g = rw (same_shares rest rs a h g) refl
  same_shares (child t R w c Running rest) (WasTrapped place trap u ∷ rs) a h g = absurd g
  same_shares (child t R w c Running rest) (WasOver ∷ rs) a h g = absurd g
  same_shares (child t R w c Paused rest) rs a h g = absurd a
  same_shares (child t R w c Ended rest) rs a h g = absurd a
  same_shares (child t R w c Gone rest) rs a h g = same_shares rest rs a.1 h g
  same_shares (child t R w c (Trapped place trap) rest) rs a h g = absurd a

  pub over_together : (cs : Threads) (rs : List Reply) → Awaits live cs → Replies cs rs → Quiet rs → all_over (all_replied cs rs) ≡ all_ended rs
  over_together no_threads [] a h g = refl
  over_together no_threads (r ∷ rs) a h g = absurd h
  over_together (child t R w c Running rest) [] a h g = absurd h
  over_together (child t R w c Running rest) (WasPaused d u ∷ rs) a h g = refl
  over_together (child t R w c Running rest) (WasEnded d u ∷ rs) a h g = over_together rest rs a h g
  over_together (child t R w c Running rest) (WasTrapped place trap u ∷ rs) a h g = absurd g
  over_together (child t R w c Running rest) (WasOver ∷ rs) a h g = absurd g
  over_together (child t R w c Paused rest) rs a h g = absurd a
  over_together (child t R w c Ended rest) rs a h g = absurd a
  over_together (child t R w c Gone rest) rs a h g = over_together rest rs a.1 h g
  over_together (child t R w c (Trapped place trap) rest) rs a h g = absurd a

  pub some_left : (cs : Threads) (rs : List Reply) → Awaits live cs → Replies cs rs → Quiet rs → all_ended rs ≡ false → some_paused (ended_are_gone (all_replied cs rs)) ≡ true
  some_left no_threads [] a h g e = cc
  some_left no_threads (r ∷ rs) a h g e = absurd h
  some_left (child t R w c Running rest) [] a h g e = absurd h
  some_left (child t R w c Running rest) (WasPaused d u ∷ rs) a h g e = refl
  some_left (child t R w c Running rest) (WasEnded d u ∷ rs) a h g e = some_left rest rs a h g e
  some_left (child t R w c Running rest) (WasTrapped place trap u ∷ rs) a h g e = absurd g
  some_left (child t R w c Running rest) (WasOver ∷ rs) a h g e = absurd g
  some_left (child t R w c Paused rest) rs a h g e = absurd a
  some_left (child t R w c Ended rest) rs a h g e = absurd a
  some_left (child t R w c Gone rest) rs a h g e = some_left rest rs a.1 h g e
  some_left (child t R w c (Trapped place trap) rest) rs a h g e = absurd a

pub gone_numbers : (cs : Threads) → numbers (ended_are_gone cs) ≡ numbers cs
gone_numbers no_threads = refl
gone_numbers (child t R w c st rest) = ap (λ l. t ∷ l) (gone_numbers rest)

pub back_is : (w : Awaited) (rs : List Reply) → back_to w rs ≡ cond (all_ended rs) w.done w.going
back_is w [] = refl
back_is w (r ∷ rs) = pick (is_ended r) (back_is w rs)
  where
    pick : (b : Bool) → back_to w rs ≡ cond (all_ended rs) w.done w.going → cond b (back_to w rs) w.going ≡ cond (cond b (all_ended rs) false) w.done w.going
    pick true h = h
    pick false h = refl

-- ---- which branches live

member_parts : (b c : Bool) → cond b true c ≡ false → (b ≡ false) × (c ≡ false)
member_parts true c h = cc
member_parts false c h = (refl, h)

apart_numbers : (x : ℕ) (xs : List ℕ) → distinct (x ∷ xs) ≡ true → (contains x xs ≡ false) × (distinct xs ≡ true)
apart_numbers x xs h = pick (contains x xs) h
  where
    pick : (b : Bool) → cond b false (distinct xs) ≡ true → (b ≡ false) × (distinct xs ≡ true)
    pick true h = cc
    pick false h = (refl, h)

running_among : (x : ℕ) (cs : Threads) → contains x (numbers cs) ≡ false → contains x (running_in cs) ≡ false
running_among x no_threads h = refl
running_among x (child t R w c Running rest) h = let p = member_parts (t == x) (contains x (numbers rest)) h in rw (p.0) (running_among x rest p.1)
running_among x (child t R w c Paused rest) h = running_among x rest (member_parts (t == x) (contains x (numbers rest)) h).1
running_among x (child t R w c Ended rest) h = running_among x rest (member_parts (t == x) (contains x (numbers rest)) h).1
running_among x (child t R w c Gone rest) h = running_among x rest (member_parts (t == x) (contains x (numbers rest)) h).1
running_among x (child t R w c (Trapped place trap) rest) h = running_among x rest (member_parts (t == x) (contains x (numbers rest)) h).1

not_same : (a b : ℕ) → (a == b) ≡ false → b ≡ a → ⊥
not_same a b h e = let t : (a == b) ≡ true = grind (arith, nat_tests, e) in let f : true ≡ false = sym t ∙ h in cc

live_other : (bs : List ℕ) (rs : List Reply) (live : List Bool) (x : ℕ) → contains x bs ≡ false → get_or (live_after bs rs live) x false ≡ get_or live x false
live_other [] rs live x h = refl
live_other (b ∷ bs) [] live x h = refl
live_other (b ∷ bs) (r ∷ rs) live x h =
    let p = member_parts (b == x) (contains x bs) h in
    live_other bs rs (put_at false live b (not (is_ended r))) x p.1 ∙ put_other false live b (not (is_ended r)) x (not_same b x p.0)

awaits_put : (live : List Bool) (b : ℕ) (y : Bool) (cs : Threads) → contains b (numbers cs) ≡ false → Awaits live cs → Awaits (put_at false live b y) cs
awaits_put live b y no_threads h a = tt
awaits_put live b y (child t R w c Running rest) h a = awaits_put live b y rest (member_parts (t == b) (contains b (numbers rest)) h).1 a
awaits_put live b y (child t R w c Paused rest) h a = absurd a
awaits_put live b y (child t R w c Ended rest) h a = absurd a
awaits_put live b y (child t R w c Gone rest) h a =
    let p = member_parts (t == b) (contains b (numbers rest)) h in
    (put_other false live b y t (λ e. not_same t b p.0 (sym e)) ∙ a.0, awaits_put live b y rest p.1 a.1)
awaits_put live b y (child t R w c (Trapped place trap) rest) h a = absurd a

pub sleeps_after : (live : List Bool) (cs : Threads) (rs : List Reply) → distinct (numbers cs) ≡ true → Awaits live cs → Replies cs rs → Quiet rs → Sleeps (live_after (running_in cs) rs live) (ended_are_gone (all_replied cs rs))
sleeps_after live no_threads rs d a h g = tt
sleeps_after live (child t R w c Running rest) [] d a h g = absurd h
sleeps_after live (child t R w c Running rest) (WasPaused e u ∷ rs) d a h g =
    let p = apart_numbers t (numbers rest) d in
    let live1 = put_at false live t true in
    (live_other (running_in rest) rs live1 t (running_among t rest p.0) ∙ put_same false live t true, sleeps_after live1 rest rs p.1 (awaits_put live t true rest p.0 a) h g)
sleeps_after live (child t R w c Running rest) (WasEnded e u ∷ rs) d a h g =
    let p = apart_numbers t (numbers rest) d in
    let live1 = put_at false live t false in
    (live_other (running_in rest) rs live1 t (running_among t rest p.0) ∙ put_same false live t false, sleeps_after live1 rest rs p.1 (awaits_put live t false rest p.0 a) h g)
sleeps_after live (child t R w c Running rest) (WasTrapped place trap u ∷ rs) d a h g = absurd g
sleeps_after live (child t R w c Running rest) (WasOver ∷ rs) d a h g = absurd g
sleeps_after live (child t R w c Paused rest) rs d a h g = absurd a
sleeps_after live (child t R w c Ended rest) rs d a h g = absurd a
sleeps_after live (child t R w c Gone rest) rs d a h g =
    let p = apart_numbers t (numbers rest) d in
    (live_other (running_in rest) rs live t (running_among t rest p.0) ∙ a.0, sleeps_after live rest rs p.1 a.1 h g)
sleeps_after live (child t R w c (Trapped place trap) rest) rs d a h g = absurd a

-- ---- the machine at the join

module _ (k : PlainKernel) (t : ℕ) (w : Awaited) (all : List Reply) (o : Own) (u : ℕ) where
  pub replied_trap : (rs : List Reply) (place : Place) (trap : Trap) → reply_trap rs ≡ Some (place, trap) → replied (kernel_code k) t w all rs o u ≡ machine.Failing place trap u
  replied_trap [] place trap h = cc
  replied_trap (WasPaused d v ∷ rs) place trap h = replied_trap rs place trap h
  replied_trap (WasEnded d v ∷ rs) place trap h = replied_trap rs place trap h
  replied_trap (WasTrapped place' trap' v ∷ rs) place trap h = ap (λ (x : Option (Place × Trap)). elim x as (λ y. Machine) [ Some p ↦ machine.Failing p.0 p.1 u | None ↦ machine.Stuck u ]) h
  replied_trap (WasOver ∷ rs) place trap h = replied_trap rs place trap h

  abbrev pub merging : Machine
  merging = Merges (record { left = all_shares (kernel_code k) w.branches all; totals = no_totals (machine.code_uses (kernel_code k) t) o.copies; back = back_to w all }) (record o { live = live_after w.branches all o.live }) u

  pub replied_quiet : (rs : List Reply) → reply_trap rs ≡ None → replied (kernel_code k) t w all rs o u ≡ merging
  replied_quiet [] h = refl
  replied_quiet (WasPaused d v ∷ rs) h = replied_quiet rs h
  replied_quiet (WasEnded d v ∷ rs) h = replied_quiet rs h
  replied_quiet (WasTrapped place' trap' v ∷ rs) h = cc
  replied_quiet (WasOver ∷ rs) h = replied_quiet rs h

-- ---- the fork's next step

module _ (k : PlainKernel) (t : ℕ) (run : CallsRun (kernel_code k) t (ok k) (call k)) (combines : (v f : ℕ) → (variable_of k v).combine ≡ Some f → FitsCall (kernel_code k) (ok k) f 2) (asc : (n : ℕ) → Ascends (uses_of k n)) (s : List Instruction) where
  module _ (cs : Threads) (rs : List Reply) (seeds : List Seed) (d g : ℕ) (st : Store) (c : List ℕ) (f : Marks) (u : ℕ) (works : Works k t s cs f.live) (fits : Replies cs rs) (no_over : some_reply_over rs ≡ false) where
    abbrev w : Awaited
    w = record { branches = running_in cs; seeds = seeds; done = point s d [] st.words c; going = point s g [] st.words c }

    abbrev ds : Threads
    ds = all_replied cs rs

    abbrev after : List Bool
    after = live_after (running_in cs) rs f.live

    abbrev m : Machine
    m = replied (kernel_code k) t w rs rs (own st f) u

    abbrev o : Owner
    o = record { kernel = k; uses = uses_of k t }

    -- combined, where no branch trapped
    combined_follows : (a : Around) (q : ℕ) (cost : Cost) → ForkAt k t s a (numbers cs) d g q → reply_trap rs ≡ None →
        Joined k t run combines asc (record { copies = st.copies; flags = f.flags; live = after }) (back_to w rs) u m ds cost → Follows k t run s a (Fork ds) q st c f m u (combined o st.words st.copies ds cost)
    combined_follows a q (Fails place trap v) fork none j = j
    combined_follows a q (Costs v) fork none j = by_end (all_ended rs) refl
      where
        silent : Quiet rs
        silent = quiet rs no_over none

        new : Store
        new = record { words = st.words; copies = joined_copies k (all_replied cs rs) (uses_of k t) st.copies }

        f1 : Marks
        f1 = record { flags = f.flags; live = live_after (running_in cs) rs f.live }

        same : numbers (ended_are_gone (all_replied cs rs)) ≡ numbers cs
        same = gone_numbers (all_replied cs rs) ∙ replied_numbers k f.live cs rs works.awaits fits

        by_end : (b : Bool) → all_ended rs ≡ b → ReachesText k t s false a (cond (all_over (all_replied cs rs)) Done (Held (ended_are_gone (all_replied cs rs)))) q (record { words = st.words; copies = joined_copies k (all_replied cs rs) (uses_of k t) st.copies }) c f m (u + v)
        by_end true e =
            let over : all_over (all_replied cs rs) ≡ true = over_together k f.live cs rs works.awaits fits silent ∙ e in
            let back : back_to w rs ≡ point s d [] st.words c = back_is w rs ∙ ap (λ b. cond b w.done w.going) e in
            subst (λ b. ReachesText k t s false a (cond b Done (Held (ended_are_gone (all_replied cs rs)))) q new c f m (u + v)) (sym over)
            (record {
              at = Here d;
              c' = c;
              f' = f1;
              comes = comes_at (kernel_code k) t (ap (λ p. On p [] (record { copies = joined_copies k (all_replied cs rs) (uses_of k t) st.copies; flags = f.flags; live = live_after (running_in cs) rs f.live }) (u + v)) back) j;
              here = fork.ends;
              below = record { counters = λ n lt. refl; flags = λ n lt. refl };
            })
        by_end false e =
            let over : all_over (all_replied cs rs) ≡ false = over_together k f.live cs rs works.awaits fits silent ∙ e in
            let back : back_to w rs ≡ point s g [] st.words c = back_is w rs ∙ ap (λ b. cond b w.done w.going) e in
            subst (λ b. ReachesText k t s false a (cond b Done (Held (ended_are_gone (all_replied cs rs)))) q new c f m (u + v)) (sym over)
            (record {
              at = Here g;
              c' = c;
              f' = f1;
              comes = comes_at (kernel_code k) t (ap (λ p. On p [] (record { copies = joined_copies k (all_replied cs rs) (uses_of k t) st.copies; flags = f.flags; live = live_after (running_in cs) rs f.live }) (u + v)) back) j;
              here = (
                record { j = fork.j; named = fork.named ∙ sym same; apart = subst (λ l. distinct l ≡ true) (sym same) fork.apart; w = fork.w; pause = fork.pause; held = fork.held },
                record { some = some_left k f.live cs rs works.awaits fits silent e; sleeps = sleeps_after f.live cs rs fork.apart works.awaits fits silent },
              );
              below = record { counters = λ n lt. refl; flags = λ n lt. refl };
            })

    fork_follows : (a : Around) (q : ℕ) → ForkAt k t s a (numbers cs) d g q → Follows k t run s a (Fork ds) q st c f m u (text_move k [] (uses_of k t) st.words st.copies (Fork ds))
    fork_follows a q fork =
        subst (λ mv. Follows k t run s a (Fork (all_replied cs rs)) q st c f m u mv)
        (sym (fork_quiet k [] (uses_of k t) st.words st.copies (all_replied cs rs) (none_running k f.live cs rs works.awaits fits) ∙ ap (joined o st.words st.copies (all_replied cs rs)) (same_trap k f.live cs rs works.awaits fits)))
        (by_trap (reply_trap rs) refl)
      where
        by_trap : (x : Option (Place × Trap)) → reply_trap rs ≡ x → Follows k t run s a (Fork (all_replied cs rs)) q st c f m u (joined o st.words st.copies (all_replied cs rs) x)
        by_trap (Some p) e =
            let z : u ≡ u + 0 = omega arith in
            comes_at (kernel_code k) t (ap (λ n. machine.Trapped p.0 p.1 n) z)
            (subst (λ x. Comes (kernel_code k) t x (machine.Trapped p.0 p.1 u)) (sym (replied_trap k t w rs (own st f) u rs p.0 p.1 e)) (record { count = 1; lands = refl }))
        by_trap None e =
            let at : m ≡ Merges (record { left = child_shares k (all_replied cs rs); totals = no_totals (uses_of k t) st.copies; back = back_to w rs }) (record { copies = st.copies; flags = f.flags; live = after }) u =
            replied_quiet k t w rs (own st f) u rs e
            ∙ ap (λ l. Merges (record { left = l; totals = no_totals (uses_of k t) st.copies; back = back_to w rs }) (record { copies = st.copies; flags = f.flags; live = after }) u) (sym (same_shares k f.live cs rs works.awaits fits (quiet rs no_over e))) in
            combined_follows a q (join_cost k (all_replied cs rs) (uses_of k t) st.copies) fork e
            (subst (λ x. Joined k t run combines asc (record { copies = st.copies; flags = f.flags; live = after }) (back_to w rs) u x (all_replied cs rs) (join_cost k (all_replied cs rs) (uses_of k t) st.copies)) (sym at)
            (join_runs k t run combines asc (record { copies = st.copies; flags = f.flags; live = after }) (back_to w rs) (all_replied cs rs) u))

    -- in its text
    pub text_follows : (R : RunningText) (a : Around) (q : ℕ) → leaf R ≡ cs → At k t s a R (At_fork d g) q c f → Follows k t run s a (with_fork ds R) q st c f m u (text_move k [] (uses_of k t) st.words st.copies (with_fork ds R))
    text_follows Done a q e h = absurd h
    text_follows (Run x) a q e h = absurd h
    text_follows (Then R b) a q e h = then_runs k t run s b a (with_fork ds R) h.0 q st c f m u (text_move k [] (uses_of k t) st.words st.copies (with_fork ds R)) h.2 h.3 (text_follows R (inside a b) h.0 e h.1)
    text_follows (Turning loop) a q e h = absurd h
    text_follows Resting a q e h = absurd h
    text_follows (Fork cs') a q e h = fork_follows a q (subst (λ x. ForkAt k t s a (numbers x) d g q) e h.0)
    text_follows (Held cs') a q e h = absurd h
    text_follows (Watch weak x R) a q e h = watch_runs k t run s weak x a (with_fork ds R) h.0 q st c f m u (text_move k [] (uses_of k t) st.words st.copies (with_fork ds R)) h.2 h.3 h.4 (text_follows R (InAbort weak x h.0 a) h.0 e h.1)
    text_follows (Last R) a q e h = last_runs k t run s h.0 a (with_fork ds R) h.1 q st c f m u (text_move k [] (uses_of k t) st.words st.copies (with_fork ds R)) h.3 h.4 (text_follows R (InAbort true h.0 h.1 a) h.1 e h.2)

  -- what waits at a fork
  pub leaf_works : (R : RunningText) (a : Around) (d g q : ℕ) (c : List ℕ) (f : Marks) → At k t s a R (At_fork d g) q c f → Works k t s (leaf R) f.live
  leaf_works Done a d g q c f h = absurd h
  leaf_works (Run x) a d g q c f h = absurd h
  leaf_works (Then R b) a d g q c f h = leaf_works R (inside a b) d g h.0 c f h.1
  leaf_works (Turning loop) a d g q c f h = absurd h
  leaf_works Resting a d g q c f h = absurd h
  leaf_works (Fork cs) a d g q c f h = h.1
  leaf_works (Held cs) a d g q c f h = absurd h
  leaf_works (Watch weak x R) a d g q c f h = leaf_works R (InAbort weak x h.0 a) d g h.0 c f h.1
  leaf_works (Last R) a d g q c f h = leaf_works R (InAbort true h.0 h.1 a) d g h.1 c f h.2

  pub fork_waits : (R : RunningText) (a : Around) (d g q : ℕ) (c : List ℕ) (f : Marks) → At k t s a R (At_fork d g) q c f → fork_of R ≡ Some (leaf R)
  fork_waits Done a d g q c f h = absurd h
  fork_waits (Run x) a d g q c f h = absurd h
  fork_waits (Then R b) a d g q c f h = fork_waits R (inside a b) d g h.0 c f h.1
  fork_waits (Turning loop) a d g q c f h = absurd h
  fork_waits Resting a d g q c f h = absurd h
  fork_waits (Fork cs) a d g q c f h = let v = h.1 in ap (λ b. cond b (Some cs) None) v.some
  fork_waits (Held cs) a d g q c f h = absurd h
  fork_waits (Watch weak x R) a d g q c f h = fork_waits R (InAbort weak x h.0 a) d g h.0 c f h.1
  fork_waits (Last R) a d g q c f h = fork_waits R (InAbort true h.0 h.1 a) d g h.1 c f h.2

  pub no_fork : (R : RunningText) (a : Around) (p q : ℕ) (c : List ℕ) (f : Marks) → At k t s a R (Here p) q c f → fork_of R ≡ None
  no_fork Done a p q c f h = refl
  no_fork (Run x) a p q c f h = refl
  no_fork (Then R b) a p q c f h = no_fork R (inside a b) p h.0 c f h.1
  no_fork (Turning loop) a p q c f h = refl
  no_fork Resting a p q c f h = refl
  no_fork (Fork cs) a p q c f h = absurd h
  no_fork (Held cs) a p q c f h = refl
  no_fork (Watch weak x R) a p q c f h = no_fork R (InAbort weak x h.0 a) p h.0 c f h.1
  no_fork (Last R) a p q c f h = no_fork R (InAbort true h.0 h.1 a) p h.1 c f h.2

  -- after the replies no child runs
  pub replied_no_fork : (R : RunningText) (a : Around) (d g q : ℕ) (c : List ℕ) (f : Marks) (es : Threads) → some_running es ≡ false → At k t s a R (At_fork d g) q c f → fork_of (with_fork es R) ≡ None
  replied_no_fork Done a d g q c f es e h = absurd h
  replied_no_fork (Run x) a d g q c f es e h = absurd h
  replied_no_fork (Then R b) a d g q c f es e h = replied_no_fork R (inside a b) d g h.0 c f es e h.1
  replied_no_fork (Turning loop) a d g q c f es e h = absurd h
  replied_no_fork Resting a d g q c f es e h = absurd h
  replied_no_fork (Fork cs) a d g q c f es e h = ap (λ b. cond b (Some es) None) e
  replied_no_fork (Held cs) a d g q c f es e h = absurd h
  replied_no_fork (Watch weak x R) a d g q c f es e h = replied_no_fork R (InAbort weak x h.0 a) d g h.0 c f es e h.1
  replied_no_fork (Last R) a d g q c f es e h = replied_no_fork R (InAbort true h.0 h.1 a) d g h.1 c f es e h.2

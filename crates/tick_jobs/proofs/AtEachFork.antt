-- What holds of a thread of a valid code at each fork: its branches are its own, one that is woken has paused, and there are not too many forks in one job.
use Rattle.std.proofs.Common.{◌≡◌, ◌≢◌, ℕ, zero, suc, ◌+◌, ◌*◌, ◌<◌, ◌≤◌, ◌==◌, ℤ, Bool, true, false, cond, not, Option, Some, None, List, [], ◌∷◌, ◌++◌, map, length, get_or, refl, sym, ap, ◌∙◌, subst, ⊎_elim, append_assoc, append-nil, arith}
use Rattle.std.specs.Prelude.{slice_get, slice_set, nat_lt}
use Rattle.std.proofs.lemmas.Bool.{cases_lt}
use Rattle.std.proofs.lemmas.Bool.Decides.{nat_tests}
use Rattle.std.proofs.lemmas.Option.{slice_get_within}
use Rattle.forec_base.specs.Numbers.{is_zero, binary_of}
use Rattle.forec_base.specs.declared.Place.{Place}
use Rattle.forec_base.specs.declared.Trap.{Trap}
use Rattle.forec_base.specs.declared.Trap.TheVariants.{Divide, Index}
use Rattle.forec_kernel.specs.declared.shape.VarCopy.{VarCopy}
use Rattle.forec_kernel.specs.Shapes.{PlainThread}
use Rattle.forec_kernel.specs.Combining.{takes_part, variable_of}
use Rattle.forec_kernel.specs.Values.{copy_of, word, index_in, place_or}
use Rattle.forec_kernel.specs.WellFormed.{branches_of, is_par, thread_of}
use Rattle.forec_kernel.specs.Solo.{some_reply_over, all_units}
use Rattle.forec_kernel.specs.Engine.{Reply, WasPaused, WasEnded, WasTrapped, WasOver, Seed, Starts, Wakes, written, Going, AtFork, Answered, pair_up}
use Rattle.forec_kernel.proofs.Each.{Each, each_in}
use Rattle.thread_code.specs.declared.instruction.Instruction.{Instruction}
use Rattle.thread_code.specs.declared.instruction.Instruction.TheVariants as instruction
use Rattle.thread_code.specs.Plain.{PlainBlock, PlainCode}
use Rattle.thread_code.specs.Valid.{HasDepth, IsFine, IsParOf, IsValidCode, costs, of_shape, branches_in, arguments_of, function_arguments}
use Rattle.thread_code.specs.Machine.{Point, BranchCopy, Merge, Frame, Caller, Folding, Own, Awaited, Machine, On, Waits, Merges, Failing, Paused, Ended, Trapped, Exceeded, Stuck, onward, with_top, with_arguments, unless_none, turn_taken, put_at, put_value, entered, code_uses, total_of, folded, offered, merge_step, returned, living, starts, wakes, awaited, waking, act, step, is_ended, live_after, back_to, replied, join}
use Rattle.thread_code.specs.Alone.{block_of, view_of}
use Rattle.thread_code.proofs.Unstuck.{IsHere, Good, owner, fetched, fine_at}
use Rattle.core_machine.specs.Held.{branch_of}
use Rattle.tick_jobs.specs.Branches.{replies_to}

-- ---- replies

-- the last of them is Paused
pub record EndsPaused (rs : List Reply) : Type 0 where
  pub front : List Reply
  pub copies : List VarCopy
  pub units : ℕ
  pub is : rs ≡ front ++ WasPaused copies units ∷ []

-- a branch that lives has paused
abbrev pub Lively : List Answered → List Bool → Type 0
Lively past live = (b : ℕ) → get_or live b false ≡ true → EndsPaused (replies_to b past)

abbrev pub WakesPaused : List Answered → List Seed → Type 0
WakesPaused past [] = Unit {0}
WakesPaused past (Starts b args values ∷ seeds) = WakesPaused past seeds
WakesPaused past (Wakes b values ∷ seeds) = EndsPaused (replies_to b past) × WakesPaused past seeds

first_if : {A : Type 0} → (test : Bool) (x : A) (l m k : List A) → l ≡ m ++ k → cond test (x ∷ l) l ≡ cond test (x ∷ m) m ++ k
first_if true x l m k e = ap (λ l. x ∷ l) e
first_if false x l m k e = e

replies_then : (b : ℕ) (xs ys : List Answered) → replies_to b (xs ++ ys) ≡ replies_to b xs ++ replies_to b ys
replies_then b [] ys = refl
replies_then b (x ∷ xs) ys = first_if (x.branch == b) x.reply _ _ _ (replies_then b xs ys)

-- each reply is that a branch paused or ended
abbrev ArePlain : List Reply → Type 0
ArePlain [] = Unit {0}
ArePlain (WasPaused copies u ∷ rs) = ArePlain rs
ArePlain (WasEnded copies u ∷ rs) = ArePlain rs
ArePlain (WasTrapped place trap u ∷ rs) = ⊥
ArePlain (WasOver ∷ rs) = ⊥

put_here : (live : List Bool) (b : ℕ) (x : Bool) → get_or (put_at false live b x) b false ≡ x
put_here [] zero x = refl
put_here [] (suc b) x = put_here [] b x
put_here (y ∷ live) zero x = refl
put_here (y ∷ live) (suc b) x = put_here live b x

put_else : (live : List Bool) (b : ℕ) (x : Bool) (a : ℕ) → a ≢ b → get_or (put_at false live b x) a false ≡ get_or live a false
put_else [] zero x zero n = absurd (n refl)
put_else [] zero x (suc a) n = refl
put_else [] (suc b) x zero n = refl
put_else [] (suc b) x (suc a) n = put_else [] b x a (λ e. n (ap suc e))
put_else (y ∷ live) zero x zero n = absurd (n refl)
put_else (y ∷ live) zero x (suc a) n = refl
put_else (y ∷ live) (suc b) x zero n = refl
put_else (y ∷ live) (suc b) x (suc a) n = put_else live b x a (λ e. n (ap suc e))

same_is : (a b : ℕ) → (a == b) ≡ true → a ≡ b
same_is a b e = grind (arith, nat_tests)

other_is : (a b : ℕ) → (a == b) ≡ false → b ≢ a
other_is a b e h = grind (arith, nat_tests)

-- one branch has replied
live_one : (past : List Answered) (live : List Bool) (x : Answered) → Lively past live → ArePlain (x.reply ∷ []) → Lively (past ++ x ∷ []) (put_at false live x.branch (not (is_ended x.reply)))
live_one past live x lively plain b h = by_test (x.branch == b) refl
  where
    paused : (r : Reply) → ArePlain (r ∷ []) → not (is_ended r) ≡ true → (front : List Reply) → EndsPaused (front ++ r ∷ [])
    paused (WasPaused copies u) p e front = record { front = front; copies = copies; units = u; is = refl }
    paused (WasEnded copies u) p e front = cc
    paused (WasTrapped place trap u) p e front = absurd p
    paused WasOver p e front = absurd p

    by_test : (test : Bool) → (x.branch == b) ≡ test → EndsPaused (replies_to b (past ++ x ∷ []))
    by_test true e =
        let same = same_is x.branch b e in
        let alive = sym (ap (λ k. get_or (put_at false live k (not (is_ended x.reply))) b false) same ∙ put_here live b (not (is_ended x.reply))) ∙ h in
        subst EndsPaused (sym (replies_then b past (x ∷ []) ∙ ap (λ t. replies_to b past ++ cond t (x.reply ∷ []) []) e)) (paused x.reply plain alive (replies_to b past))
    by_test false e =
        subst EndsPaused (sym (replies_then b past (x ∷ []) ∙ ap (λ t. replies_to b past ++ cond t (x.reply ∷ []) []) e ∙ append-nil (replies_to b past)))
        (lively b (sym (put_else live x.branch (not (is_ended x.reply)) b (other_is x.branch b e)) ∙ h))

plain_first : (r : Reply) (rs : List Reply) → ArePlain (r ∷ rs) → ArePlain (r ∷ []) × ArePlain rs
plain_first (WasPaused copies u) rs h = (tt, h)
plain_first (WasEnded copies u) rs h = (tt, h)
plain_first (WasTrapped place trap u) rs h = absurd h
plain_first WasOver rs h = absurd h

branch_written : (a : ℕ) (s : Seed) → (written a s).branch ≡ branch_of s
branch_written a (Starts b args values) = refl
branch_written a (Wakes b values) = refl

lively_after : (a : ℕ) (seeds : List Seed) (rs : List Reply) (past : List Answered) (live : List Bool) → length rs ≡ length seeds → ArePlain rs → Lively past live →
    Lively (past ++ pair_up (map (written a) seeds) rs) (live_after (map branch_of seeds) rs live)
lively_after a [] rs past live c p h = subst (λ l. Lively l live) (sym (append-nil past)) h
lively_after a (s ∷ seeds) [] past live c p h = absurd (omega arith)
lively_after a (s ∷ seeds) (r ∷ rs) past live c p h =
    let parts = plain_first r rs p in
    let x : Answered = record { branch = (written a s).branch; job = (written a s).job; reply = r } in
    let one = subst (λ b. Lively (past ++ x ∷ []) (put_at false live b (not (is_ended r)))) (branch_written a s) (live_one past live x h parts.0) in
    subst (λ l. Lively l (live_after (map branch_of seeds) rs (put_at false live (branch_of s) (not (is_ended r))))) (append_assoc past (x ∷ []) (pair_up (map (written a) seeds) rs))
    (lively_after a seeds rs (past ++ x ∷ []) (put_at false live (branch_of s) (not (is_ended r))) (omega (arith, c)) parts.1 one)

-- ---- branches

abbrev pub AllAbove : ℕ → List ℕ → Type 0
AllAbove b [] = Unit {0}
AllAbove b (a ∷ rest) = (b < a) × AllAbove b rest

-- in order of their numbers
abbrev pub Rising : List ℕ → Type 0
Rising [] = Unit {0}
Rising (b ∷ bs) = AllAbove b bs × Rising bs

abbrev pub AllAre : (ℕ → Type 0) → List ℕ → Type 0
AllAre Q bs = Each Q bs

-- with a first one or without it
one_if : (P : List ℕ → Type 0) (test : Bool) (b : ℕ) (l : List ℕ) → (test ≡ true → P (b ∷ l)) → P l → P (cond test (b ∷ l) l)
one_if P true b l h g = h refl
one_if P false b l h g = g

above_all : (ss : List PlainThread) (i j b : ℕ) → b < i → AllAbove b (branches_of ss i j)
above_all [] i j b lt = tt
above_all (s ∷ ss) i j b lt =
    let ih = above_all ss (suc i) j b (omega (arith, lt)) in one_if (AllAbove b) (is_par s.par j) i (branches_of ss (suc i) j) (λ e. (lt, ih)) ih

rising : (ss : List PlainThread) (i j : ℕ) → Rising (branches_of ss i j)
rising [] i j = tt
rising (s ∷ ss) i j =
    let ih = rising ss (suc i) j in one_if Rising (is_par s.par j) i (branches_of ss (suc i) j) (λ e. (above_all ss (suc i) j i (omega arith), ih)) ih

below_all : (ss : List PlainThread) (i j n : ℕ) → i + length ss ≤ n → AllAre (λ b. b < n) (branches_of ss i j)
below_all [] i j n le = tt
below_all (s ∷ ss) i j n le =
    let ih = below_all ss (suc i) j n (omega (arith, le)) in one_if (AllAre (λ b. b < n)) (is_par s.par j) i (branches_of ss (suc i) j) (λ e. (omega (arith, le), ih)) ih

-- some of them
living_are : (Q : ℕ → Type 0) (live : List Bool) (bs : List ℕ) → AllAre Q bs → AllAre Q (living live bs)
living_are Q live [] h = tt
living_are Q live (b ∷ bs) h =
    let ih = living_are Q live bs h.1 in one_if (AllAre Q) (get_or live b false) b (living live bs) (λ e. (h.0, ih)) ih

living_above : (a : ℕ) (live : List Bool) (bs : List ℕ) → AllAbove a bs → AllAbove a (living live bs)
living_above a live [] h = tt
living_above a live (b ∷ bs) h =
    let ih = living_above a live bs h.1 in one_if (AllAbove a) (get_or live b false) b (living live bs) (λ e. (h.0, ih)) ih

living_rising : (live : List Bool) (bs : List ℕ) → Rising bs → Rising (living live bs)
living_rising live [] h = tt
living_rising live (b ∷ bs) h =
    let ih = living_rising live bs h.1 in one_if Rising (get_or live b false) b (living live bs) (λ e. (living_above b live bs h.0, ih)) ih

living_live : (live : List Bool) (bs : List ℕ) → AllAre (λ b. get_or live b false ≡ true) (living live bs)
living_live live [] = tt
living_live live (b ∷ bs) =
    let ih = living_live live bs in one_if (AllAre (λ b. get_or live b false ≡ true)) (get_or live b false) b (living live bs) (λ e. (e, ih)) ih

module _ (c : PlainCode) (t : ℕ) where
  -- a branch of the thread
  abbrev pub IsMine : ℕ → Type 0
  IsMine b = ((thread_of (of_shape c.shape) b).parent ≡ Some t) × (b < length c.shape.threads)

  starts_branches : (copies : List VarCopy) (bs : List ℕ) (args : List ℤ) → map branch_of (starts c t copies bs args) ≡ bs
  starts_branches copies [] args = refl
  starts_branches copies (b ∷ bs) args = ap (λ l. b ∷ l) (starts_branches copies bs _)

  wakes_branches : (copies : List VarCopy) (bs : List ℕ) → map branch_of (wakes c t copies bs) ≡ bs
  wakes_branches copies [] = refl
  wakes_branches copies (b ∷ bs) = ap (λ l. b ∷ l) (wakes_branches copies bs)

  starts_paused : (past : List Answered) (copies : List VarCopy) (bs : List ℕ) (args : List ℤ) → WakesPaused past (starts c t copies bs args)
  starts_paused past copies [] args = tt
  starts_paused past copies (b ∷ bs) args = starts_paused past copies bs _

  wakes_paused : (past : List Answered) (copies : List VarCopy) (live : List Bool) (bs : List ℕ) → Lively past live → AllAre (λ b. get_or live b false ≡ true) bs → WakesPaused past (wakes c t copies bs)
  wakes_paused past copies live [] lively h = tt
  wakes_paused past copies live (b ∷ bs) lively h = (lively b h.0, wakes_paused past copies live bs lively h.1)

  -- a fork at which the thread waits
  pub record IsFork (past : List Answered) (w : Awaited) : Type 0 where
    pub branches : map branch_of w.seeds ≡ w.branches
    pub some : w.branches ≢ []
    pub rising : Rising w.branches
    pub mine : AllAre IsMine w.branches
    pub wakes : WakesPaused past w.seeds

-- ---- how many forks there can be

times_suc : (m u : ℕ) → m * suc u ≡ m * u + m
times_suc zero u = omega arith
times_suc (suc m) u = let ih = times_suc m u in omega (arith, ih)

times_grow : (m u v : ℕ) → u ≤ v → m * u ≤ m * v
times_grow zero u v le = omega arith
times_grow (suc m) u v le = let ih = times_grow m u v le in omega (arith, ih, le)

module _ (c : PlainCode) (valid : IsValidCode c) (t : ℕ) where
  abbrev own : List Instruction
  own = (block_of c t).steps

  -- what a place of the thread's own block counts for; one that costs units counts for most
  abbrev place : ℕ → ℕ
  place at = cond (costs (slice_get own at)) (length own + 1) at

  -- n forks are not too many at this place after these units
  abbrev pub Few : ℕ → ℕ → ℕ → Type 0
  Few n u at = n ≤ (length own + 2) * u + place at

  place_most : (at : ℕ) → at < length own → place at ≤ length own + 1
  place_most at lt = by_test (costs (slice_get own at))
    where
      by_test : (b : Bool) → cond b (length own + 1) at ≤ length own + 1
      by_test true = omega arith
      by_test false = omega (arith, lt)

  place_least : (at : ℕ) → at < length own → at ≤ place at
  place_least at lt = by_test (costs (slice_get own at))
    where
      by_test : (b : Bool) → at ≤ cond b (length own + 1) at
      by_test true = omega (arith, lt)
      by_test false = omega arith

  few_paid : (n u v p q : ℕ) → p < length own → Few n u p → u < v → n + 1 ≤ (length own + 2) * v + place q
  few_paid n u v p q lt h less =
      let most = place_most p lt in
      let more = times_grow (length own + 2) (suc u) v (omega (arith, less)) in
      let is = times_suc (length own + 2) u in
      omega (arith, h, most, more, is)

  few_grows : (n u v p : ℕ) → Few n u p → u ≤ v → Few n v p
  few_grows n u v p h le = let more = times_grow (length own + 2) u v le in omega (arith, h, more)

  few_less : (n m k : ℕ) → n + 1 ≤ m + k → n ≤ m + k
  few_less n m k h = omega (arith, h)

  -- the place where the lowest frame is, or where it goes on
  abbrev pub AtBottom : ℕ → ℕ → Point → List Frame → Type 0
  AtBottom n u p [] = (p.steps ≡ own) × Few n u p.at
  AtBottom n u p (Caller q ∷ fs) = AtBottom n u q fs
  AtBottom n u p (Folding v m ∷ fs) = (m.back.steps ≡ own) × Few n u m.back.at

  abbrev pub Fine : ℕ → List Answered → Machine → Type 0
  Fine n past (On p fs o u) = AtBottom n u p fs × Lively past o.live
  Fine n past (Waits w o u) =
      (w.done.steps ≡ own) × (n + 1 ≤ (length own + 2) * u + place w.done.at) × (w.going.steps ≡ own) × (n + 1 ≤ (length own + 2) * u + place w.going.at) × Lively past o.live × IsFork c t past w
  Fine n past (Merges m o u) = (m.back.steps ≡ own) × Few n u m.back.at × Lively past o.live
  Fine n past (Failing place trap u) = Unit {0}
  Fine n past (Paused wake o u) = (wake.steps ≡ own) × Lively past o.live
  Fine n past (Ended o u) = Unit {0}
  Fine n past (Trapped place trap u) = Unit {0}
  Fine n past (Exceeded u) = Unit {0}
  Fine n past (Stuck u) = Unit {0}

  bottom_grows : (n u v : ℕ) (p : Point) (fs : List Frame) → AtBottom n u p fs → u ≤ v → AtBottom n v p fs
  bottom_grows n u v p [] h le = (h.0, few_grows n u v p.at h.1 le)
  bottom_grows n u v p (Caller q ∷ fs) h le = bottom_grows n u v q fs h le
  bottom_grows n u v p (Folding x m ∷ fs) h le = (h.0, few_grows n u v m.back.at h.1 le)

  bottom_same : (n u : ℕ) (p q : Point) (fs : List Frame) → q.steps ≡ p.steps → q.at ≡ p.at → AtBottom n u p fs → AtBottom n u q fs
  bottom_same n u p q [] steps at h = (steps ∙ h.0, subst (Few n u) (sym at) h.1)
  bottom_same n u p q (Caller r ∷ fs) steps at h = h
  bottom_same n u p q (Folding x m ∷ fs) steps at h = h

  module _ (n : ℕ) (past : List Answered) where
    abbrev F : Machine → Type 0
    F m = Fine n past m

    top_fine : (st : List ℤ) (u : ℕ) (go : ℤ → List ℤ → Machine) → ((x : ℤ) (rest : List ℤ) → F (go x rest)) → F (with_top st u go)
    top_fine [] u go h = tt
    top_fine (x ∷ rest) u go h = h x rest

    arguments_fine : (k : ℕ) (st args : List ℤ) (u : ℕ) (go : List ℤ → List ℤ → Machine) → ((args rest : List ℤ) → F (go args rest)) → F (with_arguments k st args u go)
    arguments_fine zero st args u go h = h args st
    arguments_fine (suc k) [] args u go h = tt
    arguments_fine (suc k) (x ∷ rest) args u go h = arguments_fine k rest (x ∷ args) u go h

    unless_fine : {A : Type 0} → (o : Option A) (place : Place) (trap : Trap) (u : ℕ) (go : A → Machine) → ((x : A) → F (go x)) → F (unless_none o place trap u go)
    unless_fine None place trap u go h = tt
    unless_fine (Some x) place trap u go h = h x

    turn_fine : (k : ℕ) (place : Place) (u : ℕ) (go : ℕ → Machine) → ((m : ℕ) → F (go m)) → F (turn_taken k place u go)
    turn_fine zero place u go h = tt
    turn_fine (suc k) place u go h = h k

    enter_fine : (b : Option PlainBlock) (args : List ℤ) (f : Frame) (fs : List Frame) (o : Own) (u : ℕ) → ((p : Point) → AtBottom n (u + 1) p (f ∷ fs)) → Lively past o.live → F (entered b args (f ∷ fs) o u)
    enter_fine None args f fs o u h l = tt
    enter_fine (Some b) args f fs o u h l = (h _, l)

    -- ---- combining

    fold_fine : (s : BranchCopy) (m : Merge) (o : Own) (u : ℕ) (combine : Option ℕ) (total : Option ℤ) → F (Merges m o u) → F (folded c t s m o u combine total)
    fold_fine s m o u combine None h = h
    fold_fine s m o u None (Some x) h = h
    fold_fine s m o u (Some f) (Some x) h = enter_fine (slice_get c.functions f) _ (Folding s.variable m) [] o u (λ p. (h.0, few_grows n u (u + 1) m.back.at h.1 (omega arith))) h.2

    offer_fine : (s : BranchCopy) (m : Merge) (o : Own) (u : ℕ) → F (Merges m o u) → F (offered c t s m o u)
    offer_fine s m o u h =
        let v = variable_of (of_shape c.shape) s.variable in
        by_test (takes_part v.policy (copy_of (code_uses c t) o.copies s.variable).value s.copy) v.combine (total_of (code_uses c t) m.totals s.variable).value
      where
        by_test : (b : Bool) (combine : Option ℕ) (total : Option ℤ) → F (elim b [ true ↦ folded c t s m o u combine total | false ↦ Merges m o u ])
        by_test true combine total = fold_fine s m o u combine total h
        by_test false combine total = h

    merge_fine : (left : List BranchCopy) (m : Merge) (o : Own) (u : ℕ) → F (Merges m o u) → F (merge_step c t left m o u)
    merge_fine [] m o u h = ((h.0, h.1), h.2)
    merge_fine (s ∷ rest) m o u h = offer_fine s _ o u h

    return_fine : (x : ℤ) (p : Point) (fs : List Frame) (o : Own) (u : ℕ) → AtBottom n u p fs → Lively past o.live → F (returned c t x fs o u)
    return_fine x p [] o u h l = tt
    return_fine x p (Caller q ∷ fs) o u h l = (bottom_same n u q (record q { stack = x ∷ q.stack }) fs refl refl h, l)
    return_fine x p (Folding v m ∷ fs) o u h l = (h.0, h.1, l)

    -- ---- one instruction of the thread's own block

    module _ (p : Point) (o : Own) (u : ℕ) (h : IsHere c (Some t) p) (steps : p.steps ≡ own) (few : Few n u p.at) (lively : Lively past o.live) where
      in_block : (q d : ℕ) → HasDepth h.depths q d → q < length own
      in_block q d l =
          let lt = slice_get_within h.depths q d l in
          let e = ap length h.same in
          let e' = ap length steps in omega (arith, lt, e, e', h.valid.long)

      here_in : p.at < length own
      here_in = in_block p.at (length p.stack) h.here

      -- at this place of the same block, after these units
      abbrev At : ℕ → ℕ → Type 0
      At at v = ((p.steps ≡ own) × Few n v at) × Lively past o.live

      paid : (at v : ℕ) → u < v → At at v
      paid at v less = ((steps, few_less n _ _ (few_paid n u v p.at at here_in few less)), lively)

      -- an instruction that costs nothing
      free_at : (i : Instruction) → slice_get p.steps p.at ≡ Some i → costs (Some i) ≡ false → place p.at ≡ p.at
      free_at i is nothing = ap (λ b. cond b (length own + 1) p.at) (ap (λ l. costs (slice_get l p.at)) (sym steps) ∙ ap costs is ∙ nothing)

      goes : (at : ℕ) → place p.at ≤ place at → At at u
      goes at le = ((steps, omega (arith, few, le)), lively)

      free : (i : Instruction) → slice_get p.steps p.at ≡ Some i → costs (Some i) ≡ false → (at d : ℕ) → p.at ≤ at → HasDepth h.depths at d → At at u
      free i is nothing at d le leads =
          let e = free_at i is nothing in
          let least = place_least at (in_block at d leads) in
          goes at (omega (arith, e, least, le))

      counted : (i : Instruction) → slice_get p.steps p.at ≡ Some i → (k : ℕ) → costs (Some i) ≡ nat_lt 0 k → (at d : ℕ) → p.at ≤ at → HasDepth h.depths at d → At at (u + k)
      counted i is zero nothing at d le leads =
          let e : u ≡ u + 0 = omega arith in subst (At at) e (free i is nothing at d le leads)
      counted i is (suc k) nothing at d le leads = paid at (u + suc k) (omega arith)

      fork_mine : (j : ℕ) → IsParOf c.shape (Some t) j → AllAre (IsMine c t) (branches_in c.shape j)
      fork_mine j par =
          both (branches_in c.shape j) (each_in (λ b. (thread_of (of_shape c.shape) b).parent ≡ Some t) (branches_in c.shape j) (λ b m. par.parent b m ∙ sym par.is))
          (below_all c.shape.threads 0 j (length c.shape.threads) (omega arith))
        where
          both : (bs : List ℕ) → AllAre (λ b. (thread_of (of_shape c.shape) b).parent ≡ Some t) bs → AllAre (λ b. b < length c.shape.threads) bs → AllAre (IsMine c t) bs
          both [] x y = tt
          both (b ∷ bs) x y = ((x.0, y.0), both bs x.1 y.1)

      wake_fine : (i : Instruction) → slice_get p.steps p.at ≡ Some i → costs (Some i) ≡ false → (bs : List ℕ) (to d d' : ℕ) → Rising bs → AllAre (IsMine c t) bs → AllAre (λ b. get_or o.live b false ≡ true) bs →
          HasDepth h.depths (p.at + 1) d → HasDepth h.depths to d' → p.at < to → F (waking c t bs to p [] o u)
      wake_fine i is nothing [] to d d' up mine alive next there lt = free i is nothing (p.at + 1) d (omega arith) next
      wake_fine i is nothing (b ∷ bs) to d d' up mine alive next there lt =
          let e = free_at i is nothing in
          let a = place_least (p.at + 1) (in_block (p.at + 1) d next) in
          let z = place_least to (in_block to d' there) in (
            steps,
            omega (arith, few, e, a),
            steps,
            omega (arith, few, e, z, lt),
            lively,
            record { branches = wakes_branches c t o.copies (b ∷ bs); some = λ q. some_of b bs q; rising = up; mine = mine; wakes = wakes_paused c t past o.copies o.live (b ∷ bs) lively alive },
          )
        where
          some_of : (b : ℕ) (bs : List ℕ) → b ∷ bs ≡ [] → ⊥
          some_of b bs q = cc

      tested_to : (b : Bool) (i : Instruction) → slice_get p.steps p.at ≡ Some i → costs (Some i) ≡ false → (to d d' : ℕ) → HasDepth h.depths (p.at + 1) d → HasDepth h.depths to d' → p.at < to → At (cond b to (p.at + 1)) u
      tested_to true i is nothing to d d' next there lt = free i is nothing to d' (omega (arith, lt)) there
      tested_to false i is nothing to d d' next there lt = free i is nothing (p.at + 1) d (omega arith) next

      jumps : (to d : ℕ) → slice_get p.steps p.at ≡ Some (instruction.Jump to) → HasDepth h.depths to d → (to ≤ p.at → costs (slice_get h.block.steps to) ≡ true) → At to u
      jumps to d is leads back =
          ⊎_elim
          (λ lt. free (instruction.Jump to) is refl to d (omega (arith, lt)) leads)
          (λ le. let high = ap (λ b. cond b (length own + 1) to) (ap (λ l. costs (slice_get l to)) (sym steps ∙ h.same) ∙ back (omega (arith, le))) in
          let most = place_most p.at here_in in goes to (omega (arith, high, most)))
          (cases_lt p.at to)

      own_act : (i : Instruction) → slice_get p.steps p.at ≡ Some i → IsFine (record { code = c; thread = Some t }) h.block h.depths p.at (length p.stack) i → F (act c t (Some i) p [] o u)
      own_act (instruction.Push x) is f = paid (p.at + 1) (u + 1) (omega arith)
      own_act (instruction.Quiet x) is f = free (instruction.Quiet x) is refl (p.at + 1) _ (omega arith) f
      own_act (instruction.Load x) is f = paid (p.at + 1) (u + 1) (omega arith)
      own_act (instruction.Store x) is f = top_fine p.stack u _ (λ y rest. paid (p.at + 1) (u + 1) (omega arith))
      own_act (instruction.LoadAt x k place) is f =
          top_fine p.stack u _ (λ i rest. unless_fine (index_in k i) place Index (u + 1) (λ z. On (onward p (word p.words (x + z) ∷ rest)) [] o (u + 1)) (λ z. paid (p.at + 1) (u + 1) (omega arith)))
      own_act (instruction.StoreAt x k place) is f =
          top_fine p.stack u _ (λ v below. top_fine below u _ (λ i rest. unless_fine (index_in k i) place Index (u + 1)
          (λ z. On (onward (record p { words = slice_set p.words (x + z) v }) rest) [] o (u + 1)) (λ z. paid (p.at + 1) (u + 1) (omega arith))))
      own_act (instruction.Clear x k) is f = counted (instruction.Clear x k) is k refl (p.at + 1) _ (omega arith) f.1
      own_act (instruction.Table number place) is f =
          let table = get_or c.shape.tables number [] in
          top_fine p.stack u _ (λ i rest. unless_fine (index_in (length table) i) place Index (u + 1) (λ z. On (onward p (word table z ∷ rest)) [] o (u + 1)) (λ z. paid (p.at + 1) (u + 1) (omega arith)))
      own_act (instruction.Get v) is f = paid (p.at + 1) (u + 1) (omega arith)
      own_act (instruction.Put v) is f = top_fine p.stack u _ (λ y rest. paid (p.at + 1) (u + 1) (omega arith))
      own_act (instruction.GetAt v k place) is f =
          top_fine p.stack u _ (λ i rest. unless_fine (index_in k i) place Index (u + 1)
          (λ z. On (onward p ((copy_of (code_uses c t) o.copies (v + z)).value ∷ rest)) [] o (u + 1)) (λ z. paid (p.at + 1) (u + 1) (omega arith)))
      own_act (instruction.PutAt v k place) is f =
          top_fine p.stack u _ (λ x below. top_fine below u _ (λ i rest. unless_fine (index_in k i) place Index (u + 1)
          (λ z. On (onward p rest) [] (put_value (code_uses c t) (v + z) x o) (u + 1)) (λ z. paid (p.at + 1) (u + 1) (omega arith))))
      own_act (instruction.Unary op) is f = top_fine p.stack u _ (λ y rest. paid (p.at + 1) (u + 1) (omega arith))
      own_act (instruction.Binary op place) is f =
          top_fine p.stack u _ (λ y below. top_fine below u _ (λ x rest. unless_fine (binary_of op x y) (place_or place) Divide (u + 1) (λ z. On (onward p (z ∷ rest)) [] o (u + 1))
          (λ z. paid (p.at + 1) (u + 1) (omega arith))))
      own_act instruction.Truth is f = top_fine p.stack u _ (λ y rest. free instruction.Truth is refl (p.at + 1) _ (omega arith) f.1)
      own_act (instruction.Zero to) is f = top_fine p.stack u _ (λ y rest. paid (cond (is_zero y) to (p.at + 1)) (u + 1) (omega arith))
      own_act (instruction.NonZero to) is f = top_fine p.stack u _ (λ y rest. paid (cond (is_zero y) (p.at + 1) to) (u + 1) (omega arith))
      own_act (instruction.Jump to) is f = jumps to _ is f.0 f.1
      own_act (instruction.Unit k) is f = counted (instruction.Unit k) is k refl (p.at + 1) _ (omega arith) f
      own_act (instruction.Fill w k) is f = free (instruction.Fill w k) is refl (p.at + 1) _ (omega arith) f.1
      own_act (instruction.Turn w place) is f = turn_fine (get_or p.counters w 0) place u (λ k. On (onward (record p { counters = put_at 0 p.counters w k }) p.stack) [] o u)
          (λ k. free (instruction.Turn w place) is refl (p.at + 1) _ (omega arith) f.1)
      own_act (instruction.Flag g value) is f = free (instruction.Flag g value) is refl (p.at + 1) _ (omega arith) f.2
      own_act (instruction.Keep g) is f = top_fine p.stack u _ (λ y rest. paid (p.at + 1) (u + 1) (omega arith))
      own_act (instruction.Flagged g to) is f = tested_to (get_or o.flags g false) (instruction.Flagged g to) is refl to _ _ f.2.0 f.2.1 f.2.2
      own_act (instruction.Fork j to) is f =
          let bs = branches_in c.shape j in
          arguments_fine (arguments_of c.shape bs) p.stack [] u (λ args rest. Waits (awaited bs (starts c t o.copies bs args) p to rest) o (u + 1))
          (λ args rest. (
            steps,
            few_paid n u (u + 1) p.at (p.at + 1) here_in few (omega arith),
            steps,
            few_paid n u (u + 1) p.at to here_in few (omega arith),
            lively,
            record { branches = starts_branches c t o.copies bs args; some = f.0.some; rising = rising c.shape.threads 0 j; mine = fork_mine j f.0; wakes = starts_paused c t past o.copies bs args },
          ))
      own_act (instruction.Again j to) is f =
          let bs = branches_in c.shape j in
          wake_fine (instruction.Again j to) is refl (living o.live bs) to _ _ (living_rising o.live bs (rising c.shape.threads 0 j)) (living_are (IsMine c t) o.live bs (fork_mine j f.0)) (living_live o.live bs) f.1.0 f.1.1 f.1.2
      own_act (instruction.Pause to) is f = (steps, lively)
      own_act instruction.End is f = tt
      own_act (instruction.Call g) is f =
          arguments_fine (function_arguments c g) p.stack [] u (λ args rest. entered (slice_get c.functions g) args (Caller (onward p rest) ∷ []) o u)
          (λ args rest. enter_fine (slice_get c.functions g) args (Caller (onward p rest)) [] o u
          (λ q. (steps, few_less n _ _ (few_paid n u (u + 1) p.at (p.at + 1) here_in few (omega arith)))) lively)
      own_act instruction.Return is f = top_fine p.stack u _ (λ y rest. tt)

    -- ---- one instruction of a function's block

    module _ (p : Point) (frame : Frame) (fs : List Frame) (o : Own) (u : ℕ) (low : AtBottom n u p (frame ∷ fs)) (lively : Lively past o.live) where
      lowest : (q : Point) → AtBottom n u p (frame ∷ fs) → AtBottom n u q (frame ∷ fs)
      lowest q h = by_frame frame h
        where
          by_frame : (f : Frame) → AtBottom n u p (f ∷ fs) → AtBottom n u q (f ∷ fs)
          by_frame (Caller r) h = h
          by_frame (Folding v m) h = h

      inside : (q : Point) (v : ℕ) → u ≤ v → AtBottom n v q (frame ∷ fs) × Lively past o.live
      inside q v le = (bottom_grows n u v q (frame ∷ fs) (lowest q low) le, lively)

      only_thread : (owner : ℕ) → None ≡ Some owner → ⊥
      only_thread owner e = cc

      inner_act : (i : Instruction) (b : PlainBlock) (depths : List ℕ) → IsFine (record { code = c; thread = None }) b depths p.at (length p.stack) i → F (act c t (Some i) p (frame ∷ fs) o u)
      inner_act (instruction.Push x) b ds f = inside _ (u + 1) (omega arith)
      inner_act (instruction.Quiet x) b ds f = inside _ u (omega arith)
      inner_act (instruction.Load x) b ds f = inside _ (u + 1) (omega arith)
      inner_act (instruction.Store x) b ds f = top_fine p.stack u _ (λ y rest. inside _ (u + 1) (omega arith))
      inner_act (instruction.LoadAt x k place) b ds f =
          top_fine p.stack u _ (λ i rest. unless_fine (index_in k i) place Index (u + 1) (λ z. On (onward p (word p.words (x + z) ∷ rest)) (frame ∷ fs) o (u + 1)) (λ z. inside _ (u + 1) (omega arith)))
      inner_act (instruction.StoreAt x k place) b ds f =
          top_fine p.stack u _ (λ v below. top_fine below u _ (λ i rest. unless_fine (index_in k i) place Index (u + 1)
          (λ z. On (onward (record p { words = slice_set p.words (x + z) v }) rest) (frame ∷ fs) o (u + 1)) (λ z. inside _ (u + 1) (omega arith))))
      inner_act (instruction.Clear x k) b ds f = inside _ (u + k) (omega arith)
      inner_act (instruction.Table number place) b ds f =
          let table = get_or c.shape.tables number [] in
          top_fine p.stack u _ (λ i rest. unless_fine (index_in (length table) i) place Index (u + 1) (λ z. On (onward p (word table z ∷ rest)) (frame ∷ fs) o (u + 1)) (λ z. inside _ (u + 1) (omega arith)))
      inner_act (instruction.Get v) b ds f = inside _ (u + 1) (omega arith)
      inner_act (instruction.Put v) b ds f = top_fine p.stack u _ (λ y rest. inside _ (u + 1) (omega arith))
      inner_act (instruction.GetAt v k place) b ds f =
          top_fine p.stack u _ (λ i rest. unless_fine (index_in k i) place Index (u + 1)
          (λ z. On (onward p ((copy_of (code_uses c t) o.copies (v + z)).value ∷ rest)) (frame ∷ fs) o (u + 1)) (λ z. inside _ (u + 1) (omega arith)))
      inner_act (instruction.PutAt v k place) b ds f =
          top_fine p.stack u _ (λ x below. top_fine below u _ (λ i rest. unless_fine (index_in k i) place Index (u + 1)
          (λ z. On (onward p rest) (frame ∷ fs) (put_value (code_uses c t) (v + z) x o) (u + 1)) (λ z. inside _ (u + 1) (omega arith))))
      inner_act (instruction.Unary op) b ds f = top_fine p.stack u _ (λ y rest. inside _ (u + 1) (omega arith))
      inner_act (instruction.Binary op place) b ds f =
          top_fine p.stack u _ (λ y below. top_fine below u _ (λ x rest. unless_fine (binary_of op x y) (place_or place) Divide (u + 1) (λ z. On (onward p (z ∷ rest)) (frame ∷ fs) o (u + 1))
          (λ z. inside _ (u + 1) (omega arith))))
      inner_act instruction.Truth b ds f = top_fine p.stack u _ (λ y rest. inside _ u (omega arith))
      inner_act (instruction.Zero to) b ds f = top_fine p.stack u _ (λ y rest. inside _ (u + 1) (omega arith))
      inner_act (instruction.NonZero to) b ds f = top_fine p.stack u _ (λ y rest. inside _ (u + 1) (omega arith))
      inner_act (instruction.Jump to) b ds f = inside _ u (omega arith)
      inner_act (instruction.Unit k) b ds f = inside _ (u + k) (omega arith)
      inner_act (instruction.Fill w k) b ds f = inside _ u (omega arith)
      inner_act (instruction.Turn w place) b ds f = turn_fine (get_or p.counters w 0) place u (λ k. On (onward (record p { counters = put_at 0 p.counters w k }) p.stack) (frame ∷ fs) o u) (λ k. inside _ u (omega arith))
      inner_act (instruction.Flag g value) b ds f = inside _ u (omega arith)
      inner_act (instruction.Keep g) b ds f = top_fine p.stack u _ (λ y rest. inside _ (u + 1) (omega arith))
      inner_act (instruction.Flagged g to) b ds f = inside _ u (omega arith)
      inner_act (instruction.Fork j to) b ds f = absurd (only_thread f.0.owner f.0.is)
      inner_act (instruction.Again j to) b ds f = absurd (only_thread f.0.owner f.0.is)
      inner_act (instruction.Pause to) b ds f = let e = f.0 in absurd cc
      inner_act instruction.End b ds f = tt
      inner_act (instruction.Call g) b ds f =
          arguments_fine (function_arguments c g) p.stack [] u (λ args rest. entered (slice_get c.functions g) args (Caller (onward p rest) ∷ frame ∷ fs) o u)
          (λ args rest. enter_fine (slice_get c.functions g) args (Caller (onward p rest)) (frame ∷ fs) o u (λ q. (inside (onward p rest) (u + 1) (omega arith)).0) lively)
      inner_act instruction.Return b ds f = top_fine p.stack u _ (λ y rest. return_fine y p (frame ∷ fs) o u low lively)

    -- ---- a step

    pub step_fine : (m : Machine) → Good c t m → F m → F (step c t m)
    step_fine (On p [] o u) g f =
        let i = fetched c valid t (Some t) p g.0 in
        subst (λ x. F (act c t x p [] o u)) (sym i.1) (own_act p o u g.0 f.0.0 f.0.1 f.1 i.0 i.1 (fine_at c valid t (Some t) p g.0 i.0 i.1))
    step_fine (On p (frame ∷ fs) o u) g f =
        let i = fetched c valid t None p g.0 in
        subst (λ x. F (act c t x p (frame ∷ fs) o u)) (sym i.1) (inner_act p frame fs o u f.0 f.1 i.0 g.0.block g.0.depths (fine_at c valid t None p g.0 i.0 i.1))
    step_fine (Waits w o u) g f = f
    step_fine (Merges m o u) g f = merge_fine m.left m o u f
    step_fine (Failing place trap u) g f = tt
    step_fine (Paused wake o u) g f = f
    step_fine (Ended o u) g f = tt
    step_fine (Trapped place trap u) g f = tt
    step_fine (Exceeded u) g f = tt
    step_fine (Stuck u) g f = tt

  -- ---- the branches have replied

  module _ (n : ℕ) (past : List Answered) (a : ℕ) (rs : List Reply) (w : Awaited) (o : Own) (u v : ℕ) (f : Fine n past (Waits w o u)) (count : length rs ≡ length w.seeds) (le : u ≤ v) where
    abbrev now : List Answered
    now = past ++ pair_up (map (written a) w.seeds) rs

    one_back : (b : Bool) (p q : Point) → (p.steps ≡ own) × (n + 1 ≤ (length own + 2) * v + place p.at) → (q.steps ≡ own) × (n + 1 ≤ (length own + 2) * v + place q.at) →
        ((cond b p q).steps ≡ own) × (n + 1 ≤ (length own + 2) * v + place (cond b p q).at)
    one_back true p q h g = h
    one_back false p q h g = g

    back_fine : (qs : List Reply) → ((back_to w qs).steps ≡ own) × (n + 1 ≤ (length own + 2) * v + place (back_to w qs).at)
    back_fine [] = (f.0, let more = times_grow (length own + 2) u v le in omega (arith, f.1, more))
    back_fine (r ∷ qs) =
        one_back (is_ended r) (back_to w qs) w.going (back_fine qs) (f.2, let more = times_grow (length own + 2) u v le in omega (arith, f.3, more))

    replied_fine : (qs : List Reply) → some_reply_over qs ≡ false → (ArePlain qs → ArePlain rs) → Fine (n + 1) now (replied c t w rs qs o v)
    replied_fine [] e plain =
        let b = back_fine rs in
        (b.0, b.1, subst (λ bs. Lively now (live_after bs rs o.live)) f.5.branches (lively_after a w.seeds rs past o.live count (plain tt) f.4))
    replied_fine (WasTrapped place trap z ∷ qs) e plain = tt
    replied_fine (WasPaused copies z ∷ qs) e plain = replied_fine qs e plain
    replied_fine (WasEnded copies z ∷ qs) e plain = replied_fine qs e plain
    replied_fine (WasOver ∷ qs) e plain = cc

  pub join_fine : (n : ℕ) (past : List Answered) (a : ℕ) (rs : List Reply) (m : Machine) (seeds : List Seed) → view_of m ≡ AtFork seeds → length rs ≡ length seeds → Fine n past m →
      Fine (n + 1) (past ++ pair_up (map (written a) seeds) rs) (join c t rs m)
  join_fine n past a rs (Waits w o u) seeds v count f = pick (some_reply_over rs) refl
    where
      seeds_in : (x y : List Seed) → AtFork x ≡ AtFork y → x ≡ y
      seeds_in x y e = cc

      same : w.seeds ≡ seeds
      same = seeds_in w.seeds seeds v

      pick : (b : Bool) → some_reply_over rs ≡ b → Fine (n + 1) (past ++ pair_up (map (written a) seeds) rs) (elim b [ true ↦ Exceeded u | false ↦ replied c t w rs rs o (u + all_units rs) ])
      pick true e = tt
      pick false e =
          subst (λ l. Fine (n + 1) (past ++ pair_up (map (written a) l) rs) (replied c t w rs rs o (u + all_units rs))) same
          (replied_fine n past a rs w o u (u + all_units rs) f (count ∙ ap length (sym same)) (omega arith) rs e (λ p. p))
  join_fine n past a rs (On p fs o u) seeds v count f = absurd (going_fork v)
    where
      going_fork : Going ≡ AtFork seeds → ⊥
      going_fork e = cc
  join_fine n past a rs (Merges m o u) seeds v count f = cc
  join_fine n past a rs (Failing place trap u) seeds v count f = tt
  join_fine n past a rs (Paused wake o u) seeds v count f = cc
  join_fine n past a rs (Ended o u) seeds v count f = tt
  join_fine n past a rs (Trapped place trap u) seeds v count f = tt
  join_fine n past a rs (Exceeded u) seeds v count f = tt
  join_fine n past a rs (Stuck u) seeds v count f = tt

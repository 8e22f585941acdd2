-- One more branch is joined.
use Rattle.std.proofs.Common.{◌≡◌, ◌≢◌, ℕ, zero, suc, ◌+◌, ◌<◌, List, [], ◌∷◌, ◌++◌, length, drop, get_or, Some, Bool, true, false, refl, sym, ap, ◌∙◌, subst, ⊎_elim, inl, inr, arith}
use Rattle.std.specs.Prelude.{slice_get, ◌||◌, ◌⊎◌}
use Rattle.std.proofs.lemmas.Bool.{cases_lt}
use Rattle.std.proofs.lemmas.List.{length-map}
use Rattle.std.proofs.lemmas.Option.{slice_get_within}
use Rattle.forec_kernel.specs.Engine.{run_for, Job, allowance_of, Reply, WasPaused, WasEnded, WasTrapped, WasOver, Exchange}
use Rattle.forec_kernel.specs.Solo.{some_reply_over, is_over_reply}
use Rattle.forec_kernel.specs.Packets.{PlainPacket}
use Rattle.forec_kernel.specs.Packed.{IsReply}
use Rattle.forec_kernel.specs.Reached.{Reached, Inside, joined, stepped}
use Rattle.thread_code.specs.Plain.{PlainCode}
use Rattle.thread_code.specs.Machine.{BranchCopy, Machine, Trapped, all_shares, shares_of, copies_in, join, code_uses, step}
use Rattle.thread_code.specs.Alone.{code_engine}
use Rattle.core_machine.specs.Branches.{one_joined, leftmost_trap, verdict_of, HoldsReplies}
use Rattle.core_machine.specs.declared.branches.Verdict.{Verdict}
use Rattle.core_machine.specs.declared.branches.Verdict.TheVariants as verdict
use Rattle.core_machine.specs.declared.thread.Thread.{Thread}
use Rattle.core_machine.specs.declared.thread.Phase.TheVariants as phase
use Rattle.core_machine.specs.Forks.{branch_at, with_replies}
use Rattle.core_machine.specs.Held.{machine_in, machine_of, branch_of, HoldsInPhase, Joins, JoinsByVerdict, WaitsAtFork}
use Rattle.core_machine.specs.Threads.{Loaded, HasSettled, HasJoined, Exceeds, StandsInPhase, StandsAtMachine, StandsByVerdict, StandsFor, never, since, settling, joining}
use Rattle.core_machine.specs.Merging.{merging_with, GoesOnJoining, ComesByVerdict, Combined, StartsJoins, Prepared, EndsJoin, EndsJoinByVerdict, StepsOn}
use Rattle.core_machine.proofs.Asking.{waits, view_is, units_is}
use Rattle.core_machine.proofs.Back.{not_over}
use Rattle.thread_state.proofs.Lists.{drop_next, drop_past}
use Rattle.core_machine.proofs.Jobs.{steps_on}
use Rattle.core_machine.proofs.Replying.{at_fork, from_some, long_some}
use Rattle.thread_steps.proofs.Steps.{got}
use Rattle.core_machine.proofs.Reloading.{loaded_as}

-- ---- where it begins

-- with these replies the thread has come to this machine, and joins from here on
pub record Has_come (c : PlainCode) (h h1 : Thread) (rs : List Reply) (ys : List Exchange) : Type 0 where
  pub before : List Exchange
  pub job : Job
  pub forks : List (List Reply)
  pub machine : Machine
  pub allowance : h.allowance ≡ allowance_of job
  pub reached : Reached (code_engine c h.number) before (Inside job (forks ++ rs ∷ []) machine)
  pub stands : StandsByVerdict c h1 rs h1.branches.verdict machine
  pub same : at_fork before job (forks ++ rs ∷ []) ≡ ys

module _ (c : PlainCode) (h : Thread) (l : Loaded c h) where
  module _ (at : HasSettled h (length h.branches.numbers)) (h1 : Thread) (s : StartsJoins c h h1) where
    abbrev w0 : WaitsAtFork c l.needs h at.before
    w0 = waits c h l at

    comes_first : (xs : List Exchange) (rs : List Reply) → length rs ≡ length h.branches.numbers → 0 < length rs → (zs : List Exchange) → zs ≡ with_replies xs rs → StandsFor c h zs → Has_come c h h1 rs zs
    comes_first xs rs n some zs e (never fresh) = let k = sym fresh ∙ at.phase in cc
    comes_first xs rs n some zs e (since ys job before m al reached st) =
        let k = subst (λ p. StandsInPhase c h p m) at.phase st in
        let z = ap length k.1.ended in
        absurd (omega (arith, z, at.count, n, some))
    comes_first xs rs n some zs e (settling ys job before rs' al reached w some' says) =
        let f = from_some xs ys job before rs rs' (long_some rs some) e in
        let says' = subst (λ rs. HoldsReplies h.branches rs) f.0 says in
        let seeds : length rs ≡ length w0.seeds = let k = ap length w0.numbers in omega (arith, n, k, length-map w0.seeds branch_of) in
        let run = s.runs rs n says' in
        let there = joined ys job before rs w0.seeds (machine_of c h) reached (view_is c h l at) (omega (arith, units_is c h l at, at.within, al)) seeds in
        record {
          before = ys;
          job = job;
          forks = before;
          machine = run_for (step c h.number) run.0 (join c h.number rs (machine_of c h));
          allowance = al;
          reached = steps_on c h.number ys job (before ++ rs ∷ []) run.0 (join c h.number rs (machine_of c h)) there;
          stands = run.1;
          same = ap (λ r. at_fork ys job (before ++ r ∷ [])) (sym f.0);
        }
    comes_first xs rs n some zs e (joining ys job before rs' m al reached p q st) = let k = sym p ∙ at.phase in cc

  comes_later : (k : ℕ) → HasJoined h (suc k) → (xs : List Exchange) (rs : List Reply) → 0 < length rs → (zs : List Exchange) → zs ≡ with_replies xs rs → StandsFor c h zs → Has_come c h h rs zs
  comes_later k at xs rs some zs e (never fresh) = let k = sym fresh ∙ at.0 in cc
  comes_later k at xs rs some zs e (since ys job before m al reached st) = absurd (subst (λ p. StandsInPhase c h p m) at.0 st)
  comes_later k at xs rs some zs e (settling ys job before rs' al reached w some' says) = let k = sym w.phase ∙ at.0 in cc
  comes_later k at xs rs some zs e (joining ys job before rs' m al reached p q st) =
      let f = from_some xs ys job before rs rs' (long_some rs some) e in
      record {
        before = ys;
        job = job;
        forks = before;
        machine = m;
        allowance = al;
        reached = subst (λ rs. Reached (code_engine c h.number) ys (Inside job (before ++ rs ∷ []) m)) f.0 reached;
        stands = subst (λ rs. StandsByVerdict c h rs h.branches.verdict m) f.0 st;
        same = ap (λ r. at_fork ys job (before ++ r ∷ [])) (sym f.0);
      }

  pub comes : (k : ℕ) → HasJoined h k → (h1 : Thread) → Prepared c h h1 k → (xs : List Exchange) (rs : List Reply) → length rs ≡ length h.branches.numbers → k < length rs → StandsFor c h (with_replies xs rs) → Has_come c h h1 rs (with_replies xs rs)
  comes zero at h1 p xs rs n lt stands = comes_first at h1 p xs rs n lt (with_replies xs rs) refl stands
  comes (suc k) at h1 p xs rs n lt stands = subst (λ h1. Has_come c h h1 rs (with_replies xs rs)) (sym p) (comes_later k at xs rs (omega (arith, lt)) (with_replies xs rs) refl stands)

  -- how it stands then
  pub prepared_on : (k : ℕ) → HasJoined h k → (h1 : Thread) → Prepared c h h1 k → GoesOnJoining c h h1 × (h1.branches.joined ≡ k)
  prepared_on zero at h1 p = let w = waits c h l at in (p.on, p.on.joined ∙ w.joined)
  prepared_on (suc k) at h1 p =
      subst (λ h1. GoesOnJoining c h h1 × (h1.branches.joined ≡ suc k)) (sym p)
      (record { loaded = l; phase = at.0; number = refl; allowance = refl; numbers = refl; joined = refl }, at.1)

-- ---- a branch's copies

copies_are : (p : PlainPacket) (r : Reply) → IsReply p r → leftmost_trap (r ∷ []) ≡ verdict.Combine → is_over_reply r ≡ false → copies_in r ≡ p.copies
copies_are p (WasPaused copies u) is e o = sym is.1
copies_are p (WasEnded copies u) is e o = sym is.1
copies_are p (WasTrapped place trap u) is e o = cc
copies_are p WasOver is e o = cc

none_of : (rs : List Reply) (k : ℕ) (r : Reply) → slice_get rs k ≡ Some r → some_reply_over rs ≡ false → is_over_reply r ≡ false
none_of [] zero r e o = cc
none_of [] (suc k) r e o = cc
none_of (x ∷ rs) zero r e o = let s : x ≡ r = cc in by (is_over_reply x) (some_reply_over rs) refl o s
  where
    by : (a b : Bool) → is_over_reply x ≡ a → (a || b) ≡ false → x ≡ r → is_over_reply r ≡ false
    by true b k o s = cc
    by false b k o s = ap is_over_reply (sym s) ∙ k
none_of (x ∷ rs) (suc k) r e o = by (is_over_reply x) o (none_of rs k r e)
  where
    by : (a : Bool) → (a || some_reply_over rs) ≡ false → (some_reply_over rs ≡ false → is_over_reply r ≡ false) → is_over_reply r ≡ false
    by true o more = cc
    by false o more = more o

no_trap_of : (rs : List Reply) (k : ℕ) (r : Reply) → slice_get rs k ≡ Some r → leftmost_trap rs ≡ verdict.Combine → leftmost_trap (r ∷ []) ≡ verdict.Combine
no_trap_of [] zero r e t = cc
no_trap_of [] (suc k) r e t = cc
no_trap_of (WasPaused copies u ∷ rs) zero r e t = let s : WasPaused copies u ≡ r = cc in ap (λ r. leftmost_trap (r ∷ [])) (sym s)
no_trap_of (WasEnded copies u ∷ rs) zero r e t = let s : WasEnded copies u ≡ r = cc in ap (λ r. leftmost_trap (r ∷ [])) (sym s)
no_trap_of (WasTrapped place trap u ∷ rs) zero r e t = cc
no_trap_of (WasOver ∷ rs) zero r e t = let s : WasOver ≡ r = cc in ap (λ r. leftmost_trap (r ∷ [])) (sym s)
no_trap_of (WasPaused copies u ∷ rs) (suc k) r e t = no_trap_of rs k r e t
no_trap_of (WasEnded copies u ∷ rs) (suc k) r e t = no_trap_of rs k r e t
no_trap_of (WasTrapped place trap u ∷ rs) (suc k) r e t = cc
no_trap_of (WasOver ∷ rs) (suc k) r e t = no_trap_of rs k r e t

copies_of : (p : PlainPacket) (rs : List Reply) (k : ℕ) (r : Reply) → slice_get rs k ≡ Some r → IsReply p r → verdict_of rs ≡ verdict.Combine → copies_in r ≡ p.copies
copies_of p rs k r e is v =
    let n = not_over rs (λ o. let q = sym v ∙ o in cc) in
    copies_are p r is (no_trap_of rs k r e (sym n.1 ∙ v)) (none_of rs k r e n.0)

shares_split : (c : PlainCode) (bs : List ℕ) (rs : List Reply) (k : ℕ) (r : Reply) → length rs ≡ length bs → slice_get rs k ≡ Some r →
    all_shares c (drop k bs) (drop k rs) ≡ shares_of (code_uses c (get_or bs k 0)) (copies_in r) ++ all_shares c (drop (k + 1) bs) (drop (k + 1) rs)
shares_split c bs rs k r n e =
    let lt = slice_get_within rs k r e in
    ap (λ l. all_shares c l (drop k rs)) (drop_next bs k 0 (omega (arith, lt, n)))
    ∙ ap (all_shares c (get_or bs k 0 ∷ drop (k + 1) bs)) (drop_next rs k r lt)
    ∙ ap (λ x. shares_of (code_uses c (get_or bs k 0)) (copies_in x) ++ all_shares c (drop (k + 1) bs) (drop (k + 1) rs)) (got rs k r r e)

-- ---- after the branch's copies

-- how the thread stands when the first k branches are joined
abbrev Stands_mid : PlainCode → Thread → List Reply → ℕ → Verdict → Machine → Type 0
Stands_mid c h rs k verdict.Combine m = (verdict_of rs ≡ verdict.Combine) × (m ≡ merging_with c h (all_shares c (drop k h.branches.numbers) (drop k rs)))
Stands_mid c h rs k (verdict.Trap place trap) m = m ≡ Trapped place trap h.units
Stands_mid c h rs k verdict.Over m = Exceeds h.allowance m

module _ (c : PlainCode) (h1 h2 : Thread) (k : ℕ) (rs : List Reply) (r : Reply) (p : PlainPacket) (n : length rs ≡ length h1.branches.numbers) (e : slice_get rs k ≡ Some r) (is : IsReply p r) (j : h1.branches.joined ≡ k)
    (on : h1.branches.verdict ≡ verdict.Combine → Combined c h1 h2 (shares_of (code_uses c (branch_at h1 k)) p.copies)) (stays : h1.branches.verdict ≢ verdict.Combine → h2 ≡ h1) where
  Went_on : Machine → Type 0
  Went_on m = (q : ℕ) × Stands_mid c h2 rs (k + 1) h2.branches.verdict (run_for (step c h2.number) q m)

  rest : List BranchCopy
  rest = all_shares c (drop (k + 1) h1.branches.numbers) (drop (k + 1) rs)

  combines_on : (m : Machine) → verdict_of rs ≡ verdict.Combine → m ≡ merging_with c h1 (all_shares c (drop h1.branches.joined h1.branches.numbers) (drop h1.branches.joined rs)) → Combined c h1 h2 (shares_of (code_uses c (branch_at h1 k)) p.copies) → Went_on m
  unfolding Went_on
  combines_on m v is_m x =
      let b = branch_at h1 k in
      let all = all_shares c (drop (k + 1) h1.branches.numbers) (drop (k + 1) rs) in
      let here : m ≡ merging_with c h1 (shares_of (code_uses c b) p.copies ++ all) =
      is_m ∙ ap (λ j. merging_with c h1 (all_shares c (drop j h1.branches.numbers) (drop j rs))) j
      ∙ ap (merging_with c h1) (shares_split c h1.branches.numbers rs k r n e)
      ∙ ap (λ cs. merging_with c h1 (shares_of (code_uses c b) cs ++ all)) (copies_of p rs k r e is v) in
      subst (λ m. (q : ℕ) × Stands_mid c h2 rs (k + 1) h2.branches.verdict (run_for (step c h2.number) q m)) (sym here) (by h2.branches.verdict (x.runs all))
    where
      by : (w : Verdict) → ComesByVerdict c h2 (merging_with c h1 (shares_of (code_uses c (branch_at h1 k)) p.copies ++ all_shares c (drop (k + 1) h1.branches.numbers) (drop (k + 1) rs))) (all_shares c (drop (k + 1) h1.branches.numbers) (drop (k + 1) rs)) w →
          (q : ℕ) × Stands_mid c h2 rs (k + 1) w (run_for (step c h2.number) q (merging_with c h1 (shares_of (code_uses c (branch_at h1 k)) p.copies ++ all_shares c (drop (k + 1) h1.branches.numbers) (drop (k + 1) rs))))
      by verdict.Combine q = (q.0, (v, q.1 ∙ ap (λ bs. merging_with c h2 (all_shares c (drop (k + 1) bs) (drop (k + 1) rs))) (sym x.on.numbers)))
      by (verdict.Trap place trap) q = q
      by verdict.Over q = q

  stays_on : (w : Verdict) (m : Machine) → (w ≢ verdict.Combine) → StandsByVerdict c h1 rs w m → (q : ℕ) × Stands_mid c h1 rs (k + 1) w (run_for (step c h1.number) q m)
  stays_on verdict.Combine m no_more s = absurd (no_more refl)
  stays_on (verdict.Trap place trap) m no_more s = (0, s)
  stays_on verdict.Over m no_more s = (0, s)

  not_trap : (place : _) (trap : _) → verdict.Trap place trap ≢ verdict.Combine
  not_trap place trap e = cc

  not_overs : verdict.Over ≢ verdict.Combine
  not_overs e = cc

  stays_as : (m : Machine) → h1.branches.verdict ≢ verdict.Combine → StandsByVerdict c h1 rs h1.branches.verdict m → Went_on m
  unfolding Went_on
  stays_as m no_more s =
      subst (λ t. (q : ℕ) × Stands_mid c t rs (k + 1) t.branches.verdict (run_for (step c t.number) q m)) (sym (stays no_more)) (stays_on h1.branches.verdict m no_more s)

  goes_by : (w : Verdict) → h1.branches.verdict ≡ w → (m : Machine) → StandsByVerdict c h1 rs w m → Went_on m
  goes_by verdict.Combine q m s = combines_on m s.0 s.1 (on q)
  goes_by (verdict.Trap place trap) q m s = stays_as m (λ z. not_trap place trap (sym q ∙ z)) (subst (λ w. StandsByVerdict c h1 rs w m) (sym q) s)
  goes_by verdict.Over q m s = stays_as m (λ z. not_overs (sym q ∙ z)) (subst (λ w. StandsByVerdict c h1 rs w m) (sym q) s)

  pub went_on : (m : Machine) → StandsByVerdict c h1 rs h1.branches.verdict m → (q : ℕ) × Stands_mid c h2 rs (k + 1) h2.branches.verdict (run_for (step c h2.number) q m)
  unfolding Went_on
  went_on m s = goes_by h1.branches.verdict refl m s

  pub on_after : Loaded c h1 → h1.phase ≡ phase.Joining → GoesOnJoining c h1 h2
  on_after l q = by h1.branches.verdict refl
    where
      same : h2 ≡ h1 → GoesOnJoining c h1 h2
      same z = subst (GoesOnJoining c h1) (sym z) (record { loaded = l; phase = q; number = refl; allowance = refl; numbers = refl; joined = refl })

      by : (w : Verdict) → h1.branches.verdict ≡ w → GoesOnJoining c h1 h2
      by verdict.Combine z = (on z).on
      by (verdict.Trap place trap) z = same (stays (λ y. not_trap place trap (sym z ∙ y)))
      by verdict.Over z = same (stays (λ y. not_overs (sym z ∙ y)))

-- ---- one more is joined

module _ (c : PlainCode) (h2 h3 : Thread) (l : Loaded c h2) (q : h2.phase ≡ phase.Joining) (s : StepsOn c h2 h3) where
  abbrev one_more : Thread
  one_more = record { number = h2.number; phase = h2.phase; function = h2.function; at = h2.at; stack = h2.stack; own = h2.own; units = h2.units; allowance = h2.allowance; branches = one_joined h2.branches; joining = h2.joining }

  joins_now : Joins c l.needs h2
  joins_now = subst (HoldsInPhase c l.needs h2) q l.placed

  one_state : (v : Verdict) → JoinsByVerdict c l.needs h2 v → JoinsByVerdict c l.needs one_more v
  one_state verdict.Combine s = record { works = s.works; own = s.own; within = s.within; folds = λ v u. let f = s.folds v u in record { base = f.base; free = f.free }; rest = s.rest }
  one_state (verdict.Trap place trap) s = s
  one_state verdict.Over s = s

  next_loaded : h2.branches.joined + 1 < length h2.branches.numbers → Loaded c one_more
  next_loaded lt = loaded_as c h2 l one_more refl refl refl refl refl l.small l.serves l.units (subst (HoldsInPhase c l.needs one_more) (sym q) (record { branches = joins_now.branches; some = lt; state = one_state h2.branches.verdict joins_now.state }))

  last_or_next : (h2.branches.joined + 1 ≡ length h2.branches.numbers) ⊎ ((h2.branches.joined + 1 ≢ length h2.branches.numbers) × (h2.branches.joined + 1 < length h2.branches.numbers))
  last_or_next =
      ⊎_elim
      (λ lt. inr (λ e. omega (arith, lt, e), lt))
      (λ le. inl (omega (arith, le, joins_now.some)))
      (cases_lt (h2.branches.joined + 1) (length h2.branches.numbers))

  pub end_loaded : Loaded c h3
  end_loaded = ⊎_elim (λ last. (s.last last).loaded) (λ more. subst (Loaded c) (sym (s.next more.0)) (next_loaded more.1)) last_or_next

  module _ (ys : List Exchange) (job : Job) (forks : List (List Reply)) (rs : List Reply) (n : length rs ≡ length h2.branches.numbers) (al : h2.allowance ≡ allowance_of job) (m : Machine)
      (reached : Reached (code_engine c h2.number) ys (Inside job (forks ++ rs ∷ []) m)) (mid : Stands_mid c h2 rs (h2.branches.joined + 1) h2.branches.verdict m) where
    by_next : (v : Verdict) → Stands_mid c h2 rs (h2.branches.joined + 1) v m → StandsByVerdict c one_more rs v m
    by_next verdict.Combine s = s
    by_next (verdict.Trap place trap) s = s
    by_next verdict.Over s = s

    next_stands : StandsFor c one_more (at_fork ys job (forks ++ rs ∷ []))
    next_stands = joining ys job forks rs m al reached q n (by_next h2.branches.verdict mid)

    module _ (last : h2.branches.joined + 1 ≡ length h2.branches.numbers) where
      nothing_left : all_shares c (drop (h2.branches.joined + 1) h2.branches.numbers) (drop (h2.branches.joined + 1) rs) ≡ []
      nothing_left = ap (λ l. all_shares c l (drop (h2.branches.joined + 1) rs)) (drop_past h2.branches.numbers (h2.branches.joined + 1) (omega (arith, last)))

      since_now : (m' : Machine) → StandsAtMachine c h3 m' → Reached (code_engine c h2.number) ys (Inside job (forks ++ rs ∷ []) m') → EndsJoin c h2 h3 → StandsFor c h3 (at_fork ys job (forks ++ rs ∷ []))
      since_now m' st r k = since ys job (forks ++ rs ∷ []) m' (k.allowance ∙ al) (subst (λ t. Reached (code_engine c t) ys (Inside job (forks ++ rs ∷ []) m')) (sym k.number) r) st

      ends_by : (v : Verdict) → Stands_mid c h2 rs (h2.branches.joined + 1) v m → EndsJoinByVerdict c h2 h3 v → EndsJoin c h2 h3 → StandsFor c h3 (at_fork ys job (forks ++ rs ∷ []))
      ends_by verdict.Combine s b k =
          let at_end : m ≡ merging_with c h2 [] = s.1 ∙ ap (merging_with c h2) nothing_left in
          let st : StandsAtMachine c h3 (machine_of c h3) = subst (λ p. StandsInPhase c h3 p (machine_in c h3 p)) (sym b.0) refl in
          since_now (machine_of c h3) st (stepped ys job (forks ++ rs ∷ []) m (machine_of c h3) reached (ap (step c h2.number) at_end ∙ b.1)) k
      ends_by (verdict.Trap place trap) s b k =
          let e : m ≡ Trapped place trap h3.units = s ∙ ap (Trapped place trap) (sym b.1) in
          since_now m (subst (λ p. StandsInPhase c h3 p m) (sym b.0) e) reached k
      ends_by verdict.Over s b k =
          let e : Exceeds h3.allowance m = subst (λ a. Exceeds a m) (sym k.allowance) s in
          since_now m (subst (λ p. StandsInPhase c h3 p m) (sym b) e) reached k

      last_stands : EndsJoin c h2 h3 → StandsFor c h3 (at_fork ys job (forks ++ rs ∷ []))
      last_stands k = ends_by h2.branches.verdict mid k.by k

    pub end_stands : StandsFor c h3 (at_fork ys job (forks ++ rs ∷ []))
    end_stands = ⊎_elim (λ last. last_stands last (s.last last)) (λ more. subst (λ t. StandsFor c t (at_fork ys job (forks ++ rs ∷ []))) (sym (s.next more.0)) next_stands) last_or_next

-- ---- the whole step

pub joined_stands : (c : PlainCode) (h h1 h2 h3 : Thread) (l : Loaded c h) (k : ℕ) (at : HasJoined h k) (prepared : Prepared c h h1 k) (p : PlainPacket)
    (on : h1.branches.verdict ≡ verdict.Combine → Combined c h1 h2 (shares_of (code_uses c (branch_at h1 k)) p.copies)) (stays : h1.branches.verdict ≢ verdict.Combine → h2 ≡ h1) (s : StepsOn c h2 h3)
    (xs : List Exchange) (rs : List Reply) (r : Reply) → length rs ≡ length h.branches.numbers → slice_get rs k ≡ Some r → IsReply p r → StandsFor c h (with_replies xs rs) → StandsFor c h3 (with_replies xs rs)
joined_stands c h h1 h2 h3 l k at prepared p on stays s xs rs r n e is stands =
    let o1 = prepared_on c h l k at h1 prepared in
    let n1 : length rs ≡ length h1.branches.numbers = n ∙ sym (ap length o1.0.numbers) in
    let come = comes c h l k at h1 prepared xs rs n (slice_get_within rs k r e) stands in
    let o2 = on_after c h1 h2 k rs r p n1 e is o1.1 on stays o1.0.loaded o1.0.phase in
    let went = went_on c h1 h2 k rs r p n1 e is o1.1 on stays come.machine come.stands in
    let number : h2.number ≡ h.number = o2.number ∙ o1.0.number in
    let j : h2.branches.joined ≡ k = o2.joined ∙ o1.1 in
    let mid = subst (λ k. Stands_mid c h2 rs (k + 1) h2.branches.verdict (run_for (step c h2.number) went.0 come.machine)) (sym j) went.1 in
    let reached = subst (λ t. Reached (code_engine c t) come.before (Inside come.job (come.forks ++ rs ∷ []) come.machine)) (sym number) come.reached in
    subst (StandsFor c h3) come.same
    (end_stands c h2 h3 o2.loaded o2.phase s come.before come.job come.forks rs (n1 ∙ sym (ap length o2.numbers)) (o2.allowance ∙ o1.0.allowance ∙ come.allowance) (run_for (step c h2.number) went.0 come.machine)
    (steps_on c h2.number come.before come.job (come.forks ++ rs ∷ []) went.0 come.machine reached) mid)

pub joined_loaded : (c : PlainCode) (h h1 h2 h3 : Thread) (l : Loaded c h) (k : ℕ) (at : HasJoined h k) (prepared : Prepared c h h1 k) (shares : List BranchCopy)
    (on : h1.branches.verdict ≡ verdict.Combine → Combined c h1 h2 shares) (stays : h1.branches.verdict ≢ verdict.Combine → h2 ≡ h1) (s : StepsOn c h2 h3) → Loaded c h3
joined_loaded c h h1 h2 h3 l k at prepared shares on stays s =
    let o1 = prepared_on c h l k at h1 prepared in
    let o2 = by o1.0 h1.branches.verdict refl in
    end_loaded c h2 h3 o2.loaded o2.phase s
  where
    same : GoesOnJoining c h h1 → h2 ≡ h1 → GoesOnJoining c h1 h2
    same o z = subst (GoesOnJoining c h1) (sym z) (record { loaded = o.loaded; phase = o.phase; number = refl; allowance = refl; numbers = refl; joined = refl })

    by : GoesOnJoining c h h1 → (w : Verdict) → h1.branches.verdict ≡ w → GoesOnJoining c h1 h2
    by o verdict.Combine z = (on z).on
    by o (verdict.Trap place trap) z = same o (stays (λ y. let q = sym z ∙ y in cc))
    by o verdict.Over z = same o (stays (λ y. let q = sym z ∙ y in cc))

-- A parent and its branch that share no packet.
use Rattle.std.proofs.Common.{◌≡◌, ℕ, ◌+◌, ◌-◌, ◌<◌, ◌≤◌, List, [], ◌∷◌, ◌++◌, length, get_or, Some, true, false, refl, sym, ap, ◌∙◌, subst, inl, inr, arith}
use Rattle.std.specs.Prelude.{slice_get}
use Rattle.std.proofs.lemmas.List.{length-map}
use Rattle.std.proofs.lemmas.Option.{slice_get-get_or}
use Rattle.forec_base.specs.declared.Place.{Place}
use Rattle.forec_base.specs.declared.Trap.{Trap}
use Rattle.forec_kernel.specs.declared.shape.VarCopy.{VarCopy}
use Rattle.forec_kernel.specs.Engine.{Wake, Reply, WasPaused, WasEnded, WasOver, Written, written}
use Rattle.forec_kernel.specs.Packets.{PlainPacket, IsPaused, IsEnded, IsTrapped, IsOver}
use Rattle.forec_kernel.specs.Packed.{HasRoom, IsJob, IsReply}
use Rattle.thread_code.specs.Plain.{PlainCode}
use Rattle.thread_code.specs.Valid.{of_shape}
use Rattle.thread_code.specs.Machine.{code_uses}
use Rattle.thread_state.specs.Kept.{place_in, no_copy, handed_by}
use Rattle.thread_state.proofs.FrameLemmas.{length_args}
use Rattle.core_machine.specs.declared.branches.Verdict.TheVariants as verdict
use Rattle.core_machine.specs.declared.thread.Thread.{Thread}
use Rattle.core_machine.specs.declared.thread.Phase.{Phase}
use Rattle.core_machine.specs.declared.thread.Phase.TheVariants as phase
use Rattle.core_machine.specs.Branches.{Gathered, with_verdict, first_verdict, noted_ending, with_more_units, HoldsReplies, AddsReply}
use Rattle.core_machine.specs.Held.{branch_of}
use Rattle.core_machine.specs.Threads.{Loaded, IsAtFork, HasPaused}
use Rattle.core_machine.specs.Forks.{branch_at, jobs_at}
use Rattle.core_machine.specs.Direct.{CanTake, IsNewFork, IsHeldFork, start_packet, wake_packet, RepliesIn, RepliesBy}
use Rattle.core_machine.proofs.Asking.{waits, jobs_are}
use Rattle.core_machine.proofs.Seeds.{fork_job, again_job, values_are}
use Rattle.core_machine.proofs.Gathering.{says_plain, says_trap, says_over, count_one}

-- ---- the job of the k-th branch

module _ (c : PlainCode) (h : Thread) (l : Loaded c h) (at : IsAtFork h) (k : ℕ) (lt : k < length h.branches.numbers) where
  pub start_is : IsNewFork c h → (w : Written) → slice_get (jobs_at c h) k ≡ Some w → IsJob (start_packet c h k) w.job
  start_is new w e = subst (λ (w : Written). IsJob (start_packet c h k) w.job) (sym (fork_job c h l at new.0 new.1 new.2 k w lt e)) (refl, refl, values_are c h l at k lt, refl)

  pub wake_is : IsHeldFork c h → (w : Written) → slice_get (jobs_at c h) k ≡ Some w → IsJob (wake_packet c h k) w.job
  wake_is held w e = subst (λ (w : Written). IsJob (wake_packet c h k) w.job) (sym (again_job c h l at held.0 held.1 held.2 k w e)) (refl, values_are c h l at k lt, refl)

  -- there is one
  job_there : (w : Written) × (slice_get (jobs_at c h) k ≡ Some w)
  job_there =
      let d : Written = record { branch = 0; job = Wake [] 0 } in
      let w = waits c h l at in
      let n = ap length (jobs_are c h l at) ∙ length-map w.seeds (written (h.allowance - h.units)) in
      let m = ap length w.numbers ∙ length-map w.seeds branch_of in
      (get_or (jobs_at c h) k d, slice_get-get_or (jobs_at c h) k d (omega (arith, n, m, lt)))

  pub paused_there : IsHeldFork c h → (b : Thread) → ((w : Written) → slice_get (jobs_at c h) k ≡ Some w → CanTake b w.job) → HasPaused b
  paused_there held b can =
      let j = job_there in
      subst (λ (w : Written). CanTake b w.job) (again_job c h l at held.0 held.1 held.2 k j.0 j.1) (can j.0 j.1)

  long_copies : length (handed_by h.own (code_uses c (branch_at h k))) ≡ length (code_uses c (branch_at h k))
  long_copies = length-map (code_uses c (branch_at h k)) (λ v. record { value = (get_or h.own.copies (place_in h.own v) no_copy).value; modified = false })

  pub start_room_is : (b : ℕ) → b ≡ branch_at h k → HasRoom (of_shape c.shape) b (start_packet c h k)
  start_room_is b e = subst (λ b. HasRoom (of_shape c.shape) b (start_packet c h k)) (sym e) (record { args = length_args _ _ _ _; copies = long_copies })

  pub wake_room_is : (b : ℕ) → b ≡ branch_at h k → HasRoom (of_shape c.shape) b (wake_packet c h k)
  wake_room_is b e = subst (λ b. HasRoom (of_shape c.shape) b (wake_packet c h k)) (sym e) (record { args = length_args _ _ _ _; copies = long_copies })

-- ---- the reply that a thread holds

one_in : (h : Thread) (p : Phase) (r s : Reply) → RepliesIn h p r → RepliesIn h p s → r ≡ s
one_in h phase.Fresh r s a b = absurd a
one_in h (phase.Running folding) r s a b = absurd a
one_in h (phase.Forked before) r s a b = absurd a
one_in h phase.Joining r s a b = absurd a
one_in h phase.Paused r s a b = a ∙ sym b
one_in h phase.Ended r s a b = a ∙ sym b
one_in h (phase.Trapped place trap) r s a b = a ∙ sym b
one_in h phase.Over r s a b = a ∙ sym b

-- it is one
pub one_reply : (h : Thread) (r s : Reply) → RepliesBy h r → RepliesBy h s → r ≡ s
one_reply h r s (inl a) (inl b) = a.1 ∙ sym b.1
one_reply h r s (inl a) (inr b) = absurd (omega (arith, a.0, b.0))
one_reply h r s (inr a) (inl b) = absurd (omega (arith, a.0, b.0))
one_reply h r s (inr a) (inr b) = one_in h h.phase r s a.1 b.1

paused_in : (h : Thread) (p : Phase) (copies : List VarCopy) (u : ℕ) → h.phase ≡ p → h.units ≤ h.allowance → RepliesIn h p (WasPaused copies u) → HasPaused h
paused_in h phase.Fresh copies u e le a = absurd a
paused_in h (phase.Running folding) copies u e le a = absurd a
paused_in h (phase.Forked before) copies u e le a = absurd a
paused_in h phase.Joining copies u e le a = absurd a
paused_in h phase.Paused copies u e le a = record { phase = e; within = le }
paused_in h phase.Ended copies u e le a = cc
paused_in h (phase.Trapped place trap) copies u e le a = cc
paused_in h phase.Over copies u e le a = cc

-- that it paused, only where it did
pub reply_paused : (h : Thread) (copies : List VarCopy) (u : ℕ) → RepliesBy h (WasPaused copies u) → HasPaused h
reply_paused h copies u (inl a) = let e = a.1 in cc
reply_paused h copies u (inr a) = paused_in h h.phase copies u refl a.0 a.1

-- ---- it is settled

module _ (g : Gathered) (h : Thread) where
  pub adds_over : (h.allowance < h.units) → AddsReply g (RepliesBy h) (with_verdict verdict.Over (noted_ending false g))
  adds_over past = record { fork = refl; numbers = refl; joined = refl; room = refl; count = count_one g.ended false; says = by }
    where
      by : (rs : List Reply) (r : Reply) → RepliesBy h r → HoldsReplies g rs → HoldsReplies (with_verdict verdict.Over (noted_ending false g)) (rs ++ r ∷ [])
      by rs r (inl a) s = subst (λ r. HoldsReplies (with_verdict verdict.Over (noted_ending false g)) (rs ++ r ∷ [])) (sym a.1) (says_over g (with_verdict verdict.Over (noted_ending false g)) rs s refl refl refl)
      by rs r (inr a) s = absurd (omega (arith, past, a.0))

  module _ (le : h.units ≤ h.allowance) where
    adds_in : (p : Phase) (g' : Gathered) → h.phase ≡ p → g'.fork ≡ g.fork → g'.numbers ≡ g.numbers → g'.joined ≡ g.joined → g'.room ≡ g.room → length g'.ended ≡ length g.ended + 1 →
        ((rs : List Reply) (r : Reply) → RepliesIn h p r → HoldsReplies g rs → HoldsReplies g' (rs ++ r ∷ [])) → AddsReply g (RepliesBy h) g'
    adds_in p g' e fork numbers joined room count more = record { fork = fork; numbers = numbers; joined = joined; room = room; count = count; says = by }
      where
        by : (rs : List Reply) (r : Reply) → RepliesBy h r → HoldsReplies g rs → HoldsReplies g' (rs ++ r ∷ [])
        by rs r (inl a) s = absurd (omega (arith, le, a.0))
        by rs r (inr a) s = more rs r (subst (λ p. RepliesIn h p r) e a.1) s

    pub adds_paused : h.phase ≡ phase.Paused → AddsReply g (RepliesBy h) (with_more_units h.units (noted_ending false g))
    adds_paused e =
        let g' = with_more_units h.units (noted_ending false g) in
        adds_in phase.Paused g' e refl refl refl refl (count_one g.ended false)
        (λ rs r a s. subst (λ r. HoldsReplies g' (rs ++ r ∷ [])) (sym a) (says_plain g g' rs s (WasPaused h.own.copies h.units) refl refl refl refl refl))

    pub adds_ended : h.phase ≡ phase.Ended → AddsReply g (RepliesBy h) (with_more_units h.units (noted_ending true g))
    adds_ended e =
        let g' = with_more_units h.units (noted_ending true g) in
        adds_in phase.Ended g' e refl refl refl refl (count_one g.ended true)
        (λ rs r a s. subst (λ r. HoldsReplies g' (rs ++ r ∷ [])) (sym a) (says_plain g g' rs s (WasEnded h.own.copies h.units) refl refl refl refl refl))

    pub adds_trap : (place : Place) (trap : Trap) → h.phase ≡ phase.Trapped place trap → AddsReply g (RepliesBy h) (with_verdict (first_verdict g.verdict (verdict.Trap place trap)) (with_more_units h.units (noted_ending false g)))
    adds_trap place trap e =
        let g' = with_verdict (first_verdict g.verdict (verdict.Trap place trap)) (with_more_units h.units (noted_ending false g)) in
        adds_in (phase.Trapped place trap) g' e refl refl refl refl (count_one g.ended false)
        (λ rs r a s. subst (λ r. HoldsReplies g' (rs ++ r ∷ [])) (sym a) (says_trap g g' rs s place trap h.units refl refl refl))

    over_or_none : (p : Phase) → (p ≡ phase.Paused → ⊥) → (p ≡ phase.Ended → ⊥) → ((place : Place) (trap : Trap) → p ≡ phase.Trapped place trap → ⊥) → (r : Reply) → RepliesIn h p r → r ≡ WasOver
    over_or_none phase.Fresh a b d r is = absurd is
    over_or_none (phase.Running folding) a b d r is = absurd is
    over_or_none (phase.Forked before) a b d r is = absurd is
    over_or_none phase.Joining a b d r is = absurd is
    over_or_none phase.Paused a b d r is = absurd (a refl)
    over_or_none phase.Ended a b d r is = absurd (b refl)
    over_or_none (phase.Trapped place trap) a b d r is = absurd (d place trap refl)
    over_or_none phase.Over a b d r is = is

    pub adds_else : (h.phase ≡ phase.Paused → ⊥) → (h.phase ≡ phase.Ended → ⊥) → ((place : Place) (trap : Trap) → h.phase ≡ phase.Trapped place trap → ⊥) → AddsReply g (RepliesBy h) (with_verdict verdict.Over (noted_ending false g))
    adds_else a b d =
        let g' = with_verdict verdict.Over (noted_ending false g) in
        adds_in h.phase g' refl refl refl refl refl (count_one g.ended false)
        (λ rs r is s. subst (λ r. HoldsReplies g' (rs ++ r ∷ [])) (sym (over_or_none h.phase a b d r is)) (says_over g g' rs s refl refl refl))

-- ---- it is joined

-- a packet with the thread's copies that holds the reply
pub packet_of : (h : Thread) (r : Reply) → RepliesBy h r → (p : PlainPacket) × (p.copies ≡ h.own.copies) × IsReply p r
packet_of h r (inl a) = (record { kind = IsOver; args = []; copies = h.own.copies; allowance = 0; units = h.units }, refl, subst (IsReply (record { kind = IsOver; args = []; copies = h.own.copies; allowance = 0; units = h.units })) (sym a.1) refl)
packet_of h r (inr a) = by h.phase a.1
  where
    by : (p : Phase) → RepliesIn h p r → (q : PlainPacket) × (q.copies ≡ h.own.copies) × IsReply q r
    by phase.Fresh is = absurd is
    by (phase.Running folding) is = absurd is
    by (phase.Forked before) is = absurd is
    by phase.Joining is = absurd is
    by phase.Paused is = let q : PlainPacket = record { kind = IsPaused; args = []; copies = h.own.copies; allowance = 0; units = h.units } in (q, refl, subst (IsReply q) (sym is) (refl, refl, refl))
    by phase.Ended is = let q : PlainPacket = record { kind = IsEnded; args = []; copies = h.own.copies; allowance = 0; units = h.units } in (q, refl, subst (IsReply q) (sym is) (refl, refl, refl))
    by (phase.Trapped place trap) is = let q : PlainPacket = record { kind = IsTrapped place trap; args = []; copies = h.own.copies; allowance = 0; units = h.units } in (q, refl, subst (IsReply q) (sym is) (refl, refl))
    by phase.Over is = let q : PlainPacket = record { kind = IsOver; args = []; copies = h.own.copies; allowance = 0; units = h.units } in (q, refl, subst (IsReply q) (sym is) refl)

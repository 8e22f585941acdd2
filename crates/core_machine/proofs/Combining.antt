-- A branch's copies are combined one after the other.
use Rattle.std.proofs.Common.{◌≡◌, ◌≢◌, ℕ, zero, suc, ◌+◌, ◌<◌, ◌==◌, List, [], ◌∷◌, ◌++◌, length, take, get_or, Bool, true, false, cond, refl, sym, ap, ◌∙◌, subst, ⊎_elim, inl, inr, arith, append_assoc}
use Rattle.std.specs.Prelude.{IsTrue, ◌&&◌, ◌||◌, ◌⊎◌}
use Rattle.forec_kernel.specs.declared.shape.VarCopy.{VarCopy}
use Rattle.forec_kernel.specs.Engine.{run_for}
use Rattle.forec_kernel.specs.Combining.{contains}
use Rattle.forec_kernel.specs.WellFormed.{all_in}
use Rattle.thread_code.specs.Plain.{PlainCode}
use Rattle.thread_code.specs.Machine.{BranchCopy, shares_of, step, code_uses}
use Rattle.thread_state.specs.Kept.{no_copy}
use Rattle.core_machine.specs.declared.branches.Verdict.{Verdict}
use Rattle.core_machine.specs.declared.branches.Verdict.TheVariants as verdict
use Rattle.core_machine.specs.declared.thread.Thread.{Thread}
use Rattle.core_machine.specs.declared.thread.Phase.TheVariants as phase
use Rattle.core_machine.specs.Held.{HoldsInPhase, Joins, IsBranch, some_use}
use Rattle.core_machine.specs.Threads.{Loaded, Exceeds}
use Rattle.core_machine.specs.Merging.{merging_with, GoesOnJoining, ComesByVerdict, Combined}
use Rattle.thread_steps.proofs.Advance.{run_add}
use Rattle.core_machine.proofs.BranchLemmas.{same_self}
use Rattle.thread_state.proofs.Lists.{take_next}
use Rattle.core_machine.proofs.Seeds.{branch_in}

-- ---- lists

both_first : (a b : Bool) → IsTrue (a && b) → IsTrue a × IsTrue b
both_first true true h = (refl, refl)
both_first true false h = cc
both_first false b h = cc

pub in_all : (vs uses : List ℕ) (i : ℕ) → IsTrue (all_in vs uses) → i < length vs → IsTrue (contains (get_or vs i 0) uses)
in_all [] uses i h lt = absurd (omega arith)
in_all (v ∷ vs) uses zero h lt = (both_first (contains v uses) (all_in vs uses) h).0
in_all (v ∷ vs) uses (suc i) h lt = in_all vs uses i (both_first (contains v uses) (all_in vs uses) h).1 (omega arith)

later : (t : Bool) (rest : Bool) → IsTrue rest → IsTrue (cond t true rest)
later true rest h = refl
later false rest h = h

pub nth_in : (vs : List ℕ) (i : ℕ) → i < length vs → IsTrue (contains (get_or vs i 0) vs)
nth_in [] i lt = absurd (omega arith)
nth_in (v ∷ vs) zero lt = subst (λ x. IsTrue (cond x true (contains v vs))) (sym (same_self v)) refl
nth_in (v ∷ vs) (suc i) lt = later (v == get_or vs i 0) (contains (get_or vs i 0) vs) (nth_in vs i (omega arith))

pub some_at : (c : PlainCode) (bs : List ℕ) (v k : ℕ) → k < length bs → IsTrue (contains v (code_uses c (get_or bs k 0))) → some_use c bs v ≡ true
some_at c [] v k lt h = absurd (omega arith)
some_at c (b ∷ bs) v zero lt h = ap (λ x. x || some_use c bs v) h
some_at c (b ∷ bs) v (suc k) lt h = ap (λ x. contains v (code_uses c b) || x) (some_at c bs v k (omega arith) h) ∙ or_true (contains v (code_uses c b))
  where
    or_true : (b : Bool) → (b || true) ≡ true
    or_true true = refl
    or_true false = refl

pub length_shares : (vs : List ℕ) (copies : List VarCopy) → length (shares_of vs copies) ≡ length vs
length_shares [] copies = refl
length_shares (v ∷ vs) [] = ap suc (length_shares vs [])
length_shares (v ∷ vs) (x ∷ copies) = ap suc (length_shares vs copies)

abbrev pub blank_share : BranchCopy
blank_share = record { variable = 0; copy = no_copy }

pub share_at : (vs : List ℕ) (copies : List VarCopy) (i : ℕ) → length copies ≡ length vs → i < length vs → get_or (shares_of vs copies) i blank_share ≡ record { variable = get_or vs i 0; copy = get_or copies i no_copy }
share_at [] copies i e lt = absurd (omega arith)
share_at (v ∷ vs) [] i e lt = absurd (omega (arith, e))
share_at (v ∷ vs) (x ∷ copies) zero e lt = refl
share_at (v ∷ vs) (x ∷ copies) (suc i) e lt = share_at vs copies i (omega (arith, e)) (omega arith)

pub shares_next : (vs : List ℕ) (copies : List VarCopy) (i : ℕ) → length copies ≡ length vs → i < length vs → take (i + 1) (shares_of vs copies) ≡ take i (shares_of vs copies) ++ record { variable = get_or vs i 0; copy = get_or copies i no_copy } ∷ []
shares_next vs copies i e lt = take_next (shares_of vs copies) i blank_share (omega (arith, length_shares vs copies, lt)) ∙ ap (λ s. take i (shares_of vs copies) ++ s ∷ []) (share_at vs copies i e lt)

-- ---- copies one after the other

pub combined_none : (c : PlainCode) (h : Thread) → Loaded c h → h.phase ≡ phase.Joining → h.branches.verdict ≡ verdict.Combine → Combined c h h []
combined_none c h l p e = record {
  on = record { loaded = l; phase = p; number = refl; allowance = refl; numbers = refl; joined = refl };
  runs = λ rest. subst (ComesByVerdict c h (merging_with c h rest) rest) (sym e) (0, refl);
}

module _ (c : PlainCode) (a b d : Thread) (s t : List BranchCopy) (x : Combined c a b s) where
  pub on_then : GoesOnJoining c b d → GoesOnJoining c a d
  on_then y = record {
    loaded = y.loaded;
    phase = y.phase;
    number = y.number ∙ x.on.number;
    allowance = y.allowance ∙ x.on.allowance;
    numbers = y.numbers ∙ x.on.numbers;
    joined = y.joined ∙ x.on.joined;
  }

  runs_then : b.branches.verdict ≡ verdict.Combine → d.number ≡ b.number → (rest : List BranchCopy) (v : Verdict) → ComesByVerdict c d (merging_with c b (t ++ rest)) rest v → ComesByVerdict c d (merging_with c a ((s ++ t) ++ rest)) rest v
  runs_then go n rest v more =
      let k = subst (ComesByVerdict c b (merging_with c a (s ++ (t ++ rest))) (t ++ rest)) go (x.runs (t ++ rest)) in
      let e : run_for (step c d.number) k.0 (merging_with c a ((s ++ t) ++ rest)) ≡ merging_with c b (t ++ rest) =
      ap (λ l. run_for (step c d.number) k.0 (merging_with c a l)) (append_assoc s t rest)
      ∙ subst (λ q. run_for (step c q) k.0 (merging_with c a (s ++ (t ++ rest))) ≡ merging_with c b (t ++ rest)) (sym n) k.1 in
      by v k.0 e more
    where
      by : (v : Verdict) (n : ℕ) → run_for (step c d.number) n (merging_with c a ((s ++ t) ++ rest)) ≡ merging_with c b (t ++ rest) → ComesByVerdict c d (merging_with c b (t ++ rest)) rest v → ComesByVerdict c d (merging_with c a ((s ++ t) ++ rest)) rest v
      by verdict.Combine n e more = (n + more.0, run_add (step c d.number) n more.0 (merging_with c a ((s ++ t) ++ rest)) ∙ ap (run_for (step c d.number) more.0) e ∙ more.1)
      by (verdict.Trap place trap) n e more = (n + more.0, run_add (step c d.number) n more.0 (merging_with c a ((s ++ t) ++ rest)) ∙ ap (run_for (step c d.number) more.0) e ∙ more.1)
      by verdict.Over n e more = (n + more.0, subst (Exceeds d.allowance) (sym (run_add (step c d.number) n more.0 (merging_with c a ((s ++ t) ++ rest)) ∙ ap (run_for (step c d.number) more.0) e)) more.1)

  pub combined_then : b.branches.verdict ≡ verdict.Combine → Combined c b d t → Combined c a d (s ++ t)
  combined_then go y = record { on = on_then y.on; runs = λ rest. runs_then go y.on.number rest d.branches.verdict (y.runs rest) }

-- nothing more is combined
pub combined_stop : (c : PlainCode) (a b : Thread) (s t : List BranchCopy) → Combined c a b s → b.branches.verdict ≢ verdict.Combine → Combined c a b (s ++ t)
combined_stop c a b s t x no_more = record { on = x.on; runs = λ rest. by b.branches.verdict refl rest (x.runs (t ++ rest)) }
  where
    by : (v : Verdict) → b.branches.verdict ≡ v → (rest : List BranchCopy) → ComesByVerdict c b (merging_with c a (s ++ (t ++ rest))) (t ++ rest) b.branches.verdict → ComesByVerdict c b (merging_with c a ((s ++ t) ++ rest)) rest b.branches.verdict
    by verdict.Combine e rest k = absurd (no_more e)
    by (verdict.Trap place trap) e rest k =
        let k' = subst (ComesByVerdict c b (merging_with c a (s ++ (t ++ rest))) (t ++ rest)) e k in
        subst (ComesByVerdict c b (merging_with c a ((s ++ t) ++ rest)) rest) (sym e) (k'.0, ap (λ l. run_for (step c b.number) k'.0 (merging_with c a l)) (append_assoc s t rest) ∙ k'.1)
    by verdict.Over e rest k =
        let k' = subst (ComesByVerdict c b (merging_with c a (s ++ (t ++ rest))) (t ++ rest)) e k in
        subst (ComesByVerdict c b (merging_with c a ((s ++ t) ++ rest)) rest) (sym e) (k'.0, subst (Exceeds b.allowance) (sym (ap (λ l. run_for (step c b.number) k'.0 (merging_with c a l)) (append_assoc s t rest))) k'.1)

-- ---- branches that are joined

module _ (c : PlainCode) (h : Thread) (l : Loaded c h) (joining : h.phase ≡ phase.Joining) where
  pub joins_of : Joins c l.needs h
  joins_of = subst (HoldsInPhase c l.needs h) joining l.placed

  pub joined_branch : (k : ℕ) → k < length h.branches.numbers → IsBranch c h.number (get_or h.branches.numbers k 0)
  joined_branch k lt = branch_in c h.number h.branches.numbers k joins_of.branches lt

pub combine_or_not : (v : Verdict) → (v ≡ verdict.Combine) ⊎ (v ≢ verdict.Combine)
combine_or_not verdict.Combine = inl refl
combine_or_not (verdict.Trap place trap) = inr (λ e. cc)
combine_or_not verdict.Over = inr (λ e. cc)

-- while it goes on, it has gone on so far
pub going_so_far : (h0 h : Thread) → (h0.branches.verdict ≢ verdict.Combine → h ≡ h0) → h.branches.verdict ≡ verdict.Combine → h0.branches.verdict ≡ verdict.Combine
going_so_far h0 h still go = ⊎_elim (λ e. e) (λ n. absurd (n (sym (ap (λ (t : Thread). t.branches.verdict) (still n)) ∙ go))) (combine_or_not h0.branches.verdict)

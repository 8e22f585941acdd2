-- Whatever a trace has, something is told of a log with which each thread but thread 0 agrees.
use Rattle.std.proofs.Common.{ℕ, zero, suc, ◌+◌, ◌<◌, ◌≤◌, ◌≡◌, ◌⊎◌, inl, inr, Bool, true, false, Option, None, Some, List, [], ◌∷◌, ◌++◌, codes, map, length, length-append, refl, sym, ap, subst, ◌∙◌, arith, append_assoc, append-nil}
use Rattle.std.proofs.lemmas.Bool.{cases_lt}
use Rattle.forec_kernel.specs.Composed.{TickInput}
use Rattle.forec_kernel.specs.Engine.{Exchange, Output, pair_all}
use Rattle.forec_kernel.specs.Shapes.{PlainKernel}
use Rattle.forec_kernel.specs.Solo.{KernelAlone}
use Rattle.forec_kernel.specs.Ticks.{TickState, Fresh, Tick, tick, goes_on, run_from}
use Rattle.forec_kernel.specs.WellFormed.{WellFormed, thread_of}
use Rattle.thread_code.specs.Valid.{of_shape}
use Rattle.exchange_meaning.specs.Logged.{Logged, HasBranch, AreTold, told_to}
use Rattle.exchange_meaning.specs.LogOf.{AllButLastPause}
use Rattle.exchange_meaning.specs.Replays.{RunsTicks}
use Rattle.exchange_meaning.specs.Telling.{IsAll}
use Rattle.trace_rows.specs.Trace.{Row}
use Rattle.whole_writes.specs.Calls.{AppendsFront}
use Rattle.trace_ticks.specs.Formats.{format_after}
use Rattle.trace_ticks.specs.KernelNames.{run_format}
use Rattle.trace_ticks.specs.Report.{Report, lines_from, tick_lines, trace_report, trace_turns}
use Rattle.trace_ticks.specs.declared.format.Format.{Format}
use Rattle.trace_ticks.specs.declared.format.Telling.TheVariants as telling
use Rattle.trace_ticks.proofs.Advancing.{run_on, run_stops}
use Rattle.whole_writes.proofs.Appending.{front_longer}
use Rattle.exchange_meaning.proofs.OneMore.{pause_at}
use Rattle.log_runs.specs.ReplayRuns.{AgreesText, IsReplay, Of_left, Of_same, Of_tick, difference_line, differing, replay_ok, ticks_told}
use Rattle.log_runs.proofs.NextTick.{Found, nat_found}
use Rattle.log_runs.proofs.NextTicks.{next_tick}
use Rattle.log_runs.proofs.Pausing.{trace_pauses}

-- ---- the lines of more ticks

runs_more : (k : PlainKernel) (budget : ℕ) (s : TickState) (rows more : List Row) → (rest : List Tick) × (run_from k budget s (rows ++ more) ≡ run_from k budget s rows ++ rest)
runs_more k budget s [] more = (run_from k budget s more, refl)
runs_more k budget s (row ∷ rows) more = by (goes_on (tick k budget s row).outcome) refl (runs_more k budget (tick k budget s row).state rows more)
  where
    by : (b : Bool) → goes_on (tick k budget s row).outcome ≡ b → (rest : List Tick) × (run_from k budget (tick k budget s row).state (rows ++ more) ≡ run_from k budget (tick k budget s row).state rows ++ rest) →
        (rest : List Tick) × (run_from k budget s (row ∷ (rows ++ more)) ≡ run_from k budget s (row ∷ rows) ++ rest)
    by true e ih = (ih.0, run_on k budget s row (rows ++ more) e ∙ ap (λ ts. tick k budget s row ∷ ts) ih.1 ∙ ap (λ ts. ts ++ ih.0) (sym (run_on k budget s row rows e)))
    by false e ih = ([], run_stops k budget s row (rows ++ more) e ∙ sym (run_stops k budget s row rows e) ∙ sym (append-nil (run_from k budget s (row ∷ rows))))

lines_more : (how : Format) (budget n : ℕ) (xs ys : List Tick) → (rest : List ℕ) × (lines_from how budget n (xs ++ ys) ≡ lines_from how budget n xs ++ rest)
lines_more how budget n [] ys = (lines_from how budget n ys, refl)
lines_more how budget n (x ∷ xs) ys =
    let ih = lines_more (format_after how x.outputs) budget (n + 1) xs ys in
    (ih.0, ap (λ l. tick_lines how budget n x ++ l) ih.1 ∙ sym (append_assoc (tick_lines how budget n x) (lines_from (format_after how x.outputs) budget (n + 1) xs) ih.0))

abbrev rows_in : List TickInput → List Row
rows_in turns = map (λ turn. turn.row) turns

rows_append : (xs ys : List TickInput) → rows_in (xs ++ ys) ≡ rows_in xs ++ rows_in ys
rows_append [] ys = refl
rows_append (x ∷ xs) ys = ap (λ rs. x.row ∷ rs) (rows_append xs ys)

told_more : (k : PlainKernel) (budget : ℕ) (before more : List TickInput) → (rest : List ℕ) × (ticks_told k budget (before ++ more) ≡ ticks_told k budget before ++ rest)
told_more k budget before more =
    let how = run_format telling.Report k in
    let runs = runs_more k budget Fresh (rows_in before) (rows_in more) in
    let lines = lines_more how budget 1 (run_from k budget Fresh (rows_in before)) runs.0 in
    (lines.0, ap (λ rs. lines_from how budget 1 (run_from k budget Fresh rs)) (rows_append before more) ∙ ap (lines_from how budget 1) runs.1 ∙ lines.1)

-- ---- jobs that are left

option_found : (o : Option ℕ) → Found (o ≡ Some 0)
option_found None = inr (λ e. cc)
option_found (Some n) = by (nat_found n 0)
  where
    by : Found (n ≡ 0) → Found (Some n ≡ Some 0)
    by (inl e) = inl (ap Some e)
    by (inr other) = inr (λ e. other (one e))
      where
        one : Some n ≡ Some 0 → n ≡ 0
        one e = cc

module _ (limit : ℕ) (k : PlainKernel) (fine : WellFormed k) (below : (t b : ℕ) → HasBranch k.shape t b → (t < b) × (b < length k.shape.threads)) (budget : ℕ) (text bytes : List ℕ) (a : AgreesText k text)
    (own : (xs : List Exchange) (os : List Output) → KernelAlone k 0 xs os → AreTold k.shape 0 (pair_all xs os)) where
  abbrev Root : List TickInput → Type 0
  Root turns = RunsTicks (KernelAlone k) k.shape a.log turns

  abbrev All_to : (turns : List TickInput) → Root turns → ℕ → Type 0
  All_to turns root n = (b : ℕ) → b < n → HasBranch k.shape 0 b → told_to b (pair_all root.tells.exchanges root.tells.outputs) ≡ a.log b

  abbrev Not_all : (turns : List TickInput) → Root turns → Type 0
  Not_all turns root = IsAll k.shape a.log 0 (pair_all root.tells.exchanges root.tells.outputs) → ⊥

  one_more : (turns : List TickInput) (root : Root turns) (n : ℕ) → All_to turns root n → (HasBranch k.shape 0 n → told_to n (pair_all root.tells.exchanges root.tells.outputs) ≡ a.log n) → All_to turns root (suc n)
  one_more turns root n h here b lt m = by (nat_found b n)
    where
      by : Found (b ≡ n) → told_to b (pair_all root.tells.exchanges root.tells.outputs) ≡ a.log b
      by (inl e) = subst (λ i. told_to i (pair_all root.tells.exchanges root.tells.outputs) ≡ a.log i) (sym e) (here (subst (HasBranch k.shape 0) e m))
      by (inr other) = h b (elim (cases_lt b n) [ inl less ↦ less | inr le ↦ absurd (other (omega (arith, le, lt))) ]) m

  used_here : (turns : List TickInput) (root : Root turns) (n : ℕ) (rest : List Logged) → HasBranch k.shape 0 n → a.log n ≡ told_to n (pair_all root.tells.exchanges root.tells.outputs) ++ rest →
      (told_to n (pair_all root.tells.exchanges root.tells.outputs) ≡ a.log n) ⊎ Not_all turns root
  used_here turns root n [] m e = inl (sym (e ∙ append-nil (told_to n (pair_all root.tells.exchanges root.tells.outputs))))
  used_here turns root n (l ∷ ls) m e = inr (λ all.
      let told = told_to n (pair_all root.tells.exchanges root.tells.outputs) in
      let long = length-append told (l ∷ ls) in
      let same = ap length (all n m ∙ e) in omega (arith, long, same))

  used_found : (turns : List TickInput) (root : Root turns) (n : ℕ) → All_to turns root n ⊎ Not_all turns root
  used_found turns root zero = inl (λ b lt m. absurd (omega (arith, lt)))
  used_found turns root (suc n) = by (option_found (thread_of (of_shape k.shape) n).parent) (used_found turns root n)
    where
      by : Found (HasBranch k.shape 0 n) → All_to turns root n ⊎ Not_all turns root → All_to turns root (suc n) ⊎ Not_all turns root
      by f (inr left) = inr left
      by (inr none) (inl h) = inl (one_more turns root n h (λ m. absurd (none m)))
      by (inl m) (inl h) = here (used_here turns root n (root.tells.told n m).rest m (root.tells.told n m).is)
        where
          here : (told_to n (pair_all root.tells.exchanges root.tells.outputs) ≡ a.log n) ⊎ Not_all turns root → All_to turns root (suc n) ⊎ Not_all turns root
          here (inl e) = inl (one_more turns root n h (λ _. e))
          here (inr left) = inr left

  -- ---- what is told, of which a front was written

  module _ (h0 h : Option (List ℕ)) (report : AppendsFront h0 h (trace_report limit (run_format telling.Report k) k budget bytes).bytes) where
    abbrev Told : Type 0
    Told = (r : Report) × IsReplay limit k budget text bytes r × AppendsFront h0 h r.bytes

    abbrev turns_all : List TickInput
    turns_all = trace_turns limit k budget bytes

    at_end : (root : Root turns_all) → Told
    at_end root = by (used_found turns_all root (length k.shape.threads))
      where
        by : All_to turns_all root (length k.shape.threads) ⊎ Not_all turns_all root → Told
        by (inl f) = (
          replay_ok (trace_report limit (run_format telling.Report k) k budget bytes),
          Of_same a.log a.is (record { each = a.each; root = root; used = λ b m. f b (below 0 b m).1 m }) refl,
          front_longer h0 h (trace_report limit (run_format telling.Report k) k budget bytes).bytes (codes "replay ok\n") report,
        )
        by (inr left) = (
          differing (trace_report limit (run_format telling.Report k) k budget bytes).bytes 0 (suc (length turns_all)),
          Of_left a root left refl,
          front_longer h0 h (trace_report limit (run_format telling.Report k) k budget bytes).bytes (difference_line 0 (suc (length turns_all))) report,
        )

    pub some_replay : (later before : List TickInput) → turns_all ≡ before ++ later → Root before → AppendsFront h0 h (ticks_told k budget before) → Told
    some_replay [] before split root lines = at_end (subst Root (sym (split ∙ append-nil before)) root)
    some_replay (turn ∷ later) before split root lines =
        by (next_tick k fine below a.log a.each own before turn root (λ old t e. pause_at k Fresh old t turn later (subst (AllButLastPause k Fresh) (split ∙ ap (λ ts. ts ++ turn ∷ later) e) (trace_pauses limit k budget bytes))))
        (λ more. some_replay later (before ++ turn ∷ []) (split ∙ sym (append_assoc before (turn ∷ []) later)) more
        (let m = told_more k budget before (turn ∷ []) in subst (AppendsFront h0 h) (sym m.1) (front_longer h0 h (ticks_told k budget before) m.0 lines)))
      where
        by : Root (before ++ turn ∷ []) ⊎ (Root (before ++ turn ∷ []) → ⊥) → (Root (before ++ turn ∷ []) → Told) → Told
        by (inl more) go = go more
        by (inr never) go = (
          differing (ticks_told k budget before) 0 (suc (length before)),
          Of_tick a before later turn split root never refl,
          front_longer h0 h (ticks_told k budget before) (difference_line 0 (suc (length before))) lines,
        )

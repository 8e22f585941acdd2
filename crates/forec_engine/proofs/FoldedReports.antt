-- The folded kernel prints what the kernel prints, where no tick of that is over.
use Rattle.std.proofs.Common.{◌≡◌, ◌≢◌, ℕ, ℤ, Bool, true, false, List, [], ◌∷◌, ◌++◌, ◌+◌, Option, Some, None, refl, sym, ap, subst, ◌∙◌}
use Rattle.std.proofs.lemmas.List.{length-map}
use Rattle.forec_base.specs.declared.limits.TheConstants.{MAX_ROWS}
use Rattle.forec_kernel.specs.declared.shape.Outcome.{Outcome}
use Rattle.forec_kernel.specs.declared.shape.Outcome.TheVariants as outcome
use Rattle.forec_kernel.specs.Shapes.{PlainKernel}
use Rattle.forec_kernel.specs.Ticks.{TickState, Fresh, Tick, tick, goes_on, run_from, run_of}
use Rattle.bound_laws.specs.Laws.{NoneOver}
use Rattle.core_alloc.specs.declared.fault.PlaceFault.{PlaceFault}
use Rattle.command_words.specs.Requests.{PlainPlacing, PlainRunning, PlainCommand, Run, Wave, Check, Threads, Code, Explain, OnText}
use Rattle.command_words.specs.declared.request.Budget.{Budget}
use Rattle.command_words.specs.declared.request.Budget.TheVariants as budget
use Rattle.fold_laws.specs.Folding.{fold_stmt, folded_kernel}
use Rattle.fold_laws.specs.Laws.{UpToOver, FoldingKeepsRuns}
use Rattle.text_verdict.specs.declared.counts.Counts.{Counts}
use Rattle.thread_places.specs.Placed.{refusal_of}
use Rattle.trace_rows.specs.Trace.{TraceEnd, trace_of}
use Rattle.trace_ticks.specs.Formats.{opening, format_after}
use Rattle.trace_ticks.specs.KernelNames.{input_names, run_format}
use Rattle.trace_ticks.specs.declared.format.Format.{Format}
use Rattle.trace_ticks.specs.declared.format.Telling.{Telling}
use Rattle.trace_ticks.specs.declared.format.Telling.TheVariants as telling
use Rattle.trace_ticks.specs.Report.{Report, outcome_lines, lines_from, last_outcome, ending, behind_bytes, trace_report}
use Rattle.trace_ticks.specs.declared.status.Status.TheVariants as status
use Rattle.forec_engine.specs.Budgets.{budget_for, with_budget}
use Rattle.forec_engine.specs.Commands.{AcceptedReport, CommandReport, Of_usage, Of_text, Of_workload, Of_dump, TextReport, Of_refusal, Of_accepted, run_report, explain_report, Of_farm, Of_log, Of_replay}
use Rattle.forec_engine.specs.Ends.{running_in}
use Rattle.forec_engine.specs.Laws.{FoldingPrintsTheSame}
use Rattle.forec_engine.specs.Placing.{misplacing, unless_misplaced}
use Rattle.forec_engine.proofs.Reports.{some_same, name_same, command_same, fold_same, never_text, text_no_dump, never_farm, text_no_log, text_no_replay}

-- ---- the ticks of a run whose last one isn't over

last_tail : (t : Tick) (ts : List Tick) → last_outcome (t ∷ ts) ≢ outcome.Over → last_outcome ts ≢ outcome.Over
last_tail t [] h e = cc
last_tail t (u ∷ us) h e = h e

goes_on_over : (o : Outcome) → goes_on o ≡ true → o ≢ outcome.Over
goes_on_over outcome.Paused e o = cc
goes_on_over outcome.Ended e o = cc
goes_on_over (outcome.Trapped place trap) e o = cc
goes_on_over outcome.Over e o = cc

none_over : (k : PlainKernel) (budget : ℕ) (s : TickState) (rows : List (List ℤ)) → last_outcome (run_from k budget s rows) ≢ outcome.Over → NoneOver (run_from k budget s rows)
none_over k budget s [] h = tt
none_over k budget s (row ∷ rows) h = pick (goes_on (tick k budget s row).outcome) refl (none_over k budget (tick k budget s row).state rows) h
  where
    pick : (b : Bool) → goes_on (tick k budget s row).outcome ≡ b →
        (last_outcome (run_from k budget (tick k budget s row).state rows) ≢ outcome.Over → NoneOver (run_from k budget (tick k budget s row).state rows)) →
        last_outcome (elim b [ true ↦ tick k budget s row ∷ run_from k budget (tick k budget s row).state rows | false ↦ tick k budget s row ∷ [] ]) ≢ outcome.Over →
        NoneOver (elim b [ true ↦ tick k budget s row ∷ run_from k budget (tick k budget s row).state rows | false ↦ tick k budget s row ∷ [] ])
    pick true e rest h =
        (goes_on_over (tick k budget s row).outcome e, rest (last_tail (tick k budget s row) (run_from k budget (tick k budget s row).state rows) h))
    pick false e rest h = (h, tt)

-- ---- lines

last_same : (ts ys : List Tick) → NoneOver ts → UpToOver ts ys → last_outcome ys ≡ last_outcome ts
last_same [] ys n u = ap last_outcome u
last_same (t ∷ ts) [] n u = absurd u
last_same (t ∷ []) (y ∷ []) n u = (u n.0).0
last_same (t ∷ []) (y ∷ z ∷ zs) n u = absurd (let bad : z ∷ zs ≡ [] = (u n.0).2 in cc)
last_same (t ∷ v ∷ vs) (y ∷ []) n u = absurd (u n.0).2
last_same (t ∷ v ∷ vs) (y ∷ z ∷ zs) n u = last_same (v ∷ vs) (z ∷ zs) n.1 (u n.0).2

module _ (budget : ℕ) where
  -- the lines of tick n, which went so, and of the ticks after it
  abbrev lines_of : Format → ℕ → List Tick → Outcome → List ℤ → List ℕ
  lines_of how n ts o outputs = outcome_lines how budget n o outputs ++ lines_from (format_after how outputs) budget (n + 1) ts

  lines_same : (how : Format) (n : ℕ) (ts ys : List Tick) → NoneOver ts → UpToOver ts ys → lines_from how budget n ys ≡ lines_from how budget n ts
  lines_same how n [] ys none u = ap (lines_from how budget n) u
  lines_same how n (t ∷ ts) [] none u = absurd u
  lines_same how n (t ∷ ts) (y ∷ ys) none u =
      let same = u none.0 in
      ap (λ (o : Outcome). lines_of how n ys o y.outputs) same.0
      ∙ ap (λ (xs : List ℤ). lines_of how n ys t.outcome xs) same.1
      ∙ ap (λ (xs : List ℕ). outcome_lines how budget n t.outcome t.outputs ++ xs) (lines_same (format_after how t.outputs) (n + 1) ts ys none.1 same.2)

  report_same : (how : Format) (n : ℕ) (end : TraceEnd) (ts ys : List Tick) → NoneOver ts → UpToOver ts ys →
      behind_bytes (lines_from how budget n ys) (ending how (last_outcome ys) end) ≡ behind_bytes (lines_from how budget n ts) (ending how (last_outcome ts) end)
  report_same how n end ts ys none u =
      ap (λ (xs : List ℕ). behind_bytes xs (ending how (last_outcome ys) end)) (lines_same how n ts ys none u)
      ∙ ap (λ (o : Outcome). behind_bytes (lines_from how budget n ts) (ending how o end)) (last_same ts ys none u)

not_over : (how : Format) (o : Outcome) (end : TraceEnd) → (ending how o end).status ≢ status.Over → o ≢ outcome.Over
not_over how o end h e = h (ap (λ (x : Outcome). (ending how x end).status) e)

trace_same : FoldingKeepsRuns → (tells : Telling) (k : PlainKernel) (units : ℕ) (bytes : List ℕ) → (trace_report MAX_ROWS (run_format tells k) k units bytes).status ≢ status.Over →
    trace_report MAX_ROWS (run_format tells (folded_kernel k)) (folded_kernel k) units bytes ≡ trace_report MAX_ROWS (run_format tells k) k units bytes
unfolding trace_report
trace_same keeps tells k units bytes h =
    let how = run_format tells k in
    let trace = trace_of (input_names k) MAX_ROWS bytes in
    let ticks = run_of k units trace.rows in
    ap (behind_bytes (opening how)) (report_same units how 1 trace.end ticks (run_of (folded_kernel k) units trace.rows)
    (none_over k units Fresh trace.rows (not_over how (last_outcome ticks) trace.end h)) (keeps k units trace.rows))

-- ---- commands

misplacing_same : (k : PlainKernel) (placing : PlainPlacing) → misplacing (folded_kernel k) placing ≡ misplacing k placing
misplacing_same k placing = ap (λ n. refusal_of n placing) (length-map k.threads fold_stmt)

unless_same : (o : Option PlaceFault) (r q : Report) → (q.status ≢ status.Over → r ≡ q) → (unless_misplaced o q).status ≢ status.Over → unless_misplaced o r ≡ unless_misplaced o q
unless_same None r q same h = same h
unless_same (Some why) r q same h = refl

module _ (keeps : FoldingKeepsRuns) (k : PlainKernel) (bytes : List ℕ) (units : ℕ) where
  module _ (tells : Telling) where
    abbrev told_by : PlainKernel → ℕ → Report
    told_by m u = trace_report MAX_ROWS (run_format tells m) m u bytes

    run_same : (running : PlainRunning) → running.budget ≡ budget.Units units → (run_report tells k running bytes).status ≢ status.Over → run_report tells (folded_kernel k) running bytes ≡ run_report tells k running bytes
    run_same running e h =
        let so : run_report tells k running bytes ≡ unless_misplaced (misplacing k running.placing) (told_by k units) =
        ap (λ b. with_budget (budget_for k b) (λ u. unless_misplaced (misplacing k running.placing) (told_by k u))) e in
        ap (λ b. with_budget (budget_for (folded_kernel k) b) (λ u. unless_misplaced (misplacing (folded_kernel k) running.placing) (told_by (folded_kernel k) u))) e
        ∙ ap (λ o. unless_misplaced o (told_by (folded_kernel k) units)) (misplacing_same k running.placing)
        ∙ unless_same (misplacing k running.placing) (told_by (folded_kernel k) units) (told_by k units) (trace_same keeps tells k units bytes) (subst (λ (r : Report). r.status ≢ status.Over) so h)
        ∙ sym so

  explain_same : (b : Budget) → b ≡ budget.Units units → (explain_report k b bytes).status ≢ status.Over → explain_report (folded_kernel k) b bytes ≡ explain_report k b bytes
  explain_same b e h =
      let so : explain_report k b bytes ≡ told_by telling.Report k units = ap (λ c. explain_report k c bytes) e in
      ap (λ c. explain_report (folded_kernel k) c bytes) e ∙ trace_same keeps telling.Report k units bytes (subst (λ (r : Report). r.status ≢ status.Over) so h) ∙ sym so

is_so : (r q : Report) → r ≡ q → r.status ≢ status.Over → q.status ≢ status.Over
is_so r q e h = subst (λ (x : Report). x.status ≢ status.Over) e h

accepted_same : FoldingKeepsRuns → (command : PlainCommand) (running : PlainRunning) (units : ℕ) → running_in command ≡ Some running → running.budget ≡ budget.Units units →
    (trace : Option (List ℕ)) (c : Counts) (k : PlainKernel) (r : Report) → r.status ≢ status.Over → AcceptedReport command trace c k r → AcceptedReport command trace c (folded_kernel k) r
accepted_same keeps (Run also) running units runs e trace c k r h x =
    let same : also.budget ≡ budget.Units units = ap (λ (y : PlainRunning). y.budget) (some_same also running runs) ∙ e in
    (x.0, x.1, x.2 ∙ sym (run_same keeps k x.0 units telling.Report also same (is_so r (run_report telling.Report k also x.0) x.2 h)))
accepted_same keeps (Wave also) running units runs e trace c k r h x =
    let same : also.budget ≡ budget.Units units = ap (λ (y : PlainRunning). y.budget) (some_same also running runs) ∙ e in
    (x.0, x.1, x.2 ∙ sym (run_same keeps k x.0 units telling.Wave also same (is_so r (run_report telling.Wave k also x.0) x.2 h)))
accepted_same keeps Check running units runs e trace c k r h x = absurd (let bad : None ≡ Some running = runs in cc)
accepted_same keeps (Threads placing) running units runs e trace c k r h x = absurd (let bad : None ≡ Some running = runs in cc)
accepted_same keeps (Explain b order) running units runs e trace c k r h x =
    let same : b ≡ budget.Units units = ap (λ (y : PlainRunning). y.budget) (some_same _ running runs) ∙ e in
    (x.0, x.1, x.2 ∙ sym (explain_same keeps k x.0 units b same (is_so r (explain_report k b x.0) x.2 h)))
accepted_same keeps Code running units runs e trace c k r h x = absurd (let bad : None ≡ Some running = runs in cc)

text_same : (text : List ℕ) (Says Also : Counts → PlainKernel → Report → Type 0) (r : Report) → ((c : Counts) (k : PlainKernel) → Says c k r → Also c k r) → TextReport text Says r → TextReport text Also r
text_same text Says Also r same (Of_refusal why j e) = Of_refusal why j e
text_same text Says Also r same (Of_accepted c k j x) = Of_accepted c k j (same c k x)

-- ---- words

never_nothing : (n : List ℕ) (c : PlainCommand) (a : Bool) → None ≡ Some (OnText n c a) → ⊥
never_nothing n c a e = cc

pub prints_the_same : FoldingKeepsRuns → FoldingPrintsTheSame
prints_the_same keeps words folding content trace r d (Of_usage n e) h = absurd (never_nothing d.name d.command false (sym n ∙ d.plain))
prints_the_same keeps words folding content trace r d (Of_text name command fold text n t x) h =
    let pairs : Some (OnText name command fold) ≡ Some (OnText d.name d.command false) = sym n ∙ d.plain in
    let names = name_same name d.name command d.command fold false pairs in
    let here : TextReport text (CommandReport d.command false trace) r =
    subst (λ y. TextReport text (CommandReport d.command y trace) r) (fold_same name d.name command d.command fold false pairs)
    (subst (λ y. TextReport text (CommandReport y fold trace) r) (command_same name d.name command d.command fold false pairs) x) in
    Of_text d.name d.command true text d.folded (sym (ap content names) ∙ t)
    (text_same text (CommandReport d.command false trace) (CommandReport d.command true trace) r
    (λ c k y. accepted_same keeps d.command d.running d.units d.runs d.limited trace c k r h y) here)
prints_the_same keeps words folding content trace r d (Of_dump name n x) h = absurd (text_no_dump d.name d.command false name (sym d.plain ∙ n))
prints_the_same keeps words folding content trace r d (Of_workload threads running n x) h = absurd (never_text d.name d.command false threads running (sym d.plain ∙ n))
prints_the_same keeps words folding content trace r d (Of_replay name log b text n t x) h = absurd (text_no_replay d.name d.command false name log b (sym d.plain ∙ n))
prints_the_same keeps words folding content trace r d (Of_log name running text n t x) h = absurd (text_no_log d.name d.command false name running (sym d.plain ∙ n))
prints_the_same keeps words folding content trace r d (Of_farm name traces b text n t x) h = absurd (never_farm d.name d.command false name traces b (sym d.plain ∙ n))

-- What a farm prints.
use Rattle.std.proofs.Common.{◌≡◌, ℕ, Bool, true, false, List, [], ◌∷◌, Option, Some, None, Vec, Global, map, refl, sym, ap, subst, ◌∙◌}
use Rattle.std.proofs.Math.Path.{fun_ext}
use Rattle.std.specs.Option.{IfSome}
use Rattle.std.specs.Io.KnownBytes.{Appends}
use Rattle.std.proofs.lemmas.Simd.{map-map}
use Rattle.forec_base.specs.Outside.{Fell}
use Rattle.forec_kernel.specs.Shapes.{PlainKernel}
use Rattle.forec_kernel.specs.Ticks.{Fresh, run_from}
use Rattle.forec_kernel.specs.declared.shape.Outcome.{Outcome}
use Rattle.forec_kernel.specs.declared.shape.Outcome.TheVariants as outcome
use Rattle.command_words.specs.declared.request.Budget.{Budget}
use Rattle.text_verdict.specs.declared.counts.Counts.{Counts}
use Rattle.trace_farm.specs.Farm.{NumberedReport, with_number, plain_report, report_of}
use Rattle.trace_farm.specs.declared.farm_report.FarmReport.{FarmReport}
use Rattle.trace_rows.specs.Trace.{TraceEnd, trace_of}
use Rattle.trace_rows.specs.declared.fault.RowFault.{RowFault}
use Rattle.whole_writes.specs.Calls.{AppendsFront}
use Rattle.trace_ticks.specs.Ends.{IsOwn}
use Rattle.trace_ticks.specs.KernelNames.{input_names, run_format}
use Rattle.trace_ticks.specs.declared.format.Format.{Format}
use Rattle.trace_ticks.specs.declared.format.Telling.TheVariants as telling
use Rattle.trace_ticks.specs.Prints.{Prints, PrintsReport}
use Rattle.trace_ticks.specs.Report.{Report, last_outcome, end_of_trace, ending, trace_report}
use Rattle.trace_ticks.specs.StatusNumbers.{status_number}
use Rattle.trace_ticks.specs.declared.status.Status.{Status}
use Rattle.trace_ticks.specs.declared.status.Status.TheVariants as status
use Rattle.trace_ticks.proofs.Printing.{prints_all, prints_front, prints_as}
use Rattle.forec_engine.specs.Budgets.{budget_for, boundless, with_budget, IsBoundless}
use Rattle.forec_engine.specs.Commands.{Of_accepted, IsProgram}
use Rattle.forec_engine.specs.Ends.{AcceptedSo}
use Rattle.forec_engine.specs.Farms.{groups, worst, farm_report, TellsTexts, TellsFarm}
use Rattle.forec_engine.specs.Farming.{told_all, AreRead, IsRunStatus, AreRun, reports_of, whole_report, IsFarmReport, IsKernelFarm, IsNamedFarm}
use Rattle.forec_engine.specs.declared.farm_traces.TheConstants.{FARM_ROWS}
use Rattle.forec_engine.proofs.FarmReading.{reports_are, told_are}
use Rattle.forec_engine.proofs.FarmStatuses.{worst_runs}
use Rattle.forec_engine.proofs.Named.{told_program, of_program}

-- ---- statuses

run_own : (s : Status) → IsRunStatus s → IsOwn s
run_own status.Done h = tt
run_own status.Usage h = absurd h
run_own status.Refused h = tt
run_own status.Trace h = tt
run_own status.Trapped h = tt
run_own status.Over h = tt
run_own status.ReadFault h = h
run_own status.WriteFault h = h
run_own status.NoMemory h = h
run_own status.Full h = absurd h

run_used : (s : Status) → IsRunStatus s → s ≡ status.Usage → ⊥
run_used s h e = subst IsRunStatus e h

end_runs : (how : Format) (f : Option RowFault) (n : ℕ) → IsRunStatus (end_of_trace how f n).status
end_runs how None n = tt
end_runs how (Some f) n = tt

ending_runs : (how : Format) (o : Outcome) (end : TraceEnd) → IsRunStatus (ending how o end).status
ending_runs how outcome.Paused end = end_runs how end.cause end.line
ending_runs how outcome.Ended end = tt
ending_runs how (outcome.Trapped place trap) end = tt
ending_runs how outcome.Over end = tt

report_runs : (rows : ℕ) (how : Format) (k : PlainKernel) (units : ℕ) (bytes : List ℕ) → IsRunStatus (trace_report rows how k units bytes).status
unfolding trace_report
report_runs rows how k units bytes =
    let trace = trace_of (input_names k) rows bytes in ending_runs how (last_outcome (run_from k units Fresh trace.rows)) trace.end

numbers_are : (rs : List Report) → map (λ (r : NumberedReport). r.status) (map with_number rs) ≡ map status_number (map (λ (r : Report). r.status) rs)
numbers_are [] = refl
numbers_are (r ∷ rs) = ap (λ (ns : List ℕ). status_number r.status ∷ ns) (numbers_are rs)

-- ---- runs

module _ (k : PlainKernel) (units : ℕ) where
  pub all_run : (longs : List Bool) (bytes : List (List ℕ)) → AreRun (reports_of k units longs bytes)
  all_run [] bytes = tt
  all_run (l ∷ ls) [] = tt
  all_run (true ∷ ls) (b ∷ bs) = (tt, all_run ls bs)
  all_run (false ∷ ls) (b ∷ bs) = (report_runs FARM_ROWS (run_format telling.Report k) k units b, all_run ls bs)

  -- what is told of the reports that a farm gave
  pub farm_told : (longs : List Bool) (reports : List FarmReport) (traces : List (Vec ℕ Global)) → map plain_report reports ≡ map (λ t. report_of FARM_ROWS k units t.items) traces →
      told_all longs (map plain_report reports) ≡ map with_number (reports_of k units longs (map (λ v. v.items) traces))
  farm_told longs reports traces are =
      ap (told_all longs) (are ∙ sym (map-map (λ (text : List ℕ). with_number (trace_report FARM_ROWS (run_format telling.Report k) k units text)) (λ (v : Vec ℕ Global). v.items) traces))
      ∙ told_are k units longs (map (λ v. v.items) traces)

module _ {K : Type 0} (held : K → Option (List ℕ)) (lost : K → ℕ) (is_down : K → Bool) (out out' : K) where
  -- ---- reports

  module _ (names : List (List ℕ)) (rs : List Report) (run : AreRun rs) (told : List NumberedReport) (are : told ≡ map with_number rs) where
    pub farm_printed : (s : Status) → ((ss : List Status) → map (λ (r : NumberedReport). r.status) told ≡ map status_number ss → s ≡ worst ss) → Appends (held out) (held out') (groups names told) →
        PrintsReport held lost is_down (whole_report names rs) ⊥ out out' s
    farm_printed s is bytes =
        let same : s ≡ worst (map (λ (r : Report). r.status) rs) = is (map (λ (r : Report). r.status) rs) (ap (map (λ (r : NumberedReport). r.status)) are ∙ numbers_are rs) in
        let ran : IsRunStatus s = subst IsRunStatus (sym same) (worst_runs rs run) in
        prints_all held lost is_down Unit (λ q. q ≡ whole_report names rs) ⊥ ⊥ ⊥ out out' s (run_own s ran) (run_used s ran)
        (λ _. (whole_report names rs, refl, record { status = same; bytes = subst (λ (ts : List NumberedReport). Appends (held out) (held out') (groups names ts)) are bytes }))

    pub farm_front : Fell (lost out) (lost out') (is_down out') → AppendsFront (held out) (held out') (groups names told) → PrintsReport held lost is_down (whole_report names rs) ⊥ out out' status.WriteFault
    farm_front fell front =
        prints_front held lost is_down Unit (λ q. q ≡ whole_report names rs) ⊥ ⊥ ⊥ out out' fell
        (λ _. (whole_report names rs, refl, subst (λ (ts : List NumberedReport). AppendsFront (held out) (held out') (groups names ts)) are front))

  -- ---- texts

  module _ (content : List ℕ → Option (List ℕ)) (names : List (List ℕ)) (Lost : Type 0) (end : Status) where
    pub run_printed : (k : PlainKernel) (units : ℕ) (longs : List Bool) (bytes : List (List ℕ)) → AreRead content names longs bytes →
        PrintsReport held lost is_down (whole_report names (reports_of k units longs bytes)) ⊥ out out' end →
        Prints held lost is_down (TellsTexts content names) (IsFarmReport content names k units) ⊥ Lost ⊥ out out' end
    run_printed k units longs bytes read p =
        prints_as held lost is_down _ _ _ _ _ out out' _ _ _ _ _ end (λ t. tt)
        (λ t r is. (t.0, t.1, is ∙ ap (whole_report names) (reports_are k units content names longs bytes t.0 read t.1))) (λ n. n) (λ n. absurd n) (λ n. n) p

    module _ (k : PlainKernel) (b : Budget) where
      pub kernel_bounded : (units : ℕ) → budget_for k b ≡ Some units → Prints held lost is_down (TellsTexts content names) (IsFarmReport content names k units) ⊥ Lost ⊥ out out' end →
          Prints held lost is_down (TellsTexts content names) (IsKernelFarm content names b k) (IsBoundless k b) Lost ⊥ out out' end
      kernel_bounded units e p =
          prints_as held lost is_down _ _ _ _ _ out out' _ _ _ _ _ end (λ t. t)
          (λ t r is. (is.0, is.1, is.2 ∙ sym (ap (λ x. with_budget x (λ u. farm_report k u names is.0)) e))) (λ n. absurd n) (λ u. u) (λ n. n) p

      pub kernel_boundless : IsBoundless k b → PrintsReport held lost is_down boundless Unit out out' end →
          Prints held lost is_down (TellsTexts content names) (IsKernelFarm content names b k) (IsBoundless k b) Lost ⊥ out out' end
      kernel_boundless none p =
          prints_as held lost is_down _ _ _ _ _ out out' _ _ _ _ _ end (λ t. tt)
          (λ t r is. (t.0, t.1, is ∙ sym (ap (λ x. with_budget x (λ u. farm_report k u names t.0)) none))) (λ _. none) (λ n. absurd n) (λ n. n) p

      -- the store's contents are the same once the program was read, and a fault of a later call is one of all calls
      pub farm_accepted : (name : List ℕ) (counts : Counts) (other : List ℕ → Option (List ℕ)) → ((n : List ℕ) → other n ≡ content n) → (Less : Type 0) → (Less → Lost) → IsProgram (content name) counts k →
          Prints held lost is_down (TellsTexts other names) (IsKernelFarm other names b k) (IsBoundless k b) Less ⊥ out out' end →
          Prints held lost is_down (TellsFarm content name names) (IsNamedFarm content name names b) (IfSome (content name) (AcceptedSo (λ k. IsBoundless k b))) Lost ⊥ out out' end
      farm_accepted name counts other same Less more program p =
          prints_as held lost is_down _ _ _ _ _ out out' _ _ _ _ _ end (λ t. t.2) (λ t r is. (t.0, t.1, Of_accepted counts k (told_program (content name) counts k program t.0 t.1) is))
          (λ m. of_program (content name) counts k program _ (λ x j. (counts, k, j, m))) more (λ n. n)
          (subst (λ (c : List ℕ → Option (List ℕ)). Prints held lost is_down (TellsTexts c names) (IsKernelFarm c names b k) (IsBoundless k b) Less ⊥ out out' end) (fun_ext same) p)

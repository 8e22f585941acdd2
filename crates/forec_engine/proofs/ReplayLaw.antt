-- `replay ok` is told of the log of the run alone.
use Rattle.std.proofs.Common.{◌≡◌, ◌≢◌, ◌≤◌, ℕ, Bool, true, false, cond, if◌then◌else◌, nat_lt, List, [], ◌∷◌, Option, Some, None, length, refl, sym, ap, subst, ◌∙◌}
use Rattle.std.specs.Prelude.{◌↔◌}
use Rattle.std.specs.List.{AllByRecursion}
use Rattle.std.proofs.lemmas.Bool.{ltb-false}
use Rattle.forec_base.specs.declared.limits.TheConstants.{MAX_BUDGET, MAX_ROWS}
use Rattle.forec_kernel.specs.Composed.{TickInput}
use Rattle.forec_kernel.specs.Shapes.{PlainKernel}
use Rattle.forec_kernel.specs.Solo.{KernelAlone}
use Rattle.forec_kernel.specs.Ticks.{TickState, Fresh, tick, goes_on, run_from}
use Rattle.forec_kernel.specs.WellFormed.{WellFormed}
use Rattle.forec_kernel.specs.declared.shape.Outcome.{Outcome}
use Rattle.forec_kernel.specs.declared.shape.Outcome.TheVariants as outcome
use Rattle.command_words.specs.Requests.{OnReplay}
use Rattle.command_words.specs.declared.request.Budget.{Budget}
use Rattle.command_words.specs.declared.request.Budget.TheVariants as budget
use Rattle.code_gen.specs.Blocks.{kernel_code}
use Rattle.code_gen.proofs.Valid.{kernel_code_valid}
use Rattle.code_gen.proofs.Stands.{kernel_code_stands}
use Rattle.exchange_meaning.specs.LogLines.{IsLogText}
use Rattle.exchange_meaning.specs.LogOf.{LogOfTicks}
use Rattle.exchange_meaning.specs.Logged.{ExchangeLog}
use Rattle.exchange_meaning.specs.OfShape.{IsOfShape}
use Rattle.exchange_meaning.specs.Replays.{IsReplayed}
use Rattle.exchange_meaning.proofs.Replayed.{logged_of, replayed_of}
use Rattle.log_laws.specs.Laws.{AcceptedTextsHaveFittingLogs}
use Rattle.log_ranges.specs.Laws.{TurnFits}
use Rattle.log_runs.specs.Laws.{RunHasOneReplay}
use Rattle.log_runs.specs.ReplayRuns.{IsReplay, Of_no_log, Of_thread, Of_tick, Of_left, Of_same, replay_ok}
use Rattle.log_runs.proofs.KernelLogs.{below, parents}
use Rattle.log_runs.specs.declared.replaying.TheConstants.{MAX_LOG_BYTES}
use Rattle.text_verdict.specs.Laws.{OneVerdict, AcceptedTextsAreFormed}
use Rattle.tick_bounds.specs.Bound.{worst_case}
use Rattle.trace_rows.specs.Trace.{TraceEnd, Row, trace_of}
use Rattle.trace_rows.specs.declared.fault.RowFault.{RowFault}
use Rattle.trace_ticks.specs.KernelNames.{input_names, run_format}
use Rattle.trace_ticks.specs.Report.{Report, last_outcome, end_of_trace, ending, trace_report, trace_turns, turns_from}
use Rattle.trace_ticks.specs.declared.format.Format.{Format}
use Rattle.trace_ticks.specs.declared.format.Telling.TheVariants as telling
use Rattle.trace_ticks.specs.declared.status.Status.TheVariants as status
use Rattle.value_ranges.specs.Words.{AreWords}
use Rattle.wave_laws.proofs.Rows.{trace_good}
use Rattle.forec_engine.specs.Budgets.{budget_for, IsSmallBudget}
use Rattle.forec_engine.specs.Commands.{Of_refusal, Of_accepted, TextReport, Of_usage, Of_text, Of_workload, Of_farm, Of_log, Of_replay, Of_dump, IsReport}
use Rattle.forec_engine.specs.Laws.{ReplaysSo, ReplayOkIsTheLog}
use Rattle.forec_engine.specs.Replays.{ReplayReport, Of_no_bound, Of_long_log, Of_replayed, AcceptedReplay}
use Rattle.forec_engine.proofs.Bounds.{ranges}
use Rattle.forec_engine.proofs.Reports.{some_same, never_none, never_both, kernel_same, no_units, too_many, log_short, units_same, text_no_replay, workload_no_replay, farm_no_replay, log_no_replay, replay_no_dump, replay_name_same, replay_log_same, replay_budget_same}

-- ---- no report of a run is a refusal

end_not : (how : Format) (f : Option RowFault) (n : ℕ) → (end_of_trace how f n).status ≢ status.Refused
end_not how None n e = cc
end_not how (Some f) n e = cc

ending_not : (how : Format) (o : Outcome) (end : TraceEnd) → (ending how o end).status ≢ status.Refused
ending_not how outcome.Paused end = end_not how end.cause end.line
ending_not how outcome.Ended end = λ e. cc
ending_not how (outcome.Trapped place trap) end = λ e. cc
ending_not how outcome.Over end = λ e. cc

report_not : (rows : ℕ) (how : Format) (k : PlainKernel) (units : ℕ) (bytes : List ℕ) → (trace_report rows how k units bytes).status ≢ status.Refused
unfolding trace_report
report_not rows how k units bytes =
    let trace = trace_of (input_names k) rows bytes in ending_not how (last_outcome (run_from k units Fresh trace.rows)) trace.end

-- ---- what is told of such words

report_told : (k : PlainKernel) (b : Budget) (units : ℕ) (lines bytes : List ℕ) (r : Report) → budget_for k b ≡ Some units → length lines ≤ MAX_LOG_BYTES → ReplayReport k b lines bytes r →
    IsReplay MAX_ROWS k units lines bytes r
report_told k b units lines bytes r bounded short (Of_no_bound n e) = absurd (no_units (budget_for k b) units n bounded)
report_told k b units lines bytes r bounded short (Of_long_log u n l e) = absurd (too_many (length lines) l short)
report_told k b units lines bytes r bounded short (Of_replayed u n s e) = subst (λ w. IsReplay MAX_ROWS k w lines bytes r) (units_same (budget_for k b) u units n bounded) e

module _ (one : OneVerdict) (words : List (List ℕ)) (content : List ℕ → Option (List ℕ)) (trace : Option (List ℕ)) (k : PlainKernel) (units : ℕ) (lines bytes : List ℕ)
    (so : ReplaysSo words content trace k units lines bytes) where
  of_text : (r : Report) → TextReport so.text (AcceptedReplay content so.log so.budget trace) r → IsReplay MAX_ROWS k units lines bytes r
  of_text r (Of_refusal why j e) = absurd (never_both why so.counts k (one so.text _ _ j so.judged))
  of_text r (Of_accepted c l j x) =
      let kernels = kernel_same c so.counts l k (one so.text _ _ j so.judged) in
      let texts = some_same x.0 lines (sym x.2 ∙ so.told) in
      let traces = some_same x.1 bytes (sym x.3 ∙ so.over) in
      report_told k so.budget units lines bytes r so.bounded so.short
      (subst (λ t. ReplayReport k so.budget lines t r) traces (subst (λ t. ReplayReport k so.budget t x.1 r) texts (subst (λ m. ReplayReport m so.budget x.0 x.1 r) kernels x.4)))

  is_replay : (r : Report) → IsReport words content trace r → IsReplay MAX_ROWS k units lines bytes r
  is_replay r (Of_usage n e) = absurd (never_none _ (sym n ∙ so.asks))
  is_replay r (Of_text name command fold text n c t) = absurd (text_no_replay name command fold so.name so.log so.budget (sym n ∙ so.asks))
  is_replay r (Of_workload threads running n t) = absurd (workload_no_replay threads running so.name so.log so.budget (sym n ∙ so.asks))
  is_replay r (Of_farm name traces b text n c t) = absurd (farm_no_replay name traces b so.name so.log so.budget (sym n ∙ so.asks))
  is_replay r (Of_log name running text n c t) = absurd (log_no_replay name running so.name so.log so.budget (sym n ∙ so.asks))
  is_replay r (Of_dump dump n t) = absurd (replay_no_dump so.name so.log so.budget dump (sym so.asks ∙ n))
  is_replay r (Of_replay name log b text n c t) =
      let e = sym n ∙ so.asks in
      let texts : text ≡ so.text = some_same text so.text (sym c ∙ ap content (replay_name_same name so.name log so.log b so.budget e) ∙ so.program) in
      of_text r (subst (λ x. TextReport x (AcceptedReplay content so.log so.budget trace) r) texts
      (subst (λ x. TextReport text (AcceptedReplay content x so.budget trace) r) (replay_log_same name so.name log so.log b so.budget e)
      (subst (λ x. TextReport text (AcceptedReplay content log x trace) r) (replay_budget_same name so.name log so.log b so.budget e) t)))

-- ---- `replay ok`

-- a log is that of a kernel's ticks exactly where it is replayed by the kernel's threads
replays : (k : PlainKernel) → WellFormed k → (turns : List TickInput) (log : ExchangeLog) → IsReplayed (KernelAlone k) k.shape turns log ↔ LogOfTicks k turns log
replays k fine turns log = (logged_of k fine (below k fine) log turns, replayed_of k fine (below k fine) (parents k fine) log turns)

ok_status : (r : Report) (rows : ℕ) (how : Format) (k : PlainKernel) (units : ℕ) (bytes : List ℕ) → r ≡ replay_ok (trace_report rows how k units bytes) → r.status ≡ status.Refused → ⊥
ok_status r rows how k units bytes e refused = report_not rows how k units bytes (sym (ap (λ (x : Report). x.status) e) ∙ refused)

ok_told : (k : PlainKernel) → WellFormed k → (units : ℕ) (lines bytes : List ℕ) (r : Report) → r ≡ replay_ok (trace_report MAX_ROWS (run_format telling.Report k) k units bytes) →
    IsReplay MAX_ROWS k units lines bytes r → IsLogText k (trace_turns MAX_ROWS k units bytes) lines
ok_told k formed units lines bytes r ok (Of_no_log n bad e) = absurd (ok_status r _ _ k units bytes ok (ap (λ (x : Report). x.status) e))
ok_told k formed units lines bytes r ok (Of_thread log t m is fails e) = absurd (ok_status r _ _ k units bytes ok (ap (λ (x : Report). x.status) e))
ok_told k formed units lines bytes r ok (Of_tick a before later turn split runs differs e) = absurd (ok_status r _ _ k units bytes ok (ap (λ (x : Report). x.status) e))
ok_told k formed units lines bytes r ok (Of_left a root unused e) = absurd (ok_status r _ _ k units bytes ok (ap (λ (x : Report). x.status) e))
ok_told k formed units lines bytes r ok (Of_same log is replayed e) =
    record { log = log; is = (replays k formed (trace_turns MAX_ROWS k units bytes) log).0 replayed; text = is.text }

-- of `replay ok` the log is the run's
pub ok_is_the_log : OneVerdict → AcceptedTextsAreFormed → (words : List (List ℕ)) (content : List ℕ → Option (List ℕ)) (trace : Option (List ℕ)) (k : PlainKernel)
    (units : ℕ) (lines bytes : List ℕ) (r : Report) → ReplaysSo words content trace k units lines bytes → IsReport words content trace r →
    r ≡ replay_ok (trace_report MAX_ROWS (run_format telling.Report k) k units bytes) → IsLogText k (trace_turns MAX_ROWS k units bytes) lines
ok_is_the_log one formed words content trace k units lines bytes r so is ok =
    ok_told k (formed so.text so.counts k so.judged) units lines bytes r ok (is_replay one words content trace k units lines bytes so r is)

-- ---- the log of an accepted program's run over a trace is one of the program's shape

small_units : (n units : ℕ) (b : Bool) → nat_lt MAX_BUDGET n ≡ b → cond b None (Some n) ≡ Some units → units ≤ MAX_BUDGET
small_units n units true e f = absurd (let bad : None ≡ Some units = f in cc)
small_units n units false e f = subst (λ m. m ≤ MAX_BUDGET) (some_same n units f) (ltb-false MAX_BUDGET n e)

units_small : (k : PlainKernel) (b : Budget) (units : ℕ) → IsSmallBudget b → budget_for k b ≡ Some units → units ≤ MAX_BUDGET
units_small k (budget.Units most) units small e = subst (λ m. m ≤ MAX_BUDGET) (some_same most units e) small
units_small k budget.Bound units small e = small_units (worst_case k) units (nat_lt MAX_BUDGET (worst_case k)) refl e

module _ (k : PlainKernel) (units : ℕ) (small : units ≤ MAX_BUDGET) where
  turns_fit : (s : TickState) (rows : List Row) → AllByRecursion AreWords rows → AllByRecursion TurnFits (turns_from k units s rows)
  turns_fit s [] h = tt
  turns_fit s (row ∷ rows) h =
      let t = tick k units s row in (record { row = h.0; budget = small }, by (goes_on t.outcome) (turns_fit t.state rows h.1))
    where
      by : (b : Bool) → AllByRecursion TurnFits (turns_from k units (tick k units s row).state rows) →
          AllByRecursion TurnFits (if b then turns_from k units (tick k units s row).state rows else [])
      by true g = g
      by false g = tt

  trace_fits : (bytes : List ℕ) → AllByRecursion TurnFits (trace_turns MAX_ROWS k units bytes)
  unfolding trace_turns
  trace_fits bytes = turns_fit Fresh (trace_of (input_names k) MAX_ROWS bytes).rows (trace_good (input_names k) MAX_ROWS bytes).words

pub ok_exactly : OneVerdict → AcceptedTextsAreFormed → RunHasOneReplay → AcceptedTextsHaveFittingLogs → ReplayOkIsTheLog
ok_exactly one formed same fit words content trace k units lines bytes r so is = (
  ok_is_the_log one formed words content trace k units lines bytes r so is,
  λ log. same MAX_ROWS k fine units lines bytes (log_short (length lines) so.short) r (replay_ok (trace_report MAX_ROWS (run_format telling.Report k) k units bytes))
      (is_replay one words content trace k units lines bytes so r is)
      (Of_same log.log (record { fits = fits log.log log.is; text = log.text }) ((replays k fine (trace_turns MAX_ROWS k units bytes) log.log).1 log.is) refl),
)
  where
    fine : WellFormed k
    fine = formed so.text so.counts k so.judged

    fits : (log : ExchangeLog) → LogOfTicks k (trace_turns MAX_ROWS k units bytes) log → IsOfShape k.shape log
    fits log is =
        fit so.text so.counts k so.judged (kernel_code k) (kernel_code_valid k fine) (kernel_code_stands k fine) (trace_turns MAX_ROWS k units bytes) log is
        (trace_fits k units (units_small k so.budget units (ranges words (OnReplay so.name so.log so.budget) so.asks) so.bounded) bytes)

-- What is told of a trace, by how the walk over it ended.
use Rattle.std.proofs.Common.{◌≡◌, ◌≢◌, ◌≤◌, ◌<◌, ◌+◌, ◌↔◌, ℕ, suc, Bool, true, false, List, [], ◌∷◌, ◌++◌, Option, Some, None, inr, codes, length, refl, sym, ap, subst, ◌∙◌, arith, append_assoc}
use Rattle.forec_kernel.specs.Composed.{TickInput}
use Rattle.forec_kernel.specs.Engine.{Exchange, Output, pair_all}
use Rattle.forec_kernel.specs.Shapes.{PlainShape, PlainKernel}
use Rattle.forec_kernel.specs.Solo.{KernelAlone}
use Rattle.thread_code.specs.Plain.{PlainCode}
use Rattle.exchange_meaning.specs.Logged.{ExchangeLog, AreTold}
use Rattle.exchange_meaning.specs.Replays.{RunsTicks}
use Rattle.exchange_meaning.specs.Telling.{IsAll}
use Rattle.exchange_meaning.proofs.OwnBranches.{all_mine}
use Rattle.exchange_replay.specs.Rooted.{HasReplayed, UsesAll}
use Rattle.exchange_replay.specs.declared.replayer.Replayer.{Replayer}
use Rattle.log_text.specs.Fronts.{IsLogOf}
use Rattle.log_text.specs.declared.log.Log.{Log}
use Rattle.trace_rows.specs.SourceReads.{ReadsBytes, none}
use Rattle.trace_ticks.specs.KernelNames.{run_format}
use Rattle.trace_ticks.specs.Led.{IsTold}
use Rattle.trace_ticks.specs.Prints.{PrintsReport}
use Rattle.trace_ticks.specs.Report.{Report, trace_report, trace_turns}
use Rattle.trace_ticks.specs.declared.format.Format.{Format}
use Rattle.trace_ticks.specs.declared.format.Telling.TheVariants as telling
use Rattle.trace_ticks.specs.declared.status.Status.{Status}
use Rattle.trace_ticks.specs.declared.status.Status.TheVariants as status
use Rattle.trace_ticks.proofs.Asking.{reads_then}
use Rattle.trace_ticks.proofs.Printing.{prints_front, prints_nothing, prints_unread, told_is}
use Rattle.trace_ticks.proofs.Told.{told_map}
use Rattle.log_runs.specs.ReplayRuns.{AgreesText, IsReplay, IsTraceReplay, Of_left, Of_same, Of_tick, ReadForReplay, ReplaysRows, RunsOver, difference_line, differing, replay_ok, ticks_told}
use Rattle.log_runs.specs.RootWalks.{HasWalked, IsHeldTo, MayRead, RootRuns, turns_given}
use Rattle.log_runs.specs.declared.replaying.Walked.{Walked}
use Rattle.log_runs.specs.declared.replaying.Walked.TheVariants as walked
use Rattle.log_runs.proofs.KernelLogs.{below}
use Rattle.log_runs.proofs.RootSaid.{said_after}
use Rattle.log_runs.proofs.RootTicks.{each_kernel, kernel_runs, runs_code, runs_kernel, to_code}
use Rattle.log_runs.proofs.SomeReplay.{some_replay}
use Rattle.log_runs.proofs.TraceWalks.{WalkSays}

module _ {S K : Type 0} (left : S → Option (List ℕ)) (faults : S → ℕ) (down : S → Bool) (held : K → Option (List ℕ)) (lost : K → ℕ) (is_down : K → Bool) (c : PlainCode) (l : Log) (k : PlainKernel) (log : ExchangeLog) (holds : IsHeldTo c l k log)
    (text : List ℕ) (is : IsLogOf k.shape log text) (limit budget : ℕ) (r : Replayer) (old new : S) (out mid : K) (waiting : List ℕ) where
  abbrev how : Format
  how = run_format telling.Report k

  abbrev Says_so : Walked → Type 0
  Says_so w = WalkSays left faults down held lost is_down c log k (HasReplayed c l log r) limit how budget old new out mid waiting w

  abbrev Rows : K → Status → Type 0
  Rows out' end = ReplaysRows left faults down held lost is_down limit k budget text old new out out' end

  abbrev agrees : AgreesText k text
  agrees = record { log = log; is = is; each = each_kernel c l k log holds }

  own : (xs : List Exchange) (os : List Output) → KernelAlone k 0 xs os → AreTold k.shape 0 (pair_all xs os)
  own xs os alone =
      let some = holds.valid.shape.some in
      let count = holds.valid.threads in
      subst (λ (s : PlainShape). AreTold s 0 (pair_all xs os)) holds.stands.shape (all_mine c 0 holds.valid (omega (arith, some, count)) xs os (to_code c k holds.formed holds.stands 0 some xs os alone))

  runs_over : (came : List ℕ) → RootRuns c log (turns_given limit k budget came) → RunsOver limit k budget log came
  runs_over came h = runs_kernel c l k log holds (turns_given limit k budget came) h

  read_so : (given : List ℕ) × ReadsBytes left faults down (MayRead c log limit how k budget) old given new → ReadForReplay left faults down limit k budget text old new
  read_so t = record {
    agrees = agrees;
    given = t.0;
    reads = reads_then left faults down _ (MayRead c log limit how k budget) old old [] none (λ came m. (m.0, runs_over came m.1)) t.1;
  }

  -- ---- it failed

  unread : Says_so (walked.Failed status.ReadFault) → Rows mid status.ReadFault
  unread w = record {
    prints = prints_unread held lost is_down _ _ _ _ _ out mid (
      w.ends,
      record {
        agrees = agrees;
        wanted = w.wanted refl;
        runs = told_map (left old) (left new) _ _ (w.given refl) (λ x y g. (g.0, g.1, runs_over g.0 g.2));
      },
    );
    trace = inr (read_so w.trace);
  }

  unwritten : Says_so (walked.Failed status.WriteFault) → Rows mid status.WriteFault
  unwritten w = record {
    prints = prints_front held lost is_down _ _ _ _ _ out mid w.ends (λ t.
        let cut = told_is (left old) _ t.0 w.went t.1 in
        let s = some_replay limit k holds.formed (below k holds.formed) budget text t.0 agrees own (held out) (held mid) cut.report cut.later cut.before cut.split (runs_kernel c l k log holds cut.before cut.runs) cut.lines in
        (s.0, (t.0, t.1, s.1), s.2));
    trace = inr (read_so w.trace);
  }

  unmade : Says_so (walked.Failed status.NoMemory) → Rows mid status.NoMemory
  unmade w = record { prints = prints_nothing held lost is_down _ _ _ _ _ out mid (ap held w.ends); trace = inr (read_so w.trace) }

  pub root_failed : (end : Status) → Says_so (walked.Failed end) → Rows mid end
  root_failed status.Done w = absurd w.ends
  root_failed status.Usage w = absurd w.ends
  root_failed status.Refused w = absurd w.ends
  root_failed status.Trace w = absurd w.ends
  root_failed status.Trapped w = absurd w.ends
  root_failed status.Over w = absurd w.ends
  root_failed status.ReadFault w = unread w
  root_failed status.WriteFault w = unwritten w
  root_failed status.NoMemory w = unmade w
  root_failed status.Full w = absurd w.ends

  -- ---- a line is said

  module _ (out' : K) (result : Status) (some : result ≢ status.NoMemory) where
    -- behind what was sent
    behind : (sent all line : List ℕ) → all ≡ sent ++ waiting → sent ++ (waiting ++ line) ≡ all ++ line
    behind sent all line e = sym (append_assoc sent waiting line) ∙ ap (λ x. x ++ line) (sym e)

    pub root_differs : (n : ℕ) → Says_so (walked.Differs n) → PrintsReport held lost is_down (differing waiting 0 n) (status.Refused ≡ status.Usage) mid out' result → Rows out' result
    root_differs n w p = record {
      prints = said_after held lost is_down (IsTold (left old)) (IsTraceReplay limit k budget text (left old)) _ (differing waiting 0 n) (status.Refused ≡ status.Usage) out mid out' result w.later (λ m. cc) some p (λ t.
          let d = told_is (left old) _ t.0 w.went t.1 in (
            d.sent,
            d.appended,
            (
              t.0,
              t.1,
              Of_tick agrees d.before d.later d.turn d.split (runs_kernel c l k log holds d.before d.runs) (λ more. d.cannot (runs_code c l k log holds (d.before ++ d.turn ∷ []) more))
                  (ap (λ (bs : List ℕ). record { bytes = bs; status = status.Refused }) (behind d.sent (ticks_told k budget d.before) (difference_line 0 n) d.bytes) ∙ ap (λ m. differing (ticks_told k budget d.before) 0 m) d.count),
            ),
          ));
      trace = inr (read_so w.trace);
    }

    abbrev Left_unused : PlainShape → List TickInput → Type 0
    Left_unused s turns = (root : RunsTicks (KernelAlone k) s log turns) × (IsAll s log 0 (pair_all root.tells.exchanges root.tells.outputs) → ⊥)

    abbrev All_used : PlainShape → List TickInput → Type 0
    All_used s turns = (root : RunsTicks (KernelAlone k) s log turns) × IsAll s log 0 (pair_all root.tells.exchanges root.tells.outputs)

    pub root_left : (used : Bool) (ticks n : ℕ) (end : Status) → used ≡ false → n ≡ ticks + 1 → ((turns : List TickInput) → UsesAll c l log r turns used) → Says_so (walked.Whole ticks end) →
        PrintsReport held lost is_down (differing waiting 0 n) (status.Refused ≡ status.Usage) mid out' result → Rows out' result
    root_left used ticks n end off number uses w p = record {
      prints = said_after held lost is_down (IsTold (left old)) (IsTraceReplay limit k budget text (left old)) _ (differing waiting 0 n) (status.Refused ≡ status.Usage) out mid out' result w.later (λ m. cc) some p (λ t.
          let d = told_is (left old) _ t.0 w.went t.1 in
          let turns = trace_turns limit k budget t.0 in
          let all = (trace_report limit how k budget t.0).bytes in
          let whole : Left_unused k.shape turns = subst (λ (s : PlainShape). Left_unused s turns) holds.stands.shape
          (kernel_runs c l k log holds turns d.ran.run, λ every. let yes = (uses turns d.ran).1 every in let bad : true ≡ false = sym yes ∙ off in cc) in
          let count : n ≡ suc (length turns) = let m = d.count in omega (arith, number, m) in (
            d.sent,
            d.appended,
            (
              t.0,
              t.1,
              Of_left agrees whole.0 whole.1
                  (ap (λ (bs : List ℕ). record { bytes = bs; status = status.Refused }) (behind d.sent all (difference_line 0 n) d.bytes) ∙ ap (λ m. differing all 0 m) count),
            ),
          ));
      trace = inr (read_so w.trace);
    }

    pub root_same : (used : Bool) (ticks : ℕ) (end : Status) → used ≡ true → ((turns : List TickInput) → UsesAll c l log r turns used) → Says_so (walked.Whole ticks end) →
        PrintsReport held lost is_down (record { bytes = waiting ++ codes "replay ok\n"; status = end }) (end ≡ status.Usage) mid out' result → Rows out' result
    root_same used ticks end on uses w p = record {
      prints = said_after held lost is_down (IsTold (left old)) (IsTraceReplay limit k budget text (left old)) _ (record { bytes = waiting ++ codes "replay ok\n"; status = end }) (end ≡ status.Usage) out mid out' result w.later w.ends.1 some p (λ t.
          let d = told_is (left old) _ t.0 w.went t.1 in
          let turns = trace_turns limit k budget t.0 in
          let report = trace_report limit how k budget t.0 in
          let whole : All_used k.shape turns = subst (λ (s : PlainShape). All_used s turns) holds.stands.shape (kernel_runs c l k log holds turns d.ran.run, (uses turns d.ran).0 on) in (
            d.sent,
            d.appended,
            (
              t.0,
              t.1,
              Of_same log is (record { each = agrees.each; root = whole.0; used = whole.1 })
                  (ap (λ (bs : List ℕ). record { bytes = bs; status = end }) (behind d.sent report.bytes (codes "replay ok\n") d.bytes) ∙ ap (λ (e : Status). record { bytes = report.bytes ++ codes "replay ok\n"; status = e }) d.status),
            ),
          ));
      trace = inr (read_so w.trace);
    }

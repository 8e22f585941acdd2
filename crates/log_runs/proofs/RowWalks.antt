-- Where the walk over the rows of a trace ends.
use Rattle.std.proofs.Common.{◌≡◌, ◌≢◌, ℕ, ◌+◌, ◌-◌, List, [], ◌∷◌, ◌++◌, Option, Some, None, Ok, if◌then◌else◌, length, refl, sym, ap, subst, ◌∙◌, append_assoc, arith, suc, Bool}
use Rattle.std.specs.Option.{IfSome}
use Rattle.forec_kernel.specs.Composed.{TickInput}
use Rattle.forec_kernel.specs.Ticks.{TickState, tick, goes_on}
use Rattle.forec_kernel.specs.declared.shape.Outcome.{Outcome}
use Rattle.forec_kernel.specs.declared.shape.Outcome.TheVariants as outcome
use Rattle.thread_code.specs.Plain.{PlainCode}
use Rattle.exchange_meaning.specs.Logged.{ExchangeLog}
use Rattle.exchange_replay.specs.Rooted.{CannotTick}
use Rattle.trace_rows.specs.Calls.{IfTold}
use Rattle.trace_rows.specs.Lines.{whole_lines}
use Rattle.trace_rows.specs.Reader.{Reader, HasLine, LacksLine, trace_ahead}
use Rattle.trace_rows.specs.SourceReads.{ReadsBytes, none, more}
use Rattle.trace_rows.specs.Trace.{Row, Trace, onto}
use Rattle.whole_writes.specs.Calls.{AppendsFront}
use Rattle.trace_ticks.specs.Ends.{IsOwn}
use Rattle.trace_ticks.specs.Progress.{report_rest, turns_rest}
use Rattle.trace_ticks.specs.Report.{Report, status_after, turns_from}
use Rattle.trace_ticks.specs.declared.format.Format.{Format}
use Rattle.trace_ticks.specs.declared.status.Status.{Status}
use Rattle.trace_ticks.specs.declared.status.Status.TheVariants as status
use Rattle.trace_ticks.proofs.Asking.{Going, MayAsk, may_ask, turns_read}
use Rattle.trace_ticks.proofs.NextRows.{Gave}
use Rattle.trace_ticks.proofs.Running.{Is, Reached, Run, front_cut, printed_by, turn_of, whole_now}
use Rattle.trace_ticks.proofs.Splitting.{told_of}
use Rattle.whole_writes.proofs.Appending.{front_behind}
use Rattle.trace_ticks.proofs.Told.{some_and, some_map, told_both, told_refl, told_some}
use Rattle.log_runs.specs.RootWalks.{DiffersAt, HasWalked, RootRuns, WasCut}

-- the status after the last tick is a report's own
pub own_after : (o : Outcome) (s : Status) → s ≡ status_after o → IsOwn s × (s ≢ status.Usage)
own_after o s e = subst (λ (x : Status). IsOwn x × (x ≢ status.Usage)) (sym e) (by o)
  where
    by : (q : Outcome) → IsOwn (status_after q) × (status_after q ≢ status.Usage)
    by outcome.Paused = (tt, λ bad. cc)
    by outcome.Ended = (tt, λ bad. cc)
    by (outcome.Trapped place trap) = (tt, λ bad. cc)
    by outcome.Over = (tt, λ bad. cc)

pub some_all : (o : Option (List ℕ)) (P : List ℕ → Type 0) → ((x : List ℕ) → P x) → IfSome o P
some_all None P f = tt
some_all (Some x) P f = f x

-- what reads gave is what the source has no more
reads_told : {S : Type 0} (left : S → Option (List ℕ)) (faults : S → ℕ) (down : S → Bool) (May : List ℕ → Type 0) (old : S) {given : List ℕ} {new : S} → ReadsBytes left faults down May old given new →
    IfTold (left old) (left new) (λ x y. x ≡ given ++ y)
reads_told left faults down May old none = told_refl (left old) _ (λ x. refl)
reads_told left faults down May old (more {given} {piece} {s} {new} rest may read) =
    told_both (left old) (left s) (left new) (λ x y. x ≡ given ++ y) (λ y z. y ≡ piece ++ z) (λ x z. x ≡ (given ++ piece) ++ z) (reads_told left faults down May old rest)
    (told_of (left s) (left new) piece (λ y z. y ≡ piece ++ z) read.came (λ y z e. e)) (λ x y z e f. e ∙ ap (λ r. given ++ r) f ∙ sym (append_assoc given piece z))

-- the source failed: the ticks over what came were run
pub going_failed : {S : Type 0} {left : S → Option (List ℕ)} {faults : S → ℕ} {down : S → Bool} {Runs : List TickInput → Type 0} {run : Run} {F : List TickInput → Type 0} {now : Reader} {h0 h : Option (List ℕ)} {unsent : List ℕ} {how : Format} {row : ℕ} {old s : S} →
    Going left faults down Runs run F now h0 h unsent how row old s → ((turns : List TickInput) → F turns → Runs turns) → (new : Reader) (l' : Option (List ℕ)) → LacksLine now.held new.held now.ended new.ended (left s) l' →
    IfTold (left old) l' (λ x y. (given : List ℕ) × (x ≡ given ++ y) × Runs (turns_read run (whole_lines (run.first.held ++ given))))
going_failed {S} {left} {faults} {down} {Runs} {run} {F} {now} {h0} {h} {unsent} {how} {row} {old} {s} a runs new l' w =
    let came = w.came.bytes in
    let may = may_ask a runs came (λ has. w.none (subst HasLine (sym w.came.held) has)) w.was in
    told_both (left old) (left s) l' (λ x y. x ≡ a.given ++ y) (λ y z. y ≡ came ++ z) _ (reads_told left faults down (MayAsk Runs run) old a.reads) (told_of (left s) l' came (λ y z. y ≡ came ++ z) w.came.source (λ y z e. e))
    (λ x y z e f. (a.given ++ came, e ∙ ap (λ r. a.given ++ r) f ∙ sym (append_assoc a.given came z), may.1))

module _ {run : Run} {F : List TickInput → Type 0} {turns : List TickInput} {s : TickState} {now : Reader} {l0 l h0 h : Option (List ℕ)} {unsent : List ℕ} {how : Format} {row : ℕ} (r : Reached run F turns s now l0 l h0 h unsent how row) where
  -- the last lines wait
  pub has_walked : (F' : List TickInput → Type 0) (all : List TickInput) (q : Report) (unsent' : List ℕ) (number : ℕ) → IfSome l0 (Is run (printed_by run turns) all q) → unsent' ≡ unsent ++ q.bytes → F' all → number ≡ length all →
      IfSome l0 (λ x. HasWalked F' (turns_rest run.kernel run.budget run.first x) (report_rest run.format run.kernel run.budget run.first x) h0 h unsent' number q.status)
  has_walked F' all q unsent' number is put ran count =
      some_map l0 _ _ (some_and l0 _ _ (whole_now r F' all q unsent' is put ran) is) (λ x w. record {
        status = w.0.status;
        sent = w.0.sent;
        appended = w.0.appended;
        bytes = w.0.bytes;
        ran = w.0.ran;
        count = count ∙ ap length (sym w.1.ran);
      })

  -- so many ticks were run before this row
  pub ticks_before : row - 1 ≡ length turns
  ticks_before = let n = r.ticked.count in omega arith

  module _ (c : PlainCode) (log : ExchangeLog) (runs : RootRuns c log turns) where
    -- the sink failed
    pub was_cut : (h2 : Option (List ℕ)) → AppendsFront h h2 unsent →
        IfSome l0 (λ x. WasCut c log run.format run.kernel run.budget (turns_rest run.kernel run.budget run.first x) (report_rest run.format run.kernel run.budget run.first x) h0 h2)
    was_cut h2 b =
        let first : IfSome l0 (λ x. (later : List TickInput) × (turns_rest run.kernel run.budget run.first x ≡ turns ++ later)) =
        told_some l0 l _ _ r.told (λ x y led. (turns_from run.kernel run.budget s (trace_ahead now y).rows, led.ran)) in
        some_map l0 _ _ (some_and l0 _ _ first (front_cut r h2 b)) (λ x w. record {
          before = turns;
          later = w.0.0;
          split = w.0.1;
          runs = runs;
          lines = subst (AppendsFront h0 h2) (sym r.split) (front_behind h0 h h2 r.sent unsent r.appended b);
          report = w.1;
        })

    -- a tick differs
    pub differs_at : {new : Reader} {l' : Option (List ℕ)} {values : Row} → Gave now new l l' values → CannotTick c log turns (turn_of run values) →
        IfSome l0 (λ x. DiffersAt c log run.format run.kernel run.budget (turns_rest run.kernel run.budget run.first x) h0 h unsent row)
    differs_at {new} {l'} {values} gave never =
        told_some l0 l' _ _
        (told_both l0 l l' _ (λ y z. trace_ahead now y ≡ onto (Ok values) (now.given + 1) (trace_ahead new z)) (λ x z. DiffersAt c log run.format run.kernel run.budget (turns_rest run.kernel run.budget run.first x) h0 h unsent row) r.told gave.trace
        (λ x y z led there. record {
          before = turns;
          turn = turn_of run values;
          later = if goes_on (tick run.kernel run.budget s values).outcome then turns_from run.kernel run.budget (tick run.kernel run.budget s values).state (trace_ahead new z).rows else [];
          split = led.ran ∙ ap (λ (t : Trace). turns ++ turns_from run.kernel run.budget s t.rows) there;
          runs = runs;
          cannot = never;
          count = let n = r.ticked.count in omega arith;
          sent = r.sent;
          appended = r.appended;
          bytes = r.split;
        })) (λ x z d. d)

-- A walk over a trace, by how its header and its rows ended.
use Rattle.std.proofs.Common.{◌≡◌, ◌≤◌, ℕ, Bool, List, [], ◌++◌, Option, length, refl, sym, ap, subst, ◌∙◌}
use Rattle.std.specs.Option.{IfSome}
use Rattle.std.specs.Io.KnownBytes.{Appends}
use Rattle.forec_base.specs.Outside.{Fell}
use Rattle.forec_base.specs.declared.limits.TheConstants.{MAX_ROWS}
use Rattle.forec_kernel.specs.Composed.{TickInput}
use Rattle.forec_kernel.specs.Shapes.{PlainKernel}
use Rattle.thread_code.specs.Plain.{PlainCode}
use Rattle.exchange_meaning.specs.Logged.{ExchangeLog}
use Rattle.trace_rows.specs.Calls.{IfTold}
use Rattle.trace_rows.specs.Report.{row_words}
use Rattle.trace_rows.specs.SourceReads.{ReadsBytes}
use Rattle.trace_rows.specs.declared.fault.RowFault.{RowFault}
use Rattle.trace_ticks.specs.Ends.{Wanted}
use Rattle.trace_ticks.specs.Formats.{opening, last_written}
use Rattle.trace_ticks.specs.Report.{Report, trace_report, trace_turns}
use Rattle.trace_ticks.specs.declared.format.Format.{Format}
use Rattle.trace_ticks.specs.declared.status.Status.{Status}
use Rattle.trace_ticks.specs.declared.status.Status.TheVariants as status
use Rattle.whole_writes.proofs.Appending.{appends_refl}
use Rattle.trace_ticks.proofs.Told.{some_and, some_map}
use Rattle.log_runs.specs.RootWalks.{EndsBy, GivenRuns, HasWalked, MayRead, WalkedTo}
use Rattle.log_runs.specs.declared.replaying.Walked.{Walked}
use Rattle.log_runs.specs.declared.replaying.Walked.TheVariants as walked

-- an end said with other words
pub ends_as : (A A' B C C' : Type 0) → (A → A') → (C → C') → (w : Walked) → EndsBy A B C w → EndsBy A' B C' w
ends_as A A' B C C' f g (walked.Whole number end) h = h
ends_as A A' B C C' f g (walked.Differs number) h = h
ends_as A A' B C C' f g (walked.Failed status.Done) h = h
ends_as A A' B C C' f g (walked.Failed status.Usage) h = h
ends_as A A' B C C' f g (walked.Failed status.Refused) h = h
ends_as A A' B C C' f g (walked.Failed status.Trace) h = h
ends_as A A' B C C' f g (walked.Failed status.Trapped) h = h
ends_as A A' B C C' f g (walked.Failed status.Over) h = h
ends_as A A' B C C' f g (walked.Failed status.ReadFault) h = f h
ends_as A A' B C C' f g (walked.Failed status.WriteFault) h = h
ends_as A A' B C C' f g (walked.Failed status.NoMemory) h = g h
ends_as A A' B C C' f g (walked.Failed status.Full) h = h

-- it has run at most so many ticks
pub few_of : (A B C : Type 0) (w : Walked) (number : ℕ) (end : Status) → w ≡ walked.Whole number end → EndsBy A B C w → number ≤ MAX_ROWS
few_of A B C w number end e h = let ends = subst (EndsBy A B C) e h in ends.2

-- no header came, and so no tick was run
pub none_walked : (limit : ℕ) (how : Format) (k : PlainKernel) (b : ℕ) (Has : List TickInput → Type 0) (l h : Option (List ℕ)) (f : RowFault) (opened waiting : List ℕ) → Has [] → opened ≡ opening how → waiting ≡ opened ++ last_written how (row_words 0 f) →
    IfSome l (λ x. trace_report limit how k b x ≡ record { bytes = opening how ++ last_written how (row_words 0 f); status = status.Trace }) → IfSome l (λ x. trace_turns limit k b x ≡ []) →
    IfSome l (λ x. HasWalked Has (trace_turns limit k b x) (trace_report limit how k b x) h h waiting 0 status.Trace)
none_walked limit how k b Has l h f opened waiting empty begun put reports none =
    some_map l _ _ (some_and l _ _ reports none) (λ x w. record {
      status = sym (ap (λ (q : Report). q.status) w.0);
      sent = [];
      appended = appends_refl h;
      bytes = ap (λ (q : Report). q.bytes) w.0 ∙ ap (λ bs. bs ++ last_written how (row_words 0 f)) (sym begun) ∙ sym put;
      ran = subst Has (sym w.1) empty;
      count = ap length (sym w.1);
    })

-- what a walk over a trace tells
pub record WalkSays {S K : Type 0} (left : S → Option (List ℕ)) (faults : S → ℕ) (down : S → Bool) (held : K → Option (List ℕ)) (lost : K → ℕ) (is_down : K → Bool) (c : PlainCode) (log : ExchangeLog) (k : PlainKernel) (Has : List TickInput → Type 0)
    (limit : ℕ) (how : Format) (b : ℕ) (old new : S) (out out' : K) (waiting : List ℕ) (w : Walked) : Type 0 where
  pub went : IfSome (left old) (λ x. WalkedTo c log how k b Has (held out) (held out') waiting (trace_turns limit k b x) (trace_report limit how k b x) w)
  pub ends : EndsBy (Fell (faults old) (faults new) (down new)) (Fell (lost out) (lost out') (is_down out')) (out' ≡ out) w
  pub wanted : w ≡ walked.Failed status.ReadFault → Wanted limit how k b (left old) (left new) (held out) (held out')
  pub given : w ≡ walked.Failed status.ReadFault → IfTold (left old) (left new) (GivenRuns c log limit k b)
  pub trace : (given : List ℕ) × ReadsBytes left faults down (MayRead c log limit how k b) old given new
  pub later : lost out ≤ lost out'

pub walk_at : {S K : Type 0} (left : S → Option (List ℕ)) (faults : S → ℕ) (down : S → Bool) (held : K → Option (List ℕ)) (lost : K → ℕ) (is_down : K → Bool) (c : PlainCode) (log : ExchangeLog) (k : PlainKernel) (Has : List TickInput → Type 0)
    (limit limit' : ℕ) (how how' : Format) (b b' : ℕ) (old new : S) (out out' : K) (waiting : List ℕ) (w : Walked) → limit ≡ limit' → how ≡ how' → b ≡ b' →
    WalkSays left faults down held lost is_down c log k Has limit how b old new out out' waiting w → WalkSays left faults down held lost is_down c log k Has limit' how' b' old new out out' waiting w
walk_at left faults down held lost is_down c log k Has limit limit' how how' b b' old new out out' waiting w e f g h =
    subst (λ (x : ℕ). WalkSays left faults down held lost is_down c log k Has limit' how' x old new out out' waiting w) g
    (subst (λ (x : Format). WalkSays left faults down held lost is_down c log k Has limit' x b old new out out' waiting w) f
    (subst (λ (x : ℕ). WalkSays left faults down held lost is_down c log k Has x how b old new out out' waiting w) e h))

-- What is printed of a dump, from what is told of it.
use Rattle.std.proofs.Common.{◌≡◌, ◌<◌, ◌≢◌, ℕ, Bool, List, Option, Some, length, refl, sym, ap, ◌∙◌}
use Rattle.std.specs.Option.{IfSome}
use Rattle.std.specs.Io.KnownBytes.{Appends}
use Rattle.forec_base.specs.Outside.{Fell}
use Rattle.forec_base.specs.declared.limits.TheConstants.{MAX_TEXT_BYTES}
use Rattle.whole_writes.specs.Calls.{AppendsFront}
use Rattle.dump_report.specs.Ends.{EndsReport}
use Rattle.dump_report.specs.Told.{ToldReport, dump_report, refused_long}
use Rattle.dump_report.specs.declared.status.DumpStatus.{DumpStatus}
use Rattle.dump_report.specs.declared.status.DumpStatus.TheVariants as dump
use Rattle.text_verdict.specs.declared.refusal.Refusal.TheVariants as why
use Rattle.trace_ticks.specs.Prints.{Prints, PrintsReport}
use Rattle.trace_ticks.specs.declared.status.Status.{Status}
use Rattle.trace_ticks.specs.declared.status.Status.TheVariants as status
use Rattle.trace_ticks.proofs.Printing.{prints_all, prints_front, prints_nothing, prints_as, told_is}
use Rattle.forec_engine.specs.Commands.{refused}
use Rattle.forec_engine.specs.Dumps.{status_of_dump, dump_printed, DumpReport}

pub dump_never : (text : List ℕ) → (dump_printed text).status ≢ status.Over
dump_never text = by (dump_report text).status
  where
    by : (end : DumpStatus) → status_of_dump end ≢ status.Over
    by dump.Done e = cc
    by dump.Refused e = cc
    by dump.WriteFault e = cc
    by dump.NoMemory e = cc

module _ {K : Type 0} (held : K → Option (List ℕ)) (faults : K → ℕ) (down : K → Bool) (text : List ℕ) (old new : K) where
  -- a text was told
  pub said : (end : DumpStatus) → (EndsReport end → (end ≡ (dump_report text).status) × Appends (held old) (held new) (dump_report text).bytes) →
      (end ≡ dump.WriteFault → Fell (faults old) (faults new) (down new) × AppendsFront (held old) (held new) (dump_report text).bytes) → (end ≡ dump.NoMemory → new ≡ old) →
      PrintsReport held faults down (dump_printed text) ⊥ old new (status_of_dump end)
  said dump.Done own write memory =
      let o = own tt in
      prints_all held faults down Unit (λ q. q ≡ dump_printed text) ⊥ ⊥ ⊥ old new status.Done tt (λ e. cc) (λ _. (dump_printed text, refl, record { status = ap status_of_dump o.0; bytes = o.1 }))
  said dump.Refused own write memory =
      let o = own tt in
      prints_all held faults down Unit (λ q. q ≡ dump_printed text) ⊥ ⊥ ⊥ old new status.Refused tt (λ e. cc) (λ _. (dump_printed text, refl, record { status = ap status_of_dump o.0; bytes = o.1 }))
  said dump.WriteFault own write memory =
      let w = write refl in prints_front held faults down Unit (λ q. q ≡ dump_printed text) ⊥ ⊥ ⊥ old new w.0 (λ _. (dump_printed text, refl, w.1))
  said dump.NoMemory own write memory = prints_nothing held faults down Unit (λ q. q ≡ dump_printed text) ⊥ ⊥ ⊥ old new (ap held (memory refl))

module _ {K : Type 0} (held : K → Option (List ℕ)) (faults : K → ℕ) (down : K → Bool) (content : List ℕ → Option (List ℕ)) (name : List ℕ) (Lost : Type 0) (old new : K) where
  abbrev Told : Status → Type 0
  Told end = Prints held faults down ((text : List ℕ) × (content name ≡ Some text)) (DumpReport content name) ⊥ Lost ⊥ old new end

  pub named_told : (bytes : List ℕ) (end : Status) → IfSome (content name) (λ x. bytes ≡ x) → PrintsReport held faults down (dump_printed bytes) ⊥ old new end → Told end
  named_told bytes end same p =
      prints_as held faults down _ _ _ _ _ old new _ _ _ _ _ end (λ t. tt) (λ t r is. (t.0, t.1, is ∙ ap dump_printed (told_is (content name) (λ x. bytes ≡ x) t.0 same t.1))) (λ n. n) (λ n. absurd n) (λ n. n) p

  pub named_too_long : ((text : List ℕ) → MAX_TEXT_BYTES < length text → dump_report text ≡ refused_long) → (end : Status) → IfSome (content name) (λ x. MAX_TEXT_BYTES < length x) →
      PrintsReport held faults down (refused why.Long) ⊥ old new end → Told end
  named_too_long long end many p =
      prints_as held faults down _ _ _ _ _ old new _ _ _ _ _ end (λ t. tt)
      (λ t r is. (t.0, t.1, is ∙ sym (ap (λ (q : ToldReport). record { bytes = q.bytes; status = status_of_dump q.status }) (long t.0 (told_is (content name) (λ x. MAX_TEXT_BYTES < length x) t.0 many t.1)))))
      (λ n. n) (λ n. absurd n) (λ n. n) p

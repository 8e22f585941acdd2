-- A run over a trace, by how its header and its rows ended.
use Rattle.std.proofs.Common.{◌≡◌, ◌≢◌, ◌≤◌, ℕ, Bool, false, List, [], ◌++◌, Option, Ok, Err, sym, ap, subst, ◌∙◌, arith}
use Rattle.std.specs.Option.{IfSome}
use Rattle.std.specs.Io.KnownBytes.{Appends}
use Rattle.forec_base.specs.Outside.{Fell}
use Rattle.forec_kernel.specs.Composed.{TickInput}
use Rattle.forec_kernel.specs.Shapes.{PlainKernel}
use Rattle.trace_rows.specs.Calls.{IfTold}
use Rattle.trace_rows.specs.Reader.{Reader, StartSays, LacksLine}
use Rattle.trace_rows.specs.Report.{row_words}
use Rattle.trace_ticks.specs.Formats.{opening, last_written}
use Rattle.trace_rows.specs.SourceReads.{ReadsBytes, Reading, StartTook}
use Rattle.trace_rows.specs.declared.fault.RowFault.{RowFault}
use Rattle.trace_rows.specs.declared.fault.RowFault.TheVariants as fault
use Rattle.whole_writes.specs.Calls.{AppendsFront}
use Rattle.trace_ticks.specs.Ends.{IsOwn, Given, ReadFor}
use Rattle.trace_ticks.specs.KernelNames.{input_names}
use Rattle.trace_ticks.specs.Led.{RunsRows}
use Rattle.trace_ticks.specs.Prints.{PrintsReport}
use Rattle.trace_ticks.specs.Progress.{IsWholeReport, IsReportFront, Led, GoesOnFrom, report_rest}
use Rattle.trace_ticks.specs.Report.{Report, trace_report, trace_turns}
use Rattle.trace_ticks.specs.declared.format.Format.{Format}
use Rattle.trace_ticks.specs.declared.status.Status.{Status}
use Rattle.trace_ticks.specs.declared.status.Status.TheVariants as status
use Rattle.trace_ticks.proofs.Asking.{asked_all}
use Rattle.trace_ticks.proofs.Heading.{Started, no_header_there, head_fault, head_ran, head_failed, head_report, head_turns, head_wanted}
use Rattle.trace_ticks.proofs.Running.{fell_since, front_sent, whole_given, whole_front}
use Rattle.trace_ticks.proofs.RunEnds.{unread, unwritten, parted, unbegun, last_said, front_whole}
use Rattle.trace_ticks.proofs.Told.{some_map}

-- no header was read, and these reads were made
pub record Unheaded {S : Type 0} (left : S → Option (List ℕ)) (faults : S → ℕ) (down : S → Bool) (limit : ℕ) (how : Format) (k : PlainKernel) (b : ℕ) (inputs : List (List ℕ)) (old new : S) : Type 0 where
  pub same : inputs ≡ input_names k
  pub asked : ReadFor left faults down limit how k b old new

-- a header was read up to `mid`, and rows behind it
pub record Headed {S : Type 0} (left : S → Option (List ℕ)) (faults : S → ℕ) (down : S → Bool) (limit : ℕ) (how : Format) (k : PlainKernel) (b : ℕ) (inputs : List (List ℕ)) (first : Reader) (old mid new : S) : Type 0 where
  pub same : inputs ≡ input_names k
  pub begun : Started limit inputs (left old) (left mid) first
  pub most : first.limit ≡ limit
  pub head : Reading left faults down [] false old mid (StartTook inputs (Ok first))
  pub rows : (given : List ℕ) × ReadsBytes left faults down (GoesOnFrom how k b first) mid given new

-- ---- no header

module _ {S : Type 0} {left : S → Option (List ℕ)} {faults : S → ℕ} {down : S → Bool} {limit : ℕ} {how : Format} {k : PlainKernel} {b : ℕ} {inputs : List (List ℕ)} {old new : S} (u : Unheaded left faults down limit how k b inputs old new) where
  pub none_ran : (f : RowFault) → IfTold (left old) (left new) (StartSays inputs limit (Err f)) → f ≢ fault.ReadFault → f ≢ fault.OutOfMemory → (F : List TickInput → Type 0) → F [] → IfSome (left old) (λ x. F (trace_turns limit k b x))
  none_ran f says read memory F none = head_ran limit how k b inputs u.same F (left old) (left new) f (no_header_there limit inputs (left old) (left new) f read memory says) none

  module _ {K : Type 0} (held : K → Option (List ℕ)) (lost : K → ℕ) (is_down : K → Bool) (Parted : Type 0) (out out' : K) where
    abbrev Ran : Status → Type 0
    Ran end = RunsRows left faults down held lost is_down limit how k b Parted old new out out' end

    pub no_memory : out' ≡ out → Ran status.NoMemory
    no_memory nothing = record { prints = unbegun left faults down held lost is_down limit how k b Parted old new out out out' (ap held nothing); trace = u.asked }

    pub no_line : out' ≡ out → Fell (faults old) (faults new) (down new) → (h : List ℕ) × LacksLine [] h false false (left old) (left new) → Ran status.ReadFault
    no_line nothing fell waits = record {
      prints = unread left faults down held lost is_down limit how k b Parted old new out out out' (fell, head_failed limit how k b inputs u.same (left old) (left new) (held out) (held out') (ap held nothing) waits);
      trace = u.asked;
    }

    pub no_header : (f : RowFault) → IfTold (left old) (left new) (StartSays inputs limit (Err f)) → f ≢ fault.ReadFault → f ≢ fault.OutOfMemory → (opened waiting : List ℕ) (result : Status) → opened ≡ opening how →
        waiting ≡ opened ++ last_written how (row_words 0 f) → PrintsReport held lost is_down (record { bytes = waiting; status = status.Trace }) (status.Trace ≡ status.Usage) out out' result → result ≢ status.NoMemory → Ran result
    no_header f says read memory opened waiting result begun put said some =
        let is : waiting ≡ opening how ++ last_written how (row_words 0 f) = put ∙ ap (λ (x : List ℕ). x ++ last_written how (row_words 0 f)) begun in
        let reports = head_fault limit how k b inputs u.same (left old) (left new) f (no_header_there limit inputs (left old) (left new) f read memory says) in
        record {
          prints = last_said left faults down held lost is_down limit how k b Parted old new out out out' waiting status.Trace result tt (λ e. cc) (omega arith)
              (some_map (left old) _ _ reports (λ x e all. record { status = sym (ap (λ (q : Report). q.status) e); bytes = subst (Appends (held out) (held out')) (is ∙ sym (ap (λ (q : Report). q.bytes) e)) all }))
              (some_map (left old) _ _ reports (λ x e part. subst (AppendsFront (held out) (held out')) (is ∙ sym (ap (λ (q : Report). q.bytes) e)) part)) said some;
          trace = u.asked;
        }

-- ---- a header, and rows

module _ {S : Type 0} {left : S → Option (List ℕ)} {faults : S → ℕ} {down : S → Bool} {limit : ℕ} {how : Format} {k : PlainKernel} {b : ℕ} {inputs : List (List ℕ)} {first : Reader} {old mid new : S}
    (h : Headed left faults down limit how k b inputs first old mid new) where
  asks : ReadFor left faults down limit how k b old new
  asks = subst (λ (q : ℕ). ReadFor left faults down q how k b old new) h.most (asked_all left faults down how k b inputs first old mid new h.same h.head h.rows)

  -- what holds of the report of the rows holds of the whole one
  of_rows : (P : Report → Type 0) → IfSome (left mid) (λ y. P (report_rest how k b first y)) → IfSome (left old) (λ x. P (trace_report limit how k b x))
  of_rows = head_report limit how k b inputs h.same first (left old) (left mid) h.begun

  module _ {K : Type 0} (held : K → Option (List ℕ)) (lost : K → ℕ) (is_down : K → Bool) (Parted : Type 0) (out out' : K) where
    abbrev Runs : Status → Type 0
    Runs end = RunsRows left faults down held lost is_down limit how k b Parted old new out out' end

    pub rows_unread : faults old ≤ faults mid → Fell (faults mid) (faults new) (down new) → (bytes : List ℕ) × Appends (held out) (held out') bytes × IfTold (left mid) (left new) (Led how k b first bytes) → Runs status.ReadFault
    rows_unread later fell led = record {
      prints = unread left faults down held lost is_down limit how k b Parted old new out out out'
          (fell_since (faults old) (faults mid) (faults new) (down new) later fell, head_wanted limit how k b inputs h.same first (left old) (left mid) h.begun h.most (left new) (held out) (held out') led);
      trace = asks;
    }

    pub rows_unwritten : Fell (lost out) (lost out') (is_down out') → IfSome (left mid) (λ x. AppendsFront (held out) (held out') (report_rest how k b first x).bytes) → Runs status.WriteFault
    rows_unwritten fell front = record {
      prints = unwritten left faults down held lost is_down limit how k b Parted old new out out out' fell (of_rows (λ q. AppendsFront (held out) (held out') q.bytes) front);
      trace = asks;
    }

    -- the last lines were sent on from here
    module _ (mid_out : K) where
      pub rows_parted : Parted → (waiting : List ℕ) → IfSome (left mid) (IsReportFront how k b first (held out) (held mid_out) waiting) → Appends (held mid_out) (held out') waiting → Runs status.NoMemory
      rows_parted part waiting fronts all = record {
        prints = parted left faults down held lost is_down limit how k b Parted old new out out out' part
            (of_rows (λ q. AppendsFront (held out) (held out') q.bytes) (some_map (left mid) _ _ fronts (λ x f. front_sent how k b first (held out) (held mid_out) (held out') waiting x f (front_whole (held mid_out) (held out') waiting all))));
        trace = asks;
      }

      pub rows_cut : (waiting : List ℕ) → lost out ≤ lost mid_out → Fell (lost mid_out) (lost out') (is_down out') → IfSome (left mid) (IsReportFront how k b first (held out) (held mid_out) waiting) → AppendsFront (held mid_out) (held out') waiting →
          Runs status.WriteFault
      rows_cut waiting later fell fronts front =
          rows_unwritten (fell_since (lost out) (lost mid_out) (lost out') (is_down out') later fell)
          (some_map (left mid) _ _ fronts (λ x f. front_sent how k b first (held out) (held mid_out) (held out') waiting x f front))

      module _ (F : List TickInput → Type 0) (waiting : List ℕ) (end : Status) (wholes : IfSome (left mid) (IsWholeReport how k b first F (held out) (held mid_out) waiting end)) where
        pub rows_told : (result : Status) → IsOwn end → end ≢ status.Usage → lost out ≤ lost mid_out → PrintsReport held lost is_down (record { bytes = waiting; status = end }) (end ≡ status.Usage) mid_out out' result → result ≢ status.NoMemory → Runs result
        rows_told result own other later said some = record {
          prints = last_said left faults down held lost is_down limit how k b Parted old new out mid_out out' waiting end result own other later
              (of_rows (λ q. Appends (held mid_out) (held out') waiting → Given q end (held out) (held out'))
              (some_map (left mid) _ _ wholes (λ x w all. whole_given how k b first F (held out) (held mid_out) (held out') waiting end x w all)))
              (of_rows (λ q. AppendsFront (held mid_out) (held out') waiting → AppendsFront (held out) (held out') q.bytes)
              (some_map (left mid) _ _ wholes (λ x w part. whole_front how k b first F (held out) (held mid_out) (held out') waiting end x w part))) said some;
          trace = asks;
        }

        pub rows_ran : IfSome (left old) (λ x. F (trace_turns limit k b x))
        rows_ran = head_turns limit how k b inputs h.same first (left old) (left mid) h.begun F (some_map (left mid) _ _ wholes (λ x w. w.ran))

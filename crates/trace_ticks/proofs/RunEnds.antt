-- What a run over a trace prints, by how it ended.
use Rattle.std.proofs.Common.{◌≡◌, ◌≢◌, ◌≤◌, ℕ, Bool, List, [], Option, refl, sym, ap, subst, ◌∙◌, append-nil}
use Rattle.std.specs.Option.{IfSome}
use Rattle.std.specs.Io.KnownBytes.{Appends}
use Rattle.forec_base.specs.Outside.{Fell}
use Rattle.forec_kernel.specs.Shapes.{PlainKernel}
use Rattle.trace_rows.specs.SourceReads.{none}
use Rattle.whole_writes.specs.Calls.{AppendsFront}
use Rattle.trace_ticks.specs.Ends.{IsOwn, Given, Wanted, ReadFor}
use Rattle.trace_ticks.specs.Led.{IsTold, IsTraceReport, RunsRows}
use Rattle.trace_ticks.specs.Prints.{Prints, PrintsReport}
use Rattle.trace_ticks.specs.Report.{Report, trace_report}
use Rattle.trace_ticks.specs.declared.format.Format.{Format}
use Rattle.trace_ticks.specs.declared.status.Status.{Status}
use Rattle.trace_ticks.specs.declared.status.Status.TheVariants as status
use Rattle.trace_ticks.proofs.Printing.{prints_as, prints_front, prints_part, prints_nothing, prints_unread, told_is}
use Rattle.trace_ticks.proofs.Running.{fell_since}

-- all of it was written, as a front
pub front_whole : (old new : Option (List ℕ)) (bytes : List ℕ) → Appends old new bytes → AppendsFront old new bytes
front_whole old new bytes a = (bytes, [], sym (append-nil bytes), a)

-- what a line that was said tells
module _ {K : Type 0} (held : K → Option (List ℕ)) (lost : K → ℕ) (is_down : K → Bool) (line : Report) (Misused : Type 0) (old new : K) (end : Status) (p : PrintsReport held lost is_down line Misused old new end) where
  pub line_said : IsOwn end → end ≡ line.status
  line_said own = let r = p.own own tt in r.2.status ∙ ap (λ (q : Report). q.status) r.1

  pub line_whole : IsOwn end → Appends (held old) (held new) line.bytes
  line_whole own = let r = p.own own tt in subst (λ (q : Report). Appends (held old) (held new) q.bytes) r.1 r.2.bytes

  pub line_front : end ≡ status.WriteFault → AppendsFront (held old) (held new) line.bytes
  line_front is = let w = (p.write is).1 tt in subst (λ (q : Report). AppendsFront (held old) (held new) q.bytes) w.1 w.2

module _ {S K : Type 0} (left : S → Option (List ℕ)) (faults : S → ℕ) (down : S → Bool) (held : K → Option (List ℕ)) (lost : K → ℕ) (is_down : K → Bool) (limit : ℕ) (how : Format) (k : PlainKernel) (b : ℕ) (Parted : Type 0) (old new : S)
    (out mid out' : K) where
  abbrev Unread : Type 0
  Unread = Fell (faults old) (faults new) (down new) × Wanted limit how k b (left old) (left new) (held out) (held out')

  abbrev P : Status → Type 0
  P end = Prints held lost is_down (IsTold (left old)) (IsTraceReport limit how k b (left old)) ⊥ Unread Parted out out' end

  front : IfSome (left old) (λ x. AppendsFront (held out) (held out') (trace_report limit how k b x).bytes) → IsTold (left old) →
      (r : Report) × IsTraceReport limit how k b (left old) r × AppendsFront (held out) (held out') r.bytes
  front f told = (trace_report limit how k b told.0, (told.0, told.1, refl), told_is (left old) _ told.0 f told.1)

  pub unread : Unread → P status.ReadFault
  unread u = prints_unread held lost is_down (IsTold (left old)) (IsTraceReport limit how k b (left old)) ⊥ Unread Parted out out' u

  pub unwritten : Fell (lost out) (lost out') (is_down out') → IfSome (left old) (λ x. AppendsFront (held out) (held out') (trace_report limit how k b x).bytes) → P status.WriteFault
  unwritten fell f = prints_front held lost is_down (IsTold (left old)) (IsTraceReport limit how k b (left old)) ⊥ Unread Parted out out' fell (front f)

  pub parted : Parted → IfSome (left old) (λ x. AppendsFront (held out) (held out') (trace_report limit how k b x).bytes) → P status.NoMemory
  parted p f = prints_part held lost is_down (IsTold (left old)) (IsTraceReport limit how k b (left old)) ⊥ Unread Parted out out' p (front f)

  pub unbegun : held out' ≡ held out → P status.NoMemory
  unbegun same = prints_nothing held lost is_down (IsTold (left old)) (IsTraceReport limit how k b (left old)) ⊥ Unread Parted out out' same

  -- the last lines were said
  pub last_said : (waiting : List ℕ) (end result : Status) → IsOwn end → end ≢ status.Usage → lost out ≤ lost mid →
      IfSome (left old) (λ x. Appends (held mid) (held out') waiting → Given (trace_report limit how k b x) end (held out) (held out')) →
      IfSome (left old) (λ x. AppendsFront (held mid) (held out') waiting → AppendsFront (held out) (held out') (trace_report limit how k b x).bytes) →
      PrintsReport held lost is_down (record { bytes = waiting; status = end }) (end ≡ status.Usage) mid out' result → result ≢ status.NoMemory → P result
  last_said waiting end result own other later whole part p some =
      let line : Report = record { bytes = waiting; status = end } in
      record {
        own = λ mine told.
            let is = line_said held lost is_down line (end ≡ status.Usage) mid out' result p mine in
            let all = line_whole held lost is_down line (end ≡ status.Usage) mid out' result p mine in (
              trace_report limit how k b told.0,
              (told.0, told.1, refl),
              subst (λ (s : Status). Given (trace_report limit how k b told.0) s (held out) (held out')) (sym is) (told_is (left old) _ told.0 whole told.1 all),
            );
        write = λ is. (
          fell_since (lost out) (lost mid) (lost out') (is_down out') later (p.write is).0,
          λ told. (
            trace_report limit how k b told.0,
            (told.0, told.1, refl),
            told_is (left old) _ told.0 part told.1 (line_front held lost is_down line (end ≡ status.Usage) mid out' result p is),
          ),
        );
        memory = λ is. absurd (some is);
        read = λ is. absurd (p.read is);
        usage = λ is. other (p.usage is);
      }

-- when memory may run out between two ticks, said with other words
pub rows_as : {S K : Type 0} (left : S → Option (List ℕ)) (faults : S → ℕ) (down : S → Bool) (held : K → Option (List ℕ)) (lost : K → ℕ) (is_down : K → Bool) (limit : ℕ) (how : Format) (k : PlainKernel) (b : ℕ) (Parted Parted' : Type 0) (old new : S)
    (out out' : K) (end : Status) → (Parted → Parted') → RunsRows left faults down held lost is_down limit how k b Parted old new out out' end → RunsRows left faults down held lost is_down limit how k b Parted' old new out out' end
rows_as left faults down held lost is_down limit how k b Parted Parted' old new out out' end parted p = record {
  prints = prints_as held lost is_down _ _ _ _ _ out out' _ _ _ _ _ end (λ t. t) (λ t r is. is) (λ n. n) (λ u. u) parted p.prints;
  trace = p.trace;
}

-- ---- nothing was run

module _ {S K : Type 0} (left : S → Option (List ℕ)) (faults : S → ℕ) (down : S → Bool) (held : K → Option (List ℕ)) (lost : K → ℕ) (is_down : K → Bool) (limit : ℕ) (how : Format) (k : PlainKernel) (b : ℕ) (Parted : Type 0) (old new : S)
    (out out' : K) (same : new ≡ old) (kept : out' ≡ out) where
  pub rows_unrun : RunsRows left faults down held lost is_down limit how k b Parted old new out out' status.NoMemory
  rows_unrun = record {
    prints = unbegun left faults down held lost is_down limit how k b Parted old new out out out' (ap held kept);
    trace = subst (λ (t : S). ReadFor left faults down limit how k b old t) (sym same) ([], none);
  }

pub workload_unrun : {K : Type 0} (held : K → Option (List ℕ)) (lost : K → ℕ) (is_down : K → Bool) (r : Report) (Misused : Type 0) (out out' : K) → out' ≡ out → PrintsReport held lost is_down r Misused out out' status.NoMemory
workload_unrun held lost is_down r Misused out out' kept = prints_nothing held lost is_down Unit (λ q. q ≡ r) Misused ⊥ ⊥ out out' (ap held kept)

-- What a run did.
use Rattle.std.specs.Prelude.{◌≡◌, ℕ, Bool, List, Option, Some}
use Rattle.forec_base.specs.Outside.{Fell}
use Rattle.forec_kernel.specs.Shapes.{PlainKernel}
use Rattle.trace_ticks.specs.Ends.{Wanted, ReadFor}
use Rattle.trace_ticks.specs.Prints.{Prints}
use Rattle.trace_ticks.specs.Report.{Report, trace_report}
use Rattle.trace_ticks.specs.declared.format.Format.{Format}
use Rattle.trace_ticks.specs.declared.status.Status.{Status}

-- the bytes of the trace are told
abbrev pub IsTold : Option (List ℕ) → Type 0
IsTold left = (bytes : List ℕ) × (left ≡ Some bytes)

-- r is the report of a kernel for the bytes of the trace
abbrev pub IsTraceReport : ℕ → Format → PlainKernel → ℕ → Option (List ℕ) → Report → Type 0
IsTraceReport limit how k budget left r = (bytes : List ℕ) × (left ≡ Some bytes) × (r ≡ trace_report limit how k budget bytes)

-- A kernel was run over a trace, of which at most `limit` rows, and told in a format: what the trace shows is what is left of it, how often it has failed, and
-- whether its last call failed; the sink as in `Prints`. `Parted`: memory may run out between two ticks.
pub record RunsRows {S K : Type 0} (left : S → Option (List ℕ)) (faults : S → ℕ) (down : S → Bool) (held : K → Option (List ℕ))
    (lost : K → ℕ) (is_down : K → Bool) (limit : ℕ) (how : Format) (k : PlainKernel) (budget : ℕ) (Parted : Type 0) (old new : S) (out_old out_new : K)
    (end : Status) : Type 0 where
  pub prints : Prints held lost is_down (IsTold (left old)) (IsTraceReport limit how k budget (left old)) ⊥
      (Fell (faults old) (faults new) (down new) × Wanted limit how k budget (left old) (left new) (held out_old) (held out_new)) Parted
      out_old out_new end
  pub trace : ReadFor left faults down limit how k budget old new

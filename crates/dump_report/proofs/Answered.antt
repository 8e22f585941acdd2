-- What a call does that tells a report.
use Rattle.std.proofs.Common.{◌≡◌, ℕ, Bool, List, Option, refl, sym, subst}
use Rattle.std.specs.Io.KnownBytes.{Appends}
use Rattle.forec_base.specs.Outside.{Fell}
use Rattle.whole_writes.specs.Calls.{AppendsFront}
use Rattle.dump_report.specs.Calls.{TellsReport}
use Rattle.dump_report.specs.Ends.{EndsReport}
use Rattle.dump_report.specs.Told.{ToldReport}
use Rattle.dump_report.specs.declared.status.DumpStatus.{DumpStatus}
use Rattle.dump_report.specs.declared.status.DumpStatus.TheVariants as status

own_is_no_fault : (s : DumpStatus) → EndsReport s → s ≡ status.WriteFault → ⊥
own_is_no_fault status.Done own e = cc
own_is_no_fault status.Refused own e = cc
own_is_no_fault status.WriteFault own e = own
own_is_no_fault status.NoMemory own e = own

own_has_memory : (s : DumpStatus) → EndsReport s → s ≡ status.NoMemory → ⊥
own_has_memory status.Done own e = cc
own_has_memory status.Refused own e = cc
own_has_memory status.WriteFault own e = own
own_has_memory status.NoMemory own e = own

module _ {K : Type 0} (held : K → Option (List ℕ)) (faults : K → ℕ) (down : K → Bool) (r : ToldReport) (old new : K) where
  -- all of it was written
  pub tells_all : EndsReport r.status → Appends (held old) (held new) r.bytes → TellsReport held faults down r old new r.status
  tells_all own h = record {
    own = λ _. (refl, h);
    write = λ e. absurd (own_is_no_fault r.status own e);
    memory = λ e. absurd (own_has_memory r.status own e);
  }

  -- the sink failed
  pub tells_front : Fell (faults old) (faults new) (down new) → AppendsFront (held old) (held new) r.bytes → TellsReport held faults down r old new status.WriteFault
  tells_front f h = record { own = λ own. absurd own; write = λ _. (f, h); memory = λ e. cc }

-- memory ran out
pub tells_none : {K : Type 0} (held : K → Option (List ℕ)) (faults : K → ℕ) (down : K → Bool) (r : ToldReport) (out : K) → TellsReport held faults down r out out status.NoMemory
tells_none held faults down r out = record { own = λ own. absurd own; write = λ e. cc; memory = λ _. refl }

-- the same of the report that it is
pub tells_as : {K : Type 0} (held : K → Option (List ℕ)) (faults : K → ℕ) (down : K → Bool) (old new : K) (r s : ToldReport) (end : DumpStatus) → s ≡ r → TellsReport held faults down r old new end → TellsReport held faults down s old new end
tells_as held faults down old new r s end e t = subst (λ q. TellsReport held faults down q old new end) (sym e) t

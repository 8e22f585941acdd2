-- A run ends with a report, a fault or out of memory.
use Rattle.std.proofs.Common.{◌≡◌, ◌⊎◌, inl, inr, refl, subst}
use Rattle.trace_ticks.specs.declared.status.Status.{Status}
use Rattle.trace_ticks.specs.declared.status.Status.TheVariants as status
use Rattle.trace_ticks.specs.Ends.{IsOwn}

-- a status that is neither fault
pub neither_fault : (s : Status) → (s ≡ status.ReadFault → ⊥) → (s ≡ status.WriteFault → ⊥) → IsOwn s ⊎ (s ≡ status.NoMemory)
neither_fault status.Done r w = inl tt
neither_fault status.Usage r w = inl tt
neither_fault status.Refused r w = inl tt
neither_fault status.Trace r w = inl tt
neither_fault status.Trapped r w = inl tt
neither_fault status.Over r w = inl tt
neither_fault status.ReadFault r w = absurd (r refl)
neither_fault status.WriteFault r w = absurd (w refl)
neither_fault status.NoMemory r w = inr refl
neither_fault status.Full r w = inl tt

pub own_not : (s : Status) → IsOwn s → s ≡ status.WriteFault → ⊥
own_not s own e = subst IsOwn e own

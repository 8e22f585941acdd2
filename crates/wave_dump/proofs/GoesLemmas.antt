-- What a reader gives, with what was read before it.
use Rattle.std.proofs.Common.{◌≡◌, ℕ, Result, Ok, Err, IsErrAnd, sym, subst, ◌∙◌}
use Rattle.wave_dump.specs.declared.fault.WaveFault.{WaveFault}
use Rattle.wave_dump.specs.declared.fault.WaveFault.TheVariants as fault
use Rattle.wave_dump.specs.Wave.{PlainDump}
use Rattle.wave_dump.specs.Reading.{Continues}

-- a fault is told of what was read before
pub goes_err : {X Y : Type 0} (f : WaveFault) (a b : Result PlainDump ℕ) (g : X → Result PlainDump ℕ) (h : Y → Result PlainDump ℕ) → a ≡ b → Continues {X = X} (Err f) b g → Continues {X = Y} (Err f) a h
goes_err (fault.Bad at) a b g h e r = e ∙ r
goes_err fault.OutOfMemory a b g h e r = tt

-- a fault that is passed on
pub goes_passed : {X Y : Type 0} (r : Result Y WaveFault) (f : WaveFault) (a b : Result PlainDump ℕ) (g : X → Result PlainDump ℕ) (h : Y → Result PlainDump ℕ) →
    IsErrAnd r (λ e. e ≡ f) → a ≡ b → Continues {X = X} (Err f) b g → Continues r a h
goes_passed (Ok y) f a b g h p e k = absurd p
goes_passed {X = X} (Err z) f a b g h p e k = goes_err {X = X} z a b g h e (subst (λ (y : WaveFault). Continues {X = X} (Err y) b g) (sym p) k)

-- want of memory tells nothing of the bytes
pub goes_refused : {Y : Type 0} (r : Result Y WaveFault) (a : Result PlainDump ℕ) (h : Y → Result PlainDump ℕ) → IsErrAnd r (λ e. e ≡ fault.OutOfMemory) → Continues r a h
goes_refused (Ok y) a h p = absurd p
goes_refused {Y = Y} (Err z) a h p = subst (λ (y : WaveFault). Continues {X = Y} (Err y) a h) (sym p) tt

pub goes_after : {X : Type 0} (r : Result X WaveFault) (a b : Result PlainDump ℕ) (g : X → Result PlainDump ℕ) → a ≡ b → Continues r b g → Continues r a g
goes_after (Ok x) a b g e h = e ∙ h
goes_after (Err (fault.Bad at)) a b g e h = e ∙ h
goes_after (Err fault.OutOfMemory) a b g e h = tt

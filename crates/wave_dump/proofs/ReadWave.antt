-- What a reader of whole dumps gives.
use Rattle.std.proofs.Common.{◌≡◌, ℕ, Some, Result, Ok, Err, IfOk, List, sym, ap, subst, ◌∙◌}
use Rattle.wave_dump.specs.declared.fault.WaveFault.{WaveFault}
use Rattle.wave_dump.specs.declared.fault.WaveFault.TheVariants as fault
use Rattle.wave_dump.specs.Wave.{PlainDump, IsDump, wave_text}
use Rattle.wave_dump.specs.Machine.{first_stage, dump_in}
use Rattle.wave_dump.specs.Reading.{Continues}
use Rattle.wave_dump.specs.Fronts.{IsLongest, IsAnswer}
use Rattle.wave_dump.proofs.Exact.{exact, read_again}

-- what is read is the dump that the bytes spell
pub found : {X : Type 0} (view : X → PlainDump) (x : List ℕ) (r : Result X WaveFault) → Continues r (dump_in 0 (Some first_stage) x) (λ d. Ok (view d)) → IfOk r (λ d. IsDump (view d) × (x ≡ wave_text (view d)))
found view x (Ok d) h = let t : IsAnswer x (Ok (view d)) = subst (IsAnswer x) h (exact x) in (t.1, t.0)
found view x (Err e) h = tt

-- the dump that the bytes spell is read, unless memory runs out
pub only : {X : Type 0} (view : X → PlainDump) (x : List ℕ) (r : Result X WaveFault) (d : PlainDump) → IsDump d → x ≡ wave_text d → Continues r (dump_in 0 (Some first_stage) x) (λ e. Ok (view e)) → Continues r (Ok d) (λ e. Ok (view e))
only view x (Ok e) d g s h = sym (ap (dump_in 0 (Some first_stage)) s ∙ read_again d g) ∙ h
only view x (Err (fault.Bad at)) d g s h = sym (ap (dump_in 0 (Some first_stage)) s ∙ read_again d g) ∙ h
only view x (Err fault.OutOfMemory) d g s h = tt

no_both : (d : PlainDump) (at : ℕ) (r : Result PlainDump ℕ) → r ≡ Ok d → r ≡ Err at → ⊥
no_both d at r e f = cc

-- a fault is the longest front, and the bytes are no dump's
pub bad : {X : Type 0} (view : X → PlainDump) (x : List ℕ) (at : ℕ) → Continues {X = X} (Err (fault.Bad at)) (dump_in 0 (Some first_stage) x) (λ d. Ok (view d)) → IsLongest x at × ((d : PlainDump) → IsDump d → x ≡ wave_text d → ⊥)
bad view x at h = (subst (IsAnswer x) h (exact x), λ d g s. no_both d at (dump_in 0 (Some first_stage) x) (ap (dump_in 0 (Some first_stage)) s ∙ read_again d g) h)

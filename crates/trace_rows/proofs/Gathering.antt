-- Bytes that come by reads.
use Rattle.std.proofs.Common.{◌≡◌, ◌≤◌, ℕ, Bool, false, List, [], ◌++◌, length, Option, Ok, Err, refl, sym, ap, subst, ◌∙◌, append_assoc, append-nil}
use Rattle.std.specs.Io.KnownBytes.{Consumes, Keeps}
use Rattle.forec_base.specs.Outside.{HasCause}
use Rattle.trace_rows.specs.Reader.{HasLine, Came}
use Rattle.trace_rows.specs.SourceReads.{IsRead, none, more, Gathers}
use Rattle.trace_rows.specs.Trace.{most_line_bytes}
use Rattle.trace_rows.proofs.Refilling.{consumes_nothing}

module _ {S : Type 0} (left : S → Option (List ℕ)) (faults : S → ℕ) (down : S → Bool) where
  -- nothing was read
  pub gathers_none : (held : List ℕ) (ended : Bool) (s : S) → Gathers left faults down held ended held s s
  gathers_none held ended s = record { given = []; behind = sym (append-nil held); reads = none }

  -- one read more
  pub gathers_more : (held w w' : List ℕ) (ended : Bool) (s t u : S) → Gathers left faults down held ended w s t → (HasLine w → ⊥) → ended ≡ false → length w ≤ most_line_bytes →
      (piece : List ℕ) × (w' ≡ w ++ piece) × IsRead left faults down t u piece → Gathers left faults down held ended w' s u
  gathers_more held w w' ended s t u g lacks on short p =
      record {
        given = g.given ++ p.0;
        behind = p.1 ∙ ap (λ x. x ++ p.0) g.behind ∙ append_assoc held g.given p.0;
        reads = more g.reads (subst (λ (x : List ℕ). HasLine x → ⊥) g.behind lacks, on, subst (λ (x : List ℕ). length x ≤ most_line_bytes) g.behind short) p.2;
      }

  -- the source failed
  pub read_failed : {T E : Type 0} (old new : S) (e : E) → Keeps (left old) (left new) → HasCause {T = T} (faults old) (faults new) (down new) (Err e) → IsRead left faults down old new []
  read_failed old new e keeps cause =
      record { came = consumes_nothing (left old) (left new) keeps; later = cause.later; failed = λ _. (cause.failed, refl) }

  -- a piece came
  pub read_gave : {T E : Type 0} (old new : S) (v : T) (piece : List ℕ) → Consumes (left old) (left new) piece → HasCause {T = T} {E = E} (faults old) (faults new) (down new) (Ok v) → IsRead left faults down old new piece
  read_gave old new v piece came cause =
      record { came = came; later = cause.later; failed = λ d. absurd (let n = cause.down in cc) }

pub came_by : (w w' : List ℕ) (a b : Option (List ℕ)) (piece : List ℕ) → w' ≡ w ++ piece → Consumes a b piece → Came w w' a b
came_by w w' a b piece e c = record { bytes = piece; held = e; source = c }

-- What holds of all verdicts.
use Rattle.std.specs.Prelude.{◌≡◌, ◌≤◌, ℕ, ℤ, List, length}
use Rattle.std.specs.List.{AllByRecursion}
use Rattle.forec_base.specs.declared.limits.TheConstants.{MAX_OUTPUTS}
use Rattle.forec_kernel.specs.Shapes.{PlainKernel}
use Rattle.forec_kernel.specs.Ticks.{run_of}
use Rattle.forec_kernel.specs.WellFormed.{WellFormed}
use Rattle.tick_bounds.specs.Bound.{worst_case}
use Rattle.bound_laws.specs.Paced.{Paced}
use Rattle.bound_laws.specs.Laws.{NoneOver}
use Rattle.value_ranges.specs.Words.{AreWords, KernelWords}
use Rattle.value_ranges.specs.Laws.{TickWords}
use Rattle.text_names.specs.Names.{IsPlainName, IsSafeName, HasNames, names_by_number}
use Rattle.text_verdict.specs.Judging.{Verdict, Accepts, Judged}
use Rattle.text_verdict.specs.declared.counts.Counts.{Counts}

-- a text has one verdict at most
abbrev pub OneVerdict : Type 0
OneVerdict = (text : List ℕ) (v w : Verdict) → Judged text v → Judged text w → v ≡ w

-- it can't be that a text has no verdict
abbrev pub SomeVerdict : Type 0
SomeVerdict = (text : List ℕ) → ((v : Verdict) → Judged text v → ⊥) → ⊥

-- the kernel of a text that is accepted is well formed
abbrev pub AcceptedTextsAreFormed : Type 0
AcceptedTextsAreFormed = (text : List ℕ) (counts : Counts) (k : PlainKernel) → Judged text (Accepts counts k) → WellFormed k

-- the kernel of a text that is accepted is paced
abbrev pub AcceptedTextsArePaced : Type 0
AcceptedTextsArePaced = (text : List ℕ) (counts : Counts) (k : PlainKernel) → Judged text (Accepts counts k) → Paced k

-- with a budget of at least its worst case no run of it has a tick that is over
abbrev pub AcceptedTextsAreNeverOver : Type 0
AcceptedTextsAreNeverOver =
    (text : List ℕ) (counts : Counts) (k : PlainKernel) → Judged text (Accepts counts k) → (budget : ℕ) → worst_case k ≤ budget → (rows : List (List ℤ)) → NoneOver (run_of k budget rows)

-- each number in the kernel of a text that is accepted fits 32 bits
abbrev pub AcceptedTextsHaveWords : Type 0
AcceptedTextsHaveWords = (text : List ℕ) (counts : Counts) (k : PlainKernel) → Judged text (Accepts counts k) → KernelWords k

-- for rows whose numbers fit, each output of each tick of its runs does too
abbrev pub AcceptedTextsGiveWords : Type 0
AcceptedTextsGiveWords =
    (text : List ℕ) (counts : Counts) (k : PlainKernel) → Judged text (Accepts counts k) → (budget : ℕ) (rows : List (List ℤ)) → AllByRecursion AreWords rows →
    AllByRecursion (TickWords k) (run_of k budget rows)

-- the variables in the kernel of a text that is accepted have names as texts spell them
abbrev pub AcceptedTextsHaveNames : Type 0
AcceptedTextsHaveNames = (text : List ℕ) (counts : Counts) (k : PlainKernel) → Judged text (Accepts counts k) → HasNames k.shape

-- so each byte of them is a letter, `_`, a digit, `[` or `]`
abbrev pub AcceptedTextsHavePlainNames : Type 0
AcceptedTextsHavePlainNames = (text : List ℕ) (counts : Counts) (k : PlainKernel) → Judged text (Accepts counts k) → AllByRecursion IsPlainName k.shape.names

-- there are at most 64 outputs, and each byte of their names is one from 33 to 126, and none of `$`, `(` and `)`
abbrev pub AcceptedTextsHaveSafeOutputs : Type 0
AcceptedTextsHaveSafeOutputs =
    (text : List ℕ) (counts : Counts) (k : PlainKernel) → Judged text (Accepts counts k) →
    (length (names_by_number k.shape.names k.shape.outputs) ≤ MAX_OUTPUTS) × AllByRecursion IsSafeName (names_by_number k.shape.names k.shape.outputs)

-- What is done with a text, from what is asked of it.
use Rattle.std.specs.Prelude.{◌≡◌, ◌⊎◌, ℕ, Bool, List, Option, Some, None, IfSome}
use Rattle.forec_base.specs.Outside.{Fell, Rose}
use Rattle.forec_base.specs.declared.limits.TheConstants.{MAX_ROWS}
use Rattle.forec_kernel.specs.Shapes.{PlainKernel}
use Rattle.command_words.specs.Requests.{PlainRunning, PlainCommand}
use Rattle.text_verdict.specs.declared.counts.Counts.{Counts}
use Rattle.forec_engine.specs.Budgets.{budget_for}
use Rattle.forec_engine.specs.Commands.{AcceptedReport, CommandReport, TextReport, IsReport, TellsTrace, TellsNamed, IsKnown}
use Rattle.forec_engine.specs.Ends.{WantedByText, WantedByWords, ReadForText, ReadForWords, CommandIsMisused, FoldedIsMisused, AcceptedSo, IsMisuse, NameText, AskForRewriting, Rewrites, running_in, telling_in}
use Rattle.forec_engine.specs.Placing.{misplacing}
use Rattle.whole_writes.specs.Calls.{AppendsFront}
use Rattle.trace_ticks.specs.Ends.{IsOwn, Given, Wanted, ReadFor}
use Rattle.trace_ticks.specs.KernelNames.{run_format}
use Rattle.trace_ticks.specs.Prints.{Prints}
use Rattle.trace_ticks.specs.Report.{Report}
use Rattle.trace_ticks.specs.declared.status.Status.{Status}
use Rattle.trace_ticks.specs.declared.status.Status.TheVariants as status

-- this is said of how a command runs over the trace; it does
abbrev pub Running : PlainCommand → (PlainRunning → Type 0) → Type 0
Running command P = (running : PlainRunning) × (running_in command ≡ Some running) × P running

module _ {S K : Type 0} (left : S → Option (List ℕ)) (faults : S → ℕ) (down : S → Bool) (held : K → Option (List ℕ)) (lost : K → ℕ)
    (is_down : K → Bool) (command : PlainCommand) where
  -- it was done with the kernel of a text that is accepted
  pub record AnswersAccepted (counts : Counts) (k : PlainKernel) (old new : S) (out_old out_new : K) (end : Status) : Type 0 where
    pub prints : Prints held lost is_down (TellsTrace command (left old)) (AcceptedReport command (left old) counts k) (CommandIsMisused command k)
        (Running command (λ running. Fell (faults old) (faults new) (down new) × (misplacing k running.placing ≡ None)
        × (units : ℕ) × (budget_for k running.budget ≡ Some units) × Wanted MAX_ROWS (run_format (telling_in command) k) k units (left old) (left new) (held out_old) (held out_new))) (Rewrites command) out_old out_new end
    pub trace : (new ≡ old) ⊎ Running command (λ running. (misplacing k running.placing ≡ None)
        × (units : ℕ) × (budget_for k running.budget ≡ Some units) × ReadFor left faults down MAX_ROWS (run_format (telling_in command) k) k units old new)

  -- it was done with the text of a name, whose kernel was folded first, or not. `Lost`: the store of the texts failed
  pub record AnswersNamed (fold : Bool) (content : List ℕ → Option (List ℕ)) (name : List ℕ) (Lost : Type 0) (old new : S) (out_old out_new : K) (end : Status) : Type 0 where
    pub prints : Prints held lost is_down (TellsNamed content name command (left old))
        (λ r. (text : List ℕ) × (content name ≡ Some text) × TextReport text (CommandReport command fold (left old)) r)
        (IfSome (content name) (AcceptedSo (FoldedIsMisused command fold)))
        ((Lost × (held out_new ≡ held out_old)) ⊎ Running command (λ running. Fell (faults old) (faults new) (down new)
        × IfSome (content name) (λ text. WantedByText (telling_in command) fold running text (left old) (left new) (held out_old) (held out_new))))
        (Rewrites command) out_old out_new end
    pub trace : (new ≡ old) ⊎ Running command (λ running. IfSome (content name) (λ text. ReadForText left faults down (telling_in command) fold running text old new))

-- What the words ask was done. `content`: of a store the text of each name. `missed`, `gone`: how often the store has failed, and whether its
-- last call failed; `faults` and `down` of the trace, `lost` and `is_down` of the sink.
pub record AnswersWords {T S K : Type 0} (content : T → List ℕ → Option (List ℕ)) (missed : T → ℕ) (gone : T → Bool)
    (left : S → Option (List ℕ)) (faults : S → ℕ) (down : S → Bool) (held : K → Option (List ℕ)) (lost : K → ℕ) (is_down : K → Bool)
    (words : List (List ℕ)) (store_old store_new : T) (old new : S) (out_old out_new : K) (end : Status) : Type 0 where
  -- where the text and the trace are known, what is printed is a report of the words, and the status is the report's
  pub own : IsOwn end → IsKnown words (content store_old) (left old) →
      (r : Report) × IsReport words (content store_old) (left old) r × Given r end (held out_old) (held out_new)
  -- a store or a trace that was wanted failed; what was printed is what the rows that had come whole print
  pub read : end ≡ status.ReadFault → (Fell (missed store_old) (missed store_new) (gone store_new) × (held out_new ≡ held out_old))
      ⊎ (Fell (faults old) (faults new) (down new) × WantedByWords words (content store_old) (left old) (left new) (held out_old) (held out_new))
  -- the sink failed; what was printed is a prefix of a report of the words
  pub write : end ≡ status.WriteFault → Fell (lost out_old) (lost out_new) (is_down out_new) × (IsKnown words (content store_old) (left old) →
      (r : Report) × IsReport words (content store_old) (left old) r × AppendsFront (held out_old) (held out_new) r.bytes)
  -- the trace is read by `run`, `wave`, `log`, `replay` and `explain` alone, for a text that is accepted, where neither the budget nor the list of places is refused, and no read is asked for
  -- once a line that stops the program has come whole
  pub trace : (new ≡ old) ⊎ ReadForWords left faults down words (content store_old) old new
  -- no text is read but the one that the words name
  pub texts : (store_new ≡ store_old) ⊎ NameText words
  -- where memory ran out, nothing was printed; of a program that is rewritten a prefix of a report may be
  pub memory : end ≡ status.NoMemory → (held out_new ≡ held out_old) ⊎ (AskForRewriting words × (IsKnown words (content store_old) (left old) →
      (r : Report) × IsReport words (content store_old) (left old) r × AppendsFront (held out_old) (held out_new) r.bytes))
  -- this status comes only where the words ask for nothing, the budget is a bound that there isn't, or the list of places is refused
  pub usage : end ≡ status.Usage → IsMisuse words (content store_old)
  -- where no count of faults rises, the report is given whole, or memory ran out
  pub complete : (Rose (missed store_old) (missed store_new) → ⊥) → (Rose (faults old) (faults new) → ⊥)
      → (Rose (lost out_old) (lost out_new) → ⊥) → IsOwn end ⊎ (end ≡ status.NoMemory)

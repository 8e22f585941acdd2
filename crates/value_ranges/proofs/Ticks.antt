-- The outputs of each tick fit 32 bits.
use Rattle.std.proofs.Common.{ℕ, suc, ◌≡◌, ℤ, Bool, true, false, nat_lt, List, [], ◌∷◌, length, refl, ap, FitsSigned, w32}
use Rattle.std.specs.List.{AllByRecursion}
use Rattle.forec_kernel.specs.declared.shape.VarCopy.{VarCopy}
use Rattle.forec_kernel.specs.declared.shape.Variable.{Variable}
use Rattle.forec_kernel.specs.declared.shape.Outcome.TheVariants as outcome
use Rattle.forec_kernel.specs.Shapes.{PlainKernel}
use Rattle.forec_kernel.specs.Texts.{Thread, uses_of, words_of, body_of, put_copy}
use Rattle.forec_kernel.specs.Steps.{Move, Finished, Halts, Moves, Traps, thread_move, woken}
use Rattle.forec_kernel.specs.Ticks.{Going, is_stopped, moved, TickState, Fresh, After_tick, start_copies, unmarked, with_row, begin, Tick, values_of, outcome_of, concluded, finished, tick, goes_on, run_from}
use Rattle.value_ranges.specs.Words.{AreWords, KernelWords}
use Rattle.value_ranges.specs.Laws.{FitReached, at_first, after, TickWords, TicksFit, ValuesFit}
use Rattle.value_ranges.proofs.Values.{CopiesFit, copy_fits, fresh_fits}
use Rattle.value_ranges.proofs.Texts.{TextFits, text_fits, put_fits}
use Rattle.value_ranges.proofs.Moves.{MoveFits, body_fits, move_fits}
use Rattle.value_ranges.proofs.Waking.{text_if_fits, woken_fits}
use Rattle.value_ranges.proofs.Kept.{finished_has}

-- ---- copies at the start of a tick

starts_fit : (vs : List Variable) → AllByRecursion (λ (v : Variable). FitsSigned w32 v.start) vs → CopiesFit (start_copies vs)
starts_fit [] h = tt
starts_fit (v ∷ vs) h = (h.0, starts_fit vs h.1)

unmarked_fit : (copies : List VarCopy) → CopiesFit copies → CopiesFit (unmarked copies)
unmarked_fit [] h = tt
unmarked_fit (c ∷ copies) h = (h.0, unmarked_fit copies h.1)

row_fits : (uses inputs : List ℕ) (row : List ℤ) (copies : List VarCopy) → AreWords row → CopiesFit copies →
    CopiesFit (with_row uses inputs row copies)
row_fits uses [] row copies h c = c
row_fits uses (v ∷ vs) [] copies h c = c
row_fits uses (v ∷ vs) (n ∷ ns) copies h c =
    row_fits uses vs ns (put_copy uses copies v (record { value = n; modified = false })) h.1
    (put_fits uses copies v (record { value = n; modified = false }) c h.0)

outputs_fit : (uses : List ℕ) (copies : List VarCopy) (vs : List ℕ) → CopiesFit copies → AreWords (values_of uses copies vs)
outputs_fit uses copies [] h = tt
outputs_fit uses copies (v ∷ vs) h = (copy_fits uses copies v h, outputs_fit uses copies vs h)

outputs_count : (uses : List ℕ) (copies : List VarCopy) (vs : List ℕ) → length (values_of uses copies vs) ≡ length vs
outputs_count uses copies [] = refl
outputs_count uses copies (v ∷ vs) = ap suc (outputs_count uses copies vs)

-- ---- thread 0

pub record ThreadFits (t : Thread) : Type 0 where
  pub text : TextFits t.text
  pub words : AreWords t.words
  pub copies : CopiesFit t.copies

abbrev pub StateFits : TickState → Type 0
StateFits Fresh = Unit {0}
StateFits (After_tick t) = ThreadFits t

-- the outputs of a tick, and the thread that it leaves
pub record TickFits (k : PlainKernel) (t : Tick) : Type 0 where
  pub outputs : TickWords k t
  pub state : StateFits t.state

module _ (k : PlainKernel) (numbers : KernelWords k) where
  moved_fits : (g : Going) → ThreadFits g.thread → (m : Move) → MoveFits m → ThreadFits (moved g m).thread
  moved_fits g h Finished f = record { text = h.text; words = h.words; copies = h.copies }
  moved_fits g h Halts f = record { text = h.text; words = h.words; copies = h.copies }
  moved_fits g h (Moves R w c u) f = record { text = f.0; words = f.1; copies = f.2 }
  moved_fits g h (Traps place trap u) f = record { text = h.text; words = h.words; copies = h.copies }

  step_fits : (g : Going) → ThreadFits g.thread → ThreadFits (moved g (thread_move k [] g.thread)).thread
  step_fits g h =
      moved_fits g h (thread_move k [] g.thread)
      (move_fits k numbers [] (uses_of k g.thread.number) g.thread.words g.thread.copies g.thread.text h.words h.copies h.text)

  pub begin_fits : (old : TickState) (row : List ℤ) → StateFits old → AreWords row → ThreadFits (begin k old row).thread
  begin_fits Fresh row h r =
      record {
        text = text_fits (body_of k 0) (body_fits k numbers 0);
        words = fresh_fits [] (words_of k 0) tt;
        copies = row_fits (uses_of k 0) k.shape.inputs row (start_copies k.shape.variables) r (starts_fit k.shape.variables numbers.starts);
      }
  begin_fits (After_tick t) row h r =
      let copies = with_row (uses_of k 0) k.shape.inputs row (unmarked t.copies) in
      let c = row_fits (uses_of k 0) k.shape.inputs row (unmarked t.copies) r (unmarked_fit t.copies h.copies) in
      record {
        text =
            text_if_fits t.text (woken k (uses_of k 0) t.words copies t.text) h.text
            (woken_fits k (uses_of k 0) t.words copies t.text c h.text);
        words = h.words;
        copies = c;
      }

  concluded_fits : (budget : ℕ) (old : TickState) (g : Going) → StateFits old → ThreadFits g.thread → TickFits k (concluded k budget old g)
  concluded_fits budget old g h f = pick (nat_lt budget g.units)
    where
      pick : (b : Bool) →
          TickFits k
          (elim b [
            | true ↦ record { outcome = outcome.Over; outputs = []; state = old }
            | false ↦ record {
              outcome = outcome_of g.thread.status;
              outputs = values_of (uses_of k 0) g.thread.copies k.shape.outputs;
              state = After_tick g.thread;
            }
          ])
      pick true = record { outputs = record { each = tt; count = λ n. absurd (n refl) }; state = h }
      pick false =
          record {
            outputs = record {
              each = outputs_fit (uses_of k 0) g.thread.copies k.shape.outputs f.copies;
              count = λ n. outputs_count (uses_of k 0) g.thread.copies k.shape.outputs;
            };
            state = f;
          }

  pub tick_fits : (budget : ℕ) (old : TickState) (row : List ℤ) → StateFits old → AreWords row → TickFits k (tick k budget old row)
  tick_fits budget old row h r =
      let g = begin k old row in
      concluded_fits budget old (finished k (is_stopped budget) (suc budget) g) h
      (finished_has k ThreadFits step_fits (is_stopped budget) (suc budget) g (begin_fits old row h r))

  -- ---- runs

  reached_fits : (s : TickState) → FitReached k s → StateFits s
  reached_fits s at_first = tt
  reached_fits s (after budget old row r f) = (tick_fits budget old row (reached_fits old r) f).state

  run_fits : (budget : ℕ) (rows : List (List ℤ)) (old : TickState) → StateFits old → AllByRecursion AreWords rows →
      AllByRecursion (TickWords k) (run_from k budget old rows)
  run_fits budget [] old h r = tt
  run_fits budget (row ∷ rows) old h r =
      let f = tick_fits budget old row h r.0 in
      pick (tick k budget old row) (goes_on (tick k budget old row).outcome) f.outputs
      (run_fits budget rows (tick k budget old row).state f.state r.1)
    where
      pick : (t : Tick) (b : Bool) → TickWords k t → AllByRecursion (TickWords k) (run_from k budget t.state rows) →
          AllByRecursion (TickWords k) (elim b [ true ↦ t ∷ run_from k budget t.state rows | false ↦ t ∷ [] ])
      pick t true h f = (h, f)
      pick t false h f = (h, tt)

pub ticks_fit : TicksFit
ticks_fit k numbers old r budget row f = (tick_fits k numbers budget old row (reached_fits k numbers old r) f).outputs

pub values_fit : ValuesFit
values_fit k numbers budget rows f = run_fits k numbers budget rows Fresh tt f

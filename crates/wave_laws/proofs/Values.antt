-- What is told of ticks: values of each output, in so many ticks at most.
use Rattle.std.proofs.Common.{◌≡◌, ◌≢◌, ℕ, suc, ◌+◌, ◌≤◌, ℤ, List, [], ◌∷◌, ◌++◌, length, map, refl, sym, ap, ◌∙◌, arith, add-one, Some, None}
use Rattle.std.specs.List.{AllByRecursion}
use Rattle.std.proofs.lemmas.List.{length-map}
use Rattle.forec_kernel.specs.declared.shape.Outcome.{Outcome}
use Rattle.forec_kernel.specs.declared.shape.Outcome.TheVariants as outcome
use Rattle.forec_kernel.specs.Shapes.{PlainKernel}
use Rattle.forec_kernel.specs.Ticks.{TickState, Tick, tick}
use Rattle.dump_report.specs.Told.{told_ticks}
use Rattle.trace_rows.specs.Trace.{Row}
use Rattle.trace_ticks.specs.Formats.{tick_written}
use Rattle.trace_ticks.specs.KernelNames.{output_names}
use Rattle.trace_ticks.specs.OneRun.{told_after, values_from, ticks_written}
use Rattle.trace_ticks.specs.declared.format.Format.TheVariants as format
use Rattle.value_ranges.specs.Laws.{FitReached, after, TickWords, TicksFit}
use Rattle.value_ranges.specs.Words.{AreWords, KernelWords}
use Rattle.wave_dump.specs.Wave.{AreValues, tick_text, ticks_text, no_values}
use Rattle.wave_dump.specs.Writing.{none_yet}

-- ---- each tick's values

-- the values of ticks, and how many ticks there are
pub record GoodValues (outputs most : ℕ) (ticks : List (List ℤ)) : Type 0 where
  pub each : AllByRecursion (AreValues outputs) ticks
  pub few : length ticks ≤ most

names_each : (k : PlainKernel) → length (output_names k) ≡ length k.shape.outputs
names_each k = length-map k.shape.outputs _

module _ (k : PlainKernel) (fit : TicksFit) (words : KernelWords k) (budget : ℕ) where
  told_good : (t : Tick) (most : ℕ) (later : List (List ℤ)) → TickWords k t → GoodValues (length (output_names k)) most later → GoodValues (length (output_names k)) (suc most) (told_after t.outcome t.outputs later)
  told_good t most later w g = by t.outcome refl
    where
      values : (t.outcome ≢ outcome.Over) → AreValues (length (output_names k)) t.outputs
      values not = record { count = w.count not ∙ sym (names_each k); each = w.each }

      by : (o : Outcome) → t.outcome ≡ o → GoodValues (length (output_names k)) (suc most) (told_after o t.outputs later)
      by outcome.Paused e = record { each = (values (λ f. let bad : outcome.Paused ≡ outcome.Over = sym e ∙ f in cc), g.each); few = omega (arith, g.few) }
      by outcome.Ended e = record { each = (values (λ f. let bad : outcome.Ended ≡ outcome.Over = sym e ∙ f in cc), tt); few = omega arith }
      by (outcome.Trapped place trap) e = record { each = tt; few = omega arith }
      by outcome.Over e = record { each = tt; few = omega arith }

  pub values_good : (s : TickState) → FitReached k s → (rows : List Row) → AllByRecursion AreWords rows → GoodValues (length (output_names k)) (length rows) (values_from k budget s rows)
  values_good s r [] h = record { each = tt; few = omega arith }
  values_good s r (row ∷ rows) h =
      let t = tick k budget s row in
      told_good t (length rows) (values_from k budget t.state rows) (fit k words s r budget row h.0) (values_good t.state (after budget s row r h.0) rows h.1)

-- ---- what a dump and a report write of them

pub none_are : (names : List (List ℕ)) → none_yet (length names) ≡ no_values names
none_are [] = refl
none_are (name ∷ names) = ap (λ olds. None ∷ olds) (none_are names)

pub wave_writes : (names : List (List ℕ)) (olds : List _) (n : ℕ) (ticks : List (List ℤ)) → ticks_written (format.Wave names olds) n ticks ≡ ticks_text n olds ticks
wave_writes names olds n [] = refl
wave_writes names olds n (values ∷ ticks) =
    ap (λ bs. tick_text n olds values ++ bs) (wave_writes names (map Some values) (n + 1) ticks ∙ ap (λ m. ticks_text m (map Some values) ticks) (add-one n))

pub report_writes : (names : List (List ℕ)) (n : ℕ) (ticks : List (List ℤ)) → ticks_written (format.Report names) n ticks ≡ told_ticks n names ticks
report_writes names n [] = refl
report_writes names n (values ∷ ticks) = ap (λ bs. tick_written (format.Report names) n values ++ bs) (report_writes names (n + 1) ticks)

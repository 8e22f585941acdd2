-- The ticks of a workload, one by one.
use Rattle.std.proofs.Common.{◌≡◌, ℕ, suc, ◌+◌, ◌-◌, ◌%◌, ◌^◌, ◌<◌, ◌≤◌, ℤ, Bool, true, false, Option, List, [], ◌∷◌, ◌++◌, length, get_or, replicate, drop, refl, sym, ap, subst, ◌∙◌, arith, append_assoc, append-nil, length-append}
use Rattle.std.specs.Int.{cast_unsigned, w32}
use Rattle.std.specs.List.{sum_by}
use Rattle.std.proofs.Math.Nat.{mod-add-mod}
use Rattle.std.proofs.lemmas.List.{drop_more}
use Rattle.std.proofs.lemmas.List.Sums.{sum_by-cons, sum_by-append}
use Rattle.forec_kernel.specs.declared.shape.Outcome.{Outcome}
use Rattle.forec_kernel.specs.declared.shape.Outcome.TheVariants as outcome
use Rattle.forec_kernel.specs.Composed.{TickInput, state_after}
use Rattle.forec_kernel.specs.Shapes.{PlainKernel}
use Rattle.forec_kernel.specs.Ticks.{TickState, Fresh, Tick, tick, goes_on, run_from}
use Rattle.trace_ticks.specs.Progress.{IsPut}
use Rattle.trace_ticks.specs.Ticking.{tick_after}
use Rattle.trace_ticks.specs.declared.status.Status.{Status}
use Rattle.trace_ticks.specs.declared.status.Status.TheVariants as status
use Rattle.trace_ticks.specs.Prints.{PrintsReport}
use Rattle.trace_ticks.proofs.Following.{outcome_at, outputs_at, led_on}
use Rattle.trace_ticks.proofs.Printing.{said_as}
use Rattle.trace_ticks.specs.Report.{Report, last_outcome}
use Rattle.trace_ticks.specs.Workload.{zero_row, workload_ticks, values_sum, outputs_sum, ticks_report, ticked_report}
use Rattle.trace_ticks.proofs.Advancing.{run_on, run_stops}
use Rattle.trace_ticks.specs.WaitingRoom.{GainsBytes}
use Rattle.trace_ticks.specs.declared.waiting.Waiting.{Waiting}
use Rattle.trace_ticks.specs.declared.generated.TheConstants.{WORKLOAD_TICKS}

-- ---- sums

-- a value more, of those from i on
pub sum_more : (start sum i : ℕ) (values : List ℤ) (value : ℤ) → i < length values → value ≡ get_or values i value →
    (sum + values_sum (drop i values)) % 2 ^ 32 ≡ start → ((sum + cast_unsigned w32 value) % 2 ^ 32 + values_sum (drop (i + 1) values)) % 2 ^ 32 ≡ start
sum_more start sum i values value low is e =
    let rest = values_sum (drop (i + 1) values) in
    let more : values_sum (drop i values) ≡ cast_unsigned w32 value + rest =
    ap values_sum (drop_more values i value low) ∙ sum_by-cons (cast_unsigned w32) (get_or values i value) (drop (i + 1) values) ∙ ap (λ v. cast_unsigned w32 v + rest) (sym is) in
    let whole : sum + cast_unsigned w32 value + rest ≡ sum + values_sum (drop i values) = omega (arith, more) in
    mod-add-mod (sum + cast_unsigned w32 value) (2 ^ 32) rest ∙ ap (λ n. n % 2 ^ 32) whole ∙ e

abbrev tick_sum : Tick → ℕ
tick_sum t = values_sum t.outputs

sum_of_one : (t : Tick) → sum_by tick_sum (t ∷ []) ≡ tick_sum t
sum_of_one t = omega (arith, sum_by-cons tick_sum t [])

outputs_more : (done : List Tick) (t : Tick) → outputs_sum (done ++ t ∷ []) ≡ (outputs_sum done + values_sum t.outputs) % 2 ^ 32
outputs_more done t =
    let both : sum_by tick_sum (done ++ t ∷ []) ≡ sum_by tick_sum done + tick_sum t = sum_by-append tick_sum done (t ∷ []) ∙ ap (λ n. sum_by tick_sum done + n) (sum_of_one t) in
    ap (λ n. n % 2 ^ 32) both ∙ sym (mod-add-mod (sum_by tick_sum done) (2 ^ 32) (tick_sum t))

-- ---- the last tick

last_of : (done : List Tick) (t : Tick) → last_outcome (done ++ t ∷ []) ≡ t.outcome
last_of [] t = refl
last_of (d ∷ []) t = refl
last_of (d ∷ e ∷ ds) t = last_of (e ∷ ds) t

report_is : (threads : ℕ) (k : PlainKernel) (budget : ℕ) (ticks : List Tick) (o : Outcome) → workload_ticks k budget ≡ ticks → last_outcome ticks ≡ o →
    ticked_report threads k budget ≡ ticks_report threads budget ticks o
unfolding ticked_report
report_is threads k budget ticks o e f = ap (λ ts. ticks_report threads budget ts (last_outcome ts)) e ∙ ap (ticks_report threads budget ticks) f

-- ---- ticks that have all paused

pub record Gone (k : PlainKernel) (budget : ℕ) (Follows : List TickInput → Type 0) (count sum : ℕ) : Type 0 where
  pub turns : List TickInput
  pub follows : Follows turns
  pub state : TickState
  pub led : state ≡ state_after k Fresh turns
  pub done : List Tick
  pub counted : length done ≡ count
  pub summed : sum ≡ outputs_sum done
  pub paused : last_outcome done ≡ outcome.Paused
  pub whole : workload_ticks k budget ≡ done ++ run_from k budget state (replicate (WORKLOAD_TICKS - count) (zero_row k.shape))

pub gone_none : (k : PlainKernel) (budget : ℕ) (F : List TickInput → Type 0) → F [] → Gone k budget F 0 0
gone_none k budget F f = record { turns = []; follows = f; state = Fresh; led = refl; done = []; counted = refl; summed = refl; paused = refl; whole = refl }

module _ (k : PlainKernel) (budget : ℕ) (F : List TickInput → Type 0) (count sum : ℕ) (g : Gone k budget F count sum) where
  abbrev next : Tick
  next = tick k budget g.state (zero_row k.shape)

  abbrev pub zeros : TickInput
  zeros = record { row = zero_row k.shape; budget = budget }

  rows_left : count < WORKLOAD_TICKS → replicate (WORKLOAD_TICKS - count) (zero_row k.shape) ≡ zero_row k.shape ∷ replicate (WORKLOAD_TICKS - (count + 1)) (zero_row k.shape)
  rows_left low =
      let one : WORKLOAD_TICKS - count ≡ suc (WORKLOAD_TICKS - (count + 1)) = omega (arith, low) in
      ap (λ n. replicate n (zero_row k.shape)) one

  pub gone_more : (F' : List TickInput → Type 0) (values : List ℤ) (total : ℕ) → count < WORKLOAD_TICKS → next.outcome ≡ outcome.Paused → values ≡ next.outputs → total ≡ (sum + values_sum values) % 2 ^ 32 → F' (g.turns ++ zeros ∷ []) →
      Gone k budget F' (count + 1) total
  gone_more F' values total low how are is f =
      let on : goes_on next.outcome ≡ true = ap goes_on how in
      let rest = replicate (WORKLOAD_TICKS - (count + 1)) (zero_row k.shape) in
      record {
        turns = g.turns ++ zeros ∷ [];
        follows = f;
        state = next.state;
        led = led_on k g.turns zeros g.state g.led;
        done = g.done ++ next ∷ [];
        counted = length-append g.done (next ∷ []) ∙ ap (λ n. n + 1) g.counted;
        summed = is ∙ ap (λ n. (n + values_sum values) % 2 ^ 32) g.summed ∙ ap (λ (vs : List ℤ). (outputs_sum g.done + values_sum vs) % 2 ^ 32) are ∙ sym (outputs_more g.done next);
        paused = last_of g.done next ∙ how;
        whole = g.whole ∙ ap (λ rows. g.done ++ run_from k budget g.state rows) (rows_left low) ∙ ap (λ ts. g.done ++ ts) (run_on k budget g.state (zero_row k.shape) rest on)
            ∙ sym (append_assoc g.done (next ∷ []) (run_from k budget next.state rest));
      }

  all_ticks : count < WORKLOAD_TICKS → goes_on next.outcome ≡ false → workload_ticks k budget ≡ g.done ++ next ∷ []
  all_ticks low off =
      g.whole ∙ ap (λ rows. g.done ++ run_from k budget g.state rows) (rows_left low) ∙ ap (λ ts. g.done ++ ts) (run_stops k budget g.state (zero_row k.shape) (replicate (WORKLOAD_TICKS - (count + 1)) (zero_row k.shape)) off)

  -- the report where a tick doesn't pause
  pub stopped : (threads : ℕ) (o : Outcome) → count < WORKLOAD_TICKS → o ≡ next.outcome → goes_on o ≡ false →
      ticked_report threads k budget ≡ ticks_report threads budget (g.done ++ next ∷ []) o
  stopped threads o low how off =
      report_is threads k budget (g.done ++ next ∷ []) o (all_ticks low (ap goes_on (sym how) ∙ off)) (last_of g.done next ∙ sym how)

  pub number : length (g.done ++ next ∷ []) ≡ count + 1
  number = length-append g.done (next ∷ []) ∙ ap (λ n. n + 1) g.counted

  pub total_is : (values : List ℤ) (total : ℕ) → values ≡ next.outputs → total ≡ (sum + values_sum values) % 2 ^ 32 → total ≡ outputs_sum (g.done ++ next ∷ [])
  total_is values total are is =
      is ∙ ap (λ n. (n + values_sum values) % 2 ^ 32) g.summed ∙ ap (λ (vs : List ℤ). (outputs_sum g.done + values_sum vs) % 2 ^ 32) are ∙ sym (outputs_more g.done next)

  -- the report where all have paused
  pub ended : (threads : ℕ) → WORKLOAD_TICKS ≤ count → ticked_report threads k budget ≡ ticks_report threads budget g.done outcome.Paused
  ended threads all =
      let none : WORKLOAD_TICKS - count ≡ 0 = omega (arith, all) in
      report_is threads k budget g.done outcome.Paused
      (g.whole ∙ ap (λ n. g.done ++ run_from k budget g.state (replicate n (zero_row k.shape))) none ∙ append-nil g.done) g.paused

-- ---- a tick that was made

-- after these ticks, over a row that is 0 for each input
module _ (k : PlainKernel) (budget : ℕ) (turns : List TickInput) (s : TickState) (led : s ≡ state_after k Fresh turns) (row : List ℤ) (are : row ≡ zero_row k.shape) where
  abbrev made : TickInput
  made = record { row = row; budget = budget }

  pub made_outcome : (o : Outcome) → o ≡ (tick_after k turns made).outcome → o ≡ (tick k budget s (zero_row k.shape)).outcome
  made_outcome o e = outcome_at k turns made s led o e ∙ ap (λ (r : List ℤ). (tick k budget s r).outcome) are

  pub made_outputs : (values : List ℤ) → values ≡ (tick_after k turns made).outputs → values ≡ (tick k budget s (zero_row k.shape)).outputs
  made_outputs values e = outputs_at k turns made s led values e ∙ ap (λ (r : List ℤ). (tick k budget s r).outputs) are

  pub made_turns : (F : List TickInput → Type 0) → F (turns ++ made ∷ []) → F (turns ++ record { row = zero_row k.shape; budget = budget } ∷ [])
  made_turns F f = subst (λ (r : List ℤ). F (turns ++ record { row = r; budget = budget } ∷ [])) are f

-- a line was put, which is the report's
pub put_report : (old first new : Waiting) (line : List ℕ) (r s : Report) (end : Status) → old ≡ first → r ≡ s → line ≡ s.bytes → end ≡ s.status → GainsBytes old new line → IsPut first new r end
put_report old first new line r s end e f h st g = record {
  status = st ∙ ap (λ (q : Report). q.status) (sym f);
  bytes = subst (λ (bytes : List ℕ). GainsBytes first new bytes) (h ∙ ap (λ (q : Report). q.bytes) (sym f)) (subst (λ (w : Waiting). GainsBytes w new line) e g);
}

-- a report that alone was put is said
pub put_said : {K : Type 0} (held : K → Option (List ℕ)) (lost : K → ℕ) (is_down : K → Bool) (old new : Waiting) (r : Report) (end : Status) (out out' : K) (result : Status) → IsPut old new r end → old.bytes.items ≡ [] → (end ≡ status.Usage → ⊥) →
    PrintsReport held lost is_down (record { bytes = new.bytes.items; status = end }) (end ≡ status.Usage) out out' result → PrintsReport held lost is_down r ⊥ out out' result
put_said held lost is_down old new r end out out' result put none other p =
    let bytes : new.bytes.items ≡ r.bytes = put.bytes.bytes_are ∙ ap (λ (b : List ℕ). b ++ r.bytes) none in
    let same : record { bytes = new.bytes.items; status = end } ≡ r = ap (λ (b : List ℕ). record { bytes = b; status = end }) bytes ∙ ap (λ (s : Status). record { bytes = r.bytes; status = s }) put.status in
    said_as held lost is_down (record { bytes = new.bytes.items; status = end }) out out' (end ≡ status.Usage) Unit (λ q. q ≡ r) ⊥ ⊥ ⊥ result (λ t. same) other p

-- The report of a trace, line by line.
use Rattle.std.proofs.Common.{◌≡◌, ℕ, ◌+◌, ◌-◌, ℤ, Bool, true, false, cond, if◌then◌else◌, List, [], ◌∷◌, ◌++◌, Option, Some, None, Result, Ok, Err, refl, sym, ap, subst, ◌∙◌, append_assoc, append-nil}
use Rattle.std.specs.Option.{option_map}
use Rattle.forec_kernel.specs.declared.shape.Outcome.{Outcome}
use Rattle.forec_kernel.specs.declared.shape.Outcome.TheVariants as outcome
use Rattle.forec_kernel.specs.Composed.{TickInput}
use Rattle.forec_kernel.specs.Shapes.{PlainKernel}
use Rattle.forec_kernel.specs.Ticks.{TickState, Tick, tick, goes_on, run_from}
use Rattle.trace_rows.specs.Report.{rows_words, row_words}
use Rattle.trace_rows.specs.Trace.{Row, Form, TraceEnd, Trace, form_after, next_form, onto, row_at, rows_from}
use Rattle.trace_rows.specs.declared.fault.RowFault.{RowFault}
use Rattle.trace_ticks.specs.Formats.{before_words, after_words, last_written, format_after}
use Rattle.trace_ticks.specs.declared.format.Format.{Format}
use Rattle.trace_ticks.specs.declared.format.Format.TheVariants as format
use Rattle.trace_ticks.specs.Report.{Report, Pace, tick_lines, lines_from, last_outcome, end_of_trace, ending, behind_bytes, report_from, turns_from, pace_with_row, printed_before, advance}
use Rattle.trace_ticks.specs.declared.status.Status.TheVariants as status

-- a row at which the program goes on
pub record PausesAtRow (limit : ℕ) (k : PlainKernel) (budget : ℕ) (form : Form) (s : TickState) (n : ℕ) (line : List ℕ) (row : Row) : Type 0 where
  pub row_is : row_at limit form n line ≡ Ok row
  pub on : goes_on (tick k budget s row).outcome ≡ true

pub paused : (o : Outcome) → goes_on o ≡ true → o ≡ outcome.Paused
paused outcome.Paused h = refl
paused outcome.Ended h = absurd cc
paused (outcome.Trapped place trap) h = absurd cc
paused outcome.Over h = absurd cc

last_on : (t : Tick) (ts : List Tick) → goes_on t.outcome ≡ true → last_outcome (t ∷ ts) ≡ last_outcome ts
last_on t [] h = paused t.outcome h
last_on t (u ∷ us) h = refl

pub run_on : (k : PlainKernel) (budget : ℕ) (s : TickState) (row : Row) (rows : List Row) → goes_on (tick k budget s row).outcome ≡ true →
    run_from k budget s (row ∷ rows) ≡ tick k budget s row ∷ run_from k budget (tick k budget s row).state rows
run_on k budget s row rows h =
    let t = tick k budget s row in
    ap (λ (b : Bool). elim b [ true ↦ t ∷ run_from k budget t.state rows | false ↦ t ∷ [] ]) h

pub run_stops : (k : PlainKernel) (budget : ℕ) (s : TickState) (row : Row) (rows : List Row) → goes_on (tick k budget s row).outcome ≡ false →
    run_from k budget s (row ∷ rows) ≡ tick k budget s row ∷ []
run_stops k budget s row rows h =
    let t = tick k budget s row in
    ap (λ (b : Bool). elim b [ true ↦ t ∷ run_from k budget t.state rows | false ↦ t ∷ [] ]) h

-- the ticks over a row and those after it
pub turns_on : (k : PlainKernel) (budget : ℕ) (s : TickState) (row : Row) (rows : List Row) → goes_on (tick k budget s row).outcome ≡ true →
    turns_from k budget s (row ∷ rows) ≡ record { row = row; budget = budget } ∷ turns_from k budget (tick k budget s row).state rows
turns_on k budget s row rows h =
    let turn : TickInput = record { row = row; budget = budget } in
    ap (λ (b : Bool). turn ∷ (if b then turns_from k budget (tick k budget s row).state rows else [])) h

pub turns_stop : (k : PlainKernel) (budget : ℕ) (s : TickState) (row : Row) (rows : List Row) → goes_on (tick k budget s row).outcome ≡ false →
    turns_from k budget s (row ∷ rows) ≡ record { row = row; budget = budget } ∷ []
turns_stop k budget s row rows h =
    let turn : TickInput = record { row = row; budget = budget } in
    ap (λ (b : Bool). turn ∷ (if b then turns_from k budget (tick k budget s row).state rows else [])) h

-- a tick changes nothing in how the last line is written
pub last_alike : (how : Format) (values : List ℤ) (words : List ℕ) → last_written how words ≡ last_written (format_after how values) words
last_alike (format.Report names) values words = refl
last_alike (format.Wave names olds) values words = refl

end_alike : (how : Format) (values : List ℤ) (cause : Option RowFault) (n : ℕ) → end_of_trace how cause n ≡ end_of_trace (format_after how values) cause n
end_alike how values None n = ap (λ (bs : List ℕ). record { bytes = bs; status = status.Done }) (last_alike how values (rows_words (n - 1)))
end_alike how values (Some f) n = ap (λ (bs : List ℕ). record { bytes = bs; status = status.Trace }) (last_alike how values (row_words n f))

ending_alike : (how : Format) (values : List ℤ) (o : Outcome) (end : TraceEnd) → ending how o end ≡ ending (format_after how values) o end
ending_alike how values outcome.Paused end = end_alike how values end.cause end.line
ending_alike how values outcome.Ended end = refl
ending_alike how values (outcome.Trapped place trap) end = refl
ending_alike how values outcome.Over end = refl

ticks_on : (how : Format) (budget n : ℕ) (t : Tick) (ts : List Tick) (trace : Trace) → goes_on t.outcome ≡ true →
    behind_bytes (lines_from how budget n (t ∷ ts)) (ending how (last_outcome (t ∷ ts)) trace.end)
    ≡ behind_bytes (tick_lines how budget n t)
    (behind_bytes (lines_from (format_after how t.outputs) budget (n + 1) ts) (ending (format_after how t.outputs) (last_outcome ts) trace.end))
ticks_on how budget n t ts trace h =
    let later = format_after how t.outputs in
    let e = ending later (last_outcome ts) trace.end in
    ap (λ (o : Outcome). behind_bytes (tick_lines how budget n t ++ lines_from later budget (n + 1) ts) (ending how o trace.end)) (last_on t ts h)
    ∙ ap (behind_bytes (tick_lines how budget n t ++ lines_from later budget (n + 1) ts)) (ending_alike how t.outputs (last_outcome ts) trace.end)
    ∙ ap (λ (bs : List ℕ). record { bytes = bs; status = e.status }) (append_assoc (tick_lines how budget n t) (lines_from later budget (n + 1) ts) e.bytes)

-- one tick more, of a row and those after it
pub report_step : (how : Format) (k : PlainKernel) (budget : ℕ) (s : TickState) (n m : ℕ) (row : Row) (rest : Trace) → goes_on (tick k budget s row).outcome ≡ true →
    report_from how k budget s n (onto (Ok row) m rest)
    ≡ (let t = tick k budget s row in behind_bytes (tick_lines how budget n t) (report_from (format_after how t.outputs) k budget t.state (n + 1) rest))
report_step how k budget s n m row rest h =
    let t = tick k budget s row in
    ap (λ ts. behind_bytes (lines_from how budget n ts) (ending how (last_outcome ts) rest.end)) (run_on k budget s row rest.rows h)
    ∙ ticks_on how budget n t (run_from k budget t.state rest.rows) rest h

pub advance_step : (limit : ℕ) (how : Format) (k : PlainKernel) (budget : ℕ) (form : Form) (s : TickState) (n : ℕ) (line : List ℕ) (lines : List (List ℕ)) (row : Row) →
    PausesAtRow limit k budget form s n line row →
    advance limit how k budget form s n (line ∷ lines)
    ≡ (let t = tick k budget s row in
    option_map (printed_before (tick_lines how budget n t)) (advance limit (format_after how t.outputs) k budget (next_form form row) t.state (n + 1) lines))
advance_step limit how k budget form s n line lines row h = rw (h.row_is, h.on) refl

-- what an advance over a line and those after it says
pub record Went (limit : ℕ) (how : Format) (k : PlainKernel) (budget : ℕ) (form : Form) (s : TickState) (n : ℕ) (line : List ℕ) (lines : List (List ℕ)) (p : Pace) : Type 0 where
  pub row : Row
  pub goes : PausesAtRow limit k budget form s n line row
  pub rest : Pace
  pub rest_is : advance limit (format_after how (tick k budget s row).outputs) k budget (next_form form row) (tick k budget s row).state (n + 1) lines ≡ Some rest
  pub whole : p ≡ printed_before (tick_lines how budget n (tick k budget s row)) rest

some_of : {A B : Type 0} (f : A → B) (o : Option A) (y : B) → option_map f o ≡ Some y → (x : A) × (o ≡ Some x) × (y ≡ f x)
some_of f None y e = absurd cc
some_of f (Some x) y e = (x, refl, cc)

with_row_some : (r : Result Row RowFault) (f : Row → Option Pace) (y : Pace) → pace_with_row r f ≡ Some y → (row : Row) × (r ≡ Ok row) × (f row ≡ Some y)
with_row_some (Ok row) f y e = (row, refl, e)
with_row_some (Err x) f y e = absurd cc

cond_some : {A : Type 0} (b : Bool) (o : Option A) (y : A) → cond b o None ≡ Some y → (b ≡ true) × (o ≡ Some y)
cond_some true o y e = (refl, e)
cond_some false o y e = absurd cc

pub went_of : (limit : ℕ) (how : Format) (k : PlainKernel) (budget : ℕ) (form : Form) (s : TickState) (n : ℕ) (line : List ℕ) (lines : List (List ℕ)) (p : Pace) →
    advance limit how k budget form s n (line ∷ lines) ≡ Some p → Went limit how k budget form s n line lines p
went_of limit how k budget form s n line lines p e =
    let r = with_row_some (row_at limit form n line) _ p e in
    let c = cond_some _ _ p r.2 in
    let m = some_of _ _ p c.1 in
    record { row = r.0; goes = record { row_is = r.1; on = c.0 }; rest = m.0; rest_is = m.1; whole = m.2 }

pub behind_twice : (a b : List ℕ) (r : Report) → behind_bytes a (behind_bytes b r) ≡ behind_bytes (a ++ b) r
behind_twice a b r = ap (λ (bs : List ℕ). record { bytes = bs; status = r.status }) (sym (append_assoc a b r.bytes))

-- where the program stands after one more line
abbrev pub pace_after : PlainKernel → ℕ → Pace → Row → Pace
pace_after k budget p row =
    let t = tick k budget p.state row in
    record {
      state = t.state;
      next = p.next + 1;
      form = next_form p.form row;
      format = format_after p.format t.outputs;
      bytes = p.bytes ++ tick_lines p.format budget p.next t;
    }

pub printed_after : (k : PlainKernel) (budget : ℕ) (a : List ℕ) (p : Pace) (row : Row) → printed_before a (pace_after k budget p row) ≡ pace_after k budget (printed_before a p) row
printed_after k budget a p row =
    let t = tick k budget p.state row in
    ap (λ (bs : List ℕ). record { state = t.state; next = p.next + 1; form = next_form p.form row; format = format_after p.format t.outputs; bytes = bs })
    (sym (append_assoc a p.bytes (tick_lines p.format budget p.next t)))

pub advance_more : (limit : ℕ) (how : Format) (k : PlainKernel) (budget : ℕ) (form : Form) (s : TickState) (n : ℕ) (lines : List (List ℕ)) (p : Pace) (line : List ℕ) (row : Row) →
    advance limit how k budget form s n lines ≡ Some p →
    PausesAtRow limit k budget p.form p.state p.next line row → advance limit how k budget form s n (lines ++ line ∷ []) ≡ Some (pace_after k budget p row)
advance_more limit how k budget form s n [] p line row e h =
    let same : record { state = s; next = n; form = form; format = how; bytes = [] } ≡ p = cc in
    subst (λ (q : Pace). PausesAtRow limit k budget q.form q.state q.next line row → advance limit how k budget form s n (line ∷ []) ≡ Some (pace_after k budget q row)) same
    (λ g. advance_step limit how k budget form s n line [] row g ∙ rw append-nil refl) h
advance_more limit how k budget form s n (first ∷ lines) p line row e h =
    let w = went_of limit how k budget form s n first lines p e in
    let t = tick k budget s w.row in
    subst (λ (q : Pace). PausesAtRow limit k budget q.form q.state q.next line row → advance limit how k budget form s n (first ∷ (lines ++ line ∷ [])) ≡ Some (pace_after k budget q row)) (sym w.whole)
    (λ g. advance_step limit how k budget form s n first (lines ++ line ∷ []) w.row w.goes
    ∙ ap (option_map (printed_before (tick_lines how budget n t)))
    (advance_more limit (format_after how t.outputs) k budget (next_form form w.row) t.state (n + 1) lines w.rest line row w.rest_is g)
    ∙ ap Some (printed_after k budget (tick_lines how budget n t) w.rest row)) h

-- ---- the ticks over one line more

row_first : (limit : ℕ) (form : Form) (n : ℕ) (line : List ℕ) (lines : List (List ℕ)) (row : Row) → row_at limit form n line ≡ Ok row →
    rows_from limit form n (line ∷ lines) ≡ onto (Ok row) n (rows_from limit (next_form form row) (n + 1) lines)
row_first limit form n line lines row e = ap (λ r. onto r n (rows_from limit (form_after form r) (n + 1) lines)) e

abbrev turn_at : ℕ → Row → TickInput
turn_at budget row = record { row = row; budget = budget }

abbrev turns_in : ℕ → PlainKernel → ℕ → Form → TickState → ℕ → List (List ℕ) → List TickInput
turns_in limit k budget form s n lines = turns_from k budget s (rows_from limit form n lines).rows

turn_alone : (k : PlainKernel) (budget : ℕ) (s : TickState) (row : Row) → turns_from k budget s (row ∷ []) ≡ turn_at budget row ∷ []
turn_alone k budget s row = by (goes_on (tick k budget s row).outcome)
  where
    by : (b : Bool) → turn_at budget row ∷ (if b then [] else []) ≡ turn_at budget row ∷ []
    by true = refl
    by false = refl

pub turns_more : (limit : ℕ) (how : Format) (k : PlainKernel) (budget : ℕ) (form : Form) (s : TickState) (n : ℕ) (lines : List (List ℕ)) (p : Pace) (line : List ℕ) (row : Row) →
    advance limit how k budget form s n lines ≡ Some p → row_at limit p.form p.next line ≡ Ok row →
    turns_from k budget s (rows_from limit form n (lines ++ line ∷ [])).rows ≡ turns_from k budget s (rows_from limit form n lines).rows ++ record { row = row; budget = budget } ∷ []
turns_more limit how k budget form s n [] p line row e h =
    let same : record { state = s; next = n; form = form; format = how; bytes = [] } ≡ p = cc in
    let is : row_at limit form n line ≡ Ok row = subst (λ (q : Pace). row_at limit q.form q.next line ≡ Ok row) (sym same) h in
    ap (λ (t : Trace). turns_from k budget s t.rows) (row_first limit form n line [] row is) ∙ turn_alone k budget s row
turns_more limit how k budget form s n (first ∷ lines) p line row e h =
    let w = went_of limit how k budget form s n first lines p e in
    let t = tick k budget s w.row in
    let is : row_at limit w.rest.form w.rest.next line ≡ Ok row = subst (λ (q : Pace). row_at limit q.form q.next line ≡ Ok row) w.whole h in
    let step : (ls : List (List ℕ)) → turns_in limit k budget form s n (first ∷ ls) ≡ turn_at budget w.row ∷ turns_in limit k budget (next_form form w.row) t.state (n + 1) ls =
    λ ls. ap (λ (x : Trace). turns_from k budget s x.rows) (row_first limit form n first ls w.row w.goes.row_is) ∙ turns_on k budget s w.row (rows_from limit (next_form form w.row) (n + 1) ls).rows w.goes.on in
    step (lines ++ line ∷ [])
    ∙ ap (λ ts. turn_at budget w.row ∷ ts) (turns_more limit (format_after how t.outputs) k budget (next_form form w.row) t.state (n + 1) lines w.rest line row w.rest_is is)
    ∙ ap (λ ts. ts ++ turn_at budget row ∷ []) (sym (step lines))

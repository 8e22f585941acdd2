-- A run, tick by tick.
use Rattle.std.proofs.Common.{◌≡◌, ◌≢◌, ℕ, ◌+◌, ◌-◌, ◌≤◌, Bool, true, false, List, [], ◌∷◌, ◌++◌, Option, Some, None, Result, Ok, Err, refl, sym, ap, subst, ◌∙◌, arith, append_assoc, append-nil, ◌<◌, inl, inr, length, get_or, length-append, map}
use Rattle.std.specs.List.{position_or_len}
use Rattle.std.proofs.lemmas.Bool.{cases_lt}
use Rattle.std.proofs.lemmas.List.{get_or_append_left}
use Rattle.std.proofs.lemmas.List.Sums.{fails_before_first, passes_at_first}
use Rattle.std.specs.Option.{IfSome}
use Rattle.std.specs.Io.KnownBytes.{Appends}
use Rattle.forec_base.specs.Outside.{Fell}
use Rattle.forec_kernel.specs.Composed.{TickInput, state_after}
use Rattle.forec_kernel.specs.declared.shape.Outcome.{Outcome}
use Rattle.forec_kernel.specs.declared.shape.Outcome.TheVariants as outcome
use Rattle.forec_kernel.specs.Shapes.{PlainKernel}
use Rattle.forec_kernel.specs.Ticks.{TickState, Fresh, Tick, tick, goes_on, run_from}
use Rattle.tick_jobs.specs.Outcomes.{HasOutputs}
use Rattle.trace_rows.specs.Calls.{IfTold}
use Rattle.trace_rows.specs.Lines.{is_newline, whole_lines}
use Rattle.trace_rows.specs.Reader.{Reader, HasLine, LacksLine, NextSays, trace_ahead}
use Rattle.trace_rows.specs.Trace.{Row, Form, TraceEnd, Trace, stop, onto, row_at, row_width}
use Rattle.trace_rows.specs.declared.fault.Next.{Next}
use Rattle.trace_rows.specs.declared.fault.RowFault.{RowFault}
use Rattle.trace_rows.specs.declared.fault.RowFault.TheVariants as fault
use Rattle.whole_writes.specs.Calls.{AppendsFront}
use Rattle.trace_ticks.specs.Ends.{Given}
use Rattle.trace_ticks.specs.Report.{Report, Pace, printed_before, outcome_lines, tick_lines, lines_from, last_outcome, ending, behind_bytes, report_from, turns_from, status_after, advance}
use Rattle.trace_rows.specs.Report.{rows_words, row_words}
use Rattle.trace_ticks.specs.Formats.{opening, format_after, last_written}
use Rattle.trace_ticks.specs.declared.format.Format.{Format}
use Rattle.trace_ticks.specs.Progress.{IsWholeReport, IsReportFront, Led, report_rest, turns_rest}
use Rattle.trace_ticks.specs.Ticking.{tick_after}
use Rattle.trace_ticks.specs.declared.session.Session.{Session}
use Rattle.trace_ticks.specs.declared.status.Status.{Status}
use Rattle.trace_ticks.specs.declared.status.Status.TheVariants as status
use Rattle.trace_ticks.proofs.Following.{led_on, outcome_at, outputs_at}
use Rattle.whole_writes.proofs.Appending.{appends_both, front_longer, front_behind, appends_refl}
use Rattle.trace_ticks.proofs.Told.{told_and, told_both, told_refl, told_some, some_map}
use Rattle.trace_ticks.proofs.NextRows.{Gave, stops_there}
use Rattle.trace_ticks.proofs.Advancing.{turns_on, turns_stop, report_step, behind_twice, PausesAtRow, advance_more, pace_after, paused, printed_after, run_on, run_stops}
use Rattle.trace_ticks.proofs.Splitting.{Cut, no_line, whole_lines-line, came_told, takes_told}

-- a kernel with a budget, how it is told, and the reader when it began
pub record Run : Type 0 where
  pub format : Format
  pub kernel : PlainKernel
  pub budget : ℕ
  pub first : Reader

-- a kernel, run over the rows that a reader has ahead, as a session says
abbrev pub run_of : Session → Reader → PlainKernel → Run
run_of s first k = record { format = s.waiting.format; kernel = k; budget = s.budget; first = first }

-- a tick over this row
abbrev pub turn_of : Run → Row → TickInput
turn_of run values = record { row = values; budget = run.budget }

-- the reader stands before this row of the trace that the run began with
pub record Stands_at (first : Reader) (row : ℕ) (now : Reader) : Type 0 where
  pub limit : now.limit ≡ first.limit
  pub width : row_width now.form ≡ row_width first.form
  pub number : now.given + 1 ≡ row

-- before its first one
pub stands_first : (first : Reader) → first.given ≡ 0 → Stands_at first 1 first
stands_first first e = record { limit = refl; width = refl; number = ap (λ n. n + 1) e }

-- the bytes that were taken are whole lines, which led a kernel from its start to a pace
pub record Taken (how : Format) (k : PlainKernel) (budget : ℕ) (first now : Reader) (p : Pace) (left_old left_new : List ℕ) : Type 0 where
  pub given : List ℕ
  pub split : first.held ++ left_old ≡ given ++ (now.held ++ left_new)
  pub lines : List (List ℕ)
  pub whole : (more : List ℕ) → whole_lines (given ++ more) ≡ lines ++ whole_lines more
  pub rest : Pace
  pub led : advance first.limit how k budget first.form Fresh 1 lines ≡ Some rest
  pub behind : p ≡ printed_before (opening how) rest

-- rows were taken whose ticks led a kernel from its start to a pace
pub record Leads (how : Format) (k : PlainKernel) (budget : ℕ) (first now : Reader) (turns : List TickInput) (p : Pace) (left_old left_new : List ℕ) : Type 0 where
  pub report : report_rest how k budget first left_old ≡ behind_bytes p.bytes (report_from p.format k budget p.state p.next (trace_ahead now left_new))
  pub ran : turns_rest k budget first left_old ≡ turns ++ turns_from k budget p.state (trace_ahead now left_new).rows
  pub stays : now.ended ≡ false → first.ended ≡ false
  pub taken : now.ended ≡ false → Taken how k budget first now p left_old left_new

-- ---- the ticks so far

abbrev rows_in : List TickInput → List Row
rows_in turns = map (λ turn. turn.row) turns

abbrev ticks_of : Run → List TickInput → List Tick
ticks_of run turns = run_from run.kernel run.budget Fresh (rows_in turns)

-- their lines, behind what stands before them
abbrev pub printed_by : Run → List TickInput → List ℕ
printed_by run turns = opening run.format ++ lines_from run.format run.budget 1 (ticks_of run turns)

rows_then : (turns : List TickInput) (turn : TickInput) → rows_in (turns ++ turn ∷ []) ≡ rows_in turns ++ turn.row ∷ []
rows_then [] turn = refl
rows_then (t ∷ turns) turn = ap (λ rs. t.row ∷ rs) (rows_then turns turn)

-- these ticks led to this state, and this is how a further one is told
pub record Ticked (run : Run) (turns : List TickInput) (s : TickState) (how : Format) (row : ℕ) : Type 0 where
  pub led : s ≡ state_after run.kernel Fresh turns
  pub splits : (rows : List Row) → run_from run.kernel run.budget Fresh (rows_in turns ++ rows) ≡ ticks_of run turns ++ run_from run.kernel run.budget s rows
  pub lines : (rest : List Tick) → lines_from run.format run.budget 1 (ticks_of run turns ++ rest) ≡ lines_from run.format run.budget 1 (ticks_of run turns) ++ lines_from how run.budget row rest
  pub count : row ≡ length turns + 1

ticked_start : (run : Run) → Ticked run [] Fresh run.format 1
ticked_start run = record { led = refl; splits = λ rows. refl; lines = λ rest. refl; count = refl }

module _ {run : Run} {turns : List TickInput} {s : TickState} {how : Format} {row : ℕ} (t : Ticked run turns s how row) (values : Row) (on : goes_on (tick run.kernel run.budget s values).outcome ≡ true) where
  abbrev next : Tick
  next = tick run.kernel run.budget s values

  abbrev longer : List TickInput
  longer = turns ++ turn_of run values ∷ []

  ticks_then : ticks_of run longer ≡ ticks_of run turns ++ next ∷ []
  ticks_then =
      ap (run_from run.kernel run.budget Fresh) (rows_then turns (turn_of run values)) ∙ t.splits (values ∷ [])
      ∙ ap (λ (ts : List Tick). ticks_of run turns ++ ts) (run_on run.kernel run.budget s values [] on)

  line_then : lines_from run.format run.budget 1 (ticks_of run longer) ≡ lines_from run.format run.budget 1 (ticks_of run turns) ++ tick_lines how run.budget row next
  line_then =
      ap (lines_from run.format run.budget 1) ticks_then ∙ t.lines (next ∷ [])
      ∙ ap (λ x. lines_from run.format run.budget 1 (ticks_of run turns) ++ x) (append-nil (tick_lines how run.budget row next))

  printed_then : printed_by run longer ≡ printed_by run turns ++ tick_lines how run.budget row next
  printed_then = ap (λ x. opening run.format ++ x) line_then ∙ sym (append_assoc (opening run.format) (lines_from run.format run.budget 1 (ticks_of run turns)) (tick_lines how run.budget row next))

  ticked_more : Ticked run longer next.state (format_after how next.outputs) (row + 1)
  ticked_more = record {
    led = led_on run.kernel turns (turn_of run values) s t.led;
    splits = λ rows.
        ap (λ (v : List Row). run_from run.kernel run.budget Fresh (v ++ rows)) (rows_then turns (turn_of run values))
        ∙ ap (run_from run.kernel run.budget Fresh) (append_assoc (rows_in turns) (values ∷ []) rows)
        ∙ t.splits (values ∷ rows)
        ∙ ap (λ (ts : List Tick). ticks_of run turns ++ ts) (run_on run.kernel run.budget s values rows on)
        ∙ sym (append_assoc (ticks_of run turns) (next ∷ []) (run_from run.kernel run.budget next.state rows))
        ∙ ap (λ (ts : List Tick). ts ++ run_from run.kernel run.budget next.state rows) (sym ticks_then);
    lines = λ rest.
        let later = lines_from (format_after how next.outputs) run.budget (row + 1) rest in
        ap (λ (ts : List Tick). lines_from run.format run.budget 1 (ts ++ rest)) ticks_then
        ∙ ap (lines_from run.format run.budget 1) (append_assoc (ticks_of run turns) (next ∷ []) rest)
        ∙ t.lines (next ∷ rest)
        ∙ sym (append_assoc (lines_from run.format run.budget 1 (ticks_of run turns)) (tick_lines how run.budget row next) later)
        ∙ ap (λ x. x ++ later) (sym line_then);
    count = let n = t.count in let m = length-append turns (turn_of run values ∷ []) in omega (arith, n, m);
  }

-- these ticks and their lines led here; the last bytes aren't with the sink yet
pub record Reached (run : Run) (Follows : List TickInput → Type 0) (turns : List TickInput) (s : TickState) (now : Reader) (left_old left held_old held : Option (List ℕ)) (unsent : List ℕ) (how : Format) (row : ℕ) : Type 0 where
  pub follows : Follows turns
  pub ticked : Ticked run turns s how row
  pub stands : Stands_at run.first row now
  pub sent : List ℕ
  pub appended : Appends held_old held sent
  pub split : printed_by run turns ≡ sent ++ unsent
  pub told : IfTold left_old left (Leads run.format run.kernel run.budget run.first now turns (record { state = s; next = row; form = now.form; format = how; bytes = printed_by run turns }))

-- ---- the start

leads_start : (run : Run) (x : List ℕ) → Leads run.format run.kernel run.budget run.first run.first [] (record { state = Fresh; next = 1; form = run.first.form; format = run.format; bytes = printed_by run [] }) x x
unfolding report_rest turns_rest
leads_start run x = record {
  report = ap (λ (bs : List ℕ). behind_bytes bs (report_from run.format run.kernel run.budget Fresh 1 (trace_ahead run.first x))) (sym (append-nil (opening run.format)));
  ran = refl;
  stays = λ e. e;
  taken = λ _. record { given = []; split = refl; lines = []; whole = λ more. refl; rest = record { state = Fresh; next = 1; form = run.first.form; format = run.format; bytes = [] }; led = refl; behind = refl };
}

pub reached_start : (run : Run) (F : List TickInput → Type 0) (left held : Option (List ℕ)) (unsent : List ℕ) → F [] → run.first.given ≡ 0 → unsent ≡ opening run.format →
    Reached run F [] Fresh run.first left left held held unsent run.format 1
reached_start run F left h unsent f e z = record {
  follows = f;
  ticked = ticked_start run;
  stands = stands_first run.first e;
  sent = [];
  appended = appends_refl h;
  split = append-nil (opening run.format) ∙ sym z;
  told = told_refl left _ (leads_start run);
}

-- ---- the report from here on

-- the report is what was printed, and this; these are its ticks
pub record Is (run : Run) (bytes : List ℕ) (turns : List TickInput) (s : Report) (x : List ℕ) : Type 0 where
  pub report : report_rest run.format run.kernel run.budget run.first x ≡ behind_bytes bytes s
  pub ran : turns_rest run.kernel run.budget run.first x ≡ turns

report_none : (how : Format) (k : PlainKernel) (budget : ℕ) (s : TickState) (n m : ℕ) →
    report_from how k budget s n (stop None m) ≡ record { bytes = last_written how (rows_words (m - 1)); status = status.Done }
report_none how k budget s n m = refl

report_fault : (how : Format) (k : PlainKernel) (budget : ℕ) (s : TickState) (n m : ℕ) (f : RowFault) →
    report_from how k budget s n (stop (Some f) m) ≡ record { bytes = last_written how (row_words m f); status = status.Trace }
report_fault how k budget s n m f = refl

ending_stops : (how : Format) (o : Outcome) (end : TraceEnd) → goes_on o ≡ false → ending how o end ≡ record { bytes = []; status = status_after o }
ending_stops how outcome.Paused end h = absurd cc
ending_stops how outcome.Ended end h = refl
ending_stops how (outcome.Trapped place trap) end h = refl
ending_stops how outcome.Over end h = refl

pub report_stops : (how : Format) (k : PlainKernel) (budget : ℕ) (s : TickState) (n m : ℕ) (row : Row) (rest : Trace) → goes_on (tick k budget s row).outcome ≡ false →
    report_from how k budget s n (onto (Ok row) m rest) ≡ (let t = tick k budget s row in record { bytes = tick_lines how budget n t; status = status_after t.outcome })
report_stops how k budget s n m row rest h =
    let t = tick k budget s row in
    ap (λ ts. behind_bytes (lines_from how budget n ts) (ending how (last_outcome ts) rest.end)) (run_stops k budget s row rest.rows h)
    ∙ ap (λ (q : Report). behind_bytes (tick_lines how budget n t ++ []) q) (ending_stops how t.outcome rest.end h)
    ∙ ap (λ (bs : List ℕ). record { bytes = bs; status = status_after t.outcome }) (append-nil (tick_lines how budget n t ++ []) ∙ append-nil (tick_lines how budget n t))

-- a tick that doesn't pause is the last one
pub stops : (o : Outcome) → o ≢ outcome.Paused → goes_on o ≡ false
stops outcome.Paused not = absurd (not refl)
stops outcome.Ended not = refl
stops (outcome.Trapped place trap) not = refl
stops outcome.Over not = refl

-- what stands at the reader's line stands at this row of the run
pub row_here : (run : Run) (row : ℕ) (now : Reader) (line : List ℕ) → Stands_at run.first row now → row_at now.limit now.form (now.given + 1) line ≡ row_at run.first.limit now.form row line
row_here run row now line at =
    ap (λ m. row_at m now.form (now.given + 1) line) at.limit ∙ ap (λ n. row_at run.first.limit now.form n line) at.number

-- a row stands within the limit
pub row_within : (first : Reader) (row : ℕ) (now : Reader) → Stands_at first row now → now.given < now.limit → row ≤ first.limit
row_within first row now at h = let l = at.limit in let n = at.number in omega arith

-- after one more row
pub stands_more : (first : Reader) (row : ℕ) (now new : Reader) (l l' : Option (List ℕ)) (values : Row) → Stands_at first row now → Gave now new l l' values → Stands_at first (row + 1) new
stands_more first row now new l l' values at n = record {
  limit = n.most ∙ at.limit;
  width = n.width ∙ at.width;
  number = ap (λ m. m + 1) (n.count ∙ at.number);
}

-- one more line that was taken whole
taken_more : (run : Run) (now new : Reader) (p : Pace) (line : List ℕ) (values : Row) (x y z : List ℕ) → Taken run.format run.kernel run.budget run.first now p x y → Cut line now.held new.held y z →
    row_at run.first.limit p.form p.next line ≡ Ok values → goes_on (tick run.kernel run.budget p.state values).outcome ≡ true →
    Taken run.format run.kernel run.budget run.first new (pace_after run.kernel run.budget p values) x z
taken_more run now new p line values x y z t cut is on = record {
  given = t.given ++ (line ++ 10 ∷ []);
  split = t.split ∙ ap (λ r. t.given ++ r) (cut.bytes ∙ sym (append_assoc line (10 ∷ []) (new.held ++ z))) ∙ sym (append_assoc t.given (line ++ 10 ∷ []) (new.held ++ z));
  lines = t.lines ++ line ∷ [];
  whole = λ more. ap whole_lines (append_assoc t.given (line ++ 10 ∷ []) more ∙ ap (λ r. t.given ++ r) (append_assoc line (10 ∷ []) more)) ∙ t.whole (line ++ 10 ∷ more)
      ∙ ap (λ r. t.lines ++ r) (whole_lines-line line more cut.none) ∙ sym (append_assoc t.lines (line ∷ []) (whole_lines more));
  rest = pace_after run.kernel run.budget t.rest values;
  led = advance_more run.first.limit run.format run.kernel run.budget run.first.form Fresh 1 t.lines t.rest line values t.led
      (subst (λ (q : Pace). PausesAtRow run.first.limit run.kernel run.budget q.form q.state q.next line values) t.behind (record { row_is = is; on = on }));
  behind = ap (λ (q : Pace). pace_after run.kernel run.budget q values) t.behind ∙ sym (printed_after run.kernel run.budget (opening run.format) t.rest values);
}

-- no whole line was held before
waited : (held_old held_new : List ℕ) (was is : Bool) (a b : Option (List ℕ)) → LacksLine held_old held_new was is a b → HasLine held_old → ⊥
waited held_old held_new was is a b w has =
    let at = position_or_len is_newline held_old in
    let yes : is_newline (get_or held_old at 0) ≡ true = passes_at_first is_newline held_old 0 has in
    let longer : length held_old ≤ length held_new = subst (λ l. length held_old ≤ length l) (sym w.came.held) (omega (arith, length-append held_old w.came.bytes)) in
    let far : at < position_or_len is_newline held_new =
    elim (cases_lt at (position_or_len is_newline held_new)) [ inl h ↦ h | inr h ↦ absurd (w.none (omega (arith, has, longer, h))) ] in
    let no : is_newline (get_or held_new at 0) ≡ false = fails_before_first is_newline held_new at 0 far in
    let same : get_or held_new at 0 ≡ get_or held_old at 0 = ap (λ l. get_or l at 0) w.came.held ∙ get_or_append_left held_old w.came.bytes 0 at has in
    let both : true ≡ false = sym yes ∙ ap is_newline (sym same) ∙ no in cc

-- ---- where a run has come to

-- of what waits a front was written
pub front_sent : (how : Format) (k : PlainKernel) (budget : ℕ) (first : Reader) (h0 h h2 : Option (List ℕ)) (waiting left : List ℕ) → IsReportFront how k budget first h0 h waiting left → AppendsFront h h2 waiting →
    AppendsFront h0 h2 (report_rest how k budget first left).bytes
front_sent how k budget first h0 h h2 waiting left f b =
    subst (AppendsFront h0 h2) (sym f.bytes) (front_longer h0 h2 (f.sent ++ waiting) f.rest (front_behind h0 h h2 f.sent waiting f.appended b))

module _ {run : Run} {F : List TickInput → Type 0} {turns : List TickInput} {s : TickState} {now : Reader} {l0 l h0 h : Option (List ℕ)} {unsent : List ℕ} {how : Format} {row : ℕ} (r : Reached run F turns s now l0 l h0 h unsent how row) where
  abbrev pace : Pace
  pace = record { state = s; next = row; form = now.form; format = how; bytes = printed_by run turns }

  -- a front of what waited was sent
  pub reached_sent : {h' : Option (List ℕ)} {unsent' : List ℕ} {after : Format} → after ≡ how → (sent : List ℕ) × Appends h h' sent × (unsent ≡ sent ++ unsent') → Reached run F turns s now l0 l h0 h' unsent' after row
  reached_sent {h'} {unsent'} {after} same w =
      subst (λ (f : Format). Reached run F turns s now l0 l h0 h' unsent' f row) (sym same) (record {
        follows = r.follows;
        ticked = r.ticked;
        stands = r.stands;
        sent = r.sent ++ w.0;
        appended = appends_both h0 h h' r.sent w.0 r.appended w.1;
        split = r.split ∙ ap (λ x. r.sent ++ x) w.2 ∙ sym (append_assoc r.sent w.0 unsent');
        told = r.told;
      })

  -- something is still to be printed
  at_any : IfSome l0 (λ x. (q : Report) × (report_rest run.format run.kernel run.budget run.first x ≡ behind_bytes (printed_by run turns) q))
  at_any = told_some l0 l (Leads run.format run.kernel run.budget run.first now turns pace) _ r.told (λ x y led. (report_from how run.kernel run.budget s row (trace_ahead now y), led.report))

  -- the trace stops there
  stops_at : (l' : Option (List ℕ)) (f : Option RowFault) (q : Report) → IfTold l l' (λ x y. trace_ahead now x ≡ stop f (now.given + 1)) → report_from how run.kernel run.budget s row (stop f (now.given + 1)) ≡ q →
      IfSome l0 (Is run (printed_by run turns) turns q)
  stops_at l' f q n is =
      told_some l0 l' (λ x z. Is run (printed_by run turns) turns q x) (Is run (printed_by run turns) turns q)
      (told_both l0 l l' (Leads run.format run.kernel run.budget run.first now turns pace) (λ y z. trace_ahead now y ≡ stop f (now.given + 1)) (λ x z. Is run (printed_by run turns) turns q x) r.told n
      (λ x y z led stops. record {
        report = led.report ∙ ap (λ t. behind_bytes (printed_by run turns) (report_from how run.kernel run.budget s row t)) stops ∙ ap (behind_bytes (printed_by run turns)) is;
        ran = led.ran ∙ ap (λ (t : Trace). turns ++ turns_from run.kernel run.budget s t.rows) stops ∙ append-nil turns;
      }))
      (λ x y i. i)

  pub at_end : (l' : Option (List ℕ)) → IfTold l l' (λ x y. trace_ahead now x ≡ stop None (now.given + 1)) →
      IfSome l0 (Is run (printed_by run turns) turns (record { bytes = last_written how (rows_words (row - 1)); status = status.Done }))
  at_end l' n =
      stops_at l' None (record { bytes = last_written how (rows_words (row - 1)); status = status.Done }) n
      (report_none how run.kernel run.budget s row (now.given + 1) ∙ ap (λ m. record { bytes = last_written how (rows_words (m - 1)); status = status.Done }) r.stands.number)

  pub at_fault : (new : Reader) (values : Row) (l' : Option (List ℕ)) (f : RowFault) → IfTold l l' (NextSays now new values (Err f)) → f ≢ fault.ReadFault → ◌≢◌ {A = Result Next RowFault} (Err f) (Err fault.OutOfMemory) →
      IfSome l0 (Is run (printed_by run turns) turns (record { bytes = last_written how (row_words row f); status = status.Trace }))
  at_fault new values l' f says read memory =
      stops_at l' (Some f) (record { bytes = last_written how (row_words row f); status = status.Trace }) (stops_there now new values l l' f says read memory)
      (report_fault how run.kernel run.budget s row (now.given + 1) f ∙ ap (λ m. record { bytes = last_written how (row_words m f); status = status.Trace }) r.stands.number)

  -- the source failed: nothing waited for the sink, since no whole line was held
  pub failed : (new : Reader) (l' : Option (List ℕ)) → LacksLine now.held new.held now.ended new.ended l l' → ((HasLine now.held → ⊥) → unsent ≡ []) →
      (bytes : List ℕ) × Appends h0 h bytes × IfTold l0 l' (Led run.format run.kernel run.budget run.first bytes)
  failed new l' n sent =
      let z = sent (waited now.held new.held now.ended new.ended l l' n) in
      let all : printed_by run turns ≡ r.sent = r.split ∙ ap (λ x. r.sent ++ x) z ∙ append-nil r.sent in (
        printed_by run turns,
        subst (Appends h0 h) (sym all) r.appended,
        told_both l0 l l' (Leads run.format run.kernel run.budget run.first now turns pace) _ (Led run.format run.kernel run.budget run.first (printed_by run turns)) r.told (came_told now.held new.held l l' n.came) (λ x y z led e.
            let t = led.taken n.was in
            let lines : whole_lines (t.given ++ new.held) ≡ t.lines = t.whole new.held ∙ ap (λ r. t.lines ++ r) (no_line new.held n.none) ∙ append-nil t.lines in (
              led.stays n.was,
              t.given ++ new.held,
              t.split ∙ ap (λ r. t.given ++ r) e ∙ sym (append_assoc t.given new.held z),
              t.rest,
              ap (λ ls. advance run.first.limit run.format run.kernel run.budget run.first.form Fresh 1 ls) lines ∙ t.led,
              sym (ap (λ (q : Pace). q.bytes) t.behind),
            )),
      )

  -- the last lines wait
  pub whole_now : (F' : List TickInput → Type 0) (all : List TickInput) (q : Report) (unsent' : List ℕ) → IfSome l0 (Is run (printed_by run turns) all q) → unsent' ≡ unsent ++ q.bytes → F' all →
      IfSome l0 (IsWholeReport run.format run.kernel run.budget run.first F' h0 h unsent' q.status)
  whole_now F' all q unsent' i g f =
      some_map l0 (Is run (printed_by run turns) all q) _ i (λ x is. record {
        status = sym (ap (λ (p : Report). p.status) is.report);
        sent = r.sent;
        appended = r.appended;
        bytes = ap (λ (p : Report). p.bytes) is.report ∙ ap (λ b. b ++ q.bytes) r.split ∙ append_assoc r.sent unsent q.bytes ∙ ap (λ b. r.sent ++ b) (sym g);
        ran = subst F' (sym is.ran) f;
      })

  pub whole_end : (l' : Option (List ℕ)) (unsent' : List ℕ) → IfTold l l' (λ x y. trace_ahead now x ≡ stop None (now.given + 1)) → unsent' ≡ unsent ++ last_written how (rows_words (row - 1)) →
      IfSome l0 (IsWholeReport run.format run.kernel run.budget run.first F h0 h unsent' status.Done)
  whole_end l' unsent' n g = whole_now F turns (record { bytes = last_written how (rows_words (row - 1)); status = status.Done }) unsent' (at_end l' n) g r.follows

  pub whole_fault : (new : Reader) (values : Row) (l' : Option (List ℕ)) (unsent' : List ℕ) (f : RowFault) → IfTold l l' (NextSays now new values (Err f)) → f ≢ fault.ReadFault → ◌≢◌ {A = Result Next RowFault} (Err f) (Err fault.OutOfMemory) →
      unsent' ≡ unsent ++ last_written how (row_words row f) → IfSome l0 (IsWholeReport run.format run.kernel run.budget run.first F h0 h unsent' status.Trace)
  whole_fault new values l' unsent' f says read memory g =
      whole_now F turns (record { bytes = last_written how (row_words row f); status = status.Trace }) unsent' (at_fault new values l' f says read memory) g r.follows

  -- before the next line what was printed is a front
  pub front_now : IfSome l0 (IsReportFront run.format run.kernel run.budget run.first h0 h unsent)
  front_now =
      some_map l0 _ _ at_any (λ x k. record {
        sent = r.sent;
        appended = r.appended;
        rest = k.0.bytes;
        bytes = ap (λ (q : Report). q.bytes) k.1 ∙ ap (λ b. b ++ k.0.bytes) r.split;
      })

  -- of what waits a front was written
  pub front_cut : (h2 : Option (List ℕ)) → AppendsFront h h2 unsent → IfSome l0 (λ x. AppendsFront h0 h2 (report_rest run.format run.kernel run.budget run.first x).bytes)
  front_cut h2 b = some_map l0 _ _ front_now (λ x f. front_sent run.format run.kernel run.budget run.first h0 h h2 unsent x f b)

-- ---- one tick more

-- so it went, whatever the ticks before it were
pub record OnceMore (k : PlainKernel) (F F' : List TickInput → Type 0) (turn : TickInput) (o : Outcome) (values : Row) : Type 0 where
  pub outcome : (turns : List TickInput) → F turns → o ≡ (tick_after k turns turn).outcome
  pub outputs : (turns : List TickInput) → F turns → HasOutputs o → values ≡ (tick_after k turns turn).outputs
  pub follows : (turns : List TickInput) → F turns → F' (turns ++ turn ∷ [])

module _ {run : Run} {F : List TickInput → Type 0} {turns : List TickInput} {s : TickState} {now : Reader} {l0 l h0 h : Option (List ℕ)} {unsent : List ℕ} {how : Format} {row : ℕ} (r : Reached run F turns s now l0 l h0 h unsent how row)
    {new : Reader} {l' : Option (List ℕ)} {values : Row} (gave : Gave now new l l' values) {F' : List TickInput → Type 0} {o : Outcome} {outputs : Row} (once : OnceMore run.kernel F F' (turn_of run values) o outputs)
    (unsent' : List ℕ) (adds : (xs : Row) → (HasOutputs o → xs ≡ outputs) → unsent' ≡ unsent ++ outcome_lines how run.budget row o xs) where
  abbrev tick_now : Tick
  tick_now = tick run.kernel run.budget s values

  pub went_so : o ≡ tick_now.outcome
  went_so = outcome_at run.kernel turns (turn_of run values) s r.ticked.led o (once.outcome turns r.follows)

  told_so : HasOutputs o → outputs ≡ tick_now.outputs
  told_so has = outputs_at run.kernel turns (turn_of run values) s r.ticked.led outputs (once.outputs turns r.follows has)

  pub waits_so : unsent' ≡ unsent ++ tick_lines how run.budget row tick_now
  waits_so = adds tick_now.outputs (λ has. sym (told_so has)) ∙ ap (λ q. unsent ++ outcome_lines how run.budget row q tick_now.outputs) went_so

  -- it is the last one
  pub at_stop : (end : Status) → end ≡ status_after o → goes_on o ≡ false →
      IfSome l0 (Is run (printed_by run turns) (turns ++ turn_of run values ∷ []) (record { bytes = tick_lines how run.budget row tick_now; status = end }))
  at_stop end ends off =
      let all = turns ++ turn_of run values ∷ [] in
      let q : Report = record { bytes = tick_lines how run.budget row tick_now; status = end } in
      let stops = ap goes_on (sym went_so) ∙ off in
      told_some l0 l' (λ x z. Is run (printed_by run turns) all q x) (Is run (printed_by run turns) all q)
      (told_both l0 l l' (Leads run.format run.kernel run.budget run.first now turns (pace r)) (λ y z. trace_ahead now y ≡ onto (Ok values) (now.given + 1) (trace_ahead new z)) (λ x z. Is run (printed_by run turns) all q x) r.told gave.trace
      (λ x y z led there. record {
        report = led.report ∙ ap (λ t. behind_bytes (printed_by run turns) (report_from how run.kernel run.budget s row t)) there
            ∙ ap (behind_bytes (printed_by run turns)) (report_stops how run.kernel run.budget s row (now.given + 1) values (trace_ahead new z) stops)
            ∙ ap (λ (e : Status). behind_bytes (printed_by run turns) (record { bytes = tick_lines how run.budget row tick_now; status = e })) (ap status_after (sym went_so) ∙ sym ends);
        ran = led.ran ∙ ap (λ (t : Trace). turns ++ turns_from run.kernel run.budget s t.rows) there
            ∙ ap (λ ts. turns ++ ts) (turns_stop run.kernel run.budget s values (trace_ahead new z).rows stops);
      }))
      (λ x y i. i)

  pub whole_stop : (end : Status) → end ≡ status_after o → goes_on o ≡ false → IfSome l0 (IsWholeReport run.format run.kernel run.budget run.first F' h0 h unsent' end)
  whole_stop end ends off =
      whole_now r F' (turns ++ turn_of run values ∷ []) (record { bytes = tick_lines how run.budget row tick_now; status = end }) unsent' (at_stop end ends off) waits_so (once.follows turns r.follows)

  -- the program goes on
  pub reached_more : goes_on tick_now.outcome ≡ true → Reached run F' (turns ++ turn_of run values ∷ []) tick_now.state new l0 l' h0 h unsent' (format_after how tick_now.outputs) (row + 1)
  reached_more on =
      let printed = printed_then r.ticked values on in
      let lines = tick_lines how run.budget row tick_now in
      record {
        follows = once.follows turns r.follows;
        ticked = ticked_more r.ticked values on;
        stands = stands_more run.first row now new l l' values r.stands gave;
        sent = r.sent;
        appended = r.appended;
        split = printed ∙ ap (λ x. x ++ lines) r.split ∙ append_assoc r.sent unsent lines ∙ ap (λ x. r.sent ++ x) (sym waits_so);
        told = told_both l0 l l' (Leads run.format run.kernel run.budget run.first now turns (pace r)) _ _ r.told
            (told_and l l' _ _ gave.trace (takes_told gave.line now.held new.held new.ended l l' gave.takes)) (λ x y z led both.
            subst (λ (bs : List ℕ). Leads run.format run.kernel run.budget run.first new (turns ++ turn_of run values ∷ []) (record { state = tick_now.state; next = row + 1; form = new.form; format = format_after how tick_now.outputs; bytes = bs }) x z)
            (sym printed) (record {
              report = led.report ∙ ap (λ t. behind_bytes (printed_by run turns) (report_from how run.kernel run.budget s row t)) both.0
                  ∙ ap (behind_bytes (printed_by run turns)) (report_step how run.kernel run.budget s row (now.given + 1) values (trace_ahead new z) on)
                  ∙ behind_twice (printed_by run turns) lines (report_from (format_after how tick_now.outputs) run.kernel run.budget tick_now.state (row + 1) (trace_ahead new z));
              ran = led.ran ∙ ap (λ (t : Trace). turns ++ turns_from run.kernel run.budget s t.rows) both.0
                  ∙ ap (λ ts. turns ++ ts) (turns_on run.kernel run.budget s values (trace_ahead new z).rows on)
                  ∙ sym (append_assoc turns (turn_of run values ∷ []) (turns_from run.kernel run.budget tick_now.state (trace_ahead new z).rows));
              stays = λ e. led.stays (gave.stays e);
              taken = λ e. subst (λ (f : Form). Taken run.format run.kernel run.budget run.first new (record { state = tick_now.state; next = row + 1; form = f; format = format_after how tick_now.outputs; bytes = printed_by run turns ++ lines }) x z) (sym gave.form)
                  (taken_more run now new (pace r) gave.line values x y z (led.taken (gave.stays e)) (both.1 e) (sym (row_here run row now gave.line r.stands) ∙ gave.is) on);
            }));
      }

  -- a further tick is told so
  pub told_then : goes_on o ≡ true → (after : Format) → after ≡ format_after how outputs → after ≡ format_after how tick_now.outputs
  told_then on after later = later ∙ ap (format_after how) (told_so (subst HasOutputs (sym (paused o on)) tt))

-- all that waits was written, or a front of it
module _ (how : Format) (k : PlainKernel) (budget : ℕ) (first : Reader) (F : List TickInput → Type 0) (h0 h h2 : Option (List ℕ)) (waiting : List ℕ) (end : Status) (left : List ℕ) (w : IsWholeReport how k budget first F h0 h waiting end left) where
  pub whole_given : Appends h h2 waiting → Given (report_rest how k budget first left) end h0 h2
  whole_given a = record { status = w.status; bytes = subst (Appends h0 h2) (sym w.bytes) (appends_both h0 h h2 w.sent waiting w.appended a) }

  pub whole_front : AppendsFront h h2 waiting → AppendsFront h0 h2 (report_rest how k budget first left).bytes
  whole_front b = subst (AppendsFront h0 h2) (sym w.bytes) (front_behind h0 h h2 w.sent waiting w.appended b)

pub fell_since : (before mid now : ℕ) (d : Bool) → before ≤ mid → Fell mid now d → Fell before now d
fell_since before mid now d le f = let r = f.rose in record { rose = omega arith; down = f.down }

-- The reads of a trace, over a run.
use Rattle.std.specs.Io.KnownBytes.{Appends}
use Rattle.std.specs.List.{after_first}
use Rattle.std.proofs.Common.{◌≡◌, ℕ, ◌+◌, Bool, true, false, List, [], ◌∷◌, ◌++◌, Option, Some, Ok, refl, sym, ap, subst, ◌∙◌, append_assoc, append-nil}
use Rattle.forec_kernel.specs.Composed.{TickInput}
use Rattle.forec_kernel.specs.declared.shape.Outcome.{Outcome}
use Rattle.forec_kernel.specs.Shapes.{PlainKernel}
use Rattle.forec_kernel.specs.Ticks.{TickState, Fresh, tick, goes_on}
use Rattle.tick_jobs.specs.Outcomes.{HasOutputs}
use Rattle.trace_rows.specs.Lines.{is_newline, whole_lines}
use Rattle.trace_rows.specs.Reader.{Reader, HasLine, first_line}
use Rattle.trace_rows.specs.SourceReads.{ReadsBytes, none, more, Lacks, Reading, TakesHead, TakesRow}
use Rattle.trace_rows.specs.Trace.{Row, header_at, next_form, row_at, rows_from}
use Rattle.trace_ticks.specs.Ends.{GoesOn, ReadFor}
use Rattle.trace_ticks.specs.Formats.{opening, format_after}
use Rattle.trace_ticks.specs.declared.format.Format.{Format}
use Rattle.trace_ticks.specs.KernelNames.{input_names}
use Rattle.trace_ticks.specs.Progress.{GoesOnFrom}
use Rattle.trace_ticks.specs.Report.{Pace, advance, outcome_lines, printed_for, turns_from}
use Rattle.trace_ticks.proofs.Advancing.{advance_more, pace_after, turns_more}
use Rattle.trace_ticks.proofs.Heading.{printed_none, printed_rows}
use Rattle.trace_ticks.proofs.NextRows.{Gave}
use Rattle.trace_ticks.proofs.Running.{OnceMore, Reached, Run, Stands_at, reached_more, reached_sent, reached_start, row_here, told_then, turn_of, went_so}
use Rattle.trace_ticks.proofs.Splitting.{no_line, first_none, first_cut, whole_lines-line}

-- the ticks over these lines, which a run reads from its start
abbrev pub turns_read : Run → List (List ℕ) → List TickInput
turns_read run lines = turns_from run.kernel run.budget Fresh (rows_from run.first.limit run.first.form 1 lines).rows

-- the first line of bytes, and those after it
pub lines_behind : (bytes held rest : List ℕ) → HasLine bytes → held ≡ after_first is_newline bytes →
    whole_lines (bytes ++ rest) ≡ first_line bytes ∷ whole_lines (held ++ rest)
lines_behind bytes held rest has e =
    ap (λ b. whole_lines (b ++ rest)) (first_cut bytes has ∙ ap (λ h. first_line bytes ++ 10 ∷ h) (sym e))
    ∙ (ap whole_lines (append_assoc (first_line bytes) (10 ∷ held) rest) ∙ whole_lines-line (first_line bytes) (held ++ rest) (first_none bytes has))

-- the lines that a reader has taken, of those that it began with and the bytes that came: the ticks over them led the program to a pace
pub record Covers (run : Run) (now : Reader) (p : Pace) (turns : List TickInput) (given : List ℕ) : Type 0 where
  pub on : run.first.ended ≡ false
  pub lines : List (List ℕ)
  pub whole : (rest : List ℕ) → whole_lines (run.first.held ++ (given ++ rest)) ≡ lines ++ whole_lines (now.held ++ rest)
  pub led : advance run.first.limit run.format run.kernel run.budget run.first.form Fresh 1 lines ≡ Some p
  pub are : turns_read run lines ≡ turns

covers_more : {run : Run} {now new : Reader} {p : Pace} {turns : List TickInput} {given : List ℕ} → Covers run now p turns given → (came bytes : List ℕ) (values : Row) → bytes ≡ now.held ++ came → Stands_at run.first p.next now →
    p.form ≡ now.form → TakesRow now new values bytes → new.ended ≡ false → goes_on (tick run.kernel run.budget p.state values).outcome ≡ true →
    Covers run new (pace_after run.kernel run.budget p values) (turns ++ turn_of run values ∷ []) (given ++ came)
covers_more {run} {now} {new} {p} {turns} {given} c came bytes values behind at same takes e on =
    let is : row_at run.first.limit p.form p.next (first_line bytes) ≡ Ok values =
    ap (λ f. row_at run.first.limit f p.next (first_line bytes)) same ∙ sym (row_here run p.next now (first_line bytes) at) ∙ takes.row_is in
    record {
      on = c.on;
      lines = c.lines ++ first_line bytes ∷ [];
      whole = λ rest. ap (λ r. whole_lines (run.first.held ++ r)) (append_assoc given came rest) ∙ c.whole (came ++ rest)
          ∙ ap (λ r. c.lines ++ whole_lines r) (sym (append_assoc now.held came rest) ∙ ap (λ r. r ++ rest) (sym behind))
          ∙ ap (λ ls. c.lines ++ ls) (lines_behind bytes new.held rest (takes.takes.whole e) takes.takes.rest)
          ∙ sym (append_assoc c.lines (first_line bytes ∷ []) (whole_lines (new.held ++ rest)));
      led = advance_more run.first.limit run.format run.kernel run.budget run.first.form Fresh 1 c.lines p (first_line bytes) values c.led (record { row_is = is; on = on });
      are = turns_more run.first.limit run.format run.kernel run.budget run.first.form Fresh 1 c.lines p (first_line bytes) values c.led is ∙ ap (λ ts. ts ++ turn_of run values ∷ []) c.are;
    }

module _ {S : Type 0} (left : S → Option (List ℕ)) (faults : S → ℕ) (down : S → Bool) where
  -- reads after reads
  pub reads_then : (May Then : List ℕ → Type 0) (o t : S) (front : List ℕ) {x : List ℕ} {v : S} → ReadsBytes left faults down May o front t → ((x : List ℕ) → Then x → May (front ++ x)) →
      ReadsBytes left faults down Then t x v → ReadsBytes left faults down May o (front ++ x) v
  reads_then May Then o t front first f none = subst (λ x. ReadsBytes left faults down May o x t) (sym (append-nil front)) first
  reads_then May Then o t front first f (more {given} {piece} {s} {new} rest may read) =
      subst (λ y. ReadsBytes left faults down May o y new) (append_assoc front given piece) (more (reads_then May Then o t front first f rest) (f given may) read)

-- a further read may be made: the program goes on, and this is said of the ticks over what came
abbrev pub MayAsk : (List TickInput → Type 0) → Run → List ℕ → Type 0
MayAsk Runs run came = GoesOnFrom run.format run.kernel run.budget run.first came × Runs (turns_read run (whole_lines (run.first.held ++ came)))

-- a run at work: its ticks, what was printed for them, of which the last bytes aren't with the sink yet, and the reads of its trace
pub record Going {S : Type 0} (left : S → Option (List ℕ)) (faults : S → ℕ) (down : S → Bool) (Runs : List TickInput → Type 0) (run : Run) (Follows : List TickInput → Type 0) (now : Reader) (held_old held : Option (List ℕ)) (unsent : List ℕ) (how : Format)
    (row : ℕ) (old new : S) : Type 0 where
  pub turns : List TickInput
  pub state : TickState
  pub reached : Reached run Follows turns state now (left old) (left new) held_old held unsent how row
  pub pace : Pace
  pub same : pace.state ≡ state
  pub next : pace.next ≡ row
  pub form : pace.form ≡ now.form
  pub given : List ℕ
  pub reads : ReadsBytes left faults down (MayAsk Runs run) old given new
  pub covers : now.ended ≡ false → Covers run now pace turns given

pub going_start : {S : Type 0} (left : S → Option (List ℕ)) (faults : S → ℕ) (down : S → Bool) (Runs : List TickInput → Type 0) (run : Run) (F : List TickInput → Type 0) (held : Option (List ℕ)) (unsent : List ℕ) (s : S) → F [] →
    run.first.given ≡ 0 → unsent ≡ opening run.format → Going left faults down Runs run F run.first held held unsent run.format 1 s s
going_start left faults down Runs run F held unsent s f e z = record {
  turns = [];
  state = Fresh;
  reached = reached_start run F (left s) held unsent f e z;
  pace = record { state = Fresh; next = 1; form = run.first.form; format = run.format; bytes = [] };
  same = refl;
  next = refl;
  form = refl;
  given = [];
  reads = none;
  covers = λ e. record { on = e; lines = []; whole = λ rest. refl; led = refl; are = refl };
}

module _ {S : Type 0} {left : S → Option (List ℕ)} {faults : S → ℕ} {down : S → Bool} {Runs : List TickInput → Type 0} {run : Run} {F : List TickInput → Type 0} {now : Reader} {h0 h : Option (List ℕ)} {unsent : List ℕ} {how : Format} {row : ℕ} {old s : S}
    (a : Going left faults down Runs run F now h0 h unsent how row old s) where
  -- a front of what waited was sent
  pub going_sent : {h' : Option (List ℕ)} {unsent' : List ℕ} {after : Format} → after ≡ how → (sent : List ℕ) × Appends h h' sent × (unsent ≡ sent ++ unsent') → Going left faults down Runs run F now h0 h' unsent' after row old s
  going_sent same w = record {
    turns = a.turns;
    state = a.state;
    reached = reached_sent a.reached same w;
    pace = a.pace;
    same = a.same;
    next = a.next;
    form = a.form;
    given = a.given;
    reads = a.reads;
    covers = a.covers;
  }

  module _ (runs : (turns : List TickInput) → F turns → Runs turns) where
    -- a read may come where no line is there
    pub may_ask : (came : List ℕ) → (HasLine (now.held ++ came) → ⊥) → now.ended ≡ false → MayAsk Runs run (a.given ++ came)
    may_ask came lacks on =
        let c = a.covers on in
        let all : whole_lines (run.first.held ++ (a.given ++ came)) ≡ c.lines = c.whole came ∙ (ap (λ ls. c.lines ++ ls) (no_line (now.held ++ came) lacks) ∙ append-nil c.lines) in (
          (c.on, a.pace, ap (λ ls. advance run.first.limit run.format run.kernel run.budget run.first.form Fresh 1 ls) all ∙ c.led),
          subst Runs (sym (ap (turns_read run) all ∙ c.are)) (runs a.turns a.reached.follows),
        )

    -- what a call reads more
    pub going_reads : (t : S) (Took : List ℕ → Type 0) → Reading left faults down now.held now.ended s t Took → (given : List ℕ) × ReadsBytes left faults down (MayAsk Runs run) old given t
    going_reads t Took r = (a.given ++ r.1.given, reads_then left faults down (MayAsk Runs run) (λ came. Lacks (now.held ++ came) now.ended) old s a.given a.reads (λ came lacks. may_ask came lacks.0 lacks.1) r.1.reads)

    -- one more tick, after which the program goes on
    pub going_more : {new : Reader} (t : S) {values : Row} (gave : Gave now new (left s) (left t) values) → Reading left faults down now.held now.ended s t (TakesRow now new values) →
        {F' : List TickInput → Type 0} {o : Outcome} {outputs : Row} → OnceMore run.kernel F F' (turn_of run values) o outputs →
        (unsent' : List ℕ) → ((xs : Row) → (HasOutputs o → xs ≡ outputs) → unsent' ≡ unsent ++ outcome_lines how run.budget row o xs) → goes_on o ≡ true → (after : Format) → after ≡ format_after how outputs →
        Going left faults down Runs run F' new h0 h unsent' after (row + 1) old t
    unfolding going_reads
    going_more {new} t {values} gave r {F'} {o} {outputs} once unsent' adds paused after later =
        let T = tick run.kernel run.budget a.state values in
        let on : goes_on T.outcome ≡ true = ap goes_on (sym (went_so a.reached gave once unsent' adds)) ∙ paused in
        let at_pace = subst (λ (x : TickState). goes_on (tick run.kernel run.budget x values).outcome ≡ true) (sym a.same) on in
        let reads = going_reads t (TakesRow now new values) r in
        record {
          turns = a.turns ++ turn_of run values ∷ [];
          state = T.state;
          reached = subst (λ (f : Format). Reached run F' (a.turns ++ turn_of run values ∷ []) T.state new (left old) (left t) h0 h unsent' f (row + 1)) (sym (told_then a.reached gave once unsent' adds paused after later))
              (reached_more a.reached gave once unsent' adds on);
          pace = pace_after run.kernel run.budget a.pace values;
          same = ap (λ (x : TickState). (tick run.kernel run.budget x values).state) a.same;
          next = ap (λ m. m + 1) a.next;
          form = ap (λ f. next_form f values) a.form ∙ sym gave.form;
          given = reads.0;
          reads = reads.1;
          covers = λ e.
              covers_more (a.covers (gave.stays e)) r.1.given r.0 values r.1.behind (subst (λ m. Stands_at run.first m now) (sym a.next) a.reached.stands) a.form r.2 e at_pace;
        }

module _ {S : Type 0} (left : S → Option (List ℕ)) (faults : S → ℕ) (down : S → Bool) where
  -- the header, and the rows after it
  pub asked_all : (how : Format) (k : PlainKernel) (budget : ℕ) (inputs : List (List ℕ)) (first : Reader) (old s t : S) → inputs ≡ input_names k →
      Reading left faults down [] false old s (λ bytes. TakesHead inputs first.form bytes first.held first.ended) →
      (given : List ℕ) × ReadsBytes left faults down (GoesOnFrom how k budget first) s given t → ReadFor left faults down first.limit how k budget old t
  asked_all how k budget inputs first old s t e head rows =
      let g = head.1 in
      let h = head.2 in
      let is = ap (λ ns. header_at ns (first_line head.0)) (sym e) ∙ h.header in
      let before : ReadsBytes left faults down (GoesOn first.limit how k budget) old g.given s =
      reads_then left faults down (GoesOn first.limit how k budget) (λ came. Lacks ([] ++ came) false) old old [] none (λ came lacks. ([], ap (printed_for first.limit how k budget) (no_line came lacks.0) ∙ printed_none first.limit how k budget)) g.reads in (
        g.given ++ rows.0,
        reads_then left faults down (GoesOn first.limit how k budget) (GoesOnFrom how k budget first) old s g.given before
            (λ came on. (
              opening how ++ on.1.bytes,
              ap (λ b. printed_for first.limit how k budget (whole_lines (b ++ came))) (sym g.behind)
                  ∙ (ap (printed_for first.limit how k budget) (lines_behind head.0 first.held came (h.takes.whole on.0) h.takes.rest) ∙ printed_rows first.limit how k budget (first_line head.0) first.form (whole_lines (first.held ++ came)) on.1 is on.2),
            )) rows.1,
      )

  -- no header came
  pub asked_none : (limit : ℕ) (how : Format) (k : PlainKernel) (budget : ℕ) (old s : S) (Took : List ℕ → Type 0) → Reading left faults down [] false old s Took → ReadFor left faults down limit how k budget old s
  asked_none limit how k budget old s Took r = (
    r.1.given,
    reads_then left faults down (GoesOn limit how k budget) (λ came. Lacks ([] ++ came) false) old old [] none (λ came lacks. ([], ap (printed_for limit how k budget) (no_line came lacks.0) ∙ printed_none limit how k budget)) r.1.reads,
  )

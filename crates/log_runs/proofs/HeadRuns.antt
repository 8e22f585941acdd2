-- The header of a trace, and the ticks that are replayed after it.
use Rattle.std.proofs.Common.{◌≡◌, ◌≢◌, ℕ, Bool, false, List, [], ◌∷◌, ◌++◌, Option, Ok, Err, refl, sym, ap, subst, ◌∙◌, append_assoc}
use Rattle.std.specs.Option.{IfSome}
use Rattle.forec_kernel.specs.Composed.{TickInput}
use Rattle.forec_kernel.specs.Shapes.{PlainKernel}
use Rattle.trace_rows.specs.Calls.{IfTold}
use Rattle.trace_rows.specs.Lines.{whole_lines}
use Rattle.trace_rows.specs.Reader.{Reader, LacksLine, first_line}
use Rattle.trace_rows.specs.SourceReads.{ReadsBytes, none, Lacks, Reading, TakesHead}
use Rattle.trace_rows.specs.Trace.{header_at}
use Rattle.trace_ticks.specs.Ends.{GoesOn}
use Rattle.trace_ticks.specs.Formats.{opening}
use Rattle.trace_ticks.specs.KernelNames.{input_names}
use Rattle.trace_ticks.specs.Progress.{GoesOnFrom, Led, report_rest, turns_rest}
use Rattle.trace_ticks.specs.Report.{Report, printed_for, trace_report, trace_turns}
use Rattle.trace_ticks.specs.declared.format.Format.{Format}
use Rattle.trace_ticks.proofs.Asking.{lines_behind, reads_then}
use Rattle.trace_ticks.proofs.Heading.{Started, header_row, header_turns, printed_none, printed_rows}
use Rattle.trace_ticks.proofs.Splitting.{no_line, whole_lines-line, came_told, takes_told}
use Rattle.trace_ticks.proofs.Told.{told_and, told_both, told_map, told_some_both}
use Rattle.log_runs.specs.RootWalks.{turns_come, turns_given}
use Rattle.log_runs.proofs.LinesOver.{given_none, given_rows}

module _ (limit : ℕ) (how : Format) (k : PlainKernel) (b : ℕ) (inputs : List (List ℕ)) (same : inputs ≡ input_names k) where
  -- what holds of the ticks and the report after a header holds of all
  pub head_both : (r : Reader) (l l' : Option (List ℕ)) → Started limit inputs l l' r → (P : List TickInput → Report → Type 0) → IfSome l' (λ y. P (turns_rest k b r y) (report_rest how k b r y)) →
      IfSome l (λ x. P (trace_turns limit k b x) (trace_report limit how k b x))
  head_both r l l' n P g =
      told_some_both l l' _ _ _ n.trace g (λ x y is p.
      subst (λ (t : List TickInput). P t (trace_report limit how k b x)) (sym (header_turns limit how k b inputs same r x y is))
      (subst (λ (q : Report). P (turns_rest k b r y) q) (sym (header_row limit how k b inputs same r x y is)) p))

module _ (Runs : List TickInput → Type 0) (empty : Runs []) (limit : ℕ) (how : Format) (k : PlainKernel) (b : ℕ) where
  abbrev Given : List ℕ → List ℕ → Type 0
  Given x y = (given : List ℕ) × (x ≡ given ++ y) × Runs (turns_given limit k b given)

  abbrev May : List ℕ → Type 0
  May came = GoesOn limit how k b came × Runs (turns_given limit k b came)

  none_given : (came : List ℕ) → whole_lines came ≡ [] → Runs (turns_given limit k b came)
  none_given came e = subst Runs (sym (given_none limit k b came e)) empty

  -- the source failed before the header had come
  pub head_unread : (l l' : Option (List ℕ)) → (held : List ℕ) × LacksLine [] held false false l l' → IfTold l l' Given
  head_unread l l' n = told_map l l' _ Given (came_told [] n.0 l l' n.1.came) (λ x y e. (n.0, e, none_given n.0 (no_line n.0 n.1.none)))

  -- and behind it
  pub head_given : (inputs : List (List ℕ)) → inputs ≡ input_names k → (r : Reader) (l l' l2 : Option (List ℕ)) → Started limit inputs l l' r → r.limit ≡ limit → (bytes : List ℕ) → IfTold l' l2 (Led how k b r bytes) →
      IfTold l' l2 (λ x y. (given : List ℕ) × (x ≡ given ++ y) × Runs (turns_come k b r given)) → IfTold l l2 Given
  head_given inputs same r l l' l2 n most bytes led comes =
      let is = ap (λ ns. header_at ns n.header) (sym same) ∙ n.is in
      told_both l l' l2 _ _ Given (takes_told n.header [] r.held r.ended l l' n.takes) (told_and l' l2 _ _ led comes) (λ x y u cut both.
      let c = cut both.0.0 in
      let given = both.1.0 in
      let rest = r.held ++ given in
      let all = given_rows limit k b n.header r.form (n.header ++ 10 ∷ rest) rest (whole_lines-line n.header rest c.none) is in (
        n.header ++ 10 ∷ rest,
        c.bytes ∙ ap (λ w. n.header ++ 10 ∷ (r.held ++ w)) both.1.1 ∙ ap (λ w. n.header ++ 10 ∷ w) (sym (append_assoc r.held given u)) ∙ sym (append_assoc n.header (10 ∷ rest) u),
        subst Runs (sym all) (subst (λ (q : ℕ). Runs (turns_come k b (record r { limit = q }) given)) most both.1.2),
      ))

  module _ {S : Type 0} (left : S → Option (List ℕ)) (faults : S → ℕ) (down : S → Bool) where
    before_head : (old s : S) (given : List ℕ) → ReadsBytes left faults down (λ came. Lacks ([] ++ came) false) old given s → ReadsBytes left faults down May old given s
    before_head old s given r =
        reads_then left faults down May (λ came. Lacks ([] ++ came) false) old old [] none
        (λ came lacks. (([], ap (printed_for limit how k b) (no_line came lacks.0) ∙ printed_none limit how k b), none_given came (no_line came lacks.0))) r

    -- no header came
    pub reads_none : (old s : S) (Took : List ℕ → Type 0) → Reading left faults down [] false old s Took → (given : List ℕ) × ReadsBytes left faults down May old given s
    reads_none old s Took r = (r.1.given, before_head old s r.1.given r.1.reads)

    -- the header, and the rows after it
    pub reads_all : (inputs : List (List ℕ)) (r : Reader) (old s t : S) → inputs ≡ input_names k → r.limit ≡ limit →
        Reading left faults down [] false old s (λ bytes. TakesHead inputs r.form bytes r.held r.ended) →
        (given : List ℕ) × ReadsBytes left faults down (λ came. GoesOnFrom how k b r came × Runs (turns_come k b r came)) s given t → (given : List ℕ) × ReadsBytes left faults down May old given t
    reads_all inputs r old s t same most head rows =
        let g = head.1 in
        let h = head.2 in
        let is = ap (λ ns. header_at ns (first_line head.0)) (sym same) ∙ h.header in (
          g.given ++ rows.0,
          reads_then left faults down May (λ came. GoesOnFrom how k b r came × Runs (turns_come k b r came)) old s g.given (before_head old s g.given g.reads)
              (λ came on.
              let cut : whole_lines (g.given ++ came) ≡ first_line head.0 ∷ whole_lines (r.held ++ came) =
              ap (λ x. whole_lines (x ++ came)) (sym g.behind) ∙ lines_behind head.0 r.held came (h.takes.whole on.0.0) h.takes.rest in
              let goes : GoesOn r.limit how k b (g.given ++ came) = (
                opening how ++ on.0.1.bytes,
                ap (printed_for r.limit how k b) cut ∙ printed_rows r.limit how k b (first_line head.0) r.form (whole_lines (r.held ++ came)) on.0.1 is on.0.2,
              ) in (
                subst (λ (q : ℕ). GoesOn q how k b (g.given ++ came)) most goes,
                subst Runs (sym (given_rows limit k b (first_line head.0) r.form (g.given ++ came) (r.held ++ came) cut is))
                    (subst (λ (q : ℕ). Runs (turns_come k b (record r { limit = q }) came)) most on.1),
              )) rows.1,
        )
